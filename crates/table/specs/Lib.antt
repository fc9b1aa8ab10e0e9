-- What the contracts of `table` say beyond the rules: where in memory a part of the text lies.
pub mod Parts
