-- Laws of whole inputs as they are written and read, of the columns as they are laid out, and of what reading promises.
pub mod Inputs
pub mod Layouts
pub mod Readings
pub mod Scheme
