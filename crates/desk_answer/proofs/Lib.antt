-- Laws of what is printed: hits one behind the other, what building and asking come to, what was read; and that there is one output.
pub mod Listing
pub mod Asking
pub mod Building
pub mod Readings
pub mod Outcomes
