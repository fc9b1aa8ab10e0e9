-- Laws of numbers and lines as they are written and read. Turns has the invariants of the loops that read, Places and Signs what the
-- code's tests say, Digits and Appending what is put.
pub mod Decimals
pub mod Lines
pub mod Turns
pub mod Places
pub mod Signs
pub mod Appending
pub mod Digits
