pub mod Parted
pub mod Digits
pub mod Stars
