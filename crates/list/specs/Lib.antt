pub mod Appended
pub mod Written
pub mod Place
pub mod Bounded
