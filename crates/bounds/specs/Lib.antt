pub mod Forest
pub mod Member
pub mod Sound
pub mod Reached
