pub mod Crc
pub mod Output
pub mod Digits
pub mod Report
pub mod Ppm
