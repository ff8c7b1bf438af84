pub mod Showing
pub mod Readback
