pub mod Rows
pub mod Sounds
pub mod Drawing
pub mod Rasters
pub mod Frames
