pub mod Raster
pub mod Sound
pub mod Clip
pub mod Frame
pub mod Redrawn
