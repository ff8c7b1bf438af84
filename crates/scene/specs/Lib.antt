pub mod SceneLine
pub mod Scene
pub mod Items
pub mod Fits
