pub mod History
pub mod Picture
pub mod Object
pub mod Buffer
pub mod Callback
pub mod Entry
pub mod Laws
