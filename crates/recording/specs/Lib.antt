pub mod Content
pub mod Choice
pub mod Message
pub mod Paint
pub mod CallLine
pub mod Line
pub mod Recording
