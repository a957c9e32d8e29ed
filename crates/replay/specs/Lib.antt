pub mod Plays
pub mod Sayings
pub mod Scripts
pub mod Shown
pub mod Words
