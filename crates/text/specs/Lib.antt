pub mod Bytes
pub mod Trims
pub mod Lines
pub mod Dedents
pub mod Escapes
