mod Lowering
pub mod Naming
