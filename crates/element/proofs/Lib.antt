pub mod Writes
pub mod Rules
pub mod Orders
