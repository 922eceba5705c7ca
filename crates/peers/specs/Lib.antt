pub mod Calls
pub mod Pairs
pub mod Runs
pub mod Promise
pub mod Unmades
pub mod States
