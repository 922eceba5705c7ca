pub mod Cases
pub mod Tables
pub mod Pairs
pub mod Samples
