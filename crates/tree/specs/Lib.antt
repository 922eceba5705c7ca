pub mod Sizes
pub mod Ranges
pub mod Walk
pub mod Tree
pub mod Renewal
