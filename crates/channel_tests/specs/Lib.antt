pub mod Losing
pub mod Stacks
pub mod Relaying
-- lemmas for the laws that the implementations show
pub mod Stacking
