pub mod Registers
pub mod Masks
pub mod Sets
pub mod Counters
pub mod Cards
-- lemmas for the laws that the implementations show
pub mod Unions
pub mod RegistersLemmas
pub mod SetsLemmas
pub mod CountersLemmas
