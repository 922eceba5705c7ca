pub mod Bytes
pub mod Model
pub mod Order
pub mod Ruled
pub mod Pairs
pub mod Refusals
pub mod Tables
-- lemmas for the laws that the implementations show
pub mod Numbers
pub mod PairsLemmas
