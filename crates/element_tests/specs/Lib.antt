pub mod Peaks
-- lemmas for the laws that the implementations show
pub mod Peaking
