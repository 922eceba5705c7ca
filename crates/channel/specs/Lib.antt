pub mod Links
pub mod Packets
pub mod Queues
pub mod Couriers
-- lemmas for the model of a packet, and for the laws that the implementations show
pub mod Padding
pub mod Members
pub mod Queueing
pub mod Picking
