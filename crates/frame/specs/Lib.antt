pub mod Frames
pub mod Decoding
pub mod Kinds
pub mod Views
