pub mod TextsSame
pub mod Bits
