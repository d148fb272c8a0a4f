mod Inverses
pub mod Taking
pub mod Props
