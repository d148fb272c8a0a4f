pub mod Claims
pub mod Gaps
pub mod Stretches
