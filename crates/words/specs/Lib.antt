pub mod Bytes
pub mod Kinds
pub mod Shown
pub mod Texts
pub mod Records
pub mod Seen
