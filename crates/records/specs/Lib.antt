pub mod Shown
pub mod Gathering
pub mod Rows
