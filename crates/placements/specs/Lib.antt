pub mod Shown
pub mod Gathering
