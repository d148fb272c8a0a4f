mod Keeps
pub mod Standing
