pub mod Lines
pub mod Walks
pub mod Commands
pub mod Fitting
pub mod Loads
