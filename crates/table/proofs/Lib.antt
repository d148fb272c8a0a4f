pub mod Standing
mod Grown
