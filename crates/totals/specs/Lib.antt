pub mod Ends
pub mod Spans
