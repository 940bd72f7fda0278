pub mod Limit
pub mod Growing
pub mod Steps
pub mod Reads
pub mod Pairs
pub mod Readers
pub mod System
pub mod Bounds
