pub mod Parallel
pub mod Partners
pub mod Sought
