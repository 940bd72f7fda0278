pub mod Lacked
pub mod Verdict
pub mod Search
