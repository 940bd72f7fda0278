-- What holds in the midst of loops: nothing that a reader of the public clauses needs.
pub mod Runs
pub mod Shown
pub mod Mixed
pub mod Written
