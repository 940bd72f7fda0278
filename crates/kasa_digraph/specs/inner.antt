-- What holds in the midst of loops: nothing that a reader of the public clauses needs.
pub mod Cycle
pub mod Flood
pub mod Search
pub mod Weigh
