-- What holds in the midst of loops: nothing that a reader of the public clauses needs.
pub mod Ask
pub mod Makes
pub mod Stops
pub mod Search
