-- What holds in the midst of loops: nothing that a reader of the public clauses needs.
pub mod Written
pub mod Head
pub mod OpenLine
pub mod Taking
