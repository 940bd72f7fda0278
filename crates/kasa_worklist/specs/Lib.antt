pub mod Sums
pub mod System
pub mod Counts
pub mod Agenda
pub mod Turn
