pub mod Contact
pub mod Order
pub mod StepGraph
pub mod Species
pub mod Verdict
pub mod inner
