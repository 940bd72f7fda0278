pub mod Graph
pub mod Weight
pub mod FirstCycle
pub mod inner
