pub mod ListLemmas
pub mod NumberLemmas
pub mod KeptLemmas
pub mod StepLemmas
pub mod AfterLemmas
