pub mod PlainLemmas
pub mod RowSets
pub mod NumberLemmas
pub mod PostLemmas
pub mod IndexLemmas
pub mod RootLemmas
pub mod SearchLemmas
