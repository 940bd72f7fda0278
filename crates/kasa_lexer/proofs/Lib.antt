pub mod RunLemmas
pub mod BlankLemmas
pub mod NumberLemmas
pub mod ClassLemmas
pub mod TokenLemmas
pub mod FrontLemmas
pub mod OutcomeLemmas
pub mod CoverLemmas
