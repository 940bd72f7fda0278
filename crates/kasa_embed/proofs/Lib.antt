pub mod RouteLemmas
pub mod SearchLemmas
