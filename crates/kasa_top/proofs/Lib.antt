pub mod Written
pub mod WordLemmas
pub mod FetchedLemmas
pub mod DueLemmas
pub mod OneOutcome
