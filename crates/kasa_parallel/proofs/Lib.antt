pub mod RowBonds
pub mod PartnerLemmas
pub mod StandLists
pub mod SearchLemmas
pub mod SeenLemmas
pub mod FoundLemmas
