pub mod Forward
pub mod KindLemmas
