pub mod KindLemmas
