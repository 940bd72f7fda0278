pub mod ListLemmas
pub mod AgendaLemmas
pub mod SumLemmas
pub mod TurnLemmas
