pub mod Order
pub mod OneVerdict
pub mod FirstLemmas
pub mod Ascending
pub mod PairLemmas
pub mod ClosedLemmas
pub mod SomeVerdict
