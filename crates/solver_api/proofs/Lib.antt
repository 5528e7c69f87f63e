pub mod PartLemmas
pub mod EngineLemmas
pub mod Lists
pub mod StandingLemmas
pub mod RecheckLemmas
