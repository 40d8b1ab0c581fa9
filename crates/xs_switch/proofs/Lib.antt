pub mod AreaLemmas
pub mod SwitchLemmas
