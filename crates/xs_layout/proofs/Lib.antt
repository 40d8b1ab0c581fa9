pub mod CursorLemmas
pub mod FieldLemmas
