-- What a task lacks for the tiles; what leave and growth are stands in xs_base.
pub mod Need
