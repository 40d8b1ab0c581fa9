-- What the calls on register sets write; what the sets are stands in xs_base.
pub mod Legacy
