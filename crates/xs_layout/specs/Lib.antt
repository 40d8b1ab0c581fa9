-- What the fields of a layout keep.
pub mod Rows
pub mod Cursor
