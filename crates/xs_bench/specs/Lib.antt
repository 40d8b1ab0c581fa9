-- The words of the command line and the lines of a table.
pub mod Words
