-- What is taken of images from outside, and what they answer, one file a noun; what they are stands in xs_base.
pub mod User
pub mod Parts
pub mod Restored
pub mod Answer
