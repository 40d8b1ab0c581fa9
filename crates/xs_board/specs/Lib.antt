-- The board and the turns that it hands out, one file a noun.
pub mod Laws
pub mod Turn
pub mod Starts
pub mod Home
pub mod Member
pub mod Birth
pub mod Deed
pub mod Putting
pub mod Trapping
pub mod Opening
pub mod Board
pub mod Taken
pub mod Follows
pub mod FollowsLaws
