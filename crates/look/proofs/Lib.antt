-- The laws of look-ups, each file on those before it.
pub mod Checked
pub mod Nexts
pub mod Ends
pub mod LeafRows
pub mod Descent
pub mod Leading
pub mod LowestFree
pub mod Runs
