-- The laws of words and maps that every crate above may cite, each file on those before it.
pub mod Tests
pub mod Search
pub mod Below
pub mod Levels
pub mod Rows
pub mod Within
pub mod Bits
pub mod Words
pub mod Parts
pub mod Path
pub mod Truth
pub mod Turns
pub mod Places
pub mod OnWay
pub mod Index
