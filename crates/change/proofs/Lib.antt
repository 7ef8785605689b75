-- The laws of changes, each file on those before it.
pub mod Spans
pub mod Renewed
pub mod Turn
pub mod Changes
pub mod Fills
pub mod Borders
pub mod One
pub mod Singles
pub mod GiveOnes
pub mod Stages
pub mod Climb
pub mod TakenWay
pub mod TrueWay
pub mod Walk
pub mod Leaves
pub mod GiveBacks
