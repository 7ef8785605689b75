-- The laws that the calls' proofs cite, each file on those before it.
pub mod Refusals
pub mod Numbered
pub mod OneSaid
pub mod Stores
pub mod TakeOne
pub mod GiveOne
pub mod Ranges
pub mod GiveRuns
pub mod RunCases
pub mod RunOfOne
