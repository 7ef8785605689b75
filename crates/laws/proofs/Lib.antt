-- The theorems: demand 1 (Kept, Refused), what changes do to true maps (Effects, FreedRun, OneMap), what a single change leaves alone
-- (Stops, Singles), demand 2 (AsSets, RunsExist, Exact, Lowest, TwoWays), demand 3 (SetOrder, Order, RunsLast), that they are about the code
-- (Contracts, Exported), one answer, P1 to P12.
pub mod Kept
pub mod Refused
pub mod Effects
pub mod FreedRun
pub mod OneMap
pub mod Stops
pub mod AsSets
pub mod RunsExist
pub mod Exact
pub mod Lowest
pub mod TwoWays
pub mod Singles
pub mod SetOrder
pub mod Order
pub mod RunsLast
pub mod Contracts
pub mod Exported
pub mod OneAnswer
pub mod Examples
