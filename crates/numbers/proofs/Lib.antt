-- The law that the proofs of the numbers cite, and that there is one answer.
pub mod Made
pub mod OneAnswer
