-- What stands beside the functions' own proofs.
pub mod OneAnswer
