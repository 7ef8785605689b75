-- The laws that the functions' proofs cite, and the theorems: what is printed of a number (Small), parts of an input (InParts), that they
-- are about the code (Contracts), one answer.
pub mod Splits
pub mod Numbers
pub mod Decimal
pub mod Fields
pub mod Puts
pub mod Replies
pub mod Cases
pub mod Small
pub mod Sessions
pub mod Whole
pub mod InParts
pub mod Contracts
pub mod OneAnswer
