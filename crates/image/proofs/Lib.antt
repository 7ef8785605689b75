-- The laws that the functions' proofs cite, each file on those before it; and the theorems, that they are about the code, and one answer.
pub mod Numbers
pub mod Starts
pub mod InDepth
pub mod DepthTruth
pub mod ImageParts
pub mod Filling
pub mod Ranges
pub mod Calls
pub mod RoundTrip
pub mod Theorems
pub mod Contracts
pub mod OneAnswer
