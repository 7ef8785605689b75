-- What the contracts of the calls cite, and what a contract means. A reader may go through these files in this order.
pub mod Answer
pub mod Calls
pub mod Ways
pub mod Maps
pub mod Contract
