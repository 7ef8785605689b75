-- The public calls as data, and what the theorems say of them: what a contract comes to, a plain set of positions, the order of two maps,
-- what a single change leaves alone, and document 01's examples. A reader may go through these files in this order.
pub mod Call
pub mod Does
pub mod Sets
pub mod AsSet
pub mod Order
pub mod Above
pub mod Examples
