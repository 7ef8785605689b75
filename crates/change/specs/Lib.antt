-- What the changes make of a map. A reader may go through these files in this order.
pub mod Renew
pub mod Change
pub mod Single
pub mod GiveBack
