-- What a look-up answers where that is more than a number.
pub mod Leads
