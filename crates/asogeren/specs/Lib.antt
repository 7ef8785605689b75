-- What the contracts of the calls as C has them cite, beside the definitions of the calls themselves.
pub mod Crossed
