-- What the numbers of a line are.
pub mod Numbers
