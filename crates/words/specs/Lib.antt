-- What a map is and what is seen in it, from the bits of a word up. A reader may go through these files in this order.
pub mod Search
pub mod Below
pub mod Bits
pub mod Turn
pub mod Sizes
pub mod Tree
pub mod Place
pub mod Take
pub mod Run
