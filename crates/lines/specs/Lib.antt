-- What the line program prints, from the bytes of the input up. A reader may go through these files in this order.
pub mod Text
pub mod Split
pub mod Number
pub mod Line
pub mod Reply
pub mod Session
