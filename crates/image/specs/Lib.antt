-- What the contracts cite, from the bytes of a number up to whole images. A reader may go through these files in this order.
pub mod Bytes
pub mod Depths
pub mod Image
pub mod Reading
pub mod Calls
