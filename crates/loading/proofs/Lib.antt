mod Appending
mod Cursors
pub mod InOrder
mod OneByOne
