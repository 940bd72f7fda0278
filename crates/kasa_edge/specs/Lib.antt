pub mod Causes
pub mod Shelf
pub mod ShelfMem
pub mod SinkMem
