pub mod Insert
pub mod Post
pub mod Index
