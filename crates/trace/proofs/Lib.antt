pub mod Marks
pub mod Unique
pub mod Tiling
