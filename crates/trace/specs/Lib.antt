pub mod Letters
pub mod Names
pub mod Format
pub mod Refusals
pub mod Reading
