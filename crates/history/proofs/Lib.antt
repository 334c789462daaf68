pub mod Membership
pub mod Choosing
pub mod Orders
pub mod Gathering
pub mod Tables
pub mod Keeping
pub mod Running
