pub mod Ends
pub mod Events
pub mod Numbers
