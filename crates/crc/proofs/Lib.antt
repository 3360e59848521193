mod Ends
mod Entries
mod Linear
