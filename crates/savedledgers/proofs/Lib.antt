mod Numbers
mod Entries
pub mod SavedReading
pub mod SavedWriting
pub mod SavedRoundTrip
