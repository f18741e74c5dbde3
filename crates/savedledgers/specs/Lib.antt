pub mod Numbers
pub mod Saved
pub mod SavedReading
pub mod SavedWriting
pub mod SavedRoundTrip
