-- How the check ends.
pub mod Ended
pub mod Numbers
