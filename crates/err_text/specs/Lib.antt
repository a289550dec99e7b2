-- Definitions and laws of the rest of the message buffer, and of the pieces that a message is made of.
pub mod Rest
pub mod Pieces
pub mod RestLaws
