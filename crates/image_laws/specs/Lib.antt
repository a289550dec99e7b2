-- What reading an image has shown where it accepts: the outlines by place, and each kind's words.
pub mod OutlineAt
pub mod Many
pub mod RecordWords
