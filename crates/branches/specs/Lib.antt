-- A Match's branches, as the image and one flag each tell of them, and the visits that a Match is put together of.
pub mod Branches
pub mod Told
pub mod Case
pub mod Cases
