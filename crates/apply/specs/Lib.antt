-- Putting types for slots, of type words; and what the new words mean.
pub mod Apply
pub mod StepLaws
pub mod ApplyLaws
pub mod TreeLaws
pub mod BoundLaws
pub mod Sizes
pub mod SizeLaws
pub mod Setting
