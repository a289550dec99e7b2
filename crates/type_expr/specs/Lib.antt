-- What the functions that read type expressions ask for, the type expressions by the words of their records, how many words they add,
-- and how deep they are.
pub mod Ready
pub mod Trees
pub mod Shape
pub mod TypesAt
pub mod Sizes
pub mod SizeLaws
pub mod LevelLaws
pub mod Onward
