-- What the contracts of reading packages cite besides the library's definitions.
pub mod Ready
