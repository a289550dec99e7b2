-- What a node without visits asks for, and its rule by kinds.
pub mod Leaves
