-- What the contracts of the readers of node records cite.
pub mod Site
