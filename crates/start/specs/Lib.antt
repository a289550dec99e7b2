-- The walk up to its roots, and every library type measured.
pub mod Begin
pub mod Measured
