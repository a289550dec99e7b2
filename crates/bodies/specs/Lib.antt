-- Node::Fn around its body.
pub mod Bodies
pub mod BodyLaws
