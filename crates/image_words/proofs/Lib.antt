pub mod Lists
pub mod TokenLaws
