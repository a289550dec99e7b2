-- Adding types to the types buffer: what answers mean, a Record added in parts, the pool; and the laws of added types.
pub mod Answer
pub mod Parts
pub mod Pool
pub mod ShallowBy
pub mod StepLaws
pub mod WriteLaws
pub mod PartsLaws
pub mod PoolLaws
pub mod Means
pub mod AddLaws
pub mod AllocLaws
pub mod Goes
pub mod KindLaws
