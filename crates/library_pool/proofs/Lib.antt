pub mod PoolWays
mod GoodTypes
