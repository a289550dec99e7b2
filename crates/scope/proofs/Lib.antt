mod EnvWays
mod OwnWays
mod HeldWays
