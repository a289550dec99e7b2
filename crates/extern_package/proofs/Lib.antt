-- The returns of the functions.
mod FunctionReturns
mod PackageReturns
