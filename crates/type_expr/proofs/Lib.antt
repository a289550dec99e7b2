mod Returns
mod Reading
mod FieldReturns
mod BuildReturns
mod DeepReturns
