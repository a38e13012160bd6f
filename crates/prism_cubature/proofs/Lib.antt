-- The rule of an order, for the proofs here.
mod Given
