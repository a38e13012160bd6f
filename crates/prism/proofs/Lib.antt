-- For the proofs here: one step of the recursion.
mod Step
