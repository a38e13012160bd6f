-- The result sheet: what it is made from, its bytes, what the writer and the checker answer, and demand 3. Definitions only; crate sheet_laws has the proofs.
pub mod Input
pub mod Bytes
pub mod Writer
pub mod Checker
pub mod Promises
pub mod Demand3
