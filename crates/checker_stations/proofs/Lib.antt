-- Laws that the proofs of the functions share.
mod InBlocks
mod Station
