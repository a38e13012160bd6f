-- Laws that the proofs share.
mod Fields
mod Chunks
mod WrittenLines
mod GivenCauses
mod WholeText
