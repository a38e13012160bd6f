-- The states of a block of eight stations. No part of a field's definition: they say what the code holds, for the contracts of inner functions.
pub mod Blocks
