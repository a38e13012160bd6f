-- What the scans read and compare.
mod Compare
mod Mates
mod Pairs
