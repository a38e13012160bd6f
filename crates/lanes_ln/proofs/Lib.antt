-- Laws of ln by lanes.
mod Whole
mod SplitPattern
mod LnLaw
