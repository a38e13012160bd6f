-- Laws of atan by lanes.
mod AtanLaw
