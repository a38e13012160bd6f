-- Laws of atan2 by lanes; of atan for the crates above.
pub mod AtanLaw
