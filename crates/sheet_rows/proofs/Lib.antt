-- Laws of the kinds, of the counts and of rows that are made of fields, for the crates above.
pub mod KindLaws
pub mod Counts
pub mod RowMade
