-- Laws of faces side by side, for the crates above; those of rows of sides are for this crate alone.
pub mod FillingVectors
pub mod SidesMade
mod FillingRows
