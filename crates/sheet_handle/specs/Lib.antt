-- The handle on a sheet: where it stands, and what it gives.
pub mod RowAfterRow
pub mod Laws
