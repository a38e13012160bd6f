-- The stages of the checker after the opening.
pub mod Later
