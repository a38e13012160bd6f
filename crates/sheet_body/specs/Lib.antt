-- The causes of refusal of a body.
pub mod BodyChecked
