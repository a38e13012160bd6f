-- The first causes of refusal.
pub mod LengthsCause
