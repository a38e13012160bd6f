-- The field of a rectangular prism in closed form.
pub mod CornerSums
