-- Laws of the terms, for the crates above.
pub mod EitherWay
