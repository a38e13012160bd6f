-- A sheet put together of its parts.
pub mod Put
