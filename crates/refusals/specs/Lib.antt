-- Refusals: their numbers and values, and causes tried in order.
pub mod Numbers
pub mod Causes
pub mod Answer
