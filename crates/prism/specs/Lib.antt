-- The field of a rectangular prism, or its refusal.
pub mod Prism
pub mod PrismRefusals
pub mod StationNumber
pub mod NoTies
