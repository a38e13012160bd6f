-- Bulirsch's general complete elliptic integral.
pub mod Bulirsch
