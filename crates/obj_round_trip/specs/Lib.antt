-- That a mesh written as text and read again is the same mesh, in `RoundTrip`; `Example` shows that its conditions can be met. The other files are steps towards it.
pub mod Numerals
pub mod Wholes
pub mod Numbers
pub mod WrittenLines
pub mod AllLines
pub mod WrittenText
pub mod RoundTrip
pub mod Example
