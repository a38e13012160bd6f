-- Numbers as bytes.
pub mod LittleEndian
pub mod Parts
pub mod WorkedExamples
pub mod Doubles
