-- Laws of Carlson's integrals, of ln, atan and atan2, and of the complete elliptic integrals.
pub mod RoundsTaken
pub mod SixRounds
pub mod ArgumentsOfRc
pub mod AtMostSix
pub mod PrincipalValue
pub mod AbovePole
pub mod NotBelowZero
pub mod ThreeInOrder
pub mod InnerRj
pub mod CelAsWritten
pub mod ConstantsAreNearest
pub mod WorkedExamples
