-- Laws of `check_mesh`: `Laws` and, for 1, 2, 12, 3 and 4, `EarlyLaws`, that it accepts and refuses exactly where document 01's words (mesh/specs/Accepted, `Refused`) say so;
-- `ClosedLaws`; and `Tetrahedron`, what it answers for the reference tetrahedron. `Smallest`, `Chain` and `LateCauses` are steps towards `Laws`.
pub mod Refused
pub mod ClosedLaws
pub mod Smallest
pub mod Chain
pub mod LateCauses
pub mod Tetrahedron
