-- The field of a polyhedron near it: EdgeFaceSums; which edges it counts, and that they are different: SumsLaws. Carried is no part of the definition: it says what the code holds, for the
-- contracts of its inner functions.
pub mod EdgeFaceSums
pub mod SumsLaws
pub mod Carried
