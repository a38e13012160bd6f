-- Eight faces side by side, added to the field.
pub mod EightFaces
pub mod ClearLaws
pub mod Held
