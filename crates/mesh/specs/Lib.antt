-- `check_mesh`: normals and volume, the causes of refusal, and what an accepted mesh is.
pub mod Surface
pub mod Check
pub mod Accepted
pub mod CauseLaws
