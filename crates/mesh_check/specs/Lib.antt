-- What the functions under `check_mesh` owe. The definition of `check_mesh` itself is in mesh/specs/Check, and what it means in mesh_laws/specs.
pub mod CheckOrder
pub mod CheckedMates
