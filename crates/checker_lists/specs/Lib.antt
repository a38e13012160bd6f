-- The checker's causes in stages.
pub mod Stages
