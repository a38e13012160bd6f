-- The far fields of a block of eight stations.
pub mod Far
