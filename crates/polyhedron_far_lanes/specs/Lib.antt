-- Fields at eight stations side by side.
pub mod EightFields
