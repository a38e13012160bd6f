-- What the exported calls return and write.
pub mod Exported
pub mod Sheets
