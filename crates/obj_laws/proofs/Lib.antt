-- Laws of `read_obj` and `write_obj`: `FirstLine`, which line decides; `ReadLaws` and `WriteLaws`, where they have no cause of refusal; `Indices`, which indices name a vertex; `TextLaws`,
-- what is written; `Examples`. `Magnitudes`, `LineCounts` and `Numerals` are steps towards them.
pub mod FirstLine
pub mod Magnitudes
pub mod LineCounts
pub mod Indices
pub mod ReadLaws
pub mod WriteLaws
pub mod Numerals
pub mod TextLaws
pub mod Examples
