-- Which way the field of a rectangular prism, or of a piece of one, is taken: by cubature, by corner sums, or by halves (Choice); what its orders and its longest axis are (ChoiceLaws).
pub mod Choice
pub mod ChoiceLaws
