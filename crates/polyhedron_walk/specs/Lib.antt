-- The walk over the faces by groups. No part of a field's definition: it says what the code adds, for the contracts of inner functions.
pub mod Groups
