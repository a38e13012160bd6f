-- Eight faces side by side: Faces. Parts is no part of the definition: it says what the arrays hold on the way, for the contracts of the inner functions. Held says both of structs.
pub mod Faces
pub mod Parts
pub mod Held
