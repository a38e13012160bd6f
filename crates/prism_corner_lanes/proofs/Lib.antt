-- Laws of the corners side by side.
mod CornersMade
