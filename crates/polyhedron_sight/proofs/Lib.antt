-- Laws of what a station sees of eight faces.
mod Terms
mod Seeing
