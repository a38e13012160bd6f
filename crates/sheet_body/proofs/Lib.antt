-- Laws of a mesh and of a prism that were checked.
mod Bodies
