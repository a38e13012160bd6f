-- Laws of groups of faces.
mod ClearGroups
