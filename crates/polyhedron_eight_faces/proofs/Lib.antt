-- Laws of eight faces that are added to the field.
mod Adding
