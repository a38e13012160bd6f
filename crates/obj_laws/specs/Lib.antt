-- What the laws of `read_obj` and `write_obj` say: which line is the first bad one, which texts are read, which lists are written, and which bytes are.
pub mod FirstLine
pub mod Readable
pub mod Writable
pub mod WrittenBytes
