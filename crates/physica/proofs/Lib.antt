-- Where the rows of a sheet end, and what the calls on sheets say by the number that they return.
mod RowsPlace
mod InNumbers
