-- Lists of numbers: how often a number stands in one, sorting by a key, and the first number that passes a test.
pub mod Count
pub mod Sort
pub mod First
pub mod CountingSort
