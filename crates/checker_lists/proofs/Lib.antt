-- What is known of a sheet's lists once they are read; `Lists` is for the crates above too.
pub mod Lists
mod Limits
