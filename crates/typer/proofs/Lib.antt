-- What the answers of one function use.
mod Fits
