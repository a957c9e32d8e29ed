mod Ascii
mod Counts
