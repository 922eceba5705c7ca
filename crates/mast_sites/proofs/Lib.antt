mod Zips
mod Trees
