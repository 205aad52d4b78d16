-- a pattern, byte by byte
mod Filling
