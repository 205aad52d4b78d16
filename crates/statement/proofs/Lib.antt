-- a walk over a file in parts, each printed before the next
mod Parts
