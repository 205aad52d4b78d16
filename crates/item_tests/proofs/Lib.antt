-- The item that a cancel names.
mod Cancel
