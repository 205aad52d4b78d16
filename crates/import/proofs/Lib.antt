-- lines that are read block after block
mod Laws
