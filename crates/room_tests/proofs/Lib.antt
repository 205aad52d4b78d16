-- Which forms can lack room, and in which books; what an account offers.
mod Growth
mod Between
mod Roomy
mod Offered
