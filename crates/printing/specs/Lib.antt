-- What the printing program prints, what it prints as held, and an example.
pub mod Printed
pub mod HeldPrinted
pub mod FiveLines
