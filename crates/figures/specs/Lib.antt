-- What a C program is told, as words.
pub mod Figures
