-- what is left of one word that is written
mod Answers
