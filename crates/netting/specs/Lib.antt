-- Which of the due trades a cycle fixes.
-- the rounds, by marks
pub mod Rounds
-- the figures that go with marks
pub mod Figured
-- what is selected
pub mod Selected
