-- The heading and the day.
pub mod DayLine
