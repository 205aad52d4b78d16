-- What import makes of what export writes, and the reverse.
pub mod RoundTrips
