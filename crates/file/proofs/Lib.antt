-- who goes over a file's pieces meets its records, each in its turn (`next_record`, `always_records`); a file read in blocks (`records_append`)
pub mod Walking
pub mod Examples
