-- Windows by tests of the form.
mod Windows
