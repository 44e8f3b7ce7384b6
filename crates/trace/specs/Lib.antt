-- From a printed value up to the reading of a request, and what is printed.
pub mod Figures
pub mod Request
pub mod Reader
pub mod Marks
pub mod Csv
