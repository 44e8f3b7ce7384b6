-- Lemmas of the reader.
mod Reading
