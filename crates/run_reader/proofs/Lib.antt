pub mod BufferLemmas
pub mod ReaderLemmas
