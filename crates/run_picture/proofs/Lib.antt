pub mod EscapedLemmas
