pub mod PrimeLemmas
