pub mod SeatedLemmas
