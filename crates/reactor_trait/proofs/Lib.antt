pub mod ReactorLemmas
