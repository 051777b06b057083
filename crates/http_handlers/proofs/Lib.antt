mod AnswersLemmas
mod HeadsLemmas
mod RequestsLemmas
mod ConnectionsLemmas
