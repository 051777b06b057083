pub mod AnswerLemmas
pub mod ConditionLemmas
pub mod HandlerLemmas
