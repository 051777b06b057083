pub mod AnswerLemmas
pub mod CountLemmas
pub mod CourseLemmas
pub mod FeedingLemmas
pub mod ReactorLemmas
pub mod RunLemmas
pub mod SizedLemmas
pub mod WantLemmas
