pub mod CompletingLemmas
pub mod MemberLemmas
pub mod EachCompletesLemmas
pub mod TaskLemmas
pub mod ElementLemmas
pub mod OrderLemmas
pub mod ReportLemmas
