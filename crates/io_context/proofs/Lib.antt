mod InvokedLemmas
mod LawLemmas
mod SleepLemmas
