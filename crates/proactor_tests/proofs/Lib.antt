mod TimedLemmas
