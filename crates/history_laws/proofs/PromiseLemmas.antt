-- Each legal history keeps its promise.
use Rattle.std.proofs.Common.{Bool, List, subst}
use Rattle.asio_types.specs.declared.event.Event.{Event}
use Rattle.session_script.specs.Script.{ScriptModel}
use Rattle.session_script.specs.WellFormed.{IsWellFormed}
use Rattle.history_rules.specs.Legal.{IsLegal, IsLegalSoFar}
use Rattle.history_laws.specs.Promise.{KeepsPromise}
use Rattle.history_laws.proofs.CancelLemmas.{heeded}
use Rattle.history_laws.proofs.LawLemmas.{alone, follows, once}
use Rattle.history_laws.proofs.LengthLemmas.{short}
use Rattle.history_laws.proofs.OrderLemmas.{in_order}
use Rattle.history_laws.proofs.OrderedLemmas.{keep_time}
use Rattle.history_laws.proofs.RoundLemmas.{close_once}
use Rattle.history_laws.proofs.StopLemmas.{heeded as stops_heeded}
use Rattle.history_laws.proofs.StreamLemmas.{keep_bytes}
use Rattle.history_laws.proofs.TimerLawLemmas.{aborted}

pub keeps : (script : ScriptModel) (told : Bool) (events : List Event) → IsWellFormed script →
    IsLegal script told events → KeepsPromise script told events
keeps script told events well legal = record {
  once = once script well told events legal.legal legal.whole.spent;
  after_completion = follows script well told events legal.legal;
  alone = alone script well told events legal.legal;
  in_order = in_order script well told events legal.legal;
  after_stop = stops_heeded script well told events legal.legal;
  closes_once = close_once script well told events legal.legal legal.whole.over;
  cancelled = record {
    aborted = aborted script well told events legal.legal;
    heeded = heeded script well told events legal.legal;
  };
  timers = keep_time script well told events legal.legal;
  streams = λ tells. keep_bytes script well events (subst (λ told. IsLegalSoFar script told events) tells legal.legal);
  length = short script well told events legal.legal;
}
