-- What a channel and its proactor tell changes no script.
use Rattle.std.proofs.Common.{◌≡◌, Option, Some, None, ap}
use Rattle.std.specs.Prelude.{IfNone, IfSome}
use Rattle.reactor_trait.specs.Reactor.{Outside}
use Rattle.proactor_core.specs.Proactor.{ProactorView}
use Rattle.chan_core.specs.Timed.{TellsNext, TimedView}
use Rattle.chan_core.specs.declared.timed_done.TimedDone.{TimedDone}
use Rattle.chan_core.specs.declared.timed_done.TimedDone.TheVariants as timed_done

module _ {X : Type 0} (told : X → Option Outside) (old new : TimedView X) where
  told_script : (done : TimedDone) → TellsNext told done old new → new.proactor.script ≡ old.proactor.script
  told_script (timed_done.Chan done) tells = ap (λ (v : TimedView X). v.proactor.script) tells.others
  told_script (timed_done.Io op ended size) tells = ap (λ (p : ProactorView X). p.script) tells.others

  pub same_script : (next : Option TimedDone) → IfSome next (λ done. TellsNext told done old new) →
      IfNone next (new ≡ old) → new.proactor.script ≡ old.proactor.script
  same_script None some none = ap (λ (v : TimedView X). v.proactor.script) none
  same_script (Some done) some none = told_script done some
