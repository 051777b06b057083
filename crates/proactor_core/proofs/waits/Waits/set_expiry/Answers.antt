use Rattle.std.proofs.Common.{◌≡◌, ◌≢◌, ℕ, List, not, true, ap, sym, subst, arith}
use Rattle.std.specs.List.{All}
use Rattle.std.proofs.lemmas.Bool.Decides.{nat_tests}
use Rattle.std.proofs.lemmas.List.Elements.{All-weaker, filter_passes}
use Rattle.history_rules.specs.Performing.{is_wait_of}
use Rattle.history_rules.specs.declared.wait.Wait.{Wait}
use Rattle.proactor_core.specs.Waits.{Waiting}
use Rattle.proactor_core.proofs.waits.Waits.set_expiry.Goals as goal

of-another : (timer : ℕ) (wait : Wait) → not (is_wait_of timer wait) ≡ true → wait.timer ≢ timer
of-another timer wait passes = λ same. grind (arith, nat_tests)

pub put_expiry-requires-clause-none : goal.put_expiry-requires-clause-none
put_expiry-requires-clause-none c =
    let P : List Wait → Type 0 = All (λ wait. not (is_wait_of c.args.timer wait) ≡ true) in
    let passes =
    subst P (sym (ap (λ (w : Waiting). w.waits) c.cancel_timer.ensures.waits))
    (filter_passes (λ wait. not (is_wait_of c.args.timer wait)) c.args.self.now.waits) in
    All-weaker (λ wait. not (is_wait_of c.args.timer wait) ≡ true) (λ wait. wait.timer ≢ c.args.timer)
    (of-another c.args.timer) c.cancel_timer.new.self.waits passes
