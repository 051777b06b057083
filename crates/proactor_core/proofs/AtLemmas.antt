-- At which half of a history's state a proactor is, and what that says of bytes where the reactor tells them.
use Rattle.std.proofs.Common.{◌≡◌, ℕ, Bool, false, List, ◌∷◌, Option, Some, None, refl, sym, ap, subst, ◌∙◌}
use Rattle.std.specs.Option.{IfSome}
use Rattle.session_script.specs.Script.{act_of}
use Rattle.stream_rules.specs.declared.queue.Completion.{Completion}
use Rattle.stream_rules.specs.World.{lines_after}
use Rattle.history_rules.specs.Requests.{disconnected, reactor_after_done, slot_in, told_off}
use Rattle.history_rules.specs.State.{ReactorHalf}
use Rattle.reactor_trait.specs.Reactor.{Outside}
use Rattle.proactor_core.specs.Due.{Due}
use Rattle.proactor_core.specs.Proactor.{IsAt, ProactorView}
use Rattle.proactor_core.specs.Tables.{TableState, slot_left, with_tables}
use Rattle.proactor_core.specs.Works.{with_works}
use Rattle.proactor_core.proofs.FollowingLemmas.{follows}
use Rattle.proactor_core.proofs.SoundLemmas.{after_telling}

-- the view with these tables
abbrev pub tabled : {X : Type 0} → TableState → ProactorView X → ProactorView X
tabled s view = record view { tables = s }

-- what the clock of a proactor's reactor shows
abbrev pub clock_of : TableState → ℕ × Bool
clock_of s = (s.time, s.last)

-- the tables alone change, as the half does
pub tables-step : {X : Type 0} (told : X → Option Outside) (view : ProactorView X) (s : TableState)
    (half after : ReactorHalf) → s.time ≡ view.tables.time →
    with_tables s (with_works view.tables view.streams half) ≡ after → IsAt told view half →
    IsAt told (tabled s view) after
tables-step told view s half after time step is =
    subst (IsAt told (tabled s view)) step (record {
      works = refl;
      count = is.count;
      told_count = is.told_count;
      bytes = is.bytes;
      lines =
          subst
          (λ (now : ℕ).
          IfSome (told view.reactor)
          (λ (outside : Outside). outside.lines ≡ lines_after now view.script.world.lines)) (sym time) is.lines;
    })

slot-time : (slot : Option ℕ) (op : ℕ) (s : TableState) → (slot_left slot op s).time ≡ s.time
slot-time None op s = refl
slot-time (Some slot) op s = refl

-- the head of what is due was told
pub follows-told : {X : Type 0} (told : X → Option Outside) (view : ProactorView X) (slot : Option ℕ)
    (head : Completion) (due : Due) (half : ReactorHalf) → slot ≡ slot_in (act_of view.script head.op) →
    view.tables.due.coming ≡ head ∷ due.coming → IsAt told view half →
    IsAt told (after_telling view slot head.op due) (reactor_after_done view.script half head.op)
follows-told told view slot head due half plug coming is =
    let s : TableState = record view.tables { due = due } in
    let first : ReactorHalf = record half { due = due.coming; whole_turn = false } in
    let at : IsAt told (tabled s view) first = record {
      works =
          ap (λ (h : ReactorHalf). let new : ReactorHalf = record h { due = due.coming; whole_turn = false } in new) is.works;
      count = is.count;
      told_count = is.told_count;
      bytes = is.bytes;
      lines = is.lines;
    } in
    let heads : half.due ≡ head ∷ due.coming = sym (ap (λ (h : ReactorHalf). h.due) is.works) ∙ coming in
    let off : record (told_off view.script head.op half half.due) { whole_turn = false } ≡ first =
    ap (λ (d : List Completion).
    let new : ReactorHalf = record (told_off view.script head.op half d) { whole_turn = false } in new) heads in
    let after : disconnected head.op slot first ≡ reactor_after_done view.script half head.op =
    ap (λ p. disconnected head.op p first) plug
    ∙ ap (disconnected head.op (slot_in (act_of view.script head.op))) (sym off) in
    let step = (follows view.script s (with_works s view.streams first)).disconnect slot head.op in
    tables-step told (tabled s view) (slot_left slot head.op s) first (reactor_after_done view.script half head.op)
    (slot-time slot head.op s) (step ∙ ap (disconnected head.op slot) at.works ∙ after) at
