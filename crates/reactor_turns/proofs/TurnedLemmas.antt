-- A proactor in a turn and behind it: its time, what was told, and the count of faults.
use Rattle.std.proofs.Common.{◌≡◌, ℕ, Bool, Option, Some, None, refl, sym, ap, subst, ◌∙◌, ◌<◌, ◌≤◌, inl, inr, arith, []}
use Rattle.std.specs.Prelude.{IfSome}
use Rattle.session_script.specs.Script.{ScriptModel, act_of}
use Rattle.history_rules.specs.Requests.{reactor_after_take}
use Rattle.history_rules.specs.Rounds.{IsDrained}
use Rattle.history_rules.specs.State.{ReactorHalf}
use Rattle.reactor_trait.specs.Reactor.{Outside, ReactorState, state_at}
use Rattle.proactor_core.specs.Proactor.{Follows, ProactorView, after_point, moved_state}
use Rattle.proactor_core.specs.Tables.{TableState, slot_left}
use Rattle.reactor_turns.specs.Turned.{IsTelling, IsTurned, moved_half}
use Rattle.reactor_turns.proofs.ClockLemmas.{runs-last, runs-take, runs-tick, settled-clock}
use Rattle.std.proofs.lemmas.Bool.{cases_lt}
use Rattle.asio_types.specs.Faults.{Rose, most_faults}
use Rattle.asio_types.specs.declared.outside.Point.{Point}
use Rattle.asio_types.specs.declared.outside.Point.TheVariants as point
use Rattle.session_script.specs.declared.act.Act.{Act}
use Rattle.history_rules.specs.Performing.{performed, performed_by}
use Rattle.history_rules.specs.Time.{next_time}

-- a count that rose in a step rose since the count that is named
pub rose_since : (named old new : ℕ) → named ≤ old → old ≤ new → Rose old new → Rose named new
rose_since named old new least later rose less = elim (cases_lt old most_faults) [
  | inl within ↦ let more : old < new = rose within in omega (arith, least, more)
  | inr past ↦ omega (arith, less, past, later)
]

-- a take leaves the time as it is
pub now-take : (script : ScriptModel) (told : Bool) (r : ReactorHalf) (a : ℕ) →
    (reactor_after_take script told r a).now ≡ r.now
now-take script told r a = (settled-clock told (performed script a r)).now ∙ by_act (act_of script a) refl
  where
    by_act : (found : Option Act) → act_of script a ≡ found → (performed script a r).now ≡ r.now
    by_act None is = ap (λ f. (performed_by script a f r).now) is
    by_act (Some given) is =
        sym (settled-clock told (performed script a r)).now ∙ (runs-take script told r a given is).now

-- the reactor's time is that of the history after a time point, if it was before
pub now-point : (script : ScriptModel) (told : Bool) (point : Point) (old new : ReactorState) (half : ReactorHalf) →
    new ≡ state_at point old → old.now ≡ half.now → new.now ≡ (after_point script told point half).now
now-point script told (point.Time now) old new half is same =
    ap (λ (s : ReactorState). s.now) is ∙ sym (runs-tick script told half now).now
now-point script told point.Last old new half is same =
    ap (λ (s : ReactorState). s.now) is ∙ same ∙ sym (runs-last told half).now

pub now-moved : (script : ScriptModel) (told : Bool) (moved : Option Point) (old new : ReactorState) (half : ReactorHalf) →
    new ≡ moved_state moved old → old.now ≡ half.now → new.now ≡ (moved_half script told moved half).now
now-moved script told None old new half is same = ap (λ (s : ReactorState). s.now) is ∙ same
now-moved script told (Some point) old new half is same = now-point script told point old new half is same

-- the point at which a tick failed is the next one
pub next_moved : {X : Type 0} (told : X → Option Outside) (script : ScriptModel) (view : ProactorView X)
    (half : ReactorHalf) (moved : Option Point) → view.script ≡ script → Follows told view half →
    IfSome moved (λ point. (half : ReactorHalf) → Follows told view half → next_time view.script half ≡ point) →
    IfSome moved (λ point. next_time script half ≡ point)
next_moved told script view half None same follows to = tt
next_moved told script view half (Some point) same follows to = ap (λ s. next_time s half) (sym same) ∙ to half follows

pub still_works : (slot : Option ℕ) (op : ℕ) (s : TableState) → (slot_left slot op s).failed ≡ s.failed
still_works None op s = refl
still_works (Some slot) op s = refl

-- where nothing is due the turn was told whole
pub turned-none : {X : Type 0} (state : X → ReactorState) (told : X → Option Outside) (half : ReactorHalf)
    (view next : ProactorView X) → IsTelling state told half view → next ≡ view → view.tables.due.coming ≡ [] →
    ((half : ReactorHalf) → Follows told view half → half.due ≡ []) →
    ((half : ReactorHalf) → Follows told view half → IsDrained half) → IsTurned state told half next
turned-none state told half view next telling same coming over drained =
    subst (IsTurned state told half) (sym same) (record {
      telling = telling;
      told_all = coming;
      none_due = over half telling.follows;
      drained = drained half telling.follows;
    })
