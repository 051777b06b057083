-- What an execution shows of what it holds, and a receipt of a call.
use Rattle.std.proofs.Common.{ap, refl, sym, ◌∙◌}
use Rattle.std.specs.Prelude.{◌≡◌, ◌||◌, ℕ, Bool, true, false, List, ◌∷◌, Option, Some, None}
use Rattle.io_rules.specs.declared.event.Event.{Event}
use Rattle.io_rules.specs.declared.name.Lane.{Lane}
use Rattle.io_rules.specs.declared.spares.Spares.{Spares}
use Rattle.io_rules.specs.History.{calls}
use Rattle.io_history.specs.declared.view.Held.{Held}
use Rattle.io_scheduler.specs.Running.{IsExecution}
use Rattle.io_scheduler.specs.Told.{is_call_in}

pub on_its_lane : (op : ℕ) (at : Lane) (own : Bool) (grant : ℕ) (spares : Spares) (is : Option Held) →
    IsExecution op at own grant spares is → (held : Held) → is ≡ Some held → held.is.lane ≡ at
on_its_lane op at own grant spares None runs held same = absurd runs
on_its_lane op at own grant spares (Some other) runs held same =
    let one : other ≡ held = cc in ap (λ (h : Held). h.is.lane) (sym one) ∙ runs.on

or_true : (b : Bool) → (b || true) ≡ true
or_true true = refl
or_true false = refl

-- what came last is among these events, and so is what came before
pub call_told : (op : ℕ) (e : Event) (past told : List Event) → told ≡ e ∷ past → calls op e ≡ true →
    is_call_in op told ≡ true
call_told op e past told is calls_it =
    ap (is_call_in op) is ∙ ap (λ b. b || is_call_in op past) calls_it

pub call_still_told : (op : ℕ) (e : Event) (past told : List Event) → told ≡ e ∷ past → is_call_in op past ≡ true →
    is_call_in op told ≡ true
call_still_told op e past told is told_before =
    ap (is_call_in op) is ∙ ap (λ b. calls op e || b) told_before ∙ or_true (calls op e)
