-- Looks at the cells of a lane one after another: they draw nothing and take nothing in.
use Rattle.std.proofs.Common.{◌≡◌, ℕ, ◌+◌, List, [], ◌∷◌, Option, refl, ap, arith}
use Rattle.std.specs.Prelude.{map}
use Rattle.lane_clock.specs.declared.note.Note.{Note}
use Rattle.lane_clock.specs.Steps.{draw_count, place_count, step_count}
use Rattle.lane_logs.specs.Knowing.{joined_count}
use Rattle.lane_logs.specs.Labels.{entries_in, steps_in}
use Rattle.lane_logs.specs.OpenerLog.{Looked, look_label}
use Rattle.lane_turns.specs.Receipts.{looks_from}

pub looks_quiet : (n lane place : ℕ) (seen : List (Option Note)) →
    joined_count n (steps_in (looks_from lane place seen)) ≡ 0
looks_quiet n lane place [] = refl
looks_quiet n lane place (held ∷ seen) = looks_quiet n lane (place + 1) seen

pub looks_draw_none : (lane place : ℕ) (seen : List (Option Note)) →
    step_count draw_count (steps_in (looks_from lane place seen)) ≡ 0
looks_draw_none lane place [] = refl
looks_draw_none lane place (held ∷ seen) =
    let rest = looks_draw_none lane (place + 1) seen in omega (arith, rest)

pub looks_place_none : (lane place : ℕ) (seen : List (Option Note)) →
    step_count place_count (steps_in (looks_from lane place seen)) ≡ 0
looks_place_none lane place [] = refl
looks_place_none lane place (held ∷ seen) =
    let rest = looks_place_none lane (place + 1) seen in omega (arith, rest)

pub looks_show_none : (lane place : ℕ) (seen : List (Option Note)) → entries_in (looks_from lane place seen) ≡ []
looks_show_none lane place [] = refl
looks_show_none lane place (held ∷ seen) = looks_show_none lane (place + 1) seen

-- what was looked at
abbrev pub looked_from : ℕ → ℕ → List (Option Note) → List Looked
looked_from lane place [] = []
looked_from lane place (held ∷ seen) =
    record { lane = lane; place = place; held = held } ∷ looked_from lane (place + 1) seen

pub as_looked : (lane place : ℕ) (seen : List (Option Note)) →
    looks_from lane place seen ≡ map look_label (looked_from lane place seen)
as_looked lane place [] = refl
as_looked lane place (held ∷ seen) =
    ap (λ labels. look_label (record { lane = lane; place = place; held = held }) ∷ labels)
    (as_looked lane (place + 1) seen)
