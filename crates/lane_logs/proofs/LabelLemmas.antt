-- Labelled steps one after another.
use Rattle.std.proofs.Common.{◌≡◌, List, [], ◌∷◌, ◌++◌, refl, ap}
use Rattle.lane_logs.specs.Labels.{Labelled, silent, shows, allots, entries_in, steps_in, step_of}

pub steps-append : (xs ys : List Labelled) → steps_in (xs ++ ys) ≡ steps_in xs ++ steps_in ys
steps-append [] ys = refl
steps-append (x ∷ xs) ys = ap (λ steps. step_of x ∷ steps) (steps-append xs ys)

pub entries-append : (xs ys : List Labelled) → entries_in (xs ++ ys) ≡ entries_in xs ++ entries_in ys
entries-append [] ys = refl
entries-append (silent step ∷ xs) ys = entries-append xs ys
entries-append (shows shown changes found ∷ xs) ys =
    ap (λ entries. record { position = found.clock; event = shown } ∷ entries) (entries-append xs ys)
entries-append (allots act lane place ∷ xs) ys = entries-append xs ys
