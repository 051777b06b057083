-- No strand is at the place of a name that is kept for a handler.
use Rattle.std.proofs.Common.{ap, subst, sym, ◌∙◌}
use Rattle.std.proofs.Math.ListN.{get_or-map}
use Rattle.std.specs.Prelude.{◌≡◌, ℕ, ◌==◌, Bool, true, false, List, [], ◌∷◌, ◌++◌, Option, None, Some, map, if◌then◌else◌}
use Rattle.std.specs.List.{slice_index_or}
use Rattle.io_rules.specs.declared.name.Name.{Name}
use Rattle.io_rules.specs.declared.op.Op.{Op}
use Rattle.io_rules.specs.declared.op.Phase.{Phase}
use Rattle.io_rules.specs.declared.place.Place.{Place}
use Rattle.io_rules.specs.Executions.{spares_in}
use Rattle.io_rules.specs.Names.{no_place, place_at}
use Rattle.io_rules.specs.Ops.{op_at, phase_changed, without}
use Rattle.io_scheduler.specs.Shown.{IsUnusedSpare, SparesUnused, is_used_place}

-- where the used places are the same
pub used_at : (old new : List Place) (p : ℕ) → map is_used_place new ≡ map is_used_place old →
    is_used_place (place_at new p) ≡ is_used_place (place_at old p)
used_at old new p are =
    sym (get_or-map is_used_place new p no_place) ∙ ap (λ xs. slice_index_or xs p false) are
    ∙ get_or-map is_used_place old p no_place

-- where no place is used that wasn't
abbrev pub UsesLess : List Place → List Place → Type 0
UsesLess old new =
    (k : ℕ) → is_used_place (place_at old k) ≡ false → is_used_place (place_at new k) ≡ false

spare_fewer : (old new : List Place) (spare : Option Name) → UsesLess old new → IsUnusedSpare old spare →
    IsUnusedSpare new spare
spare_fewer old new None less unused = tt
spare_fewer old new (Some name) less unused = less name.place unused

pub spares_fewer : (old new : List Place) (ops : List Op) → UsesLess old new → SparesUnused old ops →
    SparesUnused new ops
spares_fewer old new [] less unused = tt
spares_fewer old new (op ∷ ops) less unused =
    (spare_fewer old new (spares_in op.phase).strand less unused.0, spares_fewer old new ops less unused.1)

pub spares_less : (old new : List Place) (ops : List Op) → map is_used_place new ≡ map is_used_place old →
    SparesUnused old ops → SparesUnused new ops
spares_less old new ops are unused = spares_fewer old new ops (λ k isnt. used_at old new k are ∙ isnt) unused

pub spares_push : (places : List Place) (ops : List Op) (op : Op) → SparesUnused places ops →
    IsUnusedSpare places (spares_in op.phase).strand → SparesUnused places (ops ++ op ∷ [])
spares_push places [] op unused own = (own, tt)
spares_push places (x ∷ ops) op unused own = (unused.0, spares_push places ops op unused.1 own)

changed_here : (places : List Place) (p : Phase) (x : Op) (ops rest : List Op) (b : Bool) →
    SparesUnused places (x ∷ ops) → SparesUnused places rest → IsUnusedSpare places (spares_in p).strand →
    SparesUnused places (if b then record x { phase = p } ∷ ops else x ∷ rest)
changed_here places p x ops rest true unused later own = (own, unused.1)
changed_here places p x ops rest false unused later own = (unused.0, later)

pub spares_changed : (places : List Place) (n : ℕ) (p : Phase) (ops : List Op) → SparesUnused places ops →
    IsUnusedSpare places (spares_in p).strand → SparesUnused places (phase_changed n (λ op. p) ops)
spares_changed places n p [] unused own = tt
spares_changed places n p (x ∷ ops) unused own =
    changed_here places p x ops (phase_changed n (λ op. p) ops) (x.number == n) unused
    (spares_changed places n p ops unused.1 own) own

-- a change that leaves what is kept for each, or uses it
pub spares_kept : (places : List Place) (n : ℕ) (g : Op → Phase) → ((op : Op) → IsUnusedSpare places (spares_in op.phase).strand →
    IsUnusedSpare places (spares_in (g op)).strand) →
    (ops : List Op) → SparesUnused places ops → SparesUnused places (phase_changed n g ops)
spares_kept places n g less [] unused = tt
spares_kept places n g less (x ∷ ops) unused =
    changed_here places (g x) x ops (phase_changed n g ops) (x.number == n) unused
    (spares_kept places n g less ops unused.1) (less x unused.0)

without_here : (places : List Place) (x : Op) (ops rest : List Op) (b : Bool) → SparesUnused places (x ∷ ops) →
    SparesUnused places rest → SparesUnused places (if b then ops else x ∷ rest)
without_here places x ops rest true unused later = unused.1
without_here places x ops rest false unused later = (unused.0, later)

pub spares_without : (places : List Place) (n : ℕ) (ops : List Op) → SparesUnused places ops →
    SparesUnused places (without n ops)
spares_without places n [] unused = tt
spares_without places n (x ∷ ops) unused =
    without_here places x ops (without n ops) (x.number == n) unused (spares_without places n ops unused.1)

at_here : (places : List Place) (x it : Op) (at : Option Op) (b : Bool) → IsUnusedSpare places (spares_in x.phase).strand →
    (if b then Some x else at) ≡ Some it → (at ≡ Some it → IsUnusedSpare places (spares_in it.phase).strand) →
    IsUnusedSpare places (spares_in it.phase).strand
at_here places x it at true own found later =
    let it_is : x ≡ it = cc in subst (λ (y : Op). IsUnusedSpare places (spares_in y.phase).strand) it_is own
at_here places x it at false own found later = later found

pub spare_at : (places : List Place) (n : ℕ) (ops : List Op) (it : Op) → SparesUnused places ops →
    op_at ops n ≡ Some it → IsUnusedSpare places (spares_in it.phase).strand
spare_at places n [] it unused found = absurd (cc)
spare_at places n (x ∷ ops) it unused found =
    at_here places x it (op_at ops n) (x.number == n) unused.0 found (spare_at places n ops it unused.1)
