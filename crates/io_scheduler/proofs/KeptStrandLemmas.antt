-- In each legal history the name of a strand that is kept for a handler is kept for it alone, at a place where no
-- strand is.
use Rattle.std.proofs.Common.{arith, ap, refl, subst, sym, ◌∙◌, ⊎_elim}
use Rattle.std.proofs.lemmas.Bool.{cases_lt, true≢false}
use Rattle.std.proofs.lemmas.List.{get_or_past}
use Rattle.std.specs.Prelude.{◌≡◌, ◌<◌, ◌≤◌, ℕ, ◌-◌, ◌==◌, nat_lt, Bool, true, false, List, [], ◌∷◌, Option, Some, None, length, if◌then◌else◌}
use Rattle.asio_types.specs.declared.code.Code.TheVariants as code
use Rattle.io_rules.specs.declared.control.Control.{Control}
use Rattle.io_rules.specs.declared.control.Control.TheVariants as control
use Rattle.io_rules.specs.declared.event.Event.{Event}
use Rattle.io_rules.specs.declared.event.Event.TheVariants as event
use Rattle.io_rules.specs.declared.limits.Limits.{Limits}
use Rattle.io_rules.specs.declared.name.Kind.{Kind}
use Rattle.io_rules.specs.declared.name.Kind.TheVariants as kind
use Rattle.io_rules.specs.declared.name.Lane.{Lane}
use Rattle.io_rules.specs.declared.name.Lane.TheVariants as lane
use Rattle.io_rules.specs.declared.name.Name.{Name}
use Rattle.io_rules.specs.declared.op.Op.{Op}
use Rattle.io_rules.specs.declared.op.Phase.{Phase}
use Rattle.io_rules.specs.declared.op.Phase.TheVariants as phase
use Rattle.io_rules.specs.declared.place.Life.{Life}
use Rattle.io_rules.specs.declared.place.Life.TheVariants as life
use Rattle.io_rules.specs.declared.place.Place.{Place}
use Rattle.io_rules.specs.declared.spares.Spares.{Spares}
use Rattle.io_rules.specs.Cancelling.{ops_cancelled}
use Rattle.io_rules.specs.Calls.{caller_lane, first_phase}
use Rattle.io_rules.specs.Changes.{MayChangeTo, MayMake, has_spare, is_kept, is_there, names_changed, ops_changed, place_freed, reached, spare_used}
use Rattle.io_rules.specs.Executions.{granted_more, spares_in, spares_of}
use Rattle.io_rules.specs.Legal.{IsLegal, state_of}
use Rattle.io_rules.specs.Names.{is_closing, is_current, is_leaving, is_living, is_unused, no_place, place_at, with_life}
use Rattle.io_rules.specs.Ops.{is_at, is_ready, is_running, lane_at, op_at}
use Rattle.io_rules.specs.Room.{at_op, grant_of, granted_in, more_granted, one_if, place_given, place_given_by}
use Rattle.io_rules.specs.Spares.{MayKeep, first_of_two, is_spare, with_life_of}
use Rattle.io_rules.specs.State.{ContextState}
use Rattle.io_rules.specs.Strands.{entry_of, is_last_on, strand_freed}
use Rattle.io_rules.proofs.KeptLemmas.{spare_at, spared}
use Rattle.io_rules.proofs.MoveLemmas.{dropping}
use Rattle.io_rules.proofs.RoomLemmas.{first_calm}
use Rattle.io_rules.proofs.ShareLemmas.{IsCalm, weighed, weighed-called, weighed-cancelled, weighed-changed, weighed-done, weighed-told, weighed-without}
use Rattle.io_rules.proofs.StrandLemmas.{both, same-name}
use Rattle.io_rules.proofs.TotalLemmas.{found, same, share, total, total-kept_of}
use Rattle.io_scheduler.specs.Shown.{is_used, is_used_place}
use Rattle.io_scheduler.proofs.KeptNamesLemmas.{KeptAt, at_most, closing_not, differ, gives_back, is_kept_life, keeps_more, living_not, none_kept, not_kept_still, set_keeps, unused_not, used_place}

calm_spared : (p : ℕ) → IsCalm (spared p)
calm_spared p n a b one other = none a one ∙ sym (none b other)
  where
    none : (a : Phase) → is_running a ≡ false → spare_at p (spares_in a).strand ≡ 0
    none (phase.Pending moved cancelled) is = refl
    none (phase.Settled code size) is = refl
    none (phase.Ready code size) is = refl
    none (phase.Running own grant spares) is = absurd (true≢false is)

-- the strand of the last operation is forgotten
freed_behind : (p many : ℕ) (s : ContextState) (spare : Option Name) (on : Lane) (last : Bool) → is_last_on s on ≡ last →
    KeptAt p many (with_life_of life.Free spare s.names.strands) →
    KeptAt p many (strand_freed last on (with_life_of life.Free spare s.names.strands))
freed_behind p many s spare on false is kept = kept
freed_behind p many s spare lane.Own true is kept = kept
freed_behind p many s spare (lane.Strand m) true is kept =
    let leaving = (both (is_leaving s.names.strands m) _ is).one in
    let closing = (both (is_current s.names.strands m) (is_closing (place_at s.names.strands m.place).life) leaving).other in
    used_place p many (with_life_of life.Free spare s.names.strands) m _
    (not_kept_still life.Free s.names.strands spare m.place refl (closing_not (place_at s.names.strands m.place).life closing)) kept

-- calls leave the spares
spare_given : (p : ℕ) (a : Phase) → spare_at p (spares_in (place_given a)).strand ≡ spare_at p (spares_in a).strand
spare_given p (phase.Pending moved cancelled) = refl
spare_given p (phase.Settled code size) = refl
spare_given p (phase.Ready code size) = refl
spare_given p (phase.Running own grant spares) = by_grant (nat_lt 0 grant)
  where
    by_grant : (b : Bool) →
        spare_at p
        (spares_in (if b then phase.Running own (grant - 1) spares else phase.Running false 0 spares)).strand ≡
        spare_at p spares.strand
    by_grant true = refl
    by_grant false = refl

total_given : (p : ℕ) (by : Option ℕ) (ops : List Op) →
    total (weighed (spared p)) (place_given_by by ops) ≡ total (weighed (spared p)) ops
total_given p by ops =
    total-kept_of (weighed (spared p)) by (λ op. place_given op.phase) (λ op. spare_given p op.phase) ops

ready_none : (p : ℕ) (a : Phase) → is_ready a ≡ true → spare_at p (spares_in a).strand ≡ 0
ready_none p (phase.Ready code size) is = refl
ready_none p (phase.Pending moved cancelled) is = absurd (true≢false (sym is))
ready_none p (phase.Settled code size) is = absurd (true≢false (sym is))
ready_none p (phase.Running own grant spares) is = absurd (true≢false (sym is))

calm_none : (p n : ℕ) (a : Phase) → is_running a ≡ false → spared p n a ≡ 0
calm_none p n a isnt = calm_spared p n a (phase.Ready code.Ok 0) isnt refl

-- a handler that is granted more
granted_spares : (more : ℕ) (taken : Spares) (a : Phase) → is_running a ≡ true →
    (spares_in (granted_more more taken a)).strand ≡ first_of_two (spares_in a).strand taken.strand
granted_spares more taken (phase.Running own grant spares) is = refl
granted_spares more taken (phase.Pending moved cancelled) is = absurd (true≢false (sym is))
granted_spares more taken (phase.Settled code size) is = absurd (true≢false (sym is))
granted_spares more taken (phase.Ready code size) is = absurd (true≢false (sym is))

-- what a handler makes it has a spare for, which is used then
abbrev is_strand_kind : Kind → Bool
is_strand_kind kind.Strand = true
is_strand_kind _ = false

other_spare : (p : ℕ) (of : Kind) (a : Phase) → is_strand_kind of ≡ false →
    spare_at p (spares_in (spare_used of a)).strand ≡ spare_at p (spares_in a).strand
other_spare p of (phase.Pending moved cancelled) is = refl
other_spare p of (phase.Settled code size) is = refl
other_spare p of (phase.Ready code size) is = refl
other_spare p kind.Timer (phase.Running own grant spares) is = refl
other_spare p kind.Slot (phase.Running own grant spares) is = refl
other_spare p kind.Stream (phase.Running own grant spares) is = refl
other_spare p kind.Listener (phase.Running own grant spares) is = refl
other_spare p kind.Strand (phase.Running own grant spares) is = absurd (true≢false is)

total_other : (p : ℕ) (of : Kind) (name : Name) (by : Option ℕ) (ops : List Op) → is_strand_kind of ≡ false →
    total (weighed (spared p)) (ops_changed by (control.Make of name) ops) ≡ total (weighed (spared p)) ops
total_other p of name by ops is =
    total-kept_of (weighed (spared p)) by (λ op. spare_used of op.phase) (λ op. other_spare p of op.phase is) ops

used_spare : (p : ℕ) (name : Name) (a : Phase) → has_spare kind.Strand name a ≡ true →
    (spare_at p (spares_in a).strand ≡ one_if (name.place == p)) × (spare_at p (spares_in (spare_used kind.Strand a)).strand ≡ 0)
used_spare p name (phase.Running own grant spares) is = (by_spare spares.strand is, refl)
  where
    by_spare : (spare : Option Name) → is_spare name spare ≡ true → spare_at p spare ≡ one_if (name.place == p)
    by_spare None is = absurd (true≢false (sym is))
    by_spare (Some spare) is = ap (λ (n : Name). one_if (n.place == p)) (same-name spare name is)
used_spare p name (phase.Pending moved cancelled) is = absurd (true≢false (sym is))
used_spare p name (phase.Settled code size) is = absurd (true≢false (sym is))
used_spare p name (phase.Ready code size) is = absurd (true≢false (sym is))

-- a strand that is made, from outside or by a handler that had a spare for it
made_strand : (p many : ℕ) (s : ContextState) (name : Name) (by : Option ℕ) (ops : List Op) → ops ≡ s.ops →
    total (weighed (spared p)) ops ≡ many → MayMake s kind.Strand name by → KeptAt p many s.names.strands →
    KeptAt p (total (weighed (spared p)) (ops_changed by (control.Make kind.Strand name) ops))
    (with_life life.Alive name s.names.strands)
made_strand p many s name None ops same_ops is may kept =
    let unused = (both (is_current s.names.strands name) (is_unused (place_at s.names.strands name.place).life) may).other in
    used_place p _ s.names.strands name _ (unused_not (place_at s.names.strands name.place).life unused)
    (omega (arith, is, kept))
made_strand p many s name (Some by) ops same_ops is may kept =
    let it = found (has_spare kind.Strand name) ops by
    (subst (λ xs. is_at (has_spare kind.Strand name) xs by ≡ true) (sym same_ops) may) in
    let change = weighed-changed (spared p) ops by (λ op. spare_used kind.Strand op.phase) it.op it.is in
    let spare = used_spare p name it.op.phase it.passed in
    let one = spare.0 in let none = spare.1 in
    set_keeps p name.place many _ s.names.strands _ kept
    (λ here.
    let counted = ap one_if (subst (λ k. (name.place == k) ≡ true) here (same name.place)) in
    let most = at_most (is_kept_life (place_at s.names.strands p).life) in
    omega (arith, is, kept, change, one, none, counted, most))
    (λ other. let counted = ap one_if (differ name.place p other) in omega (arith, is, change, one, none, counted))

-- a strand that is freed
freed_strand : (p many : ℕ) (s : ContextState) (name : Name) (there kept : Bool) → is_there s kind.Strand name ≡ there →
    KeptAt p many s.names.strands → KeptAt p many (place_freed there kept name s.names.strands)
freed_strand p many s name false kept is fits = fits
freed_strand p many s name true true is fits =
    used_place p many s.names.strands name _
    (living_not (place_at s.names.strands name.place).life
    (both (is_current s.names.strands name) (is_living (place_at s.names.strands name.place).life) is).other) fits
freed_strand p many s name true false is fits =
    used_place p many s.names.strands name _
    (living_not (place_at s.names.strands name.place).life
    (both (is_current s.names.strands name) (is_living (place_at s.names.strands name.place).life) is).other) fits

-- control calls; what they cancel has no spares
changed_kept : (p many : ℕ) (s : ContextState) (by : Option ℕ) (change : Control) (ops : List Op) →
    MayChangeTo s by change → total (weighed (spared p)) ops ≡ many → KeptAt p many s.names.strands →
    (reached s change ≡ [] → ops ≡ s.ops) →
    KeptAt p (total (weighed (spared p)) (ops_changed by change ops)) (names_changed s change).strands
changed_kept p many s by (control.Make kind.Strand name) ops may is kept same_ops =
    made_strand p many s name by ops (same_ops refl) is may kept
changed_kept p many s by (control.Make kind.Timer name) ops may is kept same_ops =
    let other = total_other p kind.Timer name by ops refl in omega (arith, other, is, kept)
changed_kept p many s by (control.Make kind.Slot name) ops may is kept same_ops =
    let other = total_other p kind.Slot name by ops refl in omega (arith, other, is, kept)
changed_kept p many s by (control.Make kind.Stream name) ops may is kept same_ops =
    let other = total_other p kind.Stream name by ops refl in omega (arith, other, is, kept)
changed_kept p many s by (control.Make kind.Listener name) ops may is kept same_ops =
    let other = total_other p kind.Listener name by ops refl in omega (arith, other, is, kept)
changed_kept p many s by (control.Free kind.Strand name) ops may is kept same_ops =
    freed_strand p _ s name (is_there s kind.Strand name) (is_kept s kind.Strand name) refl (omega (arith, is, kept))
changed_kept p many s by (control.Free kind.Timer name) ops may is kept same_ops = omega (arith, is, kept)
changed_kept p many s by (control.Free kind.Slot name) ops may is kept same_ops = omega (arith, is, kept)
changed_kept p many s by (control.Free kind.Stream name) ops may is kept same_ops = omega (arith, is, kept)
changed_kept p many s by (control.Free kind.Listener name) ops may is kept same_ops = omega (arith, is, kept)
changed_kept p many s by _ ops may is kept same_ops = omega (arith, is, kept)

pub strand_kept : (limits : Limits) (past : List Event) → IsLegal limits past → (p : ℕ) →
    KeptAt p (total (weighed (spared p)) (state_of limits past).ops) (state_of limits past).names.strands
strand_kept limits [] legal p = omega arith
strand_kept limits (event.Called op by request given ∷ past) legal p =
    let s = state_of limits past in
    let before = strand_kept limits past legal.1 p in
    let entry = entry_of (caller_lane s.ops by) request given in
    let call = weighed-called (spared p) (calm_spared p) op by request given s in
    let same_total = total_given p by s.ops in
    let none = calm_none p op (first_phase entry given) (first_calm entry given) in
    omega (arith, before, call, same_total, none)
strand_kept limits (event.Done op code size ∷ past) legal p =
    let before = strand_kept limits past legal.1 p in
    let done = weighed-done (spared p) (calm_spared p) op code size (state_of limits past) legal.0 in
    omega (arith, before, done)
strand_kept limits (event.Begun op spares ∷ past) legal p =
    let s = state_of limits past in
    let it = found is_ready s.ops op legal.0.ready in
    let change = weighed-changed (spared p) s.ops op (λ other. phase.Running true (grant_of s) spares) it.op it.is in
    keeps_more p op (total (weighed (spared p)) s.ops) s.names.strands None spares.strand legal.0.names.strand
    (strand_kept limits past legal.1 p) 0 (spare_at p spares.strand) refl refl _
    (let none = ready_none p it.op.phase it.passed in omega (arith, change, none))
strand_kept limits (event.Granted op spares ∷ past) legal p =
    let s = state_of limits past in
    let it = found is_running s.ops op legal.0.runs in
    let more = more_granted s (at_op granted_in s.ops op) in
    let change = weighed-changed (spared p) s.ops op (λ o. granted_more more spares o.phase) it.op it.is in
    let had = (spares_in it.op.phase).strand in
    keeps_more p op (total (weighed (spared p)) s.ops) s.names.strands had spares.strand
    (subst (λ o. MayKeep s.names.strands (spares_of o).strand spares.strand) it.is legal.0.names.strand)
    (strand_kept limits past legal.1 p) (spare_at p had) (spare_at p (first_of_two had spares.strand)) refl refl _
    (let joined = ap (spare_at p) (granted_spares more spares it.op.phase it.passed) in omega (arith, change, joined))
strand_kept limits (event.Ended op mark ∷ past) legal p =
    let s = state_of limits past in
    let it = found is_running s.ops op legal.0.runs in
    let left = weighed-without (spared p) s.ops op it.op it.is in
    let on = lane_at s.ops op in
    freed_behind p _ s (spares_of (op_at s.ops op)).strand on (is_last_on s on) refl
    (gives_back p (total (weighed (spared p)) s.ops) _ life.Free s.names.strands (spares_of (op_at s.ops op)).strand
    (strand_kept limits past legal.1 p)
    (let own = ap (λ o. spare_at p (spares_of o).strand) it.is in omega (arith, left, own)))
strand_kept limits (event.Dropped op mark ∷ past) legal p =
    let s = state_of limits past in
    let before = strand_kept limits past legal.1 p in
    let it = dropping s op mark legal.0 in
    let left = weighed-without (spared p) s.ops op it.it it.is in
    omega (arith, before, left)
strand_kept limits (event.Changed by change ∷ past) legal p =
    let s = state_of limits past in
    changed_kept p (total (weighed (spared p)) s.ops) s by change (ops_cancelled s (reached s change) s.ops) legal.0.allowed
    (weighed-cancelled (spared p) (calm_spared p) s (reached s change) s.ops) (strand_kept limits past legal.1 p)
    (λ none. ap (λ numbers. ops_cancelled s numbers s.ops) none)
strand_kept limits (event.Back name side given ∷ past) legal p =
    let before = strand_kept limits past legal.1 p in
    let same_total = weighed-told (spared p) (calm_spared p) (event.Back name side given) (state_of limits past) refl in
    omega (arith, before, same_total)
strand_kept limits (event.Searched name end ∷ past) legal p =
    let before = strand_kept limits past legal.1 p in
    let same_total = weighed-told (spared p) (calm_spared p) (event.Searched name end) (state_of limits past) refl in
    omega (arith, before, same_total)
strand_kept limits (e ∷ past) legal p = strand_kept limits past legal.1 p

-- what is kept is one of the places, and no strand is there
pub record IsKeptStrand (places : List Place) (name : Name) : Type 0 where
  pub within : name.place < length places
  pub unused : is_used_place (place_at places name.place) ≡ false

kept_unused : (l : Life) → is_kept_life l ≡ true → is_used l ≡ false
kept_unused (life.Kept op) is = refl
kept_unused life.Free is = absurd (true≢false (sym is))
kept_unused life.Alive is = absurd (true≢false (sym is))
kept_unused life.Closing is = absurd (true≢false (sym is))
kept_unused life.Spent is = absurd (true≢false (sym is))

kept_within : (places : List Place) (n : ℕ) → is_kept_life (place_at places n).life ≡ true → n < length places
kept_within places n is =
    ⊎_elim (λ (lt : n < length places). lt)
    (λ (le : length places ≤ n).
    absurd (true≢false (sym is ∙ ap (λ at. is_kept_life at.life) (get_or_past places n no_place le))))
    (cases_lt n (length places))

some_one : (b : Bool) → 1 ≤ one_if b → b ≡ true
some_one true le = refl
some_one false le = absurd (omega (arith, le))

pub kept_strand : (limits : Limits) (past : List Event) → IsLegal limits past → (by : ℕ) (name : Name) →
    is_at (has_spare kind.Strand name) (state_of limits past).ops by ≡ true →
    IsKeptStrand (state_of limits past).names.strands name
kept_strand limits past legal by name has =
    let s = state_of limits past in
    let p = name.place in
    let it = found (has_spare kind.Strand name) s.ops by has in
    let part = share (weighed (spared p)) by s.ops it.op it.is in
    let own = (used_spare p name it.op.phase it.passed).0 in
    let one = ap one_if (same p) in
    let fits = strand_kept limits past legal p in
    let kept = some_one (is_kept_life (place_at s.names.strands p).life) (omega (arith, part, own, one, fits)) in
    record {
      within = kept_within s.names.strands p kept;
      unused = kept_unused (place_at s.names.strands p).life kept;
    }

-- where a strand is no name is kept for a handler
pub none_spared : (limits : Limits) (past : List Event) → IsLegal limits past → (p : ℕ) →
    is_living (place_at (state_of limits past).names.strands p).life ≡ true →
    total (weighed (spared p)) (state_of limits past).ops ≡ 0
none_spared limits past legal p living =
    let places = (state_of limits past).names.strands in
    none_kept p _ places (living_not (place_at places p).life living) (strand_kept limits past legal p)
