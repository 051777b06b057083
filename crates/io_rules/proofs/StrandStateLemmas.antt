-- In each legal history a strand knows its operations.
use Rattle.std.proofs.Common.{arith, ap, refl, subst, sym, ◌∙◌, length-set, ⊎_elim, inl, inr}
use Rattle.std.proofs.lemmas.Bool.{true≢false, cases_lt, eqb-true, leb-true}
use Rattle.std.proofs.lemmas.List.{get_or-replicate, get_or_past, length-replicate}
use Rattle.std.specs.Prelude.{◌≡◌, ◌<◌, ◌≤◌, ℕ, ◌==◌, ◌&&◌, ◌⊎◌, nat_le, not, Bool, true, false, List, [], ◌∷◌, Option, Some, None, length, replicate, if◌then◌else◌}
use Rattle.std.specs.List.{slice_index_or}
use Rattle.io_rules.specs.declared.control.Control.{Control}
use Rattle.io_rules.specs.declared.control.Control.TheVariants as control
use Rattle.io_rules.specs.declared.event.Event.{Event}
use Rattle.io_rules.specs.declared.event.Event.TheVariants as event
use Rattle.io_rules.specs.declared.limits.Limits.{Limits}
use Rattle.io_rules.specs.declared.name.Kind.TheVariants as kind
use Rattle.io_rules.specs.declared.name.Lane.{Lane}
use Rattle.io_rules.specs.declared.name.Lane.TheVariants as lane
use Rattle.io_rules.specs.declared.name.Name.{Name}
use Rattle.io_rules.specs.declared.place.Life.{Life}
use Rattle.io_rules.specs.declared.place.Life.TheVariants as life
use Rattle.io_rules.specs.declared.place.Place.{Place}
use Rattle.io_rules.specs.declared.request.Gone.{Gone}
use Rattle.io_rules.specs.declared.request.Gone.TheVariants as gone
use Rattle.io_rules.specs.declared.request.Request.{Request}
use Rattle.io_rules.specs.Calls.{caller_lane, gone_by, gone_of, is_lane_gone, is_slot_gone, is_target_gone, is_timer_gone}
use Rattle.io_rules.specs.Changes.{is_forgotten, is_kept, is_there, names_changed, place_freed, strands_changed}
use Rattle.io_rules.specs.Executions.{spares_of}
use Rattle.io_rules.specs.InOrder.{strand_if, strand_in, strand_of}
use Rattle.io_rules.specs.Legal.{IsLegal, state_of}
use Rattle.io_rules.specs.Names.{is_alive, is_current, is_leaving, is_living, is_on, place_at, same_name}
use Rattle.io_rules.specs.Operations.{target_of, timer_of}
use Rattle.io_rules.specs.Ops.{is_running, lane_at, op_at}
use Rattle.io_rules.specs.Room.{one_if}
use Rattle.io_rules.specs.Spares.{with_life_of}
use Rattle.io_rules.specs.State.{ContextState, Op, first_state, StrandState, new_strand, strand_at, with_strand}
use Rattle.io_rules.specs.Strands.{IsNext, IsNextOf, begun_on, called_on, ended_on, entry_of, is_last_on, lane_given, on_lane, ready_on, strand_forgotten, strand_freed}
use Rattle.io_rules.proofs.FitLemmas.{FitsStrand, FitsWith, begun_fits, called_fits, done_fits, ended_fits, fits_at, if_prepared, left_on, runs_on, tied_to, waits_on}
use Rattle.io_rules.proofs.MoveLemmas.{begun-moves, completing, done-moves, ended-leaves, total-called}
use Rattle.io_rules.proofs.OnceLemmas.{executes_less, total-less}
use Rattle.io_rules.proofs.StageLemmas.{Stage, Idle, Prepared, Executing, stage_of, staged, total-other}
use Rattle.io_rules.proofs.StrandLemmas.{both, IsKnown, by_test, generation-with_life, known_alive, known_by_tied, name-itself, new_if, same-name, strand-freed, strand-on_lane, strand-with_life, strand-with_life_of, strand_is}
use Rattle.io_rules.proofs.TotalLemmas.{found, lane-found, share, total}

length-on_lane : (on : Lane) (change : StrandState → StrandState) (strands : List StrandState) →
    length (on_lane on change strands) ≡ length strands
length-on_lane lane.Own change strands = refl
length-on_lane (lane.Strand m) change strands = length-set strands m.place (change (strand_at strands m))

length-with_life_of : (new : Life) (name : Option Name) (places : List Place) →
    length (with_life_of new name places) ≡ length places
length-with_life_of new None places = refl
length-with_life_of new (Some name) places = length-set places name.place _

length-forgotten : (last : Bool) (on : Lane) (strands : List StrandState) →
    length (strand_forgotten last on strands) ≡ length strands
length-forgotten false on strands = refl
length-forgotten true on strands = length-on_lane on (λ s. new_strand) strands

length-strand_freed : (last : Bool) (on : Lane) (places : List Place) →
    length (strand_freed last on places) ≡ length places
length-strand_freed false on places = refl
length-strand_freed true lane.Own places = refl
length-strand_freed true (lane.Strand m) places = length-set places m.place _

length-cleared : (b : Bool) (m : Name) (strands : List StrandState) →
    length (if b then with_strand m new_strand strands else strands) ≡ length strands
length-cleared true m strands = length-set strands m.place new_strand
length-cleared false m strands = refl

length-place_freed : (there kept : Bool) (name : Name) (places : List Place) →
    length (place_freed there kept name places) ≡ length places
length-place_freed false kept name places = refl
length-place_freed true true name places = length-set places name.place _
length-place_freed true false name places = length-set places name.place _

length-strands_changed : (s : ContextState) (change : Control) → length (strands_changed s change) ≡ length s.strands
length-strands_changed s (control.Free kind.Strand name) = length-cleared (is_forgotten s kind.Strand name) name s.strands
length-strands_changed s _ = refl

length-names_changed : (s : ContextState) (change : Control) →
    length (names_changed s change).strands ≡ length s.names.strands
length-names_changed s (control.Make kind.Strand name) = length-set s.names.strands name.place _
length-names_changed s (control.Free kind.Strand name) =
    length-place_freed (is_there s kind.Strand name) (is_kept s kind.Strand name) name s.names.strands
length-names_changed s _ = refl

-- each place has its strand
pub lengths : (limits : Limits) (past : List Event) → IsLegal limits past →
    length (state_of limits past).strands ≡ length (state_of limits past).names.strands
lengths limits [] legal = length-replicate limits.strands new_strand ∙ sym (length-replicate limits.strands _)
lengths limits (event.Called op by request given ∷ past) legal =
    let s = state_of limits past in
    length-on_lane (lane_given request given) (called_on (entry_of (caller_lane s.ops by) request given) op) s.strands
    ∙ lengths limits past legal.1
lengths limits (event.Done op code size ∷ past) legal =
    let s = state_of limits past in
    length-on_lane (lane_at s.ops op) (ready_on op) s.strands ∙ lengths limits past legal.1
lengths limits (event.Begun op spares ∷ past) legal =
    let s = state_of limits past in
    length-on_lane (lane_at s.ops op) (begun_on op) s.strands ∙ lengths limits past legal.1
    ∙ sym (length-with_life_of (life.Kept op) spares.strand s.names.strands)
lengths limits (event.Granted op spares ∷ past) legal =
    let s = state_of limits past in
    lengths limits past legal.1 ∙ sym (length-with_life_of (life.Kept op) spares.strand s.names.strands)
lengths limits (event.Ended op mark ∷ past) legal =
    let s = state_of limits past in
    let on = lane_at s.ops op in
    let spares = spares_of (op_at s.ops op) in
    length-forgotten (is_last_on s on) on (on_lane on ended_on s.strands)
    ∙ length-on_lane on ended_on s.strands ∙ lengths limits past legal.1
    ∙ sym
    (length-strand_freed (is_last_on s on) on (with_life_of life.Free spares.strand s.names.strands)
    ∙ length-with_life_of life.Free spares.strand s.names.strands)
lengths limits (event.Changed by change ∷ past) legal =
    let s = state_of limits past in
    length-strands_changed s change ∙ lengths limits past legal.1 ∙ sym (length-names_changed s change)
lengths limits (e ∷ past) legal = lengths limits past legal.1

-- what executes or is ready on a strand is tied to it
waits_less : (stage : Stage) (b : Bool) → if_prepared stage b ≤ one_if b
waits_less Idle b = omega arith
waits_less Prepared b = omega arith
waits_less Executing b = omega arith

pub runs_tied : (n : Name) (ops : List Op) → total (staged (runs_on n)) ops ≤ total (staged (tied_to n)) ops
runs_tied n ops =
    total-less (staged (runs_on n)) (staged (tied_to n)) (λ op. executes_less (stage_of op.phase) (is_on n op.lane)) ops

pub waits_tied : (n : Name) (ops : List Op) → total (staged (waits_on n)) ops ≤ total (staged (tied_to n)) ops
waits_tied n ops =
    total-less (staged (waits_on n)) (staged (tied_to n)) (λ op. waits_less (stage_of op.phase) (is_on n op.lane)) ops

-- where a handler executes there is a strand, or none is wanted
known_of : (s : ContextState) (op : ℕ) (it : Op) → op_at s.ops op ≡ Some it → ((m : Name) → FitsStrand s m) →
    (on : Lane) → it.lane ≡ on → IsKnown s.names.strands s.strands on
known_of s op it is fits lane.Own at = tt
known_of s op it is fits (lane.Strand m) at =
    let one : one_if (is_on m it.lane) ≡ 1 = ap (λ l. one_if (is_on m l)) at ∙ ap one_if (name-itself m) in
    let own = share (staged (tied_to m)) op s.ops it is in
    let all = (fits m).tied_fits in
    known_by_tied s.names.strands s.strands m (omega (arith, one, own, all))

pub known_lane : (s : ContextState) (op : ℕ) (it : Op) → op_at s.ops op ≡ Some it → ((m : Name) → FitsStrand s m) →
    IsKnown s.names.strands s.strands (lane_at s.ops op)
known_lane s op it is fits =
    subst (IsKnown s.names.strands s.strands) (sym (lane-found s.ops op it is)) (known_of s op it is fits it.lane refl)

lane_when_there : (request : Request) (slot timer target : Bool) →
    lane_given request (gone_by false slot timer target) ≡ request.lane
lane_when_there request true timer target = refl
lane_when_there request false true target = refl
lane_when_there request false false true = refl
lane_when_there request false false false = refl

lane_own : (request : Request) (given : Gone) → request.lane ≡ lane.Own → lane_given request given ≡ lane.Own
lane_own request gone.Nothing own = own
lane_own request gone.Strand own = refl
lane_own request gone.Other own = own

not_false : (b : Bool) → not b ≡ false → b ≡ true
not_false true is = refl
not_false false is = absurd (true≢false is)

-- what is called is on a strand that is there
known_called : (s : ContextState) (request : Request) → length s.strands ≡ length s.names.strands →
    (on : Lane) → request.lane ≡ on → IsKnown s.names.strands s.strands (lane_given request (gone_of s request))
known_called s request same_length lane.Own at =
    subst (IsKnown s.names.strands s.strands) (sym (lane_own request (gone_of s request) at)) tt
known_called s request same_length (lane.Strand m) at =
    by_test (is_lane_gone s.names request.lane)
    (λ is.
    subst (λ b. IsKnown s.names.strands s.strands
    (lane_given request
    (gone_by b (is_slot_gone s.names request.binding) (is_timer_gone s.names (timer_of request.kind))
    (is_target_gone s request.kind (target_of request.kind)))))
    (sym is) tt)
    (λ isnt.
    let alive : is_alive s.names.strands m ≡ true =
    not_false (is_alive s.names.strands m) (subst (λ l. is_lane_gone s.names l ≡ false) at isnt) in
    subst (IsKnown s.names.strands s.strands)
    (sym
    (ap (λ b. lane_given request
    (gone_by b (is_slot_gone s.names request.binding) (is_timer_gone s.names (timer_of request.kind))
    (is_target_gone s request.kind (target_of request.kind)))) isnt
    ∙ lane_when_there request (is_slot_gone s.names request.binding)
    (is_timer_gone s.names (timer_of request.kind)) (is_target_gone s request.kind (target_of request.kind))
    ∙ at))
    (known_alive s.names.strands s.strands m same_length alive))

pub known_given : (s : ContextState) (request : Request) (given : Gone) → length s.strands ≡ length s.names.strands →
    given ≡ gone_of s request → IsKnown s.names.strands s.strands (lane_given request given)
known_given s request given same_length is =
    subst (λ g. IsKnown s.names.strands s.strands (lane_given request g)) (sym is)
    (known_called s request same_length request.lane refl)

-- the strand of a handler that begins
pub next_of : (places : List Place) (strands : List StrandState) (on : Lane) (n : Name) (op : ℕ) →
    IsKnown places strands on → IsNext strands on op → is_on n on ≡ true → IsNextOf (strand_in places strands n) op
next_of places strands lane.Own n op known next is = absurd (true≢false (sym is))
next_of places strands (lane.Strand m) n op known next is =
    subst (λ k. IsNextOf (strand_in places strands k) op) (same-name m n is)
    (subst (λ st. IsNextOf st op) (sym (strand_is places strands m known.0)) next)

-- a strand behind the end of one of its handlers
pub strand_left : (places : List Place) (strands : List StrandState) (spare : Option Name) (on : Lane) (last : Bool)
    (n : Name) → IsKnown places strands on →
    strand_in (strand_freed last on (with_life_of life.Free spare places))
    (strand_forgotten last on (on_lane on ended_on strands)) n
    ≡ (if is_on n on then left_on last (strand_in places strands n) else strand_in places strands n)
strand_left places strands spare on false n known =
    strand-with_life_of life.Free spare places (on_lane on ended_on strands) n
    ∙ strand-on_lane places strands on ended_on n known
strand_left places strands spare lane.Own true n known =
    strand-with_life_of life.Free spare places strands n
strand_left places strands spare (lane.Strand m) true n known =
    strand-freed (with_life_of life.Free spare places) (on_lane (lane.Strand m) ended_on strands) m n
    (current_still spare known.0)
    ∙ by_test (same_name m n)
    (λ is.
    ap (λ b. if b then new_strand
    else strand_in (with_life_of life.Free spare places) (on_lane (lane.Strand m) ended_on strands) n) is
    ∙ sym (ap (λ b. if b then new_strand else strand_in places strands n) is))
    (λ isnt.
    ap (λ b. if b then new_strand
    else strand_in (with_life_of life.Free spare places) (on_lane (lane.Strand m) ended_on strands) n) isnt
    ∙ strand-with_life_of life.Free spare places (on_lane (lane.Strand m) ended_on strands) n
    ∙ strand-on_lane places strands (lane.Strand m) ended_on n known
    ∙ ap (λ b. if b then ended_on (strand_in places strands n) else strand_in places strands n) isnt
    ∙ sym (ap (λ b. if b then new_strand else strand_in places strands n) isnt))
  where
    current_still : (spare : Option Name) → is_current places m ≡ true → is_current (with_life_of life.Free spare places) m ≡ true
    current_still None is = is
    current_still (Some name) is = ap (λ g. g == m.generation) (generation-with_life life.Free name places m.place) ∙ is

-- a strand behind a control call: as it was, or forgotten, and then it had no operations
abbrev pub IsLeft : StrandState → StrandState → Type 0
IsLeft st new = (new ≡ st) ⊎ ((new ≡ new_strand) × (st.tied ≡ 0))

freed_strand : (s : ContextState) (name n : Name) (there kept : Bool) → is_there s kind.Strand name ≡ there →
    is_kept s kind.Strand name ≡ kept →
    IsLeft (strand_of s n)
    (strand_in (place_freed there kept name s.names.strands)
    (if there && not kept then with_strand name new_strand s.strands else s.strands) n)
freed_strand s name n false kept is_so is_kept_so = inl refl
freed_strand s name n true true is_so is_kept_so = inl (strand-with_life life.Closing name s.names.strands s.strands n)
freed_strand s name n true false is_so is_kept_so =
    let alive = both (is_current s.names.strands name) (is_living (place_at s.names.strands name.place).life) is_so in
    let new = strand-freed s.names.strands s.strands name n alive.one in
    by_test (same_name name n)
    (λ is.
    inr (
      new ∙ ap (λ b. if b then new_strand else strand_of s n) is,
      subst (λ k. (strand_of s k).tied ≡ 0) (same-name name n is)
          (ap (λ (st : StrandState). st.tied) (strand_is s.names.strands s.strands name alive.one)
          ∙ eqb-true (strand_at s.strands name).tied 0 (not_false ((strand_at s.strands name).tied == 0) is_kept_so)),
    ))
    (λ isnt. inl (new ∙ ap (λ b. if b then new_strand else strand_of s n) isnt))

pub changed_strand : (s : ContextState) (change : Control) (n : Name) →
    IsLeft (strand_of s n) (strand_in (names_changed s change).strands (strands_changed s change) n)
changed_strand s (control.Make kind.Strand name) n =
    inl (strand-with_life life.Alive name s.names.strands s.strands n)
changed_strand s (control.Free kind.Strand name) n =
    freed_strand s name n (is_there s kind.Strand name) (is_kept s kind.Strand name) refl refl
changed_strand s _ n = inl refl

left_fits : (t r w : ℕ) (st new : StrandState) → FitsWith t r w st → r ≤ t → w ≤ t → IsLeft st new → FitsWith t r w new
left_fits t r w st new fits less behind left =
    ⊎_elim (λ (is : new ≡ st). subst (FitsWith t r w) (sym is) fits)
    (λ (gone : (new ≡ new_strand) × (st.tied ≡ 0)).
    let le = fits.tied_fits in let none = gone.1 in
    subst (FitsWith t r w) (sym gone.0)
    (record {
      tied_fits = omega (arith, le, none);
      runs_fits = omega (arith, le, none, less);
      waits_fits = omega (arith, le, none, behind);
    }))
    left

-- it was the last one, where its strand is forgotten
pub last_one : (s : ContextState) (on : Lane) (n : Name) → IsKnown s.names.strands s.strands on → is_on n on ≡ true →
    is_last_on s on ≡ true → (strand_of s n).tied ≤ 1
last_one s lane.Own n known is last = absurd (true≢false (sym is))
last_one s (lane.Strand m) n known is last =
    subst (λ k. (strand_of s k).tied ≤ 1) (same-name m n is)
    (subst (λ (st : StrandState). st.tied ≤ 1) (sym (strand_is s.names.strands s.strands m known.0))
    (leb-true (strand_at s.strands m).tied 1
    (both (is_leaving s.names.strands m) (nat_le (strand_at s.strands m).tied 1) last).other))

new_in : (m place : ℕ) → slice_index_or (replicate m new_strand) place new_strand ≡ new_strand
new_in m place =
    ⊎_elim (λ (lt : place < m). get_or-replicate m place new_strand new_strand lt)
    (λ (le : m ≤ place).
    let many = length-replicate m new_strand in
    get_or_past (replicate m new_strand) place new_strand (omega (arith, many)))
    (cases_lt place m)

pub first_strand : (limits : Limits) (n : Name) → strand_of (first_state limits) n ≡ new_strand
first_strand limits n =
    ap (λ st. strand_if (is_current (first_state limits).names.strands n) st) (new_in limits.strands n.place)
    ∙ new_if (is_current (first_state limits).names.strands n)

-- while the context isn't being destroyed a strand knows its operations
pub strands_fit : (limits : Limits) (past : List Event) → IsLegal limits past →
    (state_of limits past).finishing ≡ false → (n : Name) → FitsStrand (state_of limits past) n
strands_fit limits [] legal going n =
    subst (FitsWith 0 0 0) (sym (first_strand limits n))
    (record { tied_fits = omega arith; runs_fits = refl; waits_fits = refl })
strands_fit limits (event.Called op by request given ∷ past) legal going n =
    let s = state_of limits past in
    let entry = entry_of (caller_lane s.ops by) request given in
    let on = lane_given request given in
    fits_at _ _ _ _ _ _ _ _
    (called_fits (is_on n on) entry given op _ _ _ (strand_of s n) (strands_fit limits past legal.1 legal.0.going n))
    (total-called (tied_to n) op by request given s) (total-called (runs_on n) op by request given s)
    (total-called (waits_on n) op by request given s)
    (strand-on_lane s.names.strands s.strands on (called_on entry op) n
    (known_given s request given (lengths limits past legal.1) legal.0.names))
strands_fit limits (event.Done op code size ∷ past) legal going n =
    let s = state_of limits past in
    let on = lane_at s.ops op in
    let it = completing s op code size legal.0 in
    let known = known_lane s op it.it it.is (strands_fit limits past legal.1 legal.0.going) in
    fits_at _ _ _ _ _ _ _ _
    (done_fits (is_on n on) op _ _ _ _ _ _ (strand_of s n) (strands_fit limits past legal.1 legal.0.going n)
    (done-moves (tied_to n) op code size s legal.0) (done-moves (runs_on n) op code size s legal.0)
    (done-moves (waits_on n) op code size s legal.0))
    refl refl refl (strand-on_lane s.names.strands s.strands on (ready_on op) n known)
strands_fit limits (event.Begun op spares ∷ past) legal going n =
    let s = state_of limits past in
    let on = lane_at s.ops op in
    let it = found _ s.ops op legal.0.ready in
    let known = known_lane s op it.op it.is (strands_fit limits past legal.1 legal.0.going) in
    fits_at _ _ _ _ _ _ _ _
    (begun_fits (is_on n on) op _ _ _ _ _ _ (strand_of s n) (strands_fit limits past legal.1 legal.0.going n)
    (λ is. next_of s.names.strands s.strands on n op known legal.0.next is)
    (begun-moves (tied_to n) op spares s legal.0) (begun-moves (runs_on n) op spares s legal.0)
    (begun-moves (waits_on n) op spares s legal.0))
    refl refl refl
    (strand-with_life_of (life.Kept op) spares.strand s.names.strands (on_lane on (begun_on op) s.strands) n
    ∙ strand-on_lane s.names.strands s.strands on (begun_on op) n known)
strands_fit limits (event.Ended op mark ∷ past) legal going n =
    let s = state_of limits past in
    let on = lane_at s.ops op in
    let it = found is_running s.ops op legal.0.runs in
    let known = known_lane s op it.op it.is (strands_fit limits past legal.1 legal.0.going) in
    let new = state_of limits (event.Ended op mark ∷ past) in
    fits_at _ _ _ _ _ _ _ _
    (ended_fits (is_on n on) (is_last_on s on) _ _ _ _ _ _ (strand_of s n) (strands_fit limits past legal.1 legal.0.going n)
    (λ is last. last_one s on n known is last) (runs_tied n new.ops) (waits_tied n new.ops)
    (ended-leaves (tied_to n) op mark s legal.0) (ended-leaves (runs_on n) op mark s legal.0)
    (ended-leaves (waits_on n) op mark s legal.0))
    refl refl refl
    (strand_left s.names.strands s.strands (spares_of (op_at s.ops op)).strand on (is_last_on s on) n known)
strands_fit limits (event.Dropped op mark ∷ past) legal going n = absurd (true≢false (sym legal.0.finishing ∙ going))
strands_fit limits (event.Finishing ∷ past) legal going n = absurd (true≢false going)
strands_fit limits (event.Granted op spares ∷ past) legal going n =
    let s = state_of limits past in
    fits_at _ _ _ _ _ _ _ _ (strands_fit limits past legal.1 legal.0.going n)
    (total-other (tied_to n) (event.Granted op spares) s refl) (total-other (runs_on n) (event.Granted op spares) s refl)
    (total-other (waits_on n) (event.Granted op spares) s refl)
    (strand-with_life_of (life.Kept op) spares.strand s.names.strands s.strands n)
strands_fit limits (event.Changed by change ∷ past) legal going n =
    let s = state_of limits past in
    fits_at _ _ _ _ _ _ _ _
    (left_fits _ _ _ (strand_of s n) _ (strands_fit limits past legal.1 legal.0.going n) (runs_tied n s.ops)
    (waits_tied n s.ops) (changed_strand s change n))
    (total-other (tied_to n) (event.Changed by change) s refl) (total-other (runs_on n) (event.Changed by change) s refl)
    (total-other (waits_on n) (event.Changed by change) s refl) refl
strands_fit limits (e ∷ past) legal going n =
    let s = state_of limits past in
    fits_at _ _ _ _ _ _ _ _ (strands_fit limits past legal.1 legal.0.going n)
    (total-other (tied_to n) e s refl) (total-other (runs_on n) e s refl) (total-other (waits_on n) e s refl) refl
