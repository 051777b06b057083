-- A handler that executes gives a place to what it initiates: what is kept shows the state behind that.
use Rattle.std.proofs.Common.{arith, ap, refl, subst, sym, ◌∙◌}
use Rattle.std.proofs.lemmas.Bool.{ltb-false, ltb-true, true≢false}
use Rattle.std.specs.Prelude.{◌≡◌, ◌<◌, ℕ, ◌+◌, ◌-◌, ◌&&◌, nat_lt, Bool, true, false, List, Some, sum_by, if◌then◌else◌}
use Rattle.io_rules.specs.declared.event.Event.{Event}
use Rattle.io_rules.specs.declared.limits.Limits.{Limits}
use Rattle.io_rules.specs.declared.op.Op.{Op}
use Rattle.io_rules.specs.declared.op.Phase.{Phase}
use Rattle.io_rules.specs.declared.op.Phase.TheVariants as phase
use Rattle.io_rules.specs.declared.place.Place.{Place}
use Rattle.io_rules.specs.declared.request.Marks.{Marks}
use Rattle.io_rules.specs.declared.spares.Spares.{Spares}
use Rattle.io_rules.specs.Executions.{spares_in}
use Rattle.io_rules.specs.Legal.{IsLegal, state_of}
use Rattle.io_rules.specs.Names.{Names}
use Rattle.io_rules.specs.Ops.{is_ready, op_at, phase_changed}
use Rattle.io_rules.specs.Room.{has_place, numbers_in, one_if, place_given, place_given_by, places_in}
use Rattle.io_rules.specs.State.{ContextState}
use Rattle.io_rules.proofs.FitLemmas.{fits_at, runs_on, tied_to, waits_on}
use Rattle.io_rules.proofs.RoomLemmas.{numbers_suffice, places_add_up}
use Rattle.io_rules.proofs.StageLemmas.{give_keeps, kept}
use Rattle.io_rules.proofs.StrandStateLemmas.{strands_fit}
use Rattle.io_rules.proofs.TotalLemmas.{share, sum_by-total, total-changed, total-kept}
use Rattle.io_history.proofs.AtLemmas.{at-changed}
use Rattle.io_strands.specs.declared.ready.ReadyOp.{ReadyOp}
use Rattle.io_strands.specs.Cell.{Cell}
use Rattle.io_jobs.specs.Listed.{JobList}
use Rattle.io_scheduler.specs.declared.counts.Counts.{Counts}
use Rattle.io_scheduler.specs.Ready.{own_ops}
use Rattle.io_scheduler.specs.Shown.{IsUnusedSpare, Shows, ShowsCell, cell_at, lane_of_place, waits_own, waits_own_on}
use Rattle.io_scheduler.proofs.BegunLemmas.{below_begun}
use Rattle.io_scheduler.proofs.ReadyLemmas.{Keeps, ready-kept}
use Rattle.io_scheduler.proofs.SpaceLemmas.{HasSpace}
use Rattle.io_scheduler.proofs.SpareLemmas.{spares_kept}

ready_if : (b own : Bool) (grant : ℕ) (spares : Spares) →
    is_ready (if b then phase.Running own (grant - 1) spares else phase.Running false 0 spares) ≡ false
ready_if true own grant spares = refl
ready_if false own grant spares = refl

given_ready : (p : Phase) → is_ready (place_given p) ≡ is_ready p
given_ready (phase.Running own grant spares) = ready_if (nat_lt 0 grant) own grant spares
given_ready (phase.Pending moved cancelled) = refl
given_ready (phase.Settled code size) = refl
given_ready (phase.Ready code size) = refl

ready_stays : (p : Phase) → is_ready p ≡ true → place_given p ≡ p
ready_stays (phase.Ready code size) is = refl
ready_stays (phase.Running own grant spares) is = absurd (true≢false (sym is))
ready_stays (phase.Pending moved cancelled) is = absurd (true≢false (sym is))
ready_stays (phase.Settled code size) is = absurd (true≢false (sym is))

spares_if : (b own : Bool) (grant : ℕ) (spares : Spares) →
    spares_in (if b then phase.Running own (grant - 1) spares else phase.Running false 0 spares) ≡ spares
spares_if true own grant spares = refl
spares_if false own grant spares = refl

given_spares : (p : Phase) → spares_in (place_given p) ≡ spares_in p
given_spares (phase.Running own grant spares) = spares_if (nat_lt 0 grant) own grant spares
given_spares (phase.Pending moved cancelled) = refl
given_spares (phase.Settled code size) = refl
given_spares (phase.Ready code size) = refl

-- the place goes to the context, and the number isn't kept any more
abbrev pub given_state : ℕ → ContextState → ContextState
given_state by s = record s {
  promised = s.promised - 1;
  room = s.room + 1;
  ops = place_given_by (Some by) s.ops;
}

abbrev pub counts_given : Counts → Counts
counts_given c = record c { promised = c.promised - 1; room = c.room + 1 }

-- the phase of one operation changes, and not whether it is ready; no other name of a strand is kept for it
pub record KeepsReady (g : Op → Phase) : Type 0 where
  pub ready : (op : Op) → is_ready (g op) ≡ is_ready op.phase
  pub same : (op : Op) → is_ready op.phase ≡ true → g op ≡ op.phase
  pub strand : (places : List Place) (op : Op) → IsUnusedSpare places (spares_in op.phase).strand →
      IsUnusedSpare places (spares_in (g op)).strand

keeps_rephased : (by : ℕ) (g : Op → Phase) (ops : List Op) → KeepsReady g → Keeps ops (phase_changed by g ops)
keeps_rephased by g ops keeps n op is ready = at-changed by n g ops op (λ here. keeps.same op ready) is

own_rephased : (by : ℕ) (g : Op → Phase) (ops : List Op) → KeepsReady g →
    sum_by waits_own (phase_changed by g ops) ≡ sum_by waits_own ops
own_rephased by g ops keeps =
    let old = sum_by-total waits_own ops in
    let new = sum_by-total waits_own (phase_changed by g ops) in
    let same = total-kept waits_own by g (λ op. ap (waits_own_on op.lane) (keeps.ready op)) ops in
    omega (arith, old, new, same)

cell_rephased : {H S : Type 0} (marks : H → Marks) (s : ContextState) (by : ℕ) (g : Op → Phase) (k : ℕ) (c : Cell H S) →
    KeepsReady g → ShowsCell marks s.ops s.next (lane_of_place s.names.strands k) c →
    ShowsCell marks (phase_changed by g s.ops) s.next (lane_of_place s.names.strands k) c
cell_rephased marks s by g k c keeps shows = record {
  ready = ready-kept marks s.ops (phase_changed by g s.ops) (lane_of_place s.names.strands k) c.queue
      (keeps_rephased by g s.ops keeps) shows.ready;
  tied = shows.tied;
  idle = shows.idle;
}

pub shows_rephased : {H S : Type 0} (marks : H → Marks) (limits : Limits) (counts : Counts) (names : Names)
    (cells : List (Cell H S)) (jobs : JobList (ReadyOp H)) (s : ContextState) (by : ℕ) (g : Op → Phase) → KeepsReady g →
    Shows marks limits counts names cells jobs s →
    Shows marks limits counts names cells jobs (record s { ops = phase_changed by g s.ops })
shows_rephased marks limits counts names cells jobs s by g keeps shows = record {
  limits_are = shows.limits_are;
  counts_are = shows.counts_are;
  names_are = shows.names_are;
  below = below_begun s.next by g s.ops shows.below;
  spares = spares_kept s.names.strands by g (keeps.strand s.names.strands) s.ops shows.spares;
  strands = shows.strands;
  there = shows.there;
  rooms = shows.rooms;
  each = λ k. cell_rephased marks s by g k (cell_at cells k) keeps (shows.each k);
  listed = shows.listed;
  own = ready-kept marks s.ops (phase_changed by g s.ops) _ (own_ops jobs.ring) (keeps_rephased by g s.ops keeps) shows.own;
  own_all = shows.own_all ∙ sym (own_rephased by g s.ops keeps);
  own_room = shows.own_room;
  settled = shows.settled;
  going = shows.going;
}

given_keeps : KeepsReady (λ o. place_given o.phase)
given_keeps = record {
  ready = λ op. given_ready op.phase;
  same = λ op is. ready_stays op.phase is;
  strand = λ places op unused.
      subst (λ (spares : Spares). IsUnusedSpare places spares.strand) (sym (given_spares op.phase)) unused;
}

pub shows_given : {H S : Type 0} (marks : H → Marks) (limits : Limits) (counts : Counts) (names : Names)
    (cells : List (Cell H S)) (jobs : JobList (ReadyOp H)) (s : ContextState) (by : ℕ) →
    Shows marks limits counts names cells jobs s →
    Shows marks limits (counts_given counts) names cells jobs (given_state by s)
shows_given marks limits counts names cells jobs s by shows =
    let less = shows_rephased marks limits counts names cells jobs s by (λ o. place_given o.phase) given_keeps shows in
    record {
      limits_are = less.limits_are;
      counts_are = ap counts_given less.counts_are;
      names_are = less.names_are;
      below = less.below;
      spares = less.spares;
      strands = less.strands;
      there = less.there;
      rooms = less.rooms;
      each = less.each;
      listed = less.listed;
      own = less.own;
      own_all = less.own_all;
      own_room = less.own_room;
      settled = less.settled;
      going = less.going;
    }

-- what is left to it
phase_if : (b own : Bool) (grant : ℕ) (spares : Spares) → nat_lt 0 grant ≡ b →
    (if b then phase.Running own (grant - 1) spares else phase.Running false 0 spares)
    ≡ phase.Running (own && b) (grant - 1) spares
phase_if true true grant spares is = refl
phase_if true false grant spares is = refl
phase_if false true grant spares is =
    let le = ltb-false 0 grant is in
    let none : 0 ≡ grant - 1 = omega (arith, le) in ap (λ k. phase.Running false k spares) none
phase_if false false grant spares is =
    let le = ltb-false 0 grant is in
    let none : 0 ≡ grant - 1 = omega (arith, le) in ap (λ k. phase.Running false k spares) none

pub given_phase : (own : Bool) (grant : ℕ) (spares : Spares) →
    place_given (phase.Running own grant spares) ≡ phase.Running (own && nat_lt 0 grant) (grant - 1) spares
given_phase own grant spares = phase_if (nat_lt 0 grant) own grant spares refl

places_if : (b own : Bool) (grant : ℕ) → nat_lt 0 grant ≡ b → 0 < one_if own + grant →
    one_if (own && b) + (grant - 1) + 1 ≡ one_if own + grant
places_if true true grant is some = let lt = ltb-true 0 grant is in omega (arith, lt)
places_if true false grant is some = let lt = ltb-true 0 grant is in omega (arith, lt)
places_if false true grant is some = let le = ltb-false 0 grant is in omega (arith, le)
places_if false false grant is some = let le = ltb-false 0 grant is in omega (arith, le, some)

pub places_left : (own : Bool) (grant : ℕ) → 0 < one_if own + grant →
    one_if (own && nat_lt 0 grant) + (grant - 1) + 1 ≡ one_if own + grant
places_left own grant some = places_if (nat_lt 0 grant) own grant refl some

place_if : (b own : Bool) (grant : ℕ) (spares : Spares) → nat_lt 0 grant ≡ b → 0 < one_if own + grant →
    has_place (phase.Running own grant spares) ≡ true
place_if b true grant spares is some = refl
place_if true false grant spares is some = is
place_if false false grant spares is some = let le = ltb-false 0 grant is in absurd (omega (arith, le, some))

pub may_give : (own : Bool) (grant : ℕ) (spares : Spares) → 0 < one_if own + grant →
    has_place (phase.Running own grant spares) ≡ true
may_give own grant spares some = place_if (nat_lt 0 grant) own grant spares refl some

-- then there is space for what it initiates
pub given_space : (limits : Limits) (past : List Event) (by : ℕ) (it : Op) (own : Bool) (grant : ℕ) (spares : Spares) →
    IsLegal limits past → (state_of limits past).finishing ≡ false → op_at (state_of limits past).ops by ≡ Some it →
    it.phase ≡ phase.Running own grant spares → 0 < one_if own + grant → HasSpace limits (given_state by (state_of limits past))
given_space limits past by it own grant spares legal going is runs some =
    let s = state_of limits past in
    let all = places_add_up limits past legal in
    let sum = sum_by-total (λ (op : Op). places_in op.phase) s.ops in
    let step = total-changed (λ (op : Op). places_in op.phase) by (λ o. place_given o.phase) s.ops it is in
    let was = ap places_in runs in
    let left = ap (λ p. places_in (place_given p)) runs ∙ ap places_in (given_phase own grant spares) in
    let one = places_left own grant some in
    let numbers = numbers_suffice limits past legal in
    let counted = sum_by-total (λ (op : Op). numbers_in op.phase) s.ops in
    let kept_numbers = share (λ (op : Op). numbers_in op.phase) by s.ops it is in
    let has = ap numbers_in runs in
    record {
      places = omega (arith, all, sum, step, was, left, one);
      fits = λ name.
          fits_at _ _ _ _ _ _ _ _ (strands_fit limits past legal going name)
          (kept (tied_to name) by (λ o. place_given o.phase) (λ op. give_keeps op.phase) s.ops)
          (kept (runs_on name) by (λ o. place_given o.phase) (λ op. give_keeps op.phase) s.ops)
          (kept (waits_on name) by (λ o. place_given o.phase) (λ op. give_keeps op.phase) s.ops) refl;
      room = omega arith;
      numbers = omega (arith, numbers, counted, kept_numbers, has, some);
    }
