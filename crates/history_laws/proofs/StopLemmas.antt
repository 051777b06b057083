-- What the lanes may still begin bounds what begins until the restart.
use Rattle.std.proofs.Common.{◌≡◌, ◌≢◌, ℕ, zero, suc, ◌+◌, ◌-◌, ◌<◌, ◌≤◌, ◌==◌, Bool, true, false, cond, not, ◌&&◌, List, [], ◌∷◌, ◌++◌, Some, None, inl, inr, length, map, refl, sym, ap, subst, ◌∙◌, arith}
use Rattle.std.specs.List.{count_by, slice_index_or, slice_set}
use Rattle.std.proofs.lemmas.Bool.{cases_eq, cases_lt}
use Rattle.std.proofs.lemmas.List.{get_or-set_same, get_or-set_other, get_or_past, set_past}
use Rattle.std.proofs.lemmas.List.Sums.{sum_by-cons}
use Rattle.asio_types.specs.Faults.{one_more}
use Rattle.asio_types.specs.declared.code.Code.{Code}
use Rattle.asio_types.specs.declared.event.Event.{Event}
use Rattle.asio_types.specs.declared.event.Event.TheVariants as event
use Rattle.asio_types.specs.declared.number.Lane.{Lane}
use Rattle.asio_types.specs.declared.number.Lane.TheVariants as lane
use Rattle.session_script.specs.Lanes.{is_inline, is_strand, lane_of}
use Rattle.session_script.specs.Script.{Place, ScriptModel, is_stop, parent_of, stops}
use Rattle.session_script.specs.WellFormed.{IsWellFormed}
use Rattle.history_rules.specs.Calls.{limited, returned, with_progress}
use Rattle.history_rules.specs.Executions.{MayBegin, begun}
use Rattle.history_rules.specs.Kinds.{is_act}
use Rattle.history_rules.specs.Legal.{IsLegalFrom, IsLegalSoFar, MayHappen, after_event, state_from, state_of}
use Rattle.history_rules.specs.State.{Allowances, ContextState, State, act_at, call_at, first_state, with_act}
use Rattle.history_rules.specs.Stopping.{after_stop_on, allowance_of, at_most_one, less_one, spend, with_allowance}
use Rattle.history_rules.specs.declared.phase.Allowance.{Allowance}
use Rattle.history_rules.specs.declared.phase.Allowance.TheVariants as allowance
use Rattle.history_rules.specs.declared.phase.Step.TheVariants as step
use Rattle.history_laws.specs.AfterStop.{AreUnrestarted, StopsAreHeeded, is_closing, is_restart, is_round_end, is_start_on, is_turn, starts_on}
use Rattle.history_laws.proofs.CountLemmas.{apart-is, count-push, one_if, one_more-is, same-is}
use Rattle.history_laws.proofs.HistoryLemmas.{shown_so_far}
use Rattle.history_laws.proofs.KindLemmas.{stops-is}
use Rattle.history_laws.proofs.LeftLemmas.{rounds_allowed}
use Rattle.history_laws.proofs.ReachLemmas.{along}
use Rattle.history_laws.proofs.Sound.{IsSound}
use Rattle.history_laws.proofs.SoundLemmas.{spent_by}
use Rattle.history_laws.proofs.StepLemmas.{limited_by, steps_by}
use Rattle.history_laws.proofs.TurnSoundLemmas.{inside_open, sound_after}

-- a lane may begin no more than this
abbrev pub AtMost : ℕ → Allowance → Type 0
AtMost k allowance.Free = ⊥
AtMost k allowance.One = 1 ≤ k
AtMost k allowance.Nothing = Unit {0}

one_kept : (k : ℕ) (a : Allowance) → AtMost k a → AtMost k (at_most_one a)
one_kept k allowance.Free most = absurd most
one_kept k allowance.One most = most
one_kept k allowance.Nothing most = tt

less_kept : (k : ℕ) (a : Allowance) → AtMost k a → AtMost k (less_one a)
less_kept k allowance.Free most = absurd most
less_kept k allowance.One most = tt
less_kept k allowance.Nothing most = tt

one_left : (a : Allowance) → AtMost 1 (at_most_one a)
one_left allowance.Free = omega arith
one_left allowance.One = omega arith
one_left allowance.Nothing = tt

-- what is left once something of this kind began, and that it wasn't more than there was
record Spends (k : ℕ) (begins : Bool) (a : Allowance) : Type 0 where
  left : ℕ
  most : AtMost left a
  less : left + one_if begins ≤ k

spends_none : (k : ℕ) (a : Allowance) → AtMost k a → Spends k false a
spends_none k a most = record { left = k; most = most; less = omega arith }

spends_one : (k : ℕ) (a : Allowance) → AtMost k a → a ≢ allowance.Nothing → Spends k true (less_one a)
spends_one k allowance.Free most some = absurd most
spends_one k allowance.One most some = record { left = k - 1; most = tt; less = omega (arith, most) }
spends_one k allowance.Nothing most some = absurd (some refl)

mapped : {X Y : Type 0} (f : X → Y) (xs : List X) (n : ℕ) (d : X) →
    slice_index_or (map f xs) n (f d) ≡ f (slice_index_or xs n d)
mapped f [] n d = refl
mapped f (x ∷ xs) zero d = refl
mapped f (x ∷ xs) (suc n) d = mapped f xs n d

-- a lane that may begin nothing any more
shut_kept : (k : ℕ) (strands : List Allowance) (j n : ℕ) → AtMost k (slice_index_or strands n allowance.Nothing) →
    AtMost k (slice_index_or (slice_set strands j allowance.Nothing) n allowance.Nothing)
shut_kept k strands j n most = elim (cases_eq n j) [
  | inl same ↦
      subst (λ (n : ℕ). AtMost k (slice_index_or (slice_set strands j allowance.Nothing) n allowance.Nothing)) (sym same)
      (elim (cases_lt j (length strands)) [
        | inl within ↦ subst (AtMost k) (sym (get_or-set_same strands j allowance.Nothing allowance.Nothing within)) tt
        | inr past ↦
            subst (λ (xs : List Allowance). AtMost k (slice_index_or xs j allowance.Nothing))
            (sym (set_past strands j allowance.Nothing past))
            (subst (λ (n : ℕ). AtMost k (slice_index_or strands n allowance.Nothing)) same most)
      ])
  | inr other ↦ subst (AtMost k) (sym (get_or-set_other strands j n allowance.Nothing allowance.Nothing other)) most
]

-- and it is shut itself
shut_here : (strands : List Allowance) (j : ℕ) →
    slice_index_or (slice_set strands j allowance.Nothing) j allowance.Nothing ≡ allowance.Nothing
shut_here strands j = elim (cases_lt j (length strands)) [
  | inl within ↦ get_or-set_same strands j allowance.Nothing allowance.Nothing within
  | inr past ↦
      ap (λ (xs : List Allowance). slice_index_or xs j allowance.Nothing) (set_past strands j allowance.Nothing past)
      ∙ get_or_past strands j allowance.Nothing past
]

shut_lane : (k : ℕ) (of : Lane) (allowances : Allowances) (n : ℕ) →
    AtMost k (allowance_of allowances (lane.Strand n)) →
    AtMost k (allowance_of (with_allowance of allowance.Nothing allowances) (lane.Strand n))
shut_lane k (lane.Strand j) allowances n most = shut_kept k allowances.strands j n most
shut_lane k (lane.Own op) allowances n most = most
shut_lane k lane.Reactor allowances n most = most

shut_reactor : (k : ℕ) (of : Lane) (allowances : Allowances) → AtMost k allowances.reactor →
    AtMost k (with_allowance of allowance.Nothing allowances).reactor
shut_reactor k (lane.Strand j) allowances most = most
shut_reactor k (lane.Own op) allowances most = most
shut_reactor k lane.Reactor allowances most = tt

none_each : (strands : List Allowance) (n : ℕ) →
    slice_index_or (map (λ (a : Allowance). allowance.Nothing) strands) n allowance.Nothing ≡ allowance.Nothing
none_each strands n = mapped (λ (a : Allowance). allowance.Nothing) strands n allowance.Nothing

-- what a stop leaves to each strand
stopped_by : (k : ℕ) (script : ScriptModel) (place : Place) (a n : ℕ) (stopping : Bool) (c : ContextState) →
    AtMost k (allowance_of c.allowances (lane.Strand n)) →
    AtMost k (allowance_of (cond stopping (limited script a place c) c).allowances (lane.Strand n))
stopped_by k script None a n true c most = subst (AtMost k) (sym (none_each c.allowances.strands n)) tt
stopped_by k script (Some at) a n true c most =
    shut_lane k (lane_of script a) (record {
      strands = map at_most_one c.allowances.strands;
      own = at_most_one c.allowances.own;
      reactor = at_most_one c.allowances.reactor;
    }) n
    (subst (AtMost k) (sym (mapped at_most_one c.allowances.strands n allowance.Nothing))
    (one_kept k (slice_index_or c.allowances.strands n allowance.Nothing) most))
stopped_by k script place a n false c most = most

-- and to the reactor
turned_by : (k : ℕ) (script : ScriptModel) (place : Place) (a : ℕ) (stopping : Bool) (c : ContextState) →
    AtMost k c.allowances.reactor → AtMost k (cond stopping (limited script a place c) c).allowances.reactor
turned_by k script None a true c most = tt
turned_by k script (Some at) a true c most =
    shut_reactor k (lane_of script a) (record {
      strands = map at_most_one c.allowances.strands;
      own = at_most_one c.allowances.own;
      reactor = at_most_one c.allowances.reactor;
    }) (one_kept k c.allowances.reactor most)
turned_by k script place a false c most = most

stepped_allowances : (place : Place) (step : _) (c : ContextState) → (with_progress place step c).allowances ≡ c.allowances
stepped_allowances None step c = refl
stepped_allowances (Some at) step c = refl

-- a handler that begins on its lane
begun_on : (k : ℕ) (n : ℕ) (of : Lane) (c : ContextState) → AtMost k (allowance_of c.allowances (lane.Strand n)) →
    allowance_of c.allowances of ≢ allowance.Nothing →
    Spends k (is_strand n of) (allowance_of (spend of c).allowances (lane.Strand n))
begun_on k n (lane.Own op) c most some = spends_none k (allowance_of c.allowances (lane.Strand n)) most
begun_on k n lane.Reactor c most some = spends_none k (allowance_of c.allowances (lane.Strand n)) most
begun_on k n (lane.Strand j) c most some = elim (cases_eq n j) [
  | inl same ↦
      let a : Allowance = slice_index_or c.allowances.strands j allowance.Nothing in
      let within : j < length c.allowances.strands =
      elim (cases_lt j (length c.allowances.strands)) [
        | inl within ↦ within
        | inr past ↦ absurd (some (get_or_past c.allowances.strands j allowance.Nothing past))
      ] in
      let one : Spends k true (less_one a) =
      spends_one k a (subst (λ (n : ℕ). AtMost k (slice_index_or c.allowances.strands n allowance.Nothing)) same most) some in
      subst (λ (n : ℕ). Spends k (j == n) (slice_index_or (slice_set c.allowances.strands j (less_one a)) n allowance.Nothing))
      (sym same)
      (subst (λ (b : Bool). Spends k b (slice_index_or (slice_set c.allowances.strands j (less_one a)) j allowance.Nothing))
      (sym (same-is j))
      (subst (Spends k true) (sym (get_or-set_same c.allowances.strands j (less_one a) allowance.Nothing within)) one))
  | inr other ↦
      let a : Allowance = slice_index_or c.allowances.strands j allowance.Nothing in
      subst (λ (b : Bool). Spends k b (slice_index_or (slice_set c.allowances.strands j (less_one a)) n allowance.Nothing))
      (sym (apart-is j n (λ same. other (sym same))))
      (subst (Spends k false) (sym (get_or-set_other c.allowances.strands j n (less_one a) allowance.Nothing other))
      (spends_none k (slice_index_or c.allowances.strands n allowance.Nothing) most))
]

begun_turn : (k : ℕ) (of : Lane) (c : ContextState) → AtMost k c.allowances.reactor →
    AtMost k (spend of c).allowances.reactor
begun_turn k (lane.Strand j) c most = most
begun_turn k (lane.Own op) c most = most
begun_turn k lane.Reactor c most = less_kept k c.allowances.reactor most

module _ (script : ScriptModel) (well : IsWellFormed script) (told : Bool) (s : State) (sound : IsSound script s) where
  abbrev c : ContextState
  c = s.context

  abbrev After : Event → State
  After e = after_event script told s e

  module _ (k n : ℕ) (most : AtMost k (allowance_of c.allowances (lane.Strand n))) where
    abbrev Left : Event → Type 0
    Left e = Spends k (is_start_on script n e) (allowance_of (After e).context.allowances (lane.Strand n))

    same_left : (e : Event) → is_start_on script n e ≡ false → (After e).context.allowances ≡ c.allowances → Left e
    same_left e never same =
        subst (λ (b : Bool). Spends k b (allowance_of (After e).context.allowances (lane.Strand n))) (sym never)
        (subst (λ (a : Allowances). Spends k false (allowance_of a (lane.Strand n))) (sym same)
        (spends_none k (allowance_of c.allowances (lane.Strand n)) most))

    begin_left : (o : ℕ) (code : Code) (size : ℕ) → MayBegin script c o code size → (inline : Bool) →
        is_inline script o ≡ inline →
        Spends k (not inline && is_strand n (lane_of script o))
        (allowance_of (cond inline (begun c o code) (spend (lane_of script o) (begun c o code))).allowances (lane.Strand n))
    begin_left o code size may true is = spends_none k (allowance_of c.allowances (lane.Strand n)) most
    begin_left o code size (inl outside) false is = begun_on k n (lane_of script o) (begun c o code) most outside.allowed
    begin_left o code size (inr inside) false is =
        let both = inside_open script well told s sound o inside.inside in
        absurd (let wrong : true ≡ false = sym both.0 ∙ is in cc)

    -- what a strand may still begin falls by what begins on it
    strand_left : (e : Event) → MayHappen script told s e → is_restart e ≡ false → Left e
    strand_left (event.Call a) may never = same_left (event.Call a) refl (stepped_allowances (parent_of script a) step.Made c)
    strand_left (event.Back a) may never =
        let d : ContextState = with_act c a (record (act_at c a) { call = returned c.events (call_at c a) }) in
        let t : ContextState = with_progress (parent_of script a) step.Back d in
        spends_none k (allowance_of (After (event.Back a)).context.allowances (lane.Strand n))
        (stopped_by k script (parent_of script a) a n (is_act is_stop script a) t
        (subst (λ (a : Allowances). AtMost k (allowance_of a (lane.Strand n)))
        (sym (stepped_allowances (parent_of script a) step.Back d)) most))
    strand_left (event.Stop (Some a)) may never = same_left (event.Stop (Some a)) refl refl
    strand_left (event.Stop None) may never = same_left (event.Stop None) refl refl
    strand_left (event.Begin o code size) may never = begin_left o code size may (is_inline script o) refl
    strand_left (event.End o mark) may never = same_left (event.End o mark) refl refl
    strand_left (event.Take a) may never = spends_none k (allowance_of c.allowances (lane.Strand n)) most
    strand_left (event.Done o code size) may never = same_left (event.Done o code size) refl refl
    strand_left (event.Tick now) may never = spends_none k (allowance_of c.allowances (lane.Strand n)) most
    strand_left event.Last may never = spends_none k (allowance_of c.allowances (lane.Strand n)) most
    strand_left event.Fault may never = same_left event.Fault refl refl
    strand_left event.Ended may never =
        spends_none k (allowance_of (After event.Ended).context.allowances (lane.Strand n))
        (subst (AtMost k) (sym (none_each c.allowances.strands n)) tt)
    strand_left event.Stopped may never =
        spends_none k (allowance_of (After event.Stopped).context.allowances (lane.Strand n))
        (subst (AtMost k) (sym (none_each c.allowances.strands n)) tt)
    strand_left event.Polled may never = same_left event.Polled refl refl
    strand_left event.Restart may never = absurd (cc)
    strand_left (event.Dropped o mark) may never = same_left (event.Dropped o mark) refl refl

  module _ (k : ℕ) (most : AtMost k c.allowances.reactor) where
    begin_turn : (o : ℕ) (code : Code) (inline : Bool) →
        AtMost k (cond inline (begun c o code) (spend (lane_of script o) (begun c o code))).allowances.reactor
    begin_turn o code true = most
    begin_turn o code false = begun_turn k (lane_of script o) (begun c o code) most

    -- what the reactor may still begin falls by its turns
    turn_left : (e : Event) → MayHappen script told s e → is_restart e ≡ false →
        Spends k (is_turn e) (After e).context.allowances.reactor
    turn_left (event.Call a) may never =
        spends_none k (After (event.Call a)).context.allowances.reactor
        (subst (λ (a : Allowances). AtMost k a.reactor) (sym (stepped_allowances (parent_of script a) step.Made c)) most)
    turn_left (event.Back a) may never =
        let d : ContextState = with_act c a (record (act_at c a) { call = returned c.events (call_at c a) }) in
        let t : ContextState = with_progress (parent_of script a) step.Back d in
        spends_none k (After (event.Back a)).context.allowances.reactor
        (turned_by k script (parent_of script a) a (is_act is_stop script a) t
        (subst (λ (a : Allowances). AtMost k a.reactor) (sym (stepped_allowances (parent_of script a) step.Back d)) most))
    turn_left (event.Stop (Some a)) may never = spends_none k c.allowances.reactor most
    turn_left (event.Stop None) may never = spends_none k c.allowances.reactor most
    turn_left (event.Begin o code size) may never =
        spends_none k (After (event.Begin o code size)).context.allowances.reactor (begin_turn o code (is_inline script o))
    turn_left (event.End o mark) may never = spends_none k c.allowances.reactor most
    turn_left (event.Take a) may never = spends_one k c.allowances.reactor most may.turn.allowed
    turn_left (event.Done o code size) may never = spends_none k c.allowances.reactor most
    turn_left (event.Tick now) may never = spends_one k c.allowances.reactor most may.idle.turn.allowed
    turn_left event.Last may never = spends_one k c.allowances.reactor most may.idle.turn.allowed
    turn_left event.Fault may never = spends_none k c.allowances.reactor most
    turn_left event.Ended may never = spends_none k allowance.Nothing tt
    turn_left event.Stopped may never = spends_none k allowance.Nothing tt
    turn_left event.Polled may never = spends_none k c.allowances.reactor most
    turn_left event.Restart may never = absurd (cc)
    turn_left (event.Dropped o mark) may never = spends_none k c.allowances.reactor most

  closed_one : c.closings < length script.rounds →
      (one_more c.closings ≡ c.closings + 1) × (one_more c.closings ≤ length script.rounds)
  closed_one less =
      let more = one_more-is c.closings (omega (arith, less, well.round_count, rounds_allowed script.version)) in
      (more, omega (arith, more, less))

  -- how many rounds are closed
  pub closings_after : (e : Event) → MayHappen script told s e → c.closings ≤ length script.rounds →
      ((After e).context.closings ≡ c.closings + one_if (is_round_end e))
      × ((After e).context.closings ≤ length script.rounds)
  closings_after (event.Call a) may less = let same = (steps_by (parent_of script a) step.Made c).closings in
      (omega (arith, same), omega (arith, same, less))
  closings_after (event.Back a) may less =
      let d : ContextState = with_act c a (record (act_at c a) { call = returned c.events (call_at c a) }) in
      let limits = limited_by script (parent_of script a) a (is_act is_stop script a)
      (with_progress (parent_of script a) step.Back d) in
      let same : (After (event.Back a)).context.closings ≡ c.closings = limits.closings ∙
      (steps_by (parent_of script a) step.Back d).closings in
      (omega (arith, same), omega (arith, same, less))
  closings_after (event.Begin o code size) may less =
      let same = (spent_by (is_inline script o) (lane_of script o) (begun c o code)).closings in
      (omega (arith, same), omega (arith, same, less))
  closings_after (event.Stop (Some a)) may less = (omega arith, less)
  closings_after (event.Stop None) may less = (omega arith, less)
  closings_after (event.End o mark) may less = (omega arith, less)
  closings_after (event.Take a) may less = (omega arith, less)
  closings_after (event.Done o code size) may less = (omega arith, less)
  closings_after (event.Tick now) may less = (omega arith, less)
  closings_after event.Last may less = (omega arith, less)
  closings_after event.Fault may less = (omega arith, less)
  closings_after event.Restart may less = (omega arith, less)
  closings_after (event.Dropped o mark) may less = (omega arith, less)
  closings_after event.Ended may less = closed_one may.round.begun.left
  closings_after event.Stopped may less = closed_one may.round.begun.left
  closings_after event.Polled may less = closed_one may.round.begun.left

-- what follows the first events of a legal history is legal
legal_rest : (script : ScriptModel) (told : Bool) (s : State) (xs ys : List Event) → IsLegalFrom script told s (xs ++ ys) →
    IsLegalFrom script told s xs × IsLegalFrom script told (state_from script told s xs) ys
legal_rest script told s [] ys legal = (tt, legal)
legal_rest script told s (x ∷ xs) ys legal =
    let rest = legal_rest script told (after_event script told s x) xs ys legal.1 in ((legal.0, rest.0), rest.1)

no_restart : (e : Event) (events : List Event) → count_by is_restart (e ∷ events) ≡ 0 →
    (is_restart e ≡ false) × (count_by is_restart events ≡ 0)
no_restart e events none =
    let one = sum_by-cons (λ e. cond (is_restart e) 1 0) e events in
    (by_test (is_restart e) (omega (arith, one, none)), omega (arith, one, none))
  where
    by_test : (b : Bool) → one_if b ≤ 0 → b ≡ false
    by_test true less = absurd (omega (arith, less))
    by_test false less = refl

module _ (script : ScriptModel) (well : IsWellFormed script) (told : Bool) where
  starts_few : (n k : ℕ) (s : State) → IsSound script s → (events : List Event) → IsLegalFrom script told s events →
      count_by is_restart events ≡ 0 → AtMost k (allowance_of s.context.allowances (lane.Strand n)) →
      starts_on script n events ≤ k
  starts_few n k s sound [] legal none most = omega arith
  starts_few n k s sound (e ∷ events) legal none most =
      let never = no_restart e events none in
      let spends = strand_left script well told s sound k n most e legal.0 never.0 in
      let one = sum_by-cons (λ e. cond (is_start_on script n e) 1 0) e events in
      let rest = starts_few n spends.left (after_event script told s e) (sound_after script well told s sound e legal.0) events
      legal.1 never.1 spends.most in
      omega (arith, one, rest, spends.less)

  turns_few : (k : ℕ) (s : State) → IsSound script s → (events : List Event) → IsLegalFrom script told s events →
      count_by is_restart events ≡ 0 → AtMost k s.context.allowances.reactor → count_by is_turn events ≤ k
  turns_few k s sound [] legal none most = omega arith
  turns_few k s sound (e ∷ events) legal none most =
      let never = no_restart e events none in
      let spends = turn_left script well told s sound k most e legal.0 never.0 in
      let one = sum_by-cons (λ e. cond (is_turn e) 1 0) e events in
      let rest = turns_few spends.left (after_event script told s e) (sound_after script well told s sound e legal.0) events
      legal.1 never.1 spends.most in
      omega (arith, one, rest, spends.less)

  module _ (events : List Event) (legal : IsLegalSoFar script told events) where
    -- the state before an event, and what follows it
    record IsCut (first : Event) (between : List Event) : Type 0 where
      state : State
      sound : IsSound script state
      may : MayHappen script told state first
      rest : IsLegalFrom script told (after_event script told state first) between

    cut : (first : Event) (between : List Event) → AreUnrestarted events first between → IsCut first between
    cut first between are =
        let whole = subst (IsLegalFrom script told (first_state script told)) are.all legal in
        let parts = legal_rest script told (first_state script told) are.before (first ∷ (between ++ are.rest)) whole in
        record {
          state = state_of script told are.before;
          sound = (shown_so_far script well told are.before parts.0).sound;
          may = parts.1.0;
          rest =
              (legal_rest script told (after_event script told (state_of script told are.before) first) between are.rest
              parts.1.1).0;
        }

    starts_by : (first : Event) (n k : ℕ) (between : List Event) (are : AreUnrestarted events first between) →
        ((s : State) → AtMost k (allowance_of (after_event script told s first).context.allowances (lane.Strand n))) →
        starts_on script n between ≤ k
    starts_by first n k between are most =
        let it = cut first between are in
        starts_few n k (after_event script told it.state first) (sound_after script well told it.state it.sound first it.may)
        between it.rest are.unrestarted (most it.state)

    -- what a stop leaves
    stop_leaves : (a : ℕ) → stops script a ≡ true → (place : Place) (c : ContextState) (n : ℕ) →
        AtMost 1 (allowance_of (cond (is_act is_stop script a) (limited script a place c) c).allowances (lane.Strand n))
    stop_leaves a is place c n =
        subst (λ (b : Bool). AtMost 1 (allowance_of (cond b (limited script a place c) c).allowances (lane.Strand n)))
        (sym (stops-is script a ∙ is)) (by_place place)
      where
        by_place : (place : Place) → AtMost 1 (allowance_of (limited script a place c).allowances (lane.Strand n))
        by_place None = subst (AtMost 1) (sym (none_each c.allowances.strands n)) tt
        by_place (Some at) =
            shut_lane 1 (lane_of script a) (record {
              strands = map at_most_one c.allowances.strands;
              own = at_most_one c.allowances.own;
              reactor = at_most_one c.allowances.reactor;
            }) n
            (subst (AtMost 1) (sym (mapped at_most_one c.allowances.strands n allowance.Nothing))
            (one_left (slice_index_or c.allowances.strands n allowance.Nothing)))

    turn_leaves : (a : ℕ) → stops script a ≡ true → (place : Place) (c : ContextState) →
        AtMost 1 (cond (is_act is_stop script a) (limited script a place c) c).allowances.reactor
    turn_leaves a is place c =
        subst (λ (b : Bool). AtMost 1 (cond b (limited script a place c) c).allowances.reactor)
        (sym (stops-is script a ∙ is)) (by_place place)
      where
        by_place : (place : Place) → AtMost 1 (limited script a place c).allowances.reactor
        by_place None = tt
        by_place (Some at) =
            shut_reactor 1 (lane_of script a) (record {
              strands = map at_most_one c.allowances.strands;
              own = at_most_one c.allowances.own;
              reactor = at_most_one c.allowances.reactor;
            }) (one_left c.allowances.reactor)

    own_leaves : (a n : ℕ) → stops script a ≡ true → lane_of script a ≡ lane.Strand n → (place : Place) (c : ContextState) →
        AtMost 0 (allowance_of (cond (is_act is_stop script a) (limited script a place c) c).allowances (lane.Strand n))
    own_leaves a n is on place c =
        subst (λ (b : Bool). AtMost 0 (allowance_of (cond b (limited script a place c) c).allowances (lane.Strand n)))
        (sym (stops-is script a ∙ is)) (by_place place)
      where
        by_place : (place : Place) → AtMost 0 (allowance_of (limited script a place c).allowances (lane.Strand n))
        by_place None = subst (AtMost 0) (sym (none_each c.allowances.strands n)) tt
        by_place (Some at) =
            subst (λ (of : Lane). AtMost 0 (allowance_of (after_stop_on of c.allowances) (lane.Strand n))) (sym on)
            (subst (AtMost 0) (sym (shut_here (map at_most_one c.allowances.strands) n)) tt)

    open_leaves : (a n : ℕ) → stops script a ≡ true → (place : Place) → place ≡ None → (c : ContextState) →
        AtMost 0 (allowance_of (cond (is_act is_stop script a) (limited script a place c) c).allowances (lane.Strand n))
    open_leaves a n is None none c =
        subst (λ (b : Bool). AtMost 0 (allowance_of (cond b (limited script a None c) c).allowances (lane.Strand n)))
        (sym (stops-is script a ∙ is)) (subst (AtMost 0) (sym (none_each c.allowances.strands n)) tt)
    open_leaves a n is (Some at) none c = absurd (cc)

    abbrev returning : ℕ → State → ContextState
    returning a s =
        with_progress (parent_of script a) step.Back
        (with_act s.context a (record (act_at s.context a) { call = returned s.context.events (call_at s.context a) }))

    closed_leaves : (closing : Event) (n : ℕ) → is_closing closing ≡ true → (s : State) →
        AtMost 0 (allowance_of (after_event script told s closing).context.allowances (lane.Strand n))
    closed_leaves event.Ended n is s = subst (AtMost 0) (sym (none_each s.context.allowances.strands n)) tt
    closed_leaves event.Stopped n is s = subst (AtMost 0) (sym (none_each s.context.allowances.strands n)) tt
    closed_leaves _ n is s = absurd (cc)

    none_more : (k : ℕ) → k ≤ 0 → k ≡ 0
    none_more k less = omega (arith, less)

    abbrev pub HasClosed : List Event → State → Type 0
    HasClosed before s =
        IsSound script s × (count_by is_round_end before ≡ s.context.closings)
        × (s.context.closings ≤ length script.rounds)

    closed_next : (before : List Event) (s : State) (e : Event) → HasClosed before s → MayHappen script told s e →
        HasClosed (before ++ e ∷ []) (after_event script told s e)
    closed_next before s e has may =
        let after = closings_after script well told s has.0 e may has.2 in
        let pushed = count-push is_round_end before e in
        (sound_after script well told s has.0 e may, omega (arith, pushed, after.0, has.1), after.1)

    pub closed : HasClosed events (state_of script told events)
    closed =
        along script told HasClosed closed_next [] (first_state script told)
        ((shown_so_far script well told [] tt).sound, refl, omega arith) events legal

    pub heeded : StopsAreHeeded script events
    heeded = record {
      strands = λ a n between is are.
          starts_by (event.Back a) n 1 between are (λ s. stop_leaves a is (parent_of script a) (returning a s) n);
      turns = λ a between is are.
          let it = cut (event.Back a) between are in
          turns_few 1 (after_event script told it.state (event.Back a))
          (sound_after script well told it.state it.sound (event.Back a) it.may) between it.rest are.unrestarted
          (turn_leaves a is (parent_of script a) (returning a it.state));
      own = λ a n between is on are.
          none_more (starts_on script n between)
          (starts_by (event.Back a) n 0 between are (λ s. own_leaves a n is on (parent_of script a) (returning a s)));
      opening = λ a n between is none are.
          none_more (starts_on script n between)
          (starts_by (event.Back a) n 0 between are (λ s. open_leaves a n is (parent_of script a) none (returning a s)));
      closed = λ closing n between is are.
          none_more (starts_on script n between) (starts_by closing n 0 between are (closed_leaves closing n is));
      rounds = omega (arith, closed.1, closed.2);
    }
