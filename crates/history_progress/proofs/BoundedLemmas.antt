-- How often handlers begin and the reactor turns, by what falls at each of these events.
use Rattle.std.proofs.Common.{◌≡◌, ℕ, ◌+◌, ◌*◌, ◌<◌, ◌≤◌, ◌==◌, nat_lt, zero, suc, Bool, true, false, not, cond, List, [], ◌∷◌, ◌++◌, Some, None, inl, inr, filter, get_or, length, map, replicate, refl, sym, ap, ◌∙◌, arith}
use Rattle.std.specs.List.{count_by, slice_index_or, slice_set, sum_by}
use Rattle.std.proofs.lemmas.Bool.{false_from_ne_true}
use Rattle.std.proofs.lemmas.List.{length-map}
use Rattle.std.proofs.lemmas.List.Filters.{length-filter_both}
use Rattle.std.proofs.lemmas.List.Sums.{sum_by-cons, sum_by-set}
use Rattle.asio_types.specs.declared.world.Line.{Line}
use Rattle.asio_types.specs.declared.code.Code.{Code}
use Rattle.asio_types.specs.declared.event.Event.{Event}
use Rattle.asio_types.specs.declared.event.Event.TheVariants as event
use Rattle.session_script.specs.Script.{ScriptModel, act_of}
use Rattle.session_script.specs.WellFormed.{IsWellFormed}
use Rattle.stream_rules.specs.World.{insert_time, rising, times_after}
use Rattle.history_rules.specs.Bounds.{AllAhead}
use Rattle.history_rules.specs.Calls.{accepted}
use Rattle.history_rules.specs.Executions.{MayBegin}
use Rattle.history_rules.specs.Legal.{IsLegalSoFar, MayHappen, after_event, state_of}
use Rattle.history_rules.specs.Performing.{performed, performed_by}
use Rattle.history_rules.specs.Requests.{MayTake, reactor_after_take}
use Rattle.history_rules.specs.State.{ReactorHalf, State, act_at, first_state, fresh, phase_at}
use Rattle.history_rules.specs.Time.{MayDrain, MayTick, at_last, at_time}
use Rattle.history_rules.specs.declared.phase.ActPhase.{ActPhase}
use Rattle.history_rules.specs.declared.phase.ActPhase.TheVariants as phase
use Rattle.history_rules.specs.declared.phase.ActState.{ActState}
use Rattle.history_laws.specs.AfterStop.{is_turn}
use Rattle.history_laws.specs.Events.{is_begin_of}
use Rattle.history_laws.proofs.ClockLemmas.{last_once, more_waits, settled_fewer, tick_falls, told_keeps}
use Rattle.history_laws.proofs.CountLemmas.{count-push, one_if, same-is}
use Rattle.history_laws.proofs.FallingLemmas.{sum_falls, sum_less}
use Rattle.history_laws.proofs.HistoryLemmas.{moves_after}
use Rattle.history_laws.proofs.LeftLemmas.{one_unless, untaken_left}
use Rattle.history_laws.proofs.LengthLemmas.{IsCounted, counted_next, counted_so_far}
use Rattle.history_laws.proofs.Moves.{Moves, comes_back, completes, destroys, enters, finishes, further, halts, initiates, no_begin, starts, stays}
use Rattle.history_laws.proofs.ReachLemmas.{along}
use Rattle.history_laws.proofs.ReactorLemmas.{stays_settled, stays_told}
use Rattle.history_laws.proofs.Sound.{IsSound}
use Rattle.history_laws.proofs.StepLemmas.{is_there}
use Rattle.history_laws.proofs.StopLemmas.{heeded}
use Rattle.history_laws.proofs.TakingLemmas.{kept, settle, there, untaken}
use Rattle.history_laws.proofs.TurnSoundLemmas.{sound_after}
use Rattle.history_progress.specs.Bounded.{WorkIsBounded, is_begin}

-- one, where the handler may still begin
abbrev pub begin_left : ActPhase → ℕ
begin_left phase.Absent = 1
begin_left phase.Inside = 1
begin_left phase.Requested = 1
begin_left (phase.Ready given size why) = 1
begin_left (phase.Running class progress) = 0
begin_left phase.Ended = 0
begin_left phase.Dropped = 0
begin_left phase.Asked = 1

most_one : (p : ActPhase) → begin_left p ≤ 1
most_one phase.Absent = omega arith
most_one phase.Inside = omega arith
most_one phase.Requested = omega arith
most_one (phase.Ready given size why) = omega arith
most_one (phase.Running class progress) = omega arith
most_one phase.Ended = omega arith
most_one phase.Dropped = omega arith
most_one phase.Asked = omega arith

begin_moved : (script : ScriptModel) (n : ℕ) (e : Event) (old new : ActState) → Moves script n e old new →
    begin_left new.phase + one_if (is_begin_of n e) ≤ begin_left old.phase
begin_moved script n e old new (stays isnt) = let none = ap one_if (no_begin n e isnt) in omega (arith, none)
begin_moved script n e old new (further isnt calling more) = let none = ap one_if (no_begin n e isnt) in omega (arith, none)
begin_moved script n e old new initiates = omega (arith, most_one (accepted script n))
begin_moved script n e old new (comes_back at opened never) = omega arith
begin_moved script n e old new halts = omega arith
begin_moved script n e old new starts = let one = ap one_if (same-is n) in omega (arith, one)
begin_moved script n e old new enters = let one = ap one_if (same-is n) in omega (arith, one)
begin_moved script n e old new (finishes all) = omega arith
begin_moved script n e old new completes = omega arith
begin_moved script n e old new (destroys is isnt never) = omega arith

-- what the turns of the reactor leave: two for each act that wasn't taken, and one for each wait that is
-- pending, for each time of the world that is ahead and for the last point
abbrev pub turns_left : ScriptModel → ReactorHalf → ℕ
turns_left script r =
    untaken_left r.taken + length r.waits + length (times_after r.now script.world.lines) + one_unless r.last

taken_set : (taken : List Bool) (a : ℕ) → a < length taken → slice_index_or taken a false ≡ false →
    untaken_left (slice_set taken a true) + 2 ≤ untaken_left taken
taken_set taken a within was =
    let sums = sum_by-set one_unless taken a true false within in
    let one : one_unless (get_or taken a false) ≡ 1 = ap one_unless was in
    omega (arith, sums, one)

-- how many handlers may still begin
abbrev pub begins_left : State → ℕ
begins_left s = sum_by (λ (act : ActState). begin_left act.phase) s.context.acts

module _ (script : ScriptModel) (well : IsWellFormed script) (told : Bool) (s : State) (sound : IsSound script s)
    (ahead : AllAhead s.reactor) where
  abbrev After : Event → State
  After e = after_event script told s e

  abbrev r : ReactorHalf
  r = s.reactor

  each_begin : (e : Event) → MayHappen script told s e → (n : ℕ) →
      begin_left (phase_at (After e).context n) + one_if (is_begin_of n e) ≤ begin_left (phase_at s.context n)
  each_begin e may n =
      begin_moved script n e (act_at s.context n) (act_at (After e).context n) (moves_after script well told s sound e may n)

  as_long : (e : Event) → MayHappen script told s e → length (After e).context.acts ≡ length s.context.acts
  as_long e may = (sound_after script well told s sound e may).acts ∙ sym sound.acts

  no_more : (e : Event) → MayHappen script told s e → begins_left (After e) ≤ begins_left s
  no_more e may =
      sum_less (λ (act : ActState). begin_left act.phase) fresh (After e).context.acts s.context.acts (as_long e may)
      (λ n. let less = each_begin e may n in omega (arith, less))

  begins_there : (o : ℕ) (given : Code) (size : ℕ) → MayBegin script s.context o given size → o < length s.context.acts
  begins_there o given size may = elim may [
    | inl outside ↦
        is_there s.context o
        (λ absent. absurd (let wrong : phase.Absent ≡ phase.Ready given size outside.ready.0 = sym absent ∙
        outside.ready.1 in cc))
    | inr inside ↦
        is_there s.context o
        (λ absent. absurd (let wrong : phase.Absent ≡ phase.Inside = sym absent ∙ inside.inside in cc))
  ]

  -- a handler that begins leaves one less
  begins_fall : (e : Event) → MayHappen script told s e → begins_left (After e) + one_if (is_begin e) ≤ begins_left s
  begins_fall (event.Begin o given size) may =
      let e : Event = event.Begin o given size in
      let here = each_begin e may o in
      let one = ap one_if (same-is o) in
      let long = as_long e may in
      let within = begins_there o given size may in
      let less = sum_falls (λ (act : ActState). begin_left act.phase) fresh (After e).context.acts s.context.acts o long
      (omega (arith, long, within)) (omega (arith, here, one))
      (λ n. let less = each_begin e may n in omega (arith, less)) in
      omega (arith, less)
  begins_fall (event.Stop (Some a)) may = let less = no_more (event.Stop (Some a)) may in omega (arith, less)
  begins_fall (event.Stop None) may = let less = no_more (event.Stop None) may in omega (arith, less)
  begins_fall e may = let less = no_more e may in omega (arith, less)

  take_falls : (a : ℕ) → MayTake script s a → turns_left script (reactor_after_take script told r a) + 1 ≤ turns_left script r
  take_falls a may =
      let by : ReactorHalf = performed_by script a (act_of script a) r in
      let stays = kept script well told s sound a may in
      let settles = settle script well told s sound a may in
      let more = more_waits script a (act_of script a) r in
      let fewer = settled_fewer told (performed script a r) in
      let set = taken_set by.taken a
      (let same = ap length stays.taken in omega (arith, there script well told s sound a may, same))
      (ap (λ (taken : List Bool). slice_index_or taken a false) stays.taken ∙ untaken script well told s sound a may) in
      let one = ap untaken_left settles.taken in
      let two = ap untaken_left stays.taken in
      let three = ap (λ now. length (times_after now script.world.lines)) (settles.now ∙ stays.now) in
      let four = ap one_unless (settles.last ∙ stays.last) in
      omega (arith, more, fewer, set, one, two, three, four)

  tick_less : (now : ℕ) → MayTick script s now → turns_left script (After (event.Tick now)).reactor + 1 ≤ turns_left script r
  tick_less now may =
      let stays = stays_settled told (at_time script told now r) in
      let falls = tick_falls script told r now may.next in
      let times = ap (λ now. length (times_after now script.world.lines)) stays.now in
      let taken = ap untaken_left stays.taken in
      let last = ap one_unless stays.last in
      omega (arith, falls, times, taken, last)

  last_less : MayDrain script s → turns_left script (After event.Last).reactor + 1 ≤ turns_left script r
  last_less may =
      let stays = stays_settled told (at_last told r) in
      let fewer = settled_fewer told (at_last told r) in
      let times = ap (λ now. length (times_after now script.world.lines)) stays.now in
      let once : r.last ≡ false =
      false_from_ne_true r.last
      (last_once script r ahead may.idle.turn.told may.idle.turn.drained may.idle.pending may.next) in
      let taken = ap untaken_left stays.taken in
      let last = ap one_unless stays.last in
      let was = ap one_unless once in
      omega (arith, fewer, times, taken, last, was)

  -- a turn of the reactor leaves one less
  turns_fall : (e : Event) → MayHappen script told s e →
      turns_left script (After e).reactor + one_if (is_turn e) ≤ turns_left script r
  turns_fall (event.Take a) may = take_falls a may
  turns_fall (event.Tick now) may = tick_less now may
  turns_fall event.Last may = last_less may
  turns_fall (event.Done o given size) may =
      let stays = stays_told script o r in
      let waits = ap length (told_keeps script o r).waits in
      let times = ap (λ now. length (times_after now script.world.lines)) stays.now in
      let taken = ap untaken_left stays.taken in
      let last = ap one_unless stays.last in
      omega (arith, waits, times, taken, last)
  turns_fall (event.Stop (Some a)) may = omega arith
  turns_fall (event.Stop None) may = omega arith
  turns_fall e may = omega arith

-- the distinct numbers of a list are no more than its numbers
insert_one : (x : ℕ) (xs : List ℕ) → length (insert_time x xs) ≤ length xs + 1
insert_one x [] = omega arith
insert_one x (first ∷ rest) = by_tests (nat_lt x first) (x == first) (insert_one x rest)
  where
    by_tests : (less same : Bool) → length (insert_time x rest) ≤ length rest + 1 →
        length (cond less (x ∷ (first ∷ rest)) (cond same (first ∷ rest) (first ∷ insert_time x rest)))
        ≤ length (first ∷ rest) + 1
    by_tests true same more = omega arith
    by_tests false true more = omega arith
    by_tests false false more = omega (arith, more)

rising_few : (xs : List ℕ) → length (rising xs) ≤ length xs
rising_few [] = omega arith
rising_few (x ∷ xs) = omega (arith, rising_few xs, insert_one x (rising xs))

times_few : (now : ℕ) (lines : List Line) → length (times_after now lines) ≤ length lines
times_few now lines =
    let times : List ℕ = map (λ (line : Line). line.time) lines in
    let both = length-filter_both (λ time. nat_lt now time) (λ time. not (nat_lt now time)) (λ x. refl) times in
    let all = length-map lines (λ (line : Line). line.time) in
    omega (arith, rising_few (filter (λ time. nat_lt now time) times), both, all)

each_of : {X : Type 0} (f : X → ℕ) (x : X) (k n : ℕ) → f x ≡ n → sum_by f (replicate k x) ≡ n * k
each_of f x zero n is = omega arith
each_of f x (suc k) n is =
    let one = sum_by-cons f x (replicate k x) in omega (arith, one, is, each_of f x k n is)

-- what is counted
pub record IsBounded (script : ScriptModel) (told : Bool) (before : List Event) (s : State) : Type 0 where
  pub counted : IsCounted script told before s
  pub begins : count_by is_begin before + begins_left s ≤ begins_left (first_state script told)
  pub turns : count_by is_turn before + turns_left script s.reactor
      ≤ turns_left script (first_state script told).reactor

module _ (script : ScriptModel) (well : IsWellFormed script) (told : Bool) where
  bounded_next : (before : List Event) (s : State) (e : Event) → IsBounded script told before s →
      MayHappen script told s e → IsBounded script told (before ++ e ∷ []) (after_event script told s e)
  bounded_next before s e is may =
      let sound = is.counted.shown.sound in
      let begins = begins_fall script well told s sound is.counted.ahead e may in
      let turns = turns_fall script well told s sound is.counted.ahead e may in
      let one = count-push is_begin before e in
      let two = count-push is_turn before e in
      record {
        counted = counted_next script well told before s e is.counted may;
        begins = omega (arith, begins, one, is.begins);
        turns = omega (arith, turns, two, is.turns);
      }

  begins_first : begins_left (first_state script told) ≤ length script.acts
  begins_first =
      let acts = each_of (λ (act : ActState). begin_left act.phase) fresh (length script.acts) 1 refl in omega (arith, acts)

  turns_first : turns_left script (first_state script told).reactor ≤ 2 * length script.acts + length script.world.lines + 1
  turns_first =
      let taken = each_of one_unless false (length script.acts) 1 refl in
      let times = times_few 0 script.world.lines in
      omega (arith, taken, times)

  pub bounded : (events : List Event) → IsLegalSoFar script told events → WorkIsBounded script events
  bounded events legal =
      let is : IsBounded script told events (state_of script told events) =
      along script told (IsBounded script told) bounded_next [] (first_state script told)
      (record {
        counted = counted_so_far script well told [] tt;
        begins = omega arith;
        turns = omega arith;
      }) events legal in
      record {
        begins = omega (arith, is.begins, begins_first);
        turns = omega (arith, is.turns, turns_first);
        closings = (heeded script well told events legal).rounds;
      }
