-- What a history may still show falls at each of its events, stops from outside aside.
use Rattle.std.proofs.Common.{◌≡◌, ◌≢◌, ℕ, ◌+◌, ◌-◌, ◌*◌, ◌<◌, ◌≤◌, ◌==◌, Bool, true, false, cond, not, List, Some, None, inl, inr, length, get_or, refl, sym, ap, subst, ◌∙◌, arith}
use Rattle.std.specs.List.{slice_index_or, slice_set, sum_by}
use Rattle.std.proofs.lemmas.Bool.{false_from_ne_true}
use Rattle.std.proofs.lemmas.List.Sums.{sum_by-set}
use Rattle.asio_types.specs.Faults.{most_faults, one_more}
use Rattle.asio_types.specs.declared.event.Event.{Event}
use Rattle.asio_types.specs.declared.event.Event.TheVariants as event
use Rattle.session_script.specs.Lanes.{is_inline, lane_of}
use Rattle.session_script.specs.Limits.{limits_of}
use Rattle.session_script.specs.Script.{ScriptModel, act_of, is_op, is_stop, parent_of}
use Rattle.session_script.specs.WellFormed.{IsWellFormed}
use Rattle.stream_rules.specs.World.{times_after}
use Rattle.history_rules.specs.Bounds.{AllAhead}
use Rattle.history_rules.specs.Calls.{MayStop, is_made, is_open, returned, with_progress}
use Rattle.history_rules.specs.Executions.{begun}
use Rattle.history_rules.specs.FromOutside.{is_outside_stop}
use Rattle.history_rules.specs.Kinds.{is_act}
use Rattle.history_rules.specs.Legal.{MayHappen, after_event}
use Rattle.history_rules.specs.Performing.{performed, performed_by}
use Rattle.history_rules.specs.Requests.{MayTake, reactor_after_take}
use Rattle.history_rules.specs.Rounds.{is_unspent}
use Rattle.history_rules.specs.declared.phase.CallPhase.{CallPhase}
use Rattle.history_rules.specs.declared.phase.CallPhase.TheVariants as call
use Rattle.history_rules.specs.State.{ContextState, ReactorHalf, State, act_at, call_at, fresh, phase_at, with_act}
use Rattle.history_rules.specs.Time.{MayDrain, MayTick, at_last, at_time}
use Rattle.history_rules.specs.declared.phase.ActPhase.TheVariants as phase
use Rattle.history_rules.specs.declared.phase.Step.TheVariants as step
use Rattle.history_laws.proofs.ClockLemmas.{ahead_kept, last_once, more_waits, settled_ahead, settled_fewer, tick_falls, told_keeps}
use Rattle.history_laws.proofs.CountLemmas.{one_if, one_more-is, same-is}
use Rattle.history_laws.proofs.FallingLemmas.{act_left, left_moved, sum_falls}
use Rattle.history_laws.proofs.HistoryLemmas.{moves_after}
use Rattle.history_laws.proofs.KindLemmas.{stop_no_op}
use Rattle.history_laws.proofs.Moves.{is_about}
use Rattle.history_laws.proofs.MovingLemmas.{called_within, finished_in, open_within, return_open}
use Rattle.history_laws.proofs.ReactorLemmas.{stays_settled, stays_told}
use Rattle.history_laws.proofs.Sound.{IsSound}
use Rattle.history_laws.proofs.SoundLemmas.{spent_by}
use Rattle.history_laws.proofs.StepLemmas.{is_there, limited_by, steps_by}
use Rattle.history_laws.proofs.TakingLemmas.{kept, settle, there, untaken}
use Rattle.history_laws.proofs.TurnSoundLemmas.{requested, sound_after}

abbrev pub one_unless : Bool → ℕ
one_unless happened = cond happened 0 1

-- two for each act that wasn't taken: its take, and the tick to the expiry of a wait
abbrev pub untaken_left : List Bool → ℕ
untaken_left taken = 2 * sum_by one_unless taken

-- a tick to each wait's expiry and to each time of the world, the last time point, and a failure
abbrev pub half_left : ScriptModel → ReactorHalf → ℕ
half_left script r =
    untaken_left r.taken + length r.waits + length (times_after r.now script.world.lines) + one_unless r.last
    + one_unless r.failed

-- the end of each round, and its restart
abbrev pub rounds_left : ℕ → Bool → ℕ
rounds_left rounds restarted = rounds + cond restarted (rounds - 1) rounds

abbrev pub left : ScriptModel → State → ℕ
left script s =
    sum_by act_left s.context.acts + half_left script s.reactor
    + rounds_left (length script.rounds - s.context.closings) s.context.restarted

-- that it isn't a stop from outside
abbrev pub counts : Event → Bool
counts e = not (is_outside_stop e)

-- what either version allows
pub rounds_allowed : (version : ℕ) → (limits_of version).rounds ≤ 64
unfolding limits_of
rounds_allowed version = by_version (version == 1)
  where
    by_version : (first : Bool) → cond first 16 64 ≤ 64
    by_version true = omega arith
    by_version false = omega arith

pub lines_allowed : (version : ℕ) → (limits_of version).lines ≤ 1024
unfolding limits_of
lines_allowed version = by_version (version == 1)
  where
    by_version : (first : Bool) → cond first 256 1024 ≤ 1024
    by_version true = omega arith
    by_version false = omega arith

made_is_open : (made : CallPhase) → is_made made ≡ true → is_open made ≡ true
made_is_open (call.Open called) is = refl
made_is_open _ is = absurd (cc)

rounds_fall : (rounds closings : ℕ) (restarted : Bool) → closings < rounds →
    rounds_left (rounds - (closings + 1)) false + 1 ≤ rounds_left (rounds - closings) restarted
rounds_fall rounds closings true less = omega (arith, less)
rounds_fall rounds closings false less = omega (arith, less)

untaken_set : (taken : List Bool) (a : ℕ) → a < length taken → slice_index_or taken a false ≡ false →
    untaken_left (slice_set taken a true) + 2 ≤ untaken_left taken
untaken_set taken a within was =
    let sums = sum_by-set one_unless taken a true false within in
    let one : one_unless (get_or taken a false) ≡ 1 = ap one_unless was in
    omega (arith, sums, one)

module _ (script : ScriptModel) (well : IsWellFormed script) (told : Bool) (s : State) (sound : IsSound script s)
    (ahead : AllAhead s.reactor) where
  abbrev c : ContextState
  c = s.context

  abbrev r : ReactorHalf
  r = s.reactor

  abbrev After : Event → State
  After e = after_event script told s e

  -- no stop is an operation
  stop_only : (e : Event) → MayHappen script told s e → (n : ℕ) → e ≡ event.Stop (Some n) → is_op script n ≡ false
  stop_only e may n is =
      stop_no_op script n (let it : MayStop script c n = subst (MayHappen script told s) is may in it.stops)

  each_falls : (e : Event) → MayHappen script told s e → (n : ℕ) →
      act_left (act_at (After e).context n) + one_if (is_about n e) ≤ act_left (act_at c n)
  each_falls e may n =
      left_moved script n e (act_at c n) (act_at (After e).context n) (moves_after script well told s sound e may n)
      (sound.kinds n) (stop_only e may n)

  -- an event of one act
  acts_fall : (e : Event) → MayHappen script told s e → (a : ℕ) → (is_about a e) ≡ true → a < length c.acts →
      sum_by act_left (After e).context.acts + 1 ≤ sum_by act_left c.acts
  acts_fall e may a about within =
      let long : length (After e).context.acts ≡ length c.acts =
      (sound_after script well told s sound e may).acts ∙ sym sound.acts in
      let here = each_falls e may a in
      let one = ap one_if about in
      sum_falls act_left fresh (After e).context.acts c.acts a long (omega (arith, within, long))
      (omega (arith, here, one)) (λ n. let less = each_falls e may n in omega (arith, less))

  -- what falls where the context alone changes
  context_falls : (e : Event) → MayHappen script told s e → (a : ℕ) → is_about a e ≡ true → a < length c.acts →
      (After e).reactor ≡ r → (After e).context.closings ≡ c.closings → (After e).context.restarted ≡ c.restarted →
      left script (After e) + 1 ≤ left script s
  context_falls e may a about within half closings restarted =
      let less = acts_fall e may a about within in
      let one = ap (half_left script) half in
      let two : rounds_left (length script.rounds - (After e).context.closings) (After e).context.restarted
      ≡ rounds_left (length script.rounds - c.closings) c.restarted =
      ap (λ (k : ℕ). rounds_left (length script.rounds - k) (After e).context.restarted) closings
      ∙ ap (rounds_left (length script.rounds - c.closings)) restarted in
      omega (arith, less, one, two)

  became_within : (n : ℕ) → phase_at c n ≢ phase.Absent → n < length c.acts
  became_within n became = is_there c n became

  half_moved : (u : ReactorHalf) (k : ℕ) → u.taken ≡ r.taken → u.last ≡ r.last → u.failed ≡ r.failed →
      length u.waits + length (times_after u.now script.world.lines) + k
      ≤ length r.waits + length (times_after r.now script.world.lines) → half_left script u + k ≤ half_left script r
  half_moved u k taken last failed less =
      let one = ap untaken_left taken in
      let two = ap one_unless last in
      let three = ap one_unless failed in omega (arith, one, two, three, less)

  take_falls : (a : ℕ) → MayTake script s a → half_left script (reactor_after_take script told r a) + 1 ≤ half_left script r
  take_falls a may =
      let by : ReactorHalf = performed_by script a (act_of script a) r in
      let stays = kept script well told s sound a may in
      let settles = settle script well told s sound a may in
      let more = more_waits script a (act_of script a) r in
      let fewer = settled_fewer told (performed script a r) in
      let set = untaken_set by.taken a
      (let same = ap length stays.taken in omega (arith, there script well told s sound a may, same))
      (ap (λ (taken : List Bool). slice_index_or taken a false) stays.taken ∙ untaken script well told s sound a may) in
      let one = ap untaken_left settles.taken in
      let two = ap untaken_left stays.taken in
      let three = ap (λ now. length (times_after now script.world.lines)) (settles.now ∙ stays.now) in
      let four = ap one_unless (settles.last ∙ stays.last) in
      let five = ap one_unless (settles.failed ∙ stays.failed) in
      omega (arith, more, fewer, set, one, two, three, four, five)

  tick_left : (now : ℕ) → MayTick script s now → half_left script (After (event.Tick now)).reactor + 1 ≤ half_left script r
  tick_left now may =
      let stays = stays_settled told (at_time script told now r) in
      let falls = tick_falls script told r now may.next in
      let times = ap (λ now. length (times_after now script.world.lines)) stays.now in
      half_moved (After (event.Tick now)).reactor 1 stays.taken stays.last stays.failed (omega (arith, falls, times))

  last_left : MayDrain script s → half_left script (After event.Last).reactor + 1 ≤ half_left script r
  last_left may =
      let stays = stays_settled told (at_last told r) in
      let fewer = settled_fewer told (at_last told r) in
      let times = ap (λ now. length (times_after now script.world.lines)) stays.now in
      let once : r.last ≡ false =
      false_from_ne_true r.last
      (last_once script r ahead may.idle.turn.told may.idle.turn.drained may.idle.pending may.next) in
      let one = ap untaken_left stays.taken in
      let two = ap one_unless stays.last in
      let three = ap one_unless stays.failed in
      let four = ap one_unless once in
      omega (arith, fewer, times, one, two, three, four)

  few_rounds : c.closings < length script.rounds → c.closings < most_faults
  few_rounds less = omega (arith, less, well.round_count, rounds_allowed script.version)

  -- each event leaves it one less
  pub falls : (e : Event) → MayHappen script told s e → left script (After e) + one_if (counts e) ≤ left script s
  falls (event.Call a) may =
      let steps = steps_by (parent_of script a) step.Made c in
      context_falls (event.Call a) may a (same-is a) (called_within script well told s sound a may) refl steps.closings
      steps.restarted
  falls (event.Back a) may =
      let d : ContextState = with_act c a (record (act_at c a) { call = returned c.events (call_at c a) }) in
      let steps = steps_by (parent_of script a) step.Back d in
      let limits = limited_by script (parent_of script a) a (is_act is_stop script a)
      (with_progress (parent_of script a) step.Back d) in
      context_falls (event.Back a) may a (same-is a)
      (open_within script well told s sound a (return_open script well told s sound a may)) refl
      (limits.closings ∙ steps.closings) (limits.restarted ∙ steps.restarted)
  falls (event.Stop (Some a)) may =
      context_falls (event.Stop (Some a)) may a (same-is a)
      (open_within script well told s sound a (made_is_open (call_at c a) may.made)) refl refl refl
  falls (event.Stop None) may = omega arith
  falls (event.Begin o code size) may =
      let spent = spent_by (is_inline script o) (lane_of script o) (begun c o code) in
      context_falls (event.Begin o code size) may o (same-is o)
      (elim may [
        | inl outside ↦
            became_within o
            (λ absent. absurd (let wrong : phase.Absent ≡ phase.Ready code size outside.ready.0 = sym absent ∙
            outside.ready.1 in cc))
        | inr inside ↦
            became_within o (λ absent. absurd (let wrong : phase.Absent ≡ phase.Inside = sym absent ∙ inside.inside in cc))
      ]) refl spent.closings spent.restarted
  falls (event.End o mark) may =
      let runs = finished_in script o (phase_at c o) may in
      context_falls (event.End o mark) may o (same-is o)
      (became_within o
      (λ absent. absurd (let wrong : phase.Absent ≡ phase.Running runs.0 runs.1 = sym absent ∙ runs.2 in cc))) refl refl refl
  falls (event.Dropped o mark) may =
      context_falls (event.Dropped o mark) may o (same-is o)
      (became_within o (λ absent. absurd (let wrong : false ≡ true = sym (ap is_unspent absent) ∙ may.next.left in cc))) refl refl
      refl
  falls (event.Done o code size) may =
      let e : Event = event.Done o code size in
      let asks = requested script well told s sound o code size may in
      let less = acts_fall e may o (same-is o)
      (became_within o (λ absent. absurd (let wrong : phase.Absent ≡ phase.Requested = sym absent ∙ asks in cc))) in
      let stays = stays_told script o r in
      let waits = ap length (told_keeps script o r).waits in
      let times = ap (λ now. length (times_after now script.world.lines)) stays.now in
      let half = half_moved (After e).reactor 0 stays.taken stays.last stays.failed (omega (arith, waits, times)) in
      omega (arith, less, half)
  falls (event.Take a) may = let half = take_falls a may in omega (arith, half)
  falls (event.Tick now) may = let half = tick_left now may in omega (arith, half)
  falls event.Last may = let half = last_left may in omega (arith, half)
  falls event.Fault may = let works = ap one_unless may.once in omega (arith, works)
  falls event.Ended may =
      let more = one_more-is c.closings (few_rounds may.round.begun.left) in
      let fall = rounds_fall (length script.rounds) c.closings c.restarted may.round.begun.left in
      let same = ap (λ (k : ℕ). rounds_left (length script.rounds - k) false) more in omega (arith, fall, same)
  falls event.Stopped may =
      let more = one_more-is c.closings (few_rounds may.round.begun.left) in
      let fall = rounds_fall (length script.rounds) c.closings c.restarted may.round.begun.left in
      let same = ap (λ (k : ℕ). rounds_left (length script.rounds - k) false) more in omega (arith, fall, same)
  falls event.Polled may =
      let more = one_more-is c.closings (few_rounds may.round.begun.left) in
      let fall = rounds_fall (length script.rounds) c.closings c.restarted may.round.begun.left in
      let same = ap (λ (k : ℕ). rounds_left (length script.rounds - k) false) more in omega (arith, fall, same)
  falls event.Restart may =
      let once : rounds_left (length script.rounds - c.closings) c.restarted ≡
      rounds_left (length script.rounds - c.closings) false =
      ap (rounds_left (length script.rounds - c.closings)) may.once in
      let less = may.begun.left in omega (arith, once, less)

  -- and the waits stay ahead
  pub stays_ahead : (e : Event) → MayHappen script told s e → AllAhead (After e).reactor
  stays_ahead (event.Take a) may = settled_ahead told (performed script a r)
  stays_ahead (event.Tick now) may = settled_ahead told (at_time script told now r)
  stays_ahead event.Last may = settled_ahead told (at_last told r)
  stays_ahead (event.Done o code size) may = ahead_kept r (After (event.Done o code size)).reactor (told_keeps script o r) ahead
  stays_ahead event.Fault may = ahead
  stays_ahead (event.Call a) may = ahead
  stays_ahead (event.Back a) may = ahead
  stays_ahead (event.Stop (Some a)) may = ahead
  stays_ahead (event.Stop None) may = ahead
  stays_ahead (event.Begin o code size) may = ahead
  stays_ahead (event.End o mark) may = ahead
  stays_ahead event.Ended may = ahead
  stays_ahead event.Stopped may = ahead
  stays_ahead event.Polled may = ahead
  stays_ahead event.Restart may = ahead
  stays_ahead (event.Dropped o mark) may = ahead

  -- the count of events rises by one
  pub counted_after : (e : Event) → MayHappen script told s e →
      (After e).context.events ≡ cond (counts e) (one_more c.events) c.events
  counted_after (event.Call a) may = ap one_more (steps_by (parent_of script a) step.Made c).events
  counted_after (event.Back a) may =
      let d : ContextState = with_act c a (record (act_at c a) { call = returned c.events (call_at c a) }) in
      let limits = limited_by script (parent_of script a) a (is_act is_stop script a)
      (with_progress (parent_of script a) step.Back d) in
      ap one_more (limits.events ∙ (steps_by (parent_of script a) step.Back d).events)
  counted_after (event.Begin o code size) may =
      ap one_more (spent_by (is_inline script o) (lane_of script o) (begun c o code)).events
  counted_after (event.Stop (Some a)) may = refl
  counted_after (event.Stop None) may = refl
  counted_after (event.End o mark) may = refl
  counted_after (event.Take a) may = refl
  counted_after (event.Done o code size) may = refl
  counted_after (event.Tick now) may = refl
  counted_after event.Last may = refl
  counted_after event.Fault may = refl
  counted_after event.Ended may = refl
  counted_after event.Stopped may = refl
  counted_after event.Polled may = refl
  counted_after event.Restart may = refl
  counted_after (event.Dropped o mark) may = refl
