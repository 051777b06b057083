-- What may still be shown falls at each event of the reactor.
use Rattle.std.proofs.Common.{◌≡◌, ◌≢◌, ℕ, zero, suc, ◌+◌, ◌*◌, ◌<◌, ◌≤◌, nat_lt, Bool, true, false, not, cond, List, [], ◌∷◌, Option, Some, None, inl, inr, filter, length, map, refl, sym, ap, ◌∙◌, arith}
use Rattle.std.specs.Prelude.{◌==◌, ◌||◌, replicate, slice_get, sum_by}
use Rattle.std.specs.List.{range_with_len, slice_index_or, slice_set}
use Rattle.std.proofs.Math.ListN.{length-set}
use Rattle.std.proofs.lemmas.Bool.{cases_eq, cases_lt, false_from_ne_true, ne_eqb}
use Rattle.std.proofs.lemmas.List.{get_or-replicate, get_or-set_other, get_or-set_same, length-map, length-replicate}
use Rattle.std.proofs.lemmas.List.Filters.{length-filter_both}
use Rattle.std.proofs.lemmas.List.Sums.{sum_by-cons}
use Rattle.std.proofs.lemmas.Option.{slice_get_past}
use Rattle.asio_types.specs.declared.code.Code.{Code}
use Rattle.asio_types.specs.declared.event.Event.{Event}
use Rattle.asio_types.specs.declared.event.Event.TheVariants as event
use Rattle.asio_types.specs.declared.outside.Point.TheVariants as point
use Rattle.asio_types.specs.declared.world.Line.{Line}
use Rattle.session_script.specs.declared.act.Act.{Act}
use Rattle.session_script.specs.Script.{ScriptModel, act_of}
use Rattle.session_script.specs.WellFormed.{IsWellFormed}
use Rattle.session_script.proofs.PlacingLemmas.{act_fits}
use Rattle.stream_rules.specs.World.{insert_time, rising, times_after}
use Rattle.history_rules.specs.Legal.{reactor_after}
use Rattle.history_rules.specs.Order.{was_taken}
use Rattle.history_rules.specs.Performing.{performed}
use Rattle.history_rules.specs.Requests.{MayTell, reactor_after_done, reactor_after_take}
use Rattle.history_rules.specs.State.{ReactorHalf, StreamQueues, first_reactor, no_queues}
use Rattle.history_rules.specs.Time.{at_last, at_time, pending_count, reactor_after_fault, reactor_after_last, reactor_after_tick}
use Rattle.reactor_turns.specs.Ahead.{IsHalfOf, IsOpenRequest, LeavesRoom, MayPassTo, MayShow, StartsBounded, events_ahead, most_turn_events, one_unless, shown_by_act, shown_by_request, untaken_shows}
use Rattle.reactor_turns.specs.Standing.{is_awaited, queued_of, stands}
use Rattle.history_rules.specs.Kinds.{is_control}
use Rattle.reactor_turns.proofs.ClockLemmas.{ahead-time, falls-tick, last-once, last-set, runs-last, runs-take, runs-tick, settled-ahead, time-done}
use Rattle.reactor_turns.proofs.PendingLemmas.{pending-done, pending-last, pending-take, pending-tick}
use Rattle.reactor_turns.proofs.StandingLemmas.{stands-done, stands-last, stands-take, stands-tick}
use Rattle.reactor_turns.proofs.StreamsLemmas.{done-size, last-size, take-size, tick-size}
use Rattle.reactor_turns.proofs.SummingLemmas.{one_if, summed, summed-apart, summed-less, summed-range, summed-same}
use Rattle.reactor_turns.proofs.TakenLemmas.{done-taken, last-taken, take-taken, tick-taken}

-- the distinct numbers of a list are no more than its numbers
length-insert : (x : ℕ) (xs : List ℕ) → length (insert_time x xs) ≤ length xs + 1
length-insert x [] = omega arith
length-insert x (first ∷ rest) = by_tests (nat_lt x first) (x == first) (length-insert x rest)
  where
    by_tests : (less same : Bool) → length (insert_time x rest) ≤ length rest + 1 →
        length (cond less (x ∷ (first ∷ rest)) (cond same (first ∷ rest) (first ∷ insert_time x rest)))
        ≤ length (first ∷ rest) + 1
    by_tests true same more = omega arith
    by_tests false true more = omega arith
    by_tests false false more = omega (arith, more)

length-rising : (xs : List ℕ) → length (rising xs) ≤ length xs
length-rising [] = omega arith
length-rising (x ∷ xs) =
    let rest = length-rising xs in let one = length-insert x (rising xs) in omega (arith, rest, one)

pub times-most : (now : ℕ) (lines : List Line) → length (times_after now lines) ≤ length lines
times-most now lines =
    let rises = length-rising (filter (λ time. nat_lt now time) (map (λ (line : Line). line.time) lines)) in
    let both =
    length-filter_both (λ time. nat_lt now time) (λ time. not (nat_lt now time)) (λ x. refl)
    (map (λ (line : Line). line.time) lines) in
    let all = length-map lines (λ (line : Line). line.time) in
    omega (arith, rises, both, all)

pub none_first : (xs : List StreamQueues) (count : ℕ) → xs ≡ replicate count no_queues →
    sum_by (λ queues. length queues.reads + length queues.writes) xs ≡ 0
none_first xs zero is = ap (sum_by (λ queues. length queues.reads + length queues.writes)) is
none_first xs (suc count) is =
    let same = ap (sum_by (λ (queues : StreamQueues). length queues.reads + length queues.writes)) is in
    let one =
    sum_by-cons (λ (queues : StreamQueues). length queues.reads + length queues.writes) no_queues (replicate count no_queues) in
    let rest = none_first (replicate count no_queues) count refl in
    omega (arith, same, one, rest)

-- what the requests may still show
abbrev requests_ahead : ScriptModel → ReactorHalf → ℕ
requests_ahead script half = sum_by (untaken_shows script half) (range_with_len 0 (length script.acts))

requests-same : (script : ScriptModel) (r t : ReactorHalf) → t.taken ≡ r.taken →
    requests_ahead script t ≡ requests_ahead script r
requests-same script r t same =
    ap (λ (taken : List Bool).
    sum_by (λ n. cond (slice_index_or taken n false) 0 (shown_by_act (act_of script n))) (range_with_len 0 (length script.acts)))
    same

act_within : (script : ScriptModel) (a : ℕ) (given : Act) → act_of script a ≡ Some given → a < length script.acts
act_within script a given is = elim (cases_lt a (length script.acts)) [
  | inl within ↦ within
  | inr past ↦
      let gone : slice_get script.acts a ≡ None = slice_get_past script.acts a past in
      let none : act_of script a ≡ None = rw gone refl in
      absurd (let wrong : None ≡ Some given = sym none ∙ is in cc)
]

-- where time doesn't move and the flags stay
falls : (script : ScriptModel) (r t : ReactorHalf) → t.taken ≡ r.taken → t.now ≡ r.now → t.last ≡ r.last →
    t.failed ≡ r.failed → length t.waits ≤ length r.waits → pending_count t + 1 ≤ pending_count r →
    events_ahead script t + 1 ≤ events_ahead script r
falls script r t taken now last failed waits pending =
    let requests = requests-same script r t taken in
    let times = ap (λ now. length (times_after now script.world.lines)) now in
    let lasts = ap one_unless last in
    let fails = ap one_unless failed in
    omega (arith, requests, times, lasts, fails, waits, pending)

weight_covers : (awaited control : Bool) → (awaited || control) ≡ true →
    1 + cond awaited 1 0 + cond awaited 1 0 ≤ cond awaited 3 (cond control 1 0)
weight_covers true control asks = omega arith
weight_covers false true asks = omega arith
weight_covers false false asks = absurd (cc)

none_more : (b : Bool) (k : ℕ) → k ≡ 0 → cond b k 0 ≡ 0
none_more true k none = none
none_more false k none = refl

-- a request is taken
module _ (script : ScriptModel) (told : Bool) (r : ReactorHalf) (a : ℕ) (well : IsWellFormed script)
    (fit : IsHalfOf script r) (request : IsOpenRequest script r a) where
  abbrev after_take : ReactorHalf
  after_take = reactor_after_take script told r a

  marks_after : after_take.taken ≡ slice_set r.taken a true
  marks_after = take-taken script told r a well

  taken_now : was_taken after_take a ≡ true
  taken_now =
      ap (λ (taken : List Bool). slice_index_or taken a false) marks_after
      ∙ get_or-set_same r.taken a true false (omega (arith, act_within script a request.act request.is, fit.marks))

  taken_other : (n : ℕ) → n ≢ a → was_taken after_take n ≡ was_taken r n
  taken_other n differ =
      ap (λ (taken : List Bool). slice_index_or taken n false) marks_after
      ∙ get_or-set_other r.taken a n true false differ

  requests_fall : requests_ahead script after_take + shown_by_request request.act ≤ requests_ahead script r
  requests_fall =
      let one = summed-range (untaken_shows script after_take) (length script.acts) in
      let two = summed-range (untaken_shows script r) (length script.acts) in
      let gone : untaken_shows script after_take a ≡ 0 =
      ap (λ b. cond b 0 (shown_by_act (act_of script a))) taken_now in
      let was : untaken_shows script r a ≡ shown_by_request request.act =
      ap (λ b. cond b 0 (shown_by_act (act_of script a))) request.untaken ∙ ap shown_by_act request.is in
      let less =
      summed-apart (untaken_shows script after_take) (untaken_shows script r) a (shown_by_request request.act)
      (length script.acts) (act_within script a request.act request.is) (omega (arith, gone, was))
      (λ m differ.
      let same : untaken_shows script after_take m ≡ untaken_shows script r m =
      ap (λ b. cond b 0 (shown_by_act (act_of script m))) (taken_other m differ) in
      omega (arith, same)) in
      omega (arith, one, two, less)

  stands_after : (n : ℕ) → was_taken after_take n ≡ false → stands n after_take ≡ 0
  stands_after n untaken = elim (cases_eq n a) [
    | inl same ↦
        absurd (let wrong : true ≡ false = sym taken_now ∙ ap (was_taken after_take) (sym same) ∙ untaken in cc)
    | inr differ ↦
        let before = fit.taken n (sym (taken_other n differ) ∙ untaken) in
        let more =
        stands-take n script told r a request.act request.is (act_fits script a well request.act request.is) fit.streams in
        let none =
        none_more (is_awaited request.act) (one_if (a == n)) (ap one_if (ne_eqb a n (λ same. differ (sym same)))) in
        omega (arith, before, more, none)
  ]

  pub take_leaves : LeavesRoom script r after_take
  take_leaves =
      let clock = runs-take script told r a request.act request.is in
      let pending =
      pending-take script told r a request.act request.is (act_fits script a well request.act request.is) fit.streams in
      let weighs = weight_covers (is_awaited request.act) (is_control request.act) request.asks in
      let times = ap (λ now. length (times_after now script.world.lines)) clock.now in
      let lasts = ap one_unless clock.last in
      let fails = ap one_unless clock.failed in
      record {
        is_half = record {
          marks = ap length marks_after ∙ length-set r.taken a true ∙ fit.marks;
          streams = take-size script told r a ∙ fit.streams;
          ahead = settled-ahead told (performed script a r);
          taken = stands_after;
        };
        fewer = omega (arith, requests_fall, weighs, pending, clock.waits, times, lasts, fails);
      }

-- a completion is told
pub done_leaves : (script : ScriptModel) (told : Bool) (r : ReactorHalf) (op : ℕ) (code : Code) (size : ℕ) →
    IsHalfOf script r → MayTell script told r op code size → LeavesRoom script r (reactor_after_done script r op)
done_leaves script told r op code size fit may =
    let t : ReactorHalf = reactor_after_done script r op in
    let taken : t.taken ≡ r.taken = done-taken script r op in
    let time = time-done script r op in
    let pending = pending-done script told r op code size may in
    let waits = ap length time.waits in
    record {
      is_half = record {
        marks = ap length taken ∙ fit.marks;
        streams = done-size script r op ∙ fit.streams;
        ahead = ahead-time r t time fit.ahead;
        taken = λ n untaken.
            let before = fit.taken n (ap (λ (marks : List Bool). slice_index_or marks n false) (sym taken) ∙ untaken) in
            let less = stands-done n script told r op code size may in
            omega (arith, before, less);
      };
      fewer = falls script r t taken time.now time.last time.failed (omega (arith, waits)) (omega (arith, pending));
    }

-- time moves to a point
pub tick_leaves : (script : ScriptModel) (told : Bool) (r : ReactorHalf) (now : ℕ) → IsHalfOf script r →
    MayPassTo script r (point.Time now) → LeavesRoom script r (reactor_after_tick script told r now)
tick_leaves script told r now fit may =
    let t : ReactorHalf = reactor_after_tick script told r now in
    let taken : t.taken ≡ r.taken = tick-taken script told r now in
    let clock = runs-tick script told r now in
    let requests = requests-same script r t taken in
    let pending = pending-tick script told r now in
    let less = falls-tick script told r now may.next in
    let times = ap (λ now. length (times_after now script.world.lines)) clock.now in
    let lasts = ap one_unless clock.last in
    let fails = ap one_unless clock.failed in
    record {
      is_half = record {
        marks = ap length taken ∙ fit.marks;
        streams = tick-size script told r now ∙ fit.streams;
        ahead = settled-ahead told (at_time script told now r);
        taken = λ n untaken.
            stands-tick n script told r now
            ∙ fit.taken n (ap (λ (marks : List Bool). slice_index_or marks n false) (sym taken) ∙ untaken);
      };
      fewer = omega (arith, requests, pending, less, times, lasts, fails);
    }

pub last_leaves : (script : ScriptModel) (told : Bool) (r : ReactorHalf) → IsHalfOf script r →
    MayPassTo script r point.Last → LeavesRoom script r (reactor_after_last told r)
last_leaves script told r fit may =
    let t : ReactorHalf = reactor_after_last told r in
    let taken : t.taken ≡ r.taken = last-taken told r in
    let clock = runs-last told r in
    let requests = requests-same script r t taken in
    let pending = pending-last told r in
    let once : r.last ≡ false =
    false_from_ne_true r.last (last-once script r fit.ahead may.told may.drained may.pending may.next) in
    let times = ap (λ now. length (times_after now script.world.lines)) clock.now in
    let before = ap one_unless once in
    let after = ap one_unless (last-set told r) in
    let fails = ap one_unless clock.failed in
    let waits : length t.waits ≤ length r.waits + 0 = clock.waits in
    record {
      is_half = record {
        marks = ap length taken ∙ fit.marks;
        streams = last-size told r ∙ fit.streams;
        ahead = settled-ahead told (at_last told r);
        taken = λ n untaken.
            stands-last n told r
            ∙ fit.taken n (ap (λ (marks : List Bool). slice_index_or marks n false) (sym taken) ∙ untaken);
      };
      fewer = omega (arith, requests, pending, waits, times, before, after, fails);
    }

-- the reactor fails
pub fault_leaves : (script : ScriptModel) (r : ReactorHalf) → IsHalfOf script r → r.failed ≡ false →
    LeavesRoom script r (reactor_after_fault r)
fault_leaves script r fit works =
    let fails = ap one_unless works in
    record {
      is_half = record {
        marks = fit.marks;
        streams = fit.streams;
        ahead = fit.ahead;
        taken = λ n untaken. let before = fit.taken n untaken in omega (arith, before);
      };
      fewer = omega (arith, fails);
    }

pub event_leaves : (script : ScriptModel) (told : Bool) (r : ReactorHalf) (shown : Event) → IsWellFormed script →
    IsHalfOf script r → MayShow script told r shown → LeavesRoom script r (reactor_after script told r shown)
event_leaves script told r (event.Take a) well fit may = take_leaves script told r a well fit may
event_leaves script told r (event.Done op code size) well fit may = done_leaves script told r op code size fit may
event_leaves script told r (event.Tick now) well fit may = tick_leaves script told r now fit may
event_leaves script told r event.Last well fit may = last_leaves script told r fit may
event_leaves script told r event.Fault well fit may = fault_leaves script r fit may
event_leaves script told r shown well fit may = absurd may

-- before the first turn
three_each : (n : ℕ) → summed (λ m. 3) n ≡ 3 * n
three_each zero = refl
three_each (suc n) = let rest = three_each n in omega (arith, rest)

three_most : (taken awaited control : Bool) → cond taken 0 (cond awaited 3 (cond control 1 0)) ≤ 3
three_most true awaited control = omega arith
three_most false true control = omega arith
three_most false false true = omega arith
three_most false false false = omega arith

shows_most : (taken : Bool) (given : Option Act) → cond taken 0 (shown_by_act given) ≤ 3
shows_most true None = omega arith
shows_most false None = omega arith
shows_most taken (Some given) = three_most taken (is_awaited given) (is_control given)

none_queued : (n count : ℕ) → sum_by (queued_of n) (replicate count no_queues) ≡ 0
none_queued n zero = refl
none_queued n (suc count) =
    let one = sum_by-cons (queued_of n) no_queues (replicate count no_queues) in
    let rest = none_queued n count in
    omega (arith, one, rest)

pub starts_bounded : (script : ScriptModel) (told : Bool) → StartsBounded script (first_reactor script told)
starts_bounded script told =
    let r : ReactorHalf = first_reactor script told in
    let each = summed-range (untaken_shows script r) (length script.acts) in
    let three =
    summed-less (untaken_shows script r) (λ m. 3) (length script.acts) (λ m. shows_most (was_taken r m) (act_of script m)) in
    let all = three_each (length script.acts) in
    let pending = none_first r.queues script.world.streams refl in
    let times = times-most 0 script.world.lines in
    record {
      is_half = record {
        marks = length-replicate (length script.acts) false;
        streams = length-replicate script.world.streams no_queues;
        ahead = λ k d below. absurd (omega (arith, below));
        taken = λ n untaken. let none = none_queued n script.world.streams in omega (arith, none);
      };
      bounded = omega (arith, each, three, all, pending, times);
    }
