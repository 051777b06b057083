-- A legal history is short, and its events are counted.
use Rattle.std.proofs.Common.{◌≡◌, ℕ, ◌+◌, ◌*◌, ◌<◌, ◌≤◌, ◌==◌, nat_lt, zero, suc, Bool, true, false, cond, not, List, [], ◌∷◌, ◌++◌, filter, length, map, replicate, refl, sym, ◌∙◌, arith}
use Rattle.std.specs.List.{count_by, sum_by}
use Rattle.std.proofs.lemmas.List.{length-map}
use Rattle.std.proofs.lemmas.List.Filters.{length-filter_both}
use Rattle.std.proofs.lemmas.List.Sums.{sum_by-cons}
use Rattle.asio_types.specs.Faults.{most_faults, one_more}
use Rattle.asio_types.specs.declared.event.Event.{Event}
use Rattle.asio_types.specs.declared.world.Line.{Line}
use Rattle.session_script.specs.Script.{ScriptModel}
use Rattle.session_script.specs.WellFormed.{IsWellFormed}
use Rattle.session_script.proofs.PlacesLemmas.{acts_allowed}
use Rattle.stream_rules.specs.World.{insert_time, rising, times_after}
use Rattle.history_rules.specs.Bounds.{AllAhead}
use Rattle.history_rules.specs.Legal.{IsLegalSoFar, MayHappen, after_event, state_of}
use Rattle.history_rules.specs.State.{State, first_state, fresh}
use Rattle.history_laws.specs.Length.{HistoriesAreShort}
use Rattle.history_laws.proofs.CountLemmas.{count-push, one_if, one_more-is}
use Rattle.history_laws.proofs.FallingLemmas.{act_left}
use Rattle.history_laws.proofs.HistoryLemmas.{first_shown, shown_after}
use Rattle.history_laws.proofs.LeftLemmas.{counted_after, counts, falls, left, lines_allowed, one_unless, rounds_allowed, stays_ahead}
use Rattle.history_laws.proofs.ReachLemmas.{along}
use Rattle.history_laws.proofs.Shown.{IsShown}

-- the distinct numbers of a list are no more than its numbers
insert_one : (x : ℕ) (xs : List ℕ) → length (insert_time x xs) ≤ length xs + 1
insert_one x [] = omega arith
insert_one x (first ∷ rest) = by_tests (nat_lt x first) (x == first) (insert_one x rest)
  where
    by_tests : (less same : Bool) → length (insert_time x rest) ≤ length rest + 1 →
        length (cond less (x ∷ (first ∷ rest)) (cond same (first ∷ rest) (first ∷ insert_time x rest)))
        ≤ length (first ∷ rest) + 1
    by_tests true same more = omega arith
    by_tests false true more = omega arith
    by_tests false false more = omega (arith, more)

rising_few : (xs : List ℕ) → length (rising xs) ≤ length xs
rising_few [] = omega arith
rising_few (x ∷ xs) = omega (arith, rising_few xs, insert_one x (rising xs))

times_few : (now : ℕ) (lines : List Line) → length (times_after now lines) ≤ length lines
times_few now lines =
    let times : List ℕ = map (λ (line : Line). line.time) lines in
    let both = length-filter_both (λ time. nat_lt now time) (λ time. not (nat_lt now time)) (λ x. refl) times in
    let all = length-map lines (λ (line : Line). line.time) in
    omega (arith, rising_few (filter (λ time. nat_lt now time) times), both, all)

each_of : {X : Type 0} (f : X → ℕ) (x : X) (k n : ℕ) → f x ≡ n → sum_by f (replicate k x) ≡ n * k
each_of f x zero n is = omega arith
each_of f x (suc k) n is =
    let one = sum_by-cons f x (replicate k x) in omega (arith, one, is, each_of f x k n is)

-- what is counted of a history
pub record IsCounted (script : ScriptModel) (told : Bool) (before : List Event) (s : State) : Type 0 where
  pub shown : IsShown script before s
  pub ahead : AllAhead s.reactor
  pub count : count_by counts before + left script s ≤ left script (first_state script told)
  pub events : s.context.events ≡ count_by counts before

module _ (script : ScriptModel) (well : IsWellFormed script) (told : Bool) where
  first_few : left script (first_state script told) ≤ 7 * length script.acts + 1154
  first_few =
      let acts = each_of act_left fresh (length script.acts) 5 refl in
      let taken = each_of one_unless false (length script.acts) 1 refl in
      let times = times_few 0 script.world.lines in
      omega (
        arith,
        acts,
        taken,
        times,
        well.line_count,
        lines_allowed script.version,
        well.round_count,
        rounds_allowed
            script.version,
      )

  few_events : (n : ℕ) → n + 0 ≤ left script (first_state script told) → n < most_faults
  few_events n less = omega (arith, less, first_few, well.acts.count, acts_allowed script.version)

  counted_one : (b : Bool) (k n events : ℕ) → k < most_faults → k ≡ n → events ≡ cond b (one_more k) k →
      events ≡ n + one_if b
  counted_one true k n events few same is = let more = one_more-is k few in omega (arith, more, same, is)
  counted_one false k n events few same is = omega (arith, same, is)

  pub counted_next : (before : List Event) (s : State) (e : Event) → IsCounted script told before s →
      MayHappen script told s e → IsCounted script told (before ++ e ∷ []) (after_event script told s e)
  counted_next before s e counted may =
      let less = falls script well told s counted.shown.sound counted.ahead e may in
      let pushed = count-push counts before e in
      let rose = counted_after script well told s counted.shown.sound counted.ahead e may in
      record {
        shown = shown_after script well told s counted.shown.sound before counted.shown e may;
        ahead = stays_ahead script well told s counted.shown.sound counted.ahead e may;
        count = omega (arith, less, pushed, counted.count);
        events =
            counted_one (counts e) s.context.events (count_by counts before) (after_event script told s e).context.events
            (few_events s.context.events (omega (arith, counted.count, counted.events))) counted.events rose
            ∙ sym pushed;
      }

  first_counted : IsCounted script told [] (first_state script told)
  first_counted = record {
    shown = first_shown script well told;
    ahead = λ k d within. absurd (omega (arith, within));
    count = omega arith;
    events = refl;
  }

  -- each legal history is counted
  pub counted_so_far : (events : List Event) → IsLegalSoFar script told events →
      IsCounted script told events (state_of script told events)
  counted_so_far events legal =
      along script told (IsCounted script told) counted_next [] (first_state script told) first_counted events legal

  pub short : (events : List Event) → IsLegalSoFar script told events → HistoriesAreShort script events
  short events legal = let counted = counted_so_far events legal in omega (arith, counted.count, first_few)

  -- its count of events hasn't come to its end
  pub few_so_far : (before : List Event) (s : State) → IsCounted script told before s → s.context.events < most_faults
  few_so_far before s counted = few_events s.context.events (omega (arith, counted.count, counted.events))
