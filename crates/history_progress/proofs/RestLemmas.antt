-- What may happen next in an open round in done no handler runs.
use Rattle.std.proofs.Common.{◌≡◌, ◌≢◌, ◌⊎◌, ℕ, ◌+◌, ◌<◌, ◌≤◌, ◌==◌, nat_lt, Bool, true, false, not, ◌&&◌, List, [], ◌∷◌, Option, Some, None, inl, inr, length, refl, sym, ap, ◌∙◌, arith}
use Rattle.std.specs.List.{All, count_by, range_with_len, slice_index_or, sum_by}
use Rattle.std.specs.Prelude.{slice_get}
use Rattle.std.proofs.lemmas.Bool.{cases_Bool, cases_eq, cases_lt}
use Rattle.std.proofs.lemmas.Bool.Decides.{nat_tests}
use Rattle.std.proofs.lemmas.List.{get_or_past}
use Rattle.std.proofs.lemmas.List.Elements.{All-from_get_or}
use Rattle.std.proofs.lemmas.List.Sums.{sum_by-cons}
use Rattle.asio_types.specs.declared.code.Code.{Code}
use Rattle.asio_types.specs.declared.code.Code.TheVariants as code
use Rattle.asio_types.specs.declared.event.Event.{Event}
use Rattle.asio_types.specs.declared.event.Event.TheVariants as event
use Rattle.asio_types.specs.declared.number.Lane.{Lane}
use Rattle.asio_types.specs.declared.number.Lane.TheVariants as lane
use Rattle.asio_types.specs.declared.outside.Point.{Point}
use Rattle.asio_types.specs.declared.outside.Point.TheVariants as point
use Rattle.session_script.specs.declared.act.Act.{Act}
use Rattle.session_script.specs.declared.act.Act.TheVariants as act
use Rattle.session_script.specs.declared.round.Pace.TheVariants as pace
use Rattle.session_script.specs.declared.round.Round.{Round}
use Rattle.session_script.specs.Lanes.{lane_of}
use Rattle.session_script.specs.Script.{ScriptModel, act_of, opening_of}
use Rattle.session_script.specs.WellFormed.{IsWellFormed}
use Rattle.session_script.proofs.PlacingLemmas.{act_fits, has_parent}
use Rattle.lane_map.proofs.PlaceLemmas.{IsKnown, lanes_are_known}
use Rattle.stream_rules.specs.Serving.{Outcome}
use Rattle.stream_rules.specs.declared.queue.Completion.{Completion}
use Rattle.history_rules.specs.Calls.{is_open}
use Rattle.history_rules.specs.Legal.{IsWhole}
use Rattle.history_rules.specs.Order.{IsFirstOfLane, IsFirstRequest, called_at, goes_before, is_back_before, is_before, is_ready_before, is_request, is_untaken, was_taken}
use Rattle.history_rules.specs.Performing.{is_of, is_wait_for}
use Rattle.history_rules.specs.Requests.{MayTurn}
use Rattle.history_rules.specs.Rounds.{AllClosed, AllQuiet, IsDrained, IsOver, RoundIsOpen, is_act_outstanding, is_outstanding, is_quiet, is_run, is_running, is_unspent, outstanding_work, restarts, runs, this_round}
use Rattle.history_rules.specs.State.{Allowances, ContextState, ReactorHalf, State, StreamQueues, act_at, call_at, fresh, phase_at}
use Rattle.history_rules.specs.Stopping.{allowance_of}
use Rattle.history_rules.specs.Time.{next_time, pending_count}
use Rattle.history_rules.specs.Untold.{IsToldAs, may_have_moved}
use Rattle.history_rules.specs.declared.phase.ActPhase.{ActPhase}
use Rattle.history_rules.specs.declared.phase.ActPhase.TheVariants as phase
use Rattle.history_rules.specs.declared.phase.ActState.{ActState}
use Rattle.history_rules.specs.declared.phase.Allowance.TheVariants as allowance
use Rattle.history_rules.specs.declared.phase.CallPhase.{CallPhase}
use Rattle.history_rules.specs.declared.phase.CallPhase.TheVariants as call
use Rattle.history_rules.specs.declared.phase.Cause.{Cause}
use Rattle.history_rules.specs.declared.phase.Cause.TheVariants as cause
use Rattle.history_laws.proofs.CountLemmas.{same-is}
use Rattle.history_laws.proofs.Sound.{IsSound, pending_of, queued_of}
use Rattle.history_laws.proofs.TurnSoundLemmas.{inside_open}
use Rattle.history_progress.proofs.FreeLemmas.{AllFree, no_call_open}
use Rattle.history_progress.proofs.GoesLemmas.{Goes, opening_goes, runs_goes}
use Rattle.history_progress.proofs.LeastLemmas.{IsLeast, count_most, least_below, none_counted, some_set}
use Rattle.history_progress.proofs.OrderlyLemmas.{CalledBy, IsDated, ReadyBy, ReadyIn}
use Rattle.history_progress.proofs.StateLemmas.{IsOrderly}

-- what completes may be told somehow
abbrev Sized : Option Act → Type 0
Sized (Some (act.ReadAll stream size strand slot filter)) = 1 ≤ size
Sized (Some (act.WriteAll stream bytes strand slot filter)) = 1 ≤ length bytes
Sized _ = Unit {0}

more_than_none : (n : ℕ) → 1 ≤ n → nat_lt 0 n ≡ true
more_than_none n some = grind (arith, nat_tests, some)

tells_untold : (given : Option Act) (of : Code) (size : ℕ) → Sized given → (moved : ℕ) × (may_have_moved given of size moved ≡ true)
tells_untold (Some (act.ReadAll stream all strand slot filter)) code.Aborted size sized = (0, more_than_none all sized)
tells_untold (Some (act.WriteAll stream bytes strand slot filter)) code.Aborted size sized =
    (0, more_than_none (length bytes) sized)
tells_untold given of size sized = (size, same-is size)

tells : (told : Bool) (given : Option Act) (outcome : Outcome) → Sized given →
    (size : ℕ) × IsToldAs told given outcome outcome.0 size
tells true given outcome sized = (outcome.1, refl)
tells false given outcome sized =
    let moved = tells_untold given outcome.0 outcome.1 sized in (moved.0, (refl, moved.1))

sized_act : (script : ScriptModel) (n : ℕ) → IsWellFormed script → (given : Option Act) → act_of script n ≡ given → Sized given
sized_act script n well (Some (act.ReadAll stream size strand slot filter)) is =
    (act_fits script n well (act.ReadAll stream size strand slot filter) is).1.0
sized_act script n well (Some (act.WriteAll stream bytes strand slot filter)) is =
    (act_fits script n well (act.WriteAll stream bytes strand slot filter) is).1.0
sized_act script n well given is = tt

-- the place at done a handler became ready, or its posting was back
abbrev is_ready : ActPhase → Bool
is_ready phase.Absent = false
is_ready phase.Inside = false
is_ready phase.Requested = false
is_ready (phase.Ready given size why) = true
is_ready (phase.Running class progress) = false
is_ready phase.Ended = false
is_ready phase.Dropped = false
is_ready phase.Asked = false

abbrev back_of : CallPhase → ℕ
back_of call.Uncalled = 0
back_of (call.Open called) = 0
back_of (call.Stopping called) = 0
back_of (call.Back called back) = back

abbrev place_by : CallPhase → Cause → ℕ
place_by made cause.Posted = back_of made
place_by made (cause.Completed done turn) = done

abbrev place_in : CallPhase → ActPhase → ℕ
place_in made phase.Absent = 0
place_in made phase.Inside = 0
place_in made phase.Requested = 0
place_in made (phase.Ready given size why) = place_by made why
place_in made (phase.Running class progress) = 0
place_in made phase.Ended = 0
place_in made phase.Dropped = 0
place_in made phase.Asked = 0

less_than : (m n : ℕ) → nat_lt m n ≡ true → m < n
less_than m n is = grind (arith, nat_tests, is)

-- where a call that isn't open was made is no later than where it was back
called_back : (k : ℕ) (made : CallPhase) → CalledBy k made → is_open made ≡ false → called_at made ≤ back_of made
called_back k call.Uncalled by closed = omega arith
called_back k (call.Open called) by closed = absurd (cc)
called_back k (call.Stopping called) by closed = absurd (cc)
called_back k (call.Back called back) by closed = by

back_before : (place : ℕ) (made : CallPhase) → is_back_before place made ≡ true → back_of made < place
back_before place call.Uncalled is = absurd (cc)
back_before place (call.Open called) is = absurd (cc)
back_before place (call.Stopping called) is = absurd (cc)
back_before place (call.Back called back) is = less_than back place is

before_by : (k : ℕ) (first second : CallPhase) (why because : Cause) → CalledBy k second → is_open second ≡ false →
    ReadyBy because → is_before first why second because ≡ true → place_by first why < place_by second because
before_by k first second cause.Posted cause.Posted called closed ready is =
    let back = back_before (called_at second) first is in
    let less = called_back k second called closed in omega (arith, back, less)
before_by k first second cause.Posted (cause.Completed done turn) called closed ready is =
    let back = back_before turn first is in omega (arith, back, ready)
before_by k first second (cause.Completed done turn) cause.Posted called closed ready is =
    let back = less_than done (called_at second) is in
    let less = called_back k second called closed in omega (arith, back, less)
before_by k first second (cause.Completed done turn) (cause.Completed later later_turn) called closed ready is =
    less_than done later is

-- what goes before another is ready, and became so before it
before_less : (k : ℕ) (first second : ActState) → IsDated k second → is_open second.call ≡ false →
    goes_before first second ≡ true →
    (is_ready first.phase ≡ true) × (place_in first.call first.phase < place_in second.call second.phase)
before_less k first second dated closed is =
    by_phase first.call first.phase second.call second.phase dated.called closed dated.ready is
  where
    by_phase : (made : CallPhase) (p : ActPhase) (later : CallPhase) (q : ActPhase) → CalledBy k later → is_open later ≡ false →
        ReadyIn q → is_ready_before made p later q ≡ true → (is_ready p ≡ true) × (place_in made p < place_in later q)
    by_phase made (phase.Ready given size why) later (phase.Ready other more because) called closed ready is =
        (refl, before_by k made later why because called closed ready is)
    by_phase made p later q called closed ready is = absurd (cc)

-- what may be begun, where all lanes are free
free_lane : (script : ScriptModel) (n : ℕ) (a : Allowances) (of : Lane) → AllFree script.strands a → IsKnown script n of →
    allowance_of a of ≡ allowance.Free
free_lane script n a (lane.Strand strand) free known = free.each strand known
free_lane script n a (lane.Own op) free known = free.own
free_lane script n a lane.Reactor free known = free.reactor

not_nothing : (a : _) → a ≡ allowance.Free → a ≢ allowance.Nothing
not_nothing a is same = let wrong : allowance.Free ≡ allowance.Nothing = sym is ∙ same in absurd (cc)

-- what isn't ready, doesn't run and isn't to be taken is quiet
quiet_act : (p : ActPhase) (taken : Bool) → is_ready p ≡ false → is_running p ≡ false → (is_request p && not taken) ≡ false →
    is_quiet p taken ≡ true
quiet_act phase.Absent taken ready running asks = refl
quiet_act phase.Inside taken ready running asks = refl
quiet_act phase.Requested true ready running asks = refl
quiet_act phase.Requested false ready running asks = absurd (cc)
quiet_act (phase.Ready given size why) taken ready running asks = absurd (cc)
quiet_act (phase.Running class progress) taken ready running asks = absurd (cc)
quiet_act phase.Ended taken ready running asks = refl
quiet_act phase.Dropped taken ready running asks = refl
quiet_act phase.Asked true ready running asks = refl
quiet_act phase.Asked false ready running asks = absurd (cc)

-- how often an operation is pending is no more than how many are
queued_most : (n : ℕ) (queues : List StreamQueues) →
    sum_by (queued_of n) queues ≤ sum_by (λ (queues : StreamQueues). length queues.reads + length queues.writes) queues
queued_most n [] = omega arith
queued_most n (first ∷ queues) =
    let one = sum_by-cons (queued_of n) first queues in
    let two = sum_by-cons (λ (queues : StreamQueues). length queues.reads + length queues.writes) first queues in
    omega (
      arith,
      one,
      two,
      count_most (is_of n) first.reads,
      count_most (is_of n) first.writes,
      queued_most n queues,
    )

pending_most : (n : ℕ) (r : ReactorHalf) → pending_of n r ≤ pending_count r
pending_most n r =
    omega (
      arith,
      count_most (is_wait_for n) r.waits,
      queued_most n r.queues,
      count_most (λ (done : Completion). done.op == n) r.due,
    )

-- all that is left waits for a guard
pub record Waits (script : ScriptModel) (s : State) : Type 0 where
  pub opened : s.context.opening.back ≡ length (opening_of script)
  pub closed : (n : ℕ) → is_open (call_at s.context n) ≡ false
  pub working : s.reactor.failed ≡ false
  pub opens : RoundIsOpen script s.context
  pub going : s.context.stopped ≡ false
  pub pends : pending_count s.reactor ≡ 0
  pub work : 1 ≤ outstanding_work s
  pub left : s.context.closings < length script.rounds
  pub spent : (n : ℕ) → is_unspent (phase_at s.context n) ≡ false
  pub quiet : AllQuiet s
  pub round : Round
  pub is_round : this_round script s.context ≡ Some round
  pub runs : round.pace ≡ pace.Run
  pub guard : ℕ
  pub within : guard < length s.reactor.guards
  pub held : slice_index_or s.reactor.guards guard false ≡ true

run_pace : (p : _) → is_run p ≡ true → p ≡ pace.Run
run_pace pace.Run is = refl
run_pace pace.Poll is = absurd (cc)

found_round : (found : Option Round) → runs found ≡ true → (round : Round) × (found ≡ Some round) × (round.pace ≡ pace.Run)
found_round None is = absurd (cc)
found_round (Some round) is = (round, refl, run_pace round.pace is)

-- no operation is outstanding that was spent, and no act that was taken
outstanding_act : (p : ActPhase) (taken : Bool) → is_unspent p ≡ false → is_quiet p taken ≡ true → is_outstanding p taken ≡ false
outstanding_act phase.Asked true spent quiet = refl
outstanding_act phase.Asked false spent quiet = absurd (cc)
outstanding_act phase.Absent taken spent quiet = refl
outstanding_act phase.Ended taken spent quiet = refl
outstanding_act phase.Dropped taken spent quiet = refl
outstanding_act _ taken spent quiet = absurd (cc)

module _ (script : ScriptModel) (well : IsWellFormed script) (told : Bool) (before : List Event) (s : State)
    (o : IsOrderly script told before s) where
  abbrev c : ContextState
  c = s.context

  abbrev r : ReactorHalf
  r = s.reactor

  sound : IsSound script s
  sound = o.counted.shown.sound

  beyond : (n : ℕ) → length c.acts ≤ n → act_at c n ≡ fresh
  beyond n past = get_or_past c.acts n fresh past

  -- what no act passes that the script has, and none passes that doesn't exist
  none_at_all : (test : ℕ → Bool) → ((n : ℕ) → act_at c n ≡ fresh → test n ≡ false) →
      ((n : ℕ) → n < length c.acts → test n ≡ false) → (n : ℕ) → test n ≡ false
  none_at_all test absent none n = elim (cases_lt n (length c.acts)) [
    | inl within ↦ none n within
    | inr past ↦ absent n (beyond n past)
  ]

  each_act : (P : ActState → Type 0) → ((n : ℕ) → P (act_at c n)) → All P c.acts
  each_act P each = All-from_get_or P c.acts fresh (λ n within. each n)

  -- once no round is left all is spent, or the next handler is destroyed
  spent_or_drops : IsOver script s → All (λ (act : ActState). is_unspent act.phase ≡ false) c.acts ⊎ Goes script told s
  spent_or_drops over = elim (least_below (λ n. is_unspent (phase_at c n)) (λ n. n) (length c.acts)) [
    | inl none ↦ inl (All-from_get_or (λ (act : ActState). is_unspent act.phase ≡ false) c.acts fresh none)
    | inr found ↦ inr (record {
      next = event.Dropped found.0 0;
      own = refl;
      may = record {
        over = over;
        next = record {
          left = found.1.passes;
          least = λ other less. elim (cases_Bool (is_unspent (phase_at c other))) [
            | inl unspent ↦
                let more = found.1.least other (let within = found.1.within in omega (arith, less, within)) unspent in
                absurd (omega (arith, less, more))
            | inr spent ↦ spent
          ];
        };
      };
    })
  ]

  module _ (quiet : (n : ℕ) → is_running (phase_at c n) ≡ false) (works : r.failed ≡ false)
      (opened : c.opening.back ≡ length (opening_of script)) (left : c.closings < length script.rounds) where
    closed : (n : ℕ) → is_open (call_at c n) ≡ false
    closed n = no_call_open script s sound opened quiet n

    module _ (round : RoundIsOpen script c) where
      -- what is due is told
      due_goes : (head : Completion) → slice_get r.due 0 ≡ Some head → Goes script told s
      due_goes head is =
          let size = tells told (act_of script head.op) head.outcome (sized_act script head.op well (act_of script head.op) refl) in
          record {
            next = event.Done head.op head.outcome.0 size.0;
            own = refl;
            may = record {
              working = works;
              next = inl (record { head = head; due = is; is_op = refl; outcome = size.1 });
              turn = λ none. absurd (let wrong : None ≡ Some head =
                  sym (ap (λ (due : List Completion). slice_get due 0) none) ∙ is in
                  cc);
            };
          }

      module _ (none_due : r.due ≡ []) (done : IsDrained r) where
        stops : c.stopped ≡ true → Goes script told s
        stops stopped = record {
          next = event.Stopped;
          own = refl;
          may = record {
            round = round;
            stopped = stopped;
            quiet = each_act (λ (act : ActState). is_running act.phase ≡ false) quiet;
            back = each_act (λ (act : ActState). is_open act.call ≡ false) closed;
            told = none_due;
            drained = done;
            working = works;
          };
        }

        module _ (going : c.stopped ≡ false) where
          free : AllFree script.strands c.allowances
          free = o.lanes.free going

          -- a handler that is ready, and no other became so before
          ready_goes : (n : ℕ) →
              IsLeast (λ n. is_ready (phase_at c n)) (λ n. place_in (call_at c n) (phase_at c n)) (length c.acts) n →
              Goes script told s
          ready_goes n found = by_phase (phase_at c n) refl found.passes
            where
              first : IsFirstOfLane script c n
              first other same = elim (cases_Bool (goes_before (act_at c other) (act_at c n))) [
                | inl is ↦
                    let less = before_less c.events (act_at c other) (act_at c n) (o.dated.acts n) (closed n) is in
                    elim (cases_lt other (length c.acts)) [
                      | inl within ↦
                          let more = found.least other within less.0 in
                          let under = less.1 in
                          absurd (omega (arith, more, under))
                      | inr past ↦
                          absurd (let wrong : false ≡ true =
                          sym (ap (λ (act : ActState). is_ready act.phase) (beyond other past)) ∙ less.0 in
                          cc)
                    ]
                | inr isnt ↦ isnt
              ]

              known : IsKnown script n (lane_of script n)
              known =
                  lanes_are_known script (λ n. has_parent script n well) (λ n act is. act_fits script n well act is) n
                  (let within = found.within in omega (arith, within, sound.acts))

              by_phase : (p : ActPhase) → phase_at c n ≡ p → is_ready p ≡ true → Goes script told s
              by_phase (phase.Ready given size why) is ready = record {
                next = event.Begin n given size;
                own = refl;
                may = inl (record {
                  round = round;
                  ready = (why, is);
                  alone = λ other same. quiet other;
                  first = first;
                  allowed =
                      not_nothing (allowance_of c.allowances (lane_of script n))
                      (free_lane script n c.allowances (lane_of script n) free known);
                });
              }
              by_phase _ is ready = absurd (cc)

          turn : MayTurn script s
          turn = record {
            round = round;
            working = works;
            told = none_due;
            drained = done;
            allowed = not_nothing c.allowances.reactor free.reactor;
          }

          -- a request, and no other was called before
          request_goes : (a : ℕ) → IsLeast (is_untaken s) (λ n. called_at (call_at c n)) (length c.acts) a → Goes script told s
          request_goes a found = record {
            next = event.Take a;
            own = refl;
            may = record { turn = turn; untaken = found.passes; first = first };
          }
            where
              back_less : (place : ℕ) (made : CallPhase) → CalledBy c.events made → is_back_before place made ≡ true →
                  called_at made < place
              back_less place call.Uncalled by is = absurd (cc)
              back_less place (call.Open called) by is = absurd (cc)
              back_less place (call.Stopping called) by is = absurd (cc)
              back_less place (call.Back called back) by is = let less = less_than back place is in omega (arith, less, by)

              first : IsFirstRequest s a
              first other untaken =
                  elim (cases_Bool (is_back_before (called_at (call_at c a)) (call_at c other))) [
                    | inl is ↦
                        let less = back_less (called_at (call_at c a)) (call_at c other) (o.dated.acts other).called is in
                        elim (cases_lt other (length c.acts)) [
                          | inl within ↦ let more = found.least other within untaken in absurd (omega (arith, less, more))
                          | inr past ↦
                              absurd (let wrong : false ≡ true =
                              sym (ap (λ (act : ActState). is_request act.phase && not (was_taken r other)) (beyond other past))
                              ∙ untaken in
                              cc)
                        ]
                    | inr isnt ↦ isnt
                  ]

          module _ (all_quiet : AllQuiet s) where
            polls : runs (this_round script c) ≡ false → 1 ≤ outstanding_work s → Goes script told s
            polls never some = record {
              next = event.Polled;
              own = refl;
              may = record {
                round = round;
                polls = never;
                going = going;
                outstanding = some;
                idle = all_quiet;
                told = none_due;
                drained = done;
              };
            }

            passes : runs (this_round script c) ≡ true → 1 ≤ pending_count r → Goes script told s
            passes is_run some = by_point (next_time script r) refl
              where
                by_point : (next : Point) → next_time script r ≡ next → Goes script told s
                by_point (point.Time now) is = record {
                  next = event.Tick now;
                  own = refl;
                  may = record {
                    idle = record {
                      turn = turn;
                      runs = is_run;
                      quiet = all_quiet;
                      back = each_act (λ (act : ActState). is_open act.call ≡ false) closed;
                      pending = some;
                    };
                    next = is;
                  };
                }
                by_point point.Last is = record {
                  next = event.Last;
                  own = refl;
                  may = record {
                    idle = record {
                      turn = turn;
                      runs = is_run;
                      quiet = all_quiet;
                      back = each_act (λ (act : ActState). is_open act.call ≡ false) closed;
                      pending = some;
                    };
                    next = is;
                  };
                }

            -- where nothing is pending all is spent
            unspent_none : pending_count r ≡ 0 → (n : ℕ) → is_unspent (phase_at c n) ≡ false
            unspent_none none n = by_phase (phase_at c n) refl
              where
                by_phase : (p : ActPhase) → phase_at c n ≡ p → is_unspent p ≡ false
                by_phase phase.Absent is = refl
                by_phase phase.Ended is = refl
                by_phase phase.Dropped is = refl
                by_phase phase.Asked is = refl
                by_phase phase.Inside is =
                    let both = inside_open script well told s sound n is in
                    absurd (let wrong : true ≡ false = sym both.1 ∙ closed n in cc)
                by_phase (phase.Ready given size why) is =
                    absurd (let wrong : false ≡ true = sym (ap (λ p. is_quiet p (was_taken r n)) is) ∙ all_quiet n in cc)
                by_phase (phase.Running class progress) is =
                    absurd (let wrong : false ≡ true = sym (ap (λ p. is_quiet p (was_taken r n)) is) ∙ all_quiet n in cc)
                by_phase phase.Requested is =
                    let taken : was_taken r n ≡ true = sym (ap (λ p. is_quiet p (was_taken r n)) is) ∙ all_quiet n in
                    let pends = o.standing.pending n works is taken in
                    let most = pending_most n r in
                    absurd (omega (arith, none, pends, most))

            waits : runs (this_round script c) ≡ true → pending_count r ≡ 0 → 1 ≤ outstanding_work s → Waits script s
            waits is_run none some =
                let spent = unspent_none none in
                let acts : count_by (is_act_outstanding s) (range_with_len 0 (length c.acts)) ≡ 0 =
                none_counted (is_act_outstanding s) (range_with_len 0 (length c.acts))
                (λ n. outstanding_act (phase_at c n) (was_taken r n) (spent n) (all_quiet n)) in
                let guard = some_set r.guards (omega (arith, some, acts)) in
                let round_is = found_round (this_round script c) is_run in
                record {
                  opened = opened;
                  closed = closed;
                  working = works;
                  opens = round;
                  going = going;
                  pends = none;
                  work = some;
                  left = left;
                  spent = spent;
                  quiet = all_quiet;
                  round = round_is.0;
                  is_round = round_is.1;
                  runs = round_is.2;
                  guard = guard.0;
                  within = guard.1;
                  held = guard.2;
                }

            quiet_goes : Goes script told s ⊎ Waits script s
            quiet_goes = elim (cases_eq (outstanding_work s) 0) [
              | inl idle ↦ inl (record {
                next = event.Ended;
                own = refl;
                may = record { round = round; going = going; idle = idle };
              })
              | inr some ↦ elim (cases_Bool (runs (this_round script c))) [
                | inr never ↦ inl (polls never (omega (arith, some)))
                | inl is_run ↦ elim (cases_eq (pending_count r) 0) [
                  | inl none ↦ inr (waits is_run none (omega (arith, some)))
                  | inr pends ↦ inl (passes is_run (omega (arith, pends)))
                ]
              ]
            ]

          going_goes : Goes script told s ⊎ Waits script s
          going_goes =
              elim (least_below (λ n. is_ready (phase_at c n)) (λ n. place_in (call_at c n) (phase_at c n)) (length c.acts)) [
                | inr ready ↦ inl (ready_goes ready.0 ready.1)
                | inl none_ready ↦
                    elim (least_below (is_untaken s) (λ n. called_at (call_at c n)) (length c.acts)) [
                      | inr asks ↦ inl (request_goes asks.0 asks.1)
                      | inl none_asked ↦
                          quiet_goes (λ n.
                          quiet_act (phase_at c n) (was_taken r n)
                          (none_at_all (λ n. is_ready (phase_at c n))
                          (λ n absent. ap (λ (act : ActState). is_ready act.phase) absent) none_ready n)
                          (quiet n)
                          (none_at_all (is_untaken s)
                          (λ n absent. ap (λ (act : ActState). is_request act.phase && not (was_taken r n)) absent) none_asked n))
                    ]
              ]

        settled_goes : Goes script told s ⊎ Waits script s
        settled_goes = elim (cases_Bool c.stopped) [
          | inl stopped ↦ inl (stops stopped)
          | inr going ↦ going_goes going
        ]

      round_goes : IsDrained r → Goes script told s ⊎ Waits script s
      round_goes done = by_due r.due refl
        where
          by_due : (due : List Completion) → r.due ≡ due → Goes script told s ⊎ Waits script s
          by_due [] is = settled_goes is done
          by_due (head ∷ due) is = inl (due_goes head (ap (λ (due : List Completion). slice_get due 0) is))

    alive : c.dropping ≡ false
    alive = elim (cases_Bool c.dropping) [
      | inr is ↦ is
      | inl drops ↦ absurd (elim (o.late drops) [
        | inl all ↦ absurd (omega (arith, all, left))
        | inr failed ↦ absurd (let wrong : true ≡ false = sym failed ∙ works in cc)
      ])
    ]

    restarts_or_goes : IsDrained r → Goes script told s ⊎ Waits script s
    restarts_or_goes done = elim (cases_Bool (restarts (this_round script c))) [
      | inr never ↦
          round_goes (record {
            begun = record { opened = opened; left = left };
            restarted = λ wanted. absurd (let wrong : true ≡ false = sym wanted ∙ never in cc);
            alive = alive;
          }) done
      | inl wanted ↦ elim (cases_Bool c.restarted) [
        | inl is ↦
            round_goes (record {
              begun = record { opened = opened; left = left };
              restarted = λ wanted. is;
              alive = alive;
            }) done
        | inr not_yet ↦ inl (record {
          next = event.Restart;
          own = refl;
          may = record {
            begun = record { opened = opened; left = left };
            wanted = wanted;
            once = not_yet;
            quiet = each_act (λ (act : ActState). is_running act.phase ≡ false) quiet;
            working = works;
          };
        })
      ]
    ]

  -- it is whole, goes on or waits for a guard
  pub progress : IsDrained r → IsWhole script s ⊎ (Goes script told s ⊎ Waits script s)
  progress done = elim (least_below (λ n. is_running (phase_at c n)) (λ n. n) (length c.acts)) [
    | inr found ↦ inr (inl (runs_goes script well told before s o found.0 found.1.passes))
    | inl none ↦
        let quiet : (n : ℕ) → is_running (phase_at c n) ≡ false =
        none_at_all (λ n. is_running (phase_at c n)) (λ n absent. ap (λ (act : ActState). is_running act.phase) absent) none in
        elim (cases_Bool r.failed) [
          | inl failed ↦
              over (inr failed) (inr (failed, each_act (λ (act : ActState). is_running act.phase ≡ false) quiet))
          | inr works ↦ elim (cases_lt c.opening.back (length (opening_of script))) [
            | inl less ↦ inr (inl (opening_goes script well told before s o works less))
            | inr past ↦ elim (cases_lt c.closings (length script.rounds)) [
              | inr all ↦
                  let closed : c.closings ≡ length script.rounds = omega (arith, all, o.rounds.1) in
                  over (inl closed) (inl closed)
              | inl left ↦
                  let within = o.making.opening.within in
                  inr (restarts_or_goes quiet works (omega (arith, past, within)) left done)
            ]
          ]
        ]
  ]
    where
      over : (AllClosed script c) ⊎ (r.failed ≡ true) → IsOver script s → IsWhole script s ⊎ (Goes script told s ⊎ Waits script s)
      over closed is = elim (spent_or_drops is) [
        | inl spent ↦ inl (record { over = closed; spent = spent })
        | inr goes ↦ inr (inl goes)
      ]
