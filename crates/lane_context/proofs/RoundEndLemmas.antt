-- How a round ends: the caller's own worker runs as often as a closing is refuted.
use Rattle.std.proofs.Common.{◌≡◌, ◌≢◌, ◌⊎◌, inl, inr, ⊎_elim, ℕ, ◌+◌, ◌-◌, ◌<◌, ◌≤◌, true, false, List, [], ◌++◌, Option, Some, None, length, refl, sym, ap, subst, ◌∙◌, arith}
use Rattle.std.specs.Prelude.{◌==◌, IfNone, IfSome, map, slice_get}
use Rattle.std.proofs.lemmas.Bool.{cases_lt}
use Rattle.std.proofs.lemmas.Bool.Decides.{eqb_tells}
use Rattle.std.proofs.lemmas.List.{append-nil}
use Rattle.session_script.specs.Script.{ScriptModel}
use Rattle.lane_clock.specs.declared.step.Known.{Known}
use Rattle.lane_clock.specs.Knowledge.{StartOf}
use Rattle.lane_clock.specs.Seats.{Remembers, SeatView, own}
use Rattle.lane_clock.specs.Steps.{draw_count, step_count}
use Rattle.lane_clock.proofs.KeepLemmas.{start_same}
use Rattle.lane_logs.specs.Labels.{Labelled, entries_in, steps_in}
use Rattle.lane_logs.specs.Knowing.{lists_of}
use Rattle.lane_logs.specs.OpenerLog.{look_label}
use Rattle.lane_turns.specs.declared.closing.Closing.{Closing}
use Rattle.lane_turns.specs.declared.closing.Closing.TheVariants as closing
use Rattle.lane_turns.specs.declared.closing_try.ClosingTry.{ClosingTry}
use Rattle.lane_turns.specs.declared.closing_try.ClosingTry.TheVariants as tried
use Rattle.lane_context.specs.declared.round_end.RoundEnd.{RoundEnd}
use Rattle.lane_context.specs.declared.round_end.RoundEnd.TheVariants as round
use Rattle.lane_turns.specs.declared.run_end.RunEnd.{RunEnd}
use Rattle.lane_turns.specs.declared.run_end.RunEnd.TheVariants as end
use Rattle.lane_turns.specs.AllMeeting.{HaveMetAfterFault}
use Rattle.lane_turns.specs.AllWorkers.{KnowTheRound, NoneFaulted, clock_seat, last_of, log_of}
use Rattle.lane_turns.specs.Attempts.{WorkerState}
use Rattle.lane_turns.specs.Attending.{HasGoneOn, KnowsAllOf}
use Rattle.lane_turns.specs.Benches.{AreWorkers, HasHeld}
use Rattle.lane_turns.specs.Besides.{besides_of, rests_of}
use Rattle.lane_turns.specs.ClosingTries.{HasClosedRound, TriedToClose}
use Rattle.lane_turns.specs.Gathering.{NoneKeeps, unseated}
use Rattle.lane_turns.specs.KeptSteps.{AllRemember}
use Rattle.lane_turns.specs.LaneValues.{Tries}
use Rattle.lane_turns.specs.OpenerEvents.{HasWaited, weighing_labels}
use Rattle.lane_turns.specs.Openers.{OpenerView}
use Rattle.lane_turns.specs.OwnRuns.{HasRunInVain, LastHasRun}
use Rattle.lane_turns.specs.Pens.{HasGone, PenView}
use Rattle.lane_context.specs.RoundEnds.{EndsRound, HasEndedRound, OneFaulted, OneKnowsFault, OtherLastsStay, OwnRanLast, closing_after, end_after, end_by, run_end_of}
use Rattle.lane_turns.specs.Runs.{last_end}
use Rattle.lane_turns.specs.Scanning.{SeatGoesOn}
use Rattle.lane_turns.specs.Workers.{WorkerView}
use Rattle.lane_turns.proofs.AllWorkersLemmas.{image_at, images_of, images_size, same_source, source_of}
use Rattle.lane_turns.proofs.AttendingLemmas.{on_and_on, on_same}
use Rattle.lane_turns.proofs.BenchLemmas.{same_one}
use Rattle.lane_turns.proofs.EventLemmas.{weighing_draws}
use Rattle.lane_context.proofs.LastEndLemmas.{came_still, last_and_last, last_logs, last_same, lasts_of_rests, logs_of_rests, none_faulted_still, one_faulted_still, others_still, ran_still, there_is_last}
use Rattle.lane_turns.proofs.MeetAllLemmas.{below_size}
use Rattle.lane_turns.proofs.OpenerEventLemmas.{looks_entries}
use Rattle.lane_turns.proofs.PenLemmas.{step_count-append}
use Rattle.lane_turns.proofs.ReactorFaultLemmas.{fault_remembered}
use Rattle.lane_turns.proofs.RememberAllLemmas.{last_remembers, remember_on, seats_remember}
use Rattle.lane_turns.proofs.ScanLemmas.{seat_and_on, seat_same}
use Rattle.lane_turns.proofs.SteppingLemmas.{stepped_known, stepped_number}

-- the answer of `run` to which a closing belongs
pub ran_as : (now : RunEnd) (how : Closing) → Some how ≡ closing_after now → now ≡ run_end_of (end_by how)
ran_as end.Ended how is = let it : how ≡ closing.Ended = cc is in ap (λ h. run_end_of (end_by h)) (sym it)
ran_as end.Stopped how is = let it : how ≡ closing.Stopped = cc is in ap (λ h. run_end_of (end_by h)) (sym it)
ran_as end.Idle how is = let it : how ≡ closing.Polled = cc is in ap (λ h. run_end_of (end_by h)) (sym it)
ran_as end.Fault how is = absurd (cc is)

pub no_fault_by : (how : Closing) → end_by how ≢ round.Fault
no_fault_by closing.Ended is = absurd (cc is)
no_fault_by closing.Stopped is = absurd (cc is)
no_fault_by closing.Polled is = absurd (cc is)

-- an opener that only loaded and looked drew nothing
gone_number : (labels : List Labelled) (old new : PenView) → HasGone labels old new → new.seat.number ≡ old.seat.number
gone_number labels old new gone =
    ap (λ (s : SeatView). s.number) gone.seat ∙ stepped_number old.seat (steps_in labels)

gone_remembers : (labels : List Labelled) (old new : PenView) → HasGone labels old new → Remembers old.seat new.seat
gone_remembers labels old new gone n =
    ⊎_elim
    (λ (same : ((n == old.seat.number) ≡ true) × (n ≡ old.seat.number)).
    subst (λ m. StartOf (lists_of old.seat m) (lists_of new.seat m)) (sym same.1) (
      steps_in labels,
      subst (λ m. lists_of new.seat m ≡ own old.seat ++ steps_in labels) (gone_number labels old new gone) gone.steps,
    ))
    (λ (differ : ((n == old.seat.number) ≡ false) × (n ≢ old.seat.number)).
    start_same _ _
    (sym (ap (λ (s : SeatView). lists_of s n) gone.seat
    ∙ ap (λ (k : Known). k.steps) (stepped_known old.seat (steps_in labels) n differ.1))))
    (eqb_tells n old.seat.number)

waited_on : (script : ScriptModel) (how : Closing) (a b : OpenerView) → HasWaited script how a b → HasGoneOn a b
waited_on script how a b held =
    let labels : List Labelled = weighing_labels held.found held.looks in
    let sum = ap (step_count draw_count) held.gone.steps
    ∙ step_count-append draw_count (own a.pen.seat) (steps_in labels) in
    let none : entries_in labels ≡ [] =
    ap entries_in (sym (append-nil (map look_label held.looks))) ∙ looks_entries held.looks [] in
    record {
      remembers = gone_remembers labels a.pen b.pen held.gone;
      number = gone_number labels a.pen b.pen held.gone;
      draws = omega (arith, sum, weighing_draws held.found held.looks);
      log = held.gone.log ∙ ap (λ entries. a.pen.log ++ entries) none ∙ append-nil a.pen.log;
      stand = held.stand;
    }

held_on : (script : ScriptModel) (how : Closing) (a b : OpenerView) → HasHeld (HasWaited script how) a b → HasGoneOn a b
held_on script how a b held =
    on_and_on a held.before b held.heard
    (on_and_on held.before held.after b (waited_on script how held.before held.after held.drew) held.met)

-- a run that met a fault is the last
pub fault_last : {H X : Type 0} (t : Tries H X) (lanes : ℕ) (now : RunEnd) (olds news : List (WorkerState H X)) →
    LastHasRun t lanes now olds news → NoneFaulted news → None ≡ closing_after now → ⊥
fault_last t lanes end.Ended olds news it none is = absurd (cc is)
fault_last t lanes end.Stopped olds news it none is = absurd (cc is)
fault_last t lanes end.Idle olds news it none is = absurd (cc is)
fault_last t lanes end.Fault olds news it none is =
    none (length olds - 1) it.new it.only.is
    (ap (λ (w : WorkerState _ _). w.last) it.ran.left ∙ ap (λ (w : WorkerState _ _). w.last) it.ran.is.kept
    ∙ by_last it.ran.is.ended.last)
  where
    by_last : (o : Option RunEnd) → last_end o end.Fault ≡ Some end.Fault
    by_last None = refl
    by_last (Some end.Ended) = refl
    by_last (Some end.Stopped) = refl
    by_last (Some end.Idle) = refl
    by_last (Some end.Fault) = refl

module _ {H X : Type 0} (t : Tries H X) (lanes : ℕ) where
  closed_behind : (how : Closing) (a b c : OpenerView) → HasGoneOn a b → HasClosedRound t.terms how b c →
      HasClosedRound t.terms how a c
  closed_behind how a b c on closed =
      record {
        places = closed.places;
        held =
            record {
              before = closed.held.before;
              after = closed.held.after;
              heard = on_and_on a b closed.held.before on closed.held.heard;
              drew = closed.held.drew;
              met = closed.held.met;
            };
      }

  ends_behind : (now : RoundEnd) (a b c : OpenerView) → HasGoneOn a b → EndsRound t.terms now b c →
      EndsRound t.terms now a c
  ends_behind round.Ended a b c on ends = closed_behind closing.Ended a b c on ends
  ends_behind round.Stopped a b c on ends = closed_behind closing.Stopped a b c on ends
  ends_behind round.Polled a b c on ends = closed_behind closing.Polled a b c on ends
  ends_behind round.Fault a b c on ends = on_and_on a b c on ends

  ends_by : (how : Closing) (a b : OpenerView) → HasClosedRound t.terms how a b → EndsRound t.terms (end_by how) a b
  ends_by closing.Ended a b closed = closed
  ends_by closing.Stopped a b closed = closed
  ends_by closing.Polled a b closed = closed

  -- of a run nothing came yet
  pub none_in_vain : (opener : OpenerView) (all : List (WorkerState H X)) → 0 < length all → NoneFaulted all →
      HasRunInVain opener opener all all
  none_in_vain opener all some none =
      let there = there_is_last all some in
      record {
        on = on_same opener;
        old = there.0;
        new = there.0;
        only = last_same all there.0 there.1;
        seat = seat_same there.0.seat;
        none = none;
      }

  pub more_in_vain : (a b c : OpenerView) (xs ys zs : List (WorkerState H X)) → HasRunInVain a b xs ys →
      HasRunInVain b c ys zs → HasRunInVain a c xs zs
  more_in_vain a b c xs ys zs first second =
      let both = last_and_last xs ys zs first.old first.new second.old second.new first.only second.only in
      record {
        on = on_and_on a b c first.on second.on;
        old = first.old;
        new = second.new;
        only = both.0;
        seat =
            seat_and_on first.old.seat first.new.seat second.new.seat first.seat
            (subst (λ (w : WorkerState H X). SeatGoesOn w.seat second.new.seat) (sym both.1) second.seat);
        none = second.none;
      }

  -- a round ended behind runs in vain
  pub ended_behind : (now : RoundEnd) (a b c : OpenerView) (xs ys zs : List (WorkerState H X)) → HasRunInVain a b xs ys →
      HasEndedRound t lanes now b c ys zs → HasEndedRound t lanes now a c xs zs
  ended_behind now a b c xs ys zs vain it =
      let size : length ys - 1 ≡ length xs - 1 = ap (λ n. n - 1) vain.only.size in
      record {
        ended = ends_behind now a b c vain.on it.ended;
        knows = it.knows;
        came = it.came;
        met = it.met;
        none = it.none;
        ran =
            λ works.
            let ran = it.ran works in
            let same : vain.new ≡ ran.before =
            same_one ys (length xs - 1) (length ys - 1) vain.new ran.before vain.only.is size ran.was in
            record {
              before = vain.old;
              after = ran.after;
              was = vain.only.was;
              is = subst (λ k. slice_get zs k ≡ Some ran.after) size ran.is;
              from = ran.from;
              ran = ran.ran;
              since =
                  seat_and_on vain.old.seat vain.new.seat ran.from.seat vain.seat
                  (subst (λ (w : WorkerState H X). SeatGoesOn w.seat ran.from.seat) (sym same) ran.since);
              run = ran.run;
              last = ran.last;
            };
        others =
            λ k old new below was is.
            it.others k old new (let long = vain.only.size in omega (arith, below, long))
            (vain.only.others k below ∙ was) is;
        logs = it.logs ∙ last_logs xs ys vain.old vain.new vain.only vain.seat.log;
        remember =
            remember_on clock_seat xs ys zs (last_remembers xs ys vain.old vain.new vain.only vain.seat.remembers)
            it.remember;
        rounds = it.rounds;
      }

  -- what stands behind the end changes no last end and no log
  pub ended_still : (now : RoundEnd) (a b : OpenerView) (xs ys zs : List (WorkerState H X)) →
      HasEndedRound t lanes now a b xs ys → map last_of zs ≡ map last_of ys → map log_of zs ≡ map log_of ys →
      map clock_seat zs ≡ map clock_seat ys → KnowTheRound t.terms.names.script b.stand zs →
      HasEndedRound t lanes now a b xs zs
  ended_still now a b xs ys zs it same logs seats rounds =
      record {
        ended = it.ended;
        knows = it.knows;
        came = λ fault. came_still ys zs same t.terms (it.came fault);
        met = it.met;
        none = λ works. none_faulted_still ys zs same (it.none works);
        ran = λ works. ran_still ys zs same t lanes (run_end_of now) xs (it.ran works);
        others = others_still ys zs same xs it.others;
        logs = logs ∙ it.logs;
        remember = remember_on clock_seat xs ys zs it.remember (seats_remember clock_seat ys zs seats);
        rounds = rounds;
      }

  -- nor does what stands before it change a seat of the clock
  pub ended_from : (now : RoundEnd) (a b : OpenerView) (xs ys : List (WorkerState H X)) →
      HasEndedRound t lanes now a b (map unseated xs) ys → HasEndedRound t lanes now a b xs ys
  ended_from now a b xs ys it =
      let size : length (map unseated xs) ≡ length xs = images_size unseated xs in
      let end_size : length (map unseated xs) - 1 ≡ length xs - 1 = ap (λ n. n - 1) size in
      record {
        ended = it.ended;
        knows = it.knows;
        came = it.came;
        met = it.met;
        none = it.none;
        ran =
            λ works.
            let ran = it.ran works in
            let from = source_of unseated xs (length (map unseated xs) - 1) ran.before ran.was in
            record {
              before = from.source;
              after = ran.after;
              was = subst (λ k. slice_get xs k ≡ Some from.source) end_size from.at;
              is = subst (λ k. slice_get ys k ≡ Some ran.after) end_size ran.is;
              from = ran.from;
              ran = ran.ran;
              since =
                  subst (λ (seat : WorkerView). SeatGoesOn seat ran.from.seat)
                  (sym (ap (λ (w : WorkerState H X). w.seat) from.is)) ran.since;
              run = ran.run;
              last = ran.last;
            };
        others =
            λ k old new below was is.
            it.others k (unseated old) new (omega (arith, below, size)) (image_at unseated xs k old was) is;
        logs = it.logs ∙ images_of log_of unseated (λ w. refl) xs;
        remember =
            remember_on clock_seat xs (map unseated xs) ys
            (seats_remember clock_seat xs (map unseated xs) (images_of clock_seat unseated (λ w. refl) xs)) it.remember;
        rounds = it.rounds;
      }

  -- a worker had met a fault before
  pub ended_faulted : (a b : OpenerView) (xs ys : List (WorkerState H X)) → HasGoneOn a b → KnowsAllOf clock_seat b xs →
      OneFaulted xs → OneKnowsFault t.terms.names.script xs →
      HaveMetAfterFault t.terms.names.script (lists_of b.pen.seat) → rests_of besides_of ys ≡ rests_of besides_of xs →
      AllRemember clock_seat xs ys → KnowTheRound t.terms.names.script b.stand ys →
      HasEndedRound t lanes round.Fault a b xs ys
  ended_faulted a b xs ys on known one knows met rests remember rounds =
      let same = lasts_of_rests xs ys rests in
      record {
        ended = on;
        knows =
            λ fault.
            fault_remembered t.terms.names.script (clock_seat knows.worker) b.pen.seat
            (known knows.index knows.worker knows.at) knows.knows;
        came = λ fault. inl (one_faulted_still xs ys same one);
        met = λ fault. met;
        none = λ works. absurd (works refl);
        ran = λ works. absurd (works refl);
        others =
            λ k old new below was is.
            let from = same_source last_of xs ys k new same is in
            let it : from.source ≡ old = same_one xs k k from.source old from.at refl was in
            sym from.is ∙ ap last_of it;
        logs = logs_of_rests xs ys rests;
        remember = remember;
        rounds = rounds;
      }

  -- one run of the caller's own worker, and what came of it
  module _ (now : RunEnd) (xs ys : List (WorkerState H X)) (run : LastHasRun t lanes now xs ys) where
    run_others : OtherLastsStay xs ys
    run_others k old new below was is =
        let it : old ≡ new =
        same_one xs k k old new was refl (sym (run.only.others k below) ∙ is) in
        sym (ap last_of it)

    run_logs : map log_of ys ≡ map log_of xs
    run_logs = last_logs xs ys run.old run.new run.only (ap log_of run.ran.left ∙ run.ran.on.log)

    run_remember : AllRemember clock_seat xs ys
    run_remember =
        last_remembers xs ys run.old run.new run.only
        (subst (λ (w : WorkerState H X). Remembers (clock_seat run.old) (clock_seat w)) (sym run.ran.left)
        run.ran.on.remembers)

    run_last : OwnRanLast t lanes now xs ys
    run_last =
        record {
          before = run.old;
          after = run.new;
          was = run.only.was;
          is = run.only.is;
          from = record run.old { turns = Some run.ran.turns };
          ran = run.ran.ran;
          since = seat_same run.old.seat;
          run = run.ran.is;
          last = ap last_of run.ran.left;
        }

    -- what holds of all workers behind it
    at_last : (k : ℕ) (one : WorkerState H X) → slice_get ys k ≡ Some one →
        (slice_get xs k ≡ Some one) ⊎ ((k ≡ length xs - 1) × (run.new ≡ one))
    at_last k one at =
        ⊎_elim (λ (below : k + 1 < length xs). inl (sym (run.only.others k below) ∙ at))
        (λ (past : length xs ≤ k + 1).
        let less = below_size ys k one at in
        let here : k ≡ length xs - 1 = omega (arith, past, less, run.only.size) in
        inr (here, same_one ys (length xs - 1) k run.new one run.only.is here at))
        (cases_lt (k + 1) (length xs))

    pub run_rows : (script : ScriptModel) → AreWorkers clock_seat script xs → AreWorkers clock_seat script ys
    run_rows script rows =
        record {
          size = run.only.size ∙ rows.size;
          numbers =
              λ k one at.
              ⊎_elim (λ (was : slice_get xs k ≡ Some one). rows.numbers k one was)
              (λ (now_ : (k ≡ length xs - 1) × (run.new ≡ one)).
              let same : run.new.seat.pen.seat.number ≡ run.old.seat.pen.seat.number =
              ap (λ (w : WorkerState H X). w.seat.pen.seat.number) run.ran.left ∙ run.ran.on.number in
              let numbered = rows.numbers (length xs - 1) run.old run.only.was in
              let is : run.new.seat.pen.seat.number ≡ one.seat.pen.seat.number =
              ap (λ (w : WorkerState H X). w.seat.pen.seat.number) now_.1 in
              omega (arith, same, numbered, is, now_.0))
              (at_last k one at);
        }

    pub run_free : NoneKeeps xs → NoneKeeps ys
    run_free free k = by_case (slice_get ys k) refl
      where
        kept_none : (one : WorkerState H X) → slice_get ys k ≡ Some one → one.kept ≡ None
        kept_none one at =
            ⊎_elim
            (λ (was : slice_get xs k ≡ Some one).
            subst (λ o. IfSome o (λ (w : WorkerState H X). w.kept ≡ None)) was (free k))
            (λ (now_ : (k ≡ length xs - 1) × (run.new ≡ one)).
            sym (ap (λ (w : WorkerState H X). w.kept) now_.1) ∙ ap (λ (w : WorkerState H X). w.kept) run.ran.left)
            (at_last k one at)

        by_case : (o : Option (WorkerState H X)) → slice_get ys k ≡ o → IfSome o (λ one. one.kept ≡ None)
        by_case None at = tt
        by_case (Some one) at = kept_none one at

    -- it met a fault itself
    pub run_faulted : (a b : OpenerView) (zs : List (WorkerState H X)) → HasGoneOn a b → KnowsAllOf clock_seat b ys →
        OneFaulted ys → OneKnowsFault t.terms.names.script ys →
        HaveMetAfterFault t.terms.names.script (lists_of b.pen.seat) → rests_of besides_of zs ≡ rests_of besides_of ys →
        AllRemember clock_seat ys zs → KnowTheRound t.terms.names.script b.stand zs →
        HasEndedRound t lanes round.Fault a b xs zs
    run_faulted a b zs on known one knows met rests remember rounds =
        let it = ended_faulted a b ys zs on known one knows met rests remember rounds in
        record {
          ended = it.ended;
          knows = it.knows;
          came = it.came;
          met = it.met;
          none = it.none;
          ran = λ works. absurd (works refl);
          others = others_still ys zs (lasts_of_rests ys zs rests) xs run_others;
          logs = it.logs ∙ run_logs;
          remember = remember_on clock_seat xs ys zs run_remember it.remember;
          rounds = rounds;
        }

    -- what a try to close the round comes to
    module _ (how : Closing) (is : Some how ≡ closing_after now) (none : NoneFaulted ys) (a b : OpenerView)
        (zs : List (WorkerState H X)) (rests : rests_of besides_of zs ≡ rests_of besides_of ys)
        (remember : AllRemember clock_seat ys zs) where
      abbrev same : map last_of zs ≡ map last_of ys
      same = lasts_of_rests ys zs rests

      pub tried_ended : (tries : ClosingTry) → TriedToClose t.terms how tries a b →
          (tries ≡ tried.Failed → HaveMetAfterFault t.terms.names.script (lists_of b.pen.seat)) →
          (tries ≢ tried.Refuted → KnowTheRound t.terms.names.script b.stand zs) →
          IfSome (end_after tries how) (λ ends. HasEndedRound t lanes ends a b xs zs)
      tried_ended tried.Closed it met rounds =
          record {
            ended = ends_by how a b it;
            knows = λ fault. absurd (no_fault_by how fault);
            came = λ fault. absurd (no_fault_by how fault);
            met = λ fault. absurd (no_fault_by how fault);
            none = λ works. none_faulted_still ys zs same none;
            ran =
                λ works.
                ran_still ys zs same t lanes (run_end_of (end_by how)) xs
                (subst (λ ends. OwnRanLast t lanes ends xs ys) (ran_as now how is) run_last);
            others = others_still ys zs same xs run_others;
            logs = logs_of_rests ys zs rests ∙ run_logs;
            remember = remember_on clock_seat xs ys zs run_remember remember;
            rounds = rounds (λ refuted. absurd (cc refuted));
          }
      tried_ended tried.Refuted it met rounds = tt
      tried_ended tried.Failed it met rounds =
          record {
            ended = it.on;
            knows = λ fault. it.knows;
            came = λ fault. inr it.had;
            met = λ fault. met refl;
            none = λ works. absurd (works refl);
            ran = λ works. absurd (works refl);
            others = others_still ys zs same xs run_others;
            logs = logs_of_rests ys zs rests ∙ run_logs;
            remember = remember_on clock_seat xs ys zs run_remember remember;
            rounds = rounds (λ refuted. absurd (cc refuted));
          }

      pub tried_in_vain : (tries : ClosingTry) → TriedToClose t.terms how tries a b →
          (tries ≡ tried.Refuted → zs ≡ ys) → IfNone (end_after tries how) (HasRunInVain a b xs zs)
      tried_in_vain tried.Closed it stay = tt
      tried_in_vain tried.Failed it stay = tt
      tried_in_vain tried.Refuted it stay =
          subst (λ ws. HasRunInVain a b xs ws) (sym (stay refl))
          (record {
            on = held_on t.terms.names.script how a b it;
            old = run.old;
            new = run.new;
            only = run.only;
            seat =
                subst (λ (w : WorkerState H X). SeatGoesOn run.old.seat w.seat) (sym run.ran.left) run.ran.on;
            none = none;
          })
