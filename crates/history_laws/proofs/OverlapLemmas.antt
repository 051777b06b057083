-- Both histories are legal, event by event.
use Rattle.std.proofs.Common.{◌≡◌, ℕ, zero, suc, Bool, false, List, [], ◌∷◌, Some, inl, refl, subst, take, arith}
use Rattle.std.specs.List.{All}
use Rattle.std.specs.Prelude.{slice_get}
use Rattle.std.proofs.lemmas.List.Elements.{All-cons, All-nil}
use Rattle.asio_types.specs.declared.code.Code.TheVariants as code
use Rattle.asio_types.specs.declared.event.Event.{Event}
use Rattle.asio_types.specs.declared.event.Event.TheVariants as event
use Rattle.session_script.specs.declared.round.Pace.TheVariants as pace
use Rattle.session_script.specs.declared.round.Round.{Round}
use Rattle.session_script.specs.Grammar.{are_released}
use Rattle.session_script.specs.Lanes.{lane_of}
use Rattle.session_script.specs.Limits.{limits_of}
use Rattle.session_script.specs.Script.{Entry}
use Rattle.session_script.specs.WellFormed.{FitsLine, FitsRound, IsPlaced, IsWellFormed, header_of, in_open}
use Rattle.history_rules.specs.Executions.{MayBegin}
use Rattle.history_rules.specs.Legal.{IsLegal, MayHappen, state_of}
use Rattle.history_rules.specs.Order.{goes_before}
use Rattle.history_rules.specs.Rounds.{is_running, is_unspent}
use Rattle.history_rules.specs.State.{ContextState, act_at, phase_at}
use Rattle.history_rules.specs.declared.phase.ActPhase.TheVariants as phase
use Rattle.history_rules.specs.declared.phase.ActState.{ActState}
use Rattle.history_rules.specs.declared.phase.CallPhase.TheVariants as call
use Rattle.history_rules.specs.declared.phase.Cause.TheVariants as cause
use Rattle.history_laws.specs.Overlap.{StrandsMayOverlap, overlapping, posted_to, two_strands}

each_two : (P : ℕ → Type 0) → P 0 → P 1 → ((n : ℕ) → P (suc (suc n))) → (n : ℕ) → P n
each_two P first second rest zero = first
each_two P first second rest (suc zero) = second
each_two P first second rest (suc (suc n)) = rest n

is_well : IsWellFormed two_strands
unfolding limits_of are_released
is_well = record {
  version = inl refl;
  strands = omega arith;
  timers = omega arith;
  slots = omega arith;
  streams = omega arith;
  guards = omega arith;
  acts = record { count = omega arith; placed = placed };
  line_count = omega arith;
  lines = All-nil (FitsLine (header_of two_strands));
  some_round = omega arith;
  round_count = omega arith;
  rounds =
      All-cons (FitsRound (header_of two_strands)) two_workers [] (omega arith, omega arith)
      (All-nil (FitsRound (header_of two_strands)));
  released = refl;
}
  where
    two_workers : Round
    two_workers = record { restart = false; pace = pace.Run; workers = 2 }

    placed : (n : ℕ) (entry : Entry) → slice_get two_strands.acts n ≡ Some entry →
        IsPlaced (header_of two_strands) two_strands.acts n entry
    placed zero entry is =
        let same : posted_to 0 ≡ entry = cc in
        subst (IsPlaced (header_of two_strands) two_strands.acts 0) same
        (record { fits = omega arith; parent = tt; nested = (1, omega arith, in_open) })
    placed (suc zero) entry is =
        let same : posted_to 1 ≡ entry = cc in
        subst (IsPlaced (header_of two_strands) two_strands.acts 1) same
        (record { fits = omega arith; parent = tt; nested = (1, omega arith, in_open) })
    placed (suc (suc n)) entry is = absurd (cc)

abbrev called : List Event
called = event.Call 0 ∷ (event.Back 0 ∷ (event.Call 1 ∷ (event.Back 1 ∷ [])))

abbrev begun_first : ℕ → List Event
begun_first first = event.Call 0 ∷ (event.Back 0 ∷ (event.Call 1 ∷ (event.Back 1 ∷ (event.Begin first code.Ok 0 ∷ []))))

module _ (told : Bool) where
  abbrev after : List Event → ContextState
  after events = (state_of two_strands told events).context

  abbrev IsAlone : List Event → ℕ → ℕ → Type 0
  IsAlone events o other = lane_of two_strands other ≡ lane_of two_strands o → is_running (phase_at (after events) other) ≡ false

  abbrev IsFirst : List Event → ℕ → ℕ → Type 0
  IsFirst events o other =
      lane_of two_strands other ≡ lane_of two_strands o →
      goes_before (act_at (after events) other) (act_at (after events) o) ≡ false

  abbrev unspent : ActState → Type 0
  unspent act = is_unspent act.phase ≡ false

  -- an act whose handler has returned
  abbrev over : ℕ → ℕ → ActState
  over called back = record { call = call.Back called back; phase = phase.Ended }

  spent_both : All unspent (over 0 1 ∷ (over 2 3 ∷ []))
  spent_both = All-cons unspent (over 0 1) (over 2 3 ∷ []) refl (All-cons unspent (over 2 3) [] refl (All-nil unspent))

  -- the handler on strand 0 begins first
  begins : MayBegin two_strands (after called) 0 code.Ok 0
  begins = inl (record {
    round = record { begun = record { opened = refl; left = omega arith }; restarted = λ wanted. absurd (cc); alive = refl };
    ready = (cause.Posted, refl);
    alone = each_two (IsAlone called 0) (λ on. refl) (λ on. refl) (λ n on. refl);
    first = each_two (IsFirst called 0) (λ on. refl) (λ on. absurd (cc)) (λ n on. refl);
    allowed = λ same. absurd (cc);
  })

  begins_too : MayBegin two_strands (after (begun_first 0)) 1 code.Ok 0
  begins_too = inl (record {
    round = record { begun = record { opened = refl; left = omega arith }; restarted = λ wanted. absurd (cc); alive = refl };
    ready = (cause.Posted, refl);
    alone = each_two (IsAlone (begun_first 0) 1) (λ on. absurd (cc)) (λ on. refl) (λ n on. refl);
    first = each_two (IsFirst (begun_first 0) 1) (λ on. refl) (λ on. refl) (λ n on. refl);
    allowed = λ same. absurd (cc);
  })

  -- or the one on strand 1
  other_begins : MayBegin two_strands (after called) 1 code.Ok 0
  other_begins = inl (record {
    round = record { begun = record { opened = refl; left = omega arith }; restarted = λ wanted. absurd (cc); alive = refl };
    ready = (cause.Posted, refl);
    alone = each_two (IsAlone called 1) (λ on. refl) (λ on. refl) (λ n on. refl);
    first = each_two (IsFirst called 1) (λ on. absurd (cc)) (λ on. refl) (λ n on. refl);
    allowed = λ same. absurd (cc);
  })

  other_begins_too : MayBegin two_strands (after (begun_first 1)) 0 code.Ok 0
  other_begins_too = inl (record {
    round = record { begun = record { opened = refl; left = omega arith }; restarted = λ wanted. absurd (cc); alive = refl };
    ready = (cause.Posted, refl);
    alone = each_two (IsAlone (begun_first 1) 0) (λ on. refl) (λ on. absurd (cc)) (λ n on. refl);
    first = each_two (IsFirst (begun_first 1) 0) (λ on. refl) (λ on. refl) (λ n on. refl);
    allowed = λ same. absurd (cc);
  })

  -- both end in the same way
  pub legal : IsLegal two_strands told (overlapping 0 1)
  legal = record {
    legal = (
      record { idle = refl; next = refl },
      (refl, (record { idle = refl; next = refl }, (refl, (begins, (begins_too, (refl, (refl, (ends, tt)))))))),
    );
    whole = record { over = inl refl; spent = spent_both };
  }
    where
      ends : MayHappen two_strands told (state_of two_strands told (take 8 (overlapping 0 1))) event.Ended
      ends = record {
        round = record { begun = record { opened = refl; left = omega arith }; restarted = λ wanted. absurd (cc); alive = refl };
        going = refl;
        idle = refl;
      }

  pub other : IsLegal two_strands told (overlapping 1 0)
  other = record {
    legal = (
      record { idle = refl; next = refl },
      (refl, (record { idle = refl; next = refl }, (refl, (other_begins, (other_begins_too, (refl, (refl, (ends, tt)))))))),
    );
    whole = record { over = inl refl; spent = spent_both };
  }
    where
      ends : MayHappen two_strands told (state_of two_strands told (take 8 (overlapping 1 0))) event.Ended
      ends = record {
        round = record { begun = record { opened = refl; left = omega arith }; restarted = λ wanted. absurd (cc); alive = refl };
        going = refl;
        idle = refl;
      }

pub overlap : StrandsMayOverlap
overlap = record {
  well = is_well;
  legal = legal;
  other = other;
  together = record {
    first_runs = record { begun = refl; unended = refl };
    second_runs = record { begun = refl; unended = refl };
    apart = λ same. absurd (cc);
  };
  too = record {
    first_runs = record { begun = refl; unended = refl };
    second_runs = record { begun = refl; unended = refl };
    apart = λ same. absurd (cc);
  };
}
