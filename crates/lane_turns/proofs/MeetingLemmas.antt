-- What a seat knows after it took in what another knew.
use Rattle.std.proofs.Common.{◌≡◌, ◌≢◌, ◌⊎◌, inl, inr, ⊎_elim, ℕ, suc, ◌+◌, ◌≤◌, Bool, true, false, cond, List, [], ◌∷◌, ◌++◌, length, refl, sym, ap, subst, ◌∙◌, arith, length-append}
use Rattle.std.specs.Prelude.{max, nat_lt, slice_index}
use Rattle.std.proofs.lemmas.List.{append-nil}
use Rattle.std.proofs.Math.ListN.{get_or-map}
use Rattle.lane_clock.specs.declared.step.ClockStep.{ClockStep}
use Rattle.lane_clock.specs.declared.step.ClockStep.TheVariants.{Draw, Load, Place, Put, Look, Join}
use Rattle.lane_clock.specs.declared.step.Known.{Known}
use Rattle.lane_clock.specs.Knowledge.{StartOf, copied, copy_of, counts, joined, known_at, more_of, steps_at, unknown}
use Rattle.lane_clock.specs.Seats.{Owns, SeatView, own}
use Rattle.lane_clock.specs.Steps.{draw_count, place_count, step_count}
use Rattle.lane_clock.proofs.JoinLemmas.{joined_at}
use Rattle.lane_clock.proofs.KnownLemmas.{stepped_other}
use Rattle.lane_logs.specs.Knowing.{joined_count, lists_of}
use Rattle.lane_turns.specs.Meeting.{HasMet, KnowsByJoins, PenHasMet}
use Rattle.lane_turns.specs.Pens.{MayGo, PenView}
use Rattle.lane_turns.proofs.PenLemmas.{step_count-append}

-- a copy knows what its seat knew
pub copied_steps : (ks : List Known) (n : ℕ) → steps_at (copy_of ks) n ≡ steps_at ks n
copied_steps ks n = ap (λ (k : Known). k.steps) (get_or-map copied ks n unknown)

pub counted : (ks : List Known) (n : ℕ) → slice_index (counts ks) n ≡ length (steps_at ks n)
counted ks n = get_or-map (λ (k : Known). length k.steps) ks n unknown

-- a start of all is no longer
pub start_length : (xs all : List ClockStep) → StartOf xs all → length xs ≤ length all
start_length xs all start =
    let long : length all ≡ length xs + length start.0 = ap length start.1 ∙ length-append xs start.0 in
    omega (arith, long)

-- two lists of which each is a start of the other are one
pub start_both : (xs ys : List ClockStep) → StartOf xs ys → StartOf ys xs → xs ≡ ys
start_both xs ys first second = by_rest first.0 first.1
  where
    by_rest : (rest : List ClockStep) → ys ≡ xs ++ rest → xs ≡ ys
    by_rest [] is = sym (append-nil xs) ∙ sym is
    by_rest (step ∷ rest) is =
        let long : length ys ≡ length xs + suc (length rest) = ap length is ∙ length-append xs (step ∷ rest) in
        absurd (omega (arith, long, start_length ys xs second))

chosen : (a b c : Bool) (xs ys : List ClockStep) →
    (cond a xs (cond b ys (cond c ys xs)) ≡ xs) ⊎ (cond a xs (cond b ys (cond c ys xs)) ≡ ys)
chosen true b c xs ys = inl refl
chosen false true c xs ys = inr refl
chosen false false true xs ys = inr refl
chosen false false false xs ys = inl refl

-- what steps took in, and a join behind them
pub joined_more : (n : ℕ) (xs : List ClockStep) (taken : List ℕ) →
    joined_count n (xs ++ Join taken ∷ []) ≡ max (joined_count n xs) (slice_index taken n)
joined_more n [] taken = omega arith
joined_more n (Draw shown change found ∷ xs) taken = joined_more n xs taken
joined_more n (Load found ∷ xs) taken = joined_more n xs taken
joined_more n (Place lane place ∷ xs) taken = joined_more n xs taken
joined_more n (Put lane place note ∷ xs) taken = joined_more n xs taken
joined_more n (Look lane place held ∷ xs) taken = joined_more n xs taken
joined_more n (Join first ∷ xs) taken =
    let rest : joined_count n (xs ++ Join taken ∷ []) ≡ max (joined_count n xs) (slice_index taken n) =
    joined_more n xs taken in omega (arith, rest)

-- the first of some steps took in no more
pub joined_less : (n : ℕ) (xs ys : List ClockStep) → joined_count n xs ≤ joined_count n (xs ++ ys)
joined_less n [] ys = omega arith
joined_less n (Draw shown change found ∷ xs) ys = joined_less n xs ys
joined_less n (Load found ∷ xs) ys = joined_less n xs ys
joined_less n (Place lane place ∷ xs) ys = joined_less n xs ys
joined_less n (Put lane place note ∷ xs) ys = joined_less n xs ys
joined_less n (Look lane place held ∷ xs) ys = joined_less n xs ys
joined_less n (Join first ∷ xs) ys = omega (arith, joined_less n xs ys)

module _ (other old new : SeatView) (met : HasMet other old new) where
  pub met_number : new.number ≡ old.number
  met_number = ap (λ (seat : SeatView). seat.number) met.seat

  pub met_clock : new.clock ≡ old.clock
  met_clock = ap (λ (seat : SeatView). seat.clock) met.seat

  met_at : (n : ℕ) → n ≢ old.number → known_at new.known n ≡ more_of (known_at old.known n) (known_at other.known n)
  met_at n ne =
      ap (λ (seat : SeatView). known_at seat.known n) met.seat
      ∙ stepped_other (joined old.known other.known) old.number n (Join (counts other.known)) ne
      ∙ joined_at old.known other.known n

  -- of a number of another it knows what it knew, or what it was told
  pub met_either : (n : ℕ) → n ≢ old.number →
      (lists_of new n ≡ lists_of old n) ⊎ (lists_of new n ≡ lists_of other n)
  met_either n ne =
      let is : lists_of new n ≡ (more_of (known_at old.known n) (known_at other.known n)).steps =
      ap (λ (k : Known). k.steps) (met_at n ne) in
      ⊎_elim (λ same. inl (is ∙ same)) (λ told. inr (is ∙ told))
      (chosen (known_at old.known n).mine (known_at other.known n).mine
      (nat_lt (length (lists_of old n)) (length (lists_of other n))) (lists_of old n) (lists_of other n))

  met_joined : (n : ℕ) → joined_count n (own new) ≡ max (joined_count n (own old)) (length (lists_of other n))
  met_joined n =
      ap (joined_count n) met.steps ∙ joined_more n (own old) (counts other.known)
      ∙ ap (max (joined_count n (own old))) (counted other.known n)

  -- what it knows of a number of another is what it took in
  pub met_known : (n : ℕ) → n ≢ old.number → joined_count n (own old) ≡ length (lists_of old n) →
      joined_count n (own new) ≡ length (lists_of new n)
  met_known n ne before =
      let more : length (lists_of old n) ≤ length (lists_of new n) = start_length _ _ (met.remembers n) in
      let told : length (lists_of other n) ≤ length (lists_of new n) = start_length _ _ (met.learns n) in
      let taken : joined_count n (own new) ≡ max (joined_count n (own old)) (length (lists_of other n)) =
      met_joined n in
      ⊎_elim
      (λ (same : lists_of new n ≡ lists_of old n).
      let e : length (lists_of new n) ≡ length (lists_of old n) = ap length same in
      omega (arith, more, told, taken, before, e))
      (λ (same : lists_of new n ≡ lists_of other n).
      let e : length (lists_of new n) ≡ length (lists_of other n) = ap length same in
      omega (arith, more, told, taken, before, e))
      (met_either n ne)

  pub met_knows : Owns old old.number → KnowsByJoins old → KnowsByJoins new
  met_knows owns known =
      record {
        others = λ n ne.
            let apart : n ≢ old.number = λ same. ne (same ∙ sym met_number) in
            met_known n apart (known.others n apart);
        itself =
            subst (λ n. joined_count n (own new) ≤ length (own new)) (sym met_number)
            (let taken : joined_count old.number (own new)
            ≡ max (joined_count old.number (own old)) (length (lists_of other old.number)) =
            met_joined old.number in
            let long : length (own new) ≡ length (own old) + 1 =
            ap length met.steps ∙ length-append (own old) (Join (counts other.known) ∷ []) in
            let told : length (lists_of other old.number) ≤ length (own old) =
            start_length _ _ (met.whole old.number owns) in
            omega (arith, taken, long, told, known.itself));
      }

-- the room of a pen stays
pub met_room : (other : SeatView) (old new : PenView) (draws places : ℕ) → PenHasMet other old new →
    MayGo old draws places → MayGo new draws places
met_room other old new draws places met may =
    let join : List ClockStep = Join (counts other.known) ∷ [] in
    let drawn : step_count draw_count (own new.seat) ≡ step_count draw_count (own old.seat) + 0 =
    ap (step_count draw_count) met.met.steps ∙ step_count-append draw_count (own old.seat) join in
    let placed : step_count place_count (own new.seat) ≡ step_count place_count (own old.seat) + 0 =
    ap (step_count place_count) met.met.steps ∙ step_count-append place_count (own old.seat) join in
    record {
      log = omega (arith, met.room, may.log);
      draws_left = omega (arith, drawn, may.draws_left);
      places_left = omega (arith, placed, may.places_left);
    }
