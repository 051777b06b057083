-- What two know of one history agrees, so nothing is lost where one takes in what the other knows.
use Rattle.std.proofs.Common.{◌≡◌, ◌≢◌, ◌⊎◌, inl, inr, ℕ, zero, suc, ◌+◌, ◌<◌, ◌≤◌, Bool, true, false, ◌||◌, ltb, lt-ltb, le-ltb, List, [], ◌∷◌, ◌++◌, length, length-append, if◌then◌else◌, sym, refl, ap, ◌∙◌, subst, ⊎_elim, arith}
use Rattle.std.proofs.lemmas.List.{append-nil}
use Rattle.std.proofs.lemmas.Bool.{false≢true}
use mathlib.Core.Logic.{dite}
use native.Mathlib.Decide.{ℕ_discrete}
use Rattle.lane_clock.specs.declared.step.ClockStep.{ClockStep}
use Rattle.lane_clock.specs.declared.step.ClockStep.TheVariants.{Join}
use Rattle.lane_clock.specs.declared.step.Known.{Known}
use Rattle.lane_clock.specs.Knowledge.{known_at, steps_at, StartOf, Agree, AreTogether, more_of, joined, counts, stepped_at}
use Rattle.lane_clock.specs.Seats.{SeatView, Owns, Remembers, after_step, after_join}
use Rattle.lane_clock.proofs.KnownLemmas.{mine_within, stepped_here, stepped_other}
use Rattle.lane_clock.proofs.KeepLemmas.{start_longer, start_same}
use Rattle.lane_clock.proofs.JoinLemmas.{joined_at}

-- the longer of two that agree begins with either
longer_has : (xs ys : List ClockStep) → Agree xs ys → (c : Bool) → ltb (length xs) (length ys) ≡ c →
    StartOf xs (if c then ys else xs) × StartOf ys (if c then ys else xs)
longer_has xs ys (inl h) true e = (h, start_same ys ys refl)
longer_has xs ys (inr h) true e =
    let l : length xs ≡ length ys + length h.0 = ap length h.1 ∙ length-append ys h.0 in
    (absurd (false≢true (sym (le-ltb (length xs) (length ys) (omega arith)) ∙ e)), start_same ys ys refl)
longer_has xs ys (inr h) false e = (start_same xs xs refl, h)
longer_has xs ys (inl h) false e = (start_same xs xs refl, same h.0 h.1)
  where
    same : (rest : List ClockStep) → ys ≡ xs ++ rest → StartOf ys xs
    same [] q = start_same ys xs (q ∙ append-nil xs)
    same (r ∷ rest) q =
        let l : length ys ≡ length xs + suc (length rest) = ap length q ∙ length-append xs (r ∷ rest) in
        absurd (false≢true (sym e ∙ lt-ltb (length xs) (length ys) (omega arith)))

more_has : (a b : Bool) (xs ys : List ClockStep) → Agree xs ys → (a ≡ true → StartOf ys xs) →
    (b ≡ true → StartOf xs ys) →
    let more : List ClockStep =
    if a then xs else if b then ys else if ltb (length xs) (length ys) then ys else xs in StartOf xs more × StartOf ys more
more_has true b xs ys agree first second = (start_same xs xs refl, first refl)
more_has false true xs ys agree first second = (second refl, start_same ys ys refl)
more_has false false xs ys agree first second =
    longer_has xs ys agree (ltb (length xs) (length ys)) refl

-- what two know together begins with what either knows
joined_has : (as_ bs : List Known) (n : ℕ) → AreTogether as_ bs →
    StartOf (steps_at as_ n) (steps_at (joined as_ bs) n) × StartOf (steps_at bs n) (steps_at (joined as_ bs) n)
joined_has as_ bs n t =
    subst (λ (k : Known). StartOf (steps_at as_ n) k.steps × StartOf (steps_at bs n) k.steps)
    (sym (joined_at as_ bs n))
    (more_has (known_at as_ n).mine (known_at bs n).mine (steps_at as_ n) (steps_at bs n) (t.agree n) (t.first n)
    (t.second n))

-- one step more leaves what was known
pub stepped_has : (ks : List Known) (n m : ℕ) (st : ClockStep) (xs : List ClockStep) → n < length ks →
    StartOf xs (steps_at ks m) → StartOf xs (steps_at (stepped_at ks n st) m)
stepped_has ks n m st xs within h = dite (ℕ_discrete m n)
    (λ (e : m ≡ n).
    subst (λ k. StartOf xs (steps_at (stepped_at ks n st) k)) (sym e)
    (subst (λ (k : Known). StartOf xs k.steps) (sym (stepped_here ks n st within))
    (start_longer xs (steps_at ks n) st (subst (λ k. StartOf xs (steps_at ks k)) e h))))
    (λ ne. subst (λ (k : Known). StartOf xs k.steps) (sym (stepped_other ks n m st ne)) h)

-- a step leaves what a seat knew
pub remembers_step : (seat after : SeatView) (st : ClockStep) → Owns seat seat.number → after ≡ after_step seat st →
    Remembers seat after
remembers_step seat after st mine e n =
    subst (λ (s : SeatView). StartOf (steps_at seat.known n) (steps_at s.known n)) (sym e)
    (stepped_has seat.known seat.number n st (steps_at seat.known n) (mine_within seat.known seat.number mine)
    (start_same _ _ refl))

module _ (seat other after : SeatView) (mine : Owns seat seat.number) (is : after ≡ after_join seat other.known)
    (together : AreTogether seat.known other.known) where
  within : seat.number < length (joined seat.known other.known)
  within =
      mine_within (joined seat.known other.known) seat.number
      (ap (λ (k : Known). k.mine) (joined_at seat.known other.known seat.number)
      ∙ ap (λ b. b || (known_at other.known seat.number).mine) mine)

  -- and so does what it takes in
  pub remembers_own : Remembers seat after
  remembers_own n =
      subst (λ (s : SeatView). StartOf (steps_at seat.known n) (steps_at s.known n)) (sym is)
      (stepped_has (joined seat.known other.known) seat.number n (Join (counts other.known)) (steps_at seat.known n)
      within (joined_has seat.known other.known n together).0)

  pub remembers_other : Remembers other after
  remembers_other n =
      subst (λ (s : SeatView). StartOf (steps_at other.known n) (steps_at s.known n)) (sym is)
      (stepped_has (joined seat.known other.known) seat.number n (Join (counts other.known)) (steps_at other.known n)
      within (joined_has seat.known other.known n together).1)
