-- The clock word after a history: its clock counts the draws, and it changes by draws alone.
use Rattle.std.proofs.Common.{◌≡◌, inl, inr, ℕ, ◌+◌, ◌%◌, ◌^◌, ◌<◌, ◌≤◌, List, [], ◌∷◌, sym, refl, ap, ◌∙◌, arith}
use Rattle.lane_clock.specs.declared.found.Found.{Found}
use Rattle.lane_clock.specs.declared.found.Change.{Change}
use Rattle.lane_clock.specs.declared.found.Change.TheVariants.{Same, Up, Down, DownTwo, Stop}
use Rattle.lane_clock.specs.declared.step.ClockStep.{ClockStep}
use Rattle.lane_clock.specs.declared.step.ClockStep.TheVariants.{Draw, Load, Place, Put, Look, Join}
use Rattle.lane_clock.specs.ClockWord.{amount, found_of, word_of}
use Rattle.lane_clock.specs.Steps.{draw_count}
use Rattle.lane_clock.specs.History.{ClockEvent, word_with, word_after, drawn, IsSoundHistory}
use Rattle.lane_clock.proofs.MomentLemmas.{Tail}
use Rattle.lane_clock.proofs.CountLemmas.{few_drawn}

-- the parts of a word make the word again
pub word_of-found_of : (w : ℕ) → w < 2 ^ 64 → word_of (found_of w) ≡ w
word_of-found_of w h = omega arith

pub drawn_grows : (a es : List ClockEvent) → Tail a es → drawn a ≤ drawn es
drawn_grows a [] h = let e : drawn a ≡ 0 = ap drawn h in omega arith
drawn_grows a (x ∷ es) (inl h) = let e : drawn a ≡ drawn (x ∷ es) = ap drawn h in omega arith
drawn_grows a (x ∷ es) (inr h) = let e : drawn a ≤ drawn es = drawn_grows a es h in omega arith

still : (st : ClockStep) (w : ℕ) → draw_count st ≡ 0 → word_with st w ≡ w
still (Draw shown change found) w h = absurd (omega arith)
still (Load found) w h = refl
still (Place lane place) w h = refl
still (Put lane place note) w h = refl
still (Look lane place held) w h = refl
still (Join counts) w h = refl

-- with no draw in between the word stays
pub word_stays : (guards : ℕ) (a es : List ClockEvent) → Tail a es → drawn a ≡ drawn es →
    word_after guards a ≡ word_after guards es
word_stays g a [] h e = ap (word_after g) h
word_stays g a (x ∷ es) (inl h) e = ap (word_after g) h
word_stays g a (x ∷ es) (inr h) e =
    let l : drawn a ≤ drawn es = drawn_grows a es h in
    let n : draw_count x.step + drawn es ≡ drawn a = sym e in
    let z : draw_count x.step ≡ 0 = omega arith in
    word_stays g a es h (omega arith) ∙ sym (still x.step (word_after g es) z)

pub word_bounded : (guards : ℕ) → guards < 2 ^ 15 → (es : List ClockEvent) → word_after guards es < 2 ^ 64
word_bounded g h [] = omega arith
word_bounded g h (e ∷ es) = go e.step (word_after g es) (word_bounded g h es)
  where
    go : (st : ClockStep) (w : ℕ) → w < 2 ^ 64 → word_with st w < 2 ^ 64
    go (Draw shown change found) w l = omega arith
    go (Load found) w l = l
    go (Place lane place) w l = l
    go (Put lane place note) w l = l
    go (Look lane place held) w l = l
    go (Join counts) w l = l

ticks : (c : Change) (w d : ℕ) → w % 2 ^ 32 ≡ d → d + 1 < 2 ^ 32 → (w + amount c) % 2 ^ 64 % 2 ^ 32 ≡ 1 + d
ticks Same w d e l = omega arith
ticks Up w d e l = omega arith
ticks Down w d e l = omega arith
ticks DownTwo w d e l = omega arith
ticks Stop w d e l = omega arith

-- the clock is the number of draws
pub clock_counts : (guards : ℕ) (es : List ClockEvent) → drawn es < 2 ^ 32 → word_after guards es % 2 ^ 32 ≡ drawn es
clock_counts g [] l = omega arith
clock_counts g (e ∷ es) l = go e.step (clock_counts g es (omega arith)) l
  where
    go : (st : ClockStep) → word_after g es % 2 ^ 32 ≡ drawn es → draw_count st + drawn es < 2 ^ 32 →
        word_with st (word_after g es) % 2 ^ 32 ≡ draw_count st + drawn es
    go (Draw shown c found) h m = ticks c (word_after g es) (drawn es) h (omega arith)
    go (Load found) h m = h ∙ omega arith
    go (Place lane place) h m = h ∙ omega arith
    go (Put lane place note) h m = h ∙ omega arith
    go (Look lane place held) h m = h ∙ omega arith
    go (Join counts) h m = h ∙ omega arith

module _ (guards seats : ℕ) (es : List ClockEvent) (few : seats ≤ 2 ^ 15) (sound : IsSoundHistory guards seats es) where
  pub clock_is : word_after guards es % 2 ^ 32 ≡ drawn es
  clock_is = let h : drawn es ≤ 2 ^ 31 = few_drawn guards seats es few sound in clock_counts guards es (omega arith)

  -- what finds the word finds so many draws as its clock
  pub found_clock : (f : Found) → f ≡ found_of (word_after guards es) → f.clock ≡ drawn es
  found_clock f e = ap (λ (x : Found). x.clock) e ∙ clock_is

  pub found_word : guards < 2 ^ 15 → (f : Found) → f ≡ found_of (word_after guards es) →
      word_of f ≡ word_after guards es
  found_word h f e = ap word_of e ∙ word_of-found_of (word_after guards es) (word_bounded guards h es)
