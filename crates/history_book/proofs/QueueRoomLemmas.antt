-- How many operations of a stream are pending, and that its queues have room for them.
use Rattle.std.proofs.Common.{◌≡◌, ℕ, ◌+◌, ◌<◌, ◌≤◌, ◌==◌, ◌&&◌, Bool, true, false, cond, List, Option, Some, length, get_or, set, zero, suc, inl, inr, refl, ap, sym, ◌∙◌, arith}
use Rattle.std.proofs.lemmas.List.{get_or-set_same, get_or-set_other, set_past}
use Rattle.std.proofs.lemmas.Bool.{cases_eq, cases_lt}
use Rattle.std.proofs.lemmas.Bool.Decides.{nat_tests}
use Rattle.session_script.specs.Script.{ScriptModel, act_of}
use Rattle.history_rules.proofs.SizesLemmas.{is-same, one_at}
use Rattle.history_book.specs.QueueRoom.{count_passing, is_on, ops_on, taken_on}
use Rattle.history_rules.specs.Bounds.{is_this, stream_asked}
use Rattle.history_rules.specs.State.{StreamQueues, no_queues}

bit-mono : (b c : Bool) → (b ≡ true → c ≡ true) → cond b 1 0 ≤ cond c 1 0
bit-mono false c step = omega arith
bit-mono true c step = rw (step refl) (omega arith)

-- more numbers pass a weaker test
count-mono : (p q : ℕ → Bool) (n : ℕ) → ((k : ℕ) → p k ≡ true → q k ≡ true) → count_passing p n ≤ count_passing q n
count-mono p q zero step = omega arith
count-mono p q (suc n) step =
    let rest = count-mono p q n step in
    let here = bit-mono (p n) (q n) (step n) in
    omega arith

count-more : (p q : ℕ → Bool) (n a : ℕ) → ((k : ℕ) → p k ≡ true → q k ≡ true) → a < n → p a ≡ false → q a ≡ true →
    count_passing p n + 1 ≤ count_passing q n
count-more p q zero a step b out within = absurd (omega arith)
count-more p q (suc n) a step b out within =
    elim (cases_eq a n) [
      | inl same ↦
          let before : p n ≡ false = ap p (sym same) ∙ out in
          let after : q n ≡ true = ap q (sym same) ∙ within in
          let rest = count-mono p q n step in
          rw (before, after) (omega arith)
      | inr other ↦
          let rest = count-more p q n a step (omega arith) out within in
          let here = bit-mono (p n) (q n) (step n) in
          omega arith
    ]

pub count-within : (p : ℕ → Bool) (n : ℕ) → count_passing p n ≤ n
count-within p zero = omega arith
count-within p (suc n) =
    let rest = count-within p n in
    let here = bit-mono (p n) true (λ any. refl) in
    omega arith

and-first : (b c : Bool) → (b && c) ≡ true → b ≡ true
and-first true c h = refl
and-first false c h = h

and-none : (b : Bool) → (b && false) ≡ false
and-none true = refl
and-none false = refl

and-kept : (b c d : Bool) → (c ≡ true → d ≡ true) → (b && c) ≡ true → (b && d) ≡ true
and-kept true c d step h = step h
and-kept false c d step h = h

-- an operation that wasn't taken has a place
pub taken-below : (script : ScriptModel) (taken : List Bool) (a stream : ℕ) → a < length script.acts →
    get_or taken a false ≡ false → stream_asked (act_of script a) ≡ Some stream →
    taken_on script taken stream < ops_on script stream
taken-below script taken a stream b untaken on =
    let out : (is_on script stream a && get_or taken a false) ≡ false = rw untaken (and-none (is_on script stream a)) in
    let here : is_on script stream a ≡ true = ap (is_this stream) on ∙ is-same stream in
    let more =
    count-more (λ op. is_on script stream op && get_or taken op false) (is_on script stream) (length script.acts) a
    (λ k h. and-first (is_on script stream k) (get_or taken k false) h) b out here in
    omega arith

taken-kept : (taken : List Bool) (a k : ℕ) → a < length taken → get_or taken k false ≡ true →
    get_or (set taken a true) k false ≡ true
taken-kept taken a k b h =
    elim (cases_eq k a) [
      | inl same ↦ rw same (get_or-set_same taken a true false b)
      | inr other ↦ get_or-set_other taken a k true false other ∙ h
    ]

taken-step : (script : ScriptModel) (taken : List Bool) (a stream : ℕ) (here : Bool) → is_on script stream a ≡ here →
    a < length script.acts → a < length taken → get_or taken a false ≡ false →
    taken_on script taken stream + cond here 1 0 ≤ taken_on script (set taken a true) stream
taken-step script taken a stream true on b there untaken =
    count-more (λ op. is_on script stream op && get_or taken op false)
    (λ op. is_on script stream op && get_or (set taken a true) op false) (length script.acts) a
    (λ k h.
    and-kept (is_on script stream k) (get_or taken k false) (get_or (set taken a true) k false)
    (taken-kept taken a k there) h) b (rw untaken (and-none (is_on script stream a)))
    (rw (on, get_or-set_same taken a true false there) refl)
taken-step script taken a stream false on b there untaken =
    let more =
    count-mono (λ op. is_on script stream op && get_or taken op false)
    (λ op. is_on script stream op && get_or (set taken a true) op false) (length script.acts)
    (λ k h.
    and-kept (is_on script stream k) (get_or taken k false) (get_or (set taken a true) k false)
    (taken-kept taken a k there) h) in
    omega arith

-- one more was taken of the stream that the act is on
pub taken-more : (script : ScriptModel) (taken : List Bool) (a stream : ℕ) → a < length script.acts → a < length taken →
    get_or taken a false ≡ false →
    taken_on script taken stream + one_at stream (stream_asked (act_of script a))
    ≤ taken_on script (set taken a true) stream
taken-more script taken a stream b there untaken =
    taken-step script taken a stream (is_on script stream a) refl b there untaken
