-- Calls that begin operations of one number, and completions of that number, take turns.
use Rattle.std.proofs.Common.{◌≡◌, ◌≤◌, ℕ, ◌+◌, ◌==◌, Bool, true, false, cond, List, [], ◌∷◌, ◌++◌, map, refl, sym, subst, arith}
use Rattle.std.specs.Bool.{MatchBool}
use Rattle.chan_core.specs.declared.done.ChanDone.{ChanDone}
use Rattle.chan_core.specs.Runs.{ChanCall, ChanEvent, begins, completions}
use Rattle.chan_core.specs.Runs.ChanEvent.{Called, Told}

-- whether an event is a call or a completion of this number
abbrev pub is_of : ℕ → ChanEvent → Bool
is_of op (Called call) = begins op call
is_of op (Told done) = done.op == op

-- how many operations of its number are pending before an event, and how many after it
abbrev pub pending_before : ChanEvent → ℕ
pending_before (Called call) = 0
pending_before (Told done) = 1

abbrev pub pending_after : ChanEvent → ℕ
pending_after (Called call) = 1
pending_after (Told done) = 0

-- so many operations of this number are pending before these events, and so many after them
abbrev pub IsTurned : ℕ → ℕ → List ChanEvent → ℕ → Type 0
IsTurned op before [] after = before ≡ after
IsTurned op before (event ∷ later) after =
    MatchBool (is_of op event) ((before ≡ pending_before event) × IsTurned op (pending_after event) later after)
    (IsTurned op before later after)

pub turned-append : (op before mid after : ℕ) (xs ys : List ChanEvent) → IsTurned op before xs mid →
    IsTurned op mid ys after → IsTurned op before (xs ++ ys) after
turned-append op before mid after [] ys first second = subst (λ (n : ℕ). IsTurned op n ys after) (sym first) second
turned-append op before mid after (e ∷ xs) ys first second =
    elim (is_of op e) as (λ b.
    MatchBool b ((before ≡ pending_before e) × IsTurned op (pending_after e) xs mid) (IsTurned op before xs mid) →
    MatchBool b ((before ≡ pending_before e) × IsTurned op (pending_after e) (xs ++ ys) after)
    (IsTurned op before (xs ++ ys) after)) [
      | true ↦ λ h. (h.0, turned-append op (pending_after e) mid after xs ys h.1 second)
      | false ↦ λ h. turned-append op before mid after xs ys h second
    ] first

pub turned-parted : (op before after : ℕ) (xs ys : List ChanEvent) → IsTurned op before (xs ++ ys) after →
    (mid : ℕ) × (IsTurned op before xs mid × IsTurned op mid ys after)
turned-parted op before after [] ys h = (before, (refl, h))
turned-parted op before after (e ∷ xs) ys h =
    elim (is_of op e) as (λ b.
    MatchBool b ((before ≡ pending_before e) × IsTurned op (pending_after e) (xs ++ ys) after)
    (IsTurned op before (xs ++ ys) after) →
    (mid : ℕ) × (MatchBool b ((before ≡ pending_before e) × IsTurned op (pending_after e) xs mid)
    (IsTurned op before xs mid) × IsTurned op mid ys after)) [
      | true ↦ λ h.
          let r = turned-parted op (pending_after e) after xs ys h.1 in (r.0, ((h.0, r.1.0), r.1.1))
      | false ↦ λ h. turned-parted op before after xs ys h
    ] h

-- no more complete than are pending, before the next call of the number
pub completions-turned : (op before after : ℕ) (later : List ChanEvent) → IsTurned op before later after →
    completions op later ≤ before
completions-turned op before after [] h = omega arith
completions-turned op before after (Called call ∷ later) h =
    elim (begins op call) as (λ b.
    MatchBool b ((before ≡ 0) × IsTurned op 1 later after) (IsTurned op before later after) →
    cond b 0 (completions op later) ≤ before) [
      | true ↦ λ h. omega arith
      | false ↦ λ h. completions-turned op before after later h
    ] h
completions-turned op before after (Told done ∷ later) h =
    elim (done.op == op) as (λ b.
    MatchBool b ((before ≡ 1) × IsTurned op 0 later after) (IsTurned op before later after) →
    cond b (completions op later + 1) (completions op later) ≤ before) [
      | true ↦ λ h. let is = h.0 in let rest = completions-turned op 0 after later h.1 in omega arith
      | false ↦ λ h. completions-turned op before after later h
    ] h

-- one where the test passes
abbrev pub one_if : Bool → ℕ
one_if true = 1
one_if false = 0

-- how many of these completions are of this number
abbrev pub dones : ℕ → List ChanDone → ℕ
dones op [] = 0
dones op (done ∷ rest) = one_if (done.op == op) + dones op rest

pub told-turned : (op before after : ℕ) (done : List ChanDone) → dones op done + after ≡ before → before ≤ 1 →
    IsTurned op before (map Told done) after
told-turned op before after [] e le = omega arith
told-turned op before after (done ∷ rest) e le =
    elim (done.op == op) as (λ b. one_if b + dones op rest + after ≡ before →
    MatchBool b ((before ≡ 1) × IsTurned op 0 (map Told rest) after) (IsTurned op before (map Told rest) after)) [
      | true ↦ λ e. (omega arith, told-turned op 0 after rest (omega arith) (omega arith))
      | false ↦ λ e. told-turned op before after rest (omega arith) le
    ] e

-- a call, and what completes by it, where no number is pending twice
pub call-turned : (op before after : ℕ) (call : ChanCall) (done : List ChanDone) →
    dones op done + after ≡ before + one_if (begins op call) → before ≤ 1 →
    (begins op call ≡ true → before ≡ 0) → IsTurned op before (Called call ∷ map Told done) after
call-turned op before after call done e le free =
    elim (begins op call) as (λ b. dones op done + after ≡ before + one_if b → (b ≡ true → before ≡ 0) →
    MatchBool b ((before ≡ 0) × IsTurned op 1 (map Told done) after) (IsTurned op before (map Told done) after)) [
      | true ↦ λ e free.
          let none = free refl in (none, told-turned op 1 after done (omega arith) (omega arith))
      | false ↦ λ e free. told-turned op before after done (omega arith) le
    ] e free
