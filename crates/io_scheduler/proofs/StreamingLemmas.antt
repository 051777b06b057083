-- Counts of what is pending on streams, and of sockets in system calls.
use Rattle.std.proofs.Common.{arith, ap, refl, ◌∙◌}
use Rattle.std.proofs.lemmas.List.Sums.{sum_by-cons}
use Rattle.std.specs.Prelude.{◌≡◌, ℕ, zero, suc, ◌+◌, ◌==◌, ◌&&◌, not, Bool, List, [], ◌∷◌, Option, None, Some, replicate}
use Rattle.io_rules.specs.declared.operation.Side.{Side}
use Rattle.io_rules.specs.Changes.{is_out}
use Rattle.io_rules.specs.Room.{one_if}
use Rattle.io_rules.specs.State.{StreamState, new_stream}
use Rattle.io_timers.proofs.FoundLemmas.{apart_test}
use Rattle.io_scheduler.specs.Streaming.{none_out, on_sides, on_streams, out_in}

abbrev is_one_out : StreamState → ℕ
is_one_out stream = one_if (is_out stream.out)

-- before the first event
pub none_first : (n : ℕ) → on_streams (replicate n new_stream) ≡ 0
none_first zero = refl
none_first (suc n) =
    let cons = sum_by-cons on_sides new_stream (replicate n new_stream) in
    let rest = none_first n in
    omega (arith, cons, rest)

pub in_first : (n : ℕ) → out_in (replicate n new_stream) ≡ 0
in_first zero = refl
in_first (suc n) =
    let cons = sum_by-cons is_one_out new_stream (replicate n new_stream) in
    let rest = in_first n in
    omega (arith, cons, rest)

none_here : (o : Option Side) (rest : ℕ) (b : Bool) → (rest == 0) ≡ b →
    (one_if (is_out o) + rest == 0) ≡ (not (is_out o) && b)
none_here None rest b is = let same : 0 + rest ≡ rest = omega arith in ap (λ n. n == 0) same ∙ is
none_here (Some side) rest b is = apart_test (1 + rest) 0 (λ e. omega (arith, e))

-- where none is counted none is out, and the other way round
pub none_shown : (streams : List StreamState) → (out_in streams == 0) ≡ none_out streams
none_shown [] = refl
none_shown (stream ∷ streams) =
    ap (λ n. n == 0) (sum_by-cons is_one_out stream streams)
    ∙ none_here stream.out (out_in streams) (none_out streams) (none_shown streams)
