-- The first operation of a side gets nothing without a system call.
use Rattle.std.proofs.Common.{ap, refl, sym, ◌∙◌}
use Rattle.std.proofs.lemmas.List.{set-get_or}
use Rattle.std.specs.Prelude.{◌≡◌, ℕ, ◌==◌, ◌&&◌, min, Bool, true, false, List, [], ◌∷◌, ◌++◌, Option, Some, None, if◌then◌else◌}
use Rattle.asio_types.specs.declared.code.Code.{Code}
use Rattle.io_rules.specs.declared.op.Op.{Op}
use Rattle.io_rules.specs.declared.op.Phase.{Phase}
use Rattle.io_rules.specs.declared.op.Phase.TheVariants as phase
use Rattle.io_rules.specs.declared.operation.Side.{Side}
use Rattle.io_rules.specs.Operations.{Target}
use Rattle.io_rules.specs.Ops.{is_pending, is_settled, op_at, phase_changed, phase_changed_of, with_phase}
use Rattle.io_rules.specs.Serving.{Served, first_of, now_held, now_settled, op_of, served, served_op, settles, with_held}
use Rattle.io_rules.specs.State.{ContextState, StreamState, new_stream, stream_at, with_stream}
use Rattle.io_rules.proofs.StrandLemmas.{by_test}
use Rattle.io_scheduler.specs.Streams.{IsPlain}

some_is : {X : Type 0} (x y : X) → Some x ≡ Some y → x ≡ y
some_is x y is = cc

-- a change that leaves the one that it is for
pub phase-same : (n : ℕ) (f : Op → Phase) (ops : List Op) (it : Op) → op_at ops n ≡ Some it → f it ≡ it.phase →
    phase_changed n f ops ≡ ops
phase-same n f [] it is same = refl
phase-same n f (x ∷ ops) it is same =
    let new : Op = record x { phase = f x } in
    by_test (x.number == n)
    (λ here.
    let at : x ≡ it = some_is x it (sym (ap (λ b. if b then Some x else op_at ops n) here) ∙ is) in
    ap (λ b. if b then new ∷ ops else x ∷ phase_changed n f ops) here
    ∙ ap (λ (p : Phase). record x { phase = p } ∷ ops) (ap f at ∙ same ∙ ap (λ (o : Op). o.phase) (sym at)))
    (λ other.
    ap (λ b. if b then new ∷ ops else x ∷ phase_changed n f ops) other
    ∙ ap (λ rest. x ∷ rest)
    (phase-same n f ops it (sym (ap (λ b. if b then Some x else op_at ops n) other) ∙ is) same))

-- and one for none
pub phase-absent : (n : ℕ) (f : Op → Phase) (ops : List Op) → op_at ops n ≡ None → phase_changed n f ops ≡ ops
phase-absent n f [] none = refl
phase-absent n f (x ∷ ops) none =
    let new : Op = record x { phase = f x } in
    by_test (x.number == n)
    (λ here. absurd (found x (sym (ap (λ b. if b then Some x else op_at ops n) here) ∙ none)))
    (λ other.
    ap (λ b. if b then new ∷ ops else x ∷ phase_changed n f ops) other
    ∙ ap (λ rest. x ∷ rest) (phase-absent n f ops (sym (ap (λ b. if b then Some x else op_at ops n) other) ∙ none)))
  where
    found : (x : Op) → Some x ≡ None → ⊥
    found x is = cc

-- nothing but a system call settles it
abbrev pub IsUnserved : StreamState → Side → Op → Type 0
IsUnserved stream side op = served_op stream side op ≡ record { phase = op.phase; held = stream.held }

never_both : (p : Phase) → (is_pending p && is_settled p) ≡ false
never_both (phase.Pending moved cancelled) = refl
never_both (phase.Settled code size) = refl
never_both (phase.Ready code size) = refl
never_both (phase.Running own grant spares) = refl

-- its parts
record GetsNothing (s : ContextState) (stream : StreamState) (side : Side) (first : Option ℕ) (found : Option Op) :
    Type 0 where
  ops : phase_changed_of first (λ op. (served_op stream side op).phase) s.ops ≡ s.ops
  settled : now_settled stream side found ≡ []
  held : now_held stream side found ≡ stream.held

gets_nothing : (s : ContextState) (stream : StreamState) (side : Side) (first : Option ℕ) →
    ((n : ℕ) (it : Op) → first ≡ Some n → op_at s.ops n ≡ Some it → IsUnserved stream side it) →
    GetsNothing s stream side first (op_of s.ops first)
gets_nothing s stream side None still = record { ops = refl; settled = refl; held = refl }
gets_nothing s stream side (Some n) still = by_op (op_at s.ops n) refl
  where
    by_op : (o : Option Op) → op_at s.ops n ≡ o → GetsNothing s stream side (Some n) o
    by_op None none = record {
      ops = phase-absent n (λ op. (served_op stream side op).phase) s.ops none;
      settled = refl;
      held = refl;
    }
    by_op (Some it) is =
        let same = still n it refl is in
        record {
          ops = phase-same n (λ op. (served_op stream side op).phase) s.ops it is (ap (λ (x : Served). x.phase) same);
          settled =
              ap (λ (x : Served). if is_pending it.phase && is_settled x.phase then it.number ∷ [] else []) same
              ∙ ap (λ b. if b then it.number ∷ [] else []) (never_both it.phase);
          held = ap (λ (x : Served). x.held) same;
        }

plain_held : (stream : StreamState) → IsPlain stream →
    with_held stream.held (min stream.searched stream.held) stream ≡ stream
plain_held stream plain =
    ap (λ k. with_held stream.held k stream)
    (ap (λ k. min k stream.held) plain.searched ∙ ap (λ k. min 0 k) plain.held ∙ sym plain.searched)

-- so serving it changes nothing
pub served_nothing : (s : ContextState) (t : Target) → IsPlain (stream_at s.streams t.stream) →
    ((n : ℕ) (it : Op) → first_of t.side (stream_at s.streams t.stream) ≡ Some n → op_at s.ops n ≡ Some it →
    IsUnserved (stream_at s.streams t.stream) t.side it) →
    served (Some t) s ≡ record s { settled = s.settled ++ [] }
served_nothing s t plain still =
    let stream = stream_at s.streams t.stream in
    let first = first_of t.side stream in
    let found = op_of s.ops first in
    let parts = gets_nothing s stream t.side first still in
    let held = now_held stream t.side found in
    ap (λ ops. record s {
      ops = ops;
      settled = s.settled ++ now_settled stream t.side found;
      streams = with_stream t.stream (with_held held (min stream.searched held) stream) s.streams;
    }) parts.ops
    ∙ ap (λ more. record s {
      settled = s.settled ++ more;
      streams = with_stream t.stream (with_held held (min stream.searched held) stream) s.streams;
    }) parts.settled
    ∙ ap (λ h. record s {
      settled = s.settled ++ [];
      streams = with_stream t.stream (with_held h (min stream.searched h) stream) s.streams;
    }) parts.held
    ∙ ap (λ st. record s { settled = s.settled ++ []; streams = with_stream t.stream st s.streams }) (plain_held stream plain)
    ∙ ap (λ xs. record s { settled = s.settled ++ []; streams = xs })
    (set-get_or s.streams t.stream.place new_stream)

-- changes that agree on the one that they are for
pub phase-alike : (n : ℕ) (f g : Op → Phase) (ops : List Op) (it : Op) → op_at ops n ≡ Some it → f it ≡ g it →
    phase_changed n f ops ≡ phase_changed n g ops
phase-alike n f g [] it is same = refl
phase-alike n f g (x ∷ ops) it is same =
    let by_f : Op = record x { phase = f x } in
    let by_g : Op = record x { phase = g x } in
    by_test (x.number == n)
    (λ here.
    let at : x ≡ it = some_is x it (sym (ap (λ b. if b then Some x else op_at ops n) here) ∙ is) in
    ap (λ b. if b then by_f ∷ ops else x ∷ phase_changed n f ops) here
    ∙ ap (λ (p : Phase). record x { phase = p } ∷ ops) (ap f at ∙ same ∙ ap g (sym at))
    ∙ sym (ap (λ b. if b then by_g ∷ ops else x ∷ phase_changed n g ops) here))
    (λ other.
    ap (λ b. if b then by_f ∷ ops else x ∷ phase_changed n f ops) other
    ∙ ap (λ rest. x ∷ rest)
    (phase-alike n f g ops it (sym (ap (λ b. if b then Some x else op_at ops n) other) ∙ is) same)
    ∙ sym (ap (λ b. if b then by_g ∷ ops else x ∷ phase_changed n g ops) other))

-- the first operation of a side is settled with no system call
pub served_settled : (s : ContextState) (t : Target) (n : ℕ) (it : Op) (given : Code) (size : ℕ) →
    first_of t.side (stream_at s.streams t.stream) ≡ Some n → op_at s.ops n ≡ Some it → is_pending it.phase ≡ true →
    served_op (stream_at s.streams t.stream) t.side it ≡ settles given size (stream_at s.streams t.stream).held →
    IsPlain (stream_at s.streams t.stream) →
    served (Some t) s
    ≡ record s { ops = with_phase n (phase.Settled given size) s.ops; settled = s.settled ++ it.number ∷ [] }
served_settled s t n it given size first is pending gets plain =
    let stream = stream_at s.streams t.stream in
    let by_first : Option ℕ → ContextState = λ o. record s {
      ops = phase_changed_of o (λ op. (served_op stream t.side op).phase) s.ops;
      settled = s.settled ++ now_settled stream t.side (op_of s.ops o);
      streams = with_stream t.stream (with_held (now_held stream t.side (op_of s.ops o))
          (min stream.searched (now_held stream t.side (op_of s.ops o))) stream) s.streams;
    } in
    let by_op : Option Op → ContextState = λ o. record s {
      ops = phase_changed n (λ op. (served_op stream t.side op).phase) s.ops;
      settled = s.settled ++ now_settled stream t.side o;
      streams = with_stream t.stream (with_held (now_held stream t.side o) (min stream.searched (now_held stream t.side o)) stream)
          s.streams;
    } in
    let by_got : Served → ContextState = λ x. record s {
      ops = phase_changed n (λ op. (served_op stream t.side op).phase) s.ops;
      settled = s.settled ++ (if is_pending it.phase && is_settled x.phase then it.number ∷ [] else []);
      streams = with_stream t.stream (with_held x.held (min stream.searched x.held) stream) s.streams;
    } in
    let by_pending : Bool → ContextState = λ b. record s {
      ops = phase_changed n (λ op. (served_op stream t.side op).phase) s.ops;
      settled = s.settled ++ (if b && true then it.number ∷ [] else []);
      streams = with_stream t.stream (with_held stream.held (min stream.searched stream.held) stream) s.streams;
    } in
    ap by_first first ∙ ap by_op is ∙ ap by_got gets ∙ ap by_pending pending
    ∙ ap (λ ops. record s {
      ops = ops;
      settled = s.settled ++ it.number ∷ [];
      streams = with_stream t.stream (with_held stream.held (min stream.searched stream.held) stream) s.streams;
    })
    (phase-alike n (λ op. (served_op stream t.side op).phase) (λ op. phase.Settled given size) s.ops it is
    (ap (λ (x : Served). x.phase) gets))
    ∙ ap (λ st. record s {
      ops = with_phase n (phase.Settled given size) s.ops;
      settled = s.settled ++ it.number ∷ [];
      streams = with_stream t.stream st s.streams;
    }) (plain_held stream plain)
    ∙ ap (λ xs. record s {
      ops = with_phase n (phase.Settled given size) s.ops;
      settled = s.settled ++ it.number ∷ [];
      streams = xs;
    })
    (set-get_or s.streams t.stream.place new_stream)
