-- One operation is all that is pending on a stream.
use Rattle.std.proofs.Common.{arith, ap, refl, subst, sym, ◌∙◌}
use Rattle.std.specs.Prelude.{◌≡◌, ◌<◌, ℕ, ◌==◌, ◌&&◌, cond, false, List, [], ◌∷◌, Some, map}
use Rattle.std.specs.List.{filter}
use Rattle.io_rules.specs.declared.name.Name.{Name}
use Rattle.io_rules.specs.declared.op.Op.{Op}
use Rattle.io_rules.specs.declared.operation.Side.{Side}
use Rattle.io_rules.specs.declared.operation.Side.TheVariants as side
use Rattle.io_rules.specs.declared.request.Marks.{Marks}
use Rattle.io_rules.specs.Cancelling.{queue_of, same_side}
use Rattle.io_rules.specs.Serving.{first_of}
use Rattle.io_rules.specs.State.{stream_at}
use Rattle.io_rules.proofs.StrandLemmas.{both, by_test}
use Rattle.io_rules.proofs.TotalLemmas.{equal}
use Rattle.io_queues.specs.Ordered.{Each}
use Rattle.io_streams.specs.declared.pending.PendingOp.{PendingOp}
use Rattle.io_streams.specs.Kept.{IsWhole}
use Rattle.io_streams.specs.Pending.{Entry, StreamList, is_at, number_of}
use Rattle.io_scheduler.specs.declared.streaming.Streaming.{Streaming}
use Rattle.io_scheduler.specs.Streams.{AreStreaming, IsStreamingAs}
use Rattle.io_scheduler.specs.Vacated.{IsAlone}
use Rattle.io_scheduler.proofs.LeavingLemmas.{above_rest, first_rest}

-- each at the place of this stream is this one
pub record IsThis {H : Type 0} (n : ℕ) (sd : Side) (it : PendingOp (Streaming H)) : Type 0 where
  pub number : it.op ≡ n
  pub on : it.side ≡ sd

other_side : (a b : Side) → (a ≡ b → ⊥) → same_side a b ≡ false
other_side side.Read side.Read other = absurd (other refl)
other_side side.Read side.Write other = refl
other_side side.Read side.Connect other = refl
other_side side.Write side.Read other = refl
other_side side.Write side.Write other = absurd (other refl)
other_side side.Write side.Connect other = refl
other_side side.Connect side.Read other = refl
other_side side.Connect side.Write other = refl
other_side side.Connect side.Connect other = absurd (other refl)

module _ {H : Type 0} (marks : H → Marks) (ops : List Op) (name : Name) (sd : Side) (n : ℕ)
    (only : (it : PendingOp (Streaming H)) → IsStreamingAs marks ops it → it.stream.place ≡ name.place → IsThis n sd it) where
  -- on another side there is none
  none_on : (on : Side) → (sd ≡ on → ⊥) → (xs : List (Entry (PendingOp (Streaming H)))) → AreStreaming marks ops xs →
      filter (is_at name.place on) xs ≡ []
  none_on on other [] all = refl
  none_on on other (x ∷ xs) all =
      let rest = none_on on other xs all.1 in
      let isnt : is_at name.place on x ≡ false =
      by_test (x.item.stream.place == name.place)
      (λ here.
      let this = only x.item all.0 (equal x.item.stream.place name.place here) in
      ap (λ b. b && same_side x.item.side on) here ∙ ap (λ o. same_side o on) this.on ∙ other_side sd on other)
      (λ elsewhere. ap (λ b. b && same_side x.item.side on) elsewhere) in
      ap (λ b. cond b (x ∷ filter (is_at name.place on) xs) (filter (is_at name.place on) xs)) isnt ∙ rest

  -- and on its own side each is this one
  own_on : (xs : List (Entry (PendingOp (Streaming H)))) → AreStreaming marks ops xs →
      Each (λ k. k ≡ n) (map number_of (filter (is_at name.place sd) xs))
  own_on [] all = tt
  own_on (x ∷ xs) all =
      by_test (is_at name.place sd x)
      (λ here.
      let place = (both (x.item.stream.place == name.place) (same_side x.item.side sd) here).one in
      subst (λ l. Each (λ k. k ≡ n) (map number_of l))
      (sym (ap (λ b. cond b (x ∷ filter (is_at name.place sd) xs) (filter (is_at name.place sd) xs)) here)) (
        (only x.item all.0 (equal x.item.stream.place name.place place)).number,
        own_on xs all.1,
      ))
      (λ elsewhere.
      subst (λ l. Each (λ k. k ≡ n) (map number_of l))
      (sym (ap (λ b. cond b (x ∷ filter (is_at name.place sd) xs) (filter (is_at name.place sd) xs)) elsewhere))
      (own_on xs all.1))

  alone_rest : (rest : List ℕ) → Each (λ k. k ≡ n) rest → Each (λ k. n < k) rest → rest ≡ []
  alone_rest [] same more = refl
  alone_rest (k ∷ rest) same more = let is = same.0 in let less = more.0 in absurd (omega (arith, is, less))

  pub only_alone : (streams : StreamList (Streaming H)) → IsWhole streams → AreStreaming marks ops streams.ops →
      first_of sd (stream_at streams.streams name) ≡ Some n → IsAlone sd n (stream_at streams.streams name)
  only_alone streams whole all first =
      let cut = first_rest (queue_of sd (stream_at streams.streams name)) n first in
      let queue = sym (whole.sides name sd) ∙ cut.1 in
      let more = above_rest (is_at name.place sd) n cut.0 streams.ops whole.rises queue in
      let same = subst (Each (λ k. k ≡ n)) queue (own_on streams.ops all) in
      record {
        own = cut.1 ∙ ap (λ l. n ∷ l) (alone_rest cut.0 same.1 more);
        others = λ on other. whole.sides name on ∙ ap (map number_of) (none_on on other streams.ops all);
      }
