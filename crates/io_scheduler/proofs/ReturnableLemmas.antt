-- The operation whose system call has returned, at its place.
use Rattle.std.proofs.Common.{arith, ap, refl, subst, sym, ◌∙◌}
use Rattle.std.specs.Prelude.{◌≡◌, ℕ, true, List, Option, Some, None}
use Rattle.std.specs.Global.{Vec}
use Rattle.std.specs.Option.{is_some}
use Rattle.io_rules.specs.declared.event.Event.{Event}
use Rattle.io_rules.specs.declared.gave.Gave.{Gave}
use Rattle.io_rules.specs.declared.gave.Gave.TheVariants as gave
use Rattle.io_rules.specs.declared.limits.Limits.{Limits}
use Rattle.io_rules.specs.declared.name.Name.{Name}
use Rattle.io_rules.specs.declared.operation.Side.{Side}
use Rattle.io_rules.specs.declared.request.Marks.{Marks}
use Rattle.io_rules.specs.Legal.{IsLegal, state_of}
use Rattle.io_rules.specs.State.{stream_at}
use Rattle.io_queues.specs.Queued.{found_in}
use Rattle.io_streams.specs.declared.pending.PendingOp.{PendingOp}
use Rattle.io_streams.specs.Pending.{StreamList, back_in, item_of}
use Rattle.io_scheduler.specs.declared.returning.Came.{Came}
use Rattle.io_scheduler.specs.declared.streaming.Streaming.{Streaming}
use Rattle.io_scheduler.specs.Back.{CameAt, IsReturnable, IsUnusedAt, MayOpen, given_at, given_if, made_of}
use Rattle.io_scheduler.specs.Returned.{came_of, fits_back}
use Rattle.io_scheduler.specs.Streams.{ShowsStreams}
use Rattle.io_scheduler.proofs.BackedLemmas.{returned}
use Rattle.io_scheduler.proofs.LeavingLemmas.{first_within}
use Rattle.io_scheduler.proofs.LinkedLemmas.{open_with}
use Rattle.io_scheduler.proofs.UnusedLemmas.{reserved_place}

some_is : {X : Type 0} (a b : X) → Some a ≡ Some b → a ≡ b
some_is a b is = cc

module _ {H : Type 0} (name : Name) (sd : Side) (s : StreamList (Streaming H)) (place : ℕ) (given : Gave) where
  pub is_there : IsReturnable name sd s place given → is_some (found_in place s.ops) ≡ true
  is_there it = ap is_some it.found

  pub fit_at : (op : PendingOp (Streaming H)) → IsReturnable name sd s place given → found_in place s.ops ≡ Some op →
      fits_back op.item.kind op.item.moved given ≡ true
  fit_at op it found =
      subst (λ (x : PendingOp (Streaming H)). fits_back x.item.kind x.item.moved given ≡ true)
      (some_is it.op op (sym it.found ∙ found)) it.fit

  pub came_here : (op : PendingOp (Streaming H)) (come : Came) → found_in place s.ops ≡ Some op →
      come ≡ came_of op.item.kind given op.item.moved op.item.cancelled → CameAt place given s come
  came_here op come found is = λ other there.
      is ∙ ap (λ (x : PendingOp (Streaming H)). came_of x.item.kind given x.item.moved x.item.cancelled)
      (some_is op other (sym found ∙ there))

  -- what an accept made has the place that was kept for it
  pub may_open : (marks : H → Marks) (limits : Limits) (past : List Event) → IsLegal limits past →
      ShowsStreams marks limits s (state_of limits past) →
      MayOpen (made_of given (stream_at s.streams name).reserved) s.streams
  may_open marks limits past legal shows = by_made given
    where
      by_kept : (reserved : Option Name) → (stream_at s.streams name).reserved ≡ reserved → MayOpen reserved s.streams
      by_kept None has = tt
      by_kept (Some made) has =
          let kept = reserved_place limits past legal name made
          (ap (λ xs. (stream_at xs name).reserved) (sym shows.streams_are) ∙ has) in
          let within = kept.within in let places = shows.places in
          subst (λ xs. IsUnusedAt xs made) (sym shows.streams_are)
          (record { within = omega (arith, within, places); unused = kept.idle })

      by_made : (given : Gave) → MayOpen (made_of given (stream_at s.streams name).reserved) s.streams
      by_made gave.WouldBlock = tt
      by_made (gave.Moved size) = tt
      by_made (gave.Found more end) = tt
      by_made (gave.Failed given) = tt
      by_made gave.Made = by_kept (stream_at s.streams name).reserved refl
      by_made gave.Linked = tt

  -- still once its socket is back
  pub open_back : (come : Came) (buffer : Option (Vec ℕ)) (made : Option Name) → IsReturnable name sd s place given →
      MayOpen made s.streams → MayOpen made (given_at place come buffer (back_in name s)).streams
  open_back come buffer made it may =
      subst (λ (st : StreamList (Streaming H)). MayOpen made st.streams)
      (sym (ap (λ o. given_if place come buffer (item_of o) (back_in name s)) it.found))
      (open_with made s.streams name sd it.op.op (returned (stream_at s.streams name))
      (first_within s.streams name sd it.op.op it.head.first) it.head.first may)
