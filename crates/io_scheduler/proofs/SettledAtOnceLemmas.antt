-- An operation on a stream is initiated from outside, and completes at once: all that this needs and leaves.
use Rattle.std.proofs.Common.{ap, refl, subst, sym, ◌∙◌}
use Rattle.std.specs.Global.{Vec}
use Rattle.std.specs.Prelude.{◌≡◌, ◌<◌, ℕ, ◌∷◌, ◌++◌, [], true, false, List, Option, Some, None, length, slice_get}
use Rattle.asio_types.specs.declared.code.Code.{Code}
use Rattle.io_rules.specs.declared.event.Event.TheVariants as event
use Rattle.io_rules.specs.declared.limits.Limits.{Limits}
use Rattle.io_rules.specs.declared.name.Lane.{Lane}
use Rattle.io_rules.specs.declared.operation.Operation.{Operation}
use Rattle.io_rules.specs.declared.request.Gone.TheVariants as gone
use Rattle.io_rules.specs.declared.request.Marks.{Marks}
use Rattle.io_rules.specs.Calls.{is_lane_gone, is_target_gone}
use Rattle.io_rules.specs.Cancelling.{is_out_for}
use Rattle.io_rules.specs.Legal.{MayHappen, after}
use Rattle.io_rules.specs.Names.{Names}
use Rattle.io_rules.specs.Operations.{Target, target_of}
use Rattle.io_rules.specs.State.{ContextState, stream_at}
use Rattle.io_rules.proofs.StrandLemmas.{by_test}
use Rattle.io_jobs.specs.Listed.{JobList}
use Rattle.io_strands.specs.declared.ready.ReadyOp.{ReadyOp}
use Rattle.io_strands.specs.Cell.{Cell}
use Rattle.io_streams.specs.Pending.{StreamList}
use Rattle.io_timers.specs.Pending.{Timers}
use Rattle.io_scheduler.specs.declared.counts.Counts.{Counts}
use Rattle.io_scheduler.specs.declared.streaming.Streaming.{Streaming}
use Rattle.io_scheduler.specs.declared.tally.Tally.{Tally}
use Rattle.io_scheduler.specs.declared.waiting.Waiting.{Waiting}
use Rattle.io_scheduler.specs.Entered.{entered_cells, entered_jobs}
use Rattle.io_scheduler.specs.Expired.{left_settled, left_waits}
use Rattle.io_scheduler.specs.Posted.{counts_posted, posting, ready_posting}
use Rattle.io_scheduler.specs.Shown.{Shows}
use Rattle.io_scheduler.specs.Streams.{ShowsStreams}
use Rattle.io_scheduler.specs.Tallied.{IsTally, tally_called}
use Rattle.io_scheduler.specs.Transferred.{settled_at_once}
use Rattle.io_handlers.specs.Initiated.{is_transfer}
use Rattle.io_scheduler.specs.Waits.{ShowsWaits}
use Rattle.io_scheduler.proofs.AtOnceLemmas.{SettlesFirst, settles_first}
use Rattle.io_scheduler.proofs.DoneAtOnceLemmas.{behind_both, may_be_done, none_settled}
use Rattle.io_scheduler.proofs.PostedLemmas.{posted, posted_op, shows_posted}
use Rattle.io_scheduler.proofs.StayedLemmas.{StaysPending, others_wait, stays_pushed}
use Rattle.io_scheduler.proofs.TallyLemmas.{tally_pushed}
use Rattle.io_scheduler.proofs.TransferringLemmas.{there_within}

module _ {H S : Type 0} (marks : H → Marks) (limits : Limits) (s : ContextState) (counts : Counts) (names : Names)
    (cells : List (Cell H S)) (jobs : JobList (ReadyOp H)) (timers : Timers (Waiting H)) (streams : StreamList (Streaming H))
    (tally : Tally) (on : Lane) (kind : Operation) (t : Target) (c : Code) (buffer : Option (Vec ℕ)) (handler : H)
    (transfers : is_transfer kind ≡ true) (at : target_of kind ≡ Some t)
    (shows : Shows marks limits counts names cells jobs s)
    (waits : ShowsWaits marks limits timers s)
    (on_them : ShowsStreams marks limits streams s) (counted : IsTally tally s)
    (there : is_lane_gone s.names on ≡ false) (target_there : is_target_gone s kind (target_of kind) ≡ false)
    (settled : settled_at_once s kind ≡ Some c) where
  next_is : counts.next ≡ s.next
  next_is = ap (λ (n : Counts). n.next) shows.counts_are

  within : t.stream.place < length s.streams
  within = there_within marks limits streams s kind t at target_there on_them

  first : SettlesFirst (stream_at s.streams t.stream) t kind c
  first = settles_first s kind t c at settled

  free : is_out_for t.side (stream_at s.streams t.stream).out ≡ false
  free =
      by_test (is_out_for t.side (stream_at s.streams t.stream).out)
      (λ out. absurd (on_them.busy t.stream t.side out (ap (λ q. slice_get q 0) first.empty)))
      (λ in_it. in_it)

  abbrev called : ℕ → ContextState
  called n = after (event.Called n None (posting on kind (marks handler)) gone.Nothing) s

  abbrev both : ℕ → ContextState
  both n = after (event.Done n c 0) (called n)

  behind : both s.next ≡ posted false s.next on (posted_op s.next on kind (marks handler) c)
      (left_settled s.next ((s.settled ++ []) ++ s.next ∷ [])) (left_waits s.next (s.waits ++ [])) s
  behind =
      behind_both s on kind (marks handler) t c transfers at shows.below within (on_them.plain t.stream) free first
      shows.settled

  pub once_may : MayHappen (called counts.next) (event.Done counts.next c 0)
  once_may =
      subst (λ n. MayHappen (called n) (event.Done n c 0)) (sym next_is)
      (may_be_done s on kind (marks handler) t c transfers at shows.below within (on_them.plain t.stream) free first
      shows.settled shows.going)

  pub once_shown : Shows marks limits (counts_posted counts) names
      (entered_cells false on (ready_posting counts.next c buffer handler) cells)
      (entered_jobs false on (ready_posting counts.next c buffer handler) cells jobs) (both counts.next)
  once_shown =
      subst
      (λ n. Shows marks limits (counts_posted counts) names (entered_cells false on (ready_posting n c buffer handler) cells)
      (entered_jobs false on (ready_posting n c buffer handler) cells jobs) (both n)) (sym next_is)
      (subst
      (Shows marks limits (counts_posted counts) names (entered_cells false on (ready_posting s.next c buffer handler) cells)
      (entered_jobs false on (ready_posting s.next c buffer handler) cells jobs)) (sym behind)
      (shows_posted marks limits counts names cells jobs s false s.next on kind c buffer handler
      (left_settled s.next ((s.settled ++ []) ++ s.next ∷ [])) (left_waits s.next (s.waits ++ [])) refl
      (none_settled s on kind (marks handler) t c transfers at shows.below within (on_them.plain t.stream) free first
      shows.settled) there shows))

  pub once_stays : StaysPending s (both counts.next)
  once_stays =
      subst (λ n. StaysPending s (both n)) (sym next_is)
      (stays_pushed s (both s.next) None (posted_op s.next on kind (marks handler) c) refl
      (ap (λ (x : ContextState). x.ops) behind) (ap (λ (x : ContextState). x.timers) behind)
      (ap (λ (x : ContextState). x.names) behind)
      (ap (λ (x : ContextState). x.waits) behind ∙ others_wait marks limits timers s s.next refl shows.below waits)
      (ap (λ (x : ContextState). x.streams) behind))

  pub once_names : length (both counts.next).names.streams ≡ length s.names.streams
  once_names =
      subst (λ n. length (both n).names.streams ≡ length s.names.streams) (sym next_is)
      (ap (λ (x : ContextState). length x.names.streams) behind)

  pub once_tallied : IsTally (tally_called tally) (both counts.next)
  once_tallied =
      subst (λ n. IsTally (tally_called tally) (both n)) (sym next_is)
      (tally_pushed tally s (both s.next) None (posted_op s.next on kind (marks handler) c) counted refl
      (ap (λ (x : ContextState). x.ops) behind) (ap (λ (x : ContextState). x.next) behind)
      (ap (λ (x : ContextState). x.streams) behind))
