-- The law of what is sent, along a history.
use Rattle.std.proofs.Common.{◌≡◌, ℕ, zero, suc, true, false, List, [], ◌∷◌, ◌++◌, Option, Some, None, length, replicate, set, inl, inr, refl, sym, ap, subst, ◌∙◌, append_assoc}
use Rattle.std.specs.List.{slice_index_or}
use Rattle.std.proofs.lemmas.Bool.{cases_eq, cases_lt}
use Rattle.std.proofs.lemmas.List.{append-nil, get_or-set_same, get_or-set_other, length-map, set_past}
use Rattle.std.proofs.lemmas.List.Elements.{All-nil}
use Rattle.asio_types.specs.declared.code.Code.{Code}
use Rattle.asio_types.specs.declared.event.Event.{Event}
use Rattle.asio_types.specs.declared.event.Event.TheVariants as event
use Rattle.asio_types.specs.declared.world.Line.{Line}
use Rattle.asio_types.specs.declared.world.What.{What}
use Rattle.asio_types.specs.declared.world.What.TheVariants as what
use Rattle.session_script.specs.Script.{ScriptModel, act_of}
use Rattle.stream_rules.specs.declared.queue.Completion.{Completion}
use Rattle.stream_rules.specs.Serving.{Outcome}
use Rattle.stream_rules.specs.Stream.{Stream, line_performed, marked_last, new_stream}
use Rattle.stream_rules.specs.World.{lines_at, perform_line, perform_lines, stream_at, streams_at_last}
use Rattle.history_rules.specs.Legal.{IsLegalSoFar, MayHappen, after_event, state_of}
use Rattle.history_rules.specs.Performing.{performed}
use Rattle.history_rules.specs.Requests.{disconnected, reactor_after_done, slot_in, told_off}
use Rattle.history_rules.specs.Settling.{settled}
use Rattle.history_rules.specs.State.{ReactorHalf, State, StreamQueues, first_reactor, first_state, no_queues}
use Rattle.history_rules.specs.Time.{at_last, at_time}
use Rattle.history_laws.specs.Sent.{WritesAreSentInOrder, written_by, written_of}
use Rattle.history_laws.proofs.FirstLemmas.{repeated}
use Rattle.history_laws.proofs.FlowingLemmas.{IsFlowing}
use Rattle.history_laws.proofs.ReachLemmas.{along}
use Rattle.history_laws.proofs.SendStepLemmas.{settle_sends, take_sends}
use Rattle.history_laws.proofs.SendingLemmas.{Sends, queue_of, sends_both, sent_of, stays_sent, total_of}
use Rattle.history_laws.proofs.SentLemmas.{IsShape, IsUnmoved, IsWrite, held_of, told_of}
use Rattle.history_laws.proofs.StreamLemmas.{IsGiven, first_given, given_after, head_due, lines_keep}
use Rattle.history_laws.proofs.TurningLemmas.{taking_flow}

-- no line sends anything
line_sends : (line : What) (s : Stream) → (line_performed line s).sent ≡ s.sent
line_sends (what.Feed bytes) s = refl
line_sends what.End s = refl
line_sends what.Reset s = refl
line_sends (what.Room count) s = refl

lines_send : (k : ℕ) (lines : List Line) (streams : List Stream) →
    (stream_at (perform_lines lines streams) k).sent ≡ (stream_at streams k).sent
lines_send k [] streams = refl
lines_send k (line ∷ lines) streams = lines_send k lines (perform_line streams line) ∙ here
  where
    new : Stream
    new = line_performed line.what (stream_at streams line.stream)

    here : (stream_at (perform_line streams line) k).sent ≡ (stream_at streams k).sent
    here = elim (cases_eq k line.stream) [
      | inl same ↦ elim (cases_lt line.stream (length streams)) [
        | inl within ↦
            ap (λ i. (stream_at (set streams line.stream new) i).sent) same
            ∙ (ap (λ (s : Stream). s.sent) (get_or-set_same streams line.stream new new_stream within)
            ∙ (line_sends line.what (stream_at streams line.stream) ∙ ap (λ i. (stream_at streams i).sent) (sym same)))
        | inr past ↦ ap (λ (xs : List Stream). (stream_at xs k).sent) (set_past streams line.stream new past)
      ]
      | inr other ↦ ap (λ (s : Stream). s.sent) (get_or-set_other streams line.stream k new new_stream other)
    ]

marks_send : (streams : List Stream) (k : ℕ) → (stream_at (streams_at_last streams) k).sent ≡ (stream_at streams k).sent
marks_send [] k = refl
marks_send (stream ∷ streams) zero = refl
marks_send (stream ∷ streams) (suc k) = marks_send streams k

module _ (script : ScriptModel) (k : ℕ) where
  -- what an event says that the writes have moved
  abbrev says : Event → List ℕ
  says (event.Done op code size) = written_of script k op size
  says _ = []

  written_more : (before : List Event) (e : Event) →
      written_by script k (before ++ e ∷ []) ≡ written_by script k before ++ says e
  written_more [] (event.Done op code size) = append-nil (written_of script k op size)
  written_more [] e = refl
  written_more (event.Done op code size ∷ before) e =
      ap (λ bytes. written_of script k op size ++ bytes) (written_more before e)
      ∙ sym (append_assoc (written_of script k op size) (written_by script k before) (says e))
  written_more (event.Stop a ∷ before) e = written_more before e
  written_more (_ ∷ before) e = written_more before e

  written_same : (before : List Event) (e : Event) → says e ≡ [] →
      written_by script k (before ++ e ∷ []) ≡ written_by script k before
  written_same before e none =
      written_more before e
      ∙ (ap (λ bytes. written_by script k before ++ bytes) none ∙ append-nil (written_by script k before))

  -- what was sent is what was reported and a rest, which is what is to come while the reactor works
  record IsWritten (before : List Event) (r : ReactorHalf) : Type 0 where
    given : IsGiven script before r
    shape : IsShape script k (queue_of script k r)
    rest : List ℕ
    sent : sent_of script k r ≡ written_by script k before ++ rest
    exact : r.failed ≡ false → rest ≡ total_of script k r

  -- a step of the reactor that says nothing
  step : (before : List Event) (e : Event) (r t : ReactorHalf) → IsWritten before r → IsGiven script (before ++ e ∷ []) t →
      says e ≡ [] → r.failed ≡ false → Sends script k r t → IsWritten (before ++ e ∷ []) t
  step before e r t is given none works sends = record {
    given = given;
    shape = sends.shape;
    rest = total_of script k t;
    sent =
        sends.sent
        ∙ (ap (λ bytes. bytes ++ sends.more) (is.sent ∙ ap (λ bytes. written_by script k before ++ bytes) (is.exact works))
        ∙ (append_assoc (written_by script k before) (total_of script k r) sends.more
        ∙ (ap (λ bytes. written_by script k before ++ bytes) (sym sends.total)
        ∙ ap (λ bytes. bytes ++ total_of script k t) (sym (written_same before e none)))));
    exact = λ works. refl;
  }

  -- an event that leaves the reactor
  still : (before : List Event) (e : Event) (r : ReactorHalf) → IsWritten before r → IsGiven script (before ++ e ∷ []) r →
      says e ≡ [] → IsWritten (before ++ e ∷ []) r
  still before e r is given none = record {
    given = given;
    shape = is.shape;
    rest = is.rest;
    sent = is.sent ∙ ap (λ bytes. bytes ++ is.rest) (sym (written_same before e none));
    exact = is.exact;
  }

  -- a completion
  told : (before : List Event) (r : ReactorHalf) (o : ℕ) (code : Code) (size : ℕ) (head : Completion) (due : List Completion) →
      r.due ≡ head ∷ due → head.op ≡ o → head.outcome ≡ (code, size) → r.failed ≡ false → IsWritten before r →
      IsGiven script (before ++ event.Done o code size ∷ []) (reactor_after_done script r o) →
      IsWritten (before ++ event.Done o code size ∷ []) (reactor_after_done script r o)
  told before r o code size head due is op outcome works was given = record {
    given = given;
    shape = subst (IsShape script k) (sym queue) was.shape;
    rest = told_of script k due ++ held_of script k (queue_of script k r);
    sent =
        sent
        ∙ (was.sent
        ∙ (ap (λ bytes. written_by script k before ++ bytes)
        (was.exact works
        ∙ (ap (λ due. told_of script k due ++ held_of script k (queue_of script k r)) is
        ∙ (append_assoc (written_of script k head.op head.outcome.1) (told_of script k due)
        (held_of script k (queue_of script k r))
        ∙ ap (λ bytes. bytes ++ (told_of script k due ++ held_of script k (queue_of script k r))) same)))
        ∙ (sym (append_assoc (written_by script k before) (written_of script k o size)
        (told_of script k due ++ held_of script k (queue_of script k r)))
        ∙ ap (λ bytes. bytes ++ (told_of script k due ++ held_of script k (queue_of script k r)))
        (sym (written_more before (event.Done o code size))))));
    exact = λ works.
        sym (ap (λ due. told_of script k due ++ held_of script k (queue_of script k (reactor_after_done script r o))) left
        ∙ ap (λ queue. told_of script k due ++ held_of script k queue) queue);
  }
    where
      same : written_of script k head.op head.outcome.1 ≡ written_of script k o size
      same =
          ap (λ op. written_of script k op head.outcome.1) op
          ∙ ap (λ (outcome : Outcome). written_of script k o outcome.1) outcome

      by_slot : (slot : Option ℕ) (t : ReactorHalf) → ((disconnected o slot t).due ≡ t.due)
          × ((disconnected o slot t).queues ≡ t.queues) × ((disconnected o slot t).streams ≡ t.streams)
      by_slot None t = (refl, refl, refl)
      by_slot (Some slot) t = (refl, refl, refl)

      off : ReactorHalf
      off = record (told_off script o r r.due) { whole_turn = false }

      parts : ((disconnected o (slot_in (act_of script o)) off).due ≡ off.due)
          × ((disconnected o (slot_in (act_of script o)) off).queues ≡ off.queues)
          × ((disconnected o (slot_in (act_of script o)) off).streams ≡ off.streams)
      parts = by_slot (slot_in (act_of script o)) off

      left : (reactor_after_done script r o).due ≡ due
      left = parts.0 ∙ ap (λ due. (told_off script o r due).due) is

      queue : queue_of script k (reactor_after_done script r o) ≡ queue_of script k r
      queue =
          ap (λ (xs : List StreamQueues). (slice_index_or xs k no_queues).writes)
          (parts.1 ∙ ap (λ due. (told_off script o r due).queues) is)

      sent : sent_of script k (reactor_after_done script r o) ≡ sent_of script k r
      sent =
          ap (λ (xs : List Stream). (stream_at xs k).sent) (parts.2 ∙ ap (λ due. (told_off script o r due).streams) is)

  -- each event keeps it
  written_after : (before : List Event) (s : State) (e : Event) → IsWritten before s.reactor → MayHappen script true s e →
      IsWritten (before ++ e ∷ []) (after_event script true s e).reactor
  written_after before s (event.Take a) is may =
      let first = take_sends script k a s.reactor is.given.flowing is.shape in
      let then = settle_sends script k (performed script a s.reactor) (taking_flow script a s.reactor is.given.flowing).flowing
      first.shape in
      step before (event.Take a) s.reactor (settled true (performed script a s.reactor)) is
      (given_after script before s (event.Take a) is.given may) refl may.turn.working
      (sends_both script k s.reactor (performed script a s.reactor) (settled true (performed script a s.reactor)) first then)
  written_after before s (event.Done o code size) is may = elim may.next [
    | inl next ↦
        let found = head_due script s.reactor.due next.head next.due in
        told before s.reactor o code size next.head found.0 found.1 next.is_op next.outcome may.working is
        (given_after script before s (event.Done o code size) is.given may)
    | inr untold ↦ absurd (let wrong : true ≡ false = untold.untold in cc)
  ]
  written_after before s (event.Tick now) is may =
      let moved : ReactorHalf = at_time script true now s.reactor in
      let flowing : IsFlowing script moved = record {
        lengths = lines_keep (lines_at now script.world.lines) s.reactor.streams ∙ is.given.flowing.lengths;
        queues = is.given.flowing.queues;
      } in
      let first = stays_sent script k s.reactor moved is.shape (lines_send k (lines_at now script.world.lines) s.reactor.streams)
      refl in
      step before (event.Tick now) s.reactor (settled true moved) is (given_after script before s (event.Tick now) is.given may)
      refl may.idle.turn.working
      (sends_both script k s.reactor moved (settled true moved) first (settle_sends script k moved flowing first.shape))
  written_after before s event.Last is may =
      let moved : ReactorHalf = at_last true s.reactor in
      let flowing : IsFlowing script moved = record {
        lengths = length-map s.reactor.streams marked_last ∙ is.given.flowing.lengths;
        queues = is.given.flowing.queues;
      } in
      let first = stays_sent script k s.reactor moved is.shape (marks_send s.reactor.streams k) refl in
      step before event.Last s.reactor (settled true moved) is (given_after script before s event.Last is.given may) refl
      may.idle.turn.working
      (sends_both script k s.reactor moved (settled true moved) first (settle_sends script k moved flowing first.shape))
  written_after before s event.Fault is may = record {
    given = given_after script before s event.Fault is.given may;
    shape = is.shape;
    rest = is.rest;
    sent = is.sent ∙ ap (λ bytes. bytes ++ is.rest) (sym (written_same before event.Fault refl));
    exact = λ works. absurd (cc);
  }
  written_after before s (event.Stop (Some a)) is may =
      still before (event.Stop (Some a)) s.reactor is (given_after script before s (event.Stop (Some a)) is.given may) refl
  written_after before s (event.Stop None) is may =
      still before (event.Stop None) s.reactor is (given_after script before s (event.Stop None) is.given may) refl
  written_after before s e is may = still before e s.reactor is (given_after script before s e is.given may) refl

  first_written : IsWritten [] (first_reactor script true)
  first_written = record {
    given = first_given script;
    shape =
        subst (λ (queues : StreamQueues). IsShape script k queues.writes) (sym (repeated no_queues script.world.streams k))
        (record { each = All-nil (IsWrite script k); fresh = All-nil (IsUnmoved script k) });
    rest = [];
    sent =
        lines_send k (lines_at 0 script.world.lines) (replicate script.world.streams new_stream)
        ∙ ap (λ (s : Stream). s.sent) (repeated new_stream script.world.streams k);
    exact = λ works.
        sym (ap (λ (queues : StreamQueues). held_of script k queues.writes) (repeated no_queues script.world.streams k));
  }

  written_so_far : (events : List Event) → IsLegalSoFar script true events →
      IsWritten events (state_of script true events).reactor
  written_so_far events legal =
      along script true (λ before s. IsWritten before s.reactor) written_after [] (first_state script true) first_written events
      legal

-- what the writes of each stream report was sent, one behind the other
pub send_in_order : (script : ScriptModel) (events : List Event) → IsLegalSoFar script true events →
    WritesAreSentInOrder script events
send_in_order script events legal = λ stream.
    let is = written_so_far script stream events legal in (is.rest, is.sent)
