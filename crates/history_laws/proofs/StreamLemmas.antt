-- What the operations of a stream report is no more than the world has given it.
use Rattle.std.proofs.Common.{◌≡◌, ℕ, ◌+◌, ◌≤◌, ◌==◌, zero, suc, Bool, true, false, cond, List, [], ◌∷◌, ◌++◌, Option, Some, None, length, replicate, set, take, inl, inr, refl, sym, ap, subst, ◌∙◌, arith}
use Rattle.std.specs.List.{sum_by}
use Rattle.std.specs.Prelude.{is_some, slice_get}
use Rattle.std.proofs.lemmas.Bool.{cases_eq, cases_lt, cond_both}
use Rattle.std.proofs.lemmas.List.{get_or-set_same, get_or-set_other, length-append, length-map, length-replicate, length-set, set_past}
use Rattle.std.proofs.lemmas.List.Elements.{All-nil}
use Rattle.std.proofs.lemmas.List.Sums.{sum_by-cons, sum_by_push}
use Rattle.asio_types.specs.declared.code.Code.{Code}
use Rattle.asio_types.specs.declared.event.Event.{Event}
use Rattle.asio_types.specs.declared.event.Event.TheVariants as event
use Rattle.asio_types.specs.declared.world.Line.{Line}
use Rattle.asio_types.specs.declared.world.What.{What}
use Rattle.asio_types.specs.declared.world.What.TheVariants as what
use Rattle.session_script.specs.Script.{ScriptModel, act_of}
use Rattle.session_script.specs.WellFormed.{IsWellFormed}
use Rattle.stream_rules.specs.declared.queue.Completion.{Completion}
use Rattle.stream_rules.specs.Queue.{Pending}
use Rattle.stream_rules.specs.Serving.{Outcome, Reading, Writing}
use Rattle.stream_rules.specs.Stream.{Stream, line_performed, marked_last, new_stream}
use Rattle.stream_rules.specs.World.{first_streams, lines_at, perform_line, perform_lines, stream_at, streams_at_last}
use Rattle.history_rules.specs.Legal.{IsLegalSoFar, MayHappen, after_event, state_of}
use Rattle.history_rules.specs.Performing.{performed, queues_at}
use Rattle.history_rules.specs.Requests.{MayComplete, disconnected, reactor_after_done, slot_in, told_off}
use Rattle.history_rules.specs.Settling.{settled}
use Rattle.history_rules.specs.State.{ReactorHalf, State, first_reactor, first_state, no_queues}
use Rattle.history_rules.specs.Time.{at_last, at_time}
use Rattle.history_laws.specs.Events.{StandsAt}
use Rattle.history_laws.specs.Streams.{StreamsKeepTheirBytes, given_at, given_by, given_later, is_read_of, is_write_of, moved_by, moved_in}
use Rattle.history_laws.proofs.BytesLemmas.{IsQueueOf, amount_of, report_of, reports_of, test_of, there_of}
use Rattle.history_laws.proofs.CountLemmas.{same-is}
use Rattle.history_laws.proofs.FirstLemmas.{repeated}
use Rattle.history_laws.proofs.FlowingLemmas.{Flows, IsFlowing, held_by, used}
use Rattle.history_laws.proofs.LawLemmas.{happens}
use Rattle.history_laws.proofs.ReachLemmas.{along, legal_take}
use Rattle.history_laws.proofs.TurningLemmas.{settled_flow, taking_flow}

-- a line gives no more than its amount
line_gives : (side : Bool) (line : What) (s : Stream) →
    there_of side (line_performed line s) ≤ there_of side s + amount_of side line
line_gives true (what.Feed bytes) s =
    cond_both (is_some s.read_mark) s.arrived (s.arrived ++ bytes) (λ arrived. length arrived ≤ length s.arrived + length bytes)
    (λ is. omega arith) (λ is. omega (arith, length-append s.arrived bytes))
line_gives true what.End s = omega arith
line_gives true what.Reset s = omega arith
line_gives true (what.Room count) s = omega arith
line_gives false (what.Feed bytes) s = omega arith
line_gives false what.End s = omega arith
line_gives false what.Reset s = omega arith
line_gives false (what.Room count) s =
    cond_both (is_some s.write_mark) s.room (s.room + count) (λ room. room ≤ s.room + count) (λ is. omega arith)
    (λ is. omega arith)

-- and that to its own stream
abbrev gift_of : Bool → ℕ → Line → ℕ
gift_of side k line = cond (line.stream == k) (amount_of side line.what) 0

changed_less : (side : Bool) (streams : List Stream) (line : Line) (k : ℕ) →
    there_of side (stream_at (perform_line streams line) k) ≤ there_of side (stream_at streams k) + gift_of side k line
changed_less side streams line k = elim (cases_eq k line.stream) [
  | inl same ↦
      let amount : gift_of side k line ≡ amount_of side line.what =
      ap (λ b. cond b (amount_of side line.what) 0) (ap (λ n. line.stream == n) same ∙ same-is line.stream) in
      let new : Stream = line_performed line.what (stream_at streams line.stream) in
      elim (cases_lt line.stream (length streams)) [
        | inl within ↦
            let it : stream_at (set streams line.stream new) k ≡ new =
            ap (stream_at (set streams line.stream new)) same ∙ get_or-set_same streams line.stream new new_stream within in
            let now = ap (there_of side) it in
            let was = ap (λ n. there_of side (stream_at streams n)) same in
            omega (arith, now, was, amount, line_gives side line.what (stream_at streams line.stream))
        | inr past ↦
            let now = ap (λ xs. there_of side (stream_at xs k)) (set_past streams line.stream new past) in omega (arith, now)
      ]
  | inr other ↦
      let now =
      ap (there_of side)
      (get_or-set_other streams line.stream k (line_performed line.what (stream_at streams line.stream)) new_stream other) in
      omega (arith, now)
]

lines_give : (side : Bool) (k : ℕ) (lines : List Line) (streams : List Stream) →
    there_of side (stream_at (perform_lines lines streams) k)
    ≤ there_of side (stream_at streams k) + sum_by (gift_of side k) lines
lines_give side k [] streams = omega arith
lines_give side k (line ∷ lines) streams =
    let rest = lines_give side k lines (perform_line streams line) in
    let here = changed_less side streams line k in
    omega (arith, rest, here, sum_by-cons (gift_of side k) line lines)

pub lines_keep : (lines : List Line) (streams : List Stream) → length (perform_lines lines streams) ≡ length streams
lines_keep [] streams = refl
lines_keep (line ∷ lines) streams =
    lines_keep lines (perform_line streams line)
    ∙ length-set streams line.stream (line_performed line.what (stream_at streams line.stream))

marks_keep : (side : Bool) (streams : List Stream) (k : ℕ) →
    there_of side (stream_at (streams_at_last streams) k) ≡ there_of side (stream_at streams k)
marks_keep side [] k = refl
marks_keep true (stream ∷ streams) zero = refl
marks_keep false (stream ∷ streams) zero = refl
marks_keep side (stream ∷ streams) (suc k) = marks_keep side streams k

cond_less : (b : Bool) (m n : ℕ) → m ≤ n → cond b 0 m ≤ cond b 0 n
cond_less true m n less = omega arith
cond_less false m n less = less

cond_more : (b : Bool) (m n more : ℕ) → m ≤ n + more → cond b 0 m ≤ cond b 0 n + more
cond_more true m n more less = omega arith
cond_more false m n more less = less

module _ (script : ScriptModel) where
  -- what was reported and what is to come is no more than what was given
  pub record IsGiven (before : List Event) (r : ReactorHalf) : Type 0 where
    pub flowing : IsFlowing script r
    pub bound : (side : Bool) (k : ℕ) →
        moved_in (test_of side k) script before + used script side k r ≤ given_by (amount_of side) script k before

  -- what an event gives
  abbrev gives : Bool → ℕ → Event → ℕ
  gives side k (event.Tick now) = given_at (amount_of side) script k now
  gives side k _ = 0

  given_more : (side : Bool) (k : ℕ) (before : List Event) (e : Event) →
      given_later (amount_of side) script k (before ++ e ∷ [])
      ≡ given_later (amount_of side) script k before + gives side k e
  given_more side k [] (event.Tick now) = omega arith
  given_more side k [] (event.Stop a) = omega arith
  given_more side k [] e = refl
  given_more side k (event.Tick now ∷ before) e = omega (arith, given_more side k before e)
  given_more side k (event.Stop a ∷ before) e = given_more side k before e
  given_more side k (_ ∷ before) e = given_more side k before e

  -- a turn after which no more is used than before, and what the event gives
  turned : (before : List Event) (e : Event) (r t : ReactorHalf) → IsGiven before r → IsFlowing script t →
      ((side : Bool) (k : ℕ) →
      moved_by (test_of side k) script e + used script side k t ≤ used script side k r + gives side k e) →
      IsGiven (before ++ e ∷ []) t
  turned before e r t given flowing less = record {
    flowing = flowing;
    bound = λ side k.
        let pushed = sum_by_push (moved_by (test_of side k) script) before e in
        omega (arith, pushed, given_more side k before e, less side k, given.bound side k);
  }

  -- an event that moves nothing
  same_given : (before : List Event) (e : Event) (r t : ReactorHalf) → IsGiven before r → Flows script r t →
      ((side : Bool) (k : ℕ) → moved_by (test_of side k) script e ≡ 0) → IsGiven (before ++ e ∷ []) t
  same_given before e r t given flows none =
      turned before e r t given flows.flowing (λ side k. omega (arith, flows.less side k, none side k))

  still : (before : List Event) (e : Event) (r : ReactorHalf) → IsGiven before r →
      ((side : Bool) (k : ℕ) → moved_by (test_of side k) script e ≡ 0) → IsGiven (before ++ e ∷ []) r
  still before e r given none =
      same_given before e r r given (record { flowing = given.flowing; less = λ side k. omega arith }) none

  -- a completion that is told
  told_given : (before : List Event) (r : ReactorHalf) (o : ℕ) (given : Code) (size : ℕ) (head : Completion)
      (due : List Completion) → r.due ≡ head ∷ due → head.op ≡ o → head.outcome ≡ (given, size) → IsGiven before r →
      IsGiven (before ++ event.Done o given size ∷ []) (reactor_after_done script r o)
  told_given before r o given size head due is op outcome bound =
      subst (λ (rest : List Completion). IsGiven (before ++ event.Done o given size ∷ [])
      (disconnected o (slot_in (act_of script o)) (record (told_off script o r rest) { whole_turn = false })))
      (sym is)
      (left (slot_in (act_of script o)))
    where
      told : IsGiven (before ++ event.Done o given size ∷ []) (record r { due = due; whole_turn = false })
      told = turned before (event.Done o given size) r (record r { due = due; whole_turn = false }) bound
          (record { lengths = bound.flowing.lengths; queues = bound.flowing.queues }) exact
        where
          exact : (side : Bool) (k : ℕ) →
              moved_by (test_of side k) script (event.Done o given size)
              + used script side k (record r { due = due; whole_turn = false })
              ≤ used script side k r + 0
          exact side k =
              let one = sum_by-cons (report_of script side k) head due in
              let all = ap (reports_of script side k) is in
              let first : report_of script side k head ≡ cond (test_of side k (act_of script o)) size 0 =
              ap (λ n. cond (test_of side k (act_of script n)) head.outcome.1 0) op
              ∙ ap (λ (done : Outcome). cond (test_of side k (act_of script o)) done.1 0) outcome in
              omega (arith, one, all, first)

      left : (slot : Option ℕ) → IsGiven (before ++ event.Done o given size ∷ [])
          (disconnected o slot (record (told_off script o r (head ∷ due)) { whole_turn = false }))
      left None = told
      left (Some slot) =
          record { flowing = record { lengths = told.flowing.lengths; queues = told.flowing.queues }; bound = told.bound }

  -- time moves
  tick_given : (before : List Event) (r : ReactorHalf) (now : ℕ) → IsGiven before r →
      IsGiven (before ++ event.Tick now ∷ []) (settled true (at_time script true now r))
  tick_given before r now given =
      let lines = lines_at now script.world.lines in
      let moved : ReactorHalf = at_time script true now r in
      let flowing : IsFlowing script moved = record {
        lengths = lines_keep lines r.streams ∙ given.flowing.lengths;
        queues = given.flowing.queues;
      } in
      let settles = settled_flow script moved flowing in
      turned before (event.Tick now) r (settled true moved) given settles.flowing
      (λ side k.
      let more = cond_more (queues_at r k).closed (there_of side (stream_at (perform_lines lines r.streams) k))
      (there_of side (stream_at r.streams k)) (sum_by (gift_of side k) lines) (lines_give side k lines r.streams) in
      omega (arith, settles.less side k, more))

  last_given : (before : List Event) (r : ReactorHalf) → IsGiven before r →
      IsGiven (before ++ event.Last ∷ []) (settled true (at_last true r))
  last_given before r given =
      let moved : ReactorHalf = at_last true r in
      let flowing : IsFlowing script moved = record {
        lengths = length-map r.streams marked_last ∙ given.flowing.lengths;
        queues = given.flowing.queues;
      } in
      let settles = settled_flow script moved flowing in
      turned before event.Last r (settled true moved) given settles.flowing
      (λ side k.
      let same = ap (λ n. cond (queues_at r k).closed 0 n) (marks_keep side r.streams k) in
      omega (arith, settles.less side k, same))

  fault_given : (before : List Event) (r : ReactorHalf) → IsGiven before r →
      IsGiven (before ++ event.Fault ∷ []) (record r { failed = true; due = [] })
  fault_given before r given =
      turned before event.Fault r (record r { failed = true; due = [] }) given
      (record { lengths = given.flowing.lengths; queues = given.flowing.queues })
      (λ side k. omega arith)

  take_given : (before : List Event) (r : ReactorHalf) (a : ℕ) → IsGiven before r →
      IsGiven (before ++ event.Take a ∷ []) (settled true (performed script a r))
  take_given before r a given =
      let first = taking_flow script a r given.flowing in
      let second = settled_flow script (performed script a r) first.flowing in
      turned before (event.Take a) r (settled true (performed script a r)) given second.flowing
      (λ side k. omega (arith, first.less side k, second.less side k))

  pub head_due : (due : List Completion) (head : Completion) → slice_get due 0 ≡ Some head →
      (rest : List Completion) × (due ≡ head ∷ rest)
  head_due [] head is = absurd (cc)
  head_due (first ∷ rest) head is = (rest, (let same : first ≡ head = cc in ap (λ (d : Completion). d ∷ rest) same))

  -- each event keeps it
  pub given_after : (before : List Event) (s : State) (e : Event) → IsGiven before s.reactor → MayHappen script true s e →
      IsGiven (before ++ e ∷ []) (after_event script true s e).reactor
  given_after before s (event.Take a) given may = take_given before s.reactor a given
  given_after before s (event.Done o code size) given may = elim may.next [
    | inl next ↦
        let found = head_due s.reactor.due next.head next.due in
        told_given before s.reactor o code size next.head found.0 found.1 next.is_op next.outcome given
    | inr untold ↦ absurd (let wrong : true ≡ false = untold.untold in cc)
  ]
  given_after before s (event.Tick now) given may = tick_given before s.reactor now given
  given_after before s event.Last given may = last_given before s.reactor given
  given_after before s event.Fault given may = fault_given before s.reactor given
  given_after before s (event.Stop (Some a)) given may = still before (event.Stop (Some a)) s.reactor given (λ side k. refl)
  given_after before s (event.Stop None) given may = still before (event.Stop None) s.reactor given (λ side k. refl)
  given_after before s e given may = still before e s.reactor given (λ side k. refl)

  pub first_given : IsGiven [] (first_reactor script true)
  first_given = record {
    flowing = record {
      lengths =
          lines_keep (lines_at 0 script.world.lines) (replicate script.world.streams new_stream)
          ∙ (length-replicate script.world.streams new_stream ∙ sym (length-replicate script.world.streams no_queues));
      queues = λ k.
          subst (IsQueueOf script k) (sym (repeated no_queues script.world.streams k)) (record {
            reads = All-nil (λ (pending : Pending Reading). is_read_of k (act_of script pending.op) ≡ true);
            writes = All-nil (λ (pending : Pending Writing). is_write_of k (act_of script pending.op) ≡ true);
            shut = λ closed. (refl, refl);
          });
    };
    bound = λ side k.
        let none = ap (λ queues. held_by side queues (stream_at (first_streams script.world) k))
        (repeated no_queues script.world.streams k) in
        let fresh = ap (there_of side) (repeated new_stream script.world.streams k) in
        let more = lines_give side k (lines_at 0 script.world.lines) (replicate script.world.streams new_stream) in
        omega (arith, none, fresh, more, nothing side (stream_at (first_streams script.world) k), empty side);
  }
    where
      nothing : (side : Bool) (s : Stream) → held_by side no_queues s ≡ there_of side s
      nothing true s = omega arith
      nothing false s = omega arith

      empty : (side : Bool) → there_of side new_stream ≡ 0
      empty true = refl
      empty false = refl

  module _ (well : IsWellFormed script) (events : List Event) (legal : IsLegalSoFar script true events) where
    given_so_far : (place : ℕ) → IsGiven (take place events) (state_of script true (take place events)).reactor
    given_so_far place =
        along script true (λ before s. IsGiven before s.reactor) given_after [] (first_state script true) first_given
        (take place events) (legal_take script true (first_state script true) events place legal)

    -- a completion reports no more than was given behind those before it
    reported : (side : Bool) (k n place : ℕ) (given : Code) (size : ℕ) → test_of side k (act_of script n) ≡ true →
        StandsAt events place (event.Done n given size) →
        moved_in (test_of side k) script (take place events) + size ≤ given_by (amount_of side) script k (take place events)
    reported side k n place given size of stands =
        let r : ReactorHalf = (state_of script true (take place events)).reactor in
        let may : MayComplete script true (state_of script true (take place events)) n given size =
        happens script well true events legal place (event.Done n given size) stands in
        elim may.next [
          | inl next ↦
              let found = head_due r.due next.head next.due in
              let one = sum_by-cons (report_of script side k) next.head found.0 in
              let all = ap (reports_of script side k) found.1 in
              let first : report_of script side k next.head ≡ size =
              ap (λ n. cond (test_of side k (act_of script n)) next.head.outcome.1 0) next.is_op
              ∙ (ap (λ b. cond b next.head.outcome.1 0) of ∙ ap (λ (done : Outcome). done.1) next.outcome) in
              omega (arith, one, all, first, (given_so_far place).bound side k)
          | inr untold ↦ absurd (let wrong : true ≡ false = untold.untold in cc)
        ]

    pub keep_bytes : StreamsKeepTheirBytes script events
    keep_bytes = record {
      read = λ stream n place given size of stands. reported true stream n place given size of stands;
      written = λ stream n place given size of stands. reported false stream n place given size of stands;
    }
