-- A lane on which handlers execute, after an attempt.
use Rattle.std.proofs.Common.{◌≡◌, ℕ, ◌+◌, ◌<◌, Bool, true, false, cond, List, [], ◌∷◌, ◌++◌, Option, Some, None, inl, inr, length, refl, sym, ap, subst, ◌∙◌, arith}
use Rattle.std.proofs.lemmas.List.{append-nil}
use Rattle.std.specs.Prelude.{◌&&◌, ◌||◌, ◌==◌, not, is_some, nat_lt, slice_get, slice_index, IsSome}
use Rattle.std.proofs.lemmas.Bool.{cases_lt}
use Rattle.std.proofs.lemmas.Option.{slice_get_past}
use Rattle.std.specs.Option.{option_map}
use Rattle.op_handlers.specs.Marks.{Marks, call_of}
use Rattle.session_script.specs.Lanes.{is_inline}
use Rattle.session_script.specs.Script.{ScriptModel, is_op}
use Rattle.strand_core.specs.Answer.{CanExecute}
use Rattle.strand_core.specs.Execution.{IsWholeExecution}
use Rattle.strand_core.specs.Hands.{HasRunMark, Held, begins_among, held_at, left_at}
use Rattle.strand_core.proofs.CallLemmas.{with_marks}
use Rattle.lane_clock.specs.declared.note.Note.{Note}
use Rattle.lane_clock.specs.declared.step.ClockStep.{ClockStep}
use Rattle.lane_clock.specs.declared.step.ClockStep.TheVariants.{Look}
use Rattle.lane_clock.specs.Seats.{ClockId, own}
use Rattle.lane_map.specs.LaneNumbers.{cells_of, home_lane, is_op_on, lane_list, reactor_lane}
use Rattle.lane_logs.specs.declared.log.LogEntry.{LogEntry}
use Rattle.lane_logs.specs.Labels.{AreDrawn, silent, entries_in, events_in}
use Rattle.lane_logs.specs.LaneLog.{AreParts, has_begun}
use Rattle.lane_logs.specs.Names.{IsNamedMark, SessionNames}
use Rattle.lane_logs.specs.Parts.{ExecutedPart, Part, executed, failed, idle, missing, turned, are_broken, labels_in}
use Rattle.lane_logs.specs.SeatNumbers.{opener_seat}
use Rattle.lane_turns.specs.declared.one.One.{One}
use Rattle.lane_turns.specs.declared.one.One.TheVariants as one
use Rattle.lane_turns.specs.Batons.{HasRoom, HaveHands, IsHandlerBaton, IsLane, LaneView, opener_known}
use Rattle.lane_turns.specs.Polling.{CameTo, FoundNone, MissedNext, RanNext, StoppedNext, missed_too}
use Rattle.lane_turns.proofs.DrawnLemmas.{begun-append, drawn_begun, drawn_quiet}
use Rattle.lane_turns.proofs.LaneLogLemmas.{found_going, lane_goes_on, part_log}
use Rattle.lane_turns.proofs.LaneStepLemmas.{lane_left, lane_looked, lane_missed, or_none}

-- what stays where nothing was shown
same_hands : {H : Type 0} (names : SessionNames) (marks : H → Marks) (lane : ℕ) (before after : List LogEntry)
    (held left : Held H) → HaveHands names marks lane before held → after ≡ before → left ≡ held →
    HaveHands names marks lane after left
same_hands names marks lane before after held left hold entries same =
    subst (λ log. HaveHands names marks lane log left) (sym entries)
    (subst (λ hands. HaveHands names marks lane before hands) (sym same) hold)

-- the handlers that are left after some began
left_some : {H : Type 0} (b : Bool) (o : Option H) → is_some (left_at b o) ≡ (is_some o && not b)
left_some true None = refl
left_some true (Some handler) = refl
left_some false None = refl
left_some false (Some handler) = refl

still_held : (on begun now : Bool) → ((on && not begun) && not now) ≡ (on && not (begun || now))
still_held true true now = refl
still_held true false now = refl
still_held false begun now = refl

mark_before : {H : Type 0} (f : H → ℕ) (b : Bool) (o : Option H) (mark : ℕ) →
    option_map f (left_at b o) ≡ Some mark → option_map f o ≡ Some mark
mark_before f true o mark is = absurd (cc is)
mark_before f false o mark is = is

left_hands : {H : Type 0} (names : SessionNames) (marks : H → Marks) (lane : ℕ) (log : List LogEntry)
    (held left : Held H) (part : ExecutedPart) → HaveHands names marks lane log held → left.script ≡ held.script →
    AreDrawn names.script part.calls part.labels →
    ((n : ℕ) → held_at left n ≡ left_at (begins_among n part.calls) (held_at held n)) →
    HaveHands names marks lane (log ++ entries_in part.labels) left
left_hands names marks lane log held left part hold script drawn spent =
    record {
      script = script ∙ hold.script;
      held =
          λ op.
          ap is_some (spent op) ∙ left_some (begins_among op part.calls) (held_at held op)
          ∙ ap (λ b. b && not (begins_among op part.calls)) (hold.held op)
          ∙ still_held (is_op_on names.script lane op) (has_begun op (events_in log)) (begins_among op part.calls)
          ∙ ap (λ b. is_op_on names.script lane op && not (has_begun op (events_in log) || b))
          (sym (drawn_begun names.script op drawn))
          ∙ ap (λ b. is_op_on names.script lane op && not b) (sym (begun-append op log (entries_in part.labels)));
      run =
          λ call mark is.
          hold.run call mark
          (mark_before (λ handler. (marks handler).run call) (begins_among call.op part.calls) (held_at held call.op) mark
          (ap (option_map (λ handler. (marks handler).run call)) (sym (spent call.op)) ∙ is));
      drop =
          λ op mark is.
          hold.drop op mark
          (mark_before (λ handler. (marks handler).drop) (begins_among op part.calls) (held_at held op) mark
          (ap (option_map (λ handler. (marks handler).drop)) (sym (spent op)) ∙ is));
    }

-- the marks of an execution are those that are named
named_whole : {H : Type 0} (names : SessionNames) (marks : H → Marks) (lane : ℕ) (log : List LogEntry) (held : Held H)
    (part : ExecutedPart) → HaveHands names marks lane log held →
    IsWholeExecution held.script (HasRunMark marks held) part.note.op part.note.code part.note.size part.calls →
    IsWholeExecution names.script (IsNamedMark names) part.note.op part.note.code part.note.size part.calls
named_whole names marks lane log held part hold whole =
    subst (λ (s : ScriptModel).
    IsWholeExecution s (IsNamedMark names) part.note.op part.note.code part.note.size part.calls) hold.script
    record {
      begun = whole.begun;
      mark = whole.mark;
      body = whole.body;
      marked = hold.run (call_of part.note.op part.note.code part.note.size whole.begun) whole.mark whole.marked;
      acts = with_marks held.script (HasRunMark marks held) (IsNamedMark names) hold.run whole.acts;
      is = whole.is;
    }

-- a lane of handlers has no turn in which a reactor failed
never_broken : (names : SessionNames) (opener : List ClockStep) (lane : ℕ) → lane < reactor_lane names.script →
    (parts : List Part) → AreParts names opener lane parts → are_broken parts ≡ false
never_broken names opener lane strand [] are = refl
never_broken names opener lane strand (idle step ∷ parts) are = never_broken names opener lane strand parts are.0
never_broken names opener lane strand (executed part ∷ parts) are = never_broken names opener lane strand parts are.0
never_broken names opener lane strand (turned part ∷ parts) are = absurd (omega (arith, strand, are.1.reactor))
never_broken names opener lane strand (failed part ∷ parts) are = absurd (omega (arith, strand, are.1.reactor))
never_broken names opener lane strand (missing place note ∷ parts) are =
    never_broken names opener lane strand parts are.0

none_to_execute : {H : Type 0} (on inline begun : Bool) (o : Option H) → is_some o ≡ (on && not begun) →
    (IsSome o × (inline ≡ false) → ⊥) → (on && not inline && not begun) ≡ false
none_to_execute true true true o is cannot = refl
none_to_execute true true false o is cannot = refl
none_to_execute true false true o is cannot = refl
none_to_execute true false false (Some handler) is cannot = absurd (cannot (refl, refl))
none_to_execute true false false None is cannot = absurd (cc is)
none_to_execute false inline begun o is cannot = refl

module _ {H : Type 0} (names : SessionNames) (marks : H → Marks) (clock : ClockId) (old new : LaneView)
    (held left : Held H) (is : IsHandlerBaton names marks clock (record { lane = old; hands = held })) where
  abbrev opener : List ClockStep
  opener = opener_known names.script old.pen.seat

  shows_none : (within : Bool) (lane place : ℕ) →
      entries_in (cond within (silent (Look lane place None) ∷ []) []) ≡ []
  shows_none true lane place = refl
  shows_none false lane place = refl

  none_after : HasRoom left new.pen → FoundNone old new held left →
      IsHandlerBaton names marks clock (record { lane = new; hands = left })
  none_after room found =
      record {
        is_lane =
            subst (IsLane names clock) (sym found.moved)
            (lane_looked names clock old is.is_lane new.pen (nat_lt old.place (slice_index (cells_of held.script) old.lane))
            found.gone);
        strand = subst (λ (v : LaneView). v.lane < reactor_lane names.script) (sym found.moved) is.strand;
        hold =
            same_hands names marks new.lane old.pen.log new.pen.log held left
            (subst (λ (v : LaneView). HaveHands names marks v.lane old.pen.log held) (sym found.moved) is.hold)
            (found.gone.log
            ∙ ap (λ more. old.pen.log ++ more)
            (shows_none (nat_lt old.place (slice_index (cells_of held.script) old.lane)) old.lane old.place)
            ∙ append-nil old.pen.log) found.same;
        room = room;
      }

  stopped_after : HasRoom left new.pen → StoppedNext old new held left →
      IsHandlerBaton names marks clock (record { lane = new; hands = left })
  stopped_after room stopped =
      record {
        is_lane =
            subst (IsLane names clock) (sym stopped.moved)
            (lane_left names clock old is.is_lane new.pen stopped.note stopped.load stopped.gone);
        strand = subst (λ (v : LaneView). v.lane < reactor_lane names.script) (sym stopped.moved) is.strand;
        hold =
            same_hands names marks new.lane old.pen.log new.pen.log held left
            (subst (λ (v : LaneView). HaveHands names marks v.lane old.pen.log held) (sym stopped.moved) is.hold)
            (stopped.gone.log ∙ append-nil old.pen.log) stopped.same;
        room = room;
      }

  missed_after : (op : ℕ) → HasRoom left new.pen → MissedNext op old new held left →
      IsHandlerBaton names marks clock (record { lane = new; hands = left })
  missed_after op room missed =
      let note : Note = missed.note in
      record {
        is_lane =
            subst (IsLane names clock)
            (ap (missed_too old new.pen) missed.it ∙ sym missed.moved)
            (lane_missed names clock old is.is_lane new.pen note
            (never_broken names opener old.lane is.strand is.is_lane.log.parts is.is_lane.log.are)
            (λ strand.
            none_to_execute (is_op_on names.script old.lane note.op) (is_inline names.script note.op)
            (has_begun note.op (events_in old.pen.log)) (held_at held note.op) (is.hold.held note.op)
            (λ can.
            missed.cannot
            (subst (CanExecute held) missed.it
            (can.0, ap (λ (s : ScriptModel). is_inline s note.op) is.hold.script ∙ can.1))))
            (λ same. absurd (omega (arith, same, is.strand))) missed.gone);
        strand = subst (λ (v : LaneView). v.lane < reactor_lane names.script) (sym missed.moved) is.strand;
        hold =
            same_hands names marks new.lane old.pen.log new.pen.log held left
            (subst (λ (v : LaneView). HaveHands names marks v.lane old.pen.log held) (sym missed.moved) is.hold)
            (missed.gone.log ∙ append-nil old.pen.log) missed.same;
        room = room;
      }

  ran_after : (op mark : ℕ) → HasRoom left new.pen → RanNext marks op mark old new held left →
      IsHandlerBaton names marks clock (record { lane = new; hands = left })
  ran_after op mark room ran =
      let drawn : AreDrawn names.script ran.part.calls ran.part.labels =
      subst (λ (s : ScriptModel). AreDrawn s ran.part.calls ran.part.labels) is.hold.script ran.drawn in
      record {
        is_lane =
            subst (IsLane names clock) (sym ran.moved)
            (lane_goes_on names clock old (labels_in names.script old.lane (executed ran.part)) new.pen (old.place + 1)
            old.missed is.is_lane ran.gone (drawn_quiet names.script (opener_seat names.script) drawn)
            (part_log names opener old.lane (own old.pen.seat) old.pen.log old.missed old.missed is.is_lane.log
            (executed ran.part)
            record {
              strand = is.strand;
              next = ran.at ∙ is.is_lane.next;
              going = found_going names clock old is.is_lane ran.part.load ran.going;
              whole = named_whole names marks old.lane old.pen.log held ran.part is.hold ran.whole;
              drawn = drawn;
            } (or_none old.missed))
            (ap (λ n. n + 1) is.is_lane.next));
        strand = subst (λ (v : LaneView). v.lane < reactor_lane names.script) (sym ran.moved) is.strand;
        hold =
            subst (λ (v : LaneView). HaveHands names marks v.lane new.pen.log left) (sym ran.moved)
            (subst (λ log. HaveHands names marks old.lane log left) (sym ran.gone.log)
            (left_hands names marks old.lane old.pen.log held left ran.part is.hold ran.script drawn ran.spent));
        room = room;
      }

  pub baton_after : (one : One) → HasRoom left new.pen → CameTo marks one old new held left →
      IsHandlerBaton names marks clock (record { lane = new; hands = left })
  baton_after (one.Ran op mark) room came = ran_after op mark room came
  baton_after one.Turned room came = absurd came
  baton_after one.Nothing room came = none_after room came
  baton_after one.Stopped room came = stopped_after room came
  baton_after one.Fault room came = absurd came
  baton_after (one.Missing op) room came = missed_after op room came

-- a lane has its cells
pub lane_has_cells : (names : SessionNames) (clock : ClockId) (script : ScriptModel) (view : LaneView) →
    IsLane names clock view → script ≡ names.script → length (cells_of script) ≡ length (lane_list script) →
    view.lane < length (cells_of script)
lane_has_cells names clock script view is same count =
    omega (arith, count, ap (λ (s : ScriptModel). length (lane_list s)) same, is.there)

op_within : (script : ScriptModel) (op : ℕ) → is_op script op ≡ true → op < length script.acts
op_within script op is = elim (cases_lt op (length script.acts)) [
  | inl less ↦ less
  | inr past ↦
      let gone : slice_get script.acts op ≡ None = slice_get_past script.acts op past in
      let none : is_op script op ≡ false = rw gone refl in
      absurd (cc (none, is))
]

all_true : (a b c : Bool) → ((a && b) && c) ≡ true → a ≡ true
all_true true b c is = refl
all_true false b c is = absurd (cc is)

is_some_of : {H : Type 0} (o : Option H) → IsSome o → is_some o ≡ true
is_some_of (Some handler) some = refl
is_some_of None some = some

-- the handlers that are held are those of acts
pub ops_known : {H : Type 0} (names : SessionNames) (marks : H → Marks) (script : ScriptModel) (lane : ℕ)
    (log : List LogEntry) (hands : Held H) → HaveHands names marks lane log hands → script ≡ names.script →
    (op : ℕ) → IsSome (held_at hands op) → op < length script.acts
ops_known names marks script lane log hands hold same op some =
    let is : is_op names.script op ≡ true =
    all_true (is_op names.script op) (home_lane names.script op == lane) (not (has_begun op (events_in log)))
    (sym (hold.held op) ∙ is_some_of (held_at hands op) some) in
    omega (arith, op_within names.script op is, ap (λ (s : ScriptModel). length s.acts) same)
