-- A lane with room for what its handlers show takes each execution of theirs, and keeps that room.
use Rattle.std.proofs.Common.{◌≡◌, ℕ, ◌+◌, ◌<◌, ◌≤◌, Bool, true, false, List, [], ◌∷◌, ◌++◌, Option, Some, None, inl, inr, length, refl, sym, ap, subst, ◌∙◌, arith}
use Rattle.std.specs.Prelude.{◌&&◌, not, is_some, IsSome}
use Rattle.std.specs.Option.{option_map}
use Rattle.op_handlers.specs.Marks.{Marks, call_of}
use Rattle.op_handlers.specs.declared.call.Call.{Call}
use Rattle.asio_types.specs.Code.{class_of_code}
use Rattle.asio_types.specs.declared.code.Class.TheVariants as class
use Rattle.asio_types.specs.declared.code.Code.{Code}
use Rattle.session_script.specs.Script.{ScriptModel}
use Rattle.strand_core.specs.Answer.{CanExecute, TakesWhole}
use Rattle.strand_core.specs.Execution.{AnyMark, AreCalls, no_act, outside, inside, IsWholeExecution, events_of}
use Rattle.strand_core.specs.Hands.{HasRunMark, Held, IsInlineOf, KeepsInline, begins_among, held_at, left_at}
use Rattle.strand_core.specs.Room.{IsOrdered, room_for}
use Rattle.strand_core.specs.declared.posted.Posted.{Posted}
use Rattle.strand_core.specs.declared.posted.Posted.TheVariants as posted
use Rattle.strand_core.proofs.RoomLemmas.{executions_keep_room, room_for-less}
use Rattle.strand_core.proofs.CallLemmas.{with_marks}
use Rattle.strand_core.proofs.TreeLemmas.{Among, among_within}
use Rattle.lane_logs.specs.Labels.{AreDrawn, Labelled, entries_in, steps_in}
use Rattle.lane_logs.specs.Parts.{ExecutedPart, executed, labels_in}
use Rattle.lane_logs.specs.Calls.{CallsActs}
use Rattle.lane_turns.specs.Batons.{HasRoom, LaneView, room_held}
use Rattle.lane_turns.specs.Pens.{HasGone, PenView}
use Rattle.lane_turns.specs.Polling.{RanNext, most_made}
use Rattle.lane_turns.specs.Posting.{TakesNext}
use Rattle.lane_turns.proofs.DrawnLemmas.{all_sized, calls_shown}
use Rattle.lane_turns.proofs.PenLemmas.{may_go_on}
use Rattle.lane_turns.proofs.PostingLemmas.{takes_all}
use Rattle.lane_clock.specs.declared.step.ClockStep.{ClockStep}
use Rattle.lane_clock.specs.declared.step.ClockStep.TheVariants.{Load, Look}
use Rattle.lane_clock.specs.Steps.{draw_count, place_count, step_count}

acts-append : (script : ScriptModel) (xs ys : List Posted) → CallsActs script xs → CallsActs script ys →
    CallsActs script (xs ++ ys)
acts-append script [] ys first second = second
acts-append script (posted.Begin op code size begun ∷ xs) ys first second = acts-append script xs ys first second
acts-append script (posted.Call act ∷ xs) ys first second = (first.0, acts-append script xs ys first.1 second)
acts-append script (posted.Back act ∷ xs) ys first second = acts-append script xs ys first second
acts-append script (posted.End op ran ∷ xs) ys first second = acts-append script xs ys first second

-- the acts that a body calls are acts
body_acts : (script : ScriptModel) {acts : List ℕ} {calls : List Posted} → AreCalls script AnyMark acts calls →
    ((a : ℕ) → Among a acts → a < length script.acts) → CallsActs script calls
body_acts script no_act within = tt
body_acts script (outside {act} is more) within =
    (within act (inl refl), body_acts script more (λ a among. within a (inr among)))
body_acts script (inside {act} {begun} {mark} {acts} {body} {calls} is marked inner more) within = (
  within act (inl refl),
  acts-append script (body ++ _ ∷ []) (posted.Back act ∷ calls)
      (acts-append script body (_ ∷ [])
      (body_acts script inner (λ a among. among_within script (Some (act, class.Ok)) a among)) tt)
      (body_acts script more (λ a among. within a (inr among))),
)

whole_acts : (script : ScriptModel) (op : ℕ) (code : Code) (size : ℕ) (calls : List Posted) →
    IsWholeExecution script AnyMark op code size calls → CallsActs script calls
whole_acts script op code size calls whole =
    subst (CallsActs script) (sym whole.is)
    (acts-append script whole.body (_ ∷ [])
    (body_acts script whole.acts (λ a among. among_within script (Some (op, class_of_code code)) a among)) tt)

some_held : {H : Type 0} (o : Option H) → IsSome o → is_some o ≡ true
some_held (Some handler) some = refl
some_held None some = some

held_some : {H : Type 0} (o : Option H) → is_some o ≡ true → IsSome o
held_some (Some handler) is = refl
held_some None is = is

module _ {H : Type 0} (script : ScriptModel) (ordered : IsOrdered script) (hands : Held H)
    (same : hands.script ≡ script) (keeps : KeepsInline hands.script hands.handlers)
    (known : (op : ℕ) → IsSome (held_at hands op) → op < length script.acts) where
  abbrev test : ℕ → Bool
  test op = is_some (held_at hands op)

  keeps_held : (caller n : ℕ) → test caller ≡ true → IsInlineOf script caller n → test n ≡ true
  keeps_held caller n is inline =
      some_held (held_at hands n)
      (keeps caller (held_some (held_at hands caller) is) n
      (subst (λ (s : ScriptModel). IsInlineOf s caller n) (sym same) inline))

  -- the events of an execution, and the room that is left to the other handlers
  pub room_kept : (op : ℕ) (code : Code) (size : ℕ) (calls : List Posted) → IsSome (held_at hands op) →
      IsWholeExecution script AnyMark op code size calls →
      length (events_of script calls) + room_for script (λ n. test n && not (begins_among n calls))
      ≤ room_for script test
  room_kept op code size calls some whole =
      executions_keep_room script op code size calls test ordered (known op some) whole
      (some_held (held_at hands op) some) keeps_held

  room_same : room_held hands ≡ room_for script test
  room_same = ap (λ (s : ScriptModel). room_for s test) same

  -- the poster takes each execution of a handler that is held
  pub takes_whole : (pen : PenView) (made : List Posted) (spare : ℕ) (op : ℕ) (code : Code) (size : ℕ) →
      HasRoom hands pen → most_made script ≤ spare → CanExecute hands op →
      TakesWhole (TakesNext (record { script = script; pen = pen; made = made; spare = spare })) script op code size
  takes_whole pen made spare op code size room enough can calls whole =
      let kept = room_kept op code size calls can.0 whole in
      let shown = calls_shown script calls in
      let all : room_for script test ≤ most_made script = room_for-less script test (λ n. true) (λ n is. refl) in
      takes_all (record { script = script; pen = pen; made = made; spare = spare }) calls record {
        buffer = omega (arith, kept, shown, all, enough);
        room = record {
          log = omega (arith, kept, room_same, room.log);
          draws_left = omega (arith, kept, room_same, room.draws_left);
          places_left = omega (arith, kept, shown, room_same, room.places_left);
        };
        acts = whole_acts script op code size calls whole;
      }

left_held : {H : Type 0} (b : Bool) (o : Option H) → is_some (left_at b o) ≡ true → (is_some o && not b) ≡ true
left_held true o is = absurd (cc is)
left_held false (Some handler) is = refl
left_held false None is = absurd (cc is)

-- after an execution there is room for what the handlers show that are left
pub room_after : {H : Type 0} (script : ScriptModel) (calls : List Posted) (labels : List Labelled) (held left : Held H)
    (old new : PenView) (whole_labels : List Labelled) → left.script ≡ script → held.script ≡ script →
    entries_in whole_labels ≡ entries_in labels →
    step_count draw_count (steps_in whole_labels) ≡ step_count draw_count (steps_in labels) →
    step_count place_count (steps_in whole_labels) ≡ step_count place_count (steps_in labels) →
    AreDrawn script calls labels → HasGone whole_labels old new →
    ((n : ℕ) → held_at left n ≡ left_at (begins_among n calls) (held_at held n)) →
    length (events_of script calls) + room_for script (λ n. is_some (held_at held n) && not (begins_among n calls))
    ≤ room_for script (λ n. is_some (held_at held n)) →
    HasRoom held old → HasRoom left new
room_after script calls labels held left old new whole_labels of_left of_held entries draws places drawn gone spent kept room =
    let size = all_sized script drawn in
    let less : room_for script (λ n. is_some (held_at left n))
    ≤ room_for script (λ n. is_some (held_at held n) && not (begins_among n calls)) =
    room_for-less script (λ n. is_some (held_at left n)) (λ n. is_some (held_at held n) && not (begins_among n calls))
    (λ n is. left_held (begins_among n calls) (held_at held n) (ap is_some (sym (spent n)) ∙ is)) in
    let room_left : room_held left ≡ room_for script (λ n. is_some (held_at left n)) =
    ap (λ (s : ScriptModel). room_for s (λ n. is_some (held_at left n))) of_left in
    let room_before : room_held held ≡ room_for script (λ n. is_some (held_at held n)) =
    ap (λ (s : ScriptModel). room_for s (λ n. is_some (held_at held n))) of_held in
    may_go_on whole_labels (room_held held) (room_held held) (room_held left) (room_held left) old new gone room
    (omega (arith, ap length entries, size.entries, kept, less, room_left, room_before))
    (omega (arith, draws, size.draws, kept, less, room_left, room_before))
    (omega (arith, places, size.places, kept, less, room_left, room_before))

any_mark : (script : ScriptModel) (P : Call → ℕ → Type 0) (op : ℕ) (code : Code) (size : ℕ) (calls : List Posted) →
    IsWholeExecution script P op code size calls → IsWholeExecution script AnyMark op code size calls
any_mark script P op code size calls whole =
    record {
      begun = whole.begun;
      mark = whole.mark;
      body = whole.body;
      marked = tt;
      acts = with_marks script P AnyMark (λ n mark is. tt) whole.acts;
      is = whole.is;
    }

marked_some : {H : Type 0} (f : H → ℕ) (o : Option H) (mark : ℕ) → option_map f o ≡ Some mark → IsSome o
marked_some f (Some handler) mark is = refl
marked_some f None mark is = absurd (cc is)

two_more : (f : ClockStep → ℕ) (a b : ClockStep) (steps : List ClockStep) → f a ≡ 0 → f b ≡ 0 →
    step_count f (a ∷ b ∷ steps) ≡ step_count f steps
two_more f a b steps first second = omega (arith, first, second)

-- after an execution there is room for what the handlers show that are left
pub ran_room : {H : Type 0} (marks : H → Marks) (script : ScriptModel) → IsOrdered script → (op mark : ℕ)
    (old new : LaneView) (held left : Held H) → held.script ≡ script → KeepsInline held.script held.handlers →
    ((n : ℕ) → IsSome (held_at held n) → n < length script.acts) → RanNext marks op mark old new held left →
    HasRoom held old.pen → HasRoom left new.pen
ran_room marks script ordered op mark old new held left same keeps known ran room =
    let part : ExecutedPart = ran.part in
    let whole : IsWholeExecution script AnyMark part.note.op part.note.code part.note.size part.calls =
    subst (λ (s : ScriptModel). IsWholeExecution s AnyMark part.note.op part.note.code part.note.size part.calls) same
    (any_mark held.script (HasRunMark marks held) part.note.op part.note.code part.note.size part.calls ran.whole) in
    let drawn : AreDrawn script part.calls part.labels =
    subst (λ (s : ScriptModel). AreDrawn s part.calls part.labels) same ran.drawn in
    let some : IsSome (held_at held part.note.op) =
    marked_some
    (λ handler. (marks handler).run (call_of part.note.op part.note.code part.note.size ran.whole.begun))
    (held_at held part.note.op) ran.whole.mark ran.whole.marked in
    room_after script part.calls part.labels held left old.pen new.pen
    (labels_in held.script old.lane (executed part)) (ran.script ∙ same) same refl
    (two_more draw_count (Look old.lane part.place (Some part.note)) (Load part.load) (steps_in part.labels) refl refl)
    (two_more place_count (Look old.lane part.place (Some part.note)) (Load part.load) (steps_in part.labels) refl refl)
    drawn ran.gone ran.spent
    (room_kept script ordered held same keeps known part.note.op part.note.code part.note.size part.calls some whole) room
