-- What the execution of the oldest ready operation makes of what a book keeps.
use Rattle.std.proofs.Common.{◌≡◌, ℕ, ◌+◌, Bool, true, false, not, List, [], ◌∷◌, ◌++◌, Option, Some, None, IsSome, inl, length, refl, slice_get, sym, ap, subst, ◌∙◌, arith, length-append}
use Rattle.std.specs.Prelude.{◌||◌}
use Rattle.std.specs.Option.{option_map}
use Rattle.std.proofs.lemmas.List.{append_assoc}
use Rattle.std.proofs.lemmas.List.Folds.{list_any_none}
use Rattle.asio_types.specs.declared.code.Code.{Code}
use Rattle.asio_types.specs.declared.code.Code.TheVariants as code
use Rattle.asio_types.specs.declared.event.Event.{Event}
use Rattle.asio_types.specs.declared.event.Event.TheVariants as event
use Rattle.op_handlers.specs.declared.call.Call.{Call}
use Rattle.op_handlers.specs.Marks.{Marks, call_of}
use Rattle.session_script.specs.Script.{ScriptModel, is_op}
use Rattle.session_script.specs.Lanes.{is_inline}
use Rattle.history_rules.specs.FromOutside.{has_fault, is_fault, is_outside_stop}
use Rattle.execution_laws.specs.Marks.{BeginsAt}
use Rattle.strand_core.specs.declared.posted.Posted.{Posted}
use Rattle.strand_core.specs.declared.posted.Posted.TheVariants as posted
use Rattle.strand_core.specs.Answer.{CanExecute}
use Rattle.strand_core.specs.Execution.{AnyMark, AreCalls, no_act, outside, inside, IsWholeExecution, events_of}
use Rattle.strand_core.specs.Hands.{Held, begins_among, held_at, left_at}
use Rattle.execution_laws.specs.Shown.{EachBegin, IsRunMark}
use Rattle.execution_laws.proofs.EventLemmas.{events-append}
use Rattle.execution_laws.proofs.ShownLemmas.{marked_execution, of_calls}
use Rattle.book_context.specs.Book.{HoldsUnspent, KeepsHistory, unless_spent}
use Rattle.book_context.specs.BookSteps.{HasGoneOn}
use Rattle.book_context.specs.InTurn.{KeepsFaults}
use Rattle.book_context.specs.Oldest.{with_ready}
use Rattle.book_context.specs.Recorded.{is_spent_at, recorded_half}
use Rattle.book_context.specs.Recording.{ArePlaced, HasRecorded, HasRoomForCalls, Recording, with_calls}
use Rattle.book_context.specs.Steps.{ExecutionsAreRecorded, ExecutionIsRecorded, IsRoundOpen, MayExecute, OldestMayExecute}
use Rattle.book_context.proofs.BookHistoryLemmas.{IsPlain, faults-plain, history-plain, no_fault, no_stop}

-- calls with other marks
pub other_marks : {script : ScriptModel} {One Two : Call → ℕ → Type 0} →
    ((call : Call) (mark : ℕ) → One call mark → Two call mark) → {acts : List ℕ} {calls : List Posted} →
    AreCalls script One acts calls → AreCalls script Two acts calls
other_marks gives no_act = no_act
other_marks gives (outside isnt more) = outside isnt (other_marks gives more)
other_marks gives (inside {act} {begun} {mark} is has inner more) =
    inside is (gives (call_of act code.Ok 0 begun) mark has) (other_marks gives inner) (other_marks gives more)

pub whole_marks : {script : ScriptModel} {One Two : Call → ℕ → Type 0} →
    ((call : Call) (mark : ℕ) → One call mark → Two call mark) → (op : ℕ) (code : Code) (size : ℕ)
    (calls : List Posted) → IsWholeExecution script One op code size calls →
    IsWholeExecution script Two op code size calls
whole_marks gives op code size calls whole = record {
  begun = whole.begun;
  mark = whole.mark;
  body = whole.body;
  marked = gives (call_of op code size whole.begun) whole.mark whole.marked;
  acts = other_marks gives whole.acts;
  is = whole.is;
}

slice_behind : {A : Type 0} (before rest : List A) (x : A) → slice_get (before ++ x ∷ rest) (length before) ≡ Some x
slice_behind [] rest x = refl
slice_behind (y ∷ before) rest x = slice_behind before rest x

-- a begin that has its position stands there
begin_placed : (history before rest : List Event) (op : ℕ) (given : Code) (size begun position : ℕ) →
    position ≡ length before → history ≡ before ++ event.Begin op given size ∷ rest → begun ≡ position →
    BeginsAt history op given size begun
begin_placed history before rest op given size begun position first is placed =
    ap (λ xs. slice_get xs begun) is
    ∙ (ap (slice_get (before ++ event.Begin op given size ∷ rest)) (placed ∙ first)
    ∙ slice_behind before rest (event.Begin op given size))

-- calls whose events come behind others, with each begin at its position, begin there
module _ (script : ScriptModel) (history : List Event) where
  abbrev Behind : List Posted → Type 0
  Behind calls = (before : List Event) (position : ℕ) → position ≡ length before →
      history ≡ before ++ events_of script calls → ArePlaced script position calls → EachBegin (BeginsAt history) calls

  behind_one : (call : Posted) (calls : List Posted) → Behind calls → (before : List Event) (position : ℕ) →
      position ≡ length before → history ≡ before ++ events_of script (call ∷ calls) →
      ArePlaced script position (call ∷ calls) → EachBegin (BeginsAt history) calls
  behind_one call calls later before position first is placed =
      let own : List Event = events_of script (call ∷ []) in
      later (before ++ own) (position + length own)
      (let size = length-append before own in omega (arith, first, size))
      (is
      ∙ (ap (λ xs. before ++ xs) (events-append script (call ∷ []) calls)
      ∙ sym (append_assoc before own (events_of script calls)))) placed.1

  begins_placed : (calls : List Posted) (before : List Event) (position : ℕ) → position ≡ length before →
      history ≡ before ++ events_of script calls → ArePlaced script position calls → EachBegin (BeginsAt history) calls
  begins_placed [] before position first is placed = tt
  begins_placed (posted.Begin op given size begun ∷ calls) before position first is placed = (
    begin_placed history before (events_of script calls) op given size begun position first is placed.0,
    behind_one (posted.Begin op given size begun) calls (begins_placed calls) before position first is placed,
  )
  begins_placed (posted.Call act ∷ calls) before position first is placed =
      behind_one (posted.Call act) calls (begins_placed calls) before position first is placed
  begins_placed (posted.Back act ∷ calls) before position first is placed =
      behind_one (posted.Back act) calls (begins_placed calls) before position first is placed
  begins_placed (posted.End op ran ∷ calls) before position first is placed =
      behind_one (posted.End op ran) calls (begins_placed calls) before position first is placed

-- an execution behind some events, with each begin at its position
plain_whole : (run : ℕ → Call → ℕ) (drop : ℕ → ℕ) (script : ScriptModel) (before : List Event) (op : ℕ) (code : Code)
    (size : ℕ) (calls : List Posted) → IsWholeExecution script (IsRunMark run) op code size calls →
    ArePlaced script (length before) calls → IsPlain run drop (before ++ events_of script calls) (events_of script calls)
plain_whole run drop script before op code size calls whole placed =
    let shown = of_calls script calls in
    record {
      marked =
          marked_execution script run drop (BeginsAt (before ++ events_of script calls)) op code size calls whole
          (begins_placed script (before ++ events_of script calls) calls before (length before) refl refl placed);
      working = list_any_none is_fault (events_of script calls) (λ k d less. no_fault _ (shown k d less));
      inside = list_any_none is_outside_stop (events_of script calls) (λ k d less. no_stop _ (shown k d less));
    }

-- what is held after some handlers were spent
held_after : {H : Type 0} (marks : H → Marks) (begun : Bool) (handler : Option H) (x y : Bool) (m : Marks) →
    option_map marks handler ≡ unless_spent (x || y) m →
    option_map marks (left_at begun handler) ≡ unless_spent (x || (y || begun)) m
held_after marks true handler true y m is = refl
held_after marks true handler false true m is = refl
held_after marks true handler false false m is = refl
held_after marks false handler true y m is = is
held_after marks false handler false true m is = is
held_after marks false handler false false m is = is

-- a handler that is held has the marks that are named
mark_held : {H : Type 0} (marks : H → Marks) (handler : Option H) (spent : Bool) (m : Marks) (call : Call) (mark : ℕ) →
    option_map marks handler ≡ unless_spent spent m → option_map (λ h. (marks h).run call) handler ≡ Some mark →
    mark ≡ m.run call
mark_held marks None spent m call mark is has = absurd (cc has)
mark_held marks (Some h) true m call mark is has = absurd (cc is)
mark_held marks (Some h) false m call mark is has =
    let named : marks h ≡ m = cc is in
    let run : (marks h).run call ≡ mark = cc has in
    sym run ∙ ap (λ (n : Marks). n.run call) named

some_held : {H : Type 0} (marks : H → Marks) (handler : Option H) (spent : Bool) (m : Marks) →
    option_map marks handler ≡ unless_spent spent m → spent ≡ false → IsSome handler
some_held marks (Some h) spent m is unspent = refl
some_held marks None true m is unspent = absurd (cc unspent)
some_held marks None false m is unspent = absurd (cc is)

either_false : (a b : Bool) → a ≡ true → b ≡ false → (not a || b) ≡ false
either_false true b is isnt = isnt
either_false false b is isnt = absurd (cc is)

module _ {H : Type 0} (marks : H → Marks) (script : ScriptModel) (told : Bool) (run : ℕ → Call → ℕ) (drop : ℕ → ℕ) (from_outside : Bool)
    (r : Recording) (op : ℕ) (code : Code) (size : ℕ) (held : Held H)
    (keeps : KeepsHistory script told run drop from_outside (with_ready (op, code, size) r))
    (holds : HoldsUnspent marks told run drop (with_ready (op, code, size) r) held) (going : r.stopped ≡ false)
    (round : IsRoundOpen r) where
  old_round : IsRoundOpen (with_ready (op, code, size) r)
  old_round = record { left = round.left; restarted = round.restarted }

  pub may : OldestMayExecute → MayExecute told (with_ready (op, code, size) r) op code size r.ready
  may law = law told (with_ready (op, code, size) r) op code size r.ready keeps.recorded refl going old_round

  module _ (can : MayExecute told (with_ready (op, code, size) r) op code size r.ready) where
    pub can_execute : CanExecute held op
    can_execute = (
      some_held marks (held_at held op) (not (is_op r.script op) || is_spent_at told (with_ready (op, code, size) r) op)
          _ (holds.each op)
          (either_false (is_op r.script op) (is_spent_at told (with_ready (op, code, size) r) op) can.operation can.unspent),
      ap (λ (s : ScriptModel). is_inline s op) holds.script ∙ can.outside,
    )

    pub has_room : (calls : List Posted) → IsWholeExecution r.script AnyMark op code size calls →
        HasRoomForCalls r calls
    has_room calls whole = record {
      events = can.events calls whole;
      ready = can.postings calls whole;
      requests = can.requests calls whole;
    }

  module _ (law : ExecutionsAreRecorded) (t : Recording) (left : Held H)
      (did : HasRecorded marks op code size r t held left) where
    own : IsWholeExecution r.script (IsRunMark run) op code size did.calls
    own =
        whole_marks
        (λ call mark has.
        mark_held marks (held_at held call.op)
        (not (is_op r.script call.op) || is_spent_at told (with_ready (op, code, size) r) call.op) _ call mark
        (holds.each call.op) has) op code size did.calls did.whole

    executed : ExecutionIsRecorded told (with_ready (op, code, size) r) r.ready did.calls
    executed =
        law told (with_ready (op, code, size) r) op code size r.ready did.calls keeps.recorded refl going old_round
        (whole_marks (λ call mark has. tt) op code size did.calls did.whole)

    plain : IsPlain run drop (r.events ++ events_of r.script did.calls) (events_of r.script did.calls)
    plain = plain_whole run drop r.script r.events op code size did.calls own did.placed

    pub executed_history : KeepsHistory script told run drop from_outside t
    executed_history =
        subst (KeepsHistory script told run drop from_outside) (sym did.is)
        (history-plain script told run drop from_outside (with_ready (op, code, size) r) (with_calls did.calls r)
        (events_of r.script did.calls) keeps executed.recorded refl refl plain)

    pub executed_hands : HoldsUnspent marks told run drop t left
    executed_hands =
        subst (λ t. HoldsUnspent marks told run drop t left) (sym did.is)
        (record {
          script = did.script ∙ holds.script;
          each = λ n.
              ap (option_map marks) (did.spent n)
              ∙ held_after marks (begins_among n did.calls) (held_at held n) (not (is_op r.script n))
              (is_spent_at told (with_ready (op, code, size) r) n) (record { run = run n; drop = drop n })
              (holds.each n)
              ∙ ap (λ b. unless_spent (not (is_op r.script n) || b) (record { run = run n; drop = drop n }))
              (sym (executed.spent n));
        })

    pub executed_half : recorded_half told t ≡ recorded_half told r
    executed_half = ap (recorded_half told) did.is ∙ executed.reactor

    pub executed_faults : KeepsFaults r t
    executed_faults =
        ap (λ (x : Recording). has_fault x.events) did.is
        ∙ faults-plain run drop r.events (events_of r.script did.calls) plain

    pub executed_gone : HasGoneOn script run (with_ready (op, code, size) r) t
    executed_gone =
        subst (λ s. HasGoneOn s run (with_ready (op, code, size) r) t) keeps.is_script
        (record {
          events = events_of r.script did.calls;
          is = ap (λ (x : Recording). x.events) did.is;
          step =
              inl
              (record {
                op = op;
                code = code;
                size = size;
                newer = r.ready;
                oldest = refl;
                calls = did.calls;
                whole = own;
                placed = did.placed;
                is = refl;
              });
        })
