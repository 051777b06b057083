-- What the events of calls show.
use Rattle.std.proofs.Common.{◌≡◌, ℕ, zero, suc, ◌+◌, Bool, true, false, cond, List, [], ◌∷◌, ◌++◌, Some, None, refl, slice_get, sym, subst, ◌∙◌}
use Rattle.std.specs.List.{All}
use Rattle.std.proofs.lemmas.List.Elements.{All-cons, All-nil}
use Rattle.asio_types.specs.Code.{class_of_code}
use Rattle.asio_types.specs.declared.code.Code.{Code}
use Rattle.asio_types.specs.declared.code.Code.TheVariants as code
use Rattle.asio_types.specs.declared.event.Event.{Event}
use Rattle.asio_types.specs.declared.event.Event.TheVariants as event
use Rattle.session_script.specs.Script.{ScriptModel, opening_of, stops}
use Rattle.session_script.specs.WellFormed.{IsWellFormed}
use Rattle.execution_laws.specs.Marks.{AreMarked, BeginsAt, HasToldMarks, IsToldMark}
use Rattle.op_handlers.specs.Marks.{call_of, own_marks}
use Rattle.op_handlers.specs.declared.call.Call.{Call}
use Rattle.strand_core.specs.Execution.{AnyMark, AreCalls, IsWholeExecution, no_act, outside, inside, events_of, execution_of}
use Rattle.strand_core.specs.declared.posted.Posted.{Posted}
use Rattle.strand_core.specs.declared.posted.Posted.TheVariants as posted
use Rattle.execution_laws.specs.Shown.{EachBegin, IsRunMark, is_of_call}
use Rattle.execution_laws.proofs.BodyLemmas.{Follows, follows-all, follows-next, follows-rest}
use Rattle.execution_laws.proofs.EventLemmas.{events-append}
use Rattle.execution_laws.proofs.ScriptLemmas.{open_outside}
use Rattle.execution_laws.proofs.PlaceLemmas.{parent_is}

-- each event of calls is one of a call
pub of_calls : (script : ScriptModel) (calls : List Posted) →
    All (λ event. is_of_call event ≡ true) (events_of script calls)
of_calls script [] = All-nil (λ event. is_of_call event ≡ true)
of_calls script (posted.Begin op code size begun ∷ calls) =
    All-cons (λ event. is_of_call event ≡ true) (event.Begin op code size) (events_of script calls) refl (of_calls script calls)
of_calls script (posted.Call act ∷ calls) = by_stop (stops script act) (of_calls script calls)
  where
    by_stop : (b : Bool) → All (λ event. is_of_call event ≡ true) (events_of script calls) →
        All (λ event. is_of_call event ≡ true) (cond b (event.Call act ∷ event.Stop (Some act) ∷ events_of script calls)
        (event.Call act ∷ events_of script calls))
    by_stop true rest =
        All-cons (λ event. is_of_call event ≡ true) (event.Call act) (event.Stop (Some act) ∷ events_of script calls) refl
        (All-cons (λ event. is_of_call event ≡ true) (event.Stop (Some act)) (events_of script calls) refl rest)
    by_stop false rest = All-cons (λ event. is_of_call event ≡ true) (event.Call act) (events_of script calls) refl rest
of_calls script (posted.Back act ∷ calls) =
    All-cons (λ event. is_of_call event ≡ true) (event.Back act) (events_of script calls) refl (of_calls script calls)
of_calls script (posted.End op ran ∷ calls) =
    All-cons (λ event. is_of_call event ≡ true) (event.End op ran.mark) (events_of script calls) refl (of_calls script calls)

-- marks that follow from others
module _ (script : ScriptModel) (Has Follow : Call → ℕ → Type 0)
    (follow : (call : Call) (mark : ℕ) → Has call mark → Follow call mark) where
  pub follow_calls : {acts : List ℕ} {calls : List Posted} → AreCalls script Has acts calls →
      AreCalls script Follow acts calls
  follow_calls no_act = no_act
  follow_calls (outside isnt more) = outside isnt (follow_calls more)
  follow_calls (inside {act} {begun} {mark} is marked inner more) =
      inside is (follow (call_of act code.Ok 0 begun) mark marked) (follow_calls inner) (follow_calls more)

  pub follow_execution : (op : ℕ) (given : Code) (size : ℕ) (calls : List Posted) →
      IsWholeExecution script Has op given size calls → IsWholeExecution script Follow op given size calls
  follow_execution op given size calls whole = record {
    begun = whole.begun;
    mark = whole.mark;
    body = whole.body;
    marked = follow (call_of op given size whole.begun) whole.mark whole.marked;
    acts = follow_calls whole.acts;
    is = whole.is;
  }

-- what is said of each begin is said of those of a first part and of the rest
module _ (Begins : ℕ → Code → ℕ → ℕ → Type 0) where
  begins_first : (xs ys : List Posted) → EachBegin Begins (xs ++ ys) → EachBegin Begins xs
  begins_first [] ys each = tt
  begins_first (posted.Begin op given size begun ∷ xs) ys each = (each.0, begins_first xs ys each.1)
  begins_first (posted.Call act ∷ xs) ys each = begins_first xs ys each
  begins_first (posted.Back act ∷ xs) ys each = begins_first xs ys each
  begins_first (posted.End op ran ∷ xs) ys each = begins_first xs ys each

  begins_rest : (xs ys : List Posted) → EachBegin Begins (xs ++ ys) → EachBegin Begins ys
  begins_rest [] ys each = each
  begins_rest (posted.Begin op given size begun ∷ xs) ys each = begins_rest xs ys each.1
  begins_rest (posted.Call act ∷ xs) ys each = begins_rest xs ys each
  begins_rest (posted.Back act ∷ xs) ys each = begins_rest xs ys each
  begins_rest (posted.End op ran ∷ xs) ys each = begins_rest xs ys each

  -- so it is of what each handler is called with
  module _ (script : ScriptModel) (Has : Call → ℕ → Type 0) where
    abbrev IsSaid : Call → ℕ → Type 0
    IsSaid call mark = Begins call.op call.code call.size call.begun × Has call mark

    said_calls : {acts : List ℕ} {calls : List Posted} → AreCalls script Has acts calls → EachBegin Begins calls →
        AreCalls script IsSaid acts calls
    said_calls no_act each = no_act
    said_calls (outside isnt more) each = outside isnt (said_calls more each)
    said_calls (inside {act} {begun} {mark} {acts} {body} {calls} is marked inner more) each =
        let execution : List Posted = execution_of act code.Ok 0 begun mark body in
        let first : EachBegin Begins execution = begins_first execution (posted.Back act ∷ calls) each in
        inside is (first.0, marked) (said_calls inner (begins_first body _ first.1))
        (said_calls more (begins_rest execution (posted.Back act ∷ calls) each))

    said_execution : (op : ℕ) (given : Code) (size : ℕ) (calls : List Posted) →
        IsWholeExecution script Has op given size calls → EachBegin Begins calls →
        IsWholeExecution script IsSaid op given size calls
    said_execution op given size calls whole each =
        let own : EachBegin Begins (execution_of op given size whole.begun whole.mark whole.body) =
        subst (EachBegin Begins) whole.is each in
        record {
          begun = whole.begun;
          mark = whole.mark;
          body = whole.body;
          marked = (own.0, whole.marked);
          acts = said_calls whole.acts (begins_first whole.body _ own.1);
          is = whole.is;
        }

module _ (HasMark : ℕ → ℕ → Type 0) (drop : ℕ → ℕ) where
  pub marks-append : (first rest : List Event) → AreMarked HasMark drop first → AreMarked HasMark drop rest →
      AreMarked HasMark drop (first ++ rest)
  marks-append [] rest one two = two
  marks-append (event ∷ first) rest one two = (one.0, marks-append first rest one.1 two)

  -- a call shows no mark
  marks-call : (b : Bool) (act : ℕ) (events : List Event) → AreMarked HasMark drop events →
      AreMarked HasMark drop (cond b (event.Call act ∷ event.Stop (Some act) ∷ events) (event.Call act ∷ events))
  marks-call true act events rest = (tt, (tt, rest))
  marks-call false act events rest = (tt, rest)

  -- an execution shows that of its handler, behind those of its body
  marks-execution : (script : ScriptModel) (op : ℕ) (given : Code) (size begun mark : ℕ) (body : List Posted) →
      HasMark op mark → AreMarked HasMark drop (events_of script body) →
      AreMarked HasMark drop (events_of script (execution_of op given size begun mark body))
  marks-execution script op given size begun mark body is inner =
      let end : List Posted = posted.End op (record { mark = mark; class = class_of_code given; begun = begun }) ∷ [] in (
        tt,
        subst (AreMarked HasMark drop) (sym (events-append script body end))
            (marks-append (events_of script body) (event.End op mark ∷ []) inner (is, tt)),
      )

  marks-calls : (script : ScriptModel) {acts : List ℕ} {calls : List Posted} →
      AreCalls script (λ call mark. HasMark call.op mark) acts calls → AreMarked HasMark drop (events_of script calls)
  marks-calls script no_act = tt
  marks-calls script (outside {act} {acts} {calls} isnt more) =
      marks-call (stops script act) act (event.Back act ∷ events_of script calls) (tt, marks-calls script more)
  marks-calls script (inside {act} {begun} {mark} {acts} {body} {calls} is marked inner more) =
      let execution : List Posted = execution_of act code.Ok 0 begun mark body in
      marks-call (stops script act) act (events_of script (execution ++ posted.Back act ∷ calls))
      (subst (AreMarked HasMark drop) (sym (events-append script execution (posted.Back act ∷ calls)))
      (marks-append (events_of script execution) (event.Back act ∷ events_of script calls)
      (marks-execution script act code.Ok 0 begun mark body marked (marks-calls script inner))
      (tt, marks-calls script more)))

  -- where nothing executes inside a call no mark is shown
  marks-none : (script : ScriptModel) (well : IsWellFormed script) {acts : List ℕ} {calls : List Posted} →
      AreCalls script AnyMark acts calls → (k : ℕ) → Follows script well None k acts →
      AreMarked HasMark drop (events_of script calls)
  marks-none script well no_act k follows = tt
  marks-none script well (outside {act} {acts} {calls} isnt more) k follows =
      marks-call (stops script act) act (event.Back act ∷ events_of script calls)
      (tt, marks-none script well more (k + 1) (follows-rest script well None k act acts follows))
  marks-none script well (inside {act} {begun} {mark} {acts} {body} {calls} is marked inner more) k follows =
      absurd (let wrong : true ≡ false =
      sym is
      ∙ open_outside script act
      (parent_is script well None act k (follows-next script well None k act acts follows)) in
      cc)

pub marked_execution : (script : ScriptModel) (run : ℕ → Call → ℕ) (drop : ℕ → ℕ)
    (Begins : ℕ → Code → ℕ → ℕ → Type 0) (op : ℕ) (given : Code) (size : ℕ) (calls : List Posted) →
    IsWholeExecution script (IsRunMark run) op given size calls → EachBegin Begins calls →
    AreMarked (IsToldMark (own_marks run) Begins) drop (events_of script calls)
marked_execution script run drop Begins op given size calls whole each =
    let Shown : ℕ → ℕ → Type 0 = IsToldMark (own_marks run) Begins in
    let said =
    follow_execution script (IsSaid Begins script (IsRunMark run)) (λ call mark. Shown call.op mark)
    (λ call mark known. record { code = call.code; size = call.size; begun = call.begun; begins = known.0; is = known.1 }) op
    given size calls (said_execution Begins script (IsRunMark run) op given size calls whole each) in
    subst (λ calls. AreMarked Shown drop (events_of script calls)) (sym said.is)
    (marks-execution Shown drop script op given size said.begun said.mark said.body said.marked
    (marks-calls Shown drop script said.acts))

pub unmarked_opening : (script : ScriptModel) (HasMark : ℕ → ℕ → Type 0) (drop : ℕ → ℕ) (calls : List Posted) →
    IsWellFormed script → AreCalls script AnyMark (opening_of script) calls →
    AreMarked HasMark drop (events_of script calls)
unmarked_opening script HasMark drop calls well acts =
    marks-none HasMark drop script well acts 0 (follows-all script well None)

-- marks of ends that follow from others
pub marks_so : (Has Follow : ℕ → ℕ → Type 0) (drop : ℕ → ℕ) → ((o mark : ℕ) → Has o mark → Follow o mark) →
    (events : List Event) → AreMarked Has drop events → AreMarked Follow drop events
marks_so Has Follow drop so [] all = tt
marks_so Has Follow drop so (event.End o mark ∷ events) all =
    (so o mark all.0, marks_so Has Follow drop so events all.1)
marks_so Has Follow drop so (event.Dropped o mark ∷ events) all = (all.0, marks_so Has Follow drop so events all.1)
marks_so Has Follow drop so (other ∷ events) all = (tt, marks_so Has Follow drop so events all.1)

get_first : (xs ys : List Event) (n : ℕ) (x : Event) → slice_get xs n ≡ Some x → slice_get (xs ++ ys) n ≡ Some x
get_first [] ys n x is = absurd (cc (is))
get_first (y ∷ xs) ys zero x is = is
get_first (y ∷ xs) ys (suc n) x is = get_first xs ys n x is

-- what begins in a history begins in it as it goes on
pub marks_grow : (run : ℕ → Code → ℕ → ℕ → ℕ) (drop : ℕ → ℕ) (first rest events : List Event) →
    AreMarked (IsToldMark run (BeginsAt first)) drop events →
    AreMarked (IsToldMark run (BeginsAt (first ++ rest))) drop events
marks_grow run drop first rest events =
    marks_so (IsToldMark run (BeginsAt first)) (IsToldMark run (BeginsAt (first ++ rest))) drop
    (λ o mark told. record {
      code = told.code;
      size = told.size;
      begun = told.begun;
      begins = get_first first rest told.begun (event.Begin o told.code told.size) told.begins;
      is = told.is;
    }) events

pub marks_go_on : (run : ℕ → Code → ℕ → ℕ → ℕ) (drop : ℕ → ℕ) (first rest : List Event) → HasToldMarks run drop first →
    AreMarked (IsToldMark run (BeginsAt (first ++ rest))) drop rest → HasToldMarks run drop (first ++ rest)
marks_go_on run drop first rest one two =
    marks-append (IsToldMark run (BeginsAt (first ++ rest))) drop first rest (marks_grow run drop first rest first one) two
