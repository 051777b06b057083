-- What more events make of a history that a context keeps.
use Rattle.std.proofs.Common.{◌≡◌, ◌≢◌, ℕ, Bool, true, false, List, [], ◌∷◌, ◌++◌, Some, None, refl, sym, ap, subst, ◌∙◌}
use Rattle.std.specs.Prelude.{◌||◌}
use Rattle.std.specs.List.{Contains, list_any}
use Rattle.std.proofs.lemmas.List.Folds.{list_any-append, list_any-from_Any}
use Rattle.asio_types.specs.declared.event.Event.{Event}
use Rattle.asio_types.specs.declared.event.Event.TheVariants as event
use Rattle.op_handlers.specs.Marks.{own_marks}
use Rattle.op_handlers.specs.declared.call.Call.{Call}
use Rattle.session_script.specs.Script.{ScriptModel}
use Rattle.history_rules.specs.FromOutside.{has_fault, has_outside_stop, is_fault, is_outside_stop}
use Rattle.execution_laws.specs.Marks.{AreMarked, BeginsAt, HasToldMarks, IsToldMark}
use Rattle.execution_laws.specs.Shown.{is_of_call}
use Rattle.execution_laws.proofs.ShownLemmas.{marks_go_on}
use Rattle.book_context.specs.Book.{KeepsHistory}
use Rattle.book_context.specs.Recorded.{IsRecorded}
use Rattle.book_context.specs.Recording.{Recording}

-- no event of a call is a failure, or a stop from outside
pub no_fault : (e : Event) → is_of_call e ≡ true → is_fault e ≡ false
no_fault event.Fault is = absurd (cc is)
no_fault (event.Call a) is = refl
no_fault (event.Back a) is = refl
no_fault (event.Stop a) is = refl
no_fault (event.Begin o code size) is = refl
no_fault (event.End o mark) is = refl
no_fault (event.Take a) is = refl
no_fault (event.Done o code size) is = refl
no_fault (event.Tick now) is = refl
no_fault event.Last is = refl
no_fault event.Ended is = refl
no_fault event.Stopped is = refl
no_fault event.Polled is = refl
no_fault event.Restart is = refl
no_fault (event.Dropped o mark) is = refl

pub no_stop : (e : Event) → is_of_call e ≡ true → is_outside_stop e ≡ false
no_stop (event.Stop None) is = absurd (cc is)
no_stop (event.Stop (Some a)) is = refl
no_stop event.Fault is = refl
no_stop (event.Call a) is = refl
no_stop (event.Back a) is = refl
no_stop (event.Begin o code size) is = refl
no_stop (event.End o mark) is = refl
no_stop (event.Take a) is = refl
no_stop (event.Done o code size) is = refl
no_stop (event.Tick now) is = refl
no_stop event.Last is = refl
no_stop event.Ended is = refl
no_stop event.Stopped is = refl
no_stop event.Polled is = refl
no_stop event.Restart is = refl
no_stop (event.Dropped o mark) is = refl

false_or : (a b : Bool) → a ≡ false → b ≡ false → (a || b) ≡ false
false_or true b isnt neither = absurd (cc isnt)
false_or false b isnt neither = neither

pub or_false : (a b : Bool) → b ≡ false → (a || b) ≡ a
or_false true b isnt = refl
or_false false b isnt = isnt

-- some events of a history that show the marks that are named, and neither a failure nor a stop from
-- outside
pub record IsPlain (run : ℕ → Call → ℕ) (drop : ℕ → ℕ) (history events : List Event) : Type 0 where
  pub marked : AreMarked (IsToldMark (own_marks run) (BeginsAt history)) drop events
  pub working : has_fault events ≡ false
  pub inside : has_outside_stop events ≡ false

pub faults-plain : (run : ℕ → Call → ℕ) (drop : ℕ → ℕ) {history : List Event} (xs ys : List Event) →
    IsPlain run drop history ys → has_fault (xs ++ ys) ≡ has_fault xs
faults-plain run drop {history} xs ys plain =
    list_any-append is_fault xs ys ∙ or_false (has_fault xs) (has_fault ys) plain.working

pub stops-plain : (run : ℕ → Call → ℕ) (drop : ℕ → ℕ) {history : List Event} (xs ys : List Event) →
    IsPlain run drop history ys →
    has_outside_stop (xs ++ ys) ≡ has_outside_stop xs
stops-plain run drop {history} xs ys plain =
    list_any-append is_outside_stop xs ys ∙ or_false (has_outside_stop xs) (has_outside_stop ys) plain.inside

empty_ends : {X : Type 0} (xs ys : List X) → xs ++ ys ≡ [] → xs ≡ []
empty_ends [] ys same = refl
empty_ends (x ∷ xs) ys same = absurd (cc same)

-- what stands in front of events without a failure is no failure alone, if it wasn't before
alone-plain : (xs ys : List Event) → has_fault ys ≡ false → (xs ≡ event.Fault ∷ [] → ⊥) → xs ++ ys ≡ event.Fault ∷ [] →
    ⊥
alone-plain [] ys working isnt same =
    absurd (let failed : has_fault ys ≡ true = ap has_fault same in cc (working, failed))
alone-plain (x ∷ xs) ys working isnt same =
    let first : x ≡ event.Fault = cc same in
    let rest : xs ++ ys ≡ [] = cc same in
    let none : xs ≡ [] = empty_ends xs ys rest in
    isnt (ap (λ e. e ∷ xs) first ∙ ap (λ es. event.Fault ∷ es) none)

-- a failure that comes behind something isn't alone
pub alone-behind : (xs : List Event) → (xs ≡ [] → ⊥) → xs ++ event.Fault ∷ [] ≡ event.Fault ∷ [] → ⊥
alone-behind [] some same = some refl
alone-behind (x ∷ []) some same = absurd (cc same)
alone-behind (x ∷ y ∷ xs) some same = absurd (cc same)

pub history-plain : (script : ScriptModel) (told : Bool) (run : ℕ → Call → ℕ) (drop : ℕ → ℕ) (outside : Bool) (r t : Recording)
    (events : List Event) → KeepsHistory script told run drop outside r → IsRecorded told t → t.script ≡ r.script →
    t.events ≡ r.events ++ events → IsPlain run drop (r.events ++ events) events → KeepsHistory script told run drop outside t
history-plain script told run drop outside r t events keeps recorded same is plain = record {
  recorded = recorded;
  is_script = same ∙ keeps.is_script;
  marked =
      subst (HasToldMarks (own_marks run) drop) (sym is)
      (marks_go_on (own_marks run) drop r.events events keeps.marked plain.marked);
  unstopped = λ none. ap has_outside_stop is ∙ stops-plain run drop r.events events plain ∙ keeps.unstopped none;
  set_up = λ alone. alone-plain r.events events plain.working keeps.set_up (sym is ∙ alone);
}

-- what is in a list and passes a test is found by it
pub contains_any : {X : Type 0} (test : X → Bool) (xs : List X) (x : X) → Contains xs x → test x ≡ true →
    list_any test xs ≡ true
contains_any test xs x there passes = list_any-from_Any test xs (there.0, x, there.1, there.2, passes)

-- something stands where an event came
pub some_behind : (xs : List Event) (event : Event) (ys : List Event) → ys ≡ xs ++ event ∷ [] → ys ≢ []
some_behind [] event ys is none = absurd (cc (is, none))
some_behind (x ∷ xs) event ys is none = absurd (cc (is, none))
