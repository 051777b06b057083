-- What a summary says of a history, one event later.
use Rattle.std.proofs.Common.{◌≡◌, ℕ, ◌+◌, ◌<◌, Bool, true, false, cond, List, [], ◌∷◌, ◌++◌, length, take, get_or, suc, refl, ap, ◌∙◌, arith, ◌||◌}
use Rattle.std.specs.List.{count_by, list_any, sum_by}
use Rattle.std.proofs.lemmas.List.Sums.{sum_by-append}
use Rattle.std.proofs.lemmas.List.Folds.{list_any-append}
use Rattle.std.proofs.Math.Seq.{take-suc}
use Rattle.asio_types.specs.declared.event.Event.{Event}
use Rattle.asio_types.specs.declared.event.Event.TheVariants as event
use Rattle.history_rules.specs.FromOutside.{is_fault}
use Rattle.generated_session.specs.declared.tally.Closing.{Closing}
use Rattle.generated_session.specs.declared.tally.Closing.TheVariants as closing
use Rattle.generated_session.specs.Summary.{is_call, is_end, is_drop, is_abort, run_mark, time_after, time_from, closing_after, closing_from, plus_one_if, marks_after, fault_after, tally_of, tally_after}

one_if : (b : Bool) (n : ℕ) → n + cond b 1 0 ≡ plus_one_if b n
one_if true n = refl
one_if false n = omega arith

count_grows : (p : Event → Bool) (events : List Event) (e : Event) →
    count_by p (events ++ e ∷ []) ≡ plus_one_if (p e) (count_by p events)
count_grows p events e =
    let f : Event → ℕ = λ x. cond (p x) 1 0 in
    let last : sum_by f (e ∷ []) ≡ f e = omega arith in
    sum_by-append f events (e ∷ []) ∙ ap (λ n. sum_by f events + n) last ∙ one_if (p e) (count_by p events)

mark_is_added : (sum : ℕ) (e : Event) → sum + run_mark e ≡ marks_after sum e
mark_is_added sum (event.End o mark) = refl
mark_is_added sum _ = omega arith

marks_grow : (events : List Event) (e : Event) →
    sum_by run_mark (events ++ e ∷ []) ≡ marks_after (sum_by run_mark events) e
marks_grow events e =
    let last : sum_by run_mark (e ∷ []) ≡ run_mark e = omega arith in
    sum_by-append run_mark events (e ∷ []) ∙ ap (λ n. sum_by run_mark events + n) last
    ∙ mark_is_added (sum_by run_mark events) e

fault_of_both : (b : Bool) (e : Event) → (b || list_any is_fault (e ∷ [])) ≡ fault_after b e
fault_of_both true event.Fault = refl
fault_of_both false event.Fault = refl
fault_of_both true _ = refl
fault_of_both false _ = refl

fault_grows : (events : List Event) (e : Event) →
    list_any is_fault (events ++ e ∷ []) ≡ fault_after (list_any is_fault events) e
fault_grows events e = list_any-append is_fault events (e ∷ []) ∙ fault_of_both (list_any is_fault events) e

time_grows : (now : ℕ) (events : List Event) (e : Event) →
    time_from now (events ++ e ∷ []) ≡ time_after (time_from now events) e
time_grows now [] e = refl
time_grows now (first ∷ events) e = time_grows (time_after now first) events e

closing_grows : (last : Closing) (events : List Event) (e : Event) →
    closing_from last (events ++ e ∷ []) ≡ closing_after (closing_from last events) e
closing_grows last [] e = refl
closing_grows last (first ∷ events) e = closing_grows (closing_after last first) events e

tally_grows : (events : List Event) (e : Event) → tally_of (events ++ e ∷ []) ≡ tally_after (tally_of events) e
tally_grows events e =
    rw (
      count_grows is_call events e,
      count_grows is_end events e,
      count_grows is_drop events e,
      count_grows is_abort events e,
      marks_grow events e,
      time_grows 0 events e,
      fault_grows events e,
      closing_grows closing.Open events e,
    ) refl

-- the tally of the events up to a place, and of those up to the next one
pub tally_of_next : (events : List Event) (i : ℕ) (d : Event) → i < length events →
    tally_of (take (i + 1) events) ≡ tally_after (tally_of (take i events)) (get_or events i d)
tally_of_next events i d inside =
    let next : i + 1 ≡ suc i = omega arith in
    ap (λ n. tally_of (take n events)) next ∙ ap tally_of (take-suc events i d inside)
    ∙ tally_grows (take i events) (get_or events i d)
