-- The summary of a session that a number makes, from its script alone.
use Rattle.std.proofs.Common.{◌≡◌, ℕ, ◌+◌, ◌≤◌, zero, suc, Bool, false, cond, List, [], ◌∷◌, length, replicate, Some, refl, ap, sym, ◌∙◌, arith}
use Rattle.std.specs.Prelude.{count_by}
use Rattle.std.specs.List.{flat_map, list_any, slice_get, sum_by}
use Rattle.std.proofs.lemmas.List.Sums.{sum_by-cons}
use Rattle.asio_types.specs.declared.event.Event.{Event}
use Rattle.asio_types.specs.declared.event.Event.TheVariants as event
use Rattle.session_script.specs.Script.{Entry, is_operation, opening_of}
use Rattle.history_rules.specs.FromOutside.{is_fault, is_outside_stop}
use Rattle.history_rules.specs.Calls.{has_ended}
use Rattle.history_rules.specs.Legal.{IsLegal}
use Rattle.history_rules.specs.Marks.{HasMarks, ShowsMark}
use Rattle.history_rules.specs.State.{first_reactor, first_state, fresh}
use Rattle.history_rules.specs.declared.phase.ActState.{ActState}
use Rattle.generated_session.specs.Generator.{acts_from, generated, most_size, session_of}
use Rattle.generated_session.specs.PlainSummary.{plain_aborted, plain_marks, plain_summary, plain_tally, plain_time}
use Rattle.generated_session.specs.Summary.{SummaryTally, is_abort, is_call, is_end, lines_of, run_mark, summary_of, tally_of, text_of_line, time_from}
use Rattle.generated_session.specs.declared.tally.Closing.TheVariants as closing
use Rattle.generated_session.proofs.FitLemmas.{is_called, operates}
use Rattle.generated_session.proofs.FutureLemmas.{aborts_plain, asked, lasts_plain, to_abort, to_last}
use Rattle.generated_session.proofs.GatherLemmas.{one_if, total}
use Rattle.generated_session.proofs.GoingLemmas.{end_weight}
use Rattle.generated_session.proofs.ItemsLemmas.{act_of-in, are_items, AreItems, asks_entry, nth_act}
use Rattle.generated_session.proofs.ListedLemmas.{numbered}
use Rattle.generated_session.proofs.MadeLemmas.{length-acts_from}
use Rattle.generated_session.proofs.OpenedLemmas.{first_opening, get_or-replicate, tells_all}
use Rattle.generated_session.proofs.PlainLemmas.{IsPlain}
use Rattle.generated_session.proofs.StatesLemmas.{at, called_count, ended_sum}

-- a number for each operation, by its number and by its place among the acts
marks_from : (acts : List Entry) (weight : ℕ → ℕ) (n : ℕ) (es : List Entry) →
    ((k : ℕ) → slice_get es k ≡ slice_get acts (n + k)) →
    plain_marks weight n es + total (λ m. cond (operates (nth_act acts m)) (weight m) 0) n
    ≡ total (λ m. cond (operates (nth_act acts m)) (weight m) 0) (n + length es)
marks_from acts weight n [] same =
    let none : n ≡ n + 0 = omega arith in
    let whole = ap (total (λ m. cond (operates (nth_act acts m)) (weight m) 0)) none in
    omega (arith, whole)
marks_from acts weight n (e ∷ es) same =
    let f : ℕ → ℕ = λ m. cond (operates (nth_act acts m)) (weight m) 0 in
    let here : n ≡ n + 0 = omega arith in
    let there : slice_get acts n ≡ Some e = ap (slice_get acts) here ∙ sym (same 0) in
    let is = ap (λ o. cond (operates o) (weight n) 0) (act_of-in acts n (Some e) there) in
    let rest =
    marks_from acts weight (n + 1) es
    (λ k. let at : n + suc k ≡ n + 1 + k = omega arith in same (suc k) ∙ ap (slice_get acts) at) in
    let next : n + 1 ≡ suc n = omega arith in
    let first = ap (total f) next in
    let end : n + 1 + length es ≡ n + suc (length es) = omega arith in
    let last = ap (total f) end in
    omega (arith, is, rest, first, last)

marks_all : (acts : List Entry) (weight : ℕ → ℕ) →
    plain_marks weight 0 acts ≡ total (λ m. cond (operates (nth_act acts m)) (weight m) 0) (length acts)
marks_all acts weight =
    let all = marks_from acts weight 0 acts (λ k. let at : k ≡ 0 + k = omega arith in ap (slice_get acts) at) in
    let end : 0 + length acts ≡ length acts = omega arith in
    let last = ap (total (λ m. cond (operates (nth_act acts m)) (weight m) 0)) end in
    omega (arith, all, last)

operations_counted : (n : ℕ) (es : List Entry) →
    count_by (λ (e : Entry). is_operation e.act) es ≡ plain_marks (λ m. 1) n es
operations_counted n [] = refl
operations_counted n (e ∷ es) =
    let first = sum_by-cons (λ (x : Entry). one_if (is_operation x.act)) e es in
    let rest = operations_counted (n + 1) es in
    omega (arith, first, rest)

-- an end counts for its mark
marks_shown : (run drop : ℕ → ℕ) (e : Event) → ShowsMark run drop e → run_mark e ≡ end_weight run e
marks_shown run drop (event.End o mark) shows = shows
marks_shown run drop e shows = refl

marks_summed : (run drop : ℕ → ℕ) (events : List Event) → HasMarks run drop events →
    sum_by run_mark events ≡ sum_by (end_weight run) events
marks_summed run drop [] marks = refl
marks_summed run drop (e ∷ events) marks =
    let one = sum_by-cons run_mark e events in
    let two = sum_by-cons (end_weight run) e events in
    let here = marks_shown run drop e marks.0 in
    let rest = marks_summed run drop events marks.1 in
    omega (arith, one, two, here, rest)

end_counts : (e : Event) → one_if (is_end e) ≡ end_weight (λ n. 1) e
end_counts (event.End o mark) = refl
end_counts e = refl

ends_counted : (events : List Event) → count_by is_end events ≡ sum_by (end_weight (λ n. 1)) events
ends_counted [] = refl
ends_counted (e ∷ events) =
    let one = sum_by-cons (λ x. one_if (is_end x)) e events in
    let two = sum_by-cons (end_weight (λ n. 1)) e events in
    let here = end_counts e in
    let rest = ends_counted events in
    omega (arith, one, two, here, rest)

total_none : (f : ℕ → ℕ) (n : ℕ) → ((m : ℕ) → f m ≡ 0) → total f n ≡ 0
total_none f zero none = refl
total_none f (suc n) none = let rest = total_none f n none in let here = none n in omega (arith, rest, here)

module _ (acts : List Entry) (items : AreItems 0 acts) (told : Bool) (few : length acts ≤ 1024) (events : List Event)
    (legal : IsLegal (session_of acts) told events) (fine : list_any is_fault events ≡ false)
    (goes : list_any is_outside_stop events ≡ false) (run drop : ℕ → ℕ) (marks : HasMarks run drop events) where
  plain : IsPlain acts (replicate (length acts) fresh) (first_reactor (session_of acts) told)
      (numbered asks_entry 0 acts) events
  plain =
      tells_all acts items told few (opening_of (session_of acts)) 0 (first_state (session_of acts) told) events
      (first_opening acts told) legal.legal legal.whole fine goes

  new : (n : ℕ) → at (replicate (length acts) fresh) n ≡ fresh
  new n = get_or-replicate fresh (length acts) n

  none_called : called_count (replicate (length acts) fresh) (length acts) ≡ 0
  none_called =
      total_none (λ n. one_if (is_called (at (replicate (length acts) fresh) n).call)) (length acts)
      (λ n. ap (λ (act : ActState). one_if (is_called act.call)) (new n))

  none_ended : (weight : ℕ → ℕ) → ended_sum weight (replicate (length acts) fresh) (length acts) ≡ 0
  none_ended weight =
      total_none (λ n. cond (has_ended (at (replicate (length acts) fresh) n).phase) (weight n) 0) (length acts)
      (λ n. ap (λ (act : ActState). cond (has_ended act.phase) (weight n) 0) (new n))

  executed : count_by is_end events ≡ count_by (λ (e : Entry). is_operation e.act) acts
  executed =
      let ends = plain.ends (λ n. 1) in
      let none = none_ended (λ n. 1) in
      let one = ends_counted events in
      let two = operations_counted 0 acts in
      let three = marks_all acts (λ n. 1) in
      omega (arith, ends, none, one, two, three)

  marked : sum_by run_mark events ≡ plain_marks run 0 acts
  marked =
      let ends = plain.ends run in
      let none = none_ended run in
      let one = marks_summed run drop events marks in
      let two = marks_all acts run in
      omega (arith, ends, none, one, two)

  aborted : count_by is_abort events ≡ plain_aborted acts
  aborted =
      let come = plain.aborts in
      let all = ap (to_abort (replicate 4 0)) (asked acts) ∙ aborts_plain items (replicate 4 0) refl in
      omega (arith, come, all)

  lasting : time_from 0 events ≡ plain_time acts
  lasting =
      let come = plain.time in
      let all = ap (to_last (replicate 4 0)) (asked acts) ∙ lasts_plain items (replicate 4 0) refl in
      omega (arith, come, all)

  called : count_by is_call events ≡ length acts
  called = let all = plain.calls in let none = none_called in omega (arith, all, none)

  pub tally_is : tally_of events ≡ plain_tally run acts
  tally_is = rw (called, executed, plain.drops, aborted, marked, lasting, fine, plain.closed closing.Open) refl

-- the summary is that of the script
pub summary_is : (start size : ℕ) → size ≤ most_size → (told : Bool) (events : List Event) →
    IsLegal (generated start size) told events → list_any is_fault events ≡ false →
    list_any is_outside_stop events ≡ false → (run drop : ℕ → ℕ) → HasMarks run drop events →
    summary_of start size events ≡ plain_summary start size run
summary_is start size few told events legal fine goes run drop marks =
    let acts : List Entry = acts_from size 0 start in
    let short : length acts ≤ 1024 = let same = length-acts_from size 0 start in omega (arith, same, few) in
    ap (λ (tally : SummaryTally). flat_map text_of_line (lines_of start size tally))
    (tally_is acts (are_items size 0 start) told short events legal fine goes run drop marks)
