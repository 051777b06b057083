-- How many events the calls of a body have at most.
use Rattle.std.proofs.Common.{◌≡◌, ℕ, zero, suc, ◌+◌, ◌*◌, ◌<◌, ◌≤◌, Bool, true, false, ◌||◌, cond, List, ◌∷◌, ◌++◌, Some, None, inl, inr, length, refl, sym, ap, subst, ◌∙◌, arith, []}
use Rattle.std.proofs.lemmas.Bool.{false_from_ne_true}
use Rattle.std.proofs.lemmas.List.{length-append}
use Rattle.asio_types.specs.Code.{class_of_code}
use Rattle.asio_types.specs.declared.code.Class.TheVariants as class
use Rattle.asio_types.specs.declared.code.Code.{Code}
use Rattle.asio_types.specs.declared.code.Code.TheVariants as code
use Rattle.asio_types.specs.declared.event.Event.TheVariants as event
use Rattle.op_handlers.specs.declared.call.Call.{Call}
use Rattle.session_script.specs.Script.{Place, ScriptModel, branch_of, opening_of, stops}
use Rattle.session_script.specs.Lanes.{is_inline}
use Rattle.session_script.specs.WellFormed.{HasParent, IsWellFormed}
use Rattle.session_script.proofs.PlacingLemmas.{has_parent}
use Rattle.strand_core.specs.Execution.{AnyMark, AreCalls, IsWholeExecution, no_act, outside, inside, events_of, execution_of}
use Rattle.strand_core.specs.declared.posted.Posted.{Posted}
use Rattle.strand_core.specs.declared.posted.Posted.TheVariants as posted
use Rattle.execution_laws.specs.Called.{is_called}
use Rattle.execution_laws.proofs.ActsCalledLemmas.{first_called, later_called}
use Rattle.execution_laws.proofs.ApartLemmas.{IsOf, apart, called_from}
use Rattle.execution_laws.proofs.BodyLemmas.{Follows, behind_here, follows-all, follows-next, follows-rest, not_again, only_here}
use Rattle.execution_laws.proofs.CalledLemmas.{called-append, called-execution}
use Rattle.execution_laws.proofs.EventLemmas.{events-append}
use Rattle.execution_laws.proofs.InsideLemmas.{behind-more}
use Rattle.execution_laws.proofs.PlaceLemmas.{behind_it, within_script}
use Rattle.execution_laws.proofs.ScriptLemmas.{inline_no_stop}
use Rattle.execution_laws.proofs.StateLemmas.{IsBehind, acts_in}
use Rattle.book_context.specs.Bound.{most_events}
use Rattle.reactor_turns.proofs.SummingLemmas.{one_if, summed, summed-less, weigh, weigh-either, weigh-more, weigh-same}

-- the events of a call
call_events : {X : Type 0} (b : Bool) (first second : X) (rest : List X) →
    length (cond b (first ∷ second ∷ rest) (first ∷ rest)) ≡ 1 + one_if b + length rest
call_events true first second rest = omega arith
call_events false first second rest = omega arith

-- the events of an act that is called: its call and return, that a stop act stops, and its own begin and end
abbrev pub shown_by : ScriptModel → ℕ → ℕ
shown_by script n = 2 + one_if (stops script n) + 2 * one_if (is_inline script n)

shown-most : (script : ScriptModel) (n : ℕ) → shown_by script n ≤ 4
shown-most script n = by_inline (is_inline script n) refl (stops script n) refl
  where
    by_inline : (inline : Bool) → is_inline script n ≡ inline → (stop : Bool) → stops script n ≡ stop →
        2 + one_if (stops script n) + 2 * one_if (is_inline script n) ≤ 4
    by_inline true is true stop = absurd (let wrong : true ≡ false = sym stop ∙ inline_no_stop script n is in cc)
    by_inline true is false stop = let one = ap one_if is in let two = ap one_if stop in omega (arith, one, two)
    by_inline false is true stop = let one = ap one_if is in let two = ap one_if stop in omega (arith, one, two)
    by_inline false is false stop = let one = ap one_if is in let two = ap one_if stop in omega (arith, one, two)

few_shown : (called : Bool) (shown : ℕ) → shown ≤ 4 → cond called shown 0 ≤ 4
few_shown true shown few = few
few_shown false shown few = omega arith

summed-four : (n : ℕ) → summed (λ m. 4) n ≡ 4 * n
summed-four zero = refl
summed-four (suc n) = let rest = summed-four n in omega (arith, rest)

-- the events of an execution
pub execution_events : (script : ScriptModel) (op : ℕ) (given : Code) (size begun mark : ℕ) (body : List Posted) →
    length (events_of script (execution_of op given size begun mark body)) ≡ length (events_of script body) + 2
execution_events script op given size begun mark body =
    let end : List Posted = posted.End op (record { mark = mark; class = class_of_code given; begun = begun }) ∷ [] in
    let parts =
    ap length (events-append script body end) ∙ length-append (events_of script body) (events_of script end) in
    omega (arith, parts)

module _ (script : ScriptModel) (well : IsWellFormed script) (HasMark : Call → ℕ → Type 0) where
  -- what a body calls comes after its operation
  behind_by : (place : Place) {acts : List ℕ} {calls : List Posted} → AreCalls script HasMark acts calls →
      ((n : ℕ) → IsOf n acts → IsBehind place n) → (fuel n : ℕ) → n < fuel → is_called n calls ≡ true → IsBehind place n
  behind_by place are own zero n less is = absurd (omega (arith, less))
  behind_by place are own (suc fuel) n less is = elim (called_from script well HasMark are n is) [
    | inl of ↦ own n of
    | inr under ↦
        let before : under.parent < n =
        (subst (HasParent script.acts n) under.is_parent (has_parent script n well)).0 in
        behind-more place under.parent n
        (behind_by place are own fuel under.parent (omega (arith, less, before)) under.called) before
  ]

  module _ (place : Place) (k a : ℕ) (acts : List ℕ) (follows : Follows script well place k (a ∷ acts)) where
    own_here : (n : ℕ) → IsOf n (a ∷ []) → IsBehind place n
    own_here n (zero, is) = behind_it script well place n k (follows-next script well place k a acts follows ∙ is)
    own_here n (suc i, is) = absurd (cc)

    own_there : (n : ℕ) → IsOf n acts → IsBehind place n
    own_there n (i, is) = behind_it script well place n (k + suc i) (follows.each (suc i) n is)

    -- an act and the acts behind it call no act twice
    parted : {xs ys : List Posted} → AreCalls script HasMark (a ∷ []) xs → AreCalls script HasMark acts ys → (n : ℕ) →
        is_called n xs ≡ true → is_called n ys ≡ true → ⊥
    parted one others =
        apart script well HasMark place one others (λ n of. only_here script well place k a acts n follows of)
        (λ n of. behind_here script well place k a acts n follows of)
        (λ n of again. not_again script well place k a acts n follows of again)
        (λ n is. behind_by place one own_here (suc n) n (omega arith) is)
        (λ n is. behind_by place others own_there (suc n) n (omega arith) is)

  -- of each act that is called its own events
  pub bounded : (place : Place) {acts : List ℕ} {calls : List Posted} → AreCalls script HasMark acts calls → (k : ℕ) →
      Follows script well place k acts →
      length (events_of script calls) ≤ weigh (shown_by script) (λ n. is_called n calls) (length script.acts)
  bounded place no_act k follows = omega arith
  bounded place (outside {act} {acts} {calls} isnt more) k follows =
      let all : ℕ = length script.acts in
      let itself : is_called act (posted.Call act ∷ posted.Back act ∷ []) ≡ true = first_called act act false refl in
      let alone : is_called act calls ≡ false =
      false_from_ne_true (is_called act calls) (parted place k act acts follows (outside isnt no_act) more act itself) in
      let within : act < all =
      within_script script well place act k (follows-next script well place k act acts follows) in
      let one = weigh-more (shown_by script) act all (λ n. is_called n calls) within alone in
      let rest = bounded place more (k + 1) (follows-rest script well place k act acts follows) in
      let head =
      call_events (stops script act) (event.Call act) (event.Stop (Some act)) (event.Back act ∷ events_of script calls) in
      omega (arith, one, rest, head)
  bounded place (inside {act} {begun} {mark} {acts} {body} {calls} is marked inner more) k follows =
      let all : ℕ = length script.acts in
      let execution : List Posted = execution_of act code.Ok 0 begun mark body in
      let behind : List Posted = execution ++ posted.Back act ∷ calls in
      let first : List Posted = posted.Call act ∷ (execution ++ posted.Back act ∷ []) in
      let at = follows-next script well place k act acts follows in
      let within : act < all = within_script script well place act k at in
      let in_first = λ (n : ℕ) (called : is_called n body ≡ true).
      later_called act n (is_called n (execution ++ posted.Back act ∷ []))
      (called-append n execution (posted.Back act ∷ [])
      ∙ (ap (λ b. b || false) (called-execution n act code.Ok 0 begun mark body) ∙ ap (λ b. b || false) called)) in
      let never = λ (n : ℕ) (called : is_called n body ≡ true) (again : is_called n calls ≡ true).
      parted place k act acts follows (inside is marked inner no_act) more n (in_first n called) again in
      let itself : is_called act first ≡ true =
      first_called act act (is_called act (execution ++ posted.Back act ∷ [])) refl in
      let not_after : is_called act calls ≡ false =
      false_from_ne_true (is_called act calls)
      (parted place k act acts follows (inside is marked inner no_act) more act itself) in
      let own = λ (n : ℕ) (of : IsOf n (branch_of script act class.Ok)).
      behind_it script well (Some (act, class.Ok)) n of.0 of.1 in
      let not_inside : is_called act body ≡ false =
      false_from_ne_true (is_called act body)
      (λ called.
      let later : act < act = behind_by (Some (act, class.Ok)) inner own (suc act) act (omega arith) called in
      absurd (omega (arith, later))) in
      let parts = λ (n : ℕ).
      called-append n execution (posted.Back act ∷ calls)
      ∙ ap (λ b. b || is_called n calls) (called-execution n act code.Ok 0 begun mark body) in
      let alone : is_called act behind ≡ false =
      parts act ∙ (ap (λ b. b || is_called act calls) not_inside ∙ not_after) in
      let one : weigh (shown_by script) (λ n. is_called n (posted.Call act ∷ behind)) all
      ≡ shown_by script act + weigh (shown_by script) (λ n. is_called n behind) all =
      weigh-more (shown_by script) act all (λ n. is_called n behind) within alone in
      let two : weigh (shown_by script) (λ n. is_called n behind) all
      ≡ weigh (shown_by script) (λ n. is_called n body) all + weigh (shown_by script) (λ n. is_called n calls) all =
      weigh-same (shown_by script) (λ n. is_called n behind) (λ n. is_called n body || is_called n calls) all parts
      ∙ weigh-either (shown_by script) (λ n. is_called n body) (λ n. is_called n calls) all never in
      let in_body = bounded (Some (act, class.Ok)) inner 0 (follows-all script well (Some (act, class.Ok))) in
      let rest = bounded place more (k + 1) (follows-rest script well place k act acts follows) in
      let run = execution_events script act code.Ok 0 begun mark body in
      let joint =
      ap length (events-append script execution (posted.Back act ∷ calls))
      ∙ length-append (events_of script execution) (events_of script (posted.Back act ∷ calls)) in
      let head : length (events_of script (posted.Call act ∷ behind)) ≡ suc (length (events_of script behind)) =
      ap (λ b.
      length (cond b (event.Call act ∷ event.Stop (Some act) ∷ events_of script behind)
      (event.Call act ∷ events_of script behind))) (inline_no_stop script act is) in
      let shows = ap (λ b. 2 + one_if (stops script act) + 2 * one_if b) is in
      omega (arith, one, two, in_body, rest, run, joint, head, shows)

  -- of a whole body
  pub bounded_body : (place : Place) {calls : List Posted} → AreCalls script HasMark (acts_in script place) calls →
      length (events_of script calls) ≤ weigh (shown_by script) (λ n. is_called n calls) (length script.acts)
  bounded_body place are = bounded place are 0 (follows-all script well place)

  bounded_all : (place : Place) {calls : List Posted} → AreCalls script HasMark (acts_in script place) calls →
      length (events_of script calls) ≤ 4 * length script.acts
  bounded_all place {calls} are =
      let some = bounded_body place are in
      let most =
      summed-less (λ n. cond (is_called n calls) (shown_by script n) 0) (λ n. 4) (length script.acts)
      (λ n. few_shown (is_called n calls) (shown_by script n) (shown-most script n)) in
      let all = summed-four (length script.acts) in
      omega (arith, some, most, all)

pub bounded_opening : (script : ScriptModel) (calls : List Posted) → IsWellFormed script →
    AreCalls script AnyMark (opening_of script) calls → length (events_of script calls) ≤ most_events script
bounded_opening script calls well are = let most = bounded_all script well AnyMark None are in omega (arith, most)

pub bounded_execution : (script : ScriptModel) (op : ℕ) (given : Code) (size : ℕ) (calls : List Posted) →
    IsWellFormed script → IsWholeExecution script AnyMark op given size calls →
    length (events_of script calls) ≤ most_events script
bounded_execution script op given size calls well whole =
    let most = bounded_all script well AnyMark (Some (op, class_of_code given)) whole.acts in
    let run = execution_events script op given size whole.begun whole.mark whole.body in
    let same : length (events_of script calls)
    ≡ length (events_of script (execution_of op given size whole.begun whole.mark whole.body)) =
    ap (λ calls. length (events_of script calls)) whole.is in
    omega (arith, most, run, same)
