-- Where the parts of a lane's log have come to at a step: what is left of the execution that it is in.
use Rattle.std.proofs.Common.{◌≡◌, ℕ, zero, suc, ◌+◌, ◌-◌, ◌<◌, ◌≤◌, Bool, true, false, cond, List, [], ◌∷◌, ◌++◌, inl, inr, length, drop, refl, sym, ap, ◌∙◌, arith, length-append, le-ltb, lt-ltb}
use Rattle.std.specs.Prelude.{nat_lt}
use Rattle.std.proofs.lemmas.Bool.{cases_lt}
use Rattle.asio_types.specs.declared.event.Event.{Event}
use Rattle.session_script.specs.Script.{ScriptModel}
use Rattle.lane_clock.specs.History.{ClockEvent, steps_under}
use Rattle.lane_logs.specs.Labels.{Labelled, entries_in, events_in}
use Rattle.lane_logs.specs.Logs.{LogsView}
use Rattle.lane_logs.specs.Names.{SessionNames}
use Rattle.lane_logs.specs.Parts.{Part, executed, failed, idle, labels_in, missing, turned}
use Rattle.lane_logs.specs.SeatNumbers.{lane_count}
use Rattle.history_merge.proofs.LabellingLemmas.{AreLabels}
use Rattle.history_merge.proofs.PartLemmas.{all_made, made-append}

module _ (script : ScriptModel) (lane : ℕ) where
  -- the labels of some parts
  abbrev pub labels_to : List Part → List Labelled
  labels_to parts = all_made Part (labels_in script lane) parts

  -- The labels of an execution that are left behind so many of its part's labels: the look and the load come before its
  -- begin, and until that was shown it isn't under way
  abbrev pub left_of : Part → ℕ → List Labelled
  left_of (idle step) i = []
  left_of (executed part) i = cond (nat_lt 2 i) (drop (i - 2) part.labels) []
  left_of (turned part) i = []
  left_of (failed part) i = []
  left_of (missing place note) i = []

  -- what a part is like behind so many of its labels, where it is nothing at its beginning and at its end
  module _ {A : Type 0} (nothing : A) (of : Part → ℕ → A) where
    abbrev pub stage_in : List Part → ℕ → A
    stage_in [] k = nothing
    stage_in (part ∷ parts) k =
        cond (nat_lt (length (labels_to parts)) k) (of part (k - length (labels_to parts))) (stage_in parts k)

    module _ (first : (part : Part) → of part 0 ≡ nothing)
        (last : (part : Part) → of part (length (labels_in script lane part)) ≡ nothing) where
      longer : (later earlier : List Part) → length (labels_to earlier) ≤ length (labels_to (later ++ earlier))
      longer later earlier =
          let more = made-append Part (labels_in script lane) later earlier in
          let size : length (labels_to (later ++ earlier)) ≡ length (labels_to earlier) + length more.0 =
          ap length more.1 ∙ length-append (labels_to earlier) more.0 in
          omega (arith, size)

      with_part : (part : Part) (earlier : List Part) →
          length (labels_to (part ∷ earlier)) ≡ length (labels_to earlier) + length (labels_in script lane part)
      with_part part earlier = length-append (labels_to earlier) (labels_in script lane part)

      beyond : (part : Part) (parts : List Part) (k : ℕ) → length (labels_to parts) < k →
          stage_in (part ∷ parts) k ≡ of part (k - length (labels_to parts))
      beyond part parts k less =
          ap (λ b. cond b (of part (k - length (labels_to parts))) (stage_in parts k)) (lt-ltb (length (labels_to parts)) k less)

      before : (part : Part) (parts : List Part) (k : ℕ) → k ≤ length (labels_to parts) →
          stage_in (part ∷ parts) k ≡ stage_in parts k
      before part parts k most =
          ap (λ b. cond b (of part (k - length (labels_to parts))) (stage_in parts k)) (le-ltb (length (labels_to parts)) k most)

      at_edge : (parts : List Part) (k : ℕ) → k ≡ length (labels_to parts) → stage_in parts k ≡ nothing
      at_edge [] k is = refl
      at_edge (part ∷ parts) k is =
          let size : k ≡ length (labels_to parts) + length (labels_in script lane part) = is ∙ with_part part parts in
          elim (cases_lt (length (labels_to parts)) k) [
            | inl less ↦
                let at : k - length (labels_to parts) ≡ length (labels_in script lane part) = omega (arith, size) in
                beyond part parts k less ∙ (ap (of part) at ∙ last part)
            | inr most ↦ before part parts k most ∙ at_edge parts k (omega (arith, size, most))
          ]

      -- between two parts there is nothing
      pub stage_between : (later earlier : List Part) (k : ℕ) → k ≡ length (labels_to earlier) →
          stage_in (later ++ earlier) k ≡ nothing
      stage_between [] earlier k is = at_edge earlier k is
      stage_between (part ∷ later) earlier k is =
          let more = longer later earlier in
          before part (later ++ earlier) k (omega (arith, more, is)) ∙ stage_between later earlier k is

      in_part : (later : List Part) (part : Part) (earlier : List Part) (i k : ℕ) → 1 ≤ i →
          i ≤ length (labels_in script lane part) → k ≡ length (labels_to earlier) + i →
          stage_in (later ++ part ∷ earlier) k ≡ of part i
      in_part [] part earlier i k some within is =
          let at : k - length (labels_to earlier) ≡ i = omega (arith, is) in
          beyond part earlier k (omega (arith, some, is)) ∙ ap (of part) at
      in_part (other ∷ later) part earlier i k some within is =
          let more = longer later (part ∷ earlier) in
          let size = with_part part earlier in
          before other (later ++ part ∷ earlier) k (omega (arith, more, size, within, is))
          ∙ in_part later part earlier i k some within is

      at_start : (later : List Part) (part : Part) (earlier : List Part) (k : ℕ) → k ≡ length (labels_to earlier) →
          stage_in (later ++ part ∷ earlier) k ≡ nothing
      at_start [] part earlier k is = before part earlier k (omega (arith, is)) ∙ at_edge earlier k is
      at_start (other ∷ later) part earlier k is =
          let more = longer later (part ∷ earlier) in
          let size = with_part part earlier in
          before other (later ++ part ∷ earlier) k (omega (arith, more, size, is)) ∙ at_start later part earlier k is

      -- behind some labels of a part
      pub stage_at : (later : List Part) (part : Part) (earlier : List Part) (i k : ℕ) →
          i ≤ length (labels_in script lane part) → k ≡ length (labels_to earlier) + i →
          stage_in (later ++ part ∷ earlier) k ≡ of part i
      stage_at later part earlier zero k within is =
          at_start later part earlier k (omega (arith, is)) ∙ sym (first part)
      stage_at later part earlier (suc i) k within is = in_part later part earlier (suc i) k (omega arith) within is

  drop_all : (labels : List Labelled) → drop (length labels) labels ≡ []
  drop_all [] = refl
  drop_all (label ∷ labels) = drop_all labels

  none_left : (b : Bool) (labels : List Labelled) → labels ≡ [] → cond b labels [] ≡ []
  none_left true labels none = none
  none_left false labels none = refl

  -- nothing is left at a part's beginning and at its end
  pub left_first : (part : Part) → left_of part 0 ≡ []
  left_first (idle step) = refl
  left_first (executed part) = refl
  left_first (turned part) = refl
  left_first (failed part) = refl
  left_first (missing place note) = refl

  pub left_last : (part : Part) → left_of part (length (labels_in script lane part)) ≡ []
  left_last (idle step) = refl
  left_last (executed part) =
      let size : suc (suc (length part.labels)) - 2 ≡ length part.labels = omega arith in
      none_left (nat_lt 2 (suc (suc (length part.labels)))) (drop (suc (suc (length part.labels)) - 2) part.labels)
      (ap (λ i. drop i part.labels) size ∙ drop_all part.labels)
  left_last (turned part) = refl
  left_last (failed part) = refl
  left_last (missing place note) = refl

  abbrev pub left_behind : List Part → ℕ → List Labelled
  left_behind parts k = stage_in [] left_of parts k

module _ (names : SessionNames) (logs : LogsView) (labels : ℕ → List Labelled) (are : AreLabels names logs labels) where
  -- the parts that a lane's log is made of in the end
  abbrev pub parts_of : (lane : ℕ) → lane < lane_count names.script → List Part
  parts_of lane within = (are.lanes lane within).parts

  -- the events that are left of the execution in which a lane is, none where it is in none
  abbrev pub left_at : List ClockEvent → (lane : ℕ) → lane < lane_count names.script → List Event
  left_at es lane within =
      events_in (entries_in (left_behind names.script lane (parts_of lane within) (length (steps_under lane es))))
