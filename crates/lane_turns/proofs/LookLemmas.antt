-- The opener's looks at the next cells of all lanes, and what they bear out.
use Rattle.std.proofs.Common.{◌≡◌, ⊎_elim, ℕ, ◌+◌, ◌<◌, ◌≤◌, Bool, true, false, cond, List, [], ◌∷◌, ◌++◌, Some, None, length, refl, sym, ap, subst, ◌∙◌, arith}
use Rattle.std.specs.Prelude.{Contains, map, nat_lt, slice_index}
use Rattle.std.proofs.lemmas.Bool.{ltb-false}
use Rattle.std.proofs.lemmas.List.{append-nil, map-append}
use Rattle.std.proofs.lemmas.List.Elements.{Contains-append_left, Contains-push}
use Rattle.session_script.specs.Script.{ScriptModel}
use Rattle.lane_clock.specs.declared.found.Found.{Found}
use Rattle.lane_clock.specs.declared.note.Note.{Note}
use Rattle.lane_clock.specs.declared.step.ClockStep.TheVariants.{Load, Look}
use Rattle.lane_map.specs.LaneNumbers.{cells_of}
use Rattle.lane_logs.specs.Labels.{shows, silent}
use Rattle.lane_logs.specs.OpenerLog.{Looked, closing_change, look_label}
use Rattle.lane_logs.specs.Parts.{looks_empty, looks_full}
use Rattle.lane_turns.specs.declared.closing.Closing.{Closing}
use Rattle.lane_turns.specs.declared.standing.RoundNow.{RoundNow}
use Rattle.lane_turns.specs.Closing.{HasSeen, HasWeighed, HaveLooked, Weighs, closing_event}
use Rattle.lane_turns.specs.OpenerEvents.{closing_labels, weighing_labels}
use Rattle.lane_turns.specs.Pens.{HasGone, PenView}
use Rattle.lane_turns.proofs.AttendingLemmas.{at_or_before}
use Rattle.lane_turns.proofs.PenLemmas.{gone_nowhere, gone_on}

pub none_looked : (script : ScriptModel) (places : List ℕ) (pen : PenView) → HaveLooked script places 0 pen pen
none_looked script places pen =
    record { looks = []; gone = gone_nowhere pen; empty = λ lane less at. absurd (omega (arith, less)) }

-- looks, and one more
pub look_more : (looks : List Looked) (looked : Looked) (a b c : PenView) → HasGone (map look_label looks) a b →
    HasGone (look_label looked ∷ []) b c → HasGone (map look_label (looks ++ looked ∷ [])) a c
look_more looks looked a b c first second =
    subst (λ labels. HasGone labels a c) (sym (map-append look_label looks (looked ∷ [])))
    (gone_on (map look_label looks) (look_label looked ∷ []) a b c first second)

module _ (script : ScriptModel) (places : List ℕ) (i lane place : ℕ) (a b c : PenView) (number : lane ≡ i)
    (next : place ≡ slice_index places i) (before : HaveLooked script places i a b) where
  -- a lane whose next cell was empty, or that has none
  pub more_looked : HasGone (looks_empty script lane place) b c → HaveLooked script places (i + 1) a c
  more_looked = by_test (nat_lt place (slice_index (cells_of script) lane)) refl
    where
      by_test : (there : Bool) → nat_lt place (slice_index (cells_of script) lane) ≡ there →
          HasGone (cond there (silent (Look lane place None) ∷ []) []) b c → HaveLooked script places (i + 1) a c
      by_test true is gone =
          record {
            looks = before.looks ++ record { lane = lane; place = place; held = None } ∷ [];
            gone = look_more before.looks (record { lane = lane; place = place; held = None }) a b c before.gone gone;
            empty =
                λ at less cell.
                ⊎_elim
                (λ (earlier : at < i).
                Contains-append_left before.looks (record { lane = lane; place = place; held = None } ∷ [])
                (record { lane = at; place = slice_index places at; held = None }) (before.empty at earlier cell))
                (λ (here : at ≡ i).
                let same : at ≡ lane = here ∙ sym number in
                let where_ : slice_index places at ≡ place = ap (slice_index places) here ∙ sym next in
                let it : (let l : Looked = record { lane = lane; place = place; held = None } in l)
                ≡ record { lane = at; place = slice_index places at; held = None } =
                ap (λ n. record { lane = n; place = place; held = None }) (sym same)
                ∙ ap (λ n. record { lane = at; place = n; held = None }) (sym where_) in
                subst (Contains (before.looks ++ record { lane = lane; place = place; held = None } ∷ [])) it
                (Contains-push before.looks (record { lane = lane; place = place; held = None })))
                (at_or_before at i less);
          }
      by_test false is gone =
          record {
            looks = before.looks;
            gone = subst (λ labels. HasGone labels a c) (sym none) (gone_on (map look_label before.looks) [] a b c before.gone gone);
            empty =
                λ at less cell.
                ⊎_elim (λ (earlier : at < i). before.empty at earlier cell)
                (λ (here : at ≡ i).
                let same : at ≡ lane = here ∙ sym number in
                let where_ : slice_index places at ≡ place = ap (slice_index places) here ∙ sym next in
                let past : slice_index (cells_of script) lane ≤ place = ltb-false place (slice_index (cells_of script) lane) is in
                absurd (omega (arith, cell, where_, past, ap (slice_index (cells_of script)) same)))
                (at_or_before at i less);
          }
        where
          none : map look_label before.looks ≡ map look_label before.looks ++ []
          none = sym (append-nil (map look_label before.looks))

  -- a lane whose next cell holds a note
  pub seen_full : (note : Note) → HasGone (looks_full lane place note) b c → HasSeen a c
  seen_full note gone =
      record {
        looks = before.looks ++ record { lane = lane; place = place; held = Some note } ∷ [];
        gone = look_more before.looks (record { lane = lane; place = place; held = Some note }) a b c before.gone gone;
        saw = record {
          looked = record { lane = lane; place = place; held = Some note };
          among = Contains-push before.looks (record { lane = lane; place = place; held = Some note });
          full = refl;
        };
      }

-- without looks
pub weighed_by_load : (script : ScriptModel) (places : List ℕ) (count : ℕ) (round : RoundNow) (found : Found)
    (way : Closing) (bears : Bool) (pen : PenView) → Weighs script places count round found [] way bears →
    HasWeighed script places count round found way bears pen pen
weighed_by_load script places count round found way bears pen weighs =
    record { looks = []; gone = gone_nowhere pen; weighs = weighs }

-- a load, then what looks weigh, and the event
module _ (script : ScriptModel) (places : List ℕ) (round : RoundNow) (found : Found) (way : Closing) (bears : Bool)
    (a b c : PenView) (loaded : HasGone (silent (Load found) ∷ []) a b)
    (weighed : HasWeighed script places (length places) round found way bears b c) where
  pub weighed_gone : HasGone (weighing_labels found weighed.looks) a c
  weighed_gone =
      gone_on (silent (Load found) ∷ []) (map look_label weighed.looks) a b c loaded weighed.gone

  pub closing_gone : (drawn : Found) (d : PenView) →
      HasGone (shows (closing_event way) (closing_change (closing_event way)) drawn ∷ []) c d →
      HasGone (closing_labels found weighed.looks way drawn) a d
  closing_gone drawn d gone =
      gone_on (weighing_labels found weighed.looks)
      (shows (closing_event way) (closing_change (closing_event way)) drawn ∷ []) a c d weighed_gone gone
