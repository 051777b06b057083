-- The calls of `open`, one after another.
use Rattle.std.proofs.Common.{◌≡◌, ℕ, ◌+◌, ◌<◌, ◌≤◌, List, [], ◌∷◌, ◌++◌, length, sym, ap, subst, ◌∙◌, arith}
use Rattle.std.specs.Prelude.{get_or, slice_get, sum_by, take}
use Rattle.std.proofs.lemmas.List.{append_assoc, take_all, take_more}
use Rattle.std.proofs.lemmas.Option.{slice_get-get_or}
use Rattle.std.proofs.lemmas.List.Sums.{sum_by_more, sum_by-take-le}
use Rattle.session_script.specs.Script.{ScriptModel, opening_of}
use Rattle.strand_core.specs.declared.posted.Posted.{Posted}
use Rattle.strand_core.specs.declared.posted.Posted.TheVariants as posted
use Rattle.strand_core.specs.Execution.{events_of}
use Rattle.lane_logs.specs.Labels.{none_drawn}
use Rattle.lane_logs.specs.Calls.{called_each}
use Rattle.lane_logs.specs.Stand.{draws_of_call, first_stand}
use Rattle.lane_logs.proofs.OpeningLemmas.{called-append, called_sum, drawn_by, opening_known}
use Rattle.lane_turns.specs.Pens.{HasDrawnCall, HasDrawnCalls, MayGo, PenView}
use Rattle.lane_turns.proofs.DrawnLemmas.{AreSized, all_sized}
use Rattle.lane_turns.proofs.PenLemmas.{drawn_call, gone_nowhere, may_go_on}
use Rattle.lane_turns.proofs.PostingLemmas.{sized}

-- the first i of some acts were called
module _ (script : ScriptModel) (acts : List ℕ) (i : ℕ) (start now : PenView)
    (far : HasDrawnCalls script (called_each (take i acts)) start now) where
  -- there is room for the next one
  pub next_room : (less : i < length acts) →
      MayGo start (sum_by (draws_of_call script) acts) (sum_by (draws_of_call script) acts) →
      MayGo now (length (events_of script (posted.Call (get_or acts i 0) ∷ [])) + 1) 1
  next_room less may =
      let size : AreSized script (called_each (take i acts)) far.labels = all_sized script far.drawn in
      let drawn : length (events_of script (called_each (take i acts)))
      ≡ sum_by (draws_of_call script) (take i acts) =
      called_sum script (take i acts) in
      let more : sum_by (draws_of_call script) (take (i + 1) acts)
      ≡ sum_by (draws_of_call script) (take i acts) + draws_of_call script (get_or acts i 0) =
      sum_by_more (draws_of_call script) acts i 0 less in
      let most : sum_by (draws_of_call script) (take (i + 1) acts) ≤ sum_by (draws_of_call script) acts =
      sum_by-take-le (draws_of_call script) acts (i + 1) in
      let here : length (events_of script (posted.Call (get_or acts i 0) ∷ [])) + 1
      ≡ draws_of_call script (get_or acts i 0) =
      drawn_by script (get_or acts i 0) in
      may_go_on far.labels _ _ _ _ start now far.gone may (omega (arith, size.entries, drawn, more, most, here))
      (omega (arith, size.draws, drawn, more, most, here)) (omega (arith, size.places, drawn, more, most, here))

  -- and it was called
  pub next_called : (less : i < length acts) (called back : PenView) →
      HasDrawnCall script (posted.Call (get_or acts i 0)) now called →
      HasDrawnCall script (posted.Back (get_or acts i 0)) called back →
      HasDrawnCalls script (called_each (take (i + 1) acts)) start back
  next_called less called back first second =
      let act : ℕ = get_or acts i 0 in
      let before : List Posted = called_each (take i acts) in
      let same : (before ++ posted.Call act ∷ []) ++ posted.Back act ∷ [] ≡ called_each (take (i + 1) acts) =
      append_assoc before (posted.Call act ∷ []) (posted.Back act ∷ [])
      ∙ sym (called-append (take i acts) (act ∷ [])) ∙ ap called_each (sym (take_more acts i 0 less)) in
      subst (λ calls. HasDrawnCalls script calls start back) same
      (drawn_call script (before ++ posted.Call act ∷ []) (posted.Back act) start called back
      (drawn_call script before (posted.Call act) start now called far first) second)

  -- there is room for its back
  pub back_room : (act : ℕ) (called : PenView) → HasDrawnCall script (posted.Call act) now called →
      MayGo now (length (events_of script (posted.Call act ∷ [])) + 1) 1 → MayGo called 1 0
  back_room act called drawn may =
      let size = sized script (posted.Call act) drawn.labels drawn.drawn in
      may_go_on drawn.labels _ _ 1 0 now called drawn.gone may (omega (arith, size.entries)) (omega (arith, size.draws))
      (omega (arith, size.places))

-- the next act is one of the script
pub next_known : (script : ScriptModel) (acts : List ℕ) (i : ℕ) → acts ≡ opening_of script → i < length acts →
    get_or acts i 0 < length script.acts
next_known script acts i same less =
    opening_known script i (get_or acts i 0)
    (ap (λ xs. slice_get xs i) (sym same) ∙ slice_get-get_or acts i 0 less)

-- and in the end all were called
pub all_called : (script : ScriptModel) (acts : List ℕ) (i : ℕ) (start now : PenView) → acts ≡ opening_of script →
    length acts ≤ i → HasDrawnCalls script (called_each (take i acts)) start now →
    HasDrawnCalls script (called_each (opening_of script)) start now
all_called script acts i start now same past far =
    subst (λ calls. HasDrawnCalls script (called_each calls) start now) (take_all i acts past ∙ same) far

pub none_called : (script : ScriptModel) (pen : PenView) → HasDrawnCalls script [] pen pen
none_called script pen = record { labels = []; drawn = none_drawn; gone = gone_nowhere pen }

-- the room for all of them
pub opening_room : (script : ScriptModel) (acts : List ℕ) (pen : PenView) → acts ≡ opening_of script →
    MayGo pen (first_stand script).opening (first_stand script).opening →
    MayGo pen (sum_by (draws_of_call script) acts) (sum_by (draws_of_call script) acts)
opening_room script acts pen same may =
    subst (λ xs. MayGo pen (sum_by (draws_of_call script) xs) (sum_by (draws_of_call script) xs)) (sym same) may
