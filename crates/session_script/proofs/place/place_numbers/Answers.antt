use Rattle.std.proofs.Common.{ℕ, List, [], ◌∷◌, ◌++◌, length, take, map, sym, ap, ◌∙◌}
use Rattle.std.proofs.lemmas.List.{map_more}
use Rattle.session_script.specs.declared.parts.PlacedAct.{PlacedAct}
use Rattle.session_script.specs.Groups.{place_number}
use Rattle.session_script.proofs.place.place_numbers.Goals as goal

-- the number of an entry's place among these acts
abbrev number_in : List PlacedAct → PlacedAct → ℕ
number_in acts entry = place_number (length acts) entry.parent

pub loop-entry-preserved : goal.loop-entry-preserved
loop-entry-preserved c =
    c.in_ok-push.ensures.items
    ∙ ap (λ (made : List ℕ). made ++ c.place_number.result ∷ []) c.loop-entry.invariant
    ∙ ap (λ (n : ℕ). map (number_in c.args.acts.now) (take c.loop-entry.entry-index c.args.acts.now) ++ n ∷ [])
    (c.place_number.ensures.value ∙ ap (number_in c.args.acts.now) c.entry-item.is)
    ∙ sym (map_more (number_in c.args.acts.now) c.args.acts.now c.loop-entry.entry-index c.entry-item.result
    c.loop-entry-test.true)
