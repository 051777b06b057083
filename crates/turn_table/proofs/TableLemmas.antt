-- The rule of turns holds of a table as it is made, and says what lies in it at the end.
use Rattle.std.proofs.Common.{◌≡◌, ℕ, ◌+◌, ◌<◌, List, [], ◌∷◌, ◌++◌, None, map, length, replicate, get_or, sym, refl, ap, ◌∙◌, subst, ⊎_elim, inr, arith}
use Rattle.std.proofs.lemmas.Bool.{true≢false}
use mathlib.Core.Option.{some, some-injective}
use lib.ListN.{get_elem?, length-replicate, get_or-replicate}
use Rattle.atomic_table.specs.Table.{opening, Final, Seen}
use Rattle.turn_table.specs.declared.place.TablePlace.{TablePlace}
use Rattle.turn_table.specs.declared.place.TablePlace.TheVariants.{Empty, Value, Room}
use Rattle.turn_table.specs.declared.place.Sizes.{Sizes}
use Rattle.turn_table.specs.declared.place.TurnView.{TurnView as V}
use Rattle.turn_table.specs.Laid.{AreBare, IsVacant, IsWhole}
use Rattle.turn_table.specs.Numbers.{has, Has}
use Rattle.turn_table.specs.TurnRule.{TurnRule}
use Rattle.turn_table.specs.TurnSteps.{first_view}
use Rattle.turn_table.proofs.LaidLemmas.{at_bare, at_last, count_of}
use Rattle.turn_table.proofs.NumberLemmas.{below-bound, has_below, has_run, run-bounds}
use Rattle.turn_table.proofs.ListLemmas.{alone}
use Rattle.turn_table.proofs.PastLemmas.{taken_first, takings, takings_miss, takings_right}

module _ {T : Type 0} (home_of : T → ℕ) (sizes : Sizes) where
  -- the table as it is made
  pub opens : (words : List ℕ) (slots : List (TablePlace T)) → 0 < sizes.seats →
      words ≡ replicate (sizes.lanes + 1) 1 → AreBare sizes.lanes slots →
      TurnRule home_of sizes (opening words slots (first_view sizes))
  opens words slots some_seats ones bare =
      let first = first_view sizes in
      let are : map (λ (p : TablePlace T). some p) slots
      ≡ map (λ (p : TablePlace T). some p) (replicate sizes.lanes Empty ++ Room bare.room ∷ []) =
      ap (map (λ (p : TablePlace T). some p)) bare.are in
      let one : (lane : ℕ) → lane < sizes.lanes → get_or words lane 0 ≡ 1 =
      λ lane l. ap (λ ws. get_or ws lane 0) ones ∙ get_or-replicate (sizes.lanes + 1) lane 1 0 (omega arith) in
      record {
        holder = λ _. 0;
        owner = λ _. 0;
        words = ap length ones ∙ length-replicate (sizes.lanes + 1) 1;
        slots = ap length are ∙ count_of sizes.lanes (Room bare.room);
        each_lane = λ lane l. inr record {
          word = one lane l;
          view = first;
          seated = refl;
          turn = has_below lane sizes.lanes l;
          at_rest = λ _. ap (λ hs. get_elem? hs lane) are ∙ at_bare sizes.lanes lane (Room bare.room) l;
          in_hand = λ e. absurd (cc e);
        };
        each_turn = λ seat lane u there turn.
            let p = alone first seat u there in
            let l = below-bound lane sizes.lanes (ap (λ (z : V). has lane z.turns) p.1 ∙ turn) in
            (l, one lane l, p.0);
        each_number = λ n l. (first, refl, has_run n 0 sizes.seats (omega arith) (omega arith));
        one_owner = λ seat n u there h.
            let p = alone first seat u there in
            let b = run-bounds n 0 sizes.seats (ap (λ (z : V). has n z.numbers) p.1 ∙ h) in
            (let b' = b.1 in omega arith, p.0);
        stands = λ seat lane u there turn.
            let p = alone first seat u there in
            (0, subst (λ (z : V). Has z.numbers 0) p.1 (has_run 0 0 sizes.seats (omega arith) (omega arith)));
        past = takings sizes.lanes;
        came =
            record {
              right = takings_right sizes.lanes;
              held = λ lane l e. taken_first sizes.lanes lane l;
              free = λ lane l e. absurd (let one' = one lane l in omega arith);
              misses = λ seat n u there _.
                  ap (λ (z : V). z.misses) (sym (alone first seat u there).1) ∙ sym (takings_miss sizes.lanes seat);
              unborn = λ seat _. takings_miss sizes.lanes seat;
            };
        room = bare.room;
        is_room = bare.is_room;
        kept = ap (λ hs. get_elem? hs sizes.lanes) are ∙ at_last sizes.lanes (Room bare.room);
      }

  -- what lies in the slots at the end, where one seat stands for all numbers and has no turn
  pub closes : (id : ℕ) (v : V) (words : List ℕ) (slots : List (TablePlace T)) →
      Final (Seen (TurnRule home_of sizes) id v) words slots →
      ((n : ℕ) → n < sizes.seats → Has v.numbers n) → v.turns ≡ [] → IsWhole home_of sizes.lanes slots
  closes id v words slots end all no_turn = let s = end.0 in let r = end.1.0 in let at = end.1.1 in record {
    each = λ lane l. ⊎_elim (λ f. (f.value, f.home, end.4 lane (Value f.value) f.slot))
        (λ h.
        let o = r.stands (r.holder lane) lane h.view h.seated h.turn in
        let one = r.one_owner (r.holder lane) o.0 h.view h.seated o.1 in
        let e : r.holder lane ≡ id = one.1 ∙ sym (r.one_owner id o.0 v at (all o.0 one.0)).1 in
        let same : h.view ≡ v = some-injective h.view v (sym h.seated ∙ (ap (get_elem? s.views) e ∙ at)) in
        absurd (true≢false (sym h.turn ∙ (ap (λ (z : V). has lane z.turns) same ∙ ap (has lane) no_turn))))
        (r.each_lane lane l);
    room = r.room;
    is_room = r.is_room;
    last = end.4 sizes.lanes (Room r.room) r.kept;
  }

  -- and where one seat has all turns
  pub closes_bare : (id : ℕ) (v : V) (words : List ℕ) (slots : List (TablePlace T)) →
      Final (Seen (TurnRule home_of sizes) id v) words slots →
      ((n : ℕ) → n < sizes.lanes → Has v.turns n) → v.hand ≡ None → IsVacant sizes.lanes slots
  closes_bare id v words slots end all none = let s = end.0 in let r = end.1.0 in let at = end.1.1 in record {
    each = λ lane l.
        let mine = r.each_turn id lane v at (all lane l) in
        ⊎_elim (λ f. absurd (let free = f.word in let held = mine.1 in omega arith))
        (λ h.
        let same : h.view ≡ v =
        some-injective h.view v (sym h.seated ∙ (ap (get_elem? s.views) (sym mine.2) ∙ at)) in
        end.4 lane Empty (h.at_rest (λ e. absurd (cc (sym e ∙ ap (λ (z : V). z.hand) same ∙ none)))))
        (r.each_lane lane l);
    room = r.room;
    is_room = r.is_room;
    last = end.4 sizes.lanes (Room r.room) r.kept;
  }
