-- The handlers that lanes still hold when a session is over are those of the operations that never
-- began in any log.
use Rattle.std.proofs.Common.{◌≡◌, ⊎_elim, ℕ, zero, suc, ◌<◌, ◌≤◌, Bool, true, false, List, [], ◌∷◌, None, Option, Some, length, get_or, refl, sym, ap, subst, ◌∙◌, arith}
use Rattle.std.specs.Prelude.{All, IfSome, is_some, map, not, slice_index_or, ◌&&◌, ◌||◌}
use Rattle.std.specs.List.{flat_map, list_any}
use Rattle.std.specs.Option.{option_map}
use Rattle.std.proofs.lemmas.Bool.{cases_lt, eq-eqb}
use Rattle.std.proofs.lemmas.List.{get_or-map, get_or_past, length-map}
use Rattle.std.proofs.lemmas.List.Folds.{list_any-append}
use Rattle.asio_types.specs.declared.event.Event.{Event}
use Rattle.op_handlers.specs.Marks.{Marks}
use Rattle.session_script.specs.Script.{is_op}
use Rattle.lane_map.specs.LaneNumbers.{home_lane, is_op_on, reactor_lane}
use Rattle.lane_clock.specs.Seats.{ClockId}
use Rattle.strand_core.specs.Hands.{Held, held_at}
use Rattle.lane_logs.specs.declared.log.LogEntry.{LogEntry}
use Rattle.lane_logs.specs.Labels.{events_in}
use Rattle.lane_logs.specs.LaneLog.{has_begun, is_begin_of}
use Rattle.lane_logs.specs.Names.{SessionNames}
use Rattle.lane_turns.specs.Batons.{BatonView, HaveHands, IsHandlerBaton}
use Rattle.lane_turns.specs.Discarding.{IsDiscarding, held_in, held_on, is_unrun}
use Rattle.lane_turns.specs.Pens.{no_pen}

none_first : (b c : Bool) → (b || c) ≡ false → b ≡ false
none_first true c is = absurd (cc is)
none_first false c is = refl

none_second : (b c : Bool) → (b || c) ≡ false → c ≡ false
none_second true c is = absurd (cc is)
none_second false c is = is

-- what no log shows this one doesn't
none_in : (test : Event → Bool) (logs : List (List LogEntry)) (k : ℕ) →
    list_any test (flat_map events_in logs) ≡ false → list_any test (events_in (get_or logs k [])) ≡ false
none_in test [] k is = refl
none_in test (log ∷ logs) zero is =
    none_first (list_any test (events_in log)) (list_any test (flat_map events_in logs))
    (sym (list_any-append test (events_in log) (flat_map events_in logs)) ∙ is)
none_in test (log ∷ logs) (suc k) is =
    none_in test logs k
    (none_second (list_any test (events_in log)) (list_any test (flat_map events_in logs))
    (sym (list_any-append test (events_in log) (flat_map events_in logs)) ∙ is))

unrun_parts : (a c : Bool) → (a && not c) ≡ true → (a ≡ true) × (c ≡ false)
unrun_parts true false is = (refl, refl)
unrun_parts true true is = absurd (cc is)
unrun_parts false c is = absurd (cc is)

none_of : {H : Type 0} (o : Option H) → is_some o ≡ false → o ≡ None
none_of None is = refl
none_of (Some h) is = absurd (cc is)

some_of : {H : Type 0} (o : Option H) → is_some o ≡ true → (h : H) × (o ≡ Some h)
some_of None is = absurd (cc is)
some_of (Some h) is = (h, refl)

module _ {H : Type 0} (names : SessionNames) (marks : H → Marks) (clock : ClockId) (batons : List (BatonView H))
    (logs : List (List LogEntry)) (are : All (λ baton. IsHandlerBaton names marks clock baton) batons)
    (size : length batons ≡ reactor_lane names.script)
    (numbers : (k : ℕ) (d : BatonView H) → k < length batons → (get_or batons k d).lane.lane ≡ k)
    (there : (k : ℕ) (d : BatonView H) → k < length batons →
    get_or logs k [] ≡ (get_or batons k d).lane.pen.log)
    (homes : (n : ℕ) → is_op names.script n ≡ true → home_lane names.script n < reactor_lane names.script) where
  abbrev hands : List (Option (Held H))
  hands = map (λ (baton : BatonView H). Some baton.hands) batons

  abbrev none_baton : BatonView H
  none_baton =
      record {
        lane = record { lane = 0; pen = no_pen; place = 0; base = 0; running = false; missed = None };
        hands = record { script = names.script; handlers = [] };
      }

  hands_here : (k : ℕ) → k < length batons → slice_index_or hands k None ≡ Some (get_or batons k none_baton).hands
  hands_here k less = get_or-map (λ (baton : BatonView H). Some baton.hands) batons k none_baton None less

  hands_past : (k : ℕ) → length batons ≤ k → slice_index_or hands k None ≡ None
  hands_past k past =
      get_or_past hands k None
      (omega (arith, past, length-map batons (λ (baton : BatonView H). Some baton.hands)))

  have : (k : ℕ) → k < length batons →
      HaveHands names marks k (get_or batons k none_baton).lane.pen.log (get_or batons k none_baton).hands
  have k less =
      subst (λ lane.
      HaveHands names marks lane (get_or batons k none_baton).lane.pen.log (get_or batons k none_baton).hands)
      (numbers k none_baton less) (are k none_baton less).hold

  script_here : (k : ℕ) → IfSome (slice_index_or hands k None) (λ own. own.script ≡ names.script)
  script_here k =
      ⊎_elim
      (λ (less : k < length batons).
      subst (λ (o : Option (Held H)). IfSome o (λ own. own.script ≡ names.script)) (sym (hands_here k less))
      (have k less).script)
      (λ (past : length batons ≤ k).
      subst (λ (o : Option (Held H)). IfSome o (λ own. own.script ≡ names.script)) (sym (hands_past k past)) tt)
      (cases_lt k (length batons))

  placed_here : (k op : ℕ) → is_op_on names.script k op ≡ false → held_on hands k op ≡ None
  placed_here k op none =
      ⊎_elim
      (λ (less : k < length batons).
      ap (λ o. held_in o op) (hands_here k less)
      ∙ none_of (held_at (get_or batons k none_baton).hands op)
      ((have k less).held op
      ∙ ap (λ b. b && not (has_begun op (events_in (get_or batons k none_baton).lane.pen.log))) none))
      (λ (past : length batons ≤ k). ap (λ o. held_in o op) (hands_past k past))
      (cases_lt k (length batons))

  left_here : (op : ℕ) → is_unrun names (flat_map events_in logs) op ≡ true →
      option_map (λ handler. (marks handler).drop) (held_on hands (home_lane names.script op) op)
      ≡ Some (names.drop op)
  left_here op left =
      let k : ℕ = home_lane names.script op in
      let parts = unrun_parts (is_op names.script op) (has_begun op (flat_map events_in logs)) left in
      let less : home_lane names.script op < length batons = omega (arith, homes op parts.0, size) in
      let on : is_op_on names.script (home_lane names.script op) op ≡ true =
      rw parts.0 (eq-eqb (home_lane names.script op) (home_lane names.script op) refl) in
      let begun : has_begun op (events_in (get_or batons (home_lane names.script op) none_baton).lane.pen.log) ≡ false =
      ap (λ log. has_begun op (events_in log)) (sym (there (home_lane names.script op) none_baton less))
      ∙ none_in (λ event. is_begin_of op event) logs (home_lane names.script op) parts.1 in
      let held : is_some (held_at (get_or batons (home_lane names.script op) none_baton).hands op) ≡ true =
      (have (home_lane names.script op) less).held op
      ∙ ap (λ b. b && not (has_begun op (events_in (get_or batons (home_lane names.script op) none_baton).lane.pen.log))) on
      ∙ ap not begun in
      let found = some_of (held_at (get_or batons (home_lane names.script op) none_baton).hands op) held in
      let mark : option_map (λ (handler : H). (marks handler).drop)
      (held_at (get_or batons (home_lane names.script op) none_baton).hands op) ≡ Some (marks found.0).drop =
      ap (option_map (λ (handler : H). (marks handler).drop)) found.1 in
      ap (λ o. option_map (λ (handler : H). (marks handler).drop) (held_in o op)) (hands_here (home_lane names.script op) less)
      ∙ mark ∙ ap Some ((have (home_lane names.script op) less).drop op (marks found.0).drop mark)

  -- nothing was destroyed yet
  pub none_discarded : IsDiscarding names marks (flat_map events_in logs) 0 hands []
  none_discarded =
      record {
        count = length-map batons (λ (baton : BatonView H). Some baton.hands) ∙ size;
        script = script_here;
        spent = λ lane op less. absurd (omega arith);
        placed = placed_here;
        left = λ op later left. left_here op left;
        noted = refl;
      }
