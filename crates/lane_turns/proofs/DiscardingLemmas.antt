-- The handlers that are left are destroyed one after another.
use Rattle.std.proofs.Common.{◌≡◌, ◌≢◌, ℕ, zero, suc, ◌+◌, ◌<◌, ◌≤◌, Bool, true, false, cond, List, [], ◌∷◌, ◌++◌, Option, None, Some, length, get_or, refl, sym, ap, subst, ◌∙◌, arith, ne_eqb}
use Rattle.std.specs.Prelude.{IfSome, IsSome, filter, map, not, slice_index_or, slice_set, if◌then◌else◌, unwrap_or, ◌&&◌, ◌==◌}
use Rattle.std.specs.List.{range_with_len, sum_by}
use Rattle.std.specs.Option.{option_map}
use mathlib.Core.Logic.{dite}
use native.Mathlib.Decide.{ℕ_discrete}
use Rattle.std.proofs.lemmas.List.{append-nil, get_or-set_other, get_or-set_same, length-map, length-set, map-append}
use Rattle.std.proofs.lemmas.List.Elements.{filter-append}
use Rattle.std.proofs.lemmas.List.FromFn.{length-range_with_len}
use Rattle.std.proofs.lemmas.List.Sums.{count_by-le-length, length-filter, sum_by-append, sum_by-cons}
use Rattle.asio_types.specs.declared.event.Event.{Event}
use Rattle.asio_types.specs.declared.event.Event.TheVariants as event
use Rattle.op_handlers.specs.Marks.{Marks}
use Rattle.session_script.specs.Script.{ScriptModel, is_op, parent_of}
use Rattle.session_script.specs.WellFormed.{HasParent}
use Rattle.lane_map.specs.LaneNumbers.{home_lane}
use Rattle.strand_core.specs.Hands.{CallerIsGone, Held}
use Rattle.strand_core.proofs.HandLemmas.{callee_later, in_list-get_or}
use Rattle.lane_logs.specs.Drops.{dropped, has_call, is_left, is_untouched, untouched_mark, untouched_marks}
use Rattle.lane_logs.specs.LaneLog.{has_begun}
use Rattle.lane_logs.specs.Names.{SessionNames}
use Rattle.lane_turns.specs.Discarding.{HoldsNone, IsDiscarding, held_in, held_on, is_unrun, without}

-- one number more
range_more : (a n j : ℕ) → a + n ≡ j → range_with_len a (n + 1) ≡ range_with_len a n ++ j ∷ []
range_more a n j is = let e : n + 1 ≡ suc n = omega arith in ap (range_with_len a) e ∙ last a n j is
  where
    last : (a n j : ℕ) → a + n ≡ j → range_with_len a (suc n) ≡ range_with_len a n ++ j ∷ []
    last a zero j is = let e : a ≡ j = omega (arith, is) in ap (λ x. x ∷ []) e
    last a (suc n) j is = ap (λ xs. a ∷ xs) (last (a + 1) n j (omega (arith, is)))

emptied : {H : Type 0} (hs : List (Option H)) (k : ℕ) → get_or (slice_set hs k None) k None ≡ None
emptied [] k = refl
emptied (h ∷ hs) zero = refl
emptied (h ∷ hs) (suc k) = emptied hs k

module _ {H : Type 0} (op : ℕ) where
  -- what is held without the handler of an operation
  without_it : (hands : Option (Held H)) → held_in (without op hands) op ≡ None
  without_it None = refl
  without_it (Some own) =
      in_list-get_or (slice_set own.handlers op None) op ∙ emptied own.handlers op

  without_other : (other : ℕ) (hands : Option (Held H)) → other ≢ op →
      held_in (without op hands) other ≡ held_in hands other
  without_other other None ne = refl
  without_other other (Some own) ne =
      in_list-get_or (slice_set own.handlers op None) other ∙ get_or-set_other own.handlers op other None None ne
      ∙ sym (in_list-get_or own.handlers other)

  without_script : (script : ScriptModel) (hands : Option (Held H)) → IfSome hands (λ own. own.script ≡ script) →
      IfSome (without op hands) (λ own. own.script ≡ script)
  without_script script None is = tt
  without_script script (Some own) is = is

module _ (names : SessionNames) (events : List Event) where
  abbrev noted_by : ℕ → List Event
  noted_by k = map (dropped names) (filter (is_left names events) (range_with_len 0 k))

  noted_if : Bool → ℕ → List Event
  noted_if b k = map (dropped names) (cond b (k ∷ []) [])

  noted_more : (k : ℕ) (b : Bool) → is_left names events k ≡ b → noted_by (k + 1) ≡ noted_by k ++ noted_if b k
  unfolding noted_if
  noted_more k b is =
      let e : 0 + k ≡ k = omega arith in
      ap (λ xs. map (dropped names) (filter (is_left names events) xs)) (range_more 0 k k e)
      ∙ ap (map (dropped names)) (filter-append (is_left names events) (range_with_len 0 k) (k ∷ []))
      ∙ map-append (dropped names) (filter (is_left names events) (range_with_len 0 k)) _
      ∙ ap (λ t. noted_by k ++ map (dropped names) (cond t (k ∷ []) [])) is

  noted_none : (k : ℕ) → is_left names events k ≡ false → noted_by (k + 1) ≡ noted_by k
  unfolding noted_if
  noted_none k is = noted_more k false is ∙ append-nil (noted_by k)

  noted_one : (k : ℕ) → is_left names events k ≡ true → noted_by (k + 1) ≡ noted_by k ++ dropped names k ∷ []
  unfolding noted_if
  noted_one k is = noted_more k true is

  pub few_noted : (k : ℕ) → length (noted_by k) ≤ k
  few_noted k =
      omega (
        arith,
        length-map (filter (is_left names events) (range_with_len 0 k)) (dropped names),
        length-filter (is_left names events) (range_with_len 0 k),
        count_by-le-length (is_left names events) (range_with_len 0 k),
        length-range_with_len 0 k,
      )

pub left_if : (a b c : Bool) → a ≡ true → (b && c) ≡ true → (a && b && c) ≡ true
left_if true b c first second = second
left_if false b c first second = absurd (cc first)

-- what is left never ran, and neither did what was never initiated
left_unrun : (a b c : Bool) → (a && b && not c) ≡ true → (a && not c) ≡ true
left_unrun true true c is = is
left_unrun true false c is = absurd (cc is)
left_unrun false b c is = absurd (cc is)

untouched_if : (a b c : Bool) → a ≡ true → (b && not c) ≡ false → c ≡ false → (a && not b && not c) ≡ true
untouched_if true false false op left begun = refl
untouched_if true true false op left begun = absurd (cc left)
untouched_if true b true op left begun = absurd (cc begun)
untouched_if false b c op left begun = absurd (cc op)

pub untouched_no_op : (a b c : Bool) → a ≡ false → (a && not b && not c) ≡ false
untouched_no_op true b c is = absurd (cc is)
untouched_no_op false b c is = refl

pub untouched_left : (a b c : Bool) → (b && not c) ≡ true → (a && not b && not c) ≡ false
untouched_left true true c is = refl
untouched_left true false c is = absurd (cc is)
untouched_left false b c is = refl

pub untouched_begun : (a b c : Bool) → c ≡ true → (a && not b && not c) ≡ false
untouched_begun true true true is = refl
untouched_begun true false true is = refl
untouched_begun true b false is = absurd (cc is)
untouched_begun false b c is = refl

-- the mark of an operation that was initiated is 0
pub no_mark : (names : SessionNames) (events : List Event) (op : ℕ) → is_untouched names events op ≡ false →
    0 ≡ untouched_mark names events op
no_mark names events op is = sym (ap (λ b. if b then names.drop op else 0) is)

-- one number more
pub untouched_more : (names : SessionNames) (events : List Event) (k : ℕ) →
    untouched_marks names events (k + 1) ≡ untouched_marks names events k + untouched_mark names events k
untouched_more names events k =
    let e : 0 + k ≡ k = omega arith in
    let front = sum_by-append (untouched_mark names events) (range_with_len 0 k) (k ∷ []) in
    let last = sum_by-cons (untouched_mark names events) k [] in
    let all : untouched_marks names events (k + 1) ≡ sum_by (untouched_mark names events) (range_with_len 0 k ++ k ∷ []) =
    ap (sum_by (untouched_mark names events)) (range_more 0 k k e) in
    omega (arith, all, front, last)

pub left_not : (a b c : Bool) → (b && c) ≡ false → (a && b && c) ≡ false
left_not true b c none = none
left_not false b c none = refl

-- where no handler is held, each of them ran, so there are no drops
op_if : (a b : Bool) → (a && b) ≡ true → a ≡ true
op_if true b both = refl
op_if false b both = both

left_ran : (a b c : Bool) → (a && c) ≡ false → (a && b && c) ≡ false
left_ran true true c ran = ran
left_ran true false c ran = refl
left_ran false b c ran = refl

told_held : {H : Type 0} (f : H → ℕ) (held : Option H) (mark : ℕ) → option_map f held ≡ Some mark → IsSome held
told_held f (Some handler) mark told = refl
told_held f None mark told = absurd (cc told)

module _ {H : Type 0} (names : SessionNames) (marks : H → Marks) (events : List Event)
    (hands : List (Option (Held H))) (drops : List Event)
    (first : IsDiscarding names marks events 0 hands drops) (none : HoldsNone names.script hands) where
  all_ran : (op : ℕ) → op < length names.script.acts → is_unrun names events op ≡ false
  all_ran op less = by_test (is_unrun names events op) refl
    where
      by_test : (b : Bool) → is_unrun names events op ≡ b → b ≡ false
      by_test false unrun = refl
      by_test true unrun =
          absurd
          (none op less (op_if (is_op names.script op) (not (has_begun op events)) unrun)
          (told_held (λ handler. (marks handler).drop) (held_on hands (home_lane names.script op) op) (names.drop op)
          (first.left op (omega arith) unrun)))

  none_noted : (k : ℕ) → k ≤ length names.script.acts → noted_by names events k ≡ []
  none_noted zero less = refl
  none_noted (suc k) less =
      let e : k + 1 ≡ suc k = omega arith in
      subst (λ n. noted_by names events n ≡ []) e
      (noted_none names events k
      (left_ran (is_op names.script k) (has_call k events) (not (has_begun k events)) (all_ran k (omega (arith, less))))
      ∙ none_noted k (omega (arith, less)))

  none_told : (k : ℕ) → k ≤ length names.script.acts → untouched_marks names events k ≡ 0
  none_told zero less = refl
  none_told (suc k) less =
      let e : k + 1 ≡ suc k = omega arith in
      let mark =
      no_mark names events k
      (left_ran (is_op names.script k) (not (has_call k events)) (not (has_begun k events)) (all_ran k (omega (arith, less)))) in
      let rest = none_told k (omega (arith, less)) in
      subst (λ n. untouched_marks names events n ≡ 0) e (omega (arith, untouched_more names events k, mark, rest))

  pub no_drops : drops ≡ noted_by names events (length names.script.acts)
  no_drops = first.noted ∙ sym (none_noted (length names.script.acts) (omega arith))

  pub nothing_told : 0 ≡ untouched_marks names events (length names.script.acts)
  nothing_told = sym (none_told (length names.script.acts) (omega arith))

module _ {H : Type 0} (names : SessionNames) (marks : H → Marks) (events : List Event) (k : ℕ)
    (hands : List (Option (Held H))) (drops : List Event)
    (is : IsDiscarding names marks events k hands drops) where
  -- nothing is left where there is no operation
  pub passed : is_op names.script k ≡ false → IsDiscarding names marks events (k + 1) hands drops
  passed none =
      record {
        count = is.count;
        script = is.script;
        spent =
            λ lane op less.
            dite (ℕ_discrete op k)
            (λ (same : op ≡ k).
            is.placed lane op (rw (same, none) refl))
            (λ ne. is.spent lane op (omega (arith, less, ne)));
        placed = is.placed;
        left = λ op later left. is.left op (omega (arith, later)) left;
        noted = is.noted ∙ sym (noted_none names events k (rw none refl));
      }

  -- the handler of an operation is destroyed only where those of its callers are gone
  pub caller_gone : ((n : ℕ) → HasParent names.script.acts n (parent_of names.script n)) → (lane : ℕ) →
      IfSome (slice_index_or hands lane None) (λ own. CallerIsGone own k)
  caller_gone ordered lane = by_hands (slice_index_or hands lane None) (λ op. is.spent lane op) (is.script lane)
    where
      by_hands : (found : Option (Held H)) → ((op : ℕ) → op < k → held_in found op ≡ None) →
          IfSome found (λ own. own.script ≡ names.script) → IfSome found (λ own. CallerIsGone own k)
      by_hands None spent same = tt
      by_hands (Some own) spent same =
          λ caller inside.
          spent caller
          (callee_later own.script (subst (λ (s : ScriptModel). (n : ℕ) → HasParent s.acts n (parent_of s n)) (sym same) ordered)
          own.handlers k caller k inside)

  module _ (news : List (Option (Held H))) (lane : ℕ) (home : lane ≡ home_lane names.script k)
      (within : lane < length hands)
      (after : news ≡ slice_set hands lane (without k (slice_index_or hands lane None))) where
    here : slice_index_or news lane None ≡ without k (slice_index_or hands lane None)
    here =
        ap (λ xs. slice_index_or xs lane None) after
        ∙ get_or-set_same hands lane (without k (slice_index_or hands lane None)) None within

    else_ : (other : ℕ) → other ≢ lane → slice_index_or news other None ≡ slice_index_or hands other None
    else_ other ne =
        ap (λ xs. slice_index_or xs other None) after
        ∙ get_or-set_other hands lane other (without k (slice_index_or hands lane None)) None ne

    others_stay : (other op : ℕ) → op ≢ k → held_on news other op ≡ held_on hands other op
    others_stay other op ne =
        dite (ℕ_discrete other lane)
        (λ (same : other ≡ lane).
        subst (λ l. held_on news l op ≡ held_on hands l op) (sym same)
        (ap (λ o. held_in o op) here ∙ without_other k op (slice_index_or hands lane None) ne))
        (λ apart. ap (λ o. held_in o op) (else_ other apart))

    it_goes : (other : ℕ) → held_on news other k ≡ None
    it_goes other =
        dite (ℕ_discrete other lane)
        (λ (same : other ≡ lane).
        subst (λ l. held_on news l k ≡ None) (sym same)
        (ap (λ o. held_in o k) here ∙ without_it k (slice_index_or hands lane None)))
        (λ apart.
        ap (λ o. held_in o k) (else_ other apart)
        ∙ is.placed other k (not_here (is_op names.script k) (λ same. apart (sym same ∙ sym home))))
      where
        not_here : (b : Bool) → home_lane names.script k ≢ other → (b && (home_lane names.script k == other)) ≡ false
        not_here true ne = ne_eqb (home_lane names.script k) other ne
        not_here false ne = refl

    discarded : (now : List Event) → now ≡ noted_by names events (k + 1) →
        IsDiscarding names marks events (k + 1) news now
    discarded now noted =
        record {
          count =
              ap length after ∙ length-set hands lane (without k (slice_index_or hands lane None)) ∙ is.count;
          script =
              λ other.
              dite (ℕ_discrete other lane)
              (λ (same : other ≡ lane).
              subst (λ (o : Option (Held H)). IfSome o (λ own. own.script ≡ names.script))
              (sym (ap (λ l. slice_index_or news l None) same ∙ here))
              (without_script k names.script (slice_index_or hands lane None) (is.script lane)))
              (λ apart.
              subst (λ (o : Option (Held H)). IfSome o (λ own. own.script ≡ names.script)) (sym (else_ other apart))
              (is.script other));
          spent =
              λ other op less.
              dite (ℕ_discrete op k)
              (λ (same : op ≡ k). ap (held_on news other) same ∙ it_goes other)
              (λ ne. others_stay other op ne ∙ is.spent other op (omega (arith, less, ne)));
          placed =
              λ other op none.
              dite (ℕ_discrete op k)
              (λ (same : op ≡ k). ap (held_on news other) same ∙ it_goes other)
              (λ ne. others_stay other op ne ∙ is.placed other op none);
          left =
              λ op later left.
              ap (option_map (λ handler. (marks handler).drop))
              (others_stay (home_lane names.script op) op (λ same. absurd (omega (arith, same, later))))
              ∙ is.left op (omega (arith, later)) left;
          noted = noted;
        }

    unrun : is_left names events k ≡ true → is_unrun names events k ≡ true
    unrun left = left_unrun (is_op names.script k) (has_call k events) (has_begun k events) left

    -- its drop is no event
    pub discarded_silently : is_left names events k ≡ false → IsDiscarding names marks events (k + 1) news drops
    discarded_silently none = discarded drops (is.noted ∙ sym (noted_none names events k none))

    -- its drop is one, with the mark that is named
    pub discarded_noted : (mark : ℕ) (now : List Event) → is_left names events k ≡ true →
        Some mark ≡ option_map (λ handler. (marks handler).drop) (held_on hands lane k) →
        now ≡ drops ++ event.Dropped k mark ∷ [] → IsDiscarding names marks events (k + 1) news now
    discarded_noted mark now left told is_now =
        let same : mark ≡ names.drop k =
        some_same mark (names.drop k)
        (told ∙ ap (λ l. option_map (λ (handler : H). (marks handler).drop) (held_on hands l k)) home
        ∙ is.left k (omega arith) (unrun left)) in
        discarded now
        (is_now ∙ ap (λ m. drops ++ event.Dropped k m ∷ []) same
        ∙ ap (λ xs. xs ++ dropped names k ∷ []) is.noted ∙ sym (noted_one names events k left))
      where
        some_same : (a b : ℕ) → Some a ≡ Some b → a ≡ b
        some_same a b same = cc same

    -- its handler is there
    pub left_is_held : is_left names events k ≡ true →
        None ≡ option_map (λ handler. (marks handler).drop) (held_on hands lane k) → ⊥
    left_is_held left told =
        none_some (names.drop k)
        (told ∙ ap (λ l. option_map (λ (handler : H). (marks handler).drop) (held_on hands l k)) home
        ∙ is.left k (omega arith) (unrun left))
      where
        none_some : (b : ℕ) → None ≡ Some b → ⊥
        none_some b same = cc same

    -- what the handler of an operation that never began tells is the mark that is named
    pub told_mark : (mark : Option ℕ) → is_op names.script k ≡ true → (has_call k events && not (has_begun k events)) ≡ false →
        mark ≡ option_map (λ handler. (marks handler).drop) (held_on hands lane k) →
        (if has_begun k events then 0 else unwrap_or mark 0) ≡ untouched_mark names events k
    told_mark mark op left told = by_case (has_begun k events) refl
      where
        by_case : (b : Bool) → has_begun k events ≡ b → (if b then 0 else unwrap_or mark 0) ≡ untouched_mark names events k
        by_case true begun =
            no_mark names events k (untouched_begun (is_op names.script k) (has_call k events) (has_begun k events) begun)
        by_case false begun =
            let held : is_unrun names events k ≡ true = rw (op, begun) refl in
            let same : mark ≡ Some (names.drop k) =
            told ∙ ap (λ l. option_map (λ (handler : H). (marks handler).drop) (held_on hands l k)) home
            ∙ is.left k (omega arith) held in
            ap (λ o. unwrap_or o 0) same
            ∙ sym (ap (λ b. if b then names.drop k else 0)
            (untouched_if (is_op names.script k) (has_call k events) (has_begun k events) op left begun))
