-- Acts in text order have the text of a body.
use Rattle.std.proofs.Common.{◌≡◌, ℕ, zero, suc, ◌+◌, ◌-◌, ◌<◌, ◌≤◌, ◌⊎◌, inl, inr, true, false, List, [], ◌∷◌, ◌++◌, length, take, Some, None, refl, sym, ap, subst, ◌∙◌, arith}
use Rattle.std.specs.Prelude.{slice_get}
use Rattle.std.proofs.Math.Seq.{take-suc, take-length}
use Rattle.std.proofs.lemmas.List.{length-take-le}
use Rattle.std.proofs.lemmas.Option.{get_or_from_slice_get, slice_get_cases}
use lib.Chars.{codes}
use Rattle.asio_types.specs.declared.code.Class.{Class}
use Rattle.asio_types.specs.declared.code.Class.TheVariants as class
use Rattle.session_script.specs.declared.act.Bodies.{Bodies}
use Rattle.session_script.specs.declared.act.Bodies.TheVariants as bodies
use Rattle.session_script.specs.Groups.{class_number}
use Rattle.session_script.specs.Script.{Entry, Place, ScriptModel, act_of, parent_of, same_place}
use Rattle.session_script.specs.Limits.{limits_of}
use Rattle.session_script.specs.Acts.{bodies_of}
use Rattle.session_script.specs.Text.{IsBodyText, in_braces, IsActsText, no_act, an_act, IsBodiesText, no_body, one_body, all_bodies, IsBranchText, spelled_out}
use Rattle.session_script.specs.WellFormed.{HasParent, has_branch, IsNested, in_open, in_branch, IsWellFormed, header_of}
use Rattle.session_script.specs.Writable.{StandsUnder, IsWritable}
use Rattle.session_script.proofs.GatheringLemmas.{IsEarlier, below_later}
use Rattle.session_script.proofs.PlacingLemmas.{has_parent, act_fits}
use Rattle.session_script.proofs.OrderLemmas.{same_or_above, First, first_from, same_place-true, same_place-false, is_further, further_is, first_only, second_only, third_only, under_later, branch_later}
use Rattle.session_script.proofs.SayingLemmas.{HasText, header_is_small, act_has_text}

-- what stands under an act isn't under one before it
not_under : (acts : List Entry) (n : ℕ) (place : Place) → HasParent acts n place → StandsUnder n place → ⊥
not_under acts n None has under = under
not_under acts n (Some at) has under = omega (arith, has.0)

posting_only : (branch : Class) → has_branch bodies.Posting branch ≡ true → branch ≡ class.Ok
posting_only class.Ok has = refl
posting_only class.Abort has = absurd (cc has)
posting_only class.Other has = absurd (cc has)

module _ (script : ScriptModel) (well : IsWellFormed script) (writable : IsWritable script) where
  -- the acts from one number on stand in this place, or under one another
  abbrev Fills : Place → ℕ → ℕ → Type 0
  Fills place low high =
      (n : ℕ) → low ≤ n → n < high → (parent_of script n ≡ place) ⊎ StandsUnder low (parent_of script n)

  -- so many levels are left for the bodies in a place
  abbrev Leaves : Place → ℕ → Type 0
  Leaves place levels =
      (depth : ℕ) × IsNested script.acts place depth × (depth + levels ≡ (limits_of script.version).nesting)

  -- the acts from one number to another are those of a place
  record Segment (levels low high : ℕ) (place : Place) : Type 0 where
    ordered : low ≤ high
    within : high ≤ length script.acts
    earlier : IsEarlier low place
    fills : Fills place low high
    leaves : Leaves place levels

  abbrev Text : ℕ → ℕ → ℕ → Place → Type 0
  Text levels low high place =
      HasText (IsActsText script.version levels place (take low script.acts) (take high script.acts))

  -- segments of so many acts have a text
  abbrev Builds : ℕ → Type 0
  Builds size =
      (levels low high : ℕ) (place : Place) → high ≤ low + size → Segment levels low high place →
      Text levels low high place

  no_acts : (levels low high : ℕ) (place : Place) → high ≡ low → Text levels low high place
  no_acts levels low high place same =
      subst (λ (k : ℕ). Text levels low k place) (sym same) (record { text = λ rest. (rest, no_act) })

  module _ (size : ℕ) (inner : Builds size) (levels low high : ℕ) (place : Place) (few : high ≤ low + suc size)
      (segment : Segment levels low high place) (some : low < high) (e : Entry)
      (there : slice_get script.acts low ≡ Some e) where
    stands_here : parent_of script low ≡ place
    stands_here =
        elim (segment.fills low (omega arith) some) [
          | inl is ↦ is
          | inr under ↦ absurd (not_under script.acts low (parent_of script low) (has_parent script low well) under)
        ]

    own_place : e.parent ≡ place
    own_place = let itself : parent_of script low ≡ e.parent = rw there refl in sym itself ∙ stands_here

    own_act : act_of script low ≡ Some e.act
    own_act = rw there refl

    cut : First (λ n. same_place place (parent_of script n)) (suc low) high
    cut = first_from (λ n. same_place place (parent_of script n)) (high - suc low) (suc low) high (omega arith)

    fills_after : Fills place cut.at high
    fills_after n le lt = elim (segment.fills n (omega (arith, cut.above)) lt) [
      | inl is ↦ inl is
      | inr under ↦
          inr (under_later script writable.order low cut.at n
          (subst (IsEarlier low) (sym (same_place-true place (parent_of script cut.at) (cut.here (omega arith))))
          segment.earlier) le under)
    ]

    -- the acts after it
    others : Text levels cut.at high place
    others =
        inner levels cut.at high place (omega (arith, cut.above)) (record {
          ordered = cut.within;
          within = segment.within;
          earlier = below_later low cut.at place (omega (arith, cut.above)) segment.earlier;
          fills = fills_after;
          leaves = segment.leaves;
        })

    abbrev InBranch : ℕ → Type 0
    InBranch n =
        (branch : Class) × (parent_of script n ≡ Some (low, branch)) × (has_branch (bodies_of e.act) branch ≡ true)

    in_branch_of : (n : ℕ) (at : ℕ × Class) → parent_of script n ≡ Some at → at.0 ≡ low → InBranch n
    in_branch_of n at is same =
        let has : HasParent script.acts n (Some at) = subst (HasParent script.acts n) is (has_parent script n well) in
        let found : slice_get script.acts low ≡ Some has.1.0 = ap (slice_get script.acts) (sym same) ∙ has.1.1 in
        let itself : has.1.0 ≡ e = cc (sym found ∙ there) in
        (at.1, is ∙ ap (λ k. Some (k, at.1)) same, subst (λ (x : Entry). has_branch (bodies_of x.act) at.1 ≡ true) itself has.1.2)

    -- the acts in its bodies
    in_bodies : (n : ℕ) → suc low ≤ n → n < cut.at → InBranch n ⊎ StandsUnder (suc low) (parent_of script n)
    in_bodies n le lt = elim (segment.fills n (omega arith) (omega (arith, cut.within))) [
      | inl is ↦ absurd (same_place-false place (parent_of script n) (cut.before n le lt) is)
      | inr under ↦ by_place (parent_of script n) refl under
    ]
      where
        by_place : (q : Place) → parent_of script n ≡ q → StandsUnder low q → InBranch n ⊎ StandsUnder (suc low) q
        by_place None is under = absurd under
        by_place (Some at) is under =
            elim (same_or_above low at.0 under) [
              | inl same ↦ inl (in_branch_of n at is same)
              | inr above ↦ inr (omega arith)
            ]

    leaves_in : (branch : Class) (left : ℕ) → levels ≡ suc left → Leaves (Some (low, branch)) left
    leaves_in branch left e' =
        let nested : IsNested script.acts e.parent segment.leaves.0 =
        subst (λ (q : Place). IsNested script.acts q segment.leaves.0) (sym own_place) segment.leaves.1 in
        (suc segment.leaves.0, in_branch there nested, omega (arith, segment.leaves.2))

    deep_enough : has_branch (bodies_of e.act) class.Ok ≡ true → 1 ≤ levels
    deep_enough has =
        let nested : IsNested script.acts (parent_of script low) segment.leaves.0 =
        subst (λ (q : Place). IsNested script.acts q segment.leaves.0) (sym stands_here) segment.leaves.1 in
        omega (arith, segment.leaves.2, writable.depth low segment.leaves.0 e.act own_act has nested)

    body_text : (branch : Class) (from to : ℕ) → suc low ≤ from → from ≤ to → to ≤ cut.at → 1 ≤ levels →
        Fills (Some (low, branch)) from to →
        HasText (IsBodyText script.version levels (Some (low, branch)) (take from script.acts) (take to script.acts))
    body_text branch from to above le within room fills = by_levels levels refl room
      where
        by_levels : (left : ℕ) → levels ≡ left → 1 ≤ left →
            HasText (IsBodyText script.version left (Some (low, branch)) (take from script.acts) (take to script.acts))
        by_levels zero is room = absurd (omega arith)
        by_levels (suc left) is room =
            let acts =
            inner left from to (Some (low, branch)) (omega (arith, cut.within))
            (record {
              ordered = le;
              within = omega (arith, cut.within, segment.within);
              earlier = above;
              fills = fills;
              leaves = leaves_in branch left is;
            }) in
            record {
              text = λ rest.
                  let x = acts.text (codes "}" ∷ rest) in
                  (codes "{" ∷ x.0, in_braces x.0 (codes "}" ∷ rest) refl x.1 refl);
            }

    further_text : (word : List ℕ) (branch : Class) (from to : ℕ) →
        HasText (IsBodyText script.version levels (Some (low, branch)) (take from script.acts) (take to script.acts)) →
        HasText
        (IsBranchText script.version levels word (Some (low, branch)) (take from script.acts) (take to script.acts))
    further_text word branch from to body =
        record { text = λ rest. let x = body.text rest in (word ∷ x.0, spelled_out x.0 refl x.1) }

    abbrev BodiesText : Bodies → Type 0
    BodiesText which =
        HasText (IsBodiesText script.version levels which low (take (suc low) script.acts) (take cut.at script.acts))

    -- without bodies no act stands in one
    none_in_bodies : bodies_of e.act ≡ bodies.Nothing → cut.at ≡ suc low
    none_in_bodies is = elim (same_or_above (suc low) cut.at cut.above) [
      | inl same ↦ same
      | inr more ↦ elim (in_bodies (suc low) (omega arith) more) [
        | inl found ↦ absurd (cc (subst (λ which. has_branch which found.0 ≡ true) is found.2))
        | inr under ↦
            absurd (not_under script.acts (suc low) (parent_of script (suc low)) (has_parent script (suc low) well) under)
      ]
    ]

    no_bodies : bodies_of e.act ≡ bodies.Nothing → BodiesText bodies.Nothing
    no_bodies is =
        subst
        (λ (k : ℕ).
        HasText
        (IsBodiesText script.version levels bodies.Nothing low (take (suc low) script.acts) (take k script.acts)))
        (sym (none_in_bodies is)) (record { text = λ rest. (rest, no_body) })

    posting_fills : bodies_of e.act ≡ bodies.Posting → Fills (Some (low, class.Ok)) (suc low) cut.at
    posting_fills is n le lt = elim (in_bodies n le lt) [
      | inl found ↦
          inl (found.1
          ∙ ap (λ c. Some (low, c))
          (posting_only found.0 (subst (λ which. has_branch which found.0 ≡ true) is found.2)))
      | inr under ↦ inr under
    ]

    posting_body : bodies_of e.act ≡ bodies.Posting → BodiesText bodies.Posting
    posting_body is =
        let body =
        body_text class.Ok (suc low) cut.at (omega arith) cut.above (omega arith)
        (deep_enough (subst (λ which. has_branch which class.Ok ≡ true) (sym is) refl)) (posting_fills is) in
        record { text = λ rest. let x = body.text rest in (x.0, one_body x.1) }

    -- where the second and the third body of an operation begin
    second : First (λ n. is_further low (parent_of script n)) (suc low) cut.at
    second =
        first_from (λ n. is_further low (parent_of script n)) (cut.at - suc low) (suc low) cut.at (omega (arith, cut.above))

    third : First (λ n. same_place (Some (low, class.Other)) (parent_of script n)) second.at cut.at
    third =
        first_from (λ n. same_place (Some (low, class.Other)) (parent_of script n)) (cut.at - second.at) second.at
        cut.at (omega (arith, second.within))

    first_fills : Fills (Some (low, class.Ok)) (suc low) second.at
    first_fills n le lt = elim (in_bodies n le (omega (arith, second.within))) [
      | inl found ↦
          inl (found.1
          ∙ ap (λ c. Some (low, c)) (first_only low found.0
          (subst (λ (q : Place). is_further low q ≡ false) found.1 (second.before n le lt))))
      | inr under ↦ inr under
    ]

    second_fills : Fills (Some (low, class.Abort)) second.at third.at
    second_fills n le lt =
        let begun = further_is low (parent_of script second.at) (second.here (omega (arith, third.within))) in
        let earlier : IsEarlier (suc low) (parent_of script second.at) =
        subst (IsEarlier (suc low)) (sym begun.1) (omega arith) in
        elim (in_bodies n (omega (arith, second.above)) (omega (arith, third.within))) [
          | inl found ↦
              let later : 1 ≤ class_number found.0 =
              omega (arith, begun.2, branch_later script writable.order low second.at n begun.0 found.0 le begun.1 found.1) in
              inl (found.1
              ∙ ap (λ c. Some (low, c)) (second_only low found.0 later (subst
              (λ (q : Place). same_place (Some (low, class.Other)) q ≡ false) found.1
              (third.before n le lt))))
          | inr under ↦ inr (under_later script writable.order (suc low) second.at n earlier le under)
        ]

    third_fills : Fills (Some (low, class.Other)) third.at cut.at
    third_fills n le lt =
        let begun : parent_of script third.at ≡ Some (low, class.Other) =
        same_place-true (Some (low, class.Other)) (parent_of script third.at) (third.here (omega arith)) in
        let earlier : IsEarlier (suc low) (parent_of script third.at) =
        subst (IsEarlier (suc low)) (sym begun) (omega arith) in
        elim (in_bodies n (omega (arith, second.above, third.above)) lt) [
          | inl found ↦
              inl (found.1
              ∙ ap (λ c. Some (low, c)) (third_only found.0
              (branch_later script writable.order low third.at n class.Other found.0 le begun found.1)))
          | inr under ↦ inr (under_later script writable.order (suc low) third.at n earlier le under)
        ]

    operation_bodies : bodies_of e.act ≡ bodies.Operation → BodiesText bodies.Operation
    operation_bodies is =
        let room : 1 ≤ levels = deep_enough (subst (λ which. has_branch which class.Ok ≡ true) (sym is) refl) in
        let ok = body_text class.Ok (suc low) second.at (omega arith) second.above second.within room first_fills in
        let abort =
        further_text (codes "abort") class.Abort second.at third.at
        (body_text class.Abort second.at third.at second.above third.above third.within room second_fills) in
        let other =
        further_text (codes "other") class.Other third.at cut.at
        (body_text class.Other third.at cut.at (omega (arith, second.above, third.above)) third.within (omega arith)
        room third_fills) in
        record {
          text = λ rest.
              let z = other.text rest in
              let y = abort.text z.0 in
              let x = ok.text y.0 in
              (x.0, all_bodies (take second.at script.acts) (take third.at script.acts) y.0 z.0 x.1 y.1 z.1);
        }

    by_kind : (which : Bodies) → bodies_of e.act ≡ which → BodiesText which
    by_kind bodies.Nothing is = no_bodies is
    by_kind bodies.Posting is = posting_body is
    by_kind bodies.Operation is = operation_bodies is

    -- with it there is one more act
    one_more_act : take (suc low) script.acts ≡ take low script.acts ++ record { act = e.act; parent = place } ∷ []
    one_more_act =
        take-suc script.acts low e (omega (arith, segment.within))
        ∙ ap (λ (x : Entry). take low script.acts ++ x ∷ [])
        (get_or_from_slice_get script.acts low e e there ∙ ap (λ (q : Place). record e { parent = q }) own_place)

    bodies_text : HasText (IsBodiesText script.version levels (bodies_of e.act) (length (take low script.acts))
        (take low script.acts ++ record { act = e.act; parent = place } ∷ []) (take cut.at script.acts))
    bodies_text =
        let op : low ≡ length (take low script.acts) =
        sym (length-take-le low script.acts (omega (arith, segment.within))) in
        subst
        (λ (k : ℕ).
        HasText (IsBodiesText script.version levels (bodies_of e.act) k
        (take low script.acts ++ record { act = e.act; parent = place } ∷ []) (take cut.at script.acts))) op
        (subst
        (λ (acts : List Entry).
        HasText (IsBodiesText script.version levels (bodies_of e.act) low acts (take cut.at script.acts)))
        one_more_act (by_kind (bodies_of e.act) refl))

    first_and_others : Text levels low high place
    first_and_others =
        let act =
        act_has_text (header_of script) (header_is_small script well) script.version e.act
        (act_fits script low well e.act own_act) (writable.words low e.act own_act) in
        record {
          text = λ rest.
              let z = others.text rest in
              let y = bodies_text.text z.0 in
              let x = act.text y.0 in (x.0, an_act e.act (take cut.at script.acts) y.0 z.0 x.1 y.1 z.1);
        }

  found_act : (size : ℕ) → Builds size → (levels low high : ℕ) (place : Place) → high ≤ low + suc size →
      Segment levels low high place → low < high → Text levels low high place
  found_act size inner levels low high place few segment some = elim (slice_get_cases script.acts low).1 [
    | inl found ↦ first_and_others size inner levels low high place few segment some found.0 found.2
    | inr past ↦ absurd (omega (arith, past.0, segment.within))
  ]

  build : (size : ℕ) → Builds size
  build zero levels low high place few segment = no_acts levels low high place (omega (arith, segment.ordered))
  build (suc size) levels low high place few segment = elim (same_or_above low high segment.ordered) [
    | inl same ↦ no_acts levels low high place same
    | inr some ↦ found_act size (build size) levels low high place few segment some
  ]

  in_open_or_under : (n : ℕ) (place : Place) → (place ≡ None) ⊎ StandsUnder 0 place
  in_open_or_under n None = inl refl
  in_open_or_under n (Some at) = inr (omega arith)

  -- the body of `open`
  pub opening_has_text : (left : ℕ) → 1 + left ≡ (limits_of script.version).nesting →
      HasText (IsBodyText script.version (suc left) None [] script.acts)
  opening_has_text left is =
      let all : Text left 0 (length script.acts) None =
      build (length script.acts) left 0 (length script.acts) None (omega arith)
      (record {
        ordered = omega arith;
        within = omega arith;
        earlier = tt;
        fills = λ n le lt. in_open_or_under n (parent_of script n);
        leaves = (1, in_open, is);
      }) in
      let acts : HasText (IsActsText script.version left None [] script.acts) =
      subst (λ (acts : List Entry). HasText (IsActsText script.version left None [] acts)) (take-length script.acts) all in
      record {
        text = λ rest.
            let x = acts.text (codes "}" ∷ rest) in (codes "{" ∷ x.0, in_braces x.0 (codes "}" ∷ rest) refl x.1 refl);
      }
