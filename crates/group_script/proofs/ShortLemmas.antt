-- The text of a group's script is short, save for the lines of its world.
use Rattle.std.proofs.Common.{◌≡◌, ℕ, zero, suc, ◌+◌, ◌-◌, ◌*◌, ◌^◌, ◌<◌, ◌≤◌, inl, inr, Bool, true, false, cond, List, [], ◌∷◌, ◌++◌, Option, Some, None, length, refl, sym, ap, subst, ◌∙◌, arith}
use Rattle.std.specs.Prelude.{◌==◌, codes, slice_get}
use Rattle.std.specs.Fmt.{decimal}
use Rattle.std.specs.List.{All, flat_map}
use Rattle.std.proofs.lemmas.Fmt.{length-decimal-le}
use Rattle.std.proofs.lemmas.List.Concat.{flat_map-cons}
use Rattle.asio_types.specs.declared.code.Class.{Class}
use Rattle.asio_types.specs.declared.code.Class.TheVariants as class
use Rattle.asio_types.specs.declared.world.Line.{Line}
use Rattle.asio_types.specs.declared.world.World.{World}
use Rattle.session_script.specs.declared.act.Act.{Act}
use Rattle.session_script.specs.Acts.{bodies_of}
use Rattle.session_script.specs.Limits.{limits_of, most_bytes}
use Rattle.session_script.specs.Script.{Entry, Place, ScriptModel, branch_of, numbers_in, opening_of, same_place}
use Rattle.session_script.specs.Spelling.{BodyWords, bodies_words, body_words, branch_words, count_words, declared_words, entry_words, field_words, line_words, round_words, spelling_of, words_after_session}
use Rattle.session_script.specs.Text.{Words, act_text}
use Rattle.session_script.proofs.OrderLemmas.{same_place-true}
use Rattle.group_script.specs.declared.member.Member.{Member}
use Rattle.group_script.specs.declared.member.Member.TheVariants as member
use Rattle.group_script.specs.declared.member.WaitFor.{WaitFor}
use Rattle.group_script.specs.Group.{Group, acts_from, cancelling_of, group_of, script_of}
use Rattle.group_script.specs.Limits.{FitsGroup, FitsWorldLine, IsGroup}
use Rattle.group_script.specs.Measure.{span}
use Rattle.group_script.proofs.FlowsLemmas.{few_opens}
use Rattle.group_script.proofs.PlacedLemmas.{IsKnown, emit, expires, few_opening, is_emit, operation}
use Rattle.group_script.proofs.SpanLemmas.{length-written, span-append}
use Rattle.group_script.proofs.WellMadeLemmas.{each_at, flows}

-- a list of numbers that is no longer than so, each with this property
record Few (P : ℕ → Type 0) (lo hi n : ℕ) (ns : List ℕ) : Type 0 where
  ahead : length ns ≤ hi - n
  window : length ns ≤ hi - lo
  each : (f : ℕ → Words) (most : ℕ) → ((k : ℕ) → P k → span (f k) ≤ most) → span (flat_map f ns) ≤ most * length ns

few_step : (P : ℕ → Type 0) (lo hi n : ℕ) (ns : List ℕ) (b : Bool) → (b ≡ true → P n × (lo ≤ n) × (n < hi)) →
    Few P lo hi (n + 1) ns → Few P lo hi n (cond b (n ∷ ns) ns)
few_step P lo hi n ns true here rest =
    let it = here refl in
    record {
      ahead = omega (arith, rest.ahead, it.1, it.2);
      window = omega (arith, rest.ahead, rest.window, it.1, it.2);
      each = λ f most bound.
          (let first = bound n it.0 in
          let others = rest.each f most bound in
          let both = span-append (f n) (flat_map f ns) in
          let same = ap span (flat_map-cons f n ns) in
          omega (arith, first, others, both, same));
    }
few_step P lo hi n ns false here rest = record {
  ahead = omega (arith, rest.ahead);
  window = rest.window;
  each = rest.each;
}

-- the numbers of a place, which are all within a window
few_in : (P : ℕ → Type 0) (lo hi : ℕ) (place : Place) (n : ℕ) (acts : List Entry) →
    ((k : ℕ) (e : Entry) → slice_get acts k ≡ Some e → same_place place e.parent ≡ true →
    P (n + k) × (lo ≤ n + k) × (n + k < hi)) → Few P lo hi n (numbers_in place n acts)
few_in P lo hi place n [] all = record {
  ahead = omega arith;
  window = omega arith;
  each = λ f most bound. omega arith;
}
few_in P lo hi place n (e ∷ acts) all =
    few_step P lo hi n (numbers_in place (n + 1) acts) (same_place place e.parent)
    (λ same.
    (let none : n + 0 ≡ n = omega arith in
    subst (λ m. P m × (lo ≤ m) × (m < hi)) none (all 0 e refl same)))
    (few_in P lo hi place (n + 1) acts
    (λ k d there same.
    (let next : n + suc k ≡ n + 1 + k = omega arith in
    subst (λ m. P m × (lo ≤ m) × (m < hi)) next (all (suc k) d there same))))

span-flat_map : (f : ℕ → Words) (most : ℕ) (xs : List ℕ) → ((x : ℕ) → span (f x) ≤ most) →
    span (flat_map f xs) ≤ most * length xs
span-flat_map f most [] each = omega arith
span-flat_map f most (x ∷ xs) each =
    let same = ap span (flat_map-cons f x xs) in
    let both = span-append (f x) (flat_map f xs) in
    let rest = span-flat_map f most xs each in
    let first = each x in
    omega (arith, same, both, rest, first)

digits : (n : ℕ) → n < 10 ^ 13 → length (decimal n) ≤ 13
digits n small = length-decimal-le 13 n (omega arith) small (omega (arith, small))

module _ (g : Group) (fits : FitsGroup g) where
  abbrev script : ScriptModel
  script = script_of g

  abbrev all : List Entry
  all = acts_from (cancelling_of g) 0 0 g.members

  -- an emit
  abbrev IsLeaf : ℕ → Type 0
  IsLeaf k = (e : Entry) × (slice_get all k ≡ Some e) × (is_emit e.act ≡ true)

  leaf_of : (op : ℕ) (c : Class) (k : ℕ) (e : Entry) → slice_get all k ≡ Some e →
      same_place (Some (op, c)) e.parent ≡ true → IsLeaf (0 + k) × (op ≤ 0 + k) × (0 + k < op + 50)
  leaf_of op c k e there same =
      let placed : e.parent ≡ Some (op, c) = same_place-true (Some (op, c)) e.parent same in
      let none : 0 + k ≡ k = omega arith in
      elim (each_at g fits k e there).place as (λ s. IsLeaf (0 + k) × (op ≤ 0 + k) × (0 + k < op + 50)) [
        | inl outer ↦ absurd (cc (sym outer ∙ placed))
        | inr under ↦
            (let both : Some (under.op, under.branch) ≡ Some (op, c) = sym under.is ∙ placed in
            let op_is : under.op ≡ op = ap op_in both in (
              (e, ap (slice_get all) none ∙ there, under.leaf),
              omega (arith, under.held.before, op_is),
              omega (arith, under.near, op_is),
            ))
      ]
    where
      op_in : Place → ℕ
      op_in None = 0
      op_in (Some at) = at.0

  few_branch : (op : ℕ) (c : Class) → Few IsLeaf op (op + 50) 0 (branch_of script op c)
  few_branch op c = few_in IsLeaf op (op + 50) (Some (op, c)) 0 all (leaf_of op c)

  -- an emit has no bodies
  span_of_leaf : (body : BodyWords) (k : ℕ) → IsLeaf k → span (entry_words body script k) ≤ 40
  span_of_leaf body k leaf =
      rw leaf.1 (leaf_by leaf.0.act (each_at g fits k leaf.0 leaf.1).known leaf.2)
    where
      leaf_by : (a : Act) → IsKnown (length g.members) g.world.streams a → is_emit a ≡ true →
          span (act_text a ∷ (field_words a ++ bodies_words body script k (bodies_of a))) ≤ 40
      leaf_by a (expires i after within short) is = absurd (cc is)
      leaf_by a (operation i (member.Wait after) within fit) is = absurd (cc is)
      leaf_by a (operation i (member.Read stream size) within fit) is = absurd (cc is)
      leaf_by a (emit j types within few) is =
          omega (arith, digits j (omega (arith, within, fits.members.1)), digits types (omega (arith, few)))

  span_of_branch : (levels op : ℕ) (c : Class) → span (body_words (suc levels) script (branch_of script op c)) ≤ 2010
  span_of_branch levels op c =
      let few = few_branch op c in
      let each : ℕ → Words = entry_words (body_words levels script) script in
      let inner = few.each each 40 (span_of_leaf (body_words levels script)) in
      let all_of = span-append (flat_map each (branch_of script op c)) (codes "}" ∷ []) in
      omega (arith, few.window, inner, all_of)

  span_of_further : (levels : ℕ) (text : List ℕ) (ns : List ℕ) → length text ≤ 5 →
      span (body_words (suc levels) script ns) ≤ 2010 →
      span (branch_words (body_words (suc levels) script) text ns) ≤ 2020
  span_of_further levels text [] short few = omega arith
  span_of_further levels text (n ∷ ns) short few = omega (arith, short, few)

  span_of_known : (levels n : ℕ) (a : Act) → IsKnown (length g.members) g.world.streams a →
      span (act_text a ∷ (field_words a ++ bodies_words (body_words (suc levels) script) script n (bodies_of a))) ≤ 6200
  unfolding limits_of
  span_of_known levels n a (expires i after within short) =
      omega (arith, digits i (omega (arith, within, fits.members.1)), digits after (omega (arith, short)))
  span_of_known levels n a (emit j types within few) =
      omega (arith, digits j (omega (arith, within, fits.members.1)), digits types (omega (arith, few)))
  span_of_known levels n a (operation i (member.Wait after) within fit) =
      let ok = span_of_branch levels n class.Ok in
      let abort : Words =
      branch_words (body_words (suc levels) script) (codes "abort") (branch_of script n class.Abort) in
      let other : Words =
      branch_words (body_words (suc levels) script) (codes "other") (branch_of script n class.Other) in
      let one = span_of_further levels (codes "abort") (branch_of script n class.Abort) (omega arith)
      (span_of_branch levels n class.Abort) in
      let two = span_of_further levels (codes "other") (branch_of script n class.Other) (omega arith)
      (span_of_branch levels n class.Other) in
      let first = span-append (body_words (suc levels) script (branch_of script n class.Ok)) (abort ++ other) in
      let second = span-append abort other in
      let zero_is = digits 0 (omega arith) in
      let number = digits i (omega (arith, within, fits.members.1)) in
      omega (arith, ok, one, two, first, second, zero_is, number)
  span_of_known levels n a (operation i (member.Read stream size) within fit) =
      let ok = span_of_branch levels n class.Ok in
      let abort : Words =
      branch_words (body_words (suc levels) script) (codes "abort") (branch_of script n class.Abort) in
      let other : Words =
      branch_words (body_words (suc levels) script) (codes "other") (branch_of script n class.Other) in
      let one = span_of_further levels (codes "abort") (branch_of script n class.Abort) (omega arith)
      (span_of_branch levels n class.Abort) in
      let two = span_of_further levels (codes "other") (branch_of script n class.Other) (omega arith)
      (span_of_branch levels n class.Other) in
      let first = span-append (body_words (suc levels) script (branch_of script n class.Ok)) (abort ++ other) in
      let second = span-append abort other in
      let zero_is = digits 0 (omega arith) in
      let number = digits i (omega (arith, within, fits.members.1)) in
      let from = digits stream (omega (arith, fit.0, fits.streams)) in
      let many = digits size (omega (arith, fit.1.1)) in
      omega (arith, ok, one, two, first, second, zero_is, number, from, many)

  span_of_entry : (levels n : ℕ) (o : Option Entry) → slice_get all n ≡ o →
      span (entry_words (body_words (suc levels) script) script n) ≤ 6200
  span_of_entry levels n None there = rw there (omega arith)
  span_of_entry levels n (Some e) there = rw there (span_of_known levels n e.act (each_at g fits n e there).known)

  count_by : (b : Bool) (text : List ℕ) (n : ℕ) → length text ≤ 7 → n < 10 ^ 13 →
      span (cond b [] (text ∷ decimal n ∷ [])) ≤ 30
  count_by true text n short small = omega arith
  count_by false text n short small = omega (arith, short, digits n small)

  count_short : (text : List ℕ) (n : ℕ) → length text ≤ 7 → n < 10 ^ 13 → span (count_words text n) ≤ 30
  count_short text n short small = count_by (n == 0) text n short small

  declared_short : span (declared_words script) ≤ 150
  unfolding limits_of
  declared_short =
      let count = length g.members in
      let a : Words = count_words (codes "strands") 1 in
      let b : Words = count_words (codes "timers") count in
      let c : Words = count_words (codes "slots") count in
      let d : Words = count_words (codes "streams") g.world.streams in
      let e : Words = count_words (codes "guards") 0 in
      let one = span-append a (b ++ (c ++ (d ++ e))) in
      let two = span-append b (c ++ (d ++ e)) in
      let three = span-append c (d ++ e) in
      let four = span-append d e in
      let first = count_short (codes "strands") 1 (omega arith) (omega arith) in
      let second = count_short (codes "timers") count (omega arith) (omega (arith, fits.members.1)) in
      let third = count_short (codes "slots") count (omega arith) (omega (arith, fits.members.1)) in
      let fourth = count_short (codes "streams") g.world.streams (omega arith) (omega (arith, fits.streams)) in
      let fifth = count_short (codes "guards") 0 (omega arith) (omega arith) in
      omega (arith, one, two, three, four, first, second, third, fourth, fifth)

  pub is_short : g.world.lines ≡ [] → length (spelling_of script) ≤ most_bytes
  unfolding limits_of words_after_session spelling_of
  is_short none =
      let opening : List ℕ = opening_of script in
      let each : ℕ → Words = entry_words (body_words (suc 30) script) script in
      let inner : Words = flat_map each opening in
      let last : Words = flat_map round_words script.rounds in
      let few = few_opening (flows g fits) in
      let opens = few_opens (cancelling_of g) g.world.streams fits.members.1 fits.types g.members in
      let bodies = span-flat_map each 6200 opening (λ n. span_of_entry 30 n (slice_get all n) refl) in
      omega (
        arith,
        length-written (codes "session") (words_after_session script),
        ap (λ (lines : List Line). span (flat_map line_words lines)) none,
        span-append (declared_words script) (flat_map line_words script.world.lines ++ codes "open"
            ∷ (body_words 32 script opening ++ last)),
        span-append (flat_map line_words script.world.lines) (codes "open" ∷ (body_words 32 script opening ++ last)),
        span-append (body_words 32 script opening) last,
        span-append inner (codes "}" ∷ []),
        bodies,
        few,
        opens,
        fits.members.1,
        declared_short,
        digits 2 (omega arith),
        digits g.workers (omega (arith, fits.workers.1)),
      )

-- bodies are the same whatever the world is
same_bodies : (s : ScriptModel) (w v : World) (levels : ℕ) →
    body_words levels (record s { world = w }) ≡ body_words levels (record s { world = v })
same_bodies s w v zero = refl
same_bodies s w v (suc levels) =
    let step : BodyWords → BodyWords = λ body acts.
    codes "{" ∷ (flat_map (entry_words body (record s { world = w })) acts ++ codes "}" ∷ []) in
    ap step (same_bodies s w v levels)

-- the text is as long as without the world's lines, and these
pub measured : (streams : ℕ) (lines : List Line) (members : List Member) (rule : WaitFor) (types workers : ℕ) →
    length (spelling_of (script_of (group_of (record { streams = streams; lines = lines }) members rule types workers)))
    ≡ length (spelling_of (script_of (group_of (record { streams = streams; lines = [] }) members rule types workers)))
    + span (flat_map line_words lines)
unfolding words_after_session spelling_of
measured streams lines members rule types workers =
    let one : ScriptModel =
    script_of (group_of (record { streams = streams; lines = lines }) members rule types workers) in
    let two : ScriptModel =
    script_of (group_of (record { streams = streams; lines = [] }) members rule types workers) in
    let rest : Words =
    codes "open" ∷ (body_words (limits_of 2).nesting one (opening_of one) ++ flat_map round_words one.rounds) in
    let same : Words =
    codes "open" ∷ (body_words (limits_of 2).nesting two (opening_of two) ++ flat_map round_words two.rounds) in
    let alike : span rest ≡ span same =
    ap (λ (body : BodyWords). span (codes "open" ∷ (body (opening_of one) ++ flat_map round_words one.rounds)))
    (same_bodies one (record { streams = streams; lines = lines }) (record { streams = streams; lines = [] })
    (limits_of 2).nesting) in
    omega (
      arith,
      length-written (codes "session") (words_after_session one),
      length-written (codes "session") (words_after_session two),
      span-append (declared_words one) (flat_map line_words lines ++ rest),
      span-append (flat_map line_words lines) rest,
      span-append (declared_words two) same,
      alike,
    )

-- a group without lines is one where it is within the limits
pub outline_is_group : (streams : ℕ) (lines none : List Line) (members : List Member) (rule : WaitFor)
    (types workers : ℕ) →
    FitsGroup (group_of (record { streams = streams; lines = lines }) members rule types workers) → none ≡ [] →
    IsGroup (group_of (record { streams = streams; lines = none }) members rule types workers)
outline_is_group streams lines none members rule types workers fits empty =
    let bare : FitsGroup (group_of (record { streams = streams; lines = none }) members rule types workers) =
    record {
      members = fits.members;
      each = fits.each;
      types = fits.types;
      workers = fits.workers;
      streams = fits.streams;
      line_count = (let no : length none ≡ 0 = ap length empty in omega (arith, no));
      lines = subst (λ (all : List Line). All (FitsWorldLine streams) all) (sym empty)
          (λ k d b. absurd (omega (arith, b)));
    } in
    record {
      fits = bare;
      size = is_short (group_of (record { streams = streams; lines = none }) members rule types workers) bare empty;
    }

-- whether the lines make the text too long
pub whole_is_group : (streams : ℕ) (lines : List Line) (members : List Member) (rule : WaitFor) (types workers : ℕ) →
    FitsGroup (group_of (record { streams = streams; lines = lines }) members rule types workers) →
    length (spelling_of (script_of (group_of (record { streams = streams; lines = [] }) members rule types workers)))
    + span (flat_map line_words lines) ≤ most_bytes →
    IsGroup (group_of (record { streams = streams; lines = lines }) members rule types workers)
whole_is_group streams lines members rule types workers fits short = record {
  fits = fits;
  size = (let all = measured streams lines members rule types workers in omega (arith, all, short));
}
