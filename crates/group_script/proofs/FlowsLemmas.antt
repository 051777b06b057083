-- The acts of a group: each stands in `open`, or in a branch of the operation just before it.
use Rattle.std.proofs.Common.{◌≡◌, ℕ, zero, suc, ◌+◌, ◌*◌, ◌<◌, ◌≤◌, Bool, true, false, cond, List, [], ◌∷◌, ◌++◌, Option, Some, None, filter, length, map, refl, sym, ap, subst, ◌∙◌, append_assoc, arith, length-append}
use Rattle.std.specs.Prelude.{◌==◌, not}
use Rattle.std.specs.List.{All, range_with_len}
use Rattle.std.proofs.lemmas.List.{length-map}
use Rattle.std.proofs.lemmas.List.Elements.{All-head, All-tail}
use Rattle.asio_types.specs.declared.code.Class.{Class}
use Rattle.asio_types.specs.declared.code.Class.TheVariants as class
use Rattle.session_script.specs.declared.act.Act.TheVariants as act
use Rattle.session_script.specs.Groups.{class_number}
use Rattle.session_script.specs.Limits.{limits_of}
use Rattle.session_script.specs.Script.{Entry}
use Rattle.group_script.specs.declared.member.Member.{Member}
use Rattle.group_script.specs.declared.member.Member.TheVariants as member
use Rattle.group_script.specs.Group.{Cancelling, acts_from, acts_of_member, cancelling, cancels, opened, operation_of, others, under}
use Rattle.group_script.specs.Limits.{FitsMember, most_members}

-- the operation that may have branches here, and the class of the last act under it
abbrev pub Holder : Type 0
Holder = Option (ℕ × ℕ)

-- Acts from number n on, which start the members from number i on: so many of them stand in `open`.
pub data Flows (count streams : ℕ) : ℕ → ℕ → Holder → ℕ → List Entry → Type 0 where
  over : {n i opens : ℕ} {holder : Holder} → Flows count streams n i holder opens []
  sets : {n i opens : ℕ} {holder : Holder} (after : ℕ) (rest : List Entry) → i < count →
      after ≤ (limits_of 2).time → Flows count streams (n + 1) i None opens rest →
      Flows count streams n i holder (suc opens) (opened (act.Expires i after) ∷ rest)
  starts : {n i opens : ℕ} {holder : Holder} (made : Member) (rest : List Entry) → i < count →
      FitsMember streams made → Flows count streams (n + 1) (i + 1) (Some (n, 0)) opens rest →
      Flows count streams n i holder (suc opens) (opened (operation_of i made) ∷ rest)
  emits : {n i opens op rank : ℕ} (c : Class) (j types : ℕ) (rest : List Entry) → j < count → types ≤ 7 →
      rank ≤ class_number c → n < op + 50 →
      Flows count streams (n + 1) i (Some (op, class_number c)) opens rest →
      Flows count streams n i (Some (op, rank)) opens (under op c (act.Emit j types) ∷ rest)

module _ (count streams : ℕ) where
  -- an earlier class allows more
  earlier : {n i opens op rank : ℕ} {rest : List Entry} (less : ℕ) → less ≤ rank →
      Flows count streams n i (Some (op, rank)) opens rest → Flows count streams n i (Some (op, less)) opens rest
  earlier less le over = over
  earlier less le (sets after rest within short more) = sets after rest within short more
  earlier less le (starts made rest within fits more) = starts made rest within fits more
  earlier {n} {i} {opens} {op} {rank} less le (emits c j types rest within few above near more) =
      emits c j types rest within few (omega (arith, le, above)) near more

  -- what comes after no operation comes after any
  outermost : {n i opens : ℕ} {rest : List Entry} (holder : Holder) → Flows count streams n i None opens rest →
      Flows count streams n i holder opens rest
  outermost holder over = over
  outermost holder (sets after rest within short more) = sets after rest within short more
  outermost holder (starts made rest within fits more) = starts made rest within fits more

  -- emits in one branch
  many : (i opens op types : ℕ) (c : Class) (rest : List Entry) (js : List ℕ) (n rank : ℕ) →
      All (λ j. j < count) js → types ≤ 7 → rank ≤ class_number c → n + length js ≤ op + 50 →
      Flows count streams (n + length js) i (Some (op, class_number c)) opens rest →
      Flows count streams n i (Some (op, rank)) opens (map (λ j. under op c (act.Emit j types)) js ++ rest)
  many i opens op types c rest [] n rank all few above near more =
      let same : n + 0 ≡ n = omega arith in
      earlier rank above (subst (λ k. Flows count streams k i (Some (op, class_number c)) opens rest) same more)
  many i opens op types c rest (j ∷ js) n rank all few above near more =
      let same : n + suc (length js) ≡ n + 1 + length js = omega arith in
      emits c j types (map (λ j. under op c (act.Emit j types)) js ++ rest) (All-head (λ j. j < count) j js all) few above
      (omega (arith, near))
      (many i opens op types c rest js (n + 1) (class_number c) (All-tail (λ j. j < count) j js all) few (omega arith)
      (omega (arith, near))
      (subst (λ k. Flows count streams k i (Some (op, class_number c)) opens rest) same more))

-- the other members are members, and fewer than there are
record AreOthers (most start : ℕ) (js : List ℕ) (n : ℕ) : Type 0 where
  below : All (λ j. j < most) js
  few : length js ≤ n

others_from : (p : ℕ → Bool) (most start n : ℕ) → start + n ≤ most →
    AreOthers most start (filter p (range_with_len start n)) n
others_from p most start zero within = record { below = λ k d b. absurd (omega (arith, b)); few = omega arith }
others_from p most start (suc n) within =
    by_test (p start) (others_from p most (start + 1) n (omega (arith, within)))
  where
    front : (js : List ℕ) → All (λ j. j < most) js → All (λ j. j < most) (start ∷ js)
    front js all zero d b = omega (arith, within)
    front js all (suc k) d b = all k d (omega (arith, b))

    by_test : (b : Bool) → AreOthers most (start + 1) (filter p (range_with_len (start + 1) n)) n →
        AreOthers most start
        (cond b (start ∷ filter p (range_with_len (start + 1) n)) (filter p (range_with_len (start + 1) n)))
        (suc n)
    by_test true rest = record { below = front _ rest.below; few = omega (arith, rest.few) }
    by_test false rest = record { below = rest.below; few = omega (arith, rest.few) }

module _ (how : Cancelling) (streams : ℕ) (few : how.count ≤ most_members) (small : how.types ≤ 7) where
  abbrev Follows : ℕ → ℕ → Holder → ℕ → List Entry → Type 0
  Follows n i holder opens es = Flows how.count streams n i holder opens es

  few_emits : (b : Bool) (me op : ℕ) (c : Class) →
      length (cond b (map (λ j. under op c (act.Emit j how.types)) (others me how.count)) []) ≤ most_members
  few_emits true me op c =
      let each = length-map (others me how.count) (λ j. under op c (act.Emit j how.types)) in
      let less = others_from (λ j. not (j == me)) how.count 0 how.count (omega arith) in
      omega (arith, each, less.few, few)
  few_emits false me op c = omega arith

  few_cancelling : (me op : ℕ) (c : Class) → length (cancelling how me op c) ≤ most_members
  few_cancelling me op c = few_emits (cancels how.rule c) me op c

  -- a branch of a member
  branch_by : (b : Bool) (me op i opens : ℕ) (c : Class) (rest : List Entry) (n rank : ℕ) → rank ≤ class_number c →
      n + most_members ≤ op + 50 →
      Follows (n + length (cond b (map (λ j. under op c (act.Emit j how.types)) (others me how.count)) [])) i
      (Some (op, class_number c)) opens rest →
      Follows n i (Some (op, rank)) opens
      (cond b (map (λ j. under op c (act.Emit j how.types)) (others me how.count)) [] ++ rest)
  branch_by true me op i opens c rest n rank above near more =
      let less = others_from (λ j. not (j == me)) how.count 0 how.count (omega arith) in
      let same : n + length (map (λ j. under op c (act.Emit j how.types)) (others me how.count))
      ≡ n + length (others me how.count) =
      ap (λ k. n + k) (length-map (others me how.count) (λ j. under op c (act.Emit j how.types))) in
      many how.count streams i opens op how.types c rest (others me how.count) n rank less.below small above
      (omega (arith, near, less.few, few))
      (subst (λ k. Follows k i (Some (op, class_number c)) opens rest) same more)
  branch_by false me op i opens c rest n rank above near more =
      let same : n + 0 ≡ n = omega arith in
      earlier how.count streams rank above
      (subst (λ k. Follows k i (Some (op, class_number c)) opens rest) same more)

  branch : (me op i opens : ℕ) (c : Class) (rest : List Entry) (n rank : ℕ) → rank ≤ class_number c →
      n + most_members ≤ op + 50 →
      Follows (n + length (cancelling how me op c)) i (Some (op, class_number c)) opens rest →
      Follows n i (Some (op, rank)) opens (cancelling how me op c ++ rest)
  branch me op i opens c rest n rank above near more =
      branch_by (cancels how.rule c) me op i opens c rest n rank above near more

  abbrev all_branches : ℕ → ℕ → List Entry
  all_branches me op =
      cancelling how me op class.Ok ++ (cancelling how me op class.Abort ++ cancelling how me op class.Other)

  length-branches : (me op : ℕ) →
      length (all_branches me op)
      ≡ length (cancelling how me op class.Ok)
      + (length (cancelling how me op class.Abort) + length (cancelling how me op class.Other))
  length-branches me op =
      let one = length-append (cancelling how me op class.Ok)
      (cancelling how me op class.Abort ++ cancelling how me op class.Other) in
      let two = length-append (cancelling how me op class.Abort) (cancelling how me op class.Other) in
      omega (arith, one, two)

  branches : (me op i opens : ℕ) (rest : List Entry) (n : ℕ) → n ≡ op + 1 →
      Follows (n + length (all_branches me op)) i None opens rest →
      Follows n i (Some (op, 0)) opens (all_branches me op ++ rest)
  branches me op i opens rest n is more =
      let a : List Entry = cancelling how me op class.Ok in
      let b : List Entry = cancelling how me op class.Abort in
      let c : List Entry = cancelling how me op class.Other in
      let few_a = few_cancelling me op class.Ok in
      let few_b = few_cancelling me op class.Abort in
      let few_c = few_cancelling me op class.Other in
      let all : n + length a + length b + length c ≡ n + length (all_branches me op) =
      (let sum = length-branches me op in omega (arith, sum)) in
      let shape : a ++ (b ++ (c ++ rest)) ≡ all_branches me op ++ rest =
      sym (append_assoc a (b ++ c) rest ∙ ap (λ (es : List Entry). a ++ es) (append_assoc b c rest)) in
      let last : Follows (n + length a + length b + length c) i (Some (op, 2)) opens rest =
      outermost how.count streams (Some (op, 2))
      (subst (λ k. Follows k i None opens rest) (sym all) more) in
      let third : Follows (n + length a + length b) i (Some (op, 1)) opens (c ++ rest) =
      branch me op i opens class.Other rest (n + length a + length b) 1 (omega arith)
      (omega (arith, is, few_a, few_b)) last in
      let second : Follows (n + length a) i (Some (op, 0)) opens (b ++ (c ++ rest)) =
      branch me op i opens class.Abort (c ++ rest) (n + length a) 0 (omega arith) (omega (arith, is, few_a)) third in
      let first : Follows n i (Some (op, 0)) opens (a ++ (b ++ (c ++ rest))) =
      branch me op i opens class.Ok (b ++ (c ++ rest)) n 0 (omega arith) (omega (arith, is)) second in
      subst (λ (es : List Entry). Follows n i (Some (op, 0)) opens es) shape first

  -- how many acts of `open` there are
  pub opens_of : List Member → ℕ
  opens_of [] = 0
  opens_of (member.Wait after ∷ members) = suc (suc (opens_of members))
  opens_of (member.Read stream size ∷ members) = suc (opens_of members)

  pub few_opens : (members : List Member) → opens_of members ≤ 2 * length members
  unfolding opens_of
  few_opens [] = omega arith
  few_opens (member.Wait after ∷ members) = omega (arith, few_opens members)
  few_opens (member.Read stream size ∷ members) = omega (arith, few_opens members)

  pub flow : (members : List Member) (n i : ℕ) → i + length members ≤ how.count →
      All (FitsMember streams) members → Follows n i None (opens_of members) (acts_from how i n members)
  unfolding opens_of
  flow [] n i within all = over
  flow (member.Wait after ∷ members) n i within all =
      let made : Member = member.Wait after in
      let rest : List Entry = acts_from how (i + 1) (n + length (acts_of_member how i n made)) members in
      let more : Follows (n + length (acts_of_member how i n made)) (i + 1) None (opens_of members) rest =
      flow members (n + length (acts_of_member how i n made)) (i + 1) (omega (arith, within))
      (All-tail (FitsMember streams) made members all) in
      let same : n + length (acts_of_member how i n made) ≡ n + 1 + 1 + length (all_branches i (n + 1)) = omega arith in
      sets after (opened (operation_of i made) ∷ (all_branches i (n + 1) ++ rest)) (omega (arith, within))
      (All-head (FitsMember streams) made members all)
      (starts made (all_branches i (n + 1) ++ rest) (omega (arith, within))
      (All-head (FitsMember streams) made members all)
      (branches i (n + 1) (i + 1) (opens_of members) rest (n + 1 + 1) refl
      (subst (λ k. Follows k (i + 1) None (opens_of members) rest) same more)))
  flow (member.Read stream size ∷ members) n i within all =
      let made : Member = member.Read stream size in
      let rest : List Entry = acts_from how (i + 1) (n + length (acts_of_member how i n made)) members in
      let more : Follows (n + length (acts_of_member how i n made)) (i + 1) None (opens_of members) rest =
      flow members (n + length (acts_of_member how i n made)) (i + 1) (omega (arith, within))
      (All-tail (FitsMember streams) made members all) in
      let none : n + 0 ≡ n = omega arith in
      let same : n + length (acts_of_member how i n made) ≡ n + 1 + length (all_branches i (n + 0)) = omega arith in
      starts made (all_branches i (n + 0) ++ rest) (omega (arith, within))
      (All-head (FitsMember streams) made members all)
      (subst (λ k. Follows (n + 1) (i + 1) (Some (k, 0)) (opens_of members) (all_branches i (n + 0) ++ rest)) none
      (branches i (n + 0) (i + 1) (opens_of members) rest (n + 1) (omega (arith, none))
      (subst (λ k. Follows k (i + 1) None (opens_of members) rest) same more)))

  -- a member has few acts
  pub few_acts : (members : List Member) (n i : ℕ) → length (acts_from how i n members) ≤ 50 * length members
  few_acts [] n i = omega arith
  few_acts (made ∷ members) n i =
      let own = acts_of_member how i n made in
      let rest = few_acts members (n + length own) (i + 1) in
      let both = length-append own (acts_from how (i + 1) (n + length own) members) in
      omega (arith, both, rest, few_of n i made)
    where
      few_of : (n i : ℕ) (made : Member) → length (acts_of_member how i n made) ≤ 50
      few_of n i (member.Wait after) =
          omega (
            arith,
            length-branches i (n + 1),
            few_cancelling i (n + 1) class.Ok,
            few_cancelling i (n + 1) class.Abort,
            few_cancelling i (n + 1) class.Other,
          )
      few_of n i (member.Read stream size) =
          omega (
            arith,
            length-branches i (n + 0),
            few_cancelling i (n + 0) class.Ok,
            few_cancelling i (n + 0) class.Abort,
            few_cancelling i (n + 0) class.Other,
          )
