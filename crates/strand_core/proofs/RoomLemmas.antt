-- An execution keeps the room of the handlers that stay held.
use Rattle.std.proofs.Common.{◌≡◌, ◌≢◌, ℕ, zero, suc, ◌+◌, ◌<◌, ◌≤◌, Bool, true, false, List, [], ◌∷◌, None, inl, inr, length, refl, sym, ap, subst, ◌∙◌, arith}
use Rattle.std.specs.Prelude.{◌==◌, ◌&&◌, not, slice_get, if◌then◌else◌}
use Rattle.std.specs.List.{range_with_len, sum_by}
use Rattle.std.proofs.lemmas.Bool.{cases_eq, cases_lt, eq-eqb, ne_eqb}
use Rattle.std.proofs.lemmas.List.Sums.{sum_by-cons}
use Rattle.std.proofs.lemmas.Option.{slice_get_past}
use Rattle.asio_types.specs.Code.{class_of_code}
use Rattle.asio_types.specs.declared.code.Code.{Code}
use Rattle.session_script.specs.Script.{ScriptModel, branch_of}
use Rattle.session_script.specs.Lanes.{is_inline}
use Rattle.strand_core.specs.Execution.{AnyMark, IsWholeExecution, events_of}
use Rattle.strand_core.specs.Hands.{IsInlineOf, begins_among}
use Rattle.strand_core.specs.Room.{IsOrdered, begun_in, room_for, shown_by_handler}
use Rattle.strand_core.specs.declared.posted.Posted.{Posted}
use Rattle.strand_core.specs.declared.posted.Posted.TheVariants as posted
use Rattle.strand_core.proofs.BegunLemmas.{Once, begun_held, begun_once, begun_under, parent_before, under_later}
use Rattle.strand_core.proofs.FitLemmas.{begun_whole, executions_fit}
use Rattle.strand_core.proofs.TreeLemmas.{Among, parent_of-branch, rise_branch}

-- a sum over a test from a number on
abbrev passing : (ℕ → ℕ) → (ℕ → Bool) → ℕ → ℕ → ℕ
passing weight test a n = sum_by (λ m. if test m then weight m else 0) (range_with_len a n)

choice_less : (b c : Bool) (w : ℕ) → (b ≡ true → c ≡ true) → (if b then w else 0) ≤ (if c then w else 0)
choice_less true c w more = let is : c ≡ true = more refl in rw is (omega arith)
choice_less false c w more = omega arith

passing_less : (weight : ℕ → ℕ) (one two : ℕ → Bool) (a n : ℕ) → ((m : ℕ) → one m ≡ true → two m ≡ true) →
    passing weight one a n ≤ passing weight two a n
passing_less weight one two a zero more = omega arith
passing_less weight one two a (suc n) more =
    omega (
      arith,
      passing_less weight one two (a + 1) n more,
      choice_less (one a) (two a) (weight a) (more a),
      sum_by-cons (λ m. if one m then weight m else 0) a (range_with_len (a + 1) n),
      sum_by-cons (λ m. if two m then weight m else 0) a (range_with_len (a + 1) n),
    )

-- where fewer are held, less room is wanted
pub room_for-less : (script : ScriptModel) (one two : ℕ → Bool) → ((m : ℕ) → one m ≡ true → two m ≡ true) →
    room_for script one ≤ room_for script two
room_for-less script one two more = passing_less (shown_by_handler script) one two 0 (length script.acts) more

-- one number that passes no more
passing_without : (weight : ℕ → ℕ) (one two : ℕ → Bool) (x a n : ℕ) → a ≤ x → x < a + n → two x ≡ true →
    one x ≡ false → ((m : ℕ) → one m ≡ true → two m ≡ true) →
    weight x + passing weight one a n ≤ passing weight two a n
passing_without weight one two x a zero from less is isnt more = absurd (omega (arith, from, less))
passing_without weight one two x a (suc n) from less is isnt more = elim (cases_eq a x) [
  | inl same ↦
      let here : (if one a then weight a else 0) ≡ 0 =
      ap (λ b. if b then weight a else 0) (ap one same ∙ isnt) in
      let there : (if two a then weight a else 0) ≡ weight x =
      ap (λ b. if b then weight a else 0) (ap two same ∙ is) ∙ ap weight same in
      omega (
        arith,
        here,
        there,
        passing_less weight one two (a + 1) n more,
        sum_by-cons (λ m. if one m then weight m else 0) a (range_with_len (a + 1) n),
        sum_by-cons (λ m. if two m then weight m else 0) a (range_with_len (a + 1) n),
      )
  | inr differ ↦
      omega (
        arith,
        passing_without weight one two x (a + 1) n (omega (arith, from, differ)) (omega (arith, less)) is isnt more,
        choice_less (one a) (two a) (weight a) (more a),
        sum_by-cons (λ m. if one m then weight m else 0) a (range_with_len (a + 1) n),
        sum_by-cons (λ m. if two m then weight m else 0) a (range_with_len (a + 1) n),
      )
]

without : ℕ → (ℕ → Bool) → ℕ → Bool
without m test k = if m == k then false else test k

without_it : (m : ℕ) (test : ℕ → Bool) → without m test m ≡ false
unfolding without
without_it m test = let here : (m == m) ≡ true = eq-eqb m m refl in rw here refl

without_more : (m : ℕ) (test : ℕ → Bool) (k : ℕ) → without m test k ≡ true → test k ≡ true
unfolding without
without_more m test k is = elim (cases_eq m k) [
  | inl same ↦ absurd (let here : (m == k) ≡ true = eq-eqb m k same in
      let none : without m test k ≡ false = rw here refl in cc (none, is))
  | inr differ ↦ let other : (m == k) ≡ false = ne_eqb m k differ in
      let same : without m test k ≡ test k = rw other refl in sym same ∙ is
]

without_other : (m : ℕ) (test : ℕ → Bool) (k : ℕ) → m ≢ k → test k ≡ true → without m test k ≡ true
unfolding without
without_other m test k differ is = let other : (m == k) ≡ false = ne_eqb m k differ in rw other is

-- numbers that pass no more give their weights back
falls : (weight : ℕ → ℕ) (n : ℕ) (ms : List ℕ) (before after : ℕ → Bool) → Once ms →
    ((m : ℕ) → Among m ms → m < n) → ((m : ℕ) → Among m ms → before m ≡ true) →
    ((m : ℕ) → after m ≡ true → before m ≡ true) → ((m : ℕ) → after m ≡ true → Among m ms → ⊥) →
    sum_by weight ms + passing weight after 0 n ≤ passing weight before 0 n
falls weight n [] before after once within held more gone =
    omega (arith, passing_less weight after before 0 n more)
falls weight n (m ∷ ms) before after once within held more gone =
    let rest : sum_by weight ms + passing weight after 0 n ≤ passing weight (without m before) 0 n =
    falls weight n ms (without m before) after once.1 (λ k among. within k (inr among))
    (λ k among.
    without_other m before k (λ same. once.0 (subst (λ x. Among x ms) (sym same) among)) (held k (inr among)))
    (λ k is. without_other m before k (λ same. gone k is (inl same)) (more k is))
    (λ k is among. gone k is (inr among)) in
    let one : weight m + passing weight (without m before) 0 n ≤ passing weight before 0 n =
    passing_without weight (without m before) before m 0 n (omega arith)
    (omega (arith, within m (inl refl))) (held m (inl refl)) (without_it m before) (without_more m before) in
    omega (arith, rest, one, sum_by-cons weight m ms)

begins_here : (n op : ℕ) (rest : Bool) → op ≡ n → (if op == n then true else rest) ≡ true
begins_here n op rest same = let here : (op == n) ≡ true = eq-eqb op n same in rw here refl

begins_later : (b rest : Bool) → rest ≡ true → (if b then true else rest) ≡ true
begins_later true rest is = refl
begins_later false rest is = is

-- what begins in calls begins among them
begins_of : (n : ℕ) (calls : List Posted) → Among n (begun_in calls) → begins_among n calls ≡ true
begins_of n [] among = absurd among
begins_of n (posted.Begin op code size begun ∷ calls) (inl same) = begins_here n op (begins_among n calls) same
begins_of n (posted.Begin op code size begun ∷ calls) (inr more) =
    begins_later (op == n) (begins_among n calls) (begins_of n calls more)
begins_of n (posted.Call act ∷ calls) among = begins_of n calls among
begins_of n (posted.Back act ∷ calls) among = begins_of n calls among
begins_of n (posted.End op ran ∷ calls) among = begins_of n calls among

both_parts : (a b : Bool) → (a && not b) ≡ true → (a ≡ true) × (b ≡ false)
both_parts true true is = absurd (cc is)
both_parts true false is = (refl, refl)
both_parts false b is = absurd (cc is)

inline_within : (script : ScriptModel) (n : ℕ) → is_inline script n ≡ true → n < length script.acts
inline_within script n is = elim (cases_lt n (length script.acts)) [
  | inl less ↦ less
  | inr past ↦
      let gone : slice_get script.acts n ≡ None = slice_get_past script.acts n past in
      let none : is_inline script n ≡ false = rw gone refl in
      absurd (cc (none, is))
]

pub executions_keep_room : (script : ScriptModel) (op : ℕ) (given : Code) (size : ℕ) (calls : List Posted)
    (held : ℕ → Bool) → IsOrdered script → op < length script.acts →
    IsWholeExecution script AnyMark op given size calls → held op ≡ true →
    ((caller n : ℕ) → held caller ≡ true → IsInlineOf script caller n → held n ≡ true) →
    length (events_of script calls) + room_for script (λ n. held n && not (begins_among n calls)) ≤ room_for script held
executions_keep_room script op given size calls held ordered within whole is_held keeps =
    let begins : begun_in calls ≡ op ∷ begun_in whole.body =
    ap begun_in whole.is ∙ begun_whole op whole.begun whole.mark given size whole.body in
    let place = λ (a : ℕ) (among : Among a (branch_of script op (class_of_code given))).
    parent_of-branch script op (class_of_code given) a among in
    let once : Once (begun_in calls) =
    subst Once (sym begins) (
      (λ among. not_itself among),
      begun_once script ordered AnyMark op (class_of_code given)
          whole.acts place (rise_branch script op (class_of_code given)),
    ) in
    let fit = falls (shown_by_handler script) (length script.acts) (begun_in calls) held
    (λ n. held n && not (begins_among n calls)) once
    (λ m among. each_within m (subst (Among m) begins among)) (λ m among. each_held m (subst (Among m) begins among))
    (λ m is. (both_parts (held m) (begins_among m calls) is).0)
    (λ m is among.
    let none : begins_among m calls ≡ false = (both_parts (held m) (begins_among m calls) is).1 in
    let some : begins_among m calls ≡ true = begins_of m calls among in
    absurd (cc (none, some))) in
    omega (arith, fit, executions_fit script op given size calls whole)
  where
    not_itself : Among op (begun_in whole.body) → ⊥
    not_itself among =
        let b = begun_under script ordered AnyMark whole.acts op among in
        absurd (omega (
          arith,
          under_later script ordered b.act b.under,
          parent_before script ordered b.act op (class_of_code given)
              (parent_of-branch script op (class_of_code given) b.act b.among),
        ))

    each_within : (m : ℕ) → Among m (op ∷ begun_in whole.body) → m < length script.acts
    each_within m (inl same) = omega (arith, same, within)
    each_within m (inr among) =
        let b = begun_under script ordered AnyMark whole.acts m among in inline_within script m b.is_inline

    each_held : (m : ℕ) → Among m (op ∷ begun_in whole.body) → held m ≡ true
    each_held m (inl same) = ap held (sym same) ∙ is_held
    each_held m (inr among) =
        begun_held script ordered AnyMark held keeps op (class_of_code given) whole.acts
        (λ a in_acts. parent_of-branch script op (class_of_code given) a in_acts) is_held m among
