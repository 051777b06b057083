-- What is spelled has words in its version, and lies above the greatest depth.
use Rattle.std.proofs.Common.{◌≡◌, ℕ, suc, ◌+◌, ◌^◌, ◌<◌, ◌≤◌, inl, inr, true, List, [], ◌∷◌, ◌++◌, length, Option, Some, None, refl, sym, ap, subst, arith, append-nil}
use Rattle.std.specs.Prelude.{slice_get}
use Rattle.std.specs.List.{AllByRecursion, list_all}
use Rattle.std.proofs.lemmas.List.Elements.{All-from_recursion}
use Rattle.std.proofs.lemmas.Option.{slice_get_cases}
use Rattle.asio_types.specs.declared.world.Line.{Line}
use Rattle.asio_types.specs.declared.world.What.{What}
use Rattle.asio_types.specs.declared.world.What.TheVariants as what
use Rattle.asio_types.specs.declared.code.Class.TheVariants as class
use Rattle.session_script.specs.declared.act.Act.{Act}
use Rattle.session_script.specs.declared.act.Act.TheVariants as act
use Rattle.session_script.specs.declared.act.Bodies.{Bodies}
use Rattle.session_script.specs.Kinds.{is_hexadecimal, decoded}
use Rattle.session_script.specs.Limits.{limits_of, most_bytes}
use Rattle.session_script.specs.Script.{Entry, Place, ScriptModel, act_of, parent_of}
use Rattle.session_script.specs.Acts.{bodies_of}
use Rattle.session_script.specs.Text.{Words, IsDataText, IsPlugText, IsFieldsText, IsActText, IsWhatText, IsLinesText, IsBodyText, in_braces, IsActsText, no_act, an_act, IsBodiesText, no_body, one_body, all_bodies, IsBranchText, left_out, spelled_out, IsScriptText}
use Rattle.session_script.specs.WellFormed.{has_branch, IsNested, in_open, in_branch, IsWellFormed}
use Rattle.session_script.specs.Spelling.{spelling_of}
use Rattle.session_script.specs.Writable.{AreBytes, HasFilter, HasFields, HasWords, IsFedBytes, IsWritable}
use Rattle.session_script.proofs.HoldingLemmas.{both}
use Rattle.session_script.proofs.DataLemmas.{hexadecimal-small}
use Rattle.session_script.proofs.NumeralsLemmas.{digits_are_hexadecimal}
use Rattle.session_script.proofs.AppendingLemmas.{Continues, continues_both, acts_append, bodies_append, branch_appends}
use Rattle.session_script.proofs.TextOrderLemmas.{below_or_from, entry_there, parent_there, one_longer, spelled_in_order}

decoded_are_bytes : (digits : List ℕ) → list_all is_hexadecimal digits ≡ true →
    AllByRecursion (λ b. b < 2 ^ 8) (decoded digits)
decoded_are_bytes [] all = tt
decoded_are_bytes (high ∷ []) all = tt
decoded_are_bytes (high ∷ low ∷ digits) all =
    let first = both (is_hexadecimal high) (list_all is_hexadecimal (low ∷ digits)) all in
    let second = both (is_hexadecimal low) (list_all is_hexadecimal digits) first.1 in
    (omega (arith, hexadecimal-small high first.0, hexadecimal-small low second.0), decoded_are_bytes digits second.1)

data_are_bytes : (bytes : List ℕ) (ws rest : Words) → IsDataText bytes ws rest → AreBytes bytes
data_are_bytes bytes ws rest p =
    subst AreBytes (sym p.4) (All-from_recursion (λ b. b < 2 ^ 8) (decoded p.2)
    (decoded_are_bytes p.2 (digits_are_hexadecimal p.1 p.0 p.2 p.3)))

filter_is_had : (version : ℕ) (slot : Option ℕ) (filter : ℕ) (ws rest : Words) →
    IsPlugText version slot filter ws rest → HasFilter version slot filter
filter_is_had version slot filter ws rest (inl p) = inl p.1
filter_is_had version slot filter ws rest (inr p) = inr (p.0, rw p.1.3 refl)

fields_are_had : (version : ℕ) (made : Act) (ws rest : Words) → IsFieldsText version made ws rest →
    HasFields version made
fields_are_had version (act.Post strand) ws rest p = tt
fields_are_had version (act.Defer strand) ws rest p = tt
fields_are_had version (act.Dispatch strand) ws rest p = tt
fields_are_had version (act.Expires timer after) ws rest p = tt
fields_are_had version (act.ExpiresAt timer at) ws rest p = tt
fields_are_had version (act.Wait timer strand slot filter) ws rest p =
    filter_is_had version slot filter p.2.0 rest p.2.2
fields_are_had version (act.Cancel timer) ws rest p = tt
fields_are_had version (act.CancelOne timer) ws rest p = tt
fields_are_had version (act.Emit slot kinds) ws rest p = tt
fields_are_had version (act.ReadSome stream size strand slot filter) ws rest p =
    filter_is_had version slot filter p.4.0 rest p.4.2
fields_are_had version (act.ReadAll stream size strand slot filter) ws rest p =
    filter_is_had version slot filter p.4.0 rest p.4.2
fields_are_had version (act.Until stream delimiter max strand slot filter) ws rest p =
    (data_are_bytes delimiter p.0 p.1 p.4, filter_is_had version slot filter p.6.0 rest p.6.2)
fields_are_had version (act.WriteSome stream bytes strand slot filter) ws rest p =
    (data_are_bytes bytes p.0 p.1 p.3, filter_is_had version slot filter p.4.0 rest p.4.2)
fields_are_had version (act.WriteAll stream bytes strand slot filter) ws rest p =
    (data_are_bytes bytes p.0 p.1 p.3, filter_is_had version slot filter p.4.0 rest p.4.2)
fields_are_had version (act.Close stream) ws rest p = tt
fields_are_had version (act.Release guard) ws rest p = tt
fields_are_had version act.Stop ws rest p = tt

words_are_had : (version : ℕ) (made : Act) (ws rest : Words) → IsActText version made ws rest → HasWords version made
words_are_had version made ws rest p = (p.1, fields_are_had version made p.0 rest p.3)

fed_are_bytes : (happens : What) (stream : ℕ) (ws rest : Words) → IsWhatText happens stream ws rest → IsFedBytes happens
fed_are_bytes (what.Feed bytes) stream ws rest p = data_are_bytes bytes p.1 rest p.4
fed_are_bytes what.End stream ws rest p = tt
fed_are_bytes what.Reset stream ws rest p = tt
fed_are_bytes (what.Room room) stream ws rest p = tt

lines_are_fed : (lines : List Line) (ws rest : Words) → IsLinesText lines ws rest →
    AllByRecursion (λ line. IsFedBytes line.what) lines
lines_are_fed [] ws rest p = tt
lines_are_fed (line ∷ lines) ws rest p =
    (fed_are_bytes line.what line.stream p.1.1 p.0 p.1.4, lines_are_fed lines p.0 rest p.2)

-- a place lies at one depth
one_depth : {acts : List Entry} {place : Place} {depth other : ℕ} → IsNested acts place depth →
    IsNested acts place other → depth ≡ other
one_depth in_open in_open = refl
one_depth {acts = acts} (in_branch {parent = parent} {depth = depth} there above)
    (in_branch {parent = parent'} {depth = depth'} there' above') =
    let same : parent ≡ parent' = cc (there, there') in
    ap suc (one_depth above (subst (λ (e : Entry). IsNested acts e.parent depth') (sym same) above'))

body_levels : {version levels : ℕ} {place : Place} {before after : List Entry} {ws rest : Words} →
    IsBodyText version levels place before after ws rest → 1 ≤ levels
body_levels (in_braces a b opens acts closes) = omega arith

bodies_levels : {version levels op : ℕ} {which : Bodies} {before after : List Entry} {ws rest : Words} →
    IsBodiesText version levels which op before after ws rest → has_branch which class.Ok ≡ true → 1 ≤ levels
bodies_levels no_body has = absurd (cc has)
bodies_levels (one_body body) has = body_levels body
bodies_levels (all_bodies after_ok after_abort a b body abort other) has = body_levels body

module _ (script : ScriptModel) (well : IsWellFormed script) where
  -- what is said of the acts from one number to another
  record Spoken (low high : ℕ) : Type 0 where
    words : (n : ℕ) (made : Act) → low ≤ n → n < high → act_of script n ≡ Some made → HasWords script.version made
    depth : (n depth : ℕ) (made : Act) → low ≤ n → n < high → act_of script n ≡ Some made →
        has_branch (bodies_of made) class.Ok ≡ true → IsNested script.acts (parent_of script n) depth →
        depth < (limits_of script.version).nesting

  spoken_none : (low : ℕ) → Spoken low low
  spoken_none low = record {
    words = λ n made le lt is. absurd (omega arith);
    depth = λ n depth made le lt is has nested. absurd (omega arith);
  }

  spoken_both : (low mid high : ℕ) → Spoken low mid → Spoken mid high → Spoken low high
  spoken_both low mid high one two = record {
    words = λ n made le lt is.
        elim (below_or_from n mid) [ inl less ↦ one.words n made le less is | inr more ↦ two.words n made more lt is ];
    depth = λ n depth made le lt is has nested.
        elim (below_or_from n mid) [
          | inl less ↦ one.depth n depth made le less is has nested
          | inr more ↦ two.depth n depth made more lt is has nested
        ];
  }

  spoken_one : (i levels depth : ℕ) (made : Act) → act_of script i ≡ Some made → HasWords script.version made →
      IsNested script.acts (parent_of script i) depth → depth + levels ≡ (limits_of script.version).nesting →
      (has_branch (bodies_of made) class.Ok ≡ true → 1 ≤ levels) → Spoken i (suc i)
  spoken_one i levels depth made is has nested left room = record {
    words = λ n found le lt is'.
        let same : made ≡ found = made_is n found (omega arith) is' in subst (HasWords script.version) same has;
    depth = λ n other found le lt is' branch nested'.
        let here : n ≡ i = omega arith in
        let same : made ≡ found = made_is n found here is' in
        let one : depth ≡ other =
        one_depth nested (subst (λ (k : ℕ). IsNested script.acts (parent_of script k) other) here nested') in
        omega (arith, left, one, room (subst (λ (a : Act). has_branch (bodies_of a) class.Ok ≡ true) (sym same) branch));
  }
    where
      made_is : (n : ℕ) (found : Act) → n ≡ i → act_of script n ≡ Some found → made ≡ found
      made_is n found here is' =
          let e : act_of script i ≡ Some found = subst (λ (k : ℕ). act_of script k ≡ Some found) here is' in cc (is, e)

  mutual
    body_spoken : {levels depth : ℕ} {place : Place} {before after : List Entry} {ws rest : Words} →
        IsBodyText script.version levels place before after ws rest → IsNested script.acts place depth →
        depth + levels ≡ (limits_of script.version).nesting + 1 → Continues after script.acts →
        Spoken (length before) (length after)
    body_spoken (in_braces a b opens acts closes) nested left more = acts_spoken acts nested (omega arith) more

    acts_spoken : {levels depth : ℕ} {place : Place} {before after : List Entry} {ws rest : Words} →
        IsActsText script.version levels place before after ws rest → IsNested script.acts place depth →
        depth + levels ≡ (limits_of script.version).nesting → Continues after script.acts →
        Spoken (length before) (length after)
    acts_spoken (no_act {acts = acts}) nested left more = spoken_none (length acts)
    acts_spoken {levels = levels} {depth = depth} {place = place} {before = before} {after = after} {ws = ws}
        (an_act made mid a b act bodies acts) nested left more =
        let e : Entry = record { act = made; parent = place } in
        let to_mid : Continues mid script.acts = continues_both (acts_append acts).continues more in
        let to_act : Continues (before ++ e ∷ []) script.acts =
        continues_both (bodies_append bodies).continues to_mid in
        let there : slice_get script.acts (length before) ≡ Some e = entry_there script well before e to_act in
        let own : act_of script (length before) ≡ Some made = rw there refl in
        let here : IsNested script.acts (parent_of script (length before)) depth =
        subst (λ (q : Place). IsNested script.acts q depth) (sym (parent_there script well before e to_act)) nested in
        let one : Spoken (length before) (suc (length before)) =
        spoken_one (length before) levels depth made own (words_are_had script.version made ws a act) here left
        (bodies_levels bodies) in
        let inner : Spoken (suc (length before)) (length mid) =
        subst (λ (low : ℕ). Spoken low (length mid)) (one_longer script well before e)
        (bodies_spoken bodies there nested left to_mid) in
        spoken_both (length before) (suc (length before)) (length after) one
        (spoken_both (suc (length before)) (length mid) (length after) inner (acts_spoken acts nested left more))

    bodies_spoken : {levels depth op : ℕ} {which : Bodies} {e : Entry} {before after : List Entry} {ws rest : Words} →
        IsBodiesText script.version levels which op before after ws rest → slice_get script.acts op ≡ Some e →
        IsNested script.acts e.parent depth → depth + levels ≡ (limits_of script.version).nesting →
        Continues after script.acts → Spoken (length before) (length after)
    bodies_spoken (no_body {acts = acts}) there nested left more = spoken_none (length acts)
    bodies_spoken (one_body body) there nested left more = body_spoken body (in_branch there nested) (omega arith) more
    bodies_spoken {before = before} {after = after} (all_bodies after_ok after_abort a b body abort other) there nested
        left more =
        let to_abort : Continues after_abort script.acts = continues_both (branch_appends other).continues more in
        let to_ok : Continues after_ok script.acts = continues_both (branch_appends abort).continues to_abort in
        spoken_both (length before) (length after_ok) (length after)
        (body_spoken body (in_branch there nested) (omega arith) to_ok)
        (spoken_both (length after_ok) (length after_abort) (length after)
        (branch_spoken abort (in_branch there nested) (omega arith) to_abort)
        (branch_spoken other (in_branch there nested) (omega arith) more))

    branch_spoken : {levels depth : ℕ} {text : List ℕ} {place : Place} {before after : List Entry} {ws rest : Words} →
        IsBranchText script.version levels text place before after ws rest → IsNested script.acts place depth →
        depth + levels ≡ (limits_of script.version).nesting + 1 → Continues after script.acts →
        Spoken (length before) (length after)
    branch_spoken (left_out {acts = acts}) nested left more = spoken_none (length acts)
    branch_spoken (spelled_out a word body) nested left more = body_spoken body nested left more

  act_within : (n : ℕ) (made : Act) → act_of script n ≡ Some made → n < length script.acts
  act_within n made is = elim (slice_get_cases script.acts n).1 [
    | inl found ↦ found.1
    | inr past ↦ let none : act_of script n ≡ None = rw past.1 refl in absurd (cc (none, is))
  ]

  pub spelled_is_writable : (ws : Words) → IsScriptText script ws → length (spelling_of script) ≤ most_bytes →
      IsWritable script
  spelled_is_writable ws is short =
      let all = body_spoken is.acts in_open (omega arith) (record { new = []; is = sym (append-nil script.acts) }) in
      record {
        words = λ n made found. all.words n made (omega arith) (act_within n made found) found;
        fed =
            All-from_recursion (λ (line : Line). IsFedBytes line.what) script.world.lines
            (lines_are_fed script.world.lines is.at_lines is.at_open is.lines);
        order = spelled_in_order script well is.acts;
        depth = λ n depth made found has nested.
            all.depth n depth made (omega arith) (act_within n made found) found has nested;
        size = short;
      }
