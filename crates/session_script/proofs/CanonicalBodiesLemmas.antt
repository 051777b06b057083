-- The words that a body is written as can stand for any words that spell it.
use Rattle.std.proofs.Common.{◌≡◌, ℕ, ◌<◌, ◌≤◌, List, [], ◌∷◌, ◌++◌, length, Some, None, refl, sym, ap, subst, ◌∙◌, append_assoc, arith, length-append}
use Rattle.std.specs.Prelude.{slice_get}
use Rattle.std.specs.List.{flat_map}
use lib.Chars.{codes}
use Rattle.asio_types.specs.declared.code.Class.{Class}
use Rattle.asio_types.specs.declared.code.Class.TheVariants as class
use Rattle.session_script.specs.declared.act.Act.{Act}
use Rattle.session_script.specs.declared.act.Bodies.{Bodies}
use Rattle.session_script.specs.Script.{Place, Entry, ScriptModel, opening_of, branch_of}
use Rattle.session_script.specs.Tokens.{is_printable}
use Rattle.session_script.specs.Acts.{bodies_of}
use Rattle.session_script.specs.Text.{Words, IsWord, act_text, IsActText, IsBodyText, in_braces, IsActsText, no_act, an_act, IsBodiesText, no_body, one_body, all_bodies, IsBranchText, left_out, spelled_out}
use Rattle.session_script.specs.Spelling.{field_words, BodyWords, branch_words, bodies_words, entry_words, body_words}
use Rattle.session_script.proofs.TokenizingLemmas.{IsToken, size}
use Rattle.session_script.proofs.RespellingLemmas.{Respells, Rewrites, rewrites_none, rewrites_word, rewrites_both, rewrites_as}
use Rattle.session_script.proofs.AppendingLemmas.{Continues, continues_both, new_numbers, new_numbers-none, NotIn, Away, Appends, acts_append, bodies_append, body_appends, branch_appends, act_longer}
use Rattle.session_script.proofs.GatheringLemmas.{Around, around_whole, IsEarlier, below_later, numbers_of_act, around_bodies, around_others, body_none}
use Rattle.session_script.proofs.BranchesLemmas.{IsBranch, only_branch, ok_branch, abort_branch, final_branch}

brace_opens : IsToken (codes "{")
unfolding is_printable
brace_opens = (omega arith, refl)

brace_closes : IsToken (codes "}")
unfolding is_printable
brace_closes = (omega arith, refl)

abort_is_token : IsToken (codes "abort")
unfolding is_printable
abort_is_token = (omega arith, refl)

other_is_token : IsToken (codes "other")
unfolding is_printable
other_is_token = (omega arith, refl)

pub entry_at : (before : List Entry) (e : Entry) (later : List Entry) →
    slice_get (before ++ e ∷ later) (length before) ≡ Some e
entry_at [] e later = refl
entry_at (x ∷ before) e later = entry_at before e later

entry_words_are : (body : BodyWords) (script : ScriptModel) (before : List Entry) (e : Entry) →
    Continues (before ++ e ∷ []) script.acts →
    entry_words body script (length before)
    ≡ act_text e.act ∷ (field_words e.act ++ bodies_words body script (length before) (bodies_of e.act))
entry_words_are body script before e more =
    let there : slice_get script.acts (length before) ≡ Some e =
    ap (λ acts. slice_get acts (length before)) (more.is ∙ append_assoc before (e ∷ []) more.new)
    ∙ entry_at before e more.new in
    rw there refl

-- the acts with these numbers, each with its bodies
abbrev acts_words : ℕ → ScriptModel → BodyWords
acts_words levels script = flat_map (entry_words (body_words levels script) script)

acts_words_are : (levels : ℕ) (script : ScriptModel) (before : List Entry) (e : Entry) (others : List ℕ) →
    Continues (before ++ e ∷ []) script.acts →
    acts_words levels script (length before ∷ others)
    ≡ (act_text e.act ∷ field_words e.act)
    ++ (bodies_words (body_words levels script) script (length before) (bodies_of e.act)
    ++ acts_words levels script others)
acts_words_are levels script before e others more =
    let later = acts_words levels script others in
    ap (λ first. first ++ later) (entry_words_are (body_words levels script) script before e more)
    ∙ append_assoc (act_text e.act ∷ field_words e.act)
    (bodies_words (body_words levels script) script (length before) (bodies_of e.act)) later

-- words with the acts of a branch, as the script has them
on_branch : {script : ScriptModel} {op : ℕ} {branch : Class} {before after : List Entry} {P : Words → Words → Type 0}
    {ws rest : Words} (words : BodyWords) → IsBranch script op branch before after →
    Rewrites P (words (new_numbers (Some (op, branch)) before after)) ws rest →
    Rewrites P (words (branch_of script op branch)) ws rest
on_branch {P = P} {ws = ws} {rest = rest} words part known =
    subst (λ numbers. Rewrites P (words numbers) ws rest) (sym part.numbers) known

-- a body after its word; one with no act of its own is left out
module _ (version : ℕ) (script : ScriptModel) where
  written_rewrites : (levels : ℕ) (text : List ℕ) (place : Place) (before after : List Entry) (ws a rest : Words)
      (numbers : List ℕ) → IsToken text → IsWord text ws a → (numbers ≡ [] → before ≡ after) →
      Rewrites (IsBodyText version levels place before after) (body_words levels script numbers) a rest →
      Rewrites (IsBranchText version levels text place before after)
      (branch_words (body_words levels script) text numbers) ws rest
  written_rewrites levels text place before after ws a rest [] token word none body =
      subst (λ acts. Rewrites (IsBranchText version levels text place before acts) [] ws rest) (none refl)
      (rewrites_none ws rest (omega (arith, ap size word, body.shorter)) (λ other. left_out))
  written_rewrites levels text place before after ws a rest (n ∷ ns) token word none body =
      rewrites_both (λ ws mid rest word body. spelled_out mid word body) (rewrites_word text ws a token word) body

module _ (version : ℕ)
    (act_respells : (made : Act) → Respells (IsActText version made) (act_text made ∷ field_words made))
    (script : ScriptModel) where
  -- an act, its bodies and the acts after it
  act_rewrites : (levels : ℕ) (before mid after : List Entry) (e : Entry) (ws a b rest : Words) →
      Continues (before ++ e ∷ []) script.acts →
      new_numbers e.parent before after ≡ length before ∷ new_numbers e.parent mid after →
      IsActText version e.act ws a →
      Rewrites (IsBodiesText version levels (bodies_of e.act) (length before) (before ++ e ∷ []) mid)
      (bodies_words (body_words levels script) script (length before) (bodies_of e.act)) a b →
      Rewrites (IsActsText version levels e.parent mid after)
      (acts_words levels script (new_numbers e.parent mid after)) b rest →
      Rewrites (IsActsText version levels e.parent before after)
      (acts_words levels script (new_numbers e.parent before after)) ws rest
  act_rewrites levels before mid after e ws a b rest more numbers act bodies others =
      let words =
      ap (acts_words levels script) numbers
      ∙ acts_words_are levels script before e (new_numbers e.parent mid after) more in
      subst (λ words. Rewrites (IsActsText version levels e.parent before after) words ws rest) (sym words)
      (rewrites_both
      {Q = λ a rest.
      (b : Words) × IsBodiesText version levels (bodies_of e.act) (length before) (before ++ e ∷ []) mid a b
      × IsActsText version levels e.parent mid after b rest}
      (λ ws a rest act later. an_act e.act mid a later.0 act later.1 later.2)
      ((act_respells e.act).rewrites ws a act)
      (rewrites_both (λ a b rest bodies others. (b, bodies, others)) bodies others))

  mutual
    pub body_rewrites : {levels : ℕ} {place : Place} {before after : List Entry} {ws rest : Words} →
        IsBodyText version levels place before after ws rest → IsEarlier (length before) place →
        Around script (length before) before after →
        Rewrites (IsBodyText version levels place before after)
        (body_words levels script (new_numbers place before after)) ws rest
    body_rewrites {place = place} {before = before} {after = after} {ws = ws} {rest = rest}
        (in_braces {levels = levels} a b opens acts closes) below around =
        rewrites_both
        {Q = λ a rest. (b : Words) × IsActsText version levels place before after a b × IsWord (codes "}") b rest}
        (λ ws a rest opens later. in_braces a later.0 opens later.1 later.2)
        (rewrites_word (codes "{") ws a brace_opens opens)
        (rewrites_both (λ a b rest acts closes. (b, acts, closes)) (acts_rewrite acts below around)
        (rewrites_word (codes "}") b rest brace_closes closes))

    acts_rewrite : {levels : ℕ} {place : Place} {before after : List Entry} {ws rest : Words} →
        IsActsText version levels place before after ws rest → IsEarlier (length before) place →
        Around script (length before) before after →
        Rewrites (IsActsText version levels place before after)
        (acts_words levels script (new_numbers place before after)) ws rest
    acts_rewrite {levels = levels} {place = place} (no_act {acts = acts} {ws = ws}) below around =
        subst (λ numbers. Rewrites (IsActsText version levels place acts acts) (acts_words levels script numbers) ws ws)
        (sym (new_numbers-none place acts)) (rewrites_none ws ws (omega arith) (λ other. no_act))
    acts_rewrite {levels = levels} {place = place} {before = before} {after = after} {ws = ws} {rest = rest}
        (an_act made mid a b act bodies acts) below around =
        let e : Entry = record { act = made; parent = place } in
        let inner : Appends (Away (length before)) (before ++ e ∷ []) mid = bodies_append bodies in
        let later : Appends (NotIn place) mid after = acts_append acts in
        let longer : length before ≤ length mid = omega (arith, act_longer before e inner.continues) in
        let own = around_bodies before e below around inner later in
        act_rewrites levels before mid after e ws a b rest (continues_both inner.continues own.continues)
        (numbers_of_act before e below inner later.continues) act
        (bodies_rewrite bodies (omega (arith, length-append before (e ∷ []))) own)
        (acts_rewrite acts (below_later (length before) (length mid) place longer below)
        (around_others before e below around inner later))

    bodies_rewrite : {levels : ℕ} {kind : Bodies} {op : ℕ} {before after : List Entry} {ws rest : Words} →
        IsBodiesText version levels kind op before after ws rest → op < length before → Around script op before after →
        Rewrites (IsBodiesText version levels kind op before after)
        (bodies_words (body_words levels script) script op kind) ws rest
    bodies_rewrite (no_body {ws = ws}) below around = rewrites_none ws ws (omega arith) (λ other. no_body)
    bodies_rewrite {levels = levels} {op = op} (one_body body) below around =
        let part = only_branch op around below (body_appends body).continues in
        rewrites_as (λ ws rest p. one_body p)
        (on_branch (body_words levels script) part (body_rewrites body part.below part.around))
    bodies_rewrite {levels = levels} {op = op} {before = before} {after = after}
        (all_bodies after_ok after_abort a b body abort other) below around =
        let first = body_appends body in
        let second = branch_appends abort in
        let third = branch_appends other in
        let ok = ok_branch op around below first second third in
        let aborted = abort_branch op around below first second third in
        let final = final_branch op around below first second third in
        rewrites_both {Q = λ a rest.
        (b : Words) × IsBranchText version levels (codes "abort") (Some (op, class.Abort)) after_ok after_abort a b
        × IsBranchText version levels (codes "other") (Some (op, class.Other)) after_abort after b rest}
        (λ ws a rest body later. all_bodies after_ok after_abort a later.0 body later.1 later.2)
        (on_branch (body_words levels script) ok (body_rewrites body ok.below ok.around))
        (rewrites_both (λ a b rest abort other. (b, abort, other))
        (on_branch (branch_words (body_words levels script) (codes "abort")) aborted
        (branch_rewrites abort abort_is_token aborted.below aborted.around))
        (on_branch (branch_words (body_words levels script) (codes "other")) final (branch_rewrites other other_is_token final.below final.around)))

    branch_rewrites : {levels : ℕ} {text : List ℕ} {place : Place} {before after : List Entry} {ws rest : Words} →
        IsBranchText version levels text place before after ws rest → IsToken text → IsEarlier (length before) place →
        Around script (length before) before after →
        Rewrites (IsBranchText version levels text place before after)
        (branch_words (body_words levels script) text (new_numbers place before after)) ws rest
    branch_rewrites {levels = levels} {text = text} {place = place} (left_out {acts = acts} {ws = ws}) token below around =
        subst
        (λ numbers.
        Rewrites (IsBranchText version levels text place acts acts)
        (branch_words (body_words levels script) text numbers) ws ws) (sym (new_numbers-none place acts))
        (rewrites_none ws ws (omega arith) (λ other. left_out))
    branch_rewrites {levels = levels} {text = text} {place = place} {before = before} {after = after} {ws = ws}
        {rest = rest} (spelled_out a word body) token below around =
        written_rewrites version script levels text place before after ws a rest (new_numbers place before after) token
        word (body_none body below) (body_rewrites body below around)

module _ (version : ℕ)
    (act_respells : (made : Act) → Respells (IsActText version made) (act_text made ∷ field_words made)) where
  -- the body of `open` is spelled by the words that it is written as
  pub opening_respells : (levels : ℕ) (script : ScriptModel) →
      Respells (IsBodyText version levels None [] script.acts) (body_words levels script (opening_of script))
  opening_respells levels script =
      record { rewrites = λ ws rest body. body_rewrites version act_respells script body tt (around_whole script) }
