-- Bodies that are spelled and within the limits are read.
use Rattle.std.proofs.Common.{◌≡◌, ℕ, zero, suc, ◌≤◌, Bool, false, not, List, [], ◌∷◌, ◌++◌, length, Some, None, Ok, refl, ap, ◌∙◌, inl, inr, arith, length-append}
use Rattle.std.specs.Prelude.{nat_le, slice_get}
use Rattle.std.specs.Str.{bytes_eq}
use lib.Chars.{codes}
use Rattle.asio_types.specs.declared.code.Class.TheVariants as class
use Rattle.session_script.specs.declared.act.Act.{Act}
use Rattle.session_script.specs.declared.parts.Header.{Header}
use Rattle.session_script.specs.declared.act.Bodies.{Bodies}
use Rattle.session_script.specs.declared.act.Bodies.TheVariants as bodies
use Rattle.session_script.specs.Script.{Place, Entry, ScriptModel}
use Rattle.session_script.specs.Limits.{limits_of}
use Rattle.session_script.specs.Tokens.{Tokens, end, token, begins, goes_on}
use Rattle.session_script.specs.Acts.{act_word, bodies_of, BodyReader, branch, branches, bodies_after, entry, braced, body}
use Rattle.session_script.specs.Text.{words_of, Words, IsWord, act_text, IsActText, IsBodyText, in_braces, IsActsText, no_act, an_act, IsBodiesText, no_body, one_body, all_bodies, IsBranchText, left_out, spelled_out}
use Rattle.session_script.specs.WellFormed.{header_of, FitsAct, IsWellFormed}
use Rattle.session_script.proofs.BodiesLemmas.{KeepsAll, entry_takes, body_keeps}
use Rattle.session_script.proofs.ForestLemmas.{slice_get-seam, Extends, extends_by_none, extends_both, extends_by_one}
use Rattle.session_script.proofs.AcceptingLemmas.{Accepts, Then, then_accepts, weaker_accepts, done_accepts, TakesWord, one_accepts, starts, begins_starts, Turns, over, turn, repeated_accepts}
use Rattle.session_script.proofs.SequencesLemmas.{has_room}
use Rattle.session_script.proofs.AcceptingPartsLemmas.{same_text, word_accepts, another_accepts}
use Rattle.session_script.proofs.ChoosingLemmas.{Either, either_accepts}
use Rattle.session_script.proofs.AcceptingActsLemmas.{word_of, act_word_is, act_text_is_no, FieldsFit, fields_accept}

-- what is spelled is appended
mutual
  body_extends : {v levels : ℕ} {place : Place} {before after : List Entry} {ws rest : Words} →
      IsBodyText v levels place before after ws rest → Extends before after
  body_extends (in_braces a b opened acts closed) = acts_extend acts

  acts_extend : {v levels : ℕ} {place : Place} {before after : List Entry} {ws rest : Words} →
      IsActsText v levels place before after ws rest → Extends before after
  acts_extend (no_act {acts = acts}) = extends_by_none acts
  acts_extend (an_act {before = before} made with_bodies a b text in_bodies others) =
      extends_both (extends_by_one before _) (extends_both (bodies_extend in_bodies) (acts_extend others))

  bodies_extend : {v levels op : ℕ} {which : Bodies} {before after : List Entry} {ws rest : Words} →
      IsBodiesText v levels which op before after ws rest → Extends before after
  bodies_extend (no_body {acts = acts}) = extends_by_none acts
  bodies_extend (one_body in_body) = body_extends in_body
  bodies_extend (all_bodies after_ok after_abort a b first second third) =
      extends_both (body_extends first) (extends_both (branch_extends second) (branch_extends third))

  branch_extends : {v levels : ℕ} {text : List ℕ} {place : Place} {before after : List Entry} {ws rest : Words} →
      IsBranchText v levels text place before after ws rest → Extends before after
  branch_extends (left_out {acts = acts}) = extends_by_none acts
  branch_extends (spelled_out a begun in_body) = body_extends in_body

-- acts that are within the limits
pub record Fit (h : Header) (acts : List Entry) : Type 0 where
  pub fits : (n : ℕ) (entry : Entry) → slice_get acts n ≡ Some entry → FitsAct h entry.act
  pub count : length acts ≤ h.limits.acts

earlier_fit : {h : Header} {acts later : List Entry} → Extends acts later → Fit h later → Fit h acts
earlier_fit more fit = record {
  fits = λ n entry there. fit.fits n entry (more.same n entry there);
  count = omega (arith, more.longer, fit.count);
}

-- no further branch comes next
abbrev IsOver : Words → Type 0
IsOver ws = (starts (codes "abort") ws ≡ false) × (starts (codes "other") ws ≡ false)

-- a body with the acts in it
abbrev BodyFits : Header → ℕ → Place → List Entry → List Entry → Words → Words → Type 0
BodyFits h levels place before after ws rest = IsBodyText h.version levels place before after ws rest × Fit h after

-- a reader of bodies reads all that are spelled so deep and within the limits
abbrev AcceptsAll : Header → ℕ → BodyReader → Type 0
AcceptsAll h levels inner =
    (place : Place) (before : List Entry) → Accepts (BodyFits h levels place before) (inner place before)

-- a further body
abbrev BranchFits : Header → ℕ → List ℕ → Place → List Entry → List Entry → Words → Words → Type 0
BranchFits h levels text place before after ws rest =
    IsBranchText h.version levels text place before after ws rest × Fit h after × (starts text rest ≡ false)

-- one act with its bodies
abbrev EntryFits : Header → ℕ → Place → List Entry → List Entry → Words → Words → Type 0
EntryFits h levels place before after ws rest =
    (made : Act) × (a : Words) × IsActText h.version made ws a
    × IsBodiesText h.version levels (bodies_of made) (length before)
    (before ++ record { act = made; parent = place } ∷ []) after a rest
    × Fit h after × IsOver rest

-- whether one more act comes next
abbrev continues : Words → Bool
continues [] = false
continues (w ∷ ws) = not (bytes_eq w (codes "}"))

continues_same : (ts : Tokens) → goes_on (codes "}") ts ≡ continues (words_of ts)
continues_same (end at) = refl
continues_same (token bytes at rest) = refl

-- acts begin with an act word or the brace after them
acts_begin : {v levels : ℕ} {place : Place} {before after : List Entry} {ws rest : Words} →
    IsActsText v levels place before after ws rest → (r : Words) → IsWord (codes "}") rest r → IsOver ws
acts_begin no_act r closed = (ap (starts (codes "abort")) closed, ap (starts (codes "other")) closed)
acts_begin (an_act made with_bodies a b text in_bodies others) r closed =
    let no = act_text_is_no made in
    (ap (starts (codes "abort")) text.2 ∙ no.1, ap (starts (codes "other")) text.2 ∙ no.2)

-- the acts of a body are turns of the loop that reads them
acts_turns : (h : Header) {levels : ℕ} {place : Place} {before after : List Entry} {ws rest : Words} →
    IsActsText h.version levels place before after ws rest → (r : Words) → IsWord (codes "}") rest r → Fit h after →
    Turns continues (EntryFits h levels place) before after ws rest
acts_turns h no_act r closed fit = over (ap continues closed)
acts_turns h (an_act made with_bodies a b text in_bodies others) r closed fit =
    turn with_bodies b (ap continues text.2 ∙ ap not (act_text_is_no made).0)
    (made, a, text, in_bodies, earlier_fit (acts_extend others) fit, acts_begin others r closed)
    (acts_turns h others r closed fit)

-- the bodies of an operation begin with a brace
operation_begins : {v levels op : ℕ} {which : Bodies} {before after : List Entry} {ws rest : Words} →
    IsBodiesText v levels which op before after ws rest → which ≡ bodies.Operation → starts (codes "only") ws ≡ false
operation_begins no_body is = absurd (cc)
operation_begins (one_body in_body) is = absurd (cc)
operation_begins (all_bodies after_ok after_abort a b (in_braces c d opened acts closed) second third) is =
    ap (starts (codes "only")) opened

no_body_text : {v : ℕ} {place : Place} {before after : List Entry} {ws rest : Words} →
    IsBodyText v zero place before after ws rest → ⊥
no_body_text in_body = elim in_body [ ]

module _ (h : Header) (levels : ℕ) (inner : BodyReader) (accepts : AcceptsAll h levels inner) where
  -- a further body after its word
  abbrev Written : List ℕ → Place → List Entry → List Entry → Words → Words → Type 0
  Written text place before = Then {A = Unit {0}} (λ u. IsWord text) (λ u. BodyFits h levels place before)

  -- a further body, or none
  abbrev MayBeWritten : List ℕ → Place → List Entry → List Entry → Words → Words → Type 0
  MayBeWritten text place before =
      Either (starts text) (Written text place before) (λ after ws rest. (after ≡ before) × (ws ≡ rest))

  branch_parts : (text : List ℕ) (place : Place) (before after : List Entry) (ws rest : Words) →
      IsBranchText h.version levels text place before after ws rest → Fit h after → starts text rest ≡ false →
      MayBeWritten text place before after ws rest
  branch_parts text place before _ ws rest left_out fit none = inr (none, (refl, refl))
  branch_parts text place before after ws rest (spelled_out a begun in_body) fit none =
      inl (ap (starts text) begun ∙ same_text text, (tt, a, begun, (in_body, fit)))

  branch_accepts : (text : List ℕ) (place : Place) (before : List Entry) →
      Accepts (BranchFits h levels text place before) (branch text inner place before)
  unfolding branch
  branch_accepts text place before =
      weaker_accepts (MayBeWritten text place before) (BranchFits h levels text place before)
      (λ after ws rest p. branch_parts text place before after ws rest p.0 p.1 p.2) (either_accepts (begins text)
      (starts text) (begins_starts text) (then_accepts (word_accepts text) (λ u. accepts place before))
      (done_accepts before))

  -- the bodies of an operation
  abbrev AllBodies : ℕ → List Entry → List Entry → Words → Words → Type 0
  AllBodies op before =
      Then (BodyFits h levels (Some (op, class.Ok)) before) (λ after_ok.
      Then (BranchFits h levels (codes "abort") (Some (op, class.Abort)) after_ok)
      (λ after_abort. BranchFits h levels (codes "other") (Some (op, class.Other)) after_abort))

  -- where `other` may come next, `abort` doesn't
  no_abort : {place : Place} {before after : List Entry} {ws rest : Words} →
      IsBranchText h.version levels (codes "other") place before after ws rest → starts (codes "abort") rest ≡ false →
      starts (codes "abort") ws ≡ false
  no_abort left_out none = none
  no_abort (spelled_out a begun in_body) none = ap (starts (codes "abort")) begun

  -- what follows an act, by which bodies it has
  abbrev BodiesFit : ℕ → Bodies → List Entry → List Entry → Words → Words → Type 0
  BodiesFit op bodies.Nothing before after ws rest = (after ≡ before) × (ws ≡ rest)
  BodiesFit op bodies.Posting before after ws rest = BodyFits h levels (Some (op, class.Ok)) before after ws rest
  BodiesFit op bodies.Operation before after ws rest = AllBodies op before after ws rest

  after_parts : (op : ℕ) (which : Bodies) (before after : List Entry) (ws rest : Words) →
      IsBodiesText h.version levels which op before after ws rest → Fit h after → IsOver rest →
      BodiesFit op which before after ws rest
  after_parts op _ before _ ws rest no_body fit none = (refl, refl)
  after_parts op _ before after ws rest (one_body in_body) fit none = (in_body, fit)
  after_parts op _ before after ws rest (all_bodies after_ok after_abort a b first second third) fit none =
      let fit_abort = earlier_fit (branch_extends third) fit in
      let fit_ok = earlier_fit (branch_extends second) fit_abort in
      (after_ok, a, (first, fit_ok), (after_abort, b, (second, fit_abort, no_abort third none.0), (third, fit, none.1)))

  bodies_accept : (op : ℕ) (which : Bodies) (before : List Entry) →
      Accepts (BodiesFit op which before) (bodies_after inner op which before)
  unfolding branches
  bodies_accept op bodies.Nothing before = done_accepts before
  bodies_accept op bodies.Posting before = accepts (Some (op, class.Ok)) before
  bodies_accept op bodies.Operation before =
      then_accepts (accepts (Some (op, class.Ok)) before) (λ after_ok.
      then_accepts (branch_accepts (codes "abort") (Some (op, class.Abort)) after_ok)
      (λ after_abort. branch_accepts (codes "other") (Some (op, class.Other)) after_abort))

  -- the parts of an act in the order in which they are read
  abbrev EntryParts : Place → List Entry → List Entry → Words → Words → Type 0
  EntryParts place before =
      Then (TakesWord (act_word h.version (nat_le h.limits.acts (length before)))) (λ w.
      Then (λ made ws rest. (w ≡ word_of made) × FieldsFit h made ws rest)
      (λ made. BodiesFit (length before) (bodies_of made) (before ++ record { act = made; parent = place } ∷ [])))

  entry_parts : (place : Place) (before after : List Entry) (ws rest : Words) →
      EntryFits h levels place before after ws rest → EntryParts place before after ws rest
  entry_parts place before after ws rest (made, a, text, in_bodies, fit, none) =
      let e : Entry = record { act = made; parent = place } in
      let fit_here : Fit h (before ++ e ∷ []) = earlier_fit (bodies_extend in_bodies) fit in
      let begun =
      ap (λ full. act_word h.version full (act_text made))
      (has_room h.limits.acts (length before) (omega (arith, fit_here.count, length-append before (e ∷ []))))
      ∙ act_word_is h.version made text.1 in (
        word_of made,
        text.0,
        (act_text made, begun, text.2),
        (
          made,
          a,
          (refl, (text.3, fit_here.fits (length before) e (slice_get-seam before e), operation_begins in_bodies)),
          after_parts (length before) (bodies_of made) (before ++ e ∷ []) after a rest in_bodies fit none,
        ),
      )

  entry_accepts : (place : Place) (before : List Entry) →
      Accepts (EntryFits h levels place before) (entry h inner place before)
  unfolding entry
  entry_accepts place before =
      weaker_accepts (EntryParts place before) (EntryFits h levels place before) (entry_parts place before)
      (then_accepts (one_accepts (act_word h.version (nat_le h.limits.acts (length before))))
      (λ w.
      then_accepts (fields_accept h w) (λ made.
      bodies_accept (length before) (bodies_of made) (before ++ record { act = made; parent = place } ∷ []))))

  -- the parts of a body in the order in which they are read
  abbrev BodyParts : Place → List Entry → List Entry → Words → Words → Type 0
  BodyParts place before =
      Then {A = Unit {0}} (λ u. IsWord (codes "{")) (λ u.
      Then (Turns continues (EntryFits h levels place) before) (λ filled.
      Then {A = Unit {0}} (λ u. IsWord (codes "}")) (λ u after ws rest. (after ≡ filled) × (ws ≡ rest))))

  body_parts : (place : Place) (before after : List Entry) (ws rest : Words) →
      IsBodyText h.version (suc levels) place before after ws rest → Fit h after → BodyParts place before after ws rest
  body_parts place before after ws rest (in_braces a b opened acts closed) fit =
      (tt, a, opened, (after, b, acts_turns h acts rest closed fit, (tt, rest, closed, (refl, refl))))

  braced_accepts : KeepsAll inner → (place : Place) (before : List Entry) →
      Accepts (BodyFits h (suc levels) place before) (braced h false inner place before)
  unfolding braced
  braced_accepts keeps place before =
      weaker_accepts (BodyParts place before) (BodyFits h (suc levels) place before)
      (λ after ws rest p. body_parts place before after ws rest p.0 p.1)
      (then_accepts (another_accepts (codes "{")) (λ u.
      then_accepts (repeated_accepts (goes_on (codes "}")) continues (entry h inner place) (EntryFits h levels place) continues_same (λ at. refl) (λ s. entry_takes h inner place s keeps) (entry_accepts place) before) (λ now.
      then_accepts (word_accepts (codes "}")) (λ v. done_accepts now))))

body_accepts : (h : Header) (levels : ℕ) → AcceptsAll h levels (body h levels)
unfolding body
body_accepts h zero place before = record { accepts = λ after ts rest p. absurd (no_body_text p.0) }
body_accepts h (suc levels) place before =
    braced_accepts h levels (body h levels) (body_accepts h levels) (body_keeps h levels) place before

-- a body that is spelled and within the limits is read
pub body_is_read : (script : ScriptModel) (ts : Tokens) (rest : Words) →
    IsBodyText script.version (limits_of script.version).nesting None [] script.acts (words_of ts) rest →
    IsWellFormed script →
    (left : Tokens) × (words_of left ≡ rest)
    × (body (header_of script) (limits_of script.version).nesting None [] ts ≡ Ok (script.acts, left))
body_is_read script ts rest text fine =
    let fit : Fit (header_of script) script.acts = record {
      fits = λ n e there. (fine.acts.placed n e there).fits;
      count = fine.acts.count;
    } in
    (body_accepts (header_of script) (limits_of script.version).nesting None []).accepts script.acts ts rest (text, fit)
