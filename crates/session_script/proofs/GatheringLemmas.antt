-- The acts of a script that stand in a place are those that one part of it appends.
use Rattle.std.proofs.Common.{◌≡◌, ℕ, ◌<◌, ◌≤◌, inl, inr, true, cond, List, [], ◌∷◌, ◌++◌, length, Some, None, refl, ap, ◌∙◌, append-nil, arith}
use Rattle.std.proofs.lemmas.Bool.{eq-eqb}
use Rattle.asio_types.specs.declared.code.Class.{Class}
use Rattle.asio_types.specs.declared.code.Class.TheVariants as class
use Rattle.session_script.specs.Script.{Place, Entry, ScriptModel, same_class, same_place, numbers_in}
use Rattle.session_script.specs.Text.{Words, IsBodyText, in_braces, IsActsText, no_act, an_act}
use Rattle.session_script.proofs.AppendingLemmas.{Continues, continues_none, continues_both, continues_longer, new_numbers, new_numbers-none, new_numbers-one, new_numbers-both, Inside, Outside, NotIn, Away, away_is_not_in, Appends, acts_append, bodies_append, act_appends}

-- the part of a script between two lists of acts appends all its acts in places of operations from one number on
pub record Around (script : ScriptModel) (low : ℕ) (before after : List Entry) : Type 0 where
  pub continues : Continues after script.acts
  pub inner : (q : Place) → Inside low (length after) q → numbers_in q 0 script.acts ≡ new_numbers q before after

pub around_whole : (script : ScriptModel) → Around script 0 [] script.acts
around_whole script = record { continues = continues_none script.acts; inner = λ q in'. refl }

-- a part of a part
pub numbers_of_part : (q : Place) {a b c d : List Entry} → Continues a b → Continues b c → Continues c d →
    new_numbers q a b ≡ [] → new_numbers q c d ≡ [] → new_numbers q a d ≡ new_numbers q b c
numbers_of_part q {a} {b} {c} {d} first second third none none' =
    let left : new_numbers q a d ≡ new_numbers q a c ++ new_numbers q c d =
    new_numbers-both q (continues_both first second) third in
    let right : new_numbers q a c ≡ new_numbers q a b ++ new_numbers q b c = new_numbers-both q first second in
    left ∙ rw (right, none, none') (append-nil (new_numbers q b c))

inside_less : (low low' high high' : ℕ) (q : Place) → low ≤ low' → high' ≤ high → Inside low' high' q →
    Inside low high q
inside_less low low' high high' None up down in' = in'
inside_less low low' high high' (Some at) up down in' = (omega arith, omega arith)

pub around_part : {script : ScriptModel} {low low' : ℕ} {a b c d : List Entry} → Around script low a d → Continues a b →
    Continues b c → Continues c d → low ≤ low' →
    ((q : Place) → Inside low' (length c) q → (new_numbers q a b ≡ []) × (new_numbers q c d ≡ [])) →
    Around script low' b c
around_part {low = low} {low' = low'} {c = c} {d = d} around first second third up none = record {
  continues = continues_both third around.continues;
  inner = λ q in'.
      around.inner q (inside_less low low' (length d) (length c) q up (continues_longer third) in')
      ∙ numbers_of_part q first second third (none q in').0 (none q in').1;
}

-- `open`, or a branch of an operation before this number
abbrev pub IsEarlier : ℕ → Place → Type 0
IsEarlier n None = Unit {0}
IsEarlier n (Some at) = at.0 < n

below_not_in : (n high : ℕ) (place q : Place) → IsEarlier n place → Inside n high q → NotIn place q
below_not_in n high None None below in' = absurd in'
below_not_in n high None (Some at) below in' = refl
below_not_in n high (Some p) None below in' = refl
below_not_in n high (Some p) (Some at) below in' = away_is_not_in p.0 p.1 (Some at) (λ e. omega arith)

pub below_later : (n m : ℕ) (place : Place) → n ≤ m → IsEarlier n place → IsEarlier m place
below_later n m None le below = tt
below_later n m (Some at) le below = omega arith

below_outside : (n low high : ℕ) (place : Place) → n ≤ low → IsEarlier n place → Outside low high place
below_outside n low high None le below = tt
below_outside n low high (Some p) le below = inl (omega arith)

below_away : (n : ℕ) (place : Place) → IsEarlier n place → Away n place
below_away n None below = tt
below_away n (Some p) below = λ e. omega arith

pub above_outside : (low n high : ℕ) (q : Place) → Inside low n q → Outside n high q
above_outside low n high None in' = tt
above_outside low n high (Some at) in' = inl in'.1

pub beyond_outside : (low n high : ℕ) (q : Place) → Inside n high q → Outside low n q
beyond_outside low n high None in' = tt
beyond_outside low n high (Some at) in' = inr in'.0

pub inside_away : (op n high : ℕ) (q : Place) → op < n → Inside n high q → Away op q
inside_away op n high None lt in' = tt
inside_away op n high (Some at) lt in' = λ e. omega arith

same_class-self : (branch : Class) → same_class branch branch ≡ true
same_class-self class.Ok = refl
same_class-self class.Abort = refl
same_class-self class.Other = refl

pub same_place-self : (place : Place) → same_place place place ≡ true
same_place-self None = refl
same_place-self (Some p) = rw (eq-eqb p.0 p.0 refl) (same_class-self p.1)

-- an act, its bodies and the acts after them
pub numbers_of_act : (before : List Entry) (e : Entry) {mid after : List Entry} → IsEarlier (length before) e.parent →
    Appends (Away (length before)) (before ++ e ∷ []) mid → Continues mid after →
    new_numbers e.parent before after ≡ length before ∷ new_numbers e.parent mid after
numbers_of_act before e {mid} {after} below bodies others =
    let one : Continues before (before ++ e ∷ []) = record { new = e ∷ []; is = refl } in
    let itself : new_numbers e.parent before (before ++ e ∷ []) ≡ length before ∷ [] =
    new_numbers-one e.parent before e ∙ rw (same_place-self e.parent) refl in
    let longer : length before ≤ length (before ++ e ∷ []) = continues_longer one in
    let none : new_numbers e.parent (before ++ e ∷ []) mid ≡ [] =
    bodies.elsewhere e.parent (below_away (length before) e.parent below)
    (below_outside (length before) (length (before ++ e ∷ [])) (length mid) e.parent longer below) in
    let whole : new_numbers e.parent before after
    ≡ new_numbers e.parent before (before ++ e ∷ []) ++ new_numbers e.parent (before ++ e ∷ []) after =
    new_numbers-both e.parent one (continues_both bodies.continues others) in
    let rest : new_numbers e.parent (before ++ e ∷ []) after
    ≡ new_numbers e.parent (before ++ e ∷ []) mid ++ new_numbers e.parent mid after =
    new_numbers-both e.parent bodies.continues others in
    whole ∙ rw (itself, rest, none) refl

module _ {script : ScriptModel} (before : List Entry) (e : Entry) {mid after : List Entry}
    (below : IsEarlier (length before) e.parent) (around : Around script (length before) before after)
    (bodies : Appends (Away (length before)) (before ++ e ∷ []) mid) (others : Appends (NotIn e.parent) mid after) where
  -- the bodies of an act
  pub around_bodies : Around script (length before) (before ++ e ∷ []) mid
  around_bodies =
      around_part around (record { new = e ∷ []; is = refl }) bodies.continues others.continues (omega arith)
      (λ q in'.
      let apart : NotIn e.parent q = below_not_in (length before) (length mid) e.parent q below in' in (
        new_numbers-one q before e ∙ ap (λ here. cond here (length before ∷ []) []) apart,
        others.elsewhere q apart (above_outside (length before) (length mid) (length after) q in'),
      ))

  -- the acts after it
  pub around_others : Around script (length mid) mid after
  around_others =
      let act = act_appends before e mid bodies in
      let longer : length before ≤ length mid = continues_longer act.continues in
      around_part around act.continues others.continues (continues_none after) longer (λ q in'.
      let apart : NotIn e.parent q =
      below_not_in (length before) (length after) e.parent q below
      (inside_less (length before) (length mid) (length after) (length after) q longer (omega arith) in') in
      (act.elsewhere q apart (beyond_outside (length before) (length mid) (length after) q in'), new_numbers-none q after))

-- a body that appends no act of its own appends none
acts_none : {version levels : ℕ} {place : Place} {before after : List Entry} {ws rest : Words} →
    IsActsText version levels place before after ws rest → IsEarlier (length before) place →
    new_numbers place before after ≡ [] → before ≡ after
acts_none no_act below none = refl
acts_none {place = place} {before = before} (an_act made mid a b act bodies acts) below none =
    let some =
    numbers_of_act before (record { act = made; parent = place }) below (bodies_append bodies) (acts_append acts).continues in
    cc (some, none)

pub body_none : {version levels : ℕ} {place : Place} {before after : List Entry} {ws rest : Words} →
    IsBodyText version levels place before after ws rest → IsEarlier (length before) place →
    new_numbers place before after ≡ [] → before ≡ after
body_none (in_braces a b opens acts closes) below none = acts_none acts below none
