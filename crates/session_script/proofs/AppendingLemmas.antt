-- Bodies append acts to those before them, and those acts stand in the body itself or under one another.
use Rattle.std.proofs.Common.{◌≡◌, ℕ, ◌+◌, ◌<◌, ◌≤◌, ◌⊎◌, inl, inr, ⊎_elim, Bool, true, false, cond, ◌&&◌, List, [], ◌∷◌, ◌++◌, length, drop, Some, None, refl, sym, ap, ◌∙◌, append_assoc, append-nil, arith, length-append}
use Rattle.std.proofs.lemmas.Bool.{ne_eqb}
use Rattle.std.proofs.Math.Seq.{drop-append_seam, drop-length}
use Rattle.asio_types.specs.declared.code.Class.{Class}
use Rattle.asio_types.specs.declared.code.Class.TheVariants as class
use Rattle.session_script.specs.declared.act.Bodies.{Bodies}
use Rattle.session_script.specs.Script.{Place, Entry, same_class, same_place, numbers_in}
use Rattle.session_script.specs.Text.{Words, IsBodyText, in_braces, IsActsText, no_act, an_act, IsBodiesText, no_body, one_body, all_bodies, IsBranchText, left_out, spelled_out}

numbers_in-append : (q : Place) (n : ℕ) (xs ys : List Entry) →
    numbers_in q n (xs ++ ys) ≡ numbers_in q n xs ++ numbers_in q (n + length xs) ys
numbers_in-append q n [] ys = ap (λ k. numbers_in q k ys) (omega arith)
numbers_in-append q n (x ∷ xs) ys = rw (numbers_in-append q (n + 1) xs ys) (by_test (same_place q x.parent))
  where
    later : numbers_in q (n + 1 + length xs) ys ≡ numbers_in q (n + length (x ∷ xs)) ys
    later = ap (λ k. numbers_in q k ys) (omega arith)

    by_test : (here : Bool) →
        cond here (n ∷ (numbers_in q (n + 1) xs ++ numbers_in q (n + 1 + length xs) ys))
        (numbers_in q (n + 1) xs ++ numbers_in q (n + 1 + length xs) ys)
        ≡ cond here (n ∷ numbers_in q (n + 1) xs) (numbers_in q (n + 1) xs) ++ numbers_in q (n + length (x ∷ xs)) ys
    by_test true = ap (λ ns. n ∷ (numbers_in q (n + 1) xs ++ ns)) later
    by_test false = ap (λ ns. numbers_in q (n + 1) xs ++ ns) later

-- acts are appended to others
pub record Continues (before after : List Entry) : Type 0 where
  pub new : List Entry
  pub is : after ≡ before ++ new

pub continues_none : (acts : List Entry) → Continues acts acts
continues_none acts = record { new = []; is = sym (append-nil acts) }

pub continues_both : {a b c : List Entry} → Continues a b → Continues b c → Continues a c
continues_both {a = a} first second = record {
  new = first.new ++ second.new;
  is = second.is ∙ ap (λ acts. acts ++ second.new) first.is ∙ append_assoc a first.new second.new;
}

pub continues_longer : {a b : List Entry} → Continues a b → length a ≤ length b
continues_longer {a} {b} more = omega (arith, ap length more.is, length-append a more.new)

-- the numbers of the acts in a place that are appended
abbrev pub new_numbers : Place → List Entry → List Entry → List ℕ
new_numbers q before after = numbers_in q (length before) (drop (length before) after)

new_numbers_are : (q : Place) (before new : List Entry) →
    new_numbers q before (before ++ new) ≡ numbers_in q (length before) new
new_numbers_are q before new = ap (λ acts. numbers_in q (length before) acts) (drop-append_seam before new)

pub new_numbers-none : (q : Place) (acts : List Entry) → new_numbers q acts acts ≡ []
new_numbers-none q acts = ap (λ new. numbers_in q (length acts) new) (drop-length acts)

pub new_numbers-one : (q : Place) (acts : List Entry) (e : Entry) →
    new_numbers q acts (acts ++ e ∷ []) ≡ cond (same_place q e.parent) (length acts ∷ []) []
new_numbers-one q acts e = new_numbers_are q acts (e ∷ [])

pub new_numbers-both : (q : Place) {a b c : List Entry} → Continues a b → Continues b c →
    new_numbers q a c ≡ new_numbers q a b ++ new_numbers q b c
unfolding continues_both
new_numbers-both q {a} {b} {c} first second =
    let whole : new_numbers q a c ≡ numbers_in q (length a) (first.new ++ second.new) =
    ap (λ acts. new_numbers q a acts) (continues_both first second).is
    ∙ new_numbers_are q a (first.new ++ second.new) in
    let left : new_numbers q a b ≡ numbers_in q (length a) first.new =
    ap (λ acts. new_numbers q a acts) first.is ∙ new_numbers_are q a first.new in
    let right : new_numbers q b c ≡ numbers_in q (length b) second.new =
    ap (λ acts. new_numbers q b acts) second.is ∙ new_numbers_are q b second.new in
    let far : length b ≡ length a + length first.new = ap length first.is ∙ length-append a first.new in
    whole ∙ numbers_in-append q (length a) first.new second.new ∙ rw (left, right, far) refl

-- places of operations from one number on and before another, and all others
abbrev pub Inside : ℕ → ℕ → Place → Type 0
Inside low high None = ⊥
Inside low high (Some at) = (low ≤ at.0) × (at.0 < high)

abbrev pub Outside : ℕ → ℕ → Place → Type 0
Outside low high None = Unit {0}
Outside low high (Some at) = (at.0 < low) ⊎ (high ≤ at.0)

outside_less : (low low' high high' : ℕ) (q : Place) → low ≤ low' → high' ≤ high → Outside low high q →
    Outside low' high' q
outside_less low low' high high' None up down out = tt
outside_less low low' high high' (Some at) up down out =
    ⊎_elim (λ below. inl (omega arith)) (λ above. inr (omega arith)) out

-- another place
abbrev pub NotIn : Place → Place → Type 0
NotIn place q = same_place q place ≡ false

-- no branch of this operation
abbrev pub Away : ℕ → Place → Type 0
Away op None = Unit {0}
Away op (Some at) = at.0 ≡ op → ⊥

pub away_is_not_in : (op : ℕ) (branch : Class) (q : Place) → Away op q → NotIn (Some (op, branch)) q
away_is_not_in op branch None away = refl
away_is_not_in op branch (Some at) away = ap (λ same. same && same_class at.1 branch) (ne_eqb at.0 op away)

away_outside : (op high : ℕ) (q : Place) → op < high → Outside op high q → Away op q
away_outside op high None lt out = tt
away_outside op high (Some at) lt out = ⊎_elim (λ below e. omega arith) (λ above e. omega arith) out

-- acts are appended, and none in a place that is apart, unless it is one of a new act
pub record Appends (Apart : Place → Type 0) (before after : List Entry) : Type 0 where
  pub continues : Continues before after
  pub elsewhere : (q : Place) → Apart q → Outside (length before) (length after) q → new_numbers q before after ≡ []

pub appends_none : {Apart : Place → Type 0} (acts : List Entry) → Appends Apart acts acts
appends_none acts = record { continues = continues_none acts; elsewhere = λ q apart out. new_numbers-none q acts }

appends_one : (acts : List Entry) (e : Entry) → Appends (NotIn e.parent) acts (acts ++ e ∷ [])
appends_one acts e = record {
  continues = record { new = e ∷ []; is = refl };
  elsewhere = λ q apart out. new_numbers-one q acts e ∙ ap (λ here. cond here (length acts ∷ []) []) apart;
}

pub appends_both : {A B C : Place → Type 0} {a b c : List Entry} →
    ((q : Place) → C q → Outside (length a) (length c) q → A q) →
    ((q : Place) → C q → Outside (length a) (length c) q → B q) → Appends A a b → Appends B b c → Appends C a c
appends_both {a = a} {b = b} {c = c} weaker others first second =
    let up = continues_longer first.continues in
    let down = continues_longer second.continues in
    record {
      continues = continues_both first.continues second.continues;
      elsewhere = λ q apart out.
          let none : new_numbers q a b ≡ [] =
          first.elsewhere q (weaker q apart out)
          (outside_less (length a) (length a) (length c) (length b) q (omega arith) down out) in
          let none' : new_numbers q b c ≡ [] =
          second.elsewhere q (others q apart out)
          (outside_less (length a) (length b) (length c) (length c) q up (omega arith) out) in
          new_numbers-both q first.continues second.continues ∙ rw (none, none') refl;
    }

appends_less : {A C : Place → Type 0} {a b : List Entry} → ((q : Place) → C q → A q) → Appends A a b → Appends C a b
appends_less weaker all = record {
  continues = all.continues;
  elsewhere = λ q apart out. all.elsewhere q (weaker q apart) out;
}

pub act_longer : (before : List Entry) (e : Entry) {later : List Entry} → Continues (before ++ e ∷ []) later →
    length before < length later
act_longer before e bodies = omega (arith, continues_longer bodies, length-append before (e ∷ []))

-- an act with its bodies
pub act_appends : (before : List Entry) (e : Entry) (later : List Entry) →
    Appends (Away (length before)) (before ++ e ∷ []) later → Appends (NotIn e.parent) before later
act_appends before e later bodies =
    appends_both (λ q apart out. apart)
    (λ q apart out. away_outside (length before) (length later) q (act_longer before e bodies.continues) out)
    (appends_one before e) bodies

mutual
  -- a body appends acts in its own place and under those acts alone
  pub body_appends : {version levels : ℕ} {place : Place} {before after : List Entry} {ws rest : Words} →
      IsBodyText version levels place before after ws rest → Appends (NotIn place) before after
  body_appends (in_braces a b opens acts closes) = acts_append acts

  pub acts_append : {version levels : ℕ} {place : Place} {before after : List Entry} {ws rest : Words} →
      IsActsText version levels place before after ws rest → Appends (NotIn place) before after
  acts_append no_act = appends_none _
  acts_append (an_act made with_bodies a b act bodies acts) =
      appends_both (λ q apart out. apart) (λ q apart out. apart) (act_appends _ _ with_bodies (bodies_append bodies))
      (acts_append acts)

  pub bodies_append : {version levels : ℕ} {kind : Bodies} {op : ℕ} {before after : List Entry} {ws rest : Words} →
      IsBodiesText version levels kind op before after ws rest → Appends (Away op) before after
  bodies_append no_body = appends_none _
  bodies_append {op = op} (one_body body) = appends_less (away_is_not_in op class.Ok) (body_appends body)
  bodies_append {op = op} (all_bodies after_ok after_abort a b body abort other) =
      let both =
      appends_both {C = Away op} (λ q apart out. away_is_not_in op class.Ok q apart)
      (λ q apart out. away_is_not_in op class.Abort q apart) (body_appends body) (branch_appends abort) in
      appends_both (λ q apart out. apart) (λ q apart out. away_is_not_in op class.Other q apart) both (branch_appends other)

  pub branch_appends : {version levels : ℕ} {text : List ℕ} {place : Place} {before after : List Entry}
      {ws rest : Words} → IsBranchText version levels text place before after ws rest →
      Appends (NotIn place) before after
  branch_appends left_out = appends_none _
  branch_appends (spelled_out a word body) = body_appends body
