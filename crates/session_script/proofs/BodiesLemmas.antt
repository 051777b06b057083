-- Acts take tokens, and a body is read level by level.
use Rattle.std.proofs.Common.{◌≡◌, ℕ, zero, suc, ◌-◌, Bool, true, false, List, Result, Ok, Err, refl, sym, subst, ◌∙◌, arith}
use Rattle.std.specs.Prelude.{nat_eq}
use Rattle.session_script.specs.declared.refusal.Rule.{Rule}
use Rattle.session_script.specs.declared.refusal.Rule.TheVariants as rule
use Rattle.std.proofs.lemmas.Bool.Decides.{nat_tests}
use lib.Chars.{codes}
use Rattle.session_script.specs.declared.refusal.Refusal.{Refusal}
use Rattle.session_script.specs.declared.refusal.ScriptFault.{ScriptFault}
use Rattle.session_script.specs.declared.refusal.ScriptFault.TheVariants as fault
use Rattle.session_script.specs.declared.parts.Header.{Header}
use Rattle.session_script.specs.declared.reader.act_word.ActWord.{ActWord}
use Rattle.session_script.specs.declared.reader.act_word.ActWord.TheVariants as words
use Rattle.session_script.specs.declared.act.Bodies.{Bodies}
use Rattle.session_script.specs.declared.act.Bodies.TheVariants as bodies
use Rattle.session_script.specs.Script.{Place, Entry}
use Rattle.session_script.specs.Tokens.{Tokens, token, end, goes_on}
use Rattle.session_script.specs.Kinds.{exactly, another_word, ◌>>=◌}
use Rattle.session_script.specs.Productions.{and_then, repeated, word, another, types, plug}
use Rattle.session_script.specs.Acts.{fields, BodyReader, branch, branches, bodies_after, entry, braced, body}
use Rattle.session_script.specs.Outcome.{Fails}
use Rattle.session_script.proofs.ShrinkingLemmas.{Keeps, Shrinks, keeps_taking, one_takes, then_keeps, then_takes, done_keeps, if_keeps, else_keeps, word_keeps, another_keeps, bounded_keeps, declared_keeps, optional_keeps, repeated_keeps}
use Rattle.session_script.proofs.TurnsLemmas.{bytes_keeps}

types_keeps : Keeps types
unfolding types
types_keeps = bounded_keeps 0 7

plug_keeps : (h : Header) → Keeps (plug h)
unfolding plug
plug_keeps h =
    then_keeps (optional_keeps _)
    (λ slot. else_keeps _ _ (then_keeps (word_keeps _) (λ _. then_keeps types_keeps (λ kinds. done_keeps _))))

fields_keeps : (h : Header) (w : ActWord) → Keeps (fields h w)
unfolding fields
fields_keeps h words.Post = then_keeps (optional_keeps _) (λ strand. done_keeps _)
fields_keeps h words.Defer = then_keeps (optional_keeps _) (λ strand. done_keeps _)
fields_keeps h words.Dispatch = then_keeps (optional_keeps _) (λ strand. done_keeps _)
fields_keeps h words.Expires =
    then_keeps (declared_keeps _) (λ timer. then_keeps (bounded_keeps _ _) (λ after. done_keeps _))
fields_keeps h words.ExpiresAt =
    then_keeps (declared_keeps _) (λ timer. then_keeps (bounded_keeps _ _) (λ after. done_keeps _))
fields_keeps h words.Wait =
    then_keeps (declared_keeps _)
    (λ timer. then_keeps (optional_keeps _) (λ strand. then_keeps (plug_keeps h) (λ plugged. done_keeps _)))
fields_keeps h words.Cancel = then_keeps (declared_keeps _) (λ timer. done_keeps _)
fields_keeps h words.CancelOne = then_keeps (declared_keeps _) (λ timer. done_keeps _)
fields_keeps h words.Emit = then_keeps (declared_keeps _) (λ slot. then_keeps types_keeps (λ kinds. done_keeps _))
fields_keeps h words.ReadSome =
    then_keeps (declared_keeps _) (λ stream.
    then_keeps (bounded_keeps _ _)
    (λ size. then_keeps (optional_keeps _) (λ strand. then_keeps (plug_keeps h) (λ plugged. done_keeps _))))
fields_keeps h words.Read =
    then_keeps (declared_keeps _) (λ stream.
    then_keeps (bounded_keeps _ _)
    (λ size. then_keeps (optional_keeps _) (λ strand. then_keeps (plug_keeps h) (λ plugged. done_keeps _))))
fields_keeps h words.Until =
    then_keeps (declared_keeps _) (λ stream.
    then_keeps (bytes_keeps _) (λ delimiter.
    then_keeps (bounded_keeps _ _)
    (λ max. then_keeps (optional_keeps _) (λ strand. then_keeps (plug_keeps h) (λ plugged. done_keeps _)))))
fields_keeps h words.WriteSome =
    then_keeps (declared_keeps _) (λ stream.
    then_keeps (bytes_keeps _)
    (λ written. then_keeps (optional_keeps _) (λ strand. then_keeps (plug_keeps h) (λ plugged. done_keeps _))))
fields_keeps h words.Write =
    then_keeps (declared_keeps _) (λ stream.
    then_keeps (bytes_keeps _)
    (λ written. then_keeps (optional_keeps _) (λ strand. then_keeps (plug_keeps h) (λ plugged. done_keeps _))))
fields_keeps h words.Close = then_keeps (declared_keeps _) (λ stream. done_keeps _)
fields_keeps h words.Release = then_keeps (declared_keeps _) (λ guard. done_keeps _)
fields_keeps h words.Stop = done_keeps _

-- bodies add no token
abbrev pub KeepsAll : BodyReader → Type 0
KeepsAll inner = (place : Place) (entries : List Entry) → Keeps (inner place entries)

branch_keeps : (text : List ℕ) (inner : BodyReader) (place : Place) (entries : List Entry) → KeepsAll inner →
    Keeps (branch text inner place entries)
unfolding branch
branch_keeps text inner place entries keeps = if_keeps _ _ (then_keeps (word_keeps _) (λ _. keeps place entries))

branches_keeps : (inner : BodyReader) (op : ℕ) (entries : List Entry) → KeepsAll inner →
    Keeps (branches inner op entries)
unfolding branches
branches_keeps inner op entries keeps =
    then_keeps (keeps _ entries) (λ after_ok.
    then_keeps (branch_keeps _ inner _ after_ok keeps) (λ after_abort. branch_keeps _ inner _ after_abort keeps))

after_keeps : (inner : BodyReader) (op : ℕ) (which : Bodies) (entries : List Entry) → KeepsAll inner →
    Keeps (bodies_after inner op which entries)
after_keeps inner op bodies.Nothing entries keeps = done_keeps entries
after_keeps inner op bodies.Posting entries keeps = keeps _ entries
after_keeps inner op bodies.Operation entries keeps = branches_keeps inner op entries keeps

pub entry_takes : (h : Header) (inner : BodyReader) (place : Place) (entries : List Entry) → KeepsAll inner →
    Shrinks (entry h inner place entries)
unfolding entry
entry_takes h inner place entries keeps =
    then_takes (one_takes _) (λ begun. then_keeps (fields_keeps h begun) (λ made. after_keeps inner _ _ _ keeps))

braced_keeps : (h : Header) (full : Bool) (inner : BodyReader) → KeepsAll inner → KeepsAll (braced h full inner)
unfolding braced
braced_keeps h full inner keeps place entries =
    then_keeps (another_keeps _ full) (λ _.
    then_keeps
    (repeated_keeps _ (entry h inner place) (λ es. keeps_taking (entry_takes h inner place es keeps)) entries)
    (λ filled. then_keeps (word_keeps _) (λ _. done_keeps filled)))

pub body_keeps : (h : Header) (levels : ℕ) → KeepsAll (body h levels)
unfolding body
body_keeps h zero = braced_keeps h true _ (λ place entries. done_keeps entries)
body_keeps h (suc levels) = braced_keeps h false (body h levels) (body_keeps h levels)

limit_after : (r : Result (Unit {0}) Rule) →
    (violated : Rule) × (◌>>=◌ {B = Unit {0}} r (λ _. Err rule.Limit) ≡ Err violated)
limit_after (Ok value) = (rule.Limit, refl)
limit_after (Err violated) = (violated, refl)

full_breaks : (text bytes : List ℕ) → (violated : Rule) × (another_word text true bytes ≡ Err violated)
unfolding another_word
full_breaks text bytes = limit_after (exactly text bytes)

-- where no level is left, the brace is refused, whatever would be read behind it
full_refuses : {A : Type 0} (text : List ℕ) (ts : Tokens) (f g : Unit {0} → Tokens → Result (A × Tokens) Refusal) →
    and_then (another text true ts) f ≡ and_then (another text true ts) g
unfolding another
full_refuses text (end at) f g = refl
full_refuses text (token bytes at rest) f g = let p = full_breaks text bytes in rw p.1 refl

some_is_not_none : (n : ℕ) → nat_eq (suc n) 0 ≡ false
some_is_not_none n = grind (arith, nat_tests)

-- a body, by the levels that are left
pub body_step : (h : Header) (levels : ℕ) (place : Place) (entries : List Entry) (ts : Tokens) →
    body h levels place entries ts ≡ braced h (nat_eq levels 0) (body h (levels - 1)) place entries ts
unfolding body braced
body_step h zero place entries ts = full_refuses _ ts _ _
body_step h (suc levels) place entries ts =
    let e : suc levels - 1 ≡ levels = omega arith in
    let n : nat_eq (suc levels) 0 ≡ false = some_is_not_none levels in
    rw (e, n) refl

module _ (h : Header) (levels : ℕ) (place : Place) (entries : List Entry) (ts : Tokens) where
  by_step : (e : ScriptFault) → Fails e (braced h (nat_eq levels 0) (body h (levels - 1)) place entries ts) →
      Fails e (body h levels place entries ts)
  by_step e =
      let P : Result (List Entry × Tokens) Refusal → Type 0 = Fails e in
      subst P (sym (body_step h levels place entries ts))

  at_brace : (e : ScriptFault) → Fails e (another (codes "{") (nat_eq levels 0) ts) →
      Fails e (braced h (nat_eq levels 0) (body h (levels - 1)) place entries ts)
  unfolding braced
  at_brace fault.NoMemory failed = tt
  at_brace (fault.Refused r) failed = rw failed refl

  -- the brace is refused
  pub fails_at_brace : (e : ScriptFault) → Fails e (another (codes "{") (nat_eq levels 0) ts) →
      Fails e (body h levels place entries ts)
  fails_at_brace e failed = by_step e (at_brace e failed)

  module _ (u : Unit {0}) (ts1 : Tokens) (opened : another (codes "{") (nat_eq levels 0) ts ≡ Ok (u, ts1)) where
    in_acts : (e : ScriptFault) →
        Fails e (repeated (goes_on (codes "}")) (entry h (body h (levels - 1)) place) entries ts1) →
        Fails e (braced h (nat_eq levels 0) (body h (levels - 1)) place entries ts)
    unfolding braced
    in_acts fault.NoMemory failed = tt
    in_acts (fault.Refused r) failed = rw (opened, failed) refl

    -- an act is refused
    pub fails_in_acts : (e : ScriptFault) →
        Fails e (repeated (goes_on (codes "}")) (entry h (body h (levels - 1)) place) entries ts1) →
        Fails e (body h levels place entries ts)
    fails_in_acts e failed = by_step e (in_acts e failed)

    module _ (filled : List Entry) (ts2 : Tokens)
        (acts : repeated (goes_on (codes "}")) (entry h (body h (levels - 1)) place) entries ts1 ≡ Ok (filled, ts2))
      where
        at_end : (e : ScriptFault) → Fails e (word (codes "}") ts2) →
            Fails e (braced h (nat_eq levels 0) (body h (levels - 1)) place entries ts)
        unfolding braced
        at_end fault.NoMemory failed = tt
        at_end (fault.Refused r) failed = rw (opened, acts, failed) refl

        -- the closing brace is refused
        pub fails_at_end : (e : ScriptFault) → Fails e (word (codes "}") ts2) → Fails e (body h levels place entries ts)
        fails_at_end e failed = by_step e (at_end e failed)

        -- a whole body
        pub body_is : (v : Unit {0}) (ts3 : Tokens) → word (codes "}") ts2 ≡ Ok (v, ts3) →
            body h levels place entries ts ≡ Ok (filled, ts3)
        unfolding braced
        body_is v ts3 closed = body_step h levels place entries ts ∙ rw (opened, acts, closed) refl
