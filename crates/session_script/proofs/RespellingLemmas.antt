-- Words that can stand for others: they spell the same, are no longer, and are tokens.
use Rattle.std.proofs.Common.{◌≡◌, ℕ, ◌+◌, ◌≤◌, List, [], ◌∷◌, ◌++◌, refl, sym, ap, subst, append_assoc, ◌∙◌, arith}
use Rattle.std.specs.List.{All}
use Rattle.std.proofs.lemmas.List.Elements.{All-nil, All-cons, All-append}
use Rattle.session_script.specs.Text.{Words, IsWord}
use Rattle.session_script.proofs.TokenizingLemmas.{IsToken, size}

-- what spells some one thing
abbrev pub Spelling : Type 1
Spelling = Words → Words → Type 0

-- in the place of the words up to the rest, which spell P
pub record Rewrites (P : Spelling) (words ws rest : Words) : Type 0 where
  pub again : (other : Words) → P (words ++ other) other
  pub shorter : size words + size rest ≤ size ws
  pub tokens : All IsToken words

-- in the place of all words that spell P
pub record Respells (P : Spelling) (words : Words) : Type 0 where
  pub rewrites : (ws rest : Words) → P ws rest → Rewrites P words ws rest

pub size-append : (v w : Words) → size (v ++ w) ≡ size v + size w
size-append [] w = omega arith
size-append (t ∷ v) w = omega (arith, size-append v w)

-- no word, one word, and one after the other
pub rewrites_none : {P : Spelling} (ws rest : Words) → size rest ≤ size ws → ((other : Words) → P other other) →
    Rewrites P [] ws rest
rewrites_none ws rest fewer none = record { again = none; shorter = omega arith; tokens = All-nil IsToken }

pub rewrites_word : (text : List ℕ) (ws rest : Words) → IsToken text → IsWord text ws rest →
    Rewrites (IsWord text) (text ∷ []) ws rest
rewrites_word text ws rest token is = record {
  again = λ other. refl;
  shorter = omega (arith, ap size is);
  tokens = All-cons IsToken text [] token (All-nil IsToken);
}

pub rewrites_both : {P Q R : Spelling} {u v a b c : Words} →
    ((ws mid rest : Words) → P ws mid → Q mid rest → R ws rest) → Rewrites P u a b → Rewrites Q v b c →
    Rewrites R (u ++ v) a c
rewrites_both {R = R} {u = u} {v = v} join first second = record {
  again = λ other.
      subst (λ words. R words other) (sym (append_assoc u v other))
      (join (u ++ (v ++ other)) (v ++ other) other (first.again (v ++ other)) (second.again other));
  shorter = omega (arith, first.shorter, second.shorter, size-append u v);
  tokens = All-append IsToken u v first.tokens second.tokens;
}

pub rewrites_as : {P Q : Spelling} {words ws rest : Words} → ((ws rest : Words) → P ws rest → Q ws rest) →
    Rewrites P words ws rest → Rewrites Q words ws rest
rewrites_as {words = words} weaker known = record {
  again = λ other. weaker (words ++ other) other (known.again other);
  shorter = known.shorter;
  tokens = known.tokens;
}

-- what is spelled in the same way, but for what doesn't depend on the words
pub kept_respells : {R S : Spelling} {words : Words} → ((ws rest : Words) → S ws rest → R ws rest) →
    ((ws rest ws' rest' : Words) → S ws rest → R ws' rest' → S ws' rest') → Respells R words → Respells S words
kept_respells to back r =
    record { rewrites = λ ws rest p. rewrites_as (λ ws' rest' q. back ws rest ws' rest' p q) (r.rewrites ws rest (to ws rest p)) }

pub same_respells : {R S : Spelling} {words : Words} → ((ws rest : Words) → S ws rest → R ws rest) →
    ((ws rest : Words) → R ws rest → S ws rest) → Respells R words → Respells S words
same_respells to from r = kept_respells to (λ ws rest ws' rest' p q. from ws' rest' q) r

less_begun : {R S : Spelling} {words ws rest mid : Words} → size rest ≤ size mid →
    ((ws rest : Words) → R ws rest → S ws rest) → Rewrites R words ws mid → Rewrites S words ws rest
less_begun {words = words} less enough known = record {
  again = λ other. enough (words ++ other) other (known.again other);
  shorter = omega (arith, known.shorter);
  tokens = known.tokens;
}

-- what begins as R, and for which R is enough
pub begun_respells : {R S : Spelling} {words : Words} →
    ((ws rest : Words) → S ws rest → (mid : Words) × R ws mid × (size rest ≤ size mid)) →
    ((ws rest : Words) → R ws rest → S ws rest) → Respells R words → Respells S words
begun_respells begins enough r =
    record { rewrites = λ ws rest p. let first = begins ws rest p in less_begun first.2 enough (r.rewrites ws first.0 first.1) }

pub nothing_respells : Respells (λ ws rest. ws ≡ rest) []
nothing_respells = record { rewrites = λ ws rest e. rewrites_none ws rest (omega (arith, ap size e)) (λ other. refl) }

pub word_respells : (text : List ℕ) → IsToken text → Respells (IsWord text) (text ∷ [])
word_respells text is = record { rewrites = λ ws rest e. rewrites_word text ws rest is e }

-- a word of which there is one form
pub form_respells : (P : List ℕ → Type 0) (text : List ℕ) → ((w : List ℕ) → P w → w ≡ text) →
    ((w : List ℕ) → P w → IsToken w) → Respells (λ ws rest. (w : List ℕ) × P w × (ws ≡ w ∷ rest)) (text ∷ [])
form_respells P text is_text is_token = record {
  rewrites = λ ws rest p.
      let form : P text = subst P (is_text p.0 p.1) p.1 in
      let word : IsWord text ws rest = p.2 ∙ ap (λ w. w ∷ rest) (is_text p.0 p.1) in
      rewrites_as (λ ws' rest' e. (text, form, e)) (rewrites_word text ws rest (is_token text form) word);
}

-- parts one after the other
abbrev pub Two : Spelling → Spelling → Spelling
Two R S ws rest = (a : Words) × R ws a × S a rest

abbrev pub Three : Spelling → Spelling → Spelling → Spelling
Three R S T ws rest = (a : Words) × (b : Words) × R ws a × S a b × T b rest

abbrev pub Four : Spelling → Spelling → Spelling → Spelling → Spelling
Four R S T U ws rest = (a : Words) × (b : Words) × (c : Words) × R ws a × S a b × T b c × U c rest

abbrev pub Five : Spelling → Spelling → Spelling → Spelling → Spelling → Spelling
Five R S T U V ws rest =
    (a : Words) × (b : Words) × (c : Words) × (d : Words) × R ws a × S a b × T b c × U c d × V d rest

pub two_respell : {R S : Spelling} {v w : Words} → Respells R v → Respells S w → Respells (Two R S) (v ++ w)
two_respell r s =
    record {
      rewrites = λ ws rest p.
          rewrites_both (λ ws mid rest q q'. (mid, q, q')) (r.rewrites ws p.0 p.1) (s.rewrites p.0 rest p.2);
    }

pub three_respell : {R S T : Spelling} {u v w : Words} → Respells R u → Respells S v → Respells T w →
    Respells (Three R S T) (u ++ (v ++ w))
three_respell r s t =
    same_respells (λ ws rest p. (p.0, p.2, (p.1, p.3, p.4))) (λ ws rest p. (p.0, p.2.0, p.1, p.2.1, p.2.2))
    (two_respell r (two_respell s t))

pub four_respell : {R S T U : Spelling} {t u v w : Words} → Respells R t → Respells S u → Respells T v → Respells U w →
    Respells (Four R S T U) (t ++ (u ++ (v ++ w)))
four_respell r s t u =
    same_respells (λ ws rest p. (p.0, p.3, (p.1, p.2, p.4, p.5, p.6)))
    (λ ws rest p. (p.0, p.2.0, p.2.1, p.1, p.2.2, p.2.3, p.2.4)) (two_respell r (three_respell s t u))

pub five_respell : {R S T U V : Spelling} {s t u v w : Words} → Respells R s → Respells S t → Respells T u →
    Respells U v → Respells V w → Respells (Five R S T U V) (s ++ (t ++ (u ++ (v ++ w))))
five_respell r s t u v =
    same_respells (λ ws rest p. (p.0, p.4, (p.1, p.2, p.3, p.5, p.6, p.7, p.8)))
    (λ ws rest p. (p.0, p.2.0, p.2.1, p.2.2, p.1, p.2.3, p.2.4, p.2.5, p.2.6)) (two_respell r (four_respell s t u v))
