-- The words that an act is written as spell it again, no longer than any others.
use Rattle.std.proofs.Common.{◌≡◌, ℕ, ◌≤◌, Bool, true, false, cond, [], ◌∷◌, Option, Some, inl, inr, refl, sym, subst, arith}
use Rattle.std.specs.Prelude.{◌==◌}
use Rattle.std.proofs.lemmas.Bool.{eqb-true, eqb-false}
use Rattle.std.specs.Fmt.{decimal}
use lib.Chars.{codes}
use Rattle.session_script.specs.declared.act.Act.{Act}
use Rattle.session_script.specs.declared.act.Act.TheVariants as act
use Rattle.session_script.specs.Tokens.{is_printable}
use Rattle.session_script.specs.Text.{Words, IsWord, IsN, IsDashOrN, IsPlugText, IsTail, act_text, IsFieldsText, IsActText}
use Rattle.session_script.specs.Spelling.{number_or_dash, plug_words, field_words}
use Rattle.session_script.proofs.TokenizingLemmas.{IsToken, size}
use Rattle.session_script.proofs.RespellingLemmas.{Respells, kept_respells, begun_respells, nothing_respells, word_respells, Two, Three, two_respell, three_respell, four_respell}
use Rattle.session_script.proofs.CanonicalLemmas.{number_respells, optional_respells, data_respells}

only_is_token : IsToken (codes "only")
unfolding is_printable
only_is_token = (omega arith, refl)

-- a filter after its slot
only_respells : (filter : ℕ) → Respells (Two (IsWord (codes "only")) (IsN filter)) (codes "only" ∷ decimal filter ∷ [])
only_respells filter = two_respell (word_respells (codes "only") only_is_token) (number_respells filter)

a_slot : (slot : Option ℕ) (n : ℕ) (ws rest : Words) → slot ≡ Some n → IsN n ws rest → IsDashOrN slot ws rest
a_slot slot n ws rest e p = subst (λ o. IsDashOrN o ws rest) (sym e) p

the_slot : (slot : Option ℕ) (n : ℕ) (ws rest : Words) → slot ≡ Some n → IsDashOrN slot ws rest → IsN n ws rest
the_slot slot n ws rest e p = subst (λ o. IsDashOrN o ws rest) e p

-- the filter that lets all pass may be left out
slot_begins : (version : ℕ) (slot : Option ℕ) (filter : ℕ) (ws rest : Words) → IsPlugText version slot filter ws rest →
    (mid : Words) × IsDashOrN slot ws mid × (size rest ≤ size mid)
slot_begins version slot filter ws rest (inl p) = (rest, p.0, omega arith)
slot_begins version slot filter ws rest (inr p) = (
  p.1.1,
  a_slot slot p.1.0 ws p.1.1 p.1.3 p.1.4,
  omega (arith, ((only_respells filter).rewrites p.1.1 rest (p.1.2, p.1.5, p.1.6)).shorter),
)

abbrev IsFiltered : Option ℕ → ℕ → Words → Words → Type 0
IsFiltered slot filter = Three (IsDashOrN slot) (IsWord (codes "only")) (IsN filter)

filtered : (version : ℕ) (slot : Option ℕ) (filter : ℕ) → (filter == 7) ≡ false → (ws rest : Words) →
    IsPlugText version slot filter ws rest → IsFiltered slot filter ws rest
filtered version slot filter other ws rest (inl p) = absurd (eqb-false filter 7 other p.1)
filtered version slot filter other ws rest (inr p) =
    (p.1.1, p.1.2, a_slot slot p.1.0 ws p.1.1 p.1.3 p.1.4, p.1.5, p.1.6)

filtered_again : (version : ℕ) (slot : Option ℕ) (filter : ℕ) → (filter == 7) ≡ false → (ws rest ws' rest' : Words) →
    IsPlugText version slot filter ws rest → IsFiltered slot filter ws' rest' → IsPlugText version slot filter ws' rest'
filtered_again version slot filter other ws rest ws' rest' (inl p) q = absurd (eqb-false filter 7 other p.1)
filtered_again version slot filter other ws rest ws' rest' (inr p) q =
    inr (p.0, (p.1.0, q.0, q.1, p.1.3, the_slot slot p.1.0 ws' q.0 p.1.3 q.2, q.3, q.4))

plug_by : (version : ℕ) (slot : Option ℕ) (filter : ℕ) (all : Bool) → (filter == 7) ≡ all →
    Respells (IsPlugText version slot filter)
    (cond all (number_or_dash slot ∷ []) (number_or_dash slot ∷ codes "only" ∷ decimal filter ∷ []))
plug_by version slot filter true all =
    begun_respells (slot_begins version slot filter) (λ ws rest p. inl (p, eqb-true filter 7 all)) (optional_respells slot)
plug_by version slot filter false other =
    kept_respells (filtered version slot filter other) (filtered_again version slot filter other)
    (three_respell (optional_respells slot) (word_respells (codes "only") only_is_token) (number_respells filter))

pub plug_respells : (version : ℕ) (slot : Option ℕ) (filter : ℕ) →
    Respells (IsPlugText version slot filter) (plug_words slot filter)
plug_respells version slot filter = plug_by version slot filter (filter == 7) refl

pub tail_respells : (version : ℕ) (strand slot : Option ℕ) (filter : ℕ) →
    Respells (IsTail version strand slot filter) (number_or_dash strand ∷ plug_words slot filter)
tail_respells version strand slot filter = two_respell (optional_respells strand) (plug_respells version slot filter)

act_text_is_token : (made : Act) → IsToken (act_text made)
unfolding is_printable
act_text_is_token (act.Post strand) = (omega arith, refl)
act_text_is_token (act.Defer strand) = (omega arith, refl)
act_text_is_token (act.Dispatch strand) = (omega arith, refl)
act_text_is_token (act.Expires timer after) = (omega arith, refl)
act_text_is_token (act.ExpiresAt timer at) = (omega arith, refl)
act_text_is_token (act.Wait timer strand slot filter) = (omega arith, refl)
act_text_is_token (act.Cancel timer) = (omega arith, refl)
act_text_is_token (act.CancelOne timer) = (omega arith, refl)
act_text_is_token (act.Emit slot kinds) = (omega arith, refl)
act_text_is_token (act.ReadSome stream size strand slot filter) = (omega arith, refl)
act_text_is_token (act.ReadAll stream size strand slot filter) = (omega arith, refl)
act_text_is_token (act.Until stream delimiter max strand slot filter) = (omega arith, refl)
act_text_is_token (act.WriteSome stream bytes strand slot filter) = (omega arith, refl)
act_text_is_token (act.WriteAll stream bytes strand slot filter) = (omega arith, refl)
act_text_is_token (act.Close stream) = (omega arith, refl)
act_text_is_token (act.Release guard) = (omega arith, refl)
act_text_is_token act.Stop = (omega arith, refl)

pub fields_respells : (version : ℕ) (made : Act) → Respells (IsFieldsText version made) (field_words made)
fields_respells version (act.Post strand) = optional_respells strand
fields_respells version (act.Defer strand) = optional_respells strand
fields_respells version (act.Dispatch strand) = optional_respells strand
fields_respells version (act.Expires timer after) = two_respell (number_respells timer) (number_respells after)
fields_respells version (act.ExpiresAt timer at) = two_respell (number_respells timer) (number_respells at)
fields_respells version (act.Wait timer strand slot filter) =
    two_respell (number_respells timer) (tail_respells version strand slot filter)
fields_respells version (act.Cancel timer) = number_respells timer
fields_respells version (act.CancelOne timer) = number_respells timer
fields_respells version (act.Emit slot kinds) = two_respell (number_respells slot) (number_respells kinds)
fields_respells version (act.ReadSome stream size strand slot filter) =
    three_respell (number_respells stream) (number_respells size) (tail_respells version strand slot filter)
fields_respells version (act.ReadAll stream size strand slot filter) =
    three_respell (number_respells stream) (number_respells size) (tail_respells version strand slot filter)
fields_respells version (act.Until stream delimiter max strand slot filter) =
    four_respell (number_respells stream) (data_respells delimiter) (number_respells max)
    (tail_respells version strand slot filter)
fields_respells version (act.WriteSome stream bytes strand slot filter) =
    three_respell (number_respells stream) (data_respells bytes) (tail_respells version strand slot filter)
fields_respells version (act.WriteAll stream bytes strand slot filter) =
    three_respell (number_respells stream) (data_respells bytes) (tail_respells version strand slot filter)
fields_respells version (act.Close stream) = number_respells stream
fields_respells version (act.Release guard) = number_respells guard
fields_respells version act.Stop = nothing_respells

pub act_respells : (version : ℕ) (made : Act) → Respells (IsActText version made) (act_text made ∷ field_words made)
act_respells version made =
    kept_respells (λ ws rest p. (p.0, p.2, p.3)) (λ ws rest ws' rest' p q. (q.0, p.1, q.1, q.2))
    (two_respell (word_respells (act_text made) (act_text_is_token made)) (fields_respells version made))
