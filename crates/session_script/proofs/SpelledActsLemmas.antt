-- Acts and bodies that are read are spelled so.
use Rattle.std.proofs.Common.{◌≡◌, ℕ, zero, suc, Bool, true, false, not, cond, ◌&&◌, List, [], ◌∷◌, ◌++◌, length, Option, Some, None, Result, Ok, Err, refl, sym, ap, ◌∙◌}
use Rattle.std.specs.Prelude.{nat_eq, nat_le}
use Rattle.std.specs.Str.{bytes_eq}
use lib.Chars.{codes}
use Rattle.asio_types.specs.declared.code.Class.TheVariants as class
use Rattle.session_script.specs.declared.refusal.Refusal.{Refusal}
use Rattle.session_script.specs.declared.act.Act.{Act}
use Rattle.session_script.specs.declared.parts.Header.{Header}
use Rattle.session_script.specs.declared.reader.act_word.ActWord.{ActWord}
use Rattle.session_script.specs.declared.reader.act_word.ActWord.TheVariants as words
use Rattle.session_script.specs.declared.act.Bodies.{Bodies}
use Rattle.session_script.specs.declared.act.Bodies.TheVariants as bodies
use Rattle.session_script.specs.Script.{Place, Entry}
use Rattle.session_script.specs.Tokens.{Tokens, begins, goes_on, token_count}
use Rattle.session_script.specs.Productions.{and_then, one, many, repeated, another}
use Rattle.session_script.specs.Acts.{context_word, timer_word, stream_word, or_else, act_word_of, while_room, act_word, fields, bodies_of, BodyReader, branch, branches, bodies_after, entry, braced, body}
use Rattle.session_script.specs.Text.{Words, IsWord, act_text, IsLater, BelongsTo, IsFieldsText, IsActText, IsBodyText, in_braces, IsActsText, no_act, an_act, IsBodiesText, no_body, one_body, all_bodies, IsBranchText, left_out, spelled_out}
use Rattle.std.proofs.lemmas.Bool.{false≢true}
use Rattle.session_script.proofs.HoldingLemmas.{Holds, another_reads}
use Rattle.session_script.proofs.SpelledLemmas.{is_later, Spelt, Spells, then_spells, done_spells, weaker_spells, if_spells, Says, OneWord, one_spells, is_text, word_spells, another_spells, bounded_spells, declared_spells, optional_spells, types_spells, plug_spells, bytes_spells}

-- the word of an act word
word_text : ActWord → List ℕ
word_text words.Post = codes "post"
word_text words.Defer = codes "defer"
word_text words.Dispatch = codes "dispatch"
word_text words.Expires = codes "expires"
word_text words.ExpiresAt = codes "expiresat"
word_text words.Wait = codes "wait"
word_text words.Cancel = codes "cancel"
word_text words.CancelOne = codes "cancelone"
word_text words.Emit = codes "emit"
word_text words.ReadSome = codes "readsome"
word_text words.Read = codes "read"
word_text words.Until = codes "until"
word_text words.WriteSome = codes "writesome"
word_text words.Write = codes "write"
word_text words.Close = codes "close"
word_text words.Release = codes "release"
word_text words.Stop = codes "stop"

-- a word that belongs to version 2 alone
abbrev WordBelongs : ℕ → ActWord → Type 0
WordBelongs v words.ExpiresAt = IsLater v
WordBelongs v _ = Unit {0}

-- an act word that was found is what the bytes spell
Finds : ℕ → List ℕ → Option ActWord → Type 0
Finds v bs None = Unit {0}
Finds v bs (Some w) = (bs ≡ word_text w) × WordBelongs v w

finds_none : (v : ℕ) (bs : List ℕ) → Finds v bs None
unfolding Finds
finds_none v bs = tt

finds_or : (v : ℕ) (bs : List ℕ) (w : ActWord) (test : Bool) (other : Option ActWord) →
    (test ≡ true → (bs ≡ word_text w) × WordBelongs v w) → Finds v bs other → Finds v bs (cond test (Some w) other)
unfolding Finds
finds_or v bs w true other found rest = found refl
finds_or v bs w false other found rest = rest

finds_else : (v : ℕ) (bs : List ℕ) (first second : Option ActWord) → Finds v bs first → Finds v bs second →
    Finds v bs (or_else first second)
unfolding Finds
finds_else v bs None second h k = k
finds_else v bs (Some w) second h k = h

spelt_word : (bs text : List ℕ) → bytes_eq bs text ≡ true → (bs ≡ text) × Unit {0}
spelt_word bs text e = (is_text bs text e, tt)

finds_context : (v : ℕ) (bs : List ℕ) → Finds v bs (context_word bs)
unfolding context_word word_text
finds_context v bs =
    finds_or v bs words.Post _ _ (spelt_word bs _) (finds_or v bs words.Defer _ _ (spelt_word bs _)
    (finds_or v bs words.Dispatch _ _ (spelt_word bs _) (finds_or v bs words.Release _ _ (spelt_word bs _)
    (finds_or v bs words.Stop _ _ (spelt_word bs _) (finds_none v bs)))))

first_of_both : (a b : Bool) → (a && b) ≡ true → a ≡ true
first_of_both true b h = refl
first_of_both false b h = h

second_of_both : (a b : Bool) → (a && b) ≡ true → b ≡ true
second_of_both true b h = h
second_of_both false b h = absurd (false≢true h)

not_true : (b : Bool) → not b ≡ true → b ≡ false
not_true true h = absurd (false≢true h)
not_true false h = refl

later_word : (v : ℕ) (bs : List ℕ) → (bytes_eq bs (codes "expiresat") && not (nat_eq v 1)) ≡ true →
    (bs ≡ codes "expiresat") × IsLater v
later_word v bs e = (
  is_text bs _ (first_of_both (bytes_eq bs (codes "expiresat")) (not (nat_eq v 1)) e),
  is_later v (not_true (nat_eq v 1) (second_of_both (bytes_eq bs (codes "expiresat")) (not (nat_eq v 1)) e)),
)

finds_timer : (v : ℕ) (bs : List ℕ) → Finds v bs (timer_word v bs)
unfolding timer_word word_text
finds_timer v bs =
    finds_or v bs words.Expires _ _ (spelt_word bs _) (finds_or v bs words.ExpiresAt _ _ (later_word v bs)
    (finds_or v bs words.Wait _ _ (spelt_word bs _) (finds_or v bs words.Cancel _ _ (spelt_word bs _)
    (finds_or v bs words.CancelOne _ _ (spelt_word bs _)
    (finds_or v bs words.Emit _ _ (spelt_word bs _) (finds_none v bs))))))

finds_stream : (v : ℕ) (bs : List ℕ) → Finds v bs (stream_word bs)
unfolding stream_word word_text
finds_stream v bs =
    finds_or v bs words.ReadSome _ _ (spelt_word bs _) (finds_or v bs words.Read _ _ (spelt_word bs _)
    (finds_or v bs words.Until _ _ (spelt_word bs _) (finds_or v bs words.WriteSome _ _ (spelt_word bs _)
    (finds_or v bs words.Write _ _ (spelt_word bs _)
    (finds_or v bs words.Close _ _ (spelt_word bs _) (finds_none v bs))))))

finds_act : (v : ℕ) (bs : List ℕ) → Finds v bs (act_word_of v bs)
unfolding act_word_of
finds_act v bs =
    finds_else v bs (context_word bs) (or_else (timer_word v bs) (stream_word bs)) (finds_context v bs)
    (finds_else v bs (timer_word v bs) (stream_word bs) (finds_timer v bs) (finds_stream v bs))

abbrev IsActWord : ℕ → ActWord → List ℕ → Type 0
IsActWord v w bs = (bs ≡ word_text w) × WordBelongs v w

room_says : (v : ℕ) (full : Bool) (bs : List ℕ) (found : Option ActWord) → Finds v bs found →
    Says (IsActWord v) bs (while_room full bs found)
unfolding Finds
room_says v true bs (Some w) h = tt
room_says v false bs (Some w) h = h
room_says v full bs None h = tt

abbrev IsWordOf : ℕ → ActWord → Words → Words → Type 0
IsWordOf v w ws rest = IsWord (word_text w) ws rest × WordBelongs v w

begun_spells : (v : ℕ) (full : Bool) → Spells (IsWordOf v) (one (act_word v full))
unfolding act_word
begun_spells v full =
    weaker_spells (OneWord (IsActWord v)) (IsWordOf v) (λ w ws rest p. (p.2 ∙ ap (λ t. t ∷ rest) p.1.0, p.1.1))
    (one_spells (IsActWord v) (act_word v full) (λ bs. room_says v full bs (act_word_of v bs) (finds_act v bs)))

-- the fields of an act after its word
abbrev IsAfterWord : ℕ → ActWord → Act → Words → Words → Type 0
IsAfterWord v w made ws rest =
    (act_text made ≡ word_text w) × (WordBelongs v w → BelongsTo v made) × IsFieldsText v made ws rest

fields_spell : (h : Header) (w : ActWord) → Spells (IsAfterWord h.version w) (fields h w)
unfolding fields word_text
fields_spell h words.Post =
    then_spells (optional_spells h.strands) (λ strand. done_spells (λ rest ws p. (refl, λ p. p, p)))
fields_spell h words.Defer =
    then_spells (optional_spells h.strands) (λ strand. done_spells (λ rest ws p. (refl, λ p. p, p)))
fields_spell h words.Dispatch =
    then_spells (optional_spells h.strands) (λ strand. done_spells (λ rest ws p. (refl, λ p. p, p)))
fields_spell h words.Expires =
    then_spells (declared_spells h.timers) (λ n.
    then_spells (bounded_spells 0 h.limits.time) (λ time. done_spells (λ rest b q ws p. (refl, λ p. p, (b, p, q)))))
fields_spell h words.ExpiresAt =
    then_spells (declared_spells h.timers) (λ n.
    then_spells (bounded_spells 0 h.limits.time) (λ time. done_spells (λ rest b q ws p. (refl, λ p. p, (b, p, q)))))
fields_spell h words.Wait =
    then_spells (declared_spells h.timers) (λ n.
    then_spells (optional_spells h.strands) (λ strand.
    then_spells (plug_spells h)
    (λ plugged. done_spells (λ rest c r b q ws p. (refl, λ p. p, (b, p, (c, q, r)))))))
fields_spell h words.Cancel = then_spells (declared_spells h.timers) (λ n. done_spells (λ rest ws p. (refl, λ p. p, p)))
fields_spell h words.CancelOne =
    then_spells (declared_spells h.timers) (λ n. done_spells (λ rest ws p. (refl, λ p. p, p)))
fields_spell h words.Emit =
    then_spells (declared_spells h.slots)
    (λ n. then_spells types_spells (λ k. done_spells (λ rest b q ws p. (refl, λ p. p, (b, p, q)))))
fields_spell h words.ReadSome =
    then_spells (declared_spells h.streams) (λ n.
    then_spells (bounded_spells 1 h.limits.size) (λ size.
    then_spells (optional_spells h.strands) (λ strand.
    then_spells (plug_spells h)
    (λ plugged. done_spells (λ rest e s c r b q ws p. (refl, λ p. p, (b, c, p, q, (e, r, s))))))))
fields_spell h words.Read =
    then_spells (declared_spells h.streams) (λ n.
    then_spells (bounded_spells 1 h.limits.size) (λ size.
    then_spells (optional_spells h.strands) (λ strand.
    then_spells (plug_spells h)
    (λ plugged. done_spells (λ rest e s c r b q ws p. (refl, λ p. p, (b, c, p, q, (e, r, s))))))))
fields_spell h words.Until =
    then_spells (declared_spells h.streams) (λ n.
    then_spells (bytes_spells h.limits.delimiter) (λ bs.
    then_spells (bounded_spells 1 h.limits.size) (λ size.
    then_spells (optional_spells h.strands) (λ strand.
    then_spells (plug_spells h) (λ plugged.
    done_spells (λ rest e s g m c r b q ws p. (refl, λ p. p, (b, c, g, p, q, r, (e, m, s)))))))))
fields_spell h words.WriteSome =
    then_spells (declared_spells h.streams) (λ n.
    then_spells (bytes_spells h.limits.size) (λ bs.
    then_spells (optional_spells h.strands) (λ strand.
    then_spells (plug_spells h)
    (λ plugged. done_spells (λ rest e s c r b q ws p. (refl, λ p. p, (b, c, p, q, (e, r, s))))))))
fields_spell h words.Write =
    then_spells (declared_spells h.streams) (λ n.
    then_spells (bytes_spells h.limits.size) (λ bs.
    then_spells (optional_spells h.strands) (λ strand.
    then_spells (plug_spells h)
    (λ plugged. done_spells (λ rest e s c r b q ws p. (refl, λ p. p, (b, c, p, q, (e, r, s))))))))
fields_spell h words.Close = then_spells (declared_spells h.streams) (λ n. done_spells (λ rest ws p. (refl, λ p. p, p)))
fields_spell h words.Release =
    then_spells (declared_spells h.guards) (λ n. done_spells (λ rest ws p. (refl, λ p. p, p)))
fields_spell h words.Stop = done_spells (λ ws. (refl, λ p. p, refl))

-- bodies are spelled so
abbrev pub SpellsAll : ℕ → ℕ → BodyReader → Type 0
SpellsAll v levels inner =
    (place : Place) (entries : List Entry) → Spells (IsBodyText v levels place entries) (inner place entries)

branch_spells : (v levels : ℕ) (text : List ℕ) (inner : BodyReader) (place : Place) (entries : List Entry) →
    SpellsAll v levels inner → Spells (IsBranchText v levels text place entries) (branch text inner place entries)
unfolding branch
branch_spells v levels text inner place entries spells =
    if_spells {P = IsBranchText v levels text place entries} (begins text) entries (λ ws. left_out)
    (then_spells (word_spells text) (λ _.
    weaker_spells (IsBodyText v levels place entries) _ (λ after mid rest in_body ws w. spelled_out mid w in_body)
    (spells place entries)))

branches_spell : (v levels : ℕ) (inner : BodyReader) (op : ℕ) (entries : List Entry) → SpellsAll v levels inner →
    Spells (IsBodiesText v levels bodies.Operation op entries) (branches inner op entries)
unfolding branches
branches_spell v levels inner op entries spells =
    then_spells (spells (Some (op, class.Ok)) entries) (λ after_ok.
    then_spells (branch_spells v levels (codes "abort") inner (Some (op, class.Abort)) after_ok spells) (λ after_abort.
    weaker_spells (IsBranchText v levels (codes "other") (Some (op, class.Other)) after_abort) _ (λ after b rest third a second ws first. all_bodies after_ok after_abort a b first second third) (branch_spells v levels (codes "other") inner (Some (op, class.Other)) after_abort spells)))

bodies_spell : (v levels : ℕ) (inner : BodyReader) (op : ℕ) (which : Bodies) (entries : List Entry) →
    SpellsAll v levels inner → Spells (IsBodiesText v levels which op entries) (bodies_after inner op which entries)
bodies_spell v levels inner op bodies.Nothing entries spells = done_spells (λ ws. no_body)
bodies_spell v levels inner op bodies.Posting entries spells =
    weaker_spells (IsBodyText v levels (Some (op, class.Ok)) entries) (IsBodiesText v levels bodies.Posting op entries)
    (λ after ws rest h. one_body h) (spells (Some (op, class.Ok)) entries)
bodies_spell v levels inner op bodies.Operation entries spells = branches_spell v levels inner op entries spells

-- one act with its bodies
abbrev IsEntryText : ℕ → ℕ → Place → List Entry → List Entry → Words → Words → Type 0
IsEntryText v levels place before after ws rest =
    (made : Act) × (a : Words) × IsActText v made ws a
    × IsBodiesText v levels (bodies_of made) (length before) (before ++ record { act = made; parent = place } ∷ []) after a rest

entry_spells : (levels : ℕ) (h : Header) (inner : BodyReader) (place : Place) (entries : List Entry) →
    SpellsAll h.version levels inner → Spells (IsEntryText h.version levels place entries) (entry h inner place entries)
unfolding entry
entry_spells levels h inner place entries spells =
    then_spells (begun_spells h.version (nat_le h.limits.acts (length entries))) (λ begun.
    then_spells (fields_spell h begun) (λ made.
    weaker_spells
    (IsBodiesText h.version levels (bodies_of made) (length entries)
    (entries ++ record { act = made; parent = place } ∷ [])) _ (λ after b rest in_bodies a of_act ws begins.
    (made, b, (a, of_act.1 begins.1, begins.0 ∙ ap (λ t. t ∷ a) (sym of_act.0), of_act.2), in_bodies))
    (bodies_spell h.version levels inner (length entries) (bodies_of made) (entries ++ record { act = made; parent = place } ∷ []) spells)))

module _ (levels : ℕ) (h : Header) (inner : BodyReader) (place : Place) (spells : SpellsAll h.version levels inner)
  where
    many_spell : (fuel : ℕ) (entries : List Entry) →
        Spells (IsActsText h.version levels place entries) (many (goes_on (codes "}")) (entry h inner place) fuel entries)
    many_spell zero entries = done_spells (λ ws. no_act)
    many_spell (suc fuel) entries =
        if_spells {P = IsActsText h.version levels place entries} (goes_on (codes "}")) entries (λ ws. no_act)
        (then_spells (entry_spells levels h inner place entries spells) (λ with_bodies.
        weaker_spells (IsActsText h.version levels place with_bodies) _
        (λ after b rest others ws first. an_act first.0 with_bodies first.1 b first.2 first.3 others)
        (many_spell fuel with_bodies)))

    acts_spell : (entries : List Entry) →
        Spells (IsActsText h.version levels place entries) (repeated (goes_on (codes "}")) (entry h inner place) entries)
    unfolding repeated
    acts_spell entries = record { spelt = λ ts. (many_spell (token_count ts) entries).spelt ts }

    braced_spells : (full : Bool) (entries : List Entry) →
        Spells (IsBodyText h.version (suc levels) place entries) (braced h full inner place entries)
    unfolding braced
    braced_spells full entries =
        then_spells (another_spells (codes "{") full) (λ _.
        then_spells (acts_spell entries) (λ filled.
        then_spells (word_spells (codes "}"))
        (λ _. done_spells (λ rest b closed a acts ws opened. in_braces a b opened acts closed))))

never_spelt : {A : Type 0} (P : A → Words → Words → Type 0) (ts : Tokens) (r : Result (Unit {0} × Tokens) Refusal)
    (f : Unit {0} → Tokens → Result (A × Tokens) Refusal) → Holds (λ u. true ≡ false) r → Spelt P ts (and_then r f)
never_spelt P ts (Ok read) f never = absurd (false≢true (sym never))
never_spelt P ts (Err refusal) f never = tt

pub body_spells : (h : Header) (levels : ℕ) → SpellsAll h.version levels (body h levels)
unfolding body braced
body_spells h zero place entries =
    record {
      spelt = λ ts.
          never_spelt (IsBodyText h.version zero place entries) ts (another (codes "{") true ts) _
          ((another_reads (codes "{") true).holds ts);
    }
body_spells h (suc levels) place entries =
    braced_spells levels h (body h levels) place (body_spells h levels) false entries
