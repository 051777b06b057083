-- Scripts that are read are spelled so.
use Rattle.std.proofs.Common.{◌≡◌, ℕ, zero, suc, ◌≤◌, Bool, true, false, cond, List, [], ◌∷◌, ◌++◌, length, None, Result, Ok, Err, refl, sym, ap, subst, ◌∙◌, inl, inr, append_assoc, arith}
use Rattle.std.specs.Prelude.{nat_le}
use Rattle.std.specs.Str.{bytes_eq}
use Rattle.std.proofs.lemmas.List.{append-nil}
use lib.Chars.{codes}
use Rattle.asio_types.specs.declared.world.Line.{Line}
use Rattle.asio_types.specs.declared.world.What.{What}
use Rattle.session_script.specs.declared.refusal.Rule.{Rule}
use Rattle.session_script.specs.declared.refusal.Refusal.{Refusal}
use Rattle.session_script.specs.declared.round.Round.{Round}
use Rattle.session_script.specs.declared.round.Pace.{Pace}
use Rattle.session_script.specs.declared.round.Pace.TheVariants as pace
use Rattle.session_script.specs.declared.parts.Header.{Header}
use Rattle.session_script.specs.declared.reader.world_line.WorldWord.{WorldWord}
use Rattle.session_script.specs.declared.reader.world_line.WorldWord.TheVariants as world
use Rattle.session_script.specs.Script.{Entry, ScriptModel}
use Rattle.session_script.specs.Limits.{limits_of}
use Rattle.session_script.specs.declared.limits.Limits.{Limits}
use Rattle.session_script.specs.Tokens.{Tokens, end, token, begins, token_count, tokens_of}
use Rattle.session_script.specs.Kinds.{misplaced, pace_word}
use Rattle.session_script.specs.Productions.{one, many, repeated, header, world_word, what_happens, world_line, next_world_line, world_lines, restart, round, begins_round, next_round, session_rounds}
use Rattle.session_script.specs.Grammar.{are_released, ends, script, whole, IsScript}
use Rattle.session_script.specs.Text.{words_of, Words, IsWord, IsN, IsCountText, IsWhatText, IsLineText, IsLinesText, IsBodyText, pace_text, IsRestartText, IsRoundText, IsRoundsText, IsScriptText}
use Rattle.session_script.proofs.ReadingLemmas.{Told, script_has}
use Rattle.session_script.proofs.SpelledLemmas.{Spelt, choice_spelt, Spells, then_spells, done_spells, weaker_spells, if_spells, Says, OneWord, one_spells, choice_says, is_text, word_spells, another_spells, bounded_spells, declared_spells, version_spells, bytes_spells, count_spells}
use Rattle.session_script.proofs.SpelledActsLemmas.{body_spells}

-- the word of what happens in a line
world_text : WorldWord → List ℕ
world_text world.Feed = codes "feed"
world_text world.End = codes "end"
world_text world.Reset = codes "reset"
world_text world.Room = codes "room"

abbrev IsWorldWord : WorldWord → List ℕ → Type 0
IsWorldWord w bs = bs ≡ world_text w

happens_spells : Spells (λ w. IsWord (world_text w)) (one world_word)
unfolding world_word world_text
happens_spells =
    weaker_spells (OneWord IsWorldWord) (λ w. IsWord (world_text w)) (λ w ws rest p. p.2 ∙ ap (λ t. t ∷ rest) p.1)
    (one_spells IsWorldWord world_word (λ bs.
    choice_says IsWorldWord bs (bytes_eq bs (codes "feed")) (Ok world.Feed) _ (is_text bs (codes "feed")) (λ _.
    choice_says IsWorldWord bs (bytes_eq bs (codes "end")) (Ok world.End) _ (is_text bs (codes "end")) (λ _.
    choice_says IsWorldWord bs (bytes_eq bs (codes "reset")) (Ok world.Reset) _ (is_text bs (codes "reset")) (λ _.
    choice_says IsWorldWord bs (bytes_eq bs (codes "room")) (Ok world.Room) (Err (misplaced bs)) (is_text bs (codes "room")) (λ _. tt))))))

-- what stands after the word and the stream of a line
abbrev IsAfterStream : WorldWord → What → Words → Words → Type 0
IsAfterStream w happened mid rest =
    (ws : Words) (a : Words) (stream : ℕ) → IsWord (world_text w) ws a → IsN stream a mid →
    IsWhatText happened stream ws rest

what_spells : (h : Header) (w : WorldWord) → Spells (IsAfterStream w) (what_happens h w)
unfolding what_happens world_text
what_spells h world.Feed =
    then_spells (bytes_spells h.limits.size)
    (λ fed. done_spells (λ rest mid is_data ws a stream is_word numeral. (a, mid, is_word, numeral, is_data)))
what_spells h world.End = done_spells (λ mid ws a stream is_word numeral. (a, is_word, numeral))
what_spells h world.Reset = done_spells (λ mid ws a stream is_word numeral. (a, is_word, numeral))
what_spells h world.Room =
    then_spells (bounded_spells 1 h.limits.room)
    (λ room. done_spells (λ rest mid size ws a stream is_word numeral. (a, mid, is_word, numeral, size)))

line_spells : (h : Header) (full : Bool) → Spells IsLineText (world_line h full)
unfolding world_line
line_spells h full =
    then_spells (another_spells (codes "at") full) (λ _.
    then_spells (bounded_spells 0 h.limits.time) (λ time.
    then_spells happens_spells (λ happens.
    then_spells (declared_spells h.streams) (λ stream.
    then_spells (what_spells h happens) (λ what. done_spells (λ rest d after c numeral b is_word a time_is ws at_is. (a, b, at_is, time_is, after b c stream is_word numeral)))))))

-- what was appended is spelled so
abbrev SpellsMore : {A : Type 0} → (List A → Words → Words → Type 0) → List A → List A → Words → Words → Type 0
SpellsMore {A} P before after ws rest = (new : List A) × (after ≡ before ++ new) × P new ws rest

next_line_spells : (h : Header) (so_far : List Line) →
    Spells (λ after ws rest. (next : Line) × (after ≡ so_far ++ next ∷ []) × IsLineText next ws rest)
    (next_world_line h so_far)
unfolding next_world_line
next_line_spells h so_far =
    then_spells (line_spells h (nat_le h.limits.lines (length so_far))) (λ next. done_spells (λ rest ws p. (next, refl, p)))

many_lines : (h : Header) (fuel : ℕ) (so_far : List Line) →
    Spells (SpellsMore IsLinesText so_far) (many (begins (codes "at")) (next_world_line h) fuel so_far)
many_lines h zero so_far = done_spells (λ ws. ([], sym (append-nil so_far), refl))
many_lines h (suc fuel) so_far =
    if_spells {P = SpellsMore IsLinesText so_far} (begins (codes "at")) so_far
    (λ ws. ([], sym (append-nil so_far), refl)) (then_spells (next_line_spells h so_far) (λ mid_lines.
    weaker_spells (SpellsMore IsLinesText mid_lines) _
    (λ after mid rest others ws first. (
      first.0 ∷ others.0,
      others.1 ∙ ap (λ l. l ++ others.0) first.1 ∙ append_assoc so_far (first.0 ∷ []) others.0,
      (mid, first.2, others.2),
    )) (many_lines h fuel mid_lines)))

as_lines : (after : List Line) (ws rest : Words) → SpellsMore IsLinesText [] after ws rest → IsLinesText after ws rest
as_lines after ws rest p = subst (λ ls. IsLinesText ls ws rest) (sym p.1) p.2

pub lines_spell : (h : Header) → Spells IsLinesText (world_lines h)
unfolding world_lines repeated
lines_spell h =
    weaker_spells (SpellsMore IsLinesText []) IsLinesText as_lines
    (record { spelt = λ ts. (many_lines h (token_count ts) []).spelt ts })

abbrev IsPace : Pace → List ℕ → Type 0
IsPace p bs = bs ≡ pace_text p

full_says : (full : Bool) (bs : List ℕ) (p : Pace) (violated : Rule) → bs ≡ pace_text p →
    Says IsPace bs (cond full (Err violated) (Ok p))
full_says true bs p violated e = tt
full_says false bs p violated e = e

pace_spells : (full : Bool) → Spells (λ p. IsWord (pace_text p)) (one (pace_word full))
unfolding pace_word
pace_spells full =
    weaker_spells (OneWord IsPace) (λ p. IsWord (pace_text p)) (λ w ws rest p. p.2 ∙ ap (λ t. t ∷ rest) p.1)
    (one_spells IsPace (pace_word full) (λ bs.
    choice_says IsPace bs (bytes_eq bs (codes "run")) _ _ (λ e. full_says full bs pace.Run _ (is_text bs (codes "run") e)) (λ _.
    choice_says IsPace bs (bytes_eq bs (codes "poll")) _ (Err (misplaced bs)) (λ e. full_says full bs pace.Poll _ (is_text bs (codes "poll") e)) (λ _. tt))))

restart_spells : (full : Bool) → Spells IsRestartText (restart full)
unfolding restart
restart_spells full =
    if_spells {P = IsRestartText} (begins (codes "restart")) false (λ ws. inl (refl, refl))
    (then_spells (another_spells (codes "restart") full) (λ _. done_spells (λ rest ws p. inr (refl, p))))

round_spells : (h : Header) (full : Bool) → Spells IsRoundText (round h full)
unfolding round
round_spells h full =
    then_spells (restart_spells full) (λ restarted.
    then_spells (pace_spells full) (λ pace_is.
    then_spells (bounded_spells 1 h.limits.workers) (λ workers.
    done_spells (λ rest b numeral a is_pace ws is_restart. (a, b, is_restart, is_pace, numeral)))))

next_round_spells : (h : Header) (so_far : List Round) →
    Spells (λ after ws rest. (next : Round) × (after ≡ so_far ++ next ∷ []) × IsRoundText next ws rest)
    (next_round h so_far)
unfolding next_round
next_round_spells h so_far =
    then_spells (round_spells h (nat_le h.limits.rounds (length so_far))) (λ next. done_spells (λ rest ws p. (next, refl, p)))

many_rounds : (h : Header) (fuel : ℕ) (so_far : List Round) →
    Spells (SpellsMore IsRoundsText so_far) (many begins_round (next_round h) fuel so_far)
many_rounds h zero so_far = done_spells (λ ws. ([], sym (append-nil so_far), refl))
many_rounds h (suc fuel) so_far =
    if_spells {P = SpellsMore IsRoundsText so_far} begins_round so_far (λ ws. ([], sym (append-nil so_far), refl))
    (then_spells (next_round_spells h so_far) (λ mid_rounds.
    weaker_spells (SpellsMore IsRoundsText mid_rounds) _
    (λ after mid rest others ws first. (
      first.0 ∷ others.0,
      others.1 ∙ ap (λ l. l ++ others.0) first.1 ∙ append_assoc so_far (first.0 ∷ []) others.0,
      (mid, first.2, others.2),
    )) (many_rounds h fuel mid_rounds)))

pub rounds_spell : (h : Header) → Spells (λ rs ws rest. IsRoundsText rs ws rest × (1 ≤ length rs)) (session_rounds h)
unfolding session_rounds repeated
rounds_spell h =
    then_spells (round_spells h false) (λ first.
    weaker_spells (SpellsMore IsRoundsText (first ∷ [])) _
    (λ after mid rest others ws p. (
      subst (λ rs. IsRoundsText rs ws rest) (sym others.1) (mid, p, others.2),
      subst (λ (rs : List Round). 1 ≤ length rs) (sym others.1) (omega arith),
    ))
    (record { spelt = λ ts. (many_rounds h (token_count ts) (first ∷ [])).spelt ts }))

-- what the reader of declarations gives is spelled so
abbrev IsHeaderText : Header → Words → Words → Type 0
IsHeaderText h ws rest =
    (a : Words) × (b : Words) × (c : Words) × (d : Words) × (e : Words) × (f : Words) × IsWord (codes "session") ws a
    × IsN h.version a b × IsCountText (codes "strands") h.strands b c × IsCountText (codes "timers") h.timers c d
    × IsCountText (codes "slots") h.slots d e × IsCountText (codes "streams") h.streams e f
    × IsCountText (codes "guards") h.guards f rest × (h.limits ≡ limits_of h.version)

header_spells : Spells IsHeaderText header
unfolding header
header_spells =
    then_spells (word_spells (codes "session")) (λ _.
    then_spells version_spells (λ number.
    then_spells (count_spells (codes "strands") _) (λ strands.
    then_spells (count_spells (codes "timers") _) (λ timers.
    then_spells (count_spells (codes "slots") _) (λ slots.
    then_spells (count_spells (codes "streams") _) (λ streams.
    then_spells (count_spells (codes "guards") _) (λ guards.
    done_spells (λ rest f is_guards e is_streams d is_slots c is_timers b is_strands a is_version ws is_session. (a, b, c, d, e, f, is_session, is_version, is_strands, is_timers, is_slots, is_streams, is_guards, refl)))))))))

-- the text ends
end_spelt : (guards : ℕ) (acts : List Entry) (ts : Tokens) →
    Spelt (λ u ws rest. (ws ≡ []) × (rest ≡ [])) ts (ends guards acts ts)
end_spelt guards acts (end at) =
    choice_spelt {A = Unit {0}} (λ u ws rest. (ws ≡ []) × (rest ≡ [])) (end at) (are_released guards acts)
    (Ok (tt, end at)) (Err _) (refl, refl) tt
end_spelt guards acts (token bs at rest) = tt

ends_spell : (guards : ℕ) (acts : List Entry) → Spells (λ u ws rest. (ws ≡ []) × (rest ≡ [])) (ends guards acts)
ends_spell guards acts = record { spelt = end_spelt guards acts }

-- all parts of a script together, before its end
script_spells : Spells (λ s ws rest. IsScriptText s ws) script
unfolding script
script_spells =
    then_spells header_spells (λ head.
    then_spells (lines_spell head) (λ lines.
    then_spells (word_spells (codes "open")) (λ _.
    then_spells (body_spells head head.limits.nesting None []) (λ acts.
    then_spells (rounds_spell head) (λ rounds.
    then_spells (ends_spell head.guards acts) (λ _.
    done_spells (λ rest r6 ended r5 are_rounds r4 is_body r3 is_open r2 are_lines ws is_header.
    record {
      at_version = is_header.0;
      at_decls = is_header.1;
      at_lines = r2;
      at_open = r3;
      at_body = r4;
      at_rounds = r5;
      session = is_header.6;
      version = is_header.7;
      decls = (
        is_header.2,
        is_header.3,
        is_header.4,
        is_header.5,
        is_header.8,
        is_header.9,
        is_header.10,
        is_header.11,
        is_header.12,
      );
      lines = are_lines;
      open_word = is_open;
      acts =
          subst (λ (limits : Limits). IsBodyText head.version limits.nesting None [] acts r4 r5) is_header.13 is_body;
      some_round = are_rounds.1;
      rounds = subst (λ (left : Words). IsRoundsText rounds r5 left) ended.0 are_rounds.0;
    })))))))

spelt_told : (ts : Tokens) (r : Result (ScriptModel × Tokens) Refusal) → Spelt (λ s ws rest. IsScriptText s ws) ts r →
    Told (λ s. IsScriptText s (words_of ts)) (whole r)
spelt_told ts (Ok read) p = p
spelt_told ts (Err refusal) p = tt

-- what is read is spelled so
pub script_is_spelled : (bytes : List ℕ) (s : ScriptModel) → IsScript bytes s →
    IsScriptText s (words_of (tokens_of bytes))
script_is_spelled bytes s is =
    script_has (λ s'. IsScriptText s' (words_of (tokens_of bytes))) bytes s
    (spelt_told (tokens_of bytes) (script (tokens_of bytes)) (script_spells.spelt (tokens_of bytes))) is
