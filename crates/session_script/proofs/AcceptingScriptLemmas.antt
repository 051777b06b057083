-- Scripts that are spelled, and well formed, are read.
use Rattle.std.proofs.Common.{◌≡◌, ℕ, ◌⊎◌, true, false, List, [], ◌∷◌, None, Ok, inl, inr, refl, sym, ap, subst, ◌∙◌}
use lib.Chars.{codes}
use Rattle.asio_types.specs.declared.world.Line.{Line}
use Rattle.session_script.specs.Script.{Entry, ScriptModel}
use Rattle.session_script.specs.Tokens.{Tokens, end, token}
use Rattle.session_script.specs.Limits.{limits_of}
use Rattle.session_script.specs.Acts.{body}
use Rattle.session_script.specs.Grammar as grammar
use Rattle.session_script.specs.Grammar.{are_released, ends, whole}
use Rattle.session_script.specs.Text.{words_of, Words, IsWord, IsLinesText, IsBodyText, IsScriptText}
use Rattle.session_script.specs.WellFormed.{header_of, IsWellFormed}
use Rattle.session_script.proofs.AcceptingLemmas.{starts}
use Rattle.session_script.proofs.ReadingAsLemmas.{ReadsAs, by_accepts, then_reads_as, done_reads_as}
use Rattle.session_script.proofs.AcceptingPartsLemmas.{word_accepts}
use Rattle.session_script.proofs.NextWordsLemmas.{IsAmong, word_starts, starts_with_another}
use Rattle.session_script.proofs.AcceptingHeaderLemmas.{after_guards, as_among, header_reads_as}
use Rattle.session_script.proofs.AcceptingLinesLemmas.{lines_read_as}
use Rattle.session_script.proofs.AcceptingRoundsLemmas.{rounds_read_as}
use Rattle.session_script.proofs.AcceptingBodiesLemmas.{body_is_read}

-- the text ends where each guard is released
end_is_read : (guards : ℕ) (acts : List Entry) → are_released guards acts ≡ true → ReadsAs (ends guards acts) tt [] []
end_is_read guards acts released = record { reads = λ ts is. at_end ts is }
  where
    at_end : (ts : Tokens) → words_of ts ≡ [] →
        (left : Tokens) × (words_of left ≡ []) × (ends guards acts ts ≡ Ok (tt, left))
    at_end (end at) is = (end at, refl, rw released refl)
    at_end (token bytes at rest) is = absurd (cc)

-- before "open" come lines, if any
open_or_at : (script : ScriptModel) (ws rest after : Words) → IsLinesText script.world.lines ws rest →
    IsWord (codes "open") rest after → (starts (codes "at") ws ≡ true) ⊎ (starts (codes "open") ws ≡ true)
open_or_at script ws rest after are is = by_lines script.world.lines are
  where
    by_lines : (lines : List Line) → IsLinesText lines ws rest →
        (starts (codes "at") ws ≡ true) ⊎ (starts (codes "open") ws ≡ true)
    by_lines [] none = inr (word_starts (codes "open") ws after (none ∙ is))
    by_lines (first ∷ others) some = inl (word_starts (codes "at") ws some.1.0 some.1.2)

body_reads_as : (script : ScriptModel) (ws rest : Words) →
    IsBodyText script.version (limits_of script.version).nesting None [] script.acts ws rest → IsWellFormed script →
    ReadsAs (body (header_of script) (limits_of script.version).nesting None []) script.acts ws rest
body_reads_as script ws rest p well =
    record {
      reads = λ ts is.
          body_is_read script ts rest
          (subst (λ now. IsBodyText script.version (limits_of script.version).nesting None [] script.acts now rest)
          (sym is) p) well;
    }

script_reads_as : (script : ScriptModel) (ws : Words) → IsScriptText script ws → IsWellFormed script →
    ReadsAs grammar.script script ws []
unfolding grammar.script
script_reads_as script ws p well =
    let opens : starts (codes "at") p.at_open ≡ false =
    starts_with_another (codes "open") (codes "at") p.at_open (word_starts (codes "open") p.at_open p.at_body p.open_word) refl in
    let next : IsAmong after_guards p.at_lines =
    as_among p.at_lines (open_or_at script p.at_lines p.at_open p.at_body p.lines p.open_word) in
    then_reads_as _ (header_reads_as script ws p.at_version p.at_decls p.at_lines p.session p.version p.decls well next)
    (then_reads_as _
    (lines_read_as (header_of script) script.world.lines p.at_lines p.at_open p.lines well.lines well.line_count
    opens) (then_reads_as _ (by_accepts (word_accepts (codes "open")) tt p.at_open p.at_body p.open_word)
    (then_reads_as _ (body_reads_as script p.at_body p.at_rounds p.acts well) (then_reads_as _
    (rounds_read_as (header_of script) script.rounds p.at_rounds p.rounds well.rounds well.some_round
    well.round_count)
    (then_reads_as _ (end_is_read script.guards script.acts well.released) (done_reads_as script []))))))

pub script_is_read : (script : ScriptModel) (ts : Tokens) → IsScriptText script (words_of ts) → IsWellFormed script →
    whole (grammar.script ts) ≡ Ok script
script_is_read script ts p well = let x = (script_reads_as script (words_of ts) p well).reads ts refl in ap whole x.2
