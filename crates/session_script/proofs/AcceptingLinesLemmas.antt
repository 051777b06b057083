-- World lines that are spelled, and within the limits, are read.
use Rattle.std.proofs.Common.{◌≡◌, ℕ, ◌≤◌, false, List, [], ◌∷◌, ◌++◌, length, Ok, refl, sym, subst, arith}
use Rattle.std.specs.Prelude.{nat_le}
use Rattle.std.specs.List.{All, AllByRecursion}
use Rattle.std.proofs.lemmas.List.Elements.{recursion_from_All}
use lib.Chars.{codes}
use Rattle.asio_types.specs.declared.world.Line.{Line}
use Rattle.asio_types.specs.declared.world.What.{What}
use Rattle.asio_types.specs.declared.world.What.TheVariants as what
use Rattle.session_script.specs.declared.parts.Header.{Header}
use Rattle.session_script.specs.declared.reader.world_line.WorldWord.{WorldWord}
use Rattle.session_script.specs.declared.reader.world_line.WorldWord.TheVariants as world
use Rattle.session_script.specs.Tokens.{begins}
use Rattle.session_script.specs.Productions.{one, world_word, what_happens, world_line, next_world_line, world_lines}
use Rattle.session_script.specs.Text.{Words, IsWord, IsN, IsWhatText, IsLineText, IsLinesText}
use Rattle.session_script.specs.WellFormed.{FitsWhat, FitsLine}
use Rattle.session_script.proofs.AcceptingLemmas.{one_accepts, starts, begins_starts, Turns, repeated_accepts}
use Rattle.session_script.proofs.ReadingAsLemmas.{ReadsAs, by_accepts, accepts_by, then_reads_as, done_reads_as}
use Rattle.session_script.proofs.AcceptingPartsLemmas.{another_accepts, bounded_accepts, declared_accepts, bytes_accepts}
use Rattle.session_script.proofs.NextWordsLemmas.{word_starts}
use Rattle.session_script.proofs.SequencesLemmas.{Sequence, ReadsOneMore, has_room, sequence_turns}
use Rattle.session_script.proofs.TurnsLemmas.{next_line_takes}

word_of_line : (word : WorldWord) (text : List ℕ) (ws rest : Words) → world_word text ≡ Ok word → IsWord text ws rest →
    ReadsAs (one world_word) word ws rest
word_of_line word text ws rest takes is = by_accepts (one_accepts world_word) word ws rest (text, takes, is)

-- the word of what happens, its stream, and what stands after them
record IsRead (h : Header) (happened : What) (stream : ℕ) (ws rest : Words) : Type 0 where
  word : WorldWord
  at_stream : Words
  at_what : Words
  of_word : ReadsAs (one world_word) word ws at_stream
  of_stream : IsN stream at_stream at_what
  of_what : ReadsAs (what_happens h word) happened at_what rest

what_is_read : (h : Header) (happened : What) (stream : ℕ) (ws rest : Words) → IsWhatText happened stream ws rest →
    FitsWhat h happened → IsRead h happened stream ws rest
unfolding world_word what_happens
what_is_read h (what.Feed bytes) stream ws rest p fits = record {
  word = world.Feed;
  at_stream = p.0;
  at_what = p.1;
  of_word = word_of_line world.Feed (codes "feed") ws p.0 refl p.2;
  of_stream = p.3;
  of_what =
      then_reads_as _ (by_accepts (bytes_accepts h.limits.size) bytes p.1 rest (p.4, fits.1)) (done_reads_as _ rest);
}
what_is_read h what.End stream ws rest p fits = record {
  word = world.End;
  at_stream = p.0;
  at_what = rest;
  of_word = word_of_line world.End (codes "end") ws p.0 refl p.1;
  of_stream = p.2;
  of_what = done_reads_as _ rest;
}
what_is_read h what.Reset stream ws rest p fits = record {
  word = world.Reset;
  at_stream = p.0;
  at_what = rest;
  of_word = word_of_line world.Reset (codes "reset") ws p.0 refl p.1;
  of_stream = p.2;
  of_what = done_reads_as _ rest;
}
what_is_read h (what.Room room) stream ws rest p fits = record {
  word = world.Room;
  at_stream = p.0;
  at_what = p.1;
  of_word = word_of_line world.Room (codes "room") ws p.0 refl p.2;
  of_stream = p.3;
  of_what =
      then_reads_as _ (by_accepts (bounded_accepts 1 h.limits.room) room p.1 rest (p.4, fits.0, fits.1)) (done_reads_as _ rest);
}

-- a line that fits
abbrev IsFittingLine : Header → Line → Words → Words → Type 0
IsFittingLine h line ws rest = IsLineText line ws rest × FitsLine h line

line_is_read : (h : Header) (next : Line) (ws rest : Words) → IsLineText next ws rest → FitsLine h next →
    ReadsAs (world_line h false) next ws rest
unfolding world_line
line_is_read h next ws rest p fits =
    let x = what_is_read h next.what next.stream p.1 rest p.4 fits.2 in
    then_reads_as _ (by_accepts (another_accepts (codes "at")) tt ws p.0 p.2)
    (then_reads_as _ (by_accepts (bounded_accepts 0 h.limits.time) next.time p.0 p.1 (p.3, omega arith, fits.0))
    (then_reads_as _ x.of_word
    (then_reads_as _ (by_accepts (declared_accepts h.streams) next.stream x.at_stream x.at_what (x.of_stream, fits.1))
    (then_reads_as _ x.of_what (done_reads_as next rest)))))

next_line_is_read : (h : Header) → ReadsOneMore (IsFittingLine h) h.limits.lines (next_world_line h)
unfolding next_world_line
next_line_is_read h so_far next ws rest below p =
    let as_line : ReadsAs (world_line h (nat_le h.limits.lines (length so_far))) next ws rest =
    subst (λ full. ReadsAs (world_line h full) next ws rest) (sym (has_room h.limits.lines (length so_far) below))
    (line_is_read h next ws rest p.0 p.1) in
    then_reads_as _ as_line (done_reads_as (so_far ++ next ∷ []) rest)

fitting_lines : (h : Header) (all : List Line) (ws rest : Words) → IsLinesText all ws rest →
    AllByRecursion (FitsLine h) all → Sequence (IsFittingLine h) all ws rest
fitting_lines h [] ws rest p fit = p
fitting_lines h (first ∷ others) ws rest p fit = (p.0, (p.1, fit.0), fitting_lines h others p.0 rest p.2 fit.1)

lines_turn : (h : Header) (all : List Line) (ws rest : Words) → IsLinesText all ws rest → All (FitsLine h) all →
    length all ≤ h.limits.lines → starts (codes "at") rest ≡ false →
    Turns (starts (codes "at")) (λ so_far. ReadsAs (next_world_line h so_far)) [] all ws rest
lines_turn h all ws rest p fit few stops =
    sequence_turns (IsFittingLine h) (starts (codes "at"))
    (λ next now left is. word_starts (codes "at") now is.0.0 is.0.2) h.limits.lines (next_world_line h)
    (next_line_is_read h) [] all ws rest (omega arith)
    (fitting_lines h all ws rest p (recursion_from_All (FitsLine h) all fit)) stops

pub lines_read_as : (h : Header) (all : List Line) (ws rest : Words) → IsLinesText all ws rest → All (FitsLine h) all →
    length all ≤ h.limits.lines → starts (codes "at") rest ≡ false → ReadsAs (world_lines h) all ws rest
unfolding world_lines
lines_read_as h all ws rest p fit few stops =
    by_accepts
    (repeated_accepts (begins (codes "at")) (starts (codes "at")) (next_world_line h)
    (λ so_far. ReadsAs (next_world_line h so_far)) (begins_starts (codes "at")) (λ at. refl) (next_line_takes h)
    (λ so_far. accepts_by (ReadsAs (next_world_line h so_far)) (λ after now left is. is)) []) all ws rest
    (lines_turn h all ws rest p fit few stops)
