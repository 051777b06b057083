-- The words that a part is written as spell it again, no longer than any others: up to declarations, lines and rounds.
use Rattle.std.proofs.Common.{◌≡◌, ℕ, ◌≤◌, Bool, true, false, cond, List, [], ◌∷◌, Option, Some, None, Ok, inl, inr, refl, sym, ap, ◌∙◌, arith}
use Rattle.std.specs.Prelude.{◌==◌}
use Rattle.std.proofs.lemmas.Bool.{eqb-true, eqb-false}
use Rattle.std.specs.Fmt.{decimal}
use Rattle.std.specs.List.{flat_map}
use lib.Chars.{codes}
use Rattle.asio_types.specs.declared.world.Line.{Line}
use Rattle.asio_types.specs.declared.world.What.{What}
use Rattle.asio_types.specs.declared.world.What.TheVariants as what
use Rattle.session_script.specs.declared.round.Round.{Round}
use Rattle.session_script.specs.declared.round.Pace.{Pace}
use Rattle.session_script.specs.declared.round.Pace.TheVariants as pace
use Rattle.session_script.specs.Script.{ScriptModel}
use Rattle.session_script.specs.Tokens.{is_printable}
use Rattle.session_script.specs.Kinds.{number, data_digits, decoded}
use Rattle.session_script.specs.Text.{Words, IsWord, IsN, IsDashOrN, IsDataText, IsCountText, IsWhatText, IsLineText, IsLinesText, pace_text, IsRestartText, IsRoundText, IsRoundsText, IsDeclsText}
use Rattle.session_script.specs.Spelling.{number_or_dash, data_text, count_words, what_words, line_words, round_words, declared_words}
use Rattle.session_script.proofs.TokenizingLemmas.{IsToken, size}
use Rattle.session_script.proofs.NumeralsLemmas.{numeral_is_decimal, data_is_text, numeral_is_token, data_is_token}
use Rattle.session_script.proofs.RespellingLemmas.{Respells, same_respells, begun_respells, nothing_respells, word_respells, form_respells, Two, Three, two_respell, three_respell, five_respell}

pub number_respells : (n : ℕ) → Respells (IsN n) (decimal n ∷ [])
number_respells n =
    form_respells (λ w. number w ≡ Ok n) (decimal n) (λ w. numeral_is_decimal w n) (λ w. numeral_is_token w n)

pub optional_respells : (o : Option ℕ) → Respells (IsDashOrN o) (number_or_dash o ∷ [])
unfolding is_printable
optional_respells None = word_respells (codes "-") (omega arith, refl)
optional_respells (Some n) = number_respells n

-- a word of DATA
abbrev IsDataWord : List ℕ → List ℕ → Type 0
IsDataWord bytes w = (most : ℕ) × (digits : List ℕ) × (data_digits most w ≡ Ok digits) × (bytes ≡ decoded digits)

pub data_respells : (bytes : List ℕ) → Respells (IsDataText bytes) (data_text bytes ∷ [])
data_respells bytes =
    same_respells (λ ws rest p. (p.0, (p.1, p.2, p.3, p.4), p.5)) (λ ws rest p. (p.0, p.1.0, p.1.1, p.1.2, p.1.3, p.2))
    (form_respells (IsDataWord bytes) (data_text bytes) (λ w p. data_is_text p.0 w p.1 p.2 ∙ ap data_text (sym p.3))
    (λ w p. data_is_token p.0 w p.1 p.2))

-- (word N)?, where it is there
counted_respells : (text : List ℕ) (n : ℕ) → IsToken text → Respells (Two (IsWord text) (IsN n)) (text ∷ decimal n ∷ [])
counted_respells text n is = two_respell (word_respells text is) (number_respells n)

-- nothing is no longer
left_out : (text : List ℕ) (n : ℕ) → IsToken text → (ws rest : Words) → IsCountText text n ws rest →
    (mid : Words) × (ws ≡ mid) × (size rest ≤ size mid)
left_out text n is ws rest (inl p) = (rest, p.1, omega arith)
left_out text n is ws rest (inr p) =
    (ws, refl, omega (arith, ((counted_respells text n is).rewrites ws rest p).shorter))

is_there : (text : List ℕ) (n : ℕ) → (n == 0) ≡ false → (ws rest : Words) → IsCountText text n ws rest →
    Two (IsWord text) (IsN n) ws rest
is_there text n some ws rest (inl p) = absurd (eqb-false n 0 some p.0)
is_there text n some ws rest (inr p) = p

count_by : (text : List ℕ) (n : ℕ) (none : Bool) → (n == 0) ≡ none → IsToken text →
    Respells (IsCountText text n) (cond none [] (text ∷ decimal n ∷ []))
count_by text n true none is =
    begun_respells (left_out text n is) (λ ws rest e. inl (eqb-true n 0 none, e)) nothing_respells
count_by text n false some is = same_respells (is_there text n some) (λ ws rest p. inr p) (counted_respells text n is)

pub count_respells : (text : List ℕ) (n : ℕ) → IsToken text → Respells (IsCountText text n) (count_words text n)
count_respells text n is = count_by text n (n == 0) refl is

pub declared_respells : (script : ScriptModel) → Respells (IsDeclsText script) (declared_words script)
unfolding is_printable
declared_respells script =
    five_respell
    (count_respells (codes "strands") script.strands (omega arith, refl))
    (count_respells (codes "timers") script.timers (omega arith, refl))
    (count_respells (codes "slots") script.slots (omega arith, refl))
    (count_respells (codes "streams") script.world.streams (omega arith, refl))
    (count_respells (codes "guards") script.guards (omega arith, refl))

what_respells : (stream : ℕ) (happens : What) → Respells (IsWhatText happens stream) (what_words stream happens)
unfolding is_printable
what_respells stream (what.Feed bytes) =
    three_respell (word_respells (codes "feed") (omega arith, refl)) (number_respells stream) (data_respells bytes)
what_respells stream what.End = two_respell (word_respells (codes "end") (omega arith, refl)) (number_respells stream)
what_respells stream what.Reset =
    two_respell (word_respells (codes "reset") (omega arith, refl)) (number_respells stream)
what_respells stream (what.Room room) =
    three_respell (word_respells (codes "room") (omega arith, refl)) (number_respells stream) (number_respells room)

pub line_respells : (line : Line) → Respells (IsLineText line) (line_words line)
unfolding is_printable
line_respells line =
    three_respell (word_respells (codes "at") (omega arith, refl)) (number_respells line.time)
    (what_respells line.stream line.what)

pub lines_respell : (lines : List Line) → Respells (IsLinesText lines) (flat_map line_words lines)
lines_respell [] = nothing_respells
lines_respell (line ∷ lines) = two_respell (line_respells line) (lines_respell lines)

not_restarted : (ws rest : Words) → IsRestartText false ws rest → ws ≡ rest
not_restarted ws rest (inl p) = p.1
not_restarted ws rest (inr p) = absurd (cc (p.0))

restarted : (ws rest : Words) → IsRestartText true ws rest → IsWord (codes "restart") ws rest
restarted ws rest (inl p) = absurd (cc (p.0))
restarted ws rest (inr p) = p.1

restart_respells : (restart : Bool) → Respells (IsRestartText restart) (cond restart (codes "restart" ∷ []) [])
unfolding is_printable
restart_respells true =
    same_respells restarted (λ ws rest p. inr (refl, p)) (word_respells (codes "restart") (omega arith, refl))
restart_respells false = same_respells not_restarted (λ ws rest p. inl (refl, p)) nothing_respells

pace_respells : (kind : Pace) → Respells (IsWord (pace_text kind)) (pace_text kind ∷ [])
unfolding is_printable
pace_respells pace.Run = word_respells (codes "run") (omega arith, refl)
pace_respells pace.Poll = word_respells (codes "poll") (omega arith, refl)

round_by : (restart : Bool) (kind : Pace) (workers : ℕ) →
    Respells (Three (IsRestartText restart) (IsWord (pace_text kind)) (IsN workers))
    (cond restart (codes "restart" ∷ pace_text kind ∷ decimal workers ∷ []) (pace_text kind ∷ decimal workers ∷ []))
round_by true kind workers = three_respell (restart_respells true) (pace_respells kind) (number_respells workers)
round_by false kind workers = three_respell (restart_respells false) (pace_respells kind) (number_respells workers)

pub round_respells : (round : Round) → Respells (IsRoundText round) (round_words round)
round_respells round = round_by round.restart round.pace round.workers

pub rounds_respell : (rounds : List Round) → Respells (IsRoundsText rounds) (flat_map round_words rounds)
rounds_respell [] = nothing_respells
rounds_respell (round ∷ rounds) = two_respell (round_respells round) (rounds_respell rounds)
