-- Rounds that are spelled, and within the limits, are read.
use Rattle.std.proofs.Common.{◌≡◌, ◌≤◌, Bool, true, false, ◌||◌, List, [], ◌∷◌, ◌++◌, length, Ok, inl, inr, refl, sym, ap, subst, ◌∙◌, arith}
use Rattle.std.specs.Prelude.{nat_le}
use Rattle.std.specs.List.{All, AllByRecursion}
use Rattle.std.proofs.lemmas.List.Elements.{recursion_from_All}
use Rattle.std.specs.Str.{bytes_eq}
use lib.Chars.{codes}
use Rattle.session_script.specs.declared.round.Round.{Round}
use Rattle.session_script.specs.declared.round.Pace.{Pace}
use Rattle.session_script.specs.declared.round.Pace.TheVariants as pace
use Rattle.session_script.specs.declared.parts.Header.{Header}
use Rattle.session_script.specs.Tokens.{Tokens, end, token}
use Rattle.session_script.specs.Kinds.{pace_word}
use Rattle.session_script.specs.Productions.{repeated, restart, round, begins_round, next_round, session_rounds}
use Rattle.session_script.specs.Text.{words_of, Words, pace_text, IsRestartText, IsRoundText, IsRoundsText}
use Rattle.session_script.specs.WellFormed.{FitsRound}
use Rattle.session_script.proofs.AcceptingLemmas.{one_accepts, starts, repeated_accepts}
use Rattle.session_script.proofs.ReadingAsLemmas.{ReadsAs, by_accepts, accepts_by, then_reads_as, done_reads_as, begun_reads_as, unbegun_reads_as}
use Rattle.session_script.proofs.AcceptingPartsLemmas.{another_accepts, bounded_accepts}
use Rattle.session_script.proofs.NextWordsLemmas.{word_starts, starts_with_another}
use Rattle.session_script.proofs.SequencesLemmas.{Sequence, ReadsOneMore, has_room, sequence_turns}
use Rattle.session_script.proofs.TurnsLemmas.{next_round_takes, no_round_at_end}

pace_is_read : (p : Pace) → pace_word false (pace_text p) ≡ Ok p
unfolding pace_word
pace_is_read pace.Run = refl
pace_is_read pace.Poll = refl

pace_is_no_restart : (p : Pace) → bytes_eq (pace_text p) (codes "restart") ≡ false
pace_is_no_restart pace.Run = refl
pace_is_no_restart pace.Poll = refl

-- "restart", or what doesn't start so
restart_is_read : (restarted : Bool) (ws rest : Words) → IsRestartText restarted ws rest →
    starts (codes "restart") rest ≡ false → ReadsAs (restart false) restarted ws rest
unfolding restart
restart_is_read restarted ws rest (inl none) other =
    subst (λ (r : Bool). ReadsAs (restart false) r ws rest) (sym none.0)
    (subst (λ (now : Words). ReadsAs (restart false) false now rest) (sym none.1)
    (unbegun_reads_as (codes "restart") false _ rest other))
restart_is_read restarted ws rest (inr some) other =
    subst (λ (r : Bool). ReadsAs (restart false) r ws rest) (sym some.0)
    (begun_reads_as (codes "restart") false _ true ws rest (word_starts (codes "restart") ws rest some.1)
    (then_reads_as _ (by_accepts (another_accepts (codes "restart")) tt ws rest some.1) (done_reads_as true rest)))

round_is_read : (h : Header) (next : Round) (ws rest : Words) → IsRoundText next ws rest → FitsRound h next →
    ReadsAs (round h false) next ws rest
unfolding round
round_is_read h next ws rest p fits =
    let other : starts (codes "restart") p.0 ≡ false =
    starts_with_another (pace_text next.pace) (codes "restart") p.0 (word_starts (pace_text next.pace) p.0 p.1 p.3)
    (pace_is_no_restart next.pace) in
    then_reads_as _ (restart_is_read next.restart ws p.0 p.2 other)
    (then_reads_as _
    (by_accepts (one_accepts (pace_word false)) next.pace p.0 p.1
    (pace_text next.pace, pace_is_read next.pace, p.3)) (then_reads_as _
    (by_accepts (bounded_accepts 1 h.limits.workers) next.workers p.1 rest (p.4, fits.0, fits.1))
    (done_reads_as next rest)))

-- a round that fits
abbrev IsFittingRound : Header → Round → Words → Words → Type 0
IsFittingRound h round ws rest = IsRoundText round ws rest × FitsRound h round

next_round_is_read : (h : Header) → ReadsOneMore (IsFittingRound h) h.limits.rounds (next_round h)
unfolding next_round
next_round_is_read h so_far next ws rest below p =
    let as_round : ReadsAs (round h (nat_le h.limits.rounds (length so_far))) next ws rest =
    subst (λ full. ReadsAs (round h full) next ws rest) (sym (has_room h.limits.rounds (length so_far) below))
    (round_is_read h next ws rest p.0 p.1) in
    then_reads_as _ as_round (done_reads_as (so_far ++ next ∷ []) rest)

fitting_rounds : (h : Header) (all : List Round) (ws rest : Words) → IsRoundsText all ws rest →
    AllByRecursion (FitsRound h) all → Sequence (IsFittingRound h) all ws rest
fitting_rounds h [] ws rest p fit = p
fitting_rounds h (first ∷ others) ws rest p fit = (p.0, (p.1, fit.0), fitting_rounds h others p.0 rest p.2 fit.1)

-- a word with which a round begins
starts_round : Words → Bool
starts_round ws = starts (codes "restart") ws || starts (codes "run") ws || starts (codes "poll") ws

begins_starts_round : (ts : Tokens) → begins_round ts ≡ starts_round (words_of ts)
unfolding begins_round starts_round
begins_starts_round (end at) = refl
begins_starts_round (token bytes at rest) = refl

no_word_starts_round : starts_round [] ≡ false
unfolding starts_round
no_word_starts_round = refl

pace_starts_round : (p : Pace) (rest : Words) → starts_round (pace_text p ∷ rest) ≡ true
unfolding starts_round
pace_starts_round pace.Run rest = refl
pace_starts_round pace.Poll rest = refl

restart_starts_round : (rest : Words) → starts_round (codes "restart" ∷ rest) ≡ true
unfolding starts_round
restart_starts_round rest = refl

round_starts : (h : Header) (next : Round) (ws rest : Words) → IsFittingRound h next ws rest → starts_round ws ≡ true
round_starts h next ws rest p = by_restart p.0.2
  where
    by_restart : IsRestartText next.restart ws p.0.0 → starts_round ws ≡ true
    by_restart (inl none) = ap starts_round (none.1 ∙ p.0.3) ∙ pace_starts_round next.pace p.0.1
    by_restart (inr some) = ap starts_round some.1 ∙ restart_starts_round p.0.0

others_read_as : (h : Header) (first : Round) (others : List Round) (ws : Words) →
    Sequence (IsFittingRound h) others ws [] → length (first ∷ others) ≤ h.limits.rounds →
    ReadsAs (repeated begins_round (next_round h) (first ∷ [])) (first ∷ others) ws []
others_read_as h first others ws p few =
    by_accepts
    (repeated_accepts begins_round starts_round (next_round h) (λ so_far. ReadsAs (next_round h so_far))
    begins_starts_round no_round_at_end (next_round_takes h)
    (λ so_far. accepts_by (ReadsAs (next_round h so_far)) (λ after now left is. is)) (first ∷ [])) (first ∷ others)
    ws []
    (sequence_turns (IsFittingRound h) starts_round (round_starts h) h.limits.rounds (next_round h)
    (next_round_is_read h) (first ∷ []) others ws [] (omega arith) p no_word_starts_round)

pub rounds_read_as : (h : Header) (all : List Round) (ws : Words) → IsRoundsText all ws [] → All (FitsRound h) all →
    1 ≤ length all → length all ≤ h.limits.rounds → ReadsAs (session_rounds h) all ws []
unfolding session_rounds
rounds_read_as h [] ws p fit some few = absurd (omega arith)
rounds_read_as h (first ∷ others) ws p fit some few =
    let fitting : Sequence (IsFittingRound h) (first ∷ others) ws [] =
    fitting_rounds h (first ∷ others) ws [] p (recursion_from_All (FitsRound h) (first ∷ others) fit) in
    then_reads_as _ (round_is_read h first ws fitting.0 fitting.1.0 fitting.1.1)
    (others_read_as h first others fitting.0 fitting.2 few)
