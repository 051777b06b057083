-- A script that is read is well formed.
use Rattle.std.proofs.Common.{◌≡◌, ℕ, ◌≤◌, ◌⊎◌, Bool, true, false, cond, List, [], ◌∷◌, length, None, Result, Ok, Err, refl, sym, ap, subst, arith, length-append}
use Rattle.std.specs.Prelude.{nat_eq, nat_le}
use Rattle.std.specs.List.{All}
use Rattle.std.specs.Str.{bytes_eq}
use Rattle.std.proofs.lemmas.List.Elements.{All-push}
use lib.Chars.{codes}
use Rattle.asio_types.specs.declared.world.Line.{Line}
use Rattle.session_script.specs.declared.refusal.Rule.{Rule}
use Rattle.session_script.specs.declared.refusal.Refusal.{Refusal}
use Rattle.session_script.specs.declared.round.Round.{Round}
use Rattle.session_script.specs.declared.round.Pace.{Pace}
use Rattle.session_script.specs.declared.parts.Header.{Header}
use Rattle.session_script.specs.declared.reader.world_line.WorldWord.{WorldWord}
use Rattle.session_script.specs.declared.reader.world_line.WorldWord.TheVariants as world
use Rattle.session_script.specs.Script.{Entry, ScriptModel}
use Rattle.session_script.specs.Tokens.{Tokens, end, token, begins, tokens_of}
use Rattle.session_script.specs.Limits.{limits_of}
use Rattle.session_script.specs.Kinds.{pace_word}
use Rattle.session_script.specs.Productions.{one, word, count, header, world_word, what_happens, world_line, next_world_line, world_lines, restart, round, begins_round, next_round, session_rounds}
use Rattle.session_script.specs.Grammar.{are_released, ends, script, whole, IsScript}
use Rattle.session_script.specs.WellFormed.{FitsWhat, FitsLine, FitsRound, IsForest, header_of, IsWellFormed}
use Rattle.session_script.proofs.HoldingLemmas.{Passes, Holds, Reads, done_reads, then_reads, one_reads, any_reads, if_reads, repeated_reads, bounded_reads, declared_reads, another_reads, bytes_reads, version_reads}
use Rattle.session_script.proofs.ForestLemmas.{forest_of_none, stands_in_open}
use Rattle.session_script.proofs.ReadingLemmas.{Told, script_has}
use Rattle.session_script.proofs.StandingLemmas.{body_reads, time_reads, is_below}

what_reads : (h : Header) (w : WorldWord) → Reads (FitsWhat h) (what_happens h w)
unfolding what_happens
what_reads h world.Feed = then_reads (bytes_reads h.limits.size) (λ bs long. done_reads long)
what_reads h world.End = done_reads tt
what_reads h world.Reset = done_reads tt
what_reads h world.Room = then_reads (bounded_reads 1 h.limits.room) (λ room is_size. done_reads is_size)

line_reads : (h : Header) (full : Bool) → Reads (λ l. FitsLine h l × (full ≡ false)) (world_line h full)
unfolding world_line
line_reads h full =
    then_reads (another_reads (codes "at") full) (λ _ free.
    then_reads (time_reads h.limits.time) (λ time le.
    then_reads (any_reads (one world_word)) (λ happens _.
    then_reads (declared_reads h.streams) (λ stream lt.
    then_reads (what_reads h happens) (λ what fits. done_reads ((le, lt, fits), free))))))

abbrev AreLines : Header → List Line → Type 0
AreLines h ls = All (FitsLine h) ls × (length ls ≤ h.limits.lines)

next_line_reads : (h : Header) (so_far : List Line) → AreLines h so_far → Reads (AreLines h) (next_world_line h so_far)
unfolding next_world_line
next_line_reads h so_far are =
    then_reads (line_reads h (nat_le h.limits.lines (length so_far))) (λ next fits.
    done_reads (
      All-push (FitsLine h) so_far next are.0 fits.0,
      omega (arith, length-append so_far (next ∷ []), is_below h.limits.lines (length so_far) fits.1),
    ))

lines_reads : (h : Header) → Reads (AreLines h) (world_lines h)
unfolding world_lines
lines_reads h =
    repeated_reads (AreLines h) (begins (codes "at")) (next_world_line h) (next_line_reads h) []
    ((λ k d lt. absurd (omega arith)), omega arith)

pace_passes : (full : Bool) (pace : Pace) (violated : Rule) →
    Passes (λ p. full ≡ false) (cond full (Err violated) (Ok pace))
pace_passes true pace violated = tt
pace_passes false pace violated = refl

choice_passes : {A : Type 0} (P : A → Type 0) (test : Bool) (r s : Result A Rule) → Passes P r → Passes P s →
    Passes P (cond test r s)
choice_passes P true r s first second = first
choice_passes P false r s first second = second

pace_reads : (full : Bool) → Reads (λ p. full ≡ false) (one (pace_word full))
unfolding pace_word
pace_reads full =
    one_reads (pace_word full) (λ bs.
    choice_passes (λ p. full ≡ false) (bytes_eq bs (codes "run")) _ _ (pace_passes full _ _)
    (choice_passes (λ p. full ≡ false) (bytes_eq bs (codes "poll")) _ _ (pace_passes full _ _) tt))

round_reads : (h : Header) (full : Bool) → Reads (λ r. FitsRound h r × (full ≡ false)) (round h full)
unfolding round
round_reads h full =
    then_reads (any_reads (restart full)) (λ restarted _.
    then_reads (pace_reads full)
    (λ pace free. then_reads (bounded_reads 1 h.limits.workers) (λ workers is_size. done_reads (is_size, free))))

abbrev AreRounds : Header → List Round → Type 0
AreRounds h rs = All (FitsRound h) rs × (1 ≤ length rs) × (length rs ≤ h.limits.rounds)

next_round_reads : (h : Header) (so_far : List Round) → AreRounds h so_far → Reads (AreRounds h) (next_round h so_far)
unfolding next_round
next_round_reads h so_far are =
    then_reads (round_reads h (nat_le h.limits.rounds (length so_far))) (λ next fits.
    done_reads (
      All-push (FitsRound h) so_far next are.0 fits.0,
      omega (arith, length-append so_far (next ∷ [])),
      omega (arith, length-append so_far (next ∷ []), is_below h.limits.rounds (length so_far) fits.1),
    ))

rounds_reads : (h : Header) → 1 ≤ h.limits.rounds → Reads (AreRounds h) (session_rounds h)
unfolding session_rounds
rounds_reads h some =
    then_reads (round_reads h false) (λ first fits.
    repeated_reads (AreRounds h) begins_round (next_round h) (next_round_reads h) (first ∷ [])
    (All-push (FitsRound h) [] first (λ k d lt. absurd (omega arith)) fits.0, omega arith, some))

count_reads : (text : List ℕ) (most : ℕ) → Reads (λ n. n ≤ most) (count text most)
unfolding count
count_reads text most =
    if_reads {P = λ n. n ≤ most} (begins text) 0 (omega arith) (then_reads (any_reads (word text)) (λ _ _. time_reads most))

-- what the reader of declarations gives
record Declares (h : Header) : Type 0 where
  version : (h.version ≡ 1) ⊎ (h.version ≡ 2)
  limits : h.limits ≡ limits_of h.version
  strands : h.strands ≤ (limits_of h.version).strands
  timers : h.timers ≤ (limits_of h.version).timers
  slots : h.slots ≤ (limits_of h.version).slots
  streams : h.streams ≤ (limits_of h.version).streams
  guards : h.guards ≤ (limits_of h.version).guards

header_reads : Reads Declares header
unfolding header
header_reads =
    then_reads (any_reads (word (codes "session"))) (λ _ _.
    then_reads version_reads (λ number is_version.
    then_reads (count_reads (codes "strands") (limits_of number).strands) (λ strands few_strands.
    then_reads (count_reads (codes "timers") (limits_of number).timers) (λ timers few_timers.
    then_reads (count_reads (codes "slots") (limits_of number).slots) (λ slots few_slots.
    then_reads (count_reads (codes "streams") (limits_of number).streams) (λ streams few_streams.
    then_reads (count_reads (codes "guards") (limits_of number).guards) (λ guards few_guards.
    done_reads (record { version = is_version; limits = refl; strands = few_strands; timers = few_timers; slots = few_slots; streams = few_streams; guards = few_guards }))))))))

some_rounds : (test : Bool) → 1 ≤ cond test 16 64
some_rounds true = omega arith
some_rounds false = omega arith

rounds_allowed : (v : ℕ) → 1 ≤ (limits_of v).rounds
unfolding limits_of
rounds_allowed v = some_rounds (nat_eq v 1)

released_holds : (b : Bool) (ts : Tokens) (refusal : Refusal) →
    Holds {A = Unit {0}} (λ u. b ≡ true) (cond b (Ok (tt, ts)) (Err refusal))
released_holds true ts refusal = refl
released_holds false ts refusal = tt

end_holds : (guards : ℕ) (acts : List Entry) (ts : Tokens) →
    Holds (λ u. are_released guards acts ≡ true) (ends guards acts ts)
end_holds guards acts (end at) = released_holds (are_released guards acts) (end at) _
end_holds guards acts (token bs at rest) = tt

-- all parts of a script together
module _ (head : Header) (declares : Declares head) (lines : List Line) (are_lines : AreLines head lines)
    (acts : List Entry) (forest : IsForest head acts) (rounds : List Round) (are_rounds : AreRounds head rounds)
    (released : are_released head.guards acts ≡ true) where
  all_of_it : ScriptModel
  all_of_it = record {
    version = head.version;
    strands = head.strands;
    timers = head.timers;
    slots = head.slots;
    guards = head.guards;
    acts = acts;
    world = record { streams = head.streams; lines = lines };
    rounds = rounds;
  }

  same_header : head ≡ header_of all_of_it
  unfolding all_of_it
  same_header = ap (λ l. record head { limits = l }) declares.limits

  well_formed : IsWellFormed all_of_it
  unfolding all_of_it
  well_formed = record {
    version = declares.version;
    strands = declares.strands;
    timers = declares.timers;
    slots = declares.slots;
    streams = declares.streams;
    guards = declares.guards;
    acts = subst (λ h. IsForest h acts) same_header forest;
    line_count = subst (λ l. length lines ≤ l.lines) declares.limits are_lines.1;
    lines = subst (λ h. All (FitsLine h) lines) same_header are_lines.0;
    some_round = are_rounds.1;
    round_count = subst (λ l. length rounds ≤ l.rounds) declares.limits are_rounds.2;
    rounds = subst (λ h. All (FitsRound h) rounds) same_header are_rounds.0;
    released = released;
  }

ends_reads : (guards : ℕ) (acts : List Entry) → Reads (λ u. are_released guards acts ≡ true) (ends guards acts)
ends_reads guards acts = record { holds = end_holds guards acts }

script_reads : Reads IsWellFormed script
unfolding script all_of_it
script_reads =
    then_reads header_reads (λ head declares.
    then_reads (lines_reads head) (λ lines are_lines.
    then_reads (any_reads (word (codes "open"))) (λ _ _.
    then_reads (body_reads head head.limits.nesting None [] (forest_of_none head) (stands_in_open head.limits.nesting)) (λ acts grown.
    then_reads (rounds_reads head (subst (λ l. 1 ≤ l.rounds) (sym declares.limits) (rounds_allowed head.version))) (λ rounds are_rounds.
    then_reads (ends_reads head.guards acts) (λ _ released.
    done_reads (well_formed head declares lines are_lines acts grown.forest rounds are_rounds released)))))))

holds_told : (r : Result (ScriptModel × Tokens) Refusal) → Holds IsWellFormed r → Told IsWellFormed (whole r)
holds_told (Ok read) p = p
holds_told (Err refusal) p = tt

-- a script is well formed
pub script_is_well_formed : (bytes : List ℕ) (model : ScriptModel) → IsScript bytes model → IsWellFormed model
script_is_well_formed bytes model is =
    script_has IsWellFormed bytes model (holds_told (script (tokens_of bytes)) (script_reads.holds (tokens_of bytes))) is
