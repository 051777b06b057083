-- The productions of the grammar as readers: each takes its tokens from the left, and gives what
-- they say and the tokens after them, or the refusal at the first token that breaks a rule.
use Rattle.std.specs.Prelude.{ℕ, zero, suc, Bool, true, false, not, ◌||◌, ◌==◌, nat_le, List, [], ◌∷◌, ◌++◌, length, Option, Result, Ok, Err, if◌then◌else◌, is_none}
use Rattle.std.specs.Str.{bytes_eq}
use lib.Chars.{codes}
use Rattle.asio_types.specs.declared.world.Line.{Line}
use Rattle.asio_types.specs.declared.world.What.{What}
use Rattle.asio_types.specs.declared.world.What.TheVariants as what
use Rattle.session_script.specs.declared.token.Position.{Position}
use Rattle.session_script.specs.declared.refusal.Rule.{Rule}
use Rattle.session_script.specs.declared.refusal.Rule.TheVariants as rule
use Rattle.session_script.specs.declared.refusal.Refusal.{Refusal}
use Rattle.session_script.specs.declared.round.Round.{Round}
use Rattle.session_script.specs.declared.parts.Header.{Header}
use Rattle.session_script.specs.declared.reader.world_line.WorldWord.{WorldWord}
use Rattle.session_script.specs.declared.reader.world_line.WorldWord.TheVariants as world
use Rattle.session_script.specs.Tokens.{Tokens, end, token, begins, token_count}
use Rattle.session_script.specs.Limits.{limits_of}
use Rattle.session_script.specs.Kinds.{misplaced, exactly, another_word, within, known, chosen, version, data_digits, decoded, pace_word}

-- a refusal by a rule at a token
abbrev pub refused : Rule → Position → Refusal
refused violated at = record { rule = violated; line = at.line; token = at.token }

-- then read on
abbrev pub and_then : {A B : Type 0} → Result (A × Tokens) Refusal →
    (A → Tokens → Result (B × Tokens) Refusal) → Result (B × Tokens) Refusal
and_then (Ok read) f = f read.0 read.1
and_then (Err refusal) f = Err refusal

infixl 10 ◌>>=◌
abbrev pub ◌>>=◌ : {A B : Type 0} → (Tokens → Result (A × Tokens) Refusal) →
    (A → Tokens → Result (B × Tokens) Refusal) → Tokens → Result (B × Tokens) Refusal
(r >>= f) tokens = and_then (r tokens) f

-- nothing more is read
abbrev pub done : {A : Type 0} → A → Tokens → Result (A × Tokens) Refusal
done value tokens = Ok (value, tokens)

abbrev pub judged : {A : Type 0} → Result A Rule → Position → Tokens → Result (A × Tokens) Refusal
judged (Ok value) at rest = Ok (value, rest)
judged (Err violated) at rest = Err (refused violated at)

-- The next token, by a test. Where the text ends, the shape is violated.
abbrev pub one : {A : Type 0} → (List ℕ → Result A Rule) → Tokens → Result (A × Tokens) Refusal
one test (end at) = Err (refused rule.Shape at)
one test (token bytes at rest) = judged (test bytes) at rest

-- one after the other, as long as one more begins
abbrev pub many : {S : Type 0} → (Tokens → Bool) → (S → Tokens → Result (S × Tokens) Refusal) → ℕ →
    S → Tokens → Result (S × Tokens) Refusal
many more reader zero so_far tokens = Ok (so_far, tokens)
many more reader (suc n) so_far tokens =
    if more tokens then and_then (reader so_far tokens) (many more reader n)
    else Ok (so_far, tokens)

-- Each takes a token at least, so there are no more of them than tokens.
unfoldable pub repeated : {S : Type 0} → (Tokens → Bool) →
    (S → Tokens → Result (S × Tokens) Refusal) → S → Tokens → Result (S × Tokens) Refusal
repeated more reader so_far tokens = many more reader (token_count tokens) so_far tokens

-- a quoted word, or a brace
unfoldable pub word : List ℕ → Tokens → Result (Unit × Tokens) Refusal
word text = one (exactly text)

-- a quoted word, or a brace, with which one more of something begins
unfoldable pub another : List ℕ → Bool → Tokens → Result (Unit × Tokens) Refusal
another text full = one (another_word text full)

-- N and TIME
unfoldable pub bounded : ℕ → ℕ → Tokens → Result (ℕ × Tokens) Refusal
bounded least most = one (within least most)

-- STREAM, TIMER, SLOT and GUARD
unfoldable pub declared_number : ℕ → Tokens → Result (ℕ × Tokens) Refusal
declared_number count = one (known count)

-- LANE, and PLUG without a filter
unfoldable pub optional : ℕ → Tokens → Result (Option ℕ × Tokens) Refusal
optional count = one (chosen count)

-- the types of `emit` and `only`
unfoldable pub types : Tokens → Result (ℕ × Tokens) Refusal
types = bounded 0 7

-- PLUG = "-" | SLOT | SLOT "only" N, the last in version 2 alone; without a filter all types pass
unfoldable pub plug : Header → Tokens → Result ((Option ℕ × ℕ) × Tokens) Refusal
plug header = optional header.slots >>= λ slot tokens. filter slot tokens
  where
    filter : Option ℕ → Tokens → Result ((Option ℕ × ℕ) × Tokens) Refusal
    filter slot tokens =
        if is_none slot || (header.version == 1) || not (begins (codes "only") tokens)
        then Ok ((slot, 7), tokens)
        else (word (codes "only") >>= λ _. types >>= λ kinds. done (slot, kinds)) tokens

-- DATA of so many bytes at most
unfoldable pub bytes : ℕ → Tokens → Result (List ℕ × Tokens) Refusal
bytes most = one (data_digits most) >>= λ digits. done (decoded digits)

-- one declaration, as ("strands" N)?
unfoldable pub count : List ℕ → ℕ → Tokens → Result (ℕ × Tokens) Refusal
count text most tokens =
    if begins text tokens then (word text >>= λ _. bounded 0 most) tokens else Ok (0, tokens)

-- "session" ("1" | "2") decls
unfoldable pub header : Tokens → Result (Header × Tokens) Refusal
header = do
  _ ← word (codes "session")
  number ← one version
  strands ← count (codes "strands") (limits_of number).strands
  timers ← count (codes "timers") (limits_of number).timers
  slots ← count (codes "slots") (limits_of number).slots
  streams ← count (codes "streams") (limits_of number).streams
  guards ← count (codes "guards") (limits_of number).guards
  done (record {
    version = number;
    limits = limits_of number;
    strands = strands;
    timers = timers;
    slots = slots;
    streams = streams;
    guards = guards;
  })

-- what happens in a line
unfoldable pub world_word : List ℕ → Result WorldWord Rule
world_word bytes =
    if bytes_eq bytes (codes "feed") then Ok world.Feed
    else (if bytes_eq bytes (codes "end") then Ok world.End
    else (if bytes_eq bytes (codes "reset") then Ok world.Reset
    else (if bytes_eq bytes (codes "room") then Ok world.Room
    else Err (misplaced bytes))))

-- what a line has after its stream
unfoldable pub what_happens : Header → WorldWord → Tokens → Result (What × Tokens) Refusal
what_happens header world.Feed = bytes header.limits.size >>= λ fed. done (what.Feed fed)
what_happens header world.End = done what.End
what_happens header world.Reset = done what.Reset
what_happens header world.Room = bounded 1 header.limits.room >>= λ room. done (what.Room room)

-- "at" TIME ("feed" STREAM DATA | "end" STREAM | "reset" STREAM | "room" STREAM N)
unfoldable pub world_line : Header → Bool → Tokens → Result (Line × Tokens) Refusal
world_line header full = do
  _ ← another (codes "at") full
  time ← bounded 0 header.limits.time
  happens ← one world_word
  stream ← declared_number header.streams
  what ← what_happens header happens
  done (record { time = time; stream = stream; what = what })

-- one more line
unfoldable pub next_world_line : Header → List Line → Tokens → Result (List Line × Tokens) Refusal
next_world_line header so_far =
    world_line header (nat_le header.limits.lines (length so_far)) >>= λ next.
    done (so_far ++ next ∷ [])

-- line*
unfoldable pub world_lines : Header → Tokens → Result (List Line × Tokens) Refusal
world_lines header = repeated (begins (codes "at")) (next_world_line header) []

-- "restart"?
unfoldable pub restart : Bool → Tokens → Result (Bool × Tokens) Refusal
restart full tokens =
    if begins (codes "restart") tokens
    then (another (codes "restart") full >>= λ _. done true) tokens
    else Ok (false, tokens)

-- round = "restart"? ("run" | "poll") N
unfoldable pub round : Header → Bool → Tokens → Result (Round × Tokens) Refusal
round header full = do
  restarted ← restart full
  pace ← one (pace_word full)
  workers ← bounded 1 header.limits.workers
  done (record { restart = restarted; pace = pace; workers = workers })

-- a token with which a round begins
unfoldable pub begins_round : Tokens → Bool
begins_round tokens =
    begins (codes "restart") tokens || begins (codes "run") tokens || begins (codes "poll") tokens

-- one more round
unfoldable pub next_round : Header → List Round → Tokens → Result (List Round × Tokens) Refusal
next_round header so_far =
    round header (nat_le header.limits.rounds (length so_far)) >>= λ next.
    done (so_far ++ next ∷ [])

-- round+
unfoldable pub session_rounds : Header → Tokens → Result (List Round × Tokens) Refusal
session_rounds header =
    round header false >>= λ first. repeated begins_round (next_round header) (first ∷ [])
