-- Which sockets are to be looked at, in the order in which they came to be.
use Rattle.std.specs.Prelude.{◌≡◌, ◌≤◌, ℕ, ◌+◌, ◌==◌, ◌&&◌, Bool, true, false, List, [], ◌∷◌, ◌++◌, drop, length, replicate, if◌then◌else◌}
use Rattle.std.specs.List.{slice_index_or, slice_set, sum_by}
use Rattle.io_rules.specs.Room.{one_if}
use Rattle.io_sockets.specs.declared.turn.Listed.{Listed}
use Rattle.io_sockets.specs.declared.turn.Turn.{Turn}
use Rattle.io_sockets.specs.declared.turn.WaitType.{WaitType}
use Rattle.io_sockets.specs.declared.turn.WaitType.TheVariants as wait

pub record TurnList : Type 0 where
  -- next first
  pub ring : List Turn
  -- which are in it, by place
  pub listed : List Listed

abbrev pub unlisted : Listed
unlisted = record { read = false; write = false }

abbrev pub no_turns : ℕ → TurnList
no_turns places = record { ring = []; listed = replicate places unlisted }

abbrev pub flag : WaitType → Listed → Bool
flag wait.Read l = l.read
flag wait.Write l = l.write

abbrev pub with_flag : WaitType → Bool → Listed → Listed
with_flag wait.Read b l = record l { read = b }
with_flag wait.Write b l = record l { write = b }

abbrev pub listed_at : List Listed → ℕ → Listed
listed_at listed place = slice_index_or listed place unlisted

abbrev pub flagged : Turn → Bool → List Listed → List Listed
flagged turn b listed = slice_set listed turn.place (with_flag turn.wait b (listed_at listed turn.place))

abbrev pub is_listed : TurnList → Turn → Bool
is_listed t turn = flag turn.wait (listed_at t.listed turn.place)

-- it comes last, unless it is in the list
abbrev pub with_turn : Turn → TurnList → TurnList
with_turn turn t =
    if is_listed t turn then t
    else record { ring = t.ring ++ turn ∷ []; listed = flagged turn true t.listed }

-- the first one is taken
abbrev pub without_first : Turn → TurnList → TurnList
without_first turn t = record { ring = drop 1 t.ring; listed = flagged turn false t.listed }

abbrev pub same_wait : WaitType → WaitType → Bool
same_wait wait.Read wait.Read = true
same_wait wait.Write wait.Write = true
same_wait a b = false

-- how often a turn is in a list
abbrev pub turn_in : WaitType → ℕ → Turn → ℕ
turn_in way place turn = one_if (same_wait turn.wait way && (turn.place == place))

abbrev pub times : WaitType → ℕ → List Turn → ℕ
times way place [] = 0
times way place (turn ∷ ring) = turn_in way place turn + times way place ring

abbrev pub flags_in : Listed → ℕ
flags_in l = one_if l.read + one_if l.write

-- each that is listed is in the list once, and nothing else is; there is memory for all
pub record IsTurnList (capacity : ℕ) (t : TurnList) : Type 0 where
  pub once : (way : WaitType) (place : ℕ) →
      times way place t.ring ≡ one_if (flag way (listed_at t.listed place))
  pub all : length t.ring ≡ sum_by flags_in t.listed
  pub memory : length t.listed + length t.listed ≤ capacity
