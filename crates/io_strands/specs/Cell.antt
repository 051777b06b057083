-- A strand as a context keeps it: what is ready on it goes with its handler, and a state of the program's
-- is here while nothing executes (Asio reference, strand: what its handlers share needs no lock).
use Rattle.std.specs.Prelude.{◌≡◌, ◌<◌, ◌≤◌, ℕ, ◌+◌, ◌-◌, ◌&&◌, ◌||◌, not, nat_lt, Bool, true, false, List, [], ◌∷◌, ◌++◌, Option, Some, None, insert, drop, length}
use Rattle.std.specs.Option.{is_some}
use Rattle.io_rules.specs.Strands.{Entry, First, Last, Later}
use Rattle.io_strands.specs.declared.ready.ReadyOp.{ReadyOp}

pub record Cell (H S : Type 0) : Type 0 where
  -- what is ready, next first
  pub queue : List (ReadyOp H)
  -- how many of these were put first by the handler that executed last
  pub front : ℕ
  -- the number of what executes
  pub runs : Option ℕ
  -- how many operations have handlers that execute here
  pub tied : ℕ
  -- the program's, where nothing executes
  pub state : Option S
  -- how many may be ready
  pub room : ℕ

-- no strand is there
abbrev pub vacant : {H S : Type 0} → ℕ → Cell H S
vacant room = record { queue = []; front = 0; runs = None; tied = 0; state = None; room = room }

-- a strand is there: its state is, or whoever executes has it
abbrev pub is_there : {H S : Type 0} → Cell H S → Bool
is_there c = is_some c.state || is_some c.runs

-- a handler may begin: one is ready, and none executes
abbrev pub may_begin : {H S : Type 0} → Cell H S → Bool
may_begin c = nat_lt 0 (length c.queue) && not (is_some c.runs)

abbrev pub called : {H S : Type 0} → Entry → ReadyOp H → Cell H S → Cell H S
called First x c =
    record c { queue = insert c.queue c.front x; front = c.front + 1; tied = c.tied + 1 }
called Last x c = record c { queue = c.queue ++ x ∷ []; tied = c.tied + 1 }
called Later x c = record c { tied = c.tied + 1 }

abbrev pub readied : {H S : Type 0} → ReadyOp H → Cell H S → Cell H S
readied x c = record c { queue = c.queue ++ x ∷ [] }

-- this one begins, the first, and the state goes with it
abbrev pub begun : {H S : Type 0} → ReadyOp H → Cell H S → Cell H S
begun x c =
    record c { queue = drop 1 c.queue; front = 0; runs = Some x.number; state = None }

-- nothing is ready any more
abbrev pub emptied : {H S : Type 0} → Cell H S → Cell H S
emptied c = record c { queue = []; front = 0 }

abbrev pub ended : {H S : Type 0} → S → Cell H S → Cell H S
ended state c = record c { runs = None; tied = c.tied - 1; state = Some state }

-- what holds of each
pub record IsCell {H S : Type 0} (c : Cell H S) : Type 0 where
  pub front : c.front ≤ length c.queue
  -- the state is out while something executes
  pub away : (is_some c.state && is_some c.runs) ≡ false
  -- nothing waits where no strand is
  pub idle : is_there c ≡ false → c.queue ≡ []

-- one more may be ready, and one more tied
pub record MayBeReady {H S : Type 0} (c : Cell H S) : Type 0 where
  pub there : is_there c ≡ true
  pub room : length c.queue < c.room

abbrev pub MayBeTied : {H S : Type 0} → Cell H S → Type 0
MayBeTied c = c.tied < 18446744073709551615
