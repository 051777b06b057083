-- The session that a number makes: postings, nested postings and dispatches on four strands, and
-- waits on four timers, all called by `open` (Asio reference, asio::post, asio::dispatch,
-- steady_timer).
use Rattle.std.specs.Prelude.{ℕ, zero, suc, ◌+◌, ◌*◌, ◌%◌, ◌==◌, false, List, [], ◌∷◌, ◌++◌, Some, None, if◌then◌else◌}
use Rattle.asio_types.specs.declared.code.Class.TheVariants as class
use Rattle.session_script.specs.declared.act.Act.{Act}
use Rattle.session_script.specs.declared.act.Act.TheVariants as act
use Rattle.session_script.specs.declared.round.Pace.TheVariants as pace
use Rattle.session_script.specs.declared.round.Round.{Round}
use Rattle.session_script.specs.Script.{Entry, ScriptModel}
-- what an item is made from: its kind from 0 to 3, the number of a strand and of a timer, and for
-- how long a wait waits
pub use Rattle.generated_session.specs.declared.generator.Item.{Item}

-- the greatest number that makes a session
abbrev pub most_start : ℕ
most_start = 65536

-- the most acts of such a session
abbrev pub most_size : ℕ
most_size = 1024

-- each number of the sequence comes from the one before it
abbrev pub next_number : ℕ → ℕ
next_number x = (75 * x + 74) % 65537

-- three numbers on
abbrev pub after_item : ℕ → ℕ
after_item x = next_number (next_number (next_number x))

-- the item that the next three numbers make
abbrev pub item_after : ℕ → Item
item_after x = record {
  kind = next_number x % 4;
  lane = next_number (next_number x) % 4;
  time = after_item x % 1000;
}

-- an act of `open`
abbrev pub opened : Act → Entry
opened made = record { act = made; parent = None }

-- an act that the handler of the posting with this number makes
abbrev pub made_by : ℕ → Act → Entry
made_by op made = record { act = made; parent = Some (op, class.Ok) }

-- what an item makes where one act is left
abbrev pub lone_act : Item → Act
lone_act item =
    if item.kind == 1 then act.Post (Some item.lane)
    else (if item.kind == 2 then act.Dispatch (Some item.lane)
    else act.Post None)

-- what it makes where two are left, the first of them with this number: a posting; a posting on a
-- strand that posts; a dispatch to a strand that dispatches to it again; or a wait
abbrev pub acts_of_item : ℕ → Item → List Entry
acts_of_item n item =
    if item.kind == 0 then opened (act.Post None) ∷ []
    else (if item.kind == 1 then opened (act.Post (Some item.lane)) ∷ made_by n (act.Post None) ∷ []
    else (if item.kind == 2 then opened (act.Dispatch (Some item.lane)) ∷ made_by n (act.Dispatch (Some item.lane)) ∷ []
    else opened (act.Expires item.lane item.time) ∷ opened (act.Wait item.lane (Some item.lane) None 7) ∷ []))

-- so many acts, the first of them with number n, from the numbers after x
abbrev pub acts_from : ℕ → ℕ → ℕ → List Entry
acts_from zero n x = []
acts_from (suc zero) n x = opened (lone_act (item_after x)) ∷ []
acts_from (suc (suc left)) n x =
    acts_of_item n (item_after x)
    ++ (if (item_after x).kind == 0 then acts_from (suc left) (n + 1) (after_item x)
    else acts_from left (n + 2) (after_item x))

-- io_context::run by four workers, once
abbrev pub one_run : List Round
one_run = record { restart = false; pace = pace.Run; workers = 4 } ∷ []

-- a script of these acts, with four strands and four timers, whose outside does nothing
abbrev pub session_of : List Entry → ScriptModel
session_of acts = record {
  version = 1;
  strands = 4;
  timers = 4;
  slots = 0;
  guards = 0;
  acts = acts;
  world = record { streams = 0; lines = [] };
  rounds = one_run;
}

-- the session of so many acts that a number makes
abbrev pub generated : ℕ → ℕ → ScriptModel
generated start size = session_of (acts_from size 0 start)
