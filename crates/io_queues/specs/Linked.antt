-- How queues are linked. Each place is a node of one ring. A node without a place stands before
-- each queue; the free places come first, and the last node closes the ring.
use Rattle.std.specs.Prelude.{◌≡◌, ◌<◌, ℕ, zero, suc, ◌+◌, ◌==◌, cond, not, nat_lt, List, [], ◌∷◌, ◌++◌, Option, Some, None, length, map, reverse}
use Rattle.std.specs.List.{slice_index_or, slice_set}
use Rattle.std.specs.Option.{is_some}
use Rattle.io_rules.specs.Room.{one_if}
use Rattle.io_queues.specs.Queued.{Entry, Queued}

-- the node that a node's link names
abbrev pub linked : List ℕ → ℕ → ℕ
linked links node = slice_index_or links node 0

-- the first node, if any
abbrev pub first_or : List ℕ → ℕ → ℕ
first_or [] other = other
first_or (node ∷ nodes) other = node

-- from one node through these to another, each the link of the one before
abbrev pub IsPath : List ℕ → ℕ → List ℕ → ℕ → Type 0
IsPath links from [] to = linked links from ≡ to
IsPath links from (node ∷ nodes) to = (linked links from ≡ node) × IsPath links node nodes to

-- so many nodes from here on
abbrev pub walk : List ℕ → ℕ → ℕ → List ℕ
walk links from zero = []
walk links from (suc more) = linked links from ∷ walk links (linked links from) more

-- so many numbers from one on
abbrev pub numbers : ℕ → ℕ → List ℕ
numbers from zero = []
numbers from (suc more) = from ∷ numbers (from + 1) more

-- how many times a node is in a list
abbrev pub times : ℕ → List ℕ → ℕ
times n [] = 0
times n (node ∷ nodes) = one_if (node == n) + times n nodes

-- the free places, then each queue's behind the node before it
abbrev pub queues_ring : ℕ → List (List ℕ) → List ℕ
queues_ring node [] = []
queues_ring node (places ∷ queues) = node ∷ places ++ queues_ring (node + 1) queues

abbrev pub ring_of : ℕ → List ℕ → List (List ℕ) → List ℕ
ring_of places free queues = free ++ queues_ring places queues

-- a ring cut behind each node without a place
abbrev pub onto : ℕ → List (List ℕ) → List (List ℕ)
onto node [] = (node ∷ []) ∷ []
onto node (places ∷ queues) = (node ∷ places) ∷ queues

abbrev pub cut : ℕ → List ℕ → List (List ℕ)
cut places [] = [] ∷ []
cut places (node ∷ nodes) =
    cond (nat_lt node places) (onto node (cut places nodes)) ([] ∷ cut places nodes)

abbrev pub entry_of : {T : Type 0} → ℕ → Option T → List (Entry T) → List (Entry T)
entry_of place None entries = entries
entry_of place (Some item) entries = record { place = place; item = item } ∷ entries

-- the items at these places
abbrev pub entries_at : {T : Type 0} → List (Option T) → List ℕ → List (Entry T)
entries_at items [] = []
entries_at items (place ∷ places) =
    entry_of place (slice_index_or items place None) (entries_at items places)

abbrev pub seen_as : {T : Type 0} → ℕ → List (Option T) → List (List ℕ) → Queued T
seen_as places items [] = record { queues = []; room = 0; places = places }
seen_as places items (free ∷ queues) =
    record { queues = map (entries_at items) queues; room = length free; places = places }

-- what links from the last node on and items show
unfoldable pub seen : {T : Type 0} → ℕ → ℕ → List ℕ → List (Option T) → Queued T
seen places last next items = seen_as places items (cut places (walk next last last))

-- the node so many steps behind another
abbrev pub steps_on : List ℕ → ℕ → ℕ → ℕ
steps_on links node zero = node
steps_on links node (suc more) = linked links (steps_on links node more)

abbrev pub AreBelow : ℕ → List ℕ → Type 0
AreBelow most [] = Unit {0}
AreBelow most (node ∷ nodes) = (node < most) × AreBelow most nodes

abbrev pub AllBelow : ℕ → List (List ℕ) → Type 0
AllBelow most [] = Unit {0}
AllBelow most (places ∷ queues) = AreBelow most places × AllBelow most queues

-- from the last node on through these and back, linked both ways; each node once
pub record IsRing (last : ℕ) (next before nodes : List ℕ) : Type 0 where
  pub forward : IsPath next last nodes last
  pub back : IsPath before last (reverse nodes) last
  pub once : (n : ℕ) → times n nodes ≡ one_if (nat_lt n last)
  pub all : length nodes ≡ last
  pub nexts : length next ≡ last + 1
  pub befores : length before ≡ last + 1

-- the free places and those of each queue are linked
pub record AreLinked (places last : ℕ) (next before free : List ℕ) (queues : List (List ℕ)) : Type 0 where
  pub ring : IsRing last next before (ring_of places free queues)
  pub many : length queues + places ≡ last
  pub free_below : AreBelow places free
  pub all_below : AllBelow places queues

-- which places are free, and what each queue has
pub record IsQueued {T : Type 0} (places last : ℕ) (next before : List ℕ) (items : List (Option T)) :
    Type 0 where
  pub free : List ℕ
  pub queues : List (List ℕ)
  pub links : AreLinked places last next before free queues
  pub many : length items ≡ places
  -- nothing is at the free ones, and something at all others
  pub empty : (n : ℕ) → n < places → times n free ≡ one_if (not (is_some (slice_index_or items n None)))

-- a node is taken out: the one before it links to the one behind it
unfoldable pub taken_out : ℕ → List ℕ → List ℕ → List ℕ
taken_out node next before = slice_set next (linked before node) (linked next node)

-- a node is put between two others
unfoldable pub put_between : ℕ → ℕ → ℕ → List ℕ → List ℕ
put_between one node other links = slice_set (slice_set links one node) node other

-- a node is taken out, and put before another one: links to the one behind, and to the one before
abbrev pub next_moved : ℕ → ℕ → List ℕ → List ℕ → List ℕ
next_moved node other next before =
    put_between (linked (taken_out node before next) other) node other (taken_out node next before)

abbrev pub before_moved : ℕ → ℕ → List ℕ → List ℕ → List ℕ
before_moved node other next before =
    put_between other node (linked (taken_out node before next) other) (taken_out node before next)

-- the links of all that this step touches are nodes
pub record IsMovable (node other : ℕ) (next before : List ℕ) : Type 0 where
  pub moves : node < length next
  pub place : other < length next
  pub same : length before ≡ length next
  pub behind : linked next node < length next
  pub ahead : linked before node < length next
  pub last : linked (taken_out node before next) other < length next
