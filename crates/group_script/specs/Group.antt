-- The script of a parallel group: its members start in order on one strand, each with a slot of its
-- own, and where the rule says so the one that completes cancels the others (Asio reference,
-- experimental::make_parallel_group, experimental::wait_for_one and its kin).
use Rattle.std.specs.Prelude.{ℕ, ◌+◌, ◌==◌, Bool, true, false, not, List, [], ◌∷◌, ◌++◌, Some, None, length, map, filter, if◌then◌else◌}
use Rattle.std.specs.List.{range_with_len}
use Rattle.asio_types.specs.declared.code.Class.{Class}
use Rattle.asio_types.specs.declared.code.Class.TheVariants as class
use Rattle.asio_types.specs.declared.world.World.{World}
use Rattle.session_script.specs.declared.act.Act.{Act}
use Rattle.session_script.specs.declared.act.Act.TheVariants as act
use Rattle.session_script.specs.declared.round.Pace.TheVariants as pace
use Rattle.session_script.specs.Script.{Entry, ScriptModel}
use Rattle.group_script.specs.declared.member.Member.{Member}
use Rattle.group_script.specs.declared.member.Member.TheVariants as member
use Rattle.group_script.specs.declared.member.WaitFor.{WaitFor}
use Rattle.group_script.specs.declared.member.WaitFor.TheVariants as wait_for
-- how many members there are, by which rule they cancel one another, and by which types
pub use Rattle.group_script.specs.declared.acts.Cancelling.{Cancelling}

-- a group: the outside, its members by number, when the others are cancelled and by which types,
-- and the workers of its round
pub record Group : Type 0 where
  pub world : World
  pub members : List Member
  pub rule : WaitFor
  pub types : ℕ
  pub workers : ℕ

abbrev pub group_of : World → List Member → WaitFor → ℕ → ℕ → Group
group_of world members rule types workers = record {
  world = world;
  members = members;
  rule = rule;
  types = types;
  workers = workers;
}

-- a member that completes in this class cancels the others
abbrev pub cancels : WaitFor → Class → Bool
cancels wait_for.All class = false
cancels wait_for.One class = true
cancels wait_for.OneSuccess class.Ok = true
cancels wait_for.OneSuccess class.Abort = false
cancels wait_for.OneSuccess class.Other = false
cancels wait_for.OneError class.Ok = false
cancels wait_for.OneError class.Abort = true
cancels wait_for.OneError class.Other = true

-- the numbers of the other members, rising
abbrev pub others : ℕ → ℕ → List ℕ
others i count = filter (λ j. not (j == i)) (range_with_len 0 count)

-- an act of `open`
abbrev pub opened : Act → Entry
opened made = record { act = made; parent = None }

-- an act in the branch of an operation for a class
abbrev pub under : ℕ → Class → Act → Entry
under op class made = record { act = made; parent = Some (op, class) }

-- in a branch of member i, whose operation has this number: an emit of the types at each other
-- member, if it cancels them there
abbrev pub cancelling : Cancelling → ℕ → ℕ → Class → List Entry
cancelling how i op class =
    if cancels how.rule class
    then map (λ j. under op class (act.Emit j how.types)) (others i how.count)
    else []

-- what stands before the operation of member i: the timer of a wait is set
abbrev pub prepared : ℕ → Member → List Entry
prepared i (member.Wait after) = opened (act.Expires i after) ∷ []
prepared i (member.Read stream size) = []

-- the operation of member i: on the strand, with a slot that lets all types through
abbrev pub operation_of : ℕ → Member → Act
operation_of i (member.Wait after) = act.Wait i (Some 0) (Some i) 7
operation_of i (member.Read stream size) = act.ReadAll stream size (Some 0) (Some i) 7

-- the acts of member i, the first of them with number n
abbrev pub acts_of_member : Cancelling → ℕ → ℕ → Member → List Entry
acts_of_member how i n made =
    let op = n + length (prepared i made) in
    prepared i made ++ opened (operation_of i made)
    ∷ (cancelling how i op class.Ok
    ++ (cancelling how i op class.Abort ++ cancelling how i op class.Other))

-- the acts of these members, the first of them with number i, and its first act with number n
abbrev pub acts_from : Cancelling → ℕ → ℕ → List Member → List Entry
acts_from how i n [] = []
acts_from how i n (made ∷ members) =
    acts_of_member how i n made
    ++ acts_from how (i + 1) (n + length (acts_of_member how i n made)) members

abbrev pub cancelling_of : Group → Cancelling
cancelling_of g = record { count = length g.members; rule = g.rule; types = g.types }

-- the script of a group: io_context::run by its workers, once
abbrev pub script_of : Group → ScriptModel
script_of g = record {
  version = 2;
  strands = 1;
  timers = length g.members;
  slots = length g.members;
  guards = 0;
  acts = acts_from (cancelling_of g) 0 0 g.members;
  world = g.world;
  rounds = record { restart = false; pace = pace.Run; workers = g.workers } ∷ [];
}
