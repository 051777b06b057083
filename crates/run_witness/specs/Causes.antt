-- What is kept of where the lines of a run stand in an order.
use Rattle.std.specs.Prelude.{◌≡◌, ◌↔◌, ◌<◌, ◌+◌, ℕ, List, [], ◌∷◌, ◌++◌, Bool, if◌then◌else◌, length, Option, Some, None, IsTrue, IsSomeAnd, nat_eq}
use Rattle.std.specs.List.{All, Contains}
use Rattle.run_lines.specs.declared.code.Code.TheVariants as code
use Rattle.run_lines.specs.declared.line.Doing.{Doing}
use Rattle.run_lines.specs.declared.line.Doing.TheVariants as doing
use Rattle.run_lines.specs.declared.line.Line.{Line}
use Rattle.run_rules.specs.declared.frame.Frame.{Frame}
use Rattle.run_rules.specs.declared.frame.Frame.TheVariants.{Execution, Outside}
use Rattle.run_rules.specs.Stacks.{same_frame}
use Rattle.run_check.specs.Called.{called_by}
use Rattle.run_check.specs.declared.waiting.Waiter.{Waiter}
use Rattle.run_orders.specs.Trees.{Spot, spot_at, tree}
use Rattle.run_witness.specs.Facts.{ends_outside}
use Rattle.run_witness.specs.Placing.{position_of}
use Rattle.run_witness.specs.Reached.{Covers, IsBefore, NotesAt, reached_at, reached_with}
use Rattle.run_witness.specs.Witness.{IsLineBehind}
use Rattle.run_witness.specs.declared.causes.Cancelled.{Cancelled}
use Rattle.run_witness.specs.declared.causes.Causes.{Causes}
use Rattle.run_witness.specs.declared.facts.Fact.{Fact}
use Rattle.run_witness.specs.declared.placing.Placing.{Placing}

abbrev pub completed_by : Doing → Option ℕ
completed_by (doing.Done op code size) = Some op
completed_by _ = None

abbrev pub marked_by : Doing → Option ℕ
marked_by (doing.Mark mark) = Some mark
marked_by _ = None

-- the thread that an execution leaves that is inside no other
abbrev pub left_by : Fact → Option ℕ
left_by fact = if fact.leaves then Some fact.line.thread else None

-- with what a line cancels
abbrev pub cancelled_with : List Cancelled → ℕ → Option ℕ → Doing → List Cancelled
cancelled_with all place at (doing.Cancel thing) = all ++ record { thing = thing; place = place; at = at } ∷ []
cancelled_with all place at _ = all

-- a line that cancels aborts nothing of what was called so, or stands before a place
abbrev pub IsHarmless : Waiter → ℕ → Cancelled → Type 0
IsHarmless waiter bound cancelled = waiter.thing ≡ Some cancelled.thing → waiter.place < cancelled.place →
    IsSomeAnd cancelled.at (λ at. at < bound)

-- what a line names stands before a place
abbrev pub NamesBefore : Causes → Fact → ℕ → Doing → Type 0
NamesBefore kept fact bound (doing.Begin op code size) =
    IsBefore (reached_at nat_eq kept.called op) bound × IsBefore (reached_at nat_eq kept.completed op) bound
    × (fact.tree ≡ Execution op → IsBefore (reached_at same_frame kept.trees (Outside fact.line.thread)) bound)
NamesBefore kept fact bound (doing.Done op code size) = IsBefore (reached_at nat_eq kept.called op) bound
NamesBefore kept fact bound (doing.Drop op) = IsBefore (reached_at nat_eq kept.called op) bound
NamesBefore kept fact bound (doing.After mark) = IsBefore (reached_at nat_eq kept.marked mark) bound
NamesBefore kept fact bound _ = Unit {0}

-- what aborts an operation that begins stands before a place
abbrev pub AbortsBefore : Causes → Fact → ℕ → Type 0
AbortsBefore kept fact bound = (op size : ℕ) (waiter : Waiter) → fact.line.does ≡ doing.Begin op code.Aborted size →
    fact.begun ≡ Some waiter → All (IsHarmless waiter bound) kept.cancelled.items

-- all causes of a line stand before a place, by what is kept
pub record IsBehind (kept : Causes) (fact : Fact) (bound : ℕ) : Type 0 where
  pub trees : IsBefore (reached_at same_frame kept.trees fact.tree) bound
  pub named : NamesBefore kept fact bound fact.line.does
  pub aborts : AbortsBefore kept fact bound
  pub ends : (thread : ℕ) → fact.tree ≡ Outside thread → IsBefore (reached_at nat_eq kept.left thread) bound

-- where it stands, if it does
abbrev pub IsBehindIfPut : Causes → Fact → Option ℕ → Type 0
IsBehindIfPut kept fact None = Unit {0}
IsBehindIfPut kept fact (Some bound) = IsBehind kept fact bound

-- a line of a run is noted, which is at this place there, and stands here in the order
pub record NotesLine (old new : Causes) (fact : Fact) (place : ℕ) (at : Option ℕ) : Type 0 where
  pub trees : (other : Frame) → reached_at same_frame new.trees other
      ≡ (if same_frame fact.tree other
      then Some (reached_with (reached_at same_frame old.trees fact.tree) at) else reached_at same_frame old.trees other)
  pub called : NotesAt (reached_at nat_eq old.called) (reached_at nat_eq new.called) (called_by fact.line.does) at
  pub completed : NotesAt (reached_at nat_eq old.completed) (reached_at nat_eq new.completed)
      (completed_by fact.line.does) at
  pub marked : NotesAt (reached_at nat_eq old.marked) (reached_at nat_eq new.marked) (marked_by fact.line.does) at
  pub left : NotesAt (reached_at nat_eq old.left) (reached_at nat_eq new.left) (left_by fact) at
  pub cancelled : new.cancelled.items ≡ cancelled_with old.cancelled.items place at fact.line.does

-- a line of the run before this place has this, and stands here in the order
pub record IsNoted (run : List Line) (placing : Placing) (count : ℕ) (Has : Spot → Type 0) (at : Option ℕ) : Type 0 where
  pub place : ℕ
  pub first : Spot
  pub before : place < count
  pub there : spot_at run place ≡ Some first
  pub here : position_of placing place ≡ at
  pub has : Has first

abbrev pub IsNotedCancel : List Line → Placing → ℕ → Cancelled → Type 0
IsNotedCancel run placing count one =
    IsNoted run placing count (λ first. (first.line.does ≡ doing.Cancel one.thing) × (length first.past ≡ one.place)) one.at

-- nothing but the first lines of a run was noted
pub record AreNoted (run : List Line) (apart : List ℕ) (placing : Placing) (count : ℕ) (kept : Causes) : Type 0 where
  pub trees : (key : Frame) (at : Option ℕ) → reached_at same_frame kept.trees key ≡ Some at →
      IsNoted run placing count (λ first. tree apart first ≡ key) at
  pub called : (op : ℕ) (at : Option ℕ) → reached_at nat_eq kept.called op ≡ Some at →
      IsNoted run placing count (λ first. called_by first.line.does ≡ Some op) at
  pub completed : (op : ℕ) (at : Option ℕ) → reached_at nat_eq kept.completed op ≡ Some at →
      IsNoted run placing count (λ first. completed_by first.line.does ≡ Some op) at
  pub marked : (mark : ℕ) (at : Option ℕ) → reached_at nat_eq kept.marked mark ≡ Some at →
      IsNoted run placing count (λ first. marked_by first.line.does ≡ Some mark) at
  pub left : (thread : ℕ) (at : Option ℕ) → reached_at nat_eq kept.left thread ≡ Some at →
      IsNoted run placing count (λ first. (first.line.thread ≡ thread) × IsTrue (ends_outside first)) at
  pub cancelled : All (IsNotedCancel run placing count) kept.cancelled.items

-- the first lines of a run were noted
pub record AreCauses (run : List Line) (apart : List ℕ) (placing : Placing) (count : ℕ) (kept : Causes) : Type 0 where
  pub trees : (place : ℕ) (first : Spot) → place < count → spot_at run place ≡ Some first →
      Covers (reached_at same_frame kept.trees (tree apart first)) (position_of placing place)
  pub called : (place op : ℕ) (first : Spot) → place < count → spot_at run place ≡ Some first →
      called_by first.line.does ≡ Some op → Covers (reached_at nat_eq kept.called op) (position_of placing place)
  pub completed : (place op : ℕ) (first : Spot) → place < count → spot_at run place ≡ Some first →
      completed_by first.line.does ≡ Some op → Covers (reached_at nat_eq kept.completed op) (position_of placing place)
  pub marked : (place mark : ℕ) (first : Spot) → place < count → spot_at run place ≡ Some first →
      marked_by first.line.does ≡ Some mark → Covers (reached_at nat_eq kept.marked mark) (position_of placing place)
  pub left : (place : ℕ) (first : Spot) → place < count → spot_at run place ≡ Some first → IsTrue (ends_outside first) →
      Covers (reached_at nat_eq kept.left first.line.thread) (position_of placing place)
  pub cancelled : (place thing : ℕ) (first : Spot) → place < count → spot_at run place ≡ Some first →
      first.line.does ≡ doing.Cancel thing →
      Contains kept.cancelled.items (record { thing = thing; place = place; at = position_of placing place })
  pub only : AreNoted run apart placing count kept

-- the line at a place of a run is found good if it stands behind its causes, and is noted then
pub record SeesLine (run : List Line) (apart : List ℕ) (placing : Placing) (place : ℕ) (new : Causes)
    (good : Bool) : Type 0 where
  pub behind : IsTrue good ↔ IsLineBehind run apart (position_of placing) place
  pub noted : IsTrue good → AreCauses run apart placing (place + 1) new
