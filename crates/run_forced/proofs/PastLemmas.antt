-- What comes before the next line of a run.
use Rattle.std.proofs.Common.{◌≡◌, ◌+◌, ℕ, ◌<◌, List, refl, ap, sym, subst, ◌∙◌, length, get_or}
use Rattle.std.proofs.lemmas.List.Elements.{Contains-get_or}
use Rattle.std.specs.List.{Contains}
use Rattle.std.proofs.lemmas.Bool.{eq-eqb}
use Rattle.std.specs.Prelude.{Option, Some, None, IsSomeAnd, IsTrue}
use Rattle.run_lines.specs.declared.code.Code.{Code}
use Rattle.run_lines.specs.declared.line.Doing.{Doing}
use Rattle.run_lines.specs.declared.line.Doing.TheVariants as doing
use Rattle.run_lines.specs.declared.line.Line.{Line}
use Rattle.run_rules.specs.Calls.{begins}
use Rattle.run_rules.specs.declared.frame.Frame.TheVariants.{Execution}
use Rattle.run_orders.specs.Causes.{ends, takes_up}
use Rattle.run_orders.specs.Forced.{IsForced, begun_by}
use Rattle.run_orders.specs.Trees.{Spot, spot_at}
use Rattle.run_forced.specs.declared.event.Event.{Event}
use Rattle.run_forced.specs.declared.past.Past.{Past}
use Rattle.run_forced.specs.declared.sources.Called.{Called}
use Rattle.run_forced.specs.declared.sources.Last.{Last}
use Rattle.run_forced.specs.declared.turns.Ended.{Ended}
use Rattle.run_forced.specs.Events.{IsHere}
use Rattle.run_forced.specs.Past.{HasFollowed}
use Rattle.run_forced.specs.declared.sources.Sources.{Sources}
use Rattle.run_forced.specs.Sources.{AreSources, begin_at, behind_at, call_at, done_at, last_of}
use Rattle.run_forced.specs.Turns.{HasEnded, TakesTurn}
use Rattle.run_forced.proofs.SourceLemmas.{begins_of}
use Rattle.run_forced.proofs.EdgeLemmas.{begun_edge, call_edge, done_edge, own_edge}

pub own_forced : (run : List Line) (place : ℕ) (event : Event) (past : Past) (last : Last) → HasFollowed run place past
    → IsHere run place event → begun_by event.note.line.does ≡ None → last_of past.sources event.note.frame ≡ Some last
    → IsForced run last.place place
own_forced run place event past last followed here plain is =
    own_edge run place event last.posted last.place here (followed.sources.lasts event.note.frame last is) plain

pub call_forced : (run : List Line) (place op : ℕ) (event : Event) (past : Past) (called : Called) → HasFollowed run place past
    → IsHere run place event → takes_up event.note.line.does ≡ Some op → call_at past.sources op ≡ Some called
    → IsForced run called.place place
call_forced run place op event past called followed here takes is =
    call_edge run place event op called here (followed.sources.calls op called is) takes

pub done_forced : (run : List Line) (place op from : ℕ) (event : Event) (past : Past) → HasFollowed run place past
    → IsHere run place event → begun_by event.note.line.does ≡ Some op → done_at past.sources op ≡ Some from → IsForced run from place
done_forced run place op from event past followed here begun is =
    done_edge run place event op from here (followed.sources.dones op from is) (takes_of event.note.line.does op begun)
    (begins_of event.note.line.does op begun)
  where
    takes_of : (does : Doing) (op : ℕ) → begun_by does ≡ Some op → takes_up does ≡ Some op
    takes_of (doing.Begin number code size) op is = is
    takes_of _ op is = cc

-- a line begins an operation on a strand that its thread doesn't hold
pub takes_turn : (run : List Line) (place op strand : ℕ) (event : Event) → (here : IsHere run place event)
    → begun_by event.note.line.does ≡ Some op → IsTrue (begins event.note.line.does op) → event.strand ≡ Some strand
    → TakesTurn here.spot op strand
takes_turn run place op strand event here begins_it begun is =
    let does : event.note.line.does ≡ here.spot.line.does = ap (λ (l : Line). l.does) here.known.note.same in
    let turn = here.known.turn op strand (subst (λ (d : Doing). begun_by d ≡ Some op) does begins_it) is in
    record { begun = subst (λ (d : Doing). IsTrue (begins d op)) does begun; on = turn.0; unheld = turn.1 }

-- the next line ends an execution of a strand
pub ended_here : (run : List Line) (place lines op strand : ℕ) (event : Event) (sources : Sources) (begin behind : Option ℕ)
    → (here : IsHere run place event) → AreSources run lines sources → ends event.note.line.does ≡ Some op
    → event.note.frame ≡ Execution op → event.strand ≡ Some strand → begin ≡ begin_at sources op → behind ≡ behind_at sources op
    → HasEnded run strand (record { op = op; place = place; begin = begin; behind = behind })
ended_here run place lines op strand event sources begin behind here are ends_it frame_is strand_is begin_is behind_is =
    let does : event.note.line.does ≡ here.spot.line.does = ap (λ (l : Line). l.does) here.known.note.same in
    record {
      spot = here.spot;
      there = here.there;
      ends_it = subst (λ (d : Doing). ends d ≡ Some op) does ends_it;
      on =
          here.known.own op strand
          (subst (λ (d : Doing). begun_by d ≡ None) does (ends_plain event.note.line.does op ends_it))
          (sym here.known.note.writes ∙ frame_is) strand_is;
      begin = λ at is.
          let was = are.begins op at (sym begin_is ∙ is) in record { start = was.spot; there = was.there; begun = was.such };
      behind = λ at is. are.behind op at (sym behind_is ∙ is);
    }
  where
    ends_plain : (does : Doing) (op : ℕ) → ends does ≡ Some op → begun_by does ≡ None
    ends_plain (doing.Begin number code size) op is = cc
    ends_plain _ op is = refl

pub begun_forced : (run : List Line) (place strand op : ℕ) (spot : Spot) (ended : Ended) (begin : Option ℕ) → spot_at run place ≡ Some spot
    → TakesTurn spot op strand → HasEnded run strand ended → ended.begin ≡ begin → IsSomeAnd begin (λ from. IsForced run from place)
    → IsForced run ended.place place
begun_forced run place strand op spot ended None there takes was is forced = absurd forced
begun_forced run place strand op spot ended (Some begin) there takes was is forced =
    begun_edge run place strand op begin spot ended there was takes is forced

pub ended_at : (run : List Line) (strand : ℕ) (all : List Ended) (at : ℕ) (d : Ended)
    → ((ended : Ended) → Contains all ended → HasEnded run strand ended) → at < length all → HasEnded run strand (get_or all at d)
ended_at run strand all at d each less = each (get_or all at d) (Contains-get_or all at d less)

-- the next line begins an operation on a strand that its thread doesn't hold
pub turn_here : (run : List Line) (place op strand : ℕ) (code : Code) (size : ℕ) (event : Event) → (here : IsHere run place event)
    → event.note.line.does ≡ doing.Begin op code size → event.strand ≡ Some strand → TakesTurn here.spot op strand
turn_here run place op strand code size event here does is =
    takes_turn run place op strand event here (ap (λ (d : Doing). begun_by d) does)
    (subst (λ (d : Doing). IsTrue (begins d op)) (sym does) (eq-eqb op op refl)) is
