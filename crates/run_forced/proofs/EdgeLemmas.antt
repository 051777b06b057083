-- One line of a run comes before another one in each order.
use Rattle.std.proofs.Common.{◌≡◌, ℕ, ◌<◌, ◌≤◌, List, refl, ap, sym, subst, ◌∙◌, inl, inr, ⊎_elim, length, arith}
use Rattle.std.proofs.lemmas.Bool.{eq-eqb, eqb-true}
use Rattle.std.specs.Prelude.{◌⊎◌, ◌||◌, ◌&&◌, Bool, true, false, Option, Some, None, IsTrue}
use Rattle.run_lines.specs.declared.line.Doing.{Doing}
use Rattle.run_lines.specs.declared.line.Doing.TheVariants as doing
use Rattle.run_lines.specs.declared.line.Line.{Line}
use Rattle.run_rules.specs.declared.frame.Frame.{Frame}
use Rattle.run_rules.specs.declared.frame.Frame.TheVariants.{Execution}
use Rattle.run_rules.specs.Against.{calls, completes}
use Rattle.run_rules.specs.Calls.{begins}
use Rattle.run_orders.specs.Causes.{Aborts, Enables, Leaves, Wakes, takes_up}
use Rattle.run_orders.specs.Forced.{IsBeginOf, IsForced, IsOneAfter, IsPosted, IsQueued, IsTurn, LeadsTo, at_once, begun_by, in_line, in_queue, in_turn}
use Rattle.run_orders.specs.Trees.{Spot, spot_at, writer}
use Rattle.run_orders.proofs.TreeLemmas.{some_same}
use Rattle.run_joins.proofs.ReachingLemmas.{place_of}
use Rattle.run_joins.specs.Reaching.{IsUpTo}
use Rattle.run_forced.specs.declared.event.Event.{Event}
use Rattle.run_forced.specs.declared.past.Past.{Past}
use Rattle.run_forced.specs.declared.sources.Called.{Called}
use Rattle.run_forced.specs.declared.turns.Ended.{Ended}
use Rattle.run_forced.specs.Events.{IsHere}
use Rattle.run_forced.specs.Past.{HasFollowed, StandsBefore}
use Rattle.run_forced.specs.Sources.{Completes, IsAt, IsCallOf, IsLast, IsOf, IsQueuedAt}
use Rattle.run_forced.specs.Turns.{HasBegunAt, HasEnded, TakesTurn}

abbrev Reason : Spot → Spot → Type 0
Reason first later = IsOneAfter first later ⊎ (IsBeginOf first later ⊎ (Enables first.line.does later.line.does
    ⊎ (Aborts first later ⊎ (Wakes first.line.does later.line.does ⊎ (LeadsTo first later ⊎ Leaves first later)))))

pub shorter_at : (run : List Line) (first later : ℕ) (one other : Spot) → spot_at run first ≡ Some one → spot_at run later ≡ Some other
    → first < later → length one.past < length other.past
shorter_at run first later one other there too less =
    let a : length one.past ≡ first = place_of run first one there in
    let b : length other.past ≡ later = place_of run later other too in
    omega arith

once : (run : List Line) (first later : ℕ) (one other : Spot) → spot_at run first ≡ Some one → spot_at run later ≡ Some other
    → first < later → Reason one other → IsForced run first later
once run first later one other there too less reason =
    at_once one other there too (record { earlier = shorter_at run first later one other there too less; reason = reason })

does_is : (run : List Line) (place : ℕ) (event : Event) → (here : IsHere run place event) → event.note.line.does ≡ here.spot.line.does
does_is run place event here = ap (λ (l : Line). l.does) here.known.note.same

-- a frame goes on
pub own_edge : (run : List Line) (place : ℕ) (event : Event) (posted : Option ℕ) (from : ℕ) → IsHere run place event
    → IsAt run place (IsLast event.note.frame posted) from → begun_by event.note.line.does ≡ None → IsForced run from place
own_edge run place event posted from here at plain =
    let spot = here.spot in
    let writes : event.note.frame ≡ writer spot = here.known.note.writes in
    let plain_here : begun_by spot.line.does ≡ None =
    subst (λ (d : Doing). begun_by d ≡ None) (does_is run place event here) plain in
    once run from place at.spot spot at.there here.there at.earlier
    (⊎_elim
    (λ begun. inr (inl (record { op = begun.0; begun = begun.2; writes = sym writes ∙ begun.1; plain = plain_here })))
    (λ wrote. inl (record { same = wrote.0 ∙ writes; plain = wrote.1; plain_too = plain_here })) at.such.0)

enables : (one other : Doing) (op : ℕ) → takes_up other ≡ Some op → IsTrue (calls one op) → Enables one other
enables one other op takes is = (op, takes, rw is refl)

completing : (one other : Doing) (op : ℕ) → takes_up other ≡ Some op → IsTrue (completes one op) → IsTrue (begins other op)
    → Enables one other
completing one other op takes is begun = (op, takes, both (calls one op) (completes one op) (begins other op) is begun)
  where
    both : (a b c : Bool) → IsTrue b → IsTrue c → IsTrue (a || (b && c))
    both true b c is too = refl
    both false true true is too = refl
    both false true false is too = too
    both false false c is too = is

-- an operation is called
pub call_edge : (run : List Line) (place : ℕ) (event : Event) (op : ℕ) (called : Called) → IsHere run place event
    → IsAt run place (IsCallOf op called) called.place → takes_up event.note.line.does ≡ Some op → IsForced run called.place place
call_edge run place event op called here at takes =
    once run called.place place at.spot here.spot at.there here.there at.earlier
    (inr (inr (inl (enables at.spot.line.does here.spot.line.does op
    (subst (λ (d : Doing). takes_up d ≡ Some op) (does_is run place event here) takes) at.such.calls_it))))

-- an operation completes
pub done_edge : (run : List Line) (place : ℕ) (event : Event) (op from : ℕ) → IsHere run place event → IsAt run place (Completes op) from
    → takes_up event.note.line.does ≡ Some op → IsTrue (begins event.note.line.does op) → IsForced run from place
done_edge run place event op from here at takes begun =
    once run from place at.spot here.spot at.there here.there at.earlier
    (inr (inr (inl (completing at.spot.line.does here.spot.line.does op
    (subst (λ (d : Doing). takes_up d ≡ Some op) (does_is run place event here) takes) at.such
    (subst (λ (d : Doing). IsTrue (begins d op)) (does_is run place event here) begun)))))

turn_of : (run : List Line) (strand op : ℕ) (spot : Spot) (ended : Ended) → (was : HasEnded run strand ended) → TakesTurn spot op strand
    → IsTurn was.spot spot ended.op op
turn_of run strand op spot ended was takes = record {
  strand = strand;
  ended = was.ends_it;
  on = was.on;
  begun = takes.begun;
  on_too = takes.on;
  unheld = takes.unheld;
}

-- an execution ends before the next turn, since it has begun
pub begun_edge : (run : List Line) (place strand op begin : ℕ) (spot : Spot) (ended : Ended) → spot_at run place ≡ Some spot
    → HasEnded run strand ended → TakesTurn spot op strand → ended.begin ≡ Some begin → IsForced run begin place
    → IsForced run ended.place place
begun_edge run place strand op begin spot ended there was takes is forced =
    let start = was.begin begin is in
    in_turn begin ended.op op was.spot spot start.start was.there there start.there (turn_of run strand op spot ended was takes) start.begun
    forced

-- or since it stands in the queue
pub queued_edge : (run : List Line) (place strand op : ℕ) (spot : Spot) (ended : Ended) (past : Past) → spot_at run place ≡ Some spot
    → HasEnded run strand ended → TakesTurn spot op strand → StandsBefore run past op ended → HasFollowed run place past
    → IsForced run ended.place place
queued_edge run place strand op spot ended past there was takes stands followed =
    let at = followed.sources.calls op stands.called stands.called_is in
    let back = was.behind stands.behind stands.behind_is in
    let turn = turn_of run strand op spot ended was takes in
    let posted : IsPosted at.spot spot op =
    record { posts_it = at.such.posts_it stands.posting; earlier = shorter_at run stands.called.place place at.spot spot at.there there at.earlier } in
    ⊎_elim
    (λ (same : stands.behind ≡ stands.called.place).
    let is : back.back ≡ at.spot =
    some_same back.back at.spot (sym back.back_there ∙ ap (spot_at run) same ∙ at.there) in
    in_line back.post stands.called.place ended.op op was.spot spot back.posted at.spot was.there there back.posted_there at.there turn
    (subst (λ (s : Spot). IsQueued back.posted s ended.op) is back.queued) posted)
    (λ (forced : IsForced run stands.behind stands.called.place).
    in_queue back.post stands.behind stands.called.place ended.op op was.spot spot back.posted back.back at.spot was.there there
    back.posted_there back.back_there at.there turn back.queued posted forced) stands.upto

-- a point is passed
pub wakes_edge : (run : List Line) (place at mark : ℕ) (one other : Spot) → spot_at run place ≡ Some one → spot_at run at ≡ Some other
    → place < at → one.line.does ≡ doing.Mark mark → other.line.does ≡ doing.After mark → IsForced run place at
wakes_edge run place at mark one other there too less passes waits =
    once run place at one other there too less (inr (inr (inr (inr (inl (mark, passes, waits))))))
