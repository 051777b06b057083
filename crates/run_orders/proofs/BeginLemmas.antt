-- The line by which an execution of a run began.
use Rattle.std.proofs.Common.{◌≡◌, ◌+◌, ℕ, suc, ◌<◌, List, [], ◌∷◌, ◌++◌, refl, ap, sym, subst, ◌∙◌, ⊎_elim, length, arith, length-append}
use Rattle.std.proofs.lemmas.Bool.{cases_Bool, cond_both, eq-eqb, eqb-true}
use Rattle.std.specs.Prelude.{true, false, ◌==◌, if◌then◌else◌, Option, Some, None}
use Rattle.run_lines.specs.declared.line.Doing.{Doing}
use Rattle.run_lines.specs.declared.line.Doing.TheVariants as doing
use Rattle.run_lines.specs.declared.line.Line.{Line}
use Rattle.run_rules.specs.declared.frame.Frame.TheVariants.{Execution}
use Rattle.run_rules.specs.declared.level.Level.{Level}
use Rattle.run_rules.specs.Calls.{begins, is_begun}
use Rattle.run_rules.specs.Legal.{IsLegalSoFar}
use Rattle.run_rules.specs.MayCome.{MayDo}
use Rattle.run_rules.specs.Stacks.{frame_of, outer, stack, stack_after}
use Rattle.run_orders.specs.Trees.{Spot, around_by, spot_at, writer}
use Rattle.run_orders.proofs.TreeLemmas.{IsEnd, begins_once, legal_end, some_same, spot_of_end}

abbrev pub begin_spot : List Line → ℕ → Option Spot
begin_spot [] op = None
begin_spot (line ∷ past) op = if begins line.does op then Some (record { line = line; past = past }) else begin_spot past op

-- a line that begins this execution, among these
pub record IsBeginOf (past : List Line) (op : ℕ) (spot : Spot) : Type 0 where
  pub end : IsEnd past (spot.line ∷ spot.past)
  pub begun : begins spot.line.does op ≡ true

pub begin_found : (past : List Line) (op : ℕ) (spot : Spot) → begin_spot past op ≡ Some spot → IsBeginOf past op spot
begin_found [] op spot = λ is. cc
begin_found (line ∷ past) op spot =
    ⊎_elim
    (λ (here : begins line.does op ≡ true). rw here (λ is.
    let same : record { line = line; past = past } ≡ spot = some_same (record { line = line; past = past }) spot is in
    subst (λ (s : Spot). IsBeginOf (line ∷ past) op s) same (record { end = ([], refl); begun = here })))
    (λ (elsewhere : begins line.does op ≡ false). rw elsewhere (λ is.
    let was = begin_found past op spot is in
    record { end = (line ∷ was.end.0, ap (λ (all : List Line). line ∷ all) was.end.1); begun = was.begun }))
    (cases_Bool (begins line.does op))

begun_spot : (past : List Line) (op : ℕ) (spot : Spot) → begin_spot past op ≡ Some spot → is_begun past op ≡ true
begun_spot [] op spot = λ is. cc
begun_spot (line ∷ past) op spot =
    ⊎_elim (λ (here : begins line.does op ≡ true). rw here (λ is. refl))
    (λ (elsewhere : begins line.does op ≡ false). rw elsewhere (λ is. begun_spot past op spot is)) (cases_Bool (begins line.does op))

spot_still : (level : Level) (past : List Line) (line : Line) (op : ℕ) (spot : Spot) → MayDo level past line.thread line.does
    → begin_spot past op ≡ Some spot → begin_spot (line ∷ past) op ≡ Some spot
spot_still level past line op spot may is =
    rw (begins_once level past line.thread op line.does may (begun_spot past op spot is)) is

pub spot_always : (level : Level) (later past : List Line) (op : ℕ) (spot : Spot) → IsLegalSoFar level (later ++ past)
    → begin_spot past op ≡ Some spot → begin_spot (later ++ past) op ≡ Some spot
spot_always level [] past op spot legal is = is
spot_always level (line ∷ later) past op spot legal is =
    spot_still level (later ++ past) line op spot legal.1.rules (spot_always level later past op spot legal.0 is)

-- an execution began on this thread, with these around it
pub record Began (past : List Line) (thread op : ℕ) (rest : List ℕ) : Type 0 where
  pub spot : Spot
  pub found : begin_spot past op ≡ Some spot
  pub on : spot.line.thread ≡ thread
  pub within : stack spot.past thread ≡ rest

abbrev AllBegan : List Line → ℕ → List ℕ → Type 0
AllBegan past thread [] = Unit {0}
AllBegan past thread (op ∷ rest) = Began past thread op rest × AllBegan past thread rest

all_still : (level : Level) (past : List Line) (line : Line) (thread : ℕ) (ops : List ℕ) → MayDo level past line.thread line.does
    → AllBegan past thread ops → AllBegan (line ∷ past) thread ops
all_still level past line thread [] may all = tt
all_still level past line thread (op ∷ rest) may all = (
  record {
    spot = all.0.spot;
    found = spot_still level past line op all.0.spot may all.0.found;
    on = all.0.on;
    within = all.0.within;
  },
  all_still level past line thread rest may all.1,
)

all_outer : (past : List Line) (thread : ℕ) (ops : List ℕ) → AllBegan past thread ops → AllBegan past thread (outer ops)
all_outer past thread [] all = tt
all_outer past thread (op ∷ rest) all = all.1

all_after : (past : List Line) (line : Line) (does : Doing) → does ≡ line.does
    → AllBegan (line ∷ past) line.thread (stack past line.thread)
    → AllBegan (line ∷ past) line.thread (stack_after does (stack past line.thread))
all_after past line (doing.Begin op code size) is all = (
  record {
    spot = record { line = line; past = past };
    found =
        let b : begins line.does op ≡ true = subst (λ (d : Doing). begins d op ≡ true) is (eq-eqb op op refl) in rw b refl;
    on = refl;
    within = refl;
  },
  all,
)
all_after past line (doing.End op) is all = all_outer (line ∷ past) line.thread (stack past line.thread) all
all_after past line (doing.Throw op) is all = all_outer (line ∷ past) line.thread (stack past line.thread) all
all_after past line _ is all = all

all_began : (level : Level) (past : List Line) → IsLegalSoFar level past → (thread : ℕ) → AllBegan past thread (stack past thread)
all_began level [] legal thread = tt
all_began level (line ∷ past) legal thread =
    cond_both (line.thread == thread) (stack_after line.does (stack past thread)) (stack past thread)
    (λ (ops : List ℕ). AllBegan (line ∷ past) thread ops)
    (λ here. let same : line.thread ≡ thread = eqb-true line.thread thread here in
    subst (λ (t : ℕ). AllBegan (line ∷ past) t (stack_after line.does (stack past t))) same
    (all_after past line line.does refl
    (all_still level past line line.thread (stack past line.thread) legal.1.rules (all_began level past legal.0 line.thread))))
    (λ elsewhere. all_still level past line thread (stack past thread) legal.1.rules (all_began level past legal.0 thread))

-- so a line that begins an execution is the one by which it began
pub only_begin : (level : Level) (run : List Line) → IsLegalSoFar level run → (first : Spot) (op : ℕ) → IsEnd run (first.line ∷ first.past)
    → begins first.line.does op ≡ true → (began : Spot) → begin_spot run op ≡ Some began → began ≡ first
only_begin level run legal first op (later, parted) begun began alone =
    let here : begin_spot (first.line ∷ first.past) op ≡ Some first = rw begun refl in
    let there : begin_spot run op ≡ Some first =
    ap (λ (l : List Line). begin_spot l op) parted
    ∙ spot_always level later (first.line ∷ first.past) op first (subst (λ (l : List Line). IsLegalSoFar level l) parted legal) here in
    some_same began first (sym alone ∙ there)

-- the innermost execution is the first one on the stack
pub frame_top : (ops : List ℕ) (thread op : ℕ) → frame_of ops thread ≡ Execution op → ops ≡ op ∷ outer ops
frame_top [] thread op is = cc
frame_top (one ∷ rest) thread op is = let e : one ≡ op = cc in ap (λ (o : ℕ). o ∷ rest) e

pub around_begin : (does : Doing) (op : ℕ) (ops : List ℕ) → begins does op ≡ true → around_by does ops ≡ op ∷ ops
around_begin (doing.Begin number code size) op ops is = ap (λ (o : ℕ). o ∷ ops) (eqb-true number op is)
around_begin _ op ops is = cc

pub shorter : (later : List Line) (line : Line) (past all : List Line) → all ≡ later ++ line ∷ past → length past < length all
shorter later line past all e =
    let long : length (later ++ line ∷ past) ≡ length later + suc (length past) = length-append later (line ∷ past) in
    let same : length all ≡ length (later ++ line ∷ past) = ap (λ (l : List Line). length l) e in omega arith

joined : (a b c : List Line) → (a ++ b) ++ c ≡ a ++ (b ++ c)
joined [] b c = refl
joined (x ∷ a) b c = ap (λ (all : List Line). x ∷ all) (joined a b c)

pub end_of_end : (run past inner : List Line) → IsEnd run past → IsEnd past inner → IsEnd run inner
end_of_end run past inner (later, parted) (more, cut) =
    (later ++ more, parted ∙ ap (λ (l : List Line). later ++ l) cut ∙ sym (joined later more inner))

-- the begin of what writes a line of a run
pub record IsBegun (run : List Line) (line : Spot) (op : ℕ) : Type 0 where
  pub spot : Spot
  -- the same for all lines of this execution
  pub alone : begin_spot run op ≡ Some spot
  pub there : spot_at run (length spot.past) ≡ Some spot
  pub begun : begins spot.line.does op ≡ true
  pub inside : IsEnd line.past (spot.line ∷ spot.past)
  pub earlier : length spot.past < length line.past
  pub on : spot.line.thread ≡ line.line.thread
  pub around : stack line.past line.line.thread ≡ op ∷ stack spot.past spot.line.thread

pub begun_before : (run : List Line) (level : Level) → IsLegalSoFar level run → (line : Spot) → IsEnd run (line.line ∷ line.past)
    → (op : ℕ) → writer line ≡ Execution op → IsBegun run line op
begun_before run level legal line (later, parted) op writes =
    let whole : IsLegalSoFar level (later ++ line.line ∷ line.past) = subst (λ (all : List Line). IsLegalSoFar level all) parted legal in
    let here : IsLegalSoFar level (line.line ∷ line.past) = legal_end level later (line.line ∷ line.past) whole in
    let top : stack line.past line.line.thread ≡ op ∷ outer (stack line.past line.line.thread) =
    frame_top (stack line.past line.line.thread) line.line.thread op writes in
    let all : AllBegan line.past line.line.thread (op ∷ outer (stack line.past line.line.thread)) =
    subst (λ (ops : List ℕ). AllBegan line.past line.line.thread ops) top (all_began level line.past here.0 line.line.thread) in
    let began = all.0 in
    let is = begin_found line.past op began.spot began.found in
    let deep : IsEnd run line.past = end_of_end run (line.line ∷ line.past) line.past (later, parted) (line.line ∷ [], refl) in
    let end : IsEnd run (began.spot.line ∷ began.spot.past) =
    end_of_end run line.past (began.spot.line ∷ began.spot.past) deep is.end in
    record {
      spot = began.spot;
      alone =
          ap (λ (l : List Line). begin_spot l op) deep.1
          ∙ spot_always level deep.0 line.past op began.spot
          (subst (λ (l : List Line). IsLegalSoFar level l) deep.1 legal) began.found;
      there = spot_of_end run began.spot.line began.spot.past end;
      begun = is.begun;
      inside = is.end;
      earlier = shorter is.end.0 began.spot.line began.spot.past line.past is.end.1;
      on = began.on;
      around =
          top
          ∙ ap (λ (ops : List ℕ). op ∷ ops) (sym began.within ∙ ap (λ (t : ℕ). stack began.spot.past t) (sym began.on));
    }

-- all lines of an execution stand on one thread, with the same around them
pub record IsOneFrame (one other : Spot) : Type 0 where
  pub thread : one.line.thread ≡ other.line.thread
  pub around : stack one.past one.line.thread ≡ stack other.past other.line.thread

pub one_frame : (run : List Line) (one other : Spot) (op : ℕ) → IsBegun run one op → IsBegun run other op → IsOneFrame one other
one_frame run one other op first second =
    let same : first.spot ≡ second.spot = some_same first.spot second.spot (sym first.alone ∙ second.alone) in
    record {
      thread = sym first.on ∙ ap (λ (s : Spot). s.line.thread) same ∙ second.on;
      around = first.around ∙ ap (λ (s : Spot). op ∷ stack s.past s.line.thread) same ∙ sym second.around;
    }
