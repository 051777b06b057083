-- The trees of a run, and the threads that they are on.
use Rattle.std.proofs.Common.{◌≡◌, ◌+◌, ℕ, suc, List, [], ◌∷◌, ◌++◌, refl, ap, sym, subst, ◌∙◌, inl, inr, ⊎_elim, length, arith, length-append}
use Rattle.std.proofs.lemmas.Bool.{cases_Bool, cond_both, eq-eqb, eqb-true, ne_eqb}
use Rattle.std.specs.Prelude.{Bool, true, false, ◌==◌, ◌⊎◌, if◌then◌else◌, Option, Some, None}
use Rattle.run_lines.specs.declared.line.Doing.{Doing}
use Rattle.run_lines.specs.declared.line.Doing.TheVariants as doing
use Rattle.run_lines.specs.declared.line.Line.{Line}
use Rattle.run_rules.specs.declared.frame.Frame.TheVariants.{Execution, Outside}
use Rattle.run_rules.specs.declared.level.Level.{Level}
use Rattle.run_rules.specs.Calls.{begins, is_begun}
use Rattle.run_rules.specs.Legal.{IsLegalSoFar}
use Rattle.run_rules.specs.MayCome.{MayDo}
use Rattle.run_rules.specs.Stacks.{outer, stack, stack_after}
use Rattle.run_orders.specs.Trees.{Spot, around, around_by, frame_by, root, spot_at, tree}

-- where a line stands

-- the last lines of a run
abbrev pub IsEnd : List Line → List Line → Type 0
IsEnd run past = (later : List Line) × (run ≡ later ++ past)

pub end_more : (run : List Line) (line : Line) (past : List Line) → IsEnd run (line ∷ past) → IsEnd run past
end_more run line past (later, parted) = (later ++ line ∷ [], parted ∙ sym (joined later))
  where
    joined : (later : List Line) → (later ++ line ∷ []) ++ past ≡ later ++ line ∷ past
    joined [] = refl
    joined (first ∷ later) = ap (λ (all : List Line). first ∷ all) (joined later)

spot_here : (later : List Line) (line : Line) (past : List Line)
    → spot_at (later ++ line ∷ past) (length past) ≡ Some (record { line = line; past = past })
spot_here [] line past = rw (eq-eqb (length past) (length past) refl) refl
spot_here (first ∷ later) line past =
    let apart : (length (later ++ line ∷ past) == length past) ≡ false =
    ne_eqb (length (later ++ line ∷ past)) (length past)
    (λ e. let long : length (later ++ line ∷ past) ≡ length later + suc (length past) = length-append later (line ∷ past) in
    omega arith) in
    rw apart (spot_here later line past)

pub spot_of_end : (run : List Line) (line : Line) (past : List Line) → IsEnd run (line ∷ past)
    → spot_at run (length past) ≡ Some (record { line = line; past = past })
spot_of_end run line past (later, parted) =
    ap (λ (all : List Line). spot_at all (length past)) parted ∙ spot_here later line past

pub some_same : {T : Type 0} (one other : T) → Some one ≡ Some other → one ≡ other
some_same one other e = cc

-- a line that is found stands at its place
pub record IsFound (run : List Line) (place : ℕ) (spot : Spot) : Type 0 where
  pub place_is : length spot.past ≡ place
  pub end : IsEnd run (spot.line ∷ spot.past)

pub found : (run : List Line) (place : ℕ) (spot : Spot) → spot_at run place ≡ Some spot → IsFound run place spot
found [] place spot = λ there. cc
found (line ∷ past) place spot =
    ⊎_elim
    (λ (here : (length past == place) ≡ true). rw here (λ there.
    let same : record { line = line; past = past } ≡ spot = some_same (record { line = line; past = past }) spot there in
    subst (λ (s : Spot). IsFound (line ∷ past) place s) same
    (record { place_is = eqb-true (length past) place here; end = ([], refl) })))
    (λ (elsewhere : (length past == place) ≡ false). rw elsewhere (λ there.
    let was = found past place spot there in
    record {
      place_is = was.place_is;
      end = (line ∷ was.end.0, ap (λ (all : List Line). line ∷ all) was.end.1);
    })) (cases_Bool (length past == place))

-- on which thread an execution is

abbrev begun_on : List Line → ℕ → Option ℕ
begun_on [] op = None
begun_on (line ∷ past) op = if begins line.does op then Some line.thread else begun_on past op

abbrev pub IsIn : ℕ → List ℕ → Type 0
IsIn op [] = ⊥
IsIn op (one ∷ others) = (one ≡ op) ⊎ IsIn op others

pub in_outer : (op : ℕ) (ops : List ℕ) → IsIn op (outer ops) → IsIn op ops
in_outer op [] is = is
in_outer op (one ∷ others) is = inr is

is_begun_on : (past : List Line) (op thread : ℕ) → begun_on past op ≡ Some thread → is_begun past op ≡ true
is_begun_on [] op thread = λ is. cc
is_begun_on (line ∷ past) op thread =
    ⊎_elim (λ (here : begins line.does op ≡ true). rw here (λ is. refl))
    (λ (elsewhere : begins line.does op ≡ false). rw elsewhere (λ is. is_begun_on past op thread is)) (cases_Bool (begins line.does op))

-- what has begun doesn't begin again
pub begins_once : (level : Level) (past : List Line) (thread op : ℕ) (does : Doing) → MayDo level past thread does
    → is_begun past op ≡ true → begins does op ≡ false
begins_once level past thread op (doing.Begin number code size) may begun =
    ne_eqb number op (λ same. apart (is_begun past number) may.waiting.not_begun (ap (is_begun past) same ∙ begun))
  where
    apart : (b : Bool) → b ≡ false → b ≡ true → ⊥
    apart true not is = cc
    apart false not is = cc
begins_once level past thread op _ may begun = refl

begun_still : (level : Level) (past : List Line) (line : Line) (op thread : ℕ) → MayDo level past line.thread line.does
    → begun_on past op ≡ Some thread → begun_on (line ∷ past) op ≡ Some thread
begun_still level past line op thread may is =
    rw (begins_once level past line.thread op line.does may (is_begun_on past op thread is)) is

begun_always : (level : Level) (later past : List Line) (op thread : ℕ) → IsLegalSoFar level (later ++ past)
    → begun_on past op ≡ Some thread → begun_on (later ++ past) op ≡ Some thread
begun_always level [] past op thread legal is = is
begun_always level (line ∷ later) past op thread legal is =
    begun_still level (later ++ past) line op thread legal.1.rules (begun_always level later past op thread legal.0 is)

-- what a line makes of the executions on its thread
on_after : (past : List Line) (line : Line) (op : ℕ) (does : Doing) → does ≡ line.does
    → ((o : ℕ) → IsIn o (stack past line.thread) → begun_on (line ∷ past) o ≡ Some line.thread)
    → IsIn op (stack_after does (stack past line.thread)) → begun_on (line ∷ past) op ≡ Some line.thread
on_after past line op (doing.Begin number code size) is kept there =
    ⊎_elim
    (λ (same : number ≡ op). let b : begins line.does op ≡ true = subst (λ (d : Doing). begins d op ≡ true) is (eq-eqb number op same) in
    rw b refl) (kept op) there
on_after past line op (doing.End number) is kept there = kept op (in_outer op (stack past line.thread) there)
on_after past line op (doing.Throw number) is kept there = kept op (in_outer op (stack past line.thread) there)
on_after past line op _ is kept there = kept op there

executions_on : (level : Level) (past : List Line) → IsLegalSoFar level past → (thread op : ℕ) → IsIn op (stack past thread)
    → begun_on past op ≡ Some thread
executions_on level [] legal thread op = λ there. absurd there
executions_on level (line ∷ past) legal thread op =
    cond_both (line.thread == thread) (stack_after line.does (stack past thread)) (stack past thread)
    (λ (ops : List ℕ). IsIn op ops → begun_on (line ∷ past) op ≡ Some thread)
    (λ here. let same : line.thread ≡ thread = eqb-true line.thread thread here in
    subst (λ (t : ℕ). IsIn op (stack_after line.does (stack past t)) → begun_on (line ∷ past) op ≡ Some t) same
    (on_after past line op line.does refl
    (λ o there. begun_still level past line o line.thread legal.1.rules (executions_on level past legal.0 line.thread o there))))
    (λ elsewhere there. begun_still level past line op thread legal.1.rules (executions_on level past legal.0 thread op there))

pub begun_in_stack : (level : Level) (past : List Line) → IsLegalSoFar level past → (thread op : ℕ) → IsIn op (stack past thread)
    → is_begun past op ≡ true
begun_in_stack level past legal thread op there = is_begun_on past op thread (executions_on level past legal thread op there)

around_on : (level : Level) (spot : Spot) → IsLegalSoFar level (spot.line ∷ spot.past) → (op : ℕ) (does : Doing)
    → does ≡ spot.line.does → IsIn op (around_by does (stack spot.past spot.line.thread))
    → begun_on (spot.line ∷ spot.past) op ≡ Some spot.line.thread
around_on level spot legal op (doing.Begin number code size) is there =
    ⊎_elim
    (λ (same : number ≡ op). let b : begins spot.line.does op ≡ true =
    subst (λ (d : Doing). begins d op ≡ true) is (eq-eqb number op same) in rw b refl)
    (λ within. begun_still level spot.past spot.line op spot.line.thread legal.1.rules
    (executions_on level spot.past legal.0 spot.line.thread op within)) there
around_on level spot legal op _ is there =
    begun_still level spot.past spot.line op spot.line.thread legal.1.rules
    (executions_on level spot.past legal.0 spot.line.thread op there)

-- the root of a tree is round each line of it
root_in : (ops : List ℕ) (op : ℕ) → root [] ops ≡ Some op → IsIn op ops
root_in [] op is = cc
root_in (one ∷ []) op is = inl (some_same one op is)
root_in (one ∷ other ∷ others) op is = inr (root_in (other ∷ others) op is)

pub legal_end : (level : Level) (later past : List Line) → IsLegalSoFar level (later ++ past) → IsLegalSoFar level past
legal_end level [] past legal = legal
legal_end level (line ∷ later) past legal = legal_end level later past legal.0

begun_in_run : (level : Level) (run : List Line) → IsLegalSoFar level run → (spot : Spot) → IsEnd run (spot.line ∷ spot.past)
    → (op : ℕ) → root [] (around spot) ≡ Some op → begun_on run op ≡ Some spot.line.thread
begun_in_run level run legal spot (later, parted) op is =
    let whole : IsLegalSoFar level (later ++ spot.line ∷ spot.past) = subst (λ (all : List Line). IsLegalSoFar level all) parted legal in
    ap (λ (all : List Line). begun_on all op) parted
    ∙ begun_always level later (spot.line ∷ spot.past) op spot.line.thread whole
    (around_on level spot (legal_end level later (spot.line ∷ spot.past) whole) op spot.line.does refl
    (root_in (around spot) op is))

-- in the run itself a tree is on one thread
pub tree_on_thread : (level : Level) (run : List Line) → IsLegalSoFar level run → (one other : Spot)
    → IsEnd run (one.line ∷ one.past) → IsEnd run (other.line ∷ other.past) → tree [] one ≡ tree [] other
    → one.line.thread ≡ other.line.thread
tree_on_thread level run legal one other first second =
    by_roots (root [] (around one)) (root [] (around other)) refl refl
  where
    same_begun : (op : ℕ) → root [] (around one) ≡ Some op → root [] (around other) ≡ Some op → one.line.thread ≡ other.line.thread
    same_begun op is too = some_same one.line.thread other.line.thread
        (sym (begun_in_run level run legal one first op is) ∙ begun_in_run level run legal other second op too)

    by_roots : (a b : Option ℕ) → root [] (around one) ≡ a → root [] (around other) ≡ b
        → frame_by one.line.thread a ≡ frame_by other.line.thread b → one.line.thread ≡ other.line.thread
    by_roots None None is too same = cc
    by_roots None (Some op) is too same = cc
    by_roots (Some op) None is too same = cc
    by_roots (Some op) (Some another) is too same =
        let e : op ≡ another = cc in same_begun op is (too ∙ ap Some (sym e))

-- who writes the first line of a tree

pub none_root : (ops : List ℕ) → root [] ops ≡ None → ops ≡ []
none_root [] none = refl
none_root (op ∷ []) none = cc
none_root (op ∷ other ∷ others) none = absurd (cons_apart other others (none_root (other ∷ others) none))
  where
    cons_apart : (one : ℕ) (ops : List ℕ) → one ∷ ops ≡ [] → ⊥
    cons_apart one ops e = cc

none_around : (does : Doing) (ops : List ℕ) → around_by does ops ≡ [] → ops ≡ []
none_around (doing.Begin op code size) ops none = cc
none_around _ ops none = none

outside_root : (thread : ℕ) (o : Option ℕ) → frame_by thread o ≡ Outside thread → o ≡ None
outside_root thread None same = refl
outside_root thread (Some op) same = cc

execution_root : (thread op : ℕ) (o : Option ℕ) → frame_by thread o ≡ Execution op → o ≡ Some op
execution_root thread op None same = cc
execution_root thread op (Some other) same = let e : other ≡ op = cc in ap Some e

-- nothing executes where a thread is outside
pub stack_outside : (spot : Spot) → tree [] spot ≡ Outside spot.line.thread → stack spot.past spot.line.thread ≡ []
stack_outside spot same =
    none_around spot.line.does (stack spot.past spot.line.thread)
    (none_root (around spot) (outside_root spot.line.thread (root [] (around spot)) same))

-- nothing executes where an execution begins that is inside no other
alone_root : (level : Level) (past : List Line) → IsLegalSoFar level past → (thread op : ℕ) (does : Doing)
    → MayDo level past thread does → begins does op ≡ true → (ops : List ℕ) → stack past thread ≡ ops
    → root [] (around_by does ops) ≡ Some op → ops ≡ []
alone_root level past legal thread op (doing.Begin number code size) may begun [] is root_is = refl
alone_root level past legal thread op (doing.Begin number code size) may begun (other ∷ others) is root_is =
    absurd (two (begins_once level past thread op (doing.Begin number code size) may
    (is_begun_on past op thread (executions_on level past legal thread op (subst (IsIn op) (sym is) (root_in (other ∷ others) op root_is)))))
    begun)
  where
    two : {b : Bool} → b ≡ false → b ≡ true → ⊥
    two {b} not is = let e : false ≡ true = sym not ∙ is in cc
alone_root level past legal thread op _ may begun ops is root_is = cc

pub stack_alone : (level : Level) (spot : Spot) → IsLegalSoFar level (spot.line ∷ spot.past) → (op : ℕ)
    → begins spot.line.does op ≡ true → tree [] spot ≡ Execution op → stack spot.past spot.line.thread ≡ []
stack_alone level spot legal op begun same =
    alone_root level spot.past legal.0 spot.line.thread op spot.line.does legal.1.rules begun (stack spot.past spot.line.thread) refl
    (execution_root spot.line.thread op (root [] (around spot)) same)

-- a line begins one operation
pub begun_one : (does : Doing) (op other : ℕ) → begins does op ≡ true → begins does other ≡ true → op ≡ other
begun_one (doing.Begin number code size) op other is too = sym (eqb-true number op is) ∙ eqb-true number other too
begun_one _ op other is too = cc
