-- An execution of a run ends once, and what begins is dropped nowhere.
use Rattle.std.proofs.Common.{◌≡◌, ◌+◌, ℕ, ◌<◌, List, [], ◌∷◌, ◌++◌, refl, ap, sym, subst, ◌∙◌, inl, inr, ⊎_elim, length, arith, length-append}
use Rattle.std.proofs.lemmas.Bool.{both_ways, cond_both, eq-eqb, ne_eqb, or_left, or_right}
use Rattle.std.specs.Prelude.{Bool, true, false, ◌==◌, ◌⊎◌, Some}
use Rattle.std.specs.List.{list_any}
use Rattle.run_lines.specs.declared.line.Doing.{Doing}
use Rattle.run_lines.specs.declared.line.Doing.TheVariants as doing
use Rattle.run_lines.specs.declared.line.Line.{Line}
use Rattle.run_rules.specs.Calls.{begins, drops, is_begun, is_dropped}
use Rattle.run_rules.specs.Legal.{IsLegalSoFar}
use Rattle.run_rules.specs.Stacks.{outer, stack, stack_after}
use Rattle.run_rules.proofs.SpentLemmas.{spender_waits}
use Rattle.run_orders.specs.Causes.{ends}
use Rattle.run_orders.specs.Orders.{plain}
use Rattle.run_orders.specs.Trees.{Spot, spot_at}
use Rattle.run_orders.proofs.TreeLemmas.{IsEnd, IsIn, begins_once, begun_in_stack, end_more, found, in_outer, legal_end, some_same, spot_of_end}
use Rattle.run_orders.proofs.BeginLemmas.{begun_before, end_of_end}
use Rattle.run_orders.proofs.RunningLemmas.{may_end, spot_legal, top_in}

-- an earlier line of a run stands before a later one

skip : (later past : List Line) (place : ℕ) → place < length past → spot_at (later ++ past) place ≡ spot_at past place
skip [] past place less = refl
skip (line ∷ later) past place less =
    let long : length (later ++ past) ≡ length later + length past = length-append later past in
    let apart : (length (later ++ past) == place) ≡ false =
    ne_eqb (length (later ++ past)) place (λ e. omega arith) in
    rw apart (skip later past place less)

pub nested : (run : List Line) (one other : Spot) → IsEnd run (one.line ∷ one.past) → IsEnd run (other.line ∷ other.past)
    → length other.past < length one.past → IsEnd one.past (other.line ∷ other.past)
nested run one other end (more, parted) less =
    let deep : IsEnd run one.past = end_more run one.line one.past end in
    let there : spot_at one.past (length other.past) ≡ Some other =
    sym (skip deep.0 one.past (length other.past) less) ∙ ap (λ (l : List Line). spot_at l (length other.past)) (sym deep.1)
    ∙ spot_of_end run other.line other.past (more, parted) in
    (found one.past (length other.past) other there).end

-- what has begun, or been dropped, stays so
any_later : (test : Line → Bool) (later past : List Line) → list_any test past ≡ true → list_any test (later ++ past) ≡ true
any_later test [] past is = is
any_later test (line ∷ later) past is = or_right (test line) (list_any test (later ++ past)) (any_later test later past is)

pub any_since : (test : Line → Bool) (past : List Line) (spot : Spot) → IsEnd past (spot.line ∷ spot.past) → test spot.line ≡ true
    → list_any test past ≡ true
any_since test past spot (later, parted) is =
    ap (list_any test) parted
    ∙ any_later test later (spot.line ∷ spot.past) (or_left (test spot.line) (list_any test spot.past) is)

-- what is on a stack was there before, or begins
in_behind : (does : Doing) (ops : List ℕ) (op : ℕ) → IsIn op (stack_after does ops) → IsIn op ops ⊎ (begins does op ≡ true)
in_behind (doing.Begin number code size) ops op is =
    ⊎_elim (λ (here : number ≡ op). inr (eq-eqb number op here)) (λ behind. inl behind) is
in_behind (doing.End number) ops op is = inl (in_outer op ops is)
in_behind (doing.Throw number) ops op is = inl (in_outer op ops is)
in_behind _ ops op is = inl is

in_before : (past : List Line) (line : Line) (thread op : ℕ) → IsIn op (stack (line ∷ past) thread)
    → IsIn op (stack past thread) ⊎ (begins line.does op ≡ true)
in_before past line thread op =
    cond_both (line.thread == thread) (stack_after line.does (stack past thread)) (stack past thread)
    (λ (ops : List ℕ). IsIn op ops → IsIn op (stack past thread) ⊎ (begins line.does op ≡ true))
    (λ here is. in_behind line.does (stack past thread) op is) (λ elsewhere is. inl is)

not_again : (later past : List Line) → IsLegalSoFar plain (later ++ past) → (thread op : ℕ) → is_begun past op ≡ true
    → IsIn op (stack (later ++ past) thread) → IsIn op (stack past thread)
not_again [] past legal thread op begun is = is
not_again (line ∷ later) past legal thread op begun is =
    ⊎_elim (λ there. not_again later past legal.0 thread op begun there)
    (λ again. absurd (both_ways (begins line.does op)
    (begins_once plain (later ++ past) line.thread op line.does legal.1.rules
    (any_later (λ (l : Line). begins l.does op) later past begun)) again)) (in_before (later ++ past) line thread op is)

-- behind its end an execution is on no stack
stack_end : (does : Doing) (op : ℕ) (ops : List ℕ) → ends does ≡ Some op → stack_after does ops ≡ outer ops
stack_end (doing.End number) op ops is = refl
stack_end (doing.Throw number) op ops is = refl
stack_end _ op ops is = cc

pub stack_here : (line : Line) (past : List Line) → stack (line ∷ past) line.thread ≡ stack_after line.does (stack past line.thread)
stack_here line past = rw (eq-eqb line.thread line.thread refl) refl

pub legal_at : (run : List Line) → IsLegalSoFar plain run → (past : List Line) → IsEnd run past → IsLegalSoFar plain past
legal_at run legal past (later, parted) = legal_end plain later past (subst (λ (l : List Line). IsLegalSoFar plain l) parted legal)

ends_not_again : (run : List Line) → IsLegalSoFar plain run → (one two : Spot) → IsEnd run (one.line ∷ one.past)
    → IsEnd run (two.line ∷ two.past) → (op : ℕ) → ends one.line.does ≡ Some op → ends two.line.does ≡ Some op
    → length one.past < length two.past → ⊥
ends_not_again run legal one two end end_too op is too less =
    let may = may_end one.past one.line.thread op one.line.does (spot_legal run legal one end) is in
    let may_too = may_end two.past two.line.thread op two.line.does (spot_legal run legal two end_too) too in
    let a = begun_before run plain legal one end op may.innermost in
    let b = begun_before run plain legal two end_too op may_too.innermost in
    let same : a.spot ≡ b.spot = some_same a.spot b.spot (sym a.alone ∙ b.alone) in
    let thread : two.line.thread ≡ one.line.thread = sym b.on ∙ ap (λ (s : Spot). s.line.thread) (sym same) ∙ a.on in
    let within = nested run two one end_too end less in
    let deep : IsEnd run two.past = end_more run two.line two.past end_too in
    let whole : IsEnd run (a.spot.line ∷ a.spot.past) =
    end_of_end run one.past (a.spot.line ∷ a.spot.past) (end_more run one.line one.past end) a.inside in
    let begun : is_begun (one.line ∷ one.past) op ≡ true =
    or_right (begins one.line.does op) (is_begun one.past op) (any_since (λ (l : Line). begins l.does op) one.past a.spot a.inside a.begun) in
    let there : IsIn op (stack (one.line ∷ one.past) two.line.thread) =
    not_again within.0 (one.line ∷ one.past) (subst (λ (l : List Line). IsLegalSoFar plain l) within.1 (legal_at run legal two.past deep))
    two.line.thread op begun
    (subst (λ (l : List Line). IsIn op (stack l two.line.thread)) within.1
    (top_in (stack two.past two.line.thread) two.line.thread op may_too.innermost)) in
    let left : stack (one.line ∷ one.past) two.line.thread ≡ stack a.spot.past a.spot.line.thread =
    ap (λ (t : ℕ). stack (one.line ∷ one.past) t) thread ∙ stack_here one.line one.past
    ∙ stack_end one.line.does op (stack one.past one.line.thread) is ∙ ap (λ (ops : List ℕ). outer ops) a.around in
    let before : IsIn op (stack a.spot.past a.spot.line.thread) = subst (λ (ops : List ℕ). IsIn op ops) left there in
    both_ways (begins a.spot.line.does op)
    (begins_once plain a.spot.past a.spot.line.thread op a.spot.line.does (spot_legal run legal a.spot whole)
    (begun_in_stack plain a.spot.past
    (legal_at run legal a.spot.past (end_more run a.spot.line a.spot.past whole)) a.spot.line.thread op before)) a.begun

three : (a b : ℕ) → (a < b) ⊎ ((b < a) ⊎ (b ≡ a))
three a b = grind (arith)

pub ends_once : (run : List Line) → IsLegalSoFar plain run → (place other : ℕ) (one two : Spot) → spot_at run place ≡ Some one
    → spot_at run other ≡ Some two → (op : ℕ) → ends one.line.does ≡ Some op → ends two.line.does ≡ Some op → place ≡ other
ends_once run legal place other one two there there_too op is too =
    let a = found run place one there in
    let b = found run other two there_too in
    ⊎_elim (λ (less : length one.past < length two.past). absurd (ends_not_again run legal one two a.end b.end op is too less))
    (λ rest. ⊎_elim
    (λ (less : length two.past < length one.past). absurd (ends_not_again run legal two one b.end a.end op too is less))
    (λ (e : length two.past ≡ length one.past). sym a.place_is ∙ sym e ∙ b.place_is) rest) (three (length one.past) (length two.past))

begin_or_drop : (does : Doing) (op : ℕ) → begins does op ≡ true → drops does op ≡ true → ⊥
begin_or_drop (doing.Begin number code size) op is too = cc
begin_or_drop _ op is too = cc

-- what begins in a run is dropped nowhere in it
pub never_dropped : (run : List Line) → IsLegalSoFar plain run → (start gone : Spot) → IsEnd run (start.line ∷ start.past)
    → IsEnd run (gone.line ∷ gone.past) → (op : ℕ) → begins start.line.does op ≡ true → drops gone.line.does op ≡ true → ⊥
never_dropped run legal start gone end end_too op is too =
    let waits = spender_waits plain start.past start.line.thread op start.line.does (spot_legal run legal start end)
    (or_left (begins start.line.does op) (drops start.line.does op) is) in
    let waits_too = spender_waits plain gone.past gone.line.thread op gone.line.does (spot_legal run legal gone end_too)
    (or_right (begins gone.line.does op) (drops gone.line.does op) too) in
    ⊎_elim
    (λ (less : length start.past < length gone.past).
    both_ways (is_begun gone.past op) waits_too.not_begun
    (any_since (λ (l : Line). begins l.does op) gone.past start (nested run gone start end_too end less) is))
    (λ rest. ⊎_elim
    (λ (less : length gone.past < length start.past).
    both_ways (is_dropped start.past op) waits.not_dropped
    (any_since (λ (l : Line). drops l.does op) start.past gone (nested run start gone end end_too less) too))
    (λ (e : length gone.past ≡ length start.past).
    let same : gone ≡ start =
    some_same gone start
    (sym (spot_of_end run gone.line gone.past end_too) ∙ ap (spot_at run) e ∙ spot_of_end run start.line start.past end) in
    begin_or_drop start.line.does op is (ap (λ (s : Spot). drops s.line.does op) (sym same) ∙ too)) rest)
    (three (length start.past) (length gone.past))
