-- One line more is put into an order.
use Rattle.std.proofs.Common.{◌≡◌, ◌+◌, ℕ, suc, List, [], ◌∷◌, ◌++◌, ◌<◌, refl, ap, sym, subst, ◌∙◌, inl, inr, ⊎_elim, length, arith}
use Rattle.std.proofs.lemmas.Bool.{cases_Bool, cond_both, eq-eqb, eqb-true, ne_eqb}
use Rattle.std.specs.Prelude.{Bool, true, false, ◌==◌, if◌then◌else◌, Option, Some, None, nat_eq}
use Rattle.std.specs.Option.{option_eq, option_map, unwrap_or}
use Rattle.run_lines.specs.declared.line.Doing.{Doing}
use Rattle.run_lines.specs.declared.line.Doing.TheVariants as doing
use Rattle.run_lines.specs.declared.line.Line.{Line}
use Rattle.run_rules.specs.declared.frame.Frame.{Frame}
use Rattle.run_rules.specs.declared.frame.Frame.TheVariants.{Execution, Outside}
use Rattle.run_rules.specs.Against.{op_of}
use Rattle.run_rules.specs.Calls.{Calling, begins, call_of, context_of, done_of}
use Rattle.run_rules.specs.Legal.{IsLegalSoFar}
use Rattle.run_rules.specs.MayCome.{MayDo}
use Rattle.run_rules.specs.Stacks.{frame, same_frame, stack}
use Rattle.run_check.specs.After.{loose, waiter_from, waiter_of}
use Rattle.run_check.specs.declared.waiting.Waiter.{Waiter}
use Rattle.run_orders.specs.declared.order.Step.{Step}
use Rattle.run_orders.specs.Orders.{BeginsTree, IsWorker, Stands, lines_of}
use Rattle.run_orders.specs.Trees.{Spot, frame_by, is_among, root, spot_at, tree, writer}
use Rattle.run_orders.proofs.BeginLemmas.{IsBegun, around_begin, begun_before, only_begin}
use Rattle.run_orders.proofs.StandLemmas.{op_of_begin}
use Rattle.run_orders.proofs.TreeLemmas.{IsIn, begins_once, begun_in_stack, found, legal_end, some_same}
use Rattle.run_witness.specs.Facts.{AreFacts, begun_by, fact_at, fact_of}
use Rattle.run_witness.specs.Placing.{BeginsIts, IsOrUnknown, IsPlacing, IsPutWell, IsPutWith, NamesPair, MayPair, MayPut, NotesPair, NotesPut, Pairs, number_of, op_named, position, position_of, thread_of}
use Rattle.run_witness.specs.declared.facts.Fact.{Fact}
use Rattle.run_witness.specs.declared.facts.Facts.{Facts}
use Rattle.run_witness.specs.declared.placing.Placing.{Placing}

pub true_false : true ≡ false → ⊥
true_false e = cc

-- what stands has a position
pub stands_somewhere : (before : List Step) (place : ℕ) → position before place ≡ None → Stands before place → ⊥
stands_somewhere [] place = λ none stands. stands
stands_somewhere (step ∷ before) place =
    ⊎_elim (λ (here : (step.place == place) ≡ true). rw here (λ none. cc))
    (λ (elsewhere : (step.place == place) ≡ false). rw elsewhere (λ none. ⊎_elim
    (λ (same : step.place ≡ place). let e : true ≡ false = sym (eq-eqb step.place place same) ∙ elsewhere in cc)
    (λ behind. stands_somewhere before place none behind)))
    (cases_Bool (step.place == place))

known : (o : Option ℕ) (number other : ℕ) → IsOrUnknown o number → o ≡ Some other → other ≡ number
known None number other may is = cc
known (Some one) number other may is = sym (some_same one other is) ∙ may

pub frame_same : (one other : Frame) → one ≡ other → same_frame one other ≡ true
frame_same (Execution op) (Execution other) e = eq-eqb op other (let f : op ≡ other = cc in f)
frame_same (Outside thread) (Outside other) e = eq-eqb thread other (let f : thread ≡ other = cc in f)
frame_same (Execution op) (Outside thread) e = cc
frame_same (Outside thread) (Execution op) e = cc

pub frame_is : (one other : Frame) → same_frame one other ≡ true → one ≡ other
frame_is (Execution op) (Execution other) e = ap Execution (eqb-true op other e)
frame_is (Outside thread) (Outside other) e = ap Outside (eqb-true thread other e)
frame_is (Execution op) (Outside thread) e = cc
frame_is (Outside thread) (Execution op) e = cc

-- what is known of a line of the run at a place
pub spot_of_fact : {apart : List ℕ} (thing : ℕ) (run : List Line) (facts : Facts) (place : ℕ) (fact : Fact)
    → AreFacts apart thing run facts
    → fact_at facts place ≡ Some fact → (spot : Spot) × (spot_at run place ≡ Some spot) × (fact ≡ fact_of apart thing spot)
spot_of_fact {apart} thing run facts place fact are is = by_spot (spot_at run place) refl
  where
    by_spot : (o : Option Spot) → spot_at run place ≡ o → (spot : Spot) × (spot_at run place ≡ Some spot)
        × (fact ≡ fact_of apart thing spot)
    by_spot None there =
        let e : None ≡ Some fact = sym (ap (option_map (fact_of apart thing)) there) ∙ sym (are.lines place) ∙ is in cc
    by_spot (Some spot) there = (
      spot,
      there,
      sym (some_same (fact_of apart thing spot) fact
          (sym (ap (option_map (fact_of apart thing)) there) ∙ sym (are.lines place) ∙ is)),
    )

-- operations stay numbered one to one

pair_same : (kept : Placing) (a b op number : Option ℕ) → Pairs kept a b → MayPair kept op number
    → option_eq nat_eq a op ≡ option_eq nat_eq b number
pair_same kept None None None None pair may = refl
pair_same kept None None (Some op) (Some number) pair may = refl
pair_same kept (Some a) (Some b) None None pair may = refl
pair_same kept (Some a) (Some b) (Some op) (Some number) pair may =
    ⊎_elim
    (λ (here : (a == op) ≡ true). let same : a ≡ op = eqb-true a op here in
    here ∙ sym (eq-eqb b number (known (number_of kept op) number b may.0 (ap (number_of kept) (sym same) ∙ pair.0))))
    (λ (elsewhere : (a == op) ≡ false). elsewhere ∙ sym (ne_eqb b number (λ same.
    distinct (a == op) (eq-eqb a op (known (op_named kept number) op a may.1 (ap (op_named kept) (sym same)
    ∙ pair.1))) elsewhere)))
    (cases_Bool (a == op))
  where
    distinct : (b : Bool) → b ≡ true → b ≡ false → ⊥
    distinct true is not = cc
    distinct false is not = cc
pair_same kept None (Some b) op number pair may = absurd pair
pair_same kept (Some a) None op number pair may = absurd pair
pair_same kept None None None (Some number) pair may = absurd may
pair_same kept None None (Some op) None pair may = absurd may
pair_same kept (Some a) (Some b) None (Some number) pair may = absurd may
pair_same kept (Some a) (Some b) (Some op) None pair may = absurd may

pair_stays : (old new : Placing) (a b op number : Option ℕ) → Pairs old a b → MayPair old op number
    → NotesPair old new op number
    → Pairs new a b
pair_stays old new None None op number pair may notes = tt
pair_stays old new None (Some b) op number pair may notes = absurd pair
pair_stays old new (Some a) None op number pair may notes = absurd pair
pair_stays old new (Some a) (Some b) None number pair may notes =
    (rw notes.0 pair.0, rw notes.1 pair.1)
pair_stays old new (Some a) (Some b) (Some op) None pair may notes = absurd may
pair_stays old new (Some a) (Some b) (Some op) (Some number) pair may notes = (
  cond_both (op == a) (Some number) (number_of old a) (λ (o : Option ℕ). number_of new a ≡ o → number_of new a ≡ Some b)
      (λ here is. let same : a ≡ op = sym (eqb-true op a here) in
      is ∙ ap Some (sym (known (number_of old op) number b may.0 (ap (number_of old) (sym same) ∙ pair.0))))
      (λ elsewhere is. is ∙ pair.0) (notes.0 a),
  cond_both (number == b) (Some op) (op_named old b) (λ (o : Option ℕ). op_named new b ≡ o → op_named new b ≡ Some a)
      (λ here is. let same : b ≡ number = sym (eqb-true number b here) in
      is ∙ ap Some (sym (known (op_named old number) op a may.1 (ap (op_named old) (sym same) ∙ pair.1))))
      (λ elsewhere is. is ∙ pair.1) (notes.1 b),
)

pair_here : (old new : Placing) (op number : Option ℕ) → MayPair old op number → NotesPair old new op number
    → Pairs new op number
pair_here old new None None may notes = tt
pair_here old new None (Some number) may notes = may
pair_here old new (Some op) None may notes = may
pair_here old new (Some op) (Some number) may notes =
    (notes.0 op ∙ (rw (eq-eqb op op refl) refl), notes.1 number ∙ (rw (eq-eqb number number refl) refl))

-- a position is below the number of lines
pub position_below : (before : List Step) (place at : ℕ) → position before place ≡ Some at → at < length before
position_below [] place at = λ is. cc
position_below (step ∷ before) place at =
    cond_both (step.place == place) (Some (length before)) (position before place) (λ (o : Option ℕ). o ≡ Some at
    → at < suc (length before))
    (λ here is. let e : length before ≡ at = some_same (length before) at is in omega arith)
    (λ elsewhere is. let less : at < length before = position_below before place at is in omega arith)

same_step : (run : List Line) (step : Step) (first spot : Spot) → spot_at run step.place ≡ Some spot
    → spot_at run step.place ≡ Some first
    → first ≡ spot
same_step run step first spot there found_there = some_same first spot (sym found_there ∙ there)

number_begun : (kept : Placing) (first other : Doing) (op number : ℕ) → Pairs kept (op_of first) (op_of other)
    → begins first op ≡ true
    → begins other number ≡ true → number_of kept op ≡ Some number
number_begun kept first other op number pair begun copied =
    (subst (λ (o : Option ℕ). Pairs kept o (Some number)) (op_of_begin first op begun)
    (subst (λ (o : Option ℕ). Pairs kept (op_of first) o) (op_of_begin other number copied) pair)).0

-- a line that is put begins its tree where it does in the run
begins_its : (apart : List ℕ) (spot : Spot) (tree_of : Frame) → tree apart spot ≡ tree_of → BeginsTree apart spot
    → BeginsIts spot.line.does tree_of
begins_its apart spot (Outside thread) is first = tt
begins_its apart spot (Execution op) is first =
    ⊎_elim (λ outside. let e : Execution op ≡ Outside spot.line.thread = sym is ∙ outside in cc)
    (λ begun. let e : Execution op ≡ Execution begun.0 = sym is ∙ begun.2 in
    let same : begun.0 ≡ op = same_op_of begun.0 op e in
    subst (λ (o : ℕ). begins spot.line.does o ≡ true) same begun.1) first
  where
    same_op_of : (one op : ℕ) → Execution op ≡ Execution one → one ≡ op
    same_op_of one op e = cc

-- what begins in a legal run waits, so how it was called is known
pub begun_call_is : (past : List Line) (thread op : ℕ) (call : Calling) (does : Doing) → MayDo loose past thread does
    → begins does op ≡ true → call_of past op ≡ Some call → begun_by past does ≡ Some (waiter_from (done_of past op) call)
begun_call_is past thread op call (doing.Begin number code size) may begun called =
    ap (waiter_of past) (eqb-true number op begun) ∙ unspent
  where
    unspent : waiter_of past op ≡ Some (waiter_from (done_of past op) call)
    unspent = subst (λ (n : ℕ). waiter_of past n ≡ Some (waiter_from (done_of past n) call)) (eqb-true number op begun)
        (rw (may.waiting.not_begun, may.waiting.not_dropped)
        (ap (option_map (waiter_from (done_of past number))) (ap (call_of past) (eqb-true number op begun) ∙ called)))
begun_call_is past thread op call _ may begun called = cc

pub begun_waiter : (past : List Line) (thread op context : ℕ) (does : Doing) → MayDo loose past thread does
    → begins does op ≡ true
    → context_of past op ≡ Some context → (waiter : Waiter) × (begun_by past does ≡ Some waiter) ×
    (waiter.context ≡ context)
begun_waiter past thread op context does may begun is = by_call (call_of past op) refl
  where
    by_call : (o : Option Calling) → call_of past op ≡ o
        → (waiter : Waiter) × (begun_by past does ≡ Some waiter) × (waiter.context ≡ context)
    by_call None called =
        let e : None ≡ Some context = sym (ap (option_map (λ (call : Calling). call.context)) called) ∙ is in cc
    by_call (Some call) called = (
      waiter_from (done_of past op) call,
      begun_call_is past thread op call does may begun called,
      some_same call.context context (sym (ap (option_map (λ (c : Calling). c.context)) called) ∙ is),
    )

pub legal_at : (run : List Line) (place : ℕ) (spot : Spot) → IsLegalSoFar loose run → spot_at run place ≡ Some spot
    → MayDo loose spot.past spot.line.thread spot.line.does
legal_at run place spot legal there =
    let at = found run place spot there in
    let whole : IsLegalSoFar loose (at.end.0 ++ spot.line ∷ spot.past) = subst (IsLegalSoFar loose) at.end.1 legal in
    (legal_end loose at.end.0 (spot.line ∷ spot.past) whole).1.rules

-- what stands alone is one of those round it

pub root_some : (apart : List ℕ) (op : ℕ) (ops : List ℕ) → root apart (op ∷ ops) ≡ None → ⊥
root_some apart op [] none = cc
root_some apart op (next ∷ ops) none =
    cond_both (is_among apart op) (Some op) (root apart (next ∷ ops)) (λ (o : Option ℕ). o ≡ None → ⊥) (λ among is. cc)
    (λ other is. root_some apart next ops is) none

pub no_root : (apart : List ℕ) (ops : List ℕ) → root apart ops ≡ None → ops ≡ []
no_root apart [] none = refl
no_root apart (op ∷ ops) none = absurd (root_some apart op ops none)

root_in : (apart : List ℕ) (ops : List ℕ) (op : ℕ) → root apart ops ≡ Some op → IsIn op ops
root_in apart [] op is = cc
root_in apart (one ∷ []) op is = inl (some_same one op is)
root_in apart (one ∷ next ∷ others) op is =
    cond_both (is_among apart one) (Some one) (root apart (next ∷ others)) (λ (o : Option ℕ). o ≡ Some op
    → IsIn op (one ∷ next ∷ others))
    (λ among here. inl (some_same one op here)) (λ other within. inr (root_in apart (next ∷ others) op within)) is

some_frame : (thread : ℕ) (o : Option ℕ) (tree_of : Frame) → frame_by thread o ≡ tree_of → (o ≡ None → ⊥) → (other : ℕ)
    → tree_of ≡ Outside other → ⊥
some_frame thread None tree_of is some other outside = some refl
some_frame thread (Some op) tree_of is some other outside = let e : Execution op ≡ Outside other = is ∙ outside in cc

op_frame : (thread op : ℕ) (o : Option ℕ) → frame_by thread o ≡ Execution op → o ≡ Some op
op_frame thread op None is = cc
op_frame thread op (Some one) is = let e : one ≡ op = cc in ap Some e

-- where a tree has the begin of what writes a line, it doesn't begin by this line
inside_tree : (run : List Line) (apart : List ℕ) (spot first : Spot) (place at op : ℕ) → IsLegalSoFar loose run
    → spot_at run place ≡ Some spot → spot_at run at ≡ Some first → tree apart first ≡ tree apart spot
    → writer spot ≡ Execution op
    → begins first.line.does op ≡ true → BeginsIts spot.line.does (tree apart spot) → ⊥
inside_tree run apart spot first place at op legal there first_there same writes begun = by_tree (tree apart spot) refl
  where
    rooted : tree apart first ≡ frame_by first.line.thread (root apart (op ∷ stack first.past first.line.thread))
    rooted = ap (λ (ops : List ℕ). frame_by first.line.thread (root apart ops))
        (around_begin first.line.does op (stack first.past first.line.thread) begun)

    began : IsBegun run spot op
    began = begun_before run loose legal spot (found run place spot there).end op writes

    first_is : began.spot ≡ first
    first_is = only_begin loose run legal first op (found run at first first_there).end begun began.spot began.alone

    within : stack spot.past spot.line.thread ≡ op ∷ stack first.past first.line.thread
    within = began.around ∙ ap (λ (s : Spot). op ∷ stack s.past s.line.thread) first_is

    legal_past : IsLegalSoFar loose spot.past
    legal_past =
        (legal_end loose (found run place spot there).end.0 (spot.line ∷ spot.past)
        (subst (IsLegalSoFar loose) (found run place spot there).end.1 legal)).0

    twice : (d : ℕ) → begins spot.line.does d ≡ true → IsIn d (op ∷ stack first.past first.line.thread) → ⊥
    twice d is among =
        let e : true ≡ false =
        sym is ∙ begins_once loose spot.past spot.line.thread d spot.line.does (legal_at run place spot legal there)
        (begun_in_stack loose spot.past legal_past spot.line.thread d (subst (λ (ops : List ℕ). IsIn d ops)
        (sym within) among)) in cc

    by_tree : (tree_of : Frame) → tree apart spot ≡ tree_of → BeginsIts spot.line.does tree_of → ⊥
    by_tree (Outside thread) is first_line =
        some_frame first.line.thread (root apart (op ∷ stack first.past first.line.thread)) (tree apart spot)
        (sym rooted ∙ same)
        (root_some apart op (stack first.past first.line.thread)) thread is
    by_tree (Execution d) is first_line =
        twice d first_line (root_in apart (op ∷ stack first.past first.line.thread) d
        (op_frame first.line.thread d (root apart (op ∷ stack first.past first.line.thread)) (sym rooted ∙ same ∙ is)))

-- a line that may be put stands well
pub put_well : {apart : List ℕ} (thing : ℕ) (run : List Line) (facts : Facts) (before : List Step) (old : Placing)
    (step : Step) (who : Frame) (fact : Fact)
    (spot : Spot) → AreFacts apart thing run facts → IsPlacing run apart before old
    → who ≡ frame (lines_of before) step.line.thread
    → spot_at run step.place ≡ Some spot → fact ≡ fact_of apart thing spot → MayPut old facts fact step who
    → IsPutWell run apart before step
put_well {apart} thing run facts before old step who fact spot are kept is there is_fact may_any =
    let may = subst (λ (f : Fact). MayPut old facts f step who) is_fact may_any in
    record {
      spot = spot;
      there = there;
      once = stands_somewhere before step.place (sym (kept.places step.place) ∙ may.once);
      copied = (unwrap_or (op_of step.line.does) 0, may.copied);
      numbered = λ other first put.
          pair_same old (op_of first.line.does) (op_of other.line.does) (op_of spot.line.does) (op_of step.line.does)
          (kept.numbers other first put) may.numbered;
      together = λ other first put same.
          known (thread_of old (tree apart spot)) step.line.thread other.line.thread may.together
          (ap (thread_of old) (sym same) ∙ kept.threads other first put);
      outside = λ outside. sym (may.home spot.line.thread outside);
      caller = λ other first op number put same inside begun copied.
          sym is ∙ may.caller
          (inside_tree run apart spot first step.place other.place op are.legal there put.there same inside begun) op
          number inside
          (number_begun old first.line.does other.line.does op number (kept.numbers other first put) begun copied);
      idle = λ first. sym is ∙ may.idle (begins_its apart spot (tree apart spot) refl first);
      worker = λ op context begun called.
          let waits = begun_waiter spot.past spot.line.thread op context spot.line.does
          (legal_at run step.place spot are.legal there)
          begun called in
          subst (λ (c : ℕ). IsWorker run step.line.thread c) waits.2
          ((are.workers step.line.thread (waits.0).context).0 (may.worker waits.0 waits.1));
    }

-- nothing else is noted

with_more : (run : List Line) (before : List Step) (step : Step) (Has : Spot → Line → Type 0) → IsPutWith run before Has
    → IsPutWith run (step ∷ before) Has
with_more run before step Has was = record {
  step = was.step;
  first = was.first;
  put = record { stands = inr was.put.stands; there = was.put.there };
  has = was.has;
}

with_here : (run : List Line) (before : List Step) (step : Step) (spot : Spot) (Has : Spot → Line → Type 0)
    → spot_at run step.place ≡ Some spot → Has spot step.line → IsPutWith run (step ∷ before) Has
with_here run before step spot Has there has =
    record { step = step; first = spot; put = record { stands = inl refl; there = there }; has = has }

numbered_next : {apart : List ℕ} (run : List Line) (before : List Step) (old new : Placing) (step : Step)
    (spot : Spot) → IsPlacing run apart before old
    → spot_at run step.place ≡ Some spot → (a b : Option ℕ) → op_of spot.line.does ≡ a → op_of step.line.does ≡ b
    → NotesPair old new a b → MayPair old a b → (op number : ℕ) → number_of new op ≡ Some number
    → IsPutWith run (step ∷ before) (NamesPair op number)
numbered_next run before old new step spot kept there None b is_a is_b notes may op number is =
    let was : number_of old op ≡ Some number = rw (← notes.0) is in
    with_more run before step (NamesPair op number) (kept.numbered op number was)
numbered_next run before old new step spot kept there (Some a) None is_a is_b notes may op number is = absurd may
numbered_next run before old new step spot kept there (Some a) (Some b) is_a is_b notes may op number is =
    cond_both (a == op) (Some b) (number_of old op) (λ (o : Option ℕ). o ≡ Some number
    → IsPutWith run (step ∷ before) (NamesPair op number))
    (λ same e. with_here run before step spot (NamesPair op number) there
    (is_a ∙ ap Some (eqb-true a op same), is_b ∙ e))
    (λ elsewhere e. with_more run before step (NamesPair op number) (kept.numbered op number e)) (sym (notes.0 op) ∙ is)

named_next : {apart : List ℕ} (run : List Line) (before : List Step) (old new : Placing) (step : Step) (spot : Spot)
    → IsPlacing run apart before old
    → spot_at run step.place ≡ Some spot → (a b : Option ℕ) → op_of spot.line.does ≡ a → op_of step.line.does ≡ b
    → NotesPair old new a b → MayPair old a b → (op number : ℕ) → op_named new number ≡ Some op
    → IsPutWith run (step ∷ before) (NamesPair op number)
named_next run before old new step spot kept there None b is_a is_b notes may op number is =
    let was : op_named old number ≡ Some op = rw (← notes.1) is in
    with_more run before step (NamesPair op number) (kept.named op number was)
named_next run before old new step spot kept there (Some a) None is_a is_b notes may op number is = absurd may
named_next run before old new step spot kept there (Some a) (Some b) is_a is_b notes may op number is =
    cond_both (b == number) (Some a) (op_named old number) (λ (o : Option ℕ). o ≡ Some op
    → IsPutWith run (step ∷ before) (NamesPair op number))
    (λ same e. with_here run before step spot (NamesPair op number) there
    (is_a ∙ e, is_b ∙ ap Some (eqb-true b number same)))
    (λ elsewhere e. with_more run before step (NamesPair op number) (kept.named op number e)) (sym (notes.1 number) ∙ is)

-- and is noted
pub put_next : {apart : List ℕ} (run : List Line) (before : List Step) (old new : Placing) (step : Step) (fact : Fact)
    (spot : Spot)
    → IsPlacing run apart before old → spot_at run step.place ≡ Some spot → fact.line ≡ spot.line
    → fact.tree ≡ tree apart spot
    → MayPair old (op_of fact.line.does) (op_of step.line.does) → IsOrUnknown (thread_of old fact.tree) step.line.thread
    → NotesPut old new fact step → IsPlacing run apart (step ∷ before) new
put_next {apart} run before old new step fact spot kept there is_line is_tree numbered together notes =
    record {
      count = notes.counted ∙ (let e : old.count ≡ length before = kept.count in let f : old.count + 1 ≡ suc
          (length before) = omega arith in f);
      places = λ place. notes.places place
          ∙ ap (λ (n : ℕ). if step.place == place then Some n else position_of old place) kept.count
          ∙ ap (λ (o : Option ℕ). if step.place == place then Some (length before) else o) (kept.places place);
      threads = λ other first put. ⊎_elim
          (λ (here : step ≡ other).
          let same : first ≡ spot = same_step run step first spot there (ap (λ (s : Step). spot_at run s.place) here
          ∙ put.there) in
          notes.threads (tree apart first)
          ∙ (let t : fact.tree ≡ tree apart first = is_tree ∙ ap (tree apart) (sym same) in
          ap (λ (b : Bool). if b then Some step.line.thread else thread_of old (tree apart first))
          (frame_same fact.tree (tree apart first) t))
          ∙ ap (λ (s : Step). Some s.line.thread) here)
          (λ behind. let was = kept.threads other first (record { stands = behind; there = put.there }) in
          notes.threads (tree apart first)
          ∙ kept_thread (same_frame fact.tree (tree apart first)) refl (thread_of old
          (tree apart first)) other.line.thread was
          (λ same. known (thread_of old fact.tree) step.line.thread other.line.thread together
          (ap (thread_of old) (frame_is fact.tree (tree apart first) same) ∙ was))) put.stands;
      numbers = λ other first put. ⊎_elim
          (λ (here : step ≡ other).
          let same : first ≡ spot = same_step run step first spot there (ap (λ (s : Step). spot_at run s.place) here
          ∙ put.there) in
          subst (λ (s : Step). Pairs new (op_of first.line.does) (op_of s.line.does)) here
          (subst (λ (l : Line). Pairs new (op_of l.does) (op_of step.line.does)) (is_line ∙ ap (λ (s : Spot). s.line)
          (sym same))
          (pair_here old new (op_of fact.line.does) (op_of step.line.does) numbered notes.pairs)))
          (λ behind. pair_stays old new (op_of first.line.does) (op_of other.line.does) (op_of fact.line.does)
          (op_of step.line.does)
          (kept.numbers other first (record { stands = behind; there = put.there })) numbered notes.pairs) put.stands;
      on = λ tree_of thread is.
          cond_both (same_frame fact.tree tree_of) (Some step.line.thread) (thread_of old tree_of)
          (λ (o : Option ℕ). o ≡ Some thread → IsPutWith run (step ∷ before) (λ one line. (tree apart one ≡ tree_of) ×
          (line.thread ≡ thread)))
          (λ same e. with_here run before step spot (λ one line. (tree apart one ≡ tree_of) × (line.thread ≡ thread)) there
          (sym is_tree ∙ frame_is fact.tree tree_of same, some_same step.line.thread thread e))
          (λ elsewhere e. with_more run before step (λ one line. (tree apart one ≡ tree_of) × (line.thread ≡ thread))
          (kept.on tree_of thread e)) (sym (notes.threads tree_of) ∙ is);
      numbered = λ op number is.
          numbered_next run before old new step spot kept there (op_of fact.line.does) (op_of step.line.does)
          (ap (λ (l : Line). op_of l.does) (sym is_line)) refl notes.pairs numbered op number is;
      named = λ op number is.
          named_next run before old new step spot kept there (op_of fact.line.does) (op_of step.line.does)
          (ap (λ (l : Line). op_of l.does) (sym is_line)) refl notes.pairs numbered op number is;
    }
  where
    kept_thread : (b : Bool) → b ≡ b → (o : Option ℕ) (thread : ℕ) → o ≡ Some thread → (b ≡ true
        → thread ≡ step.line.thread)
        → (if b then Some step.line.thread else o) ≡ Some thread
    kept_thread true e o thread is same = ap Some (sym (same refl))
    kept_thread false e o thread is same = is
