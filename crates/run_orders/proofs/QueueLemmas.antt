-- What stands in the queue of its strand before another operation is posted begins before that one, in an order, too.
use Rattle.std.proofs.Common.{◌≡◌, ℕ, suc, ◌<◌, ◌≤◌, List, [], ◌∷◌, ◌++◌, refl, ap, sym, subst, ◌∙◌, inl, inr, ⊎_elim, length, arith}
use Rattle.std.proofs.lemmas.Bool.{and_parts, cases_Bool, cond_both, eq-eqb, eqb-true, or_cases, or_left}
use Rattle.std.specs.Prelude.{Bool, true, ◌==◌, ◌&&◌, if◌then◌else◌, Option, Some, None, IsSome, IsSomeAnd}
use Rattle.std.specs.List.{list_any}
use Rattle.std.specs.Option.{option_and_then, option_or}
use Rattle.run_lines.specs.declared.line.Doing.{Doing}
use Rattle.run_lines.specs.declared.line.Doing.TheVariants as doing
use Rattle.run_lines.specs.declared.line.Line.{Line}
use Rattle.run_lines.specs.declared.word.Word.{Word}
use Rattle.run_rules.specs.Against.{calls, completes, op_of}
use Rattle.run_rules.specs.Calls.{Calling, begins, call_of, done_of, drops, is_begun, is_dropped, is_posting, strand_of}
use Rattle.run_rules.specs.Entries.{Entry, entry_by, entry_from, entry_of, placed_at, placed_by}
use Rattle.run_rules.specs.Legal.{IsLegalSoFar}
use Rattle.run_rules.specs.Stacks.{frame}
use Rattle.run_rules.specs.Starting.{Holds, IsPlacedBefore}
use Rattle.run_orders.specs.declared.order.Step.{Step}
use Rattle.run_orders.specs.Causes.{IsCause, ends}
use Rattle.run_orders.specs.Forced.{IsPosted, IsQueued, IsTurn, begun_by, posts}
use Rattle.run_orders.specs.Orders.{EachMayStand, IsLegalBut, IsPut, IsStep, Stands, lines_of, plain, renumbered}
use Rattle.run_orders.specs.Trees.{Spot, around_by, spot_at, tree}
use Rattle.run_orders.proofs.TreeLemmas.{IsEnd, end_more, found, some_same}
use Rattle.run_orders.proofs.BeginLemmas.{begun_before, end_of_end, shorter}
use Rattle.run_orders.proofs.StandLemmas.{op_of_begin, stack_of, stands_step}
use Rattle.run_orders.proofs.StrandLemmas.{strand_next_but}
use Rattle.run_orders.proofs.RunningLemmas.{may_end, spot_legal}
use Rattle.run_orders.proofs.CalledLemmas.{strand_in_run, takes_begin}
use Rattle.run_orders.proofs.UnderLockLemmas.{same_tree}
use Rattle.run_orders.proofs.NumberLemmas.{same_copied, same_named}
use Rattle.run_orders.proofs.EndingLemmas.{never_dropped}
use Rattle.run_orders.proofs.OrderLemmas.{legal_but}
use Rattle.run_orders.proofs.TurnLemmas.{BeginsFree, begins_free, called_on, ended_before}

-- a step of an order, and those before it

pub record IsCut (steps : List Step) (step : Step) : Type 0 where
  pub before : List Step
  pub later : List Step
  pub parted : steps ≡ later ++ step ∷ before

pub cut_at : (steps : List Step) (step : Step) → IsStep steps step → IsCut steps step
cut_at [] step stands = absurd stands
cut_at (one ∷ before) step stands =
    ⊎_elim (λ (here : one ≡ step). record { before = before; later = []; parted = ap (λ (s : Step). s ∷ before) here })
    (λ behind. let was = cut_at before step behind in
    record { before = was.before; later = one ∷ was.later; parted = ap (λ (l : List Step). one ∷ l) was.parted }) stands

each_end : (run : List Line) (apart : List ℕ) (later steps : List Step) → EachMayStand run apart (later ++ steps)
    → EachMayStand run apart steps
each_end run apart [] steps each = each
each_end run apart (step ∷ later) steps each = each_end run apart later steps each.0

pub each_cut : (run : List Line) (apart : List ℕ) (steps : List Step) (step : Step) → (cut : IsCut steps step)
    → EachMayStand run apart steps → EachMayStand run apart (step ∷ cut.before)
each_cut run apart steps step cut each =
    each_end run apart cut.later (step ∷ cut.before) (subst (λ (l : List Step). EachMayStand run apart l) cut.parted each)

but_end : (later steps : List Step) → IsLegalBut (lines_of (later ++ steps)) → IsLegalBut (lines_of steps)
but_end [] steps but = but
but_end (step ∷ later) steps but = but_end later steps but.0

pub but_cut : (steps : List Step) (step : Step) → (cut : IsCut steps step) → IsLegalBut (lines_of steps)
    → IsLegalBut (lines_of (step ∷ cut.before))
but_cut steps step cut but = but_end cut.later (step ∷ cut.before) (subst (λ (l : List Step). IsLegalBut (lines_of l)) cut.parted but)

stands_end : (later steps : List Step) (place : ℕ) → Stands steps place → Stands (later ++ steps) place
stands_end [] steps place stands = stands
stands_end (step ∷ later) steps place stands = inr (stands_end later steps place stands)

pub stands_cut : (steps : List Step) (step : Step) → (cut : IsCut steps step) → (place : ℕ) → Stands cut.before place → Stands steps place
stands_cut steps step cut place stands =
    subst (λ (l : List Step). Stands l place) (sym cut.parted) (stands_end cut.later (step ∷ cut.before) place (inr stands))

lines_end : (later steps : List Step) → IsEnd (lines_of (later ++ steps)) (lines_of steps)
lines_end [] steps = ([], refl)
lines_end (step ∷ later) steps =
    let was = lines_end later steps in (step.line ∷ was.0, ap (λ (l : List Line). step.line ∷ l) was.1)

lines_cut : (steps : List Step) (step : Step) → (cut : IsCut steps step) → IsEnd (lines_of steps) (step.line ∷ lines_of cut.before)
lines_cut steps step cut =
    subst (λ (l : List Step). IsEnd (lines_of l) (step.line ∷ lines_of cut.before)) (sym cut.parted)
    (lines_end cut.later (step ∷ cut.before))

-- a posting that was called

pub record IsCall (does : Doing) (op : ℕ) : Type 0 where
  pub word : Word
  pub context : ℕ
  pub strand : Option ℕ
  pub thing : Option ℕ
  pub posting : is_posting word ≡ true
  pub calls_it : does ≡ doing.Call op word context strand thing

call_by : (does : Doing) (op : ℕ) → posts does op ≡ true → IsCall does op
call_by (doing.Call number word context strand thing) op is =
    let parts = and_parts (is_posting word) (number == op) is in
    record {
      word = word;
      context = context;
      strand = strand;
      thing = thing;
      posting = parts.0;
      calls_it = ap (λ (n : ℕ). doing.Call n word context strand thing) (eqb-true number op parts.1);
    }
call_by _ op is = cc

abbrev made : (line : Line) (past : List Line) (op : ℕ) → IsCall line.does op → Calling
made line past op call = record {
  word = call.word;
  context = call.context;
  strand = call.strand;
  thing = call.thing;
  caller = frame past line.thread;
  thread = line.thread;
  place = length past;
}

call_here : (line : Line) (past : List Line) (op : ℕ) → (call : IsCall line.does op)
    → call_of (line ∷ past) op ≡ Some (made line past op call)
call_here line past op call =
    ap (λ (d : Doing). call_of (record { thread = line.thread; does = d } ∷ past) op) call.calls_it ∙ rw (eq-eqb op op refl) refl

call_stays : (later past : List Line) (op : ℕ) → IsLegalBut (later ++ past) → IsSome (call_of past op)
    → call_of (later ++ past) op ≡ call_of past op
call_stays [] past op but called = refl
call_stays (line ∷ later) past op but called =
    let was = call_stays later past op but.0 called in
    strand_next_but (later ++ past) line op but.1 (subst (λ (o : Option Calling). IsSome o) (sym was) called) ∙ was

call_there : (lines : List Line) → IsLegalBut lines → (line : Line) (past : List Line) → IsEnd lines (line ∷ past) → (op : ℕ)
    → (call : IsCall line.does op) → call_of lines op ≡ Some (made line past op call)
call_there lines but line past (later, parted) op call =
    let here = call_here line past op call in
    ap (λ (l : List Line). call_of l op) parted
    ∙ call_stays later (line ∷ past) op (subst (λ (l : List Line). IsLegalBut l) parted but)
    (subst (λ (o : Option Calling). IsSome o) (sym here) refl) ∙ here

-- it stands in the queue of its strand from the next line of its thread on

entry_there : (lines : List Line) → IsLegalBut lines → (line : Line) (past : List Line) → IsEnd lines (line ∷ past) → (op : ℕ)
    → IsCall line.does op → entry_of lines op ≡ Some (record { thread = line.thread; place = length past })
entry_there lines but line past end op call =
    ap (λ (o : Option Calling). entry_from o (done_of lines op)) (call_there lines but line past end op call)
    ∙ ap (λ (b : Bool). entry_by b (made line past op call) (done_of lines op)) call.posting

below_by : (o : Option ℕ) (entry : Option Entry) (thread n place : ℕ) → ((p : ℕ) → o ≡ Some p → p < n)
    → option_or o (placed_by entry thread n) ≡ Some place → place < suc n
below_by (Some p) entry thread n place before is =
    let e : p ≡ place = some_same p place is in
    let less : p < n = before p refl in omega arith
below_by None None thread n place before is = cc
below_by None (Some entry) thread n place before is =
    cond_both (entry.thread == thread) (Some n) None (λ (o : Option ℕ). o ≡ Some place → place < suc n)
    (λ here same. let e : n ≡ place = some_same n place same in omega arith) (λ elsewhere none. cc) is

placed_below : (past : List Line) (op place : ℕ) → placed_at past op ≡ Some place → place < length past
placed_below [] op place is = cc
placed_below (line ∷ past) op place is =
    below_by (placed_at past op) (entry_of past op) line.thread (length past) place (λ p was. placed_below past op p was) is

placed_some : (o : Option ℕ) (entry : Entry) (thread n : ℕ) → entry.thread ≡ thread
    → (p : ℕ) × (option_or o (placed_by (Some entry) thread n) ≡ Some p)
placed_some (Some p) entry thread n same = (p, refl)
placed_some None entry thread n same = (n, ap (λ (b : Bool). if b then Some n else None) (eq-eqb entry.thread thread same))

placed_here : (line : Line) (past : List Line) (op : ℕ) (entry : Entry) → entry_of past op ≡ Some entry → entry.thread ≡ line.thread
    → (p : ℕ) × (placed_at (line ∷ past) op ≡ Some p)
placed_here line past op entry is same =
    let some = placed_some (placed_at past op) entry line.thread (length past) same in (
      some.0,
      ap (λ (e : Option Entry). option_or (placed_at past op) (placed_by e line.thread (length past))) is ∙ some.1,
    )

placed_stays : (later past : List Line) (op p : ℕ) → placed_at past op ≡ Some p → placed_at (later ++ past) op ≡ Some p
placed_stays [] past op p is = is
placed_stays (line ∷ later) past op p is =
    ap (λ (o : Option ℕ). option_or o (placed_by (entry_of (later ++ past) op) line.thread (length (later ++ past))))
    (placed_stays later past op p is)

-- one operation is called, its thread comes back, and then another one is called
placed_before : (before : List Step) → IsLegalBut (lines_of before) → (entry : Step) → (cut : IsCut before entry) → (next : ℕ)
    → IsCall entry.line.does next → (back : Step) → (cut_back : IsCut (entry ∷ cut.before) back) → (post : Step)
    → (cut_post : IsCut cut_back.before post) → post.line.thread ≡ back.line.thread → (number : ℕ) → IsCall post.line.does number
    → IsPlacedBefore (lines_of before) number next
placed_before before but entry cut next call_next back cut_back post cut_post thread number call =
    let end_entry = lines_cut before entry cut in
    let end_back = lines_cut (entry ∷ cut.before) back cut_back in
    let end_post = lines_cut cut_back.before post cut_post in
    let but_back = but_cut (entry ∷ cut.before) back cut_back (but_cut before entry cut but) in
    let queue = lines_of cut_back.before in
    let entered = entry_there queue but_back.0 post.line (lines_of cut_post.before) end_post number call in
    let placed = placed_here back.line queue number (record { thread = post.line.thread; place = length (lines_of cut_post.before) })
    entered thread in
    let whole = end_of_end (lines_of before) (entry.line ∷ lines_of cut.before) (back.line ∷ queue) end_entry end_back in
    let placed_now : placed_at (lines_of before) number ≡ Some placed.0 =
    ap (λ (l : List Line). placed_at l number) whole.1 ∙ placed_stays whole.0 (back.line ∷ queue) number placed.0 placed.1 in
    let here : placed.0 < length (back.line ∷ queue) = placed_below (back.line ∷ queue) number placed.0 placed.1 in
    let less : length queue < length (entry.line ∷ lines_of cut.before) =
    shorter end_back.0 back.line queue (entry.line ∷ lines_of cut.before) end_back.1 in
    subst (λ (o : Option ℕ). IsSomeAnd o (λ place. IsSomeAnd (entry_of (lines_of before) next) (λ (e : Entry). place ≤ e.place)))
    (sym placed_now)
    (subst (λ (o : Option Entry). IsSomeAnd o (λ (e : Entry). placed.0 ≤ e.place))
    (sym (entry_there (lines_of before) but entry.line (lines_of cut.before) end_entry next call_next))
    (at_most placed.0 (length queue) (length (lines_of cut.before)) here less))
  where
    at_most : (p q e : ℕ) → p < suc q → q < suc e → p ≤ e
    at_most p q e here less = omega arith

-- the same posting in an order
copy_of : (run : List Line) (apart : List ℕ) (steps : List Step) (step : Step) → IsCut steps step → EachMayStand run apart steps
    → (posted : Spot) → spot_at run step.place ≡ Some posted → (op : ℕ) → (call : IsCall posted.line.does op)
    → (number : ℕ) × (copy : IsCall step.line.does number) × (copy.strand ≡ call.strand)
copy_of run apart steps step cut each posted there op call =
    let may = (each_cut run apart steps step cut each).1 in
    let number = may.copied.0 in
    let same : may.spot ≡ posted = some_same may.spot posted (sym may.there ∙ there) in (
      number,
      record {
        word = call.word;
        context = call.context;
        strand = call.strand;
        thing = call.thing;
        posting = call.posting;
        calls_it =
            may.copied.1 ∙ ap (λ (s : Spot). renumbered number s.line.does) same
            ∙ ap (λ (d : Doing). renumbered number d) call.calls_it;
      },
      refl,
    )

call_names : (does : Doing) (op : ℕ) → IsCall does op → op_of does ≡ Some op
call_names does op call = ap (λ (d : Doing). op_of d) call.calls_it

posts_calls : (does : Doing) (op : ℕ) → posts does op ≡ true → calls does op ≡ true
posts_calls (doing.Call number word context strand thing) op is = (and_parts (is_posting word) (number == op) is).1
posts_calls _ op is = cc

-- a step that begins or drops something in an order

found_step : (test : Doing → Bool) (steps : List Step) → list_any (λ (line : Line). test line.does) (lines_of steps) ≡ true
    → (step : Step) × IsStep steps step × (test step.line.does ≡ true)
found_step test [] is = cc
found_step test (step ∷ before) is =
    ⊎_elim (λ here. (step, inl refl, here))
    (λ behind. let was = found_step test before behind in (was.0, inr was.1, was.2))
    (or_cases (test step.line.does) (list_any (λ (line : Line). test line.does) (lines_of before)) is)

begins_back : (k : ℕ) (does : Doing) (number : ℕ) → begins (renumbered k does) number ≡ true → (op : ℕ) × (begins does op ≡ true)
begins_back k (doing.Begin op code size) number is = (op, eq-eqb op op refl)
begins_back k _ number is = cc

drops_back : (k : ℕ) (does : Doing) (number : ℕ) → drops (renumbered k does) number ≡ true → (op : ℕ) × (drops does op ≡ true)
drops_back k (doing.Drop op) number is = (op, eq-eqb op op refl)
drops_back k _ number is = cc

op_of_drop : (does : Doing) (op : ℕ) → drops does op ≡ true → op_of does ≡ Some op
op_of_drop (doing.Drop number) op is = ap Some (eqb-true number op is)
op_of_drop _ op is = cc

-- an execution of the run, ended by this line, that was posted in an order
pub record IsPostedThere (run : List Line) (before : List Step) (one posted : Spot) (op strand : ℕ) : Type 0 where
  pub post : Step
  pub put : IsPut run before post posted
  pub posts_it : posts posted.line.does op ≡ true
  pub end : IsEnd run (one.line ∷ one.past)
  pub ended : ends one.line.does ≡ Some op
  pub on : strand_of one.past op ≡ Some strand
  pub number : ℕ
  pub named : op_of post.line.does ≡ Some number

-- it isn't dropped there
not_dropped : (run : List Line) → IsLegalSoFar plain run → (apart : List ℕ) (before : List Step) → EachMayStand run apart before
    → (one posted : Spot) (op strand : ℕ) → (is : IsPostedThere run before one posted op strand)
    → is_dropped (lines_of before) is.number ≡ true → ⊥
not_dropped run legal apart before each one posted op strand is dropped =
    let step = found_step (λ (d : Doing). drops d is.number) before dropped in
    let may = (each_cut run apart before step.0 (cut_at before step.0 step.1) each).1 in
    let original = drops_back may.copied.0 may.spot.line.does is.number (ap (λ (d : Doing). drops d is.number) (sym may.copied.1) ∙ step.2) in
    let same : original.0 ≡ op =
    same_named run apart before each step.0 is.post may.spot posted (record { stands = step.1; there = may.there }) is.put original.0 op
    is.number (op_of_drop may.spot.line.does original.0 original.1) (call_names posted.line.does op (call_by posted.line.does op is.posts_it))
    (op_of_drop (step.0).line.does is.number step.2) is.named in
    let may_one = may_end one.past one.line.thread op one.line.does (spot_legal run legal one is.end) is.ended in
    let began = begun_before run plain legal one is.end op may_one.innermost in
    never_dropped run legal began.spot may.spot (found run (length began.spot.past) began.spot began.there).end
    (found run (step.0).place may.spot may.there).end op began.begun
    (subst (λ (o : ℕ). drops may.spot.line.does o ≡ true) same original.1)

-- if it has begun there, and nobody holds its strand, it has ended there
begun_ends : (run : List Line) → IsLegalSoFar plain run → (apart : List ℕ) (before : List Step) → EachMayStand run apart before
    → IsLegalBut (lines_of before) → (one posted : Spot) (op strand first : ℕ) → (is : IsPostedThere run before one posted op strand)
    → spot_at run first ≡ Some one → ((thread : ℕ) → Holds (lines_of before) thread strand → ⊥)
    → is_begun (lines_of before) is.number ≡ true → Stands before first
begun_ends run legal apart before each but one posted op strand first is there free begun =
    let step = found_step (λ (d : Doing). begins d is.number) before begun in
    let may = (each_cut run apart before step.0 (cut_at before step.0 step.1) each).1 in
    let original = begins_back may.copied.0 may.spot.line.does is.number (ap (λ (d : Doing). begins d is.number) (sym may.copied.1) ∙ step.2) in
    let put : IsPut run before step.0 may.spot = record { stands = step.1; there = may.there } in
    let same : original.0 ≡ op =
    same_named run apart before each step.0 is.post may.spot posted put is.put original.0 op is.number
    (op_of_begin may.spot.line.does original.0 original.1) (call_names posted.line.does op (call_by posted.line.does op is.posts_it))
    (op_of_begin (step.0).line.does is.number step.2) is.named in
    ended_before run legal apart before each but strand free may.spot op (step.0).line.thread
    (subst (λ (o : ℕ). begins may.spot.line.does o ≡ true) same original.1)
    (record { number = is.number; begin = step.0; put = put; copied = step.2; on = refl }) first one there is.ended is.on

-- so it has, if it stands there in the queue before an operation that begins there on its strand
first_ends : (run : List Line) → IsLegalSoFar plain run → (apart : List ℕ) (before : List Step) → EachMayStand run apart before
    → IsLegalBut (lines_of before) → (step : Step) (one posted : Spot) (op strand first : ℕ) → (next : BeginsFree before step strand)
    → (is : IsPostedThere run before one posted op strand) → spot_at run first ≡ Some one → IsSome (call_of (lines_of before) is.number)
    → strand_of (lines_of before) is.number ≡ Some strand → IsPlacedBefore (lines_of before) is.number next.number → Stands before first
first_ends run legal apart before each but step one posted op strand first next is there called on placed =
    ⊎_elim (λ begun. begun_ends run legal apart before each but one posted op strand first is there next.free begun)
    (λ not_begun. ⊎_elim (λ dropped. absurd (not_dropped run legal apart before each one posted op strand is dropped))
    (λ kept. absurd (next.may.first strand is.number refl next.on next.free
    (record { waits = record { called = called; not_begun = not_begun; not_dropped = kept }; same = on; placed = placed })))
    (cases_Bool (is_dropped (lines_of before) is.number))) (cases_Bool (is_begun (lines_of before) is.number))

step_end : (later steps : List Step) (one : Step) → IsStep steps one → IsStep (later ++ steps) one
step_end [] steps one stands = stands
step_end (step ∷ later) steps one stands = inr (step_end later steps one stands)

step_in : (steps : List Step) (step : Step) → (cut : IsCut steps step) → (one : Step) → IsStep (step ∷ cut.before) one → IsStep steps one
step_in steps step cut one stands =
    subst (λ (l : List Step). IsStep l one) (sym cut.parted) (step_end cut.later (step ∷ cut.before) one stands)

pub around_plain : (does : Doing) (ops : List ℕ) → begun_by does ≡ None → around_by does ops ≡ ops
around_plain (doing.Begin op code size) ops is = cc
around_plain _ ops is = refl

-- the lines of a run that put one operation into the queue of its strand before another one
pub record AreQueued (run : List Line) (post behind entry : ℕ) (posted back entered : Spot) : Type 0 where
  pub post_there : spot_at run post ≡ Some posted
  pub back_there : spot_at run behind ≡ Some back
  pub entry_there : spot_at run entry ≡ Some entered

pub queue_ends : (run : List Line) → IsLegalSoFar plain run → (apart : List ℕ) (before : List Step) (step : Step)
    → EachMayStand run apart (step ∷ before) → IsLegalBut (lines_of (step ∷ before)) → (first post behind entry op next : ℕ)
    → (one other posted back entered : Spot) → spot_at run first ≡ Some one → spot_at run step.place ≡ Some other
    → AreQueued run post behind entry posted back entered → IsTurn one other op next → IsQueued posted back op
    → IsPosted entered other next
    → ((last : Step) (steps : List Step) → EachMayStand run apart (last ∷ steps) → IsLegalBut (lines_of (last ∷ steps))
    → last.place ≡ entry → Stands (last ∷ steps) behind) → Stands before first
queue_ends run legal apart before step each but first post behind entry op next one other posted back entered there there_too at turn queued
    next_posted upto =
    let may = each.1 in
    let same : may.spot ≡ other = some_same may.spot other (sym may.there ∙ there_too) in
    let cause : IsCause apart entered other = record {
      earlier = next_posted.earlier;
      reason =
          inr
          (inl (
            next,
            takes_begin other.line.does next turn.begun,
            or_left (calls entered.line.does next) (completes entered.line.does next && begins other.line.does next)
                (posts_calls entered.line.does next next_posted.posts_it),
          ));
    } in
    let r = stands_step before entry
    (may.behind entry entered at.entry_there (subst (λ (s : Spot). IsCause apart entered s) (sym same) cause)) in
    let cut = cut_at before r.0 r.1 in
    let each_r = each_cut run apart before r.0 cut each.0 in
    let q = stands_step (r.0 ∷ cut.before) behind (upto r.0 cut.before each_r (but_cut before r.0 cut but.0) r.2) in
    let cut_q = cut_at (r.0 ∷ cut.before) q.0 q.1 in
    let each_q = each_cut run apart (r.0 ∷ cut.before) q.0 cut_q each_r in
    let may_q = each_q.1 in
    let same_q : may_q.spot ≡ back = some_same may_q.spot back (sym may_q.there ∙ ap (spot_at run) q.2 ∙ at.back_there) in
    let end_post = (found run post posted at.post_there).end in
    let trees : tree apart posted ≡ tree apart back =
    same_tree run legal apart posted back end_post (found run behind back at.back_there).end
    (around_plain posted.line.does (stack_of posted) queued.one.plain) (around_plain back.line.does (stack_of back) queued.one.plain_too)
    queued.one.same in
    let p = stands_step cut_q.before post
    (may_q.behind post posted at.post_there
    (subst (λ (s : Spot). IsCause apart posted s) (sym same_q) (record { earlier = queued.before.earlier; reason = inl trees }))) in
    let cut_p = cut_at cut_q.before p.0 p.1 in
    let p_there : spot_at run (p.0).place ≡ Some posted = ap (spot_at run) p.2 ∙ at.post_there in
    let thread : (p.0).line.thread ≡ (q.0).line.thread =
    may_q.together p.0 posted (record { stands = p.1; there = p_there }) (trees ∙ ap (tree apart) (sym same_q)) in
    let call = call_by posted.line.does op queued.before.posts_it in
    let copy = copy_of run apart cut_q.before p.0 cut_p each_q.0 posted p_there op call in
    let r_there : spot_at run (r.0).place ≡ Some entered = ap (spot_at run) r.2 ∙ at.entry_there in
    let copy_r = copy_of run apart before r.0 cut each.0 entered r_there next (call_by entered.line.does next next_posted.posts_it) in
    let free = begins_free run legal apart before step each but other there_too next turn.strand turn.begun turn.on_too turn.unheld in
    let number : copy_r.0 ≡ free.number =
    same_copied run apart (step ∷ before) each r.0 step entered other (record { stands = inr r.1; there = r_there })
    (record { stands = inl refl; there = there_too }) next copy_r.0 free.number
    (call_names entered.line.does next (call_by entered.line.does next next_posted.posts_it))
    (op_of_begin other.line.does next turn.begun) (call_names (r.0).line.does copy_r.0 copy_r.1) (ap (λ (d : Doing). op_of d) free.does) in
    let end_one = (found run first one there).end in
    let strand : call.strand ≡ Some turn.strand =
    ap (λ (o : Option Calling). option_and_then (λ (c : Calling). c.strand) o)
    (sym (call_there run (legal_but run legal) posted.line posted.past end_post op call))
    ∙ strand_in_run run one.past legal (end_more run one.line one.past end_one) op (called_on one.past op turn.strand turn.on) ∙ turn.on in
    let whole : IsEnd (lines_of before) ((p.0).line ∷ lines_of cut_p.before) =
    end_of_end (lines_of before) (lines_of cut_q.before) ((p.0).line ∷ lines_of cut_p.before)
    (end_more (lines_of before) (q.0).line (lines_of cut_q.before)
    (end_of_end (lines_of before) ((r.0).line ∷ lines_of cut.before) ((q.0).line ∷ lines_of cut_q.before) (lines_cut before r.0 cut)
    (lines_cut (r.0 ∷ cut.before) q.0 cut_q))) (lines_cut cut_q.before p.0 cut_p) in
    let called : call_of (lines_of before) copy.0 ≡ Some (made (p.0).line (lines_of cut_p.before) copy.0 copy.1) =
    call_there (lines_of before) but.0 (p.0).line (lines_of cut_p.before) whole copy.0 copy.1 in
    first_ends run legal apart before each.0 but.0 step one posted op turn.strand first free
    (record {
      post = p.0;
      put =
          record {
            stands = step_in before r.0 cut p.0 (step_in (r.0 ∷ cut.before) q.0 cut_q p.0 (inr p.1));
            there = p_there;
          };
      posts_it = queued.before.posts_it;
      end = end_one;
      ended = turn.ended;
      on = turn.on;
      number = copy.0;
      named = call_names (p.0).line.does copy.0 copy.1;
    })
    there (subst (λ (o : Option Calling). IsSome o) (sym called) refl)
    (ap (λ (o : Option Calling). option_and_then (λ (c : Calling). c.strand) o) called ∙ copy.2 ∙ strand)
    (subst (λ (n : ℕ). IsPlacedBefore (lines_of before) copy.0 n) number
    (placed_before before but.0 r.0 cut copy_r.0 copy_r.1 q.0 cut_q p.0 cut_p thread copy.0 copy.1))
