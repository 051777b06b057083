-- Handlers of a strand begin in the order in which they became ready.
use Rattle.std.proofs.Common.{arith, ap, refl, subst, sym, ◌∙◌, ⊎_elim, append_assoc}
use Rattle.std.proofs.lemmas.Bool.{true≢false}
use Rattle.std.proofs.lemmas.List.{nil_from_length}
use Rattle.std.proofs.lemmas.List.Edits.{insert-append_right}
use Rattle.std.specs.Prelude.{◌≡◌, ◌≤◌, ℕ, ◌+◌, ◌-◌, Bool, true, false, List, [], ◌∷◌, ◌++◌, Option, Some, None, drop, insert, length, slice_get, if◌then◌else◌}
use Rattle.std.specs.Option.{is_some}
use Rattle.io_rules.specs.declared.event.Event.{Event}
use Rattle.io_rules.specs.declared.event.Event.TheVariants as event
use Rattle.io_rules.specs.declared.limits.Limits.{Limits}
use Rattle.io_rules.specs.declared.name.Lane.{Lane}
use Rattle.io_rules.specs.declared.name.Lane.TheVariants as lane
use Rattle.io_rules.specs.declared.name.Name.{Name}
use Rattle.io_rules.specs.declared.operation.Operation.{Operation}
use Rattle.io_rules.specs.declared.operation.Operation.TheVariants as operation
use Rattle.io_rules.specs.declared.place.Life.TheVariants as life
use Rattle.io_rules.specs.declared.op.Phase.TheVariants as phase
use Rattle.io_rules.specs.declared.request.Gone.{Gone}
use Rattle.io_rules.specs.declared.request.Gone.TheVariants as gone
use Rattle.io_rules.specs.declared.request.Request.{Request}
use Rattle.io_rules.specs.Calls.{MayCallBy, caller_lane}
use Rattle.io_rules.specs.Executions.{MayEnd, after_end, spares_of}
use Rattle.io_rules.specs.History.{begun_in, dispatched_in, one_more_first, ready_in, ready_with}
use Rattle.io_rules.specs.InOrder.{BeginInOrder, strand_in, strand_of}
use Rattle.io_rules.specs.Legal.{IsLegal, state_of}
use Rattle.io_rules.specs.Names.{is_on}
use Rattle.io_rules.specs.Ops.{is_ready, is_running, lane_at, op_at}
use Rattle.io_rules.specs.Room.{has_place, one_if}
use Rattle.io_rules.specs.State.{ContextState, Phase, StrandState, new_strand}
use Rattle.io_rules.specs.Strands.{Entry, First, Last, Later, IsNextOf, begun_on, called_on, entry_of, entry_of_dispatch, entry_of_kind, is_last_on, is_same_strand, lane_given, on_lane, ready_on}
use Rattle.io_rules.proofs.FitLemmas.{FitsStrand, left_on, runs_on, tied_to, waits_on}
use Rattle.io_rules.proofs.LaneLemmas.{caller_known, lane_known}
use Rattle.io_rules.proofs.MoveLemmas.{completing, ended-leaves}
use Rattle.io_rules.proofs.OnceLemmas.{if_executing}
use Rattle.io_rules.proofs.StageLemmas.{Executing, stage_of, staged}
use Rattle.io_rules.proofs.StrandLemmas.{IsKnown, by_test, same-name, strand-on_lane, strand-with_life_of}
use Rattle.io_rules.proofs.StrandStateLemmas.{IsLeft, changed_strand, first_strand, known_given, known_lane, last_one, lengths, next_of, strand_left, strands_fit, waits_tied}
use Rattle.io_rules.proofs.TotalLemmas.{found, lane-found, share}

-- what a handler dispatches goes first only on its own strand
pub record IsDispatch (caller : Lane) (request : Request) (given : Gone) : Type 0 where
  pub there : given ≡ gone.Nothing
  pub own : is_same_strand caller request.lane ≡ true

dispatch_kind : (caller strand : Lane) (kind : Operation) → entry_of_kind caller strand kind ≡ First →
    is_same_strand caller strand ≡ true
dispatch_kind caller strand operation.Post is = absurd (cc)
dispatch_kind caller strand operation.Defer is = absurd (cc)
dispatch_kind caller strand operation.Dispatch is =
    by_test (is_same_strand caller strand) (λ own. own)
    (λ other. let last : First ≡ Last = sym is ∙ ap entry_of_dispatch other in absurd (cc))
dispatch_kind caller strand kind is = absurd (cc)

dispatch_first : (caller : Lane) (request : Request) (given : Gone) → entry_of caller request given ≡ First →
    IsDispatch caller request given
dispatch_first caller request gone.Nothing is =
    record { there = refl; own = dispatch_kind caller request.lane request.kind is }
dispatch_first caller request gone.Strand is = absurd (cc)
dispatch_first caller request gone.Other is = absurd (cc)

executing_phase : (p : Phase) → has_place p ≡ true → stage_of p ≡ Executing
executing_phase (phase.Running own grant spares) is = refl
executing_phase (phase.Pending moved cancelled) is = absurd (true≢false (sym is))
executing_phase (phase.Settled code size) is = absurd (true≢false (sym is))
executing_phase (phase.Ready code size) is = absurd (true≢false (sym is))

caller_on : (caller strand : Lane) (n : Name) → is_same_strand caller strand ≡ true → is_on n strand ≡ true →
    is_on n caller ≡ true
caller_on caller lane.Own n own on = absurd (true≢false (sym on))
caller_on caller (lane.Strand m) n own on = subst (λ k. is_on k caller ≡ true) (same-name m n on) own

some_runs : (runs : Option ℕ) → 1 ≤ one_if (is_some runs) → is_some runs ≡ true
some_runs None le = absurd (omega (arith, le))
some_runs (Some op) le = refl

-- where something goes first, a handler of the strand executes
first_runs : (s : ContextState) (by : Option ℕ) (request : Request) (given : Gone) (n : Name) → FitsStrand s n →
    MayCallBy s given by → is_on n (lane_given request given) ≡ true →
    entry_of (caller_lane s.ops by) request given ≡ First → is_some (strand_of s n).runs ≡ true
first_runs s None request given n fits may on is =
    let own = (dispatch_first lane.Own request given is).own in
    absurd (true≢false (sym (none request.lane own)))
  where
    none : (strand : Lane) → is_same_strand lane.Own strand ≡ true → false ≡ true
    none lane.Own own = own
    none (lane.Strand m) own = own
first_runs s (Some by) request given n fits may on is =
    let dispatch = dispatch_first (lane_at s.ops by) request given is in
    let strand : is_on n request.lane ≡ true =
    subst (λ g. is_on n (lane_given request g) ≡ true) dispatch.there on in
    let it = found has_place s.ops by may in
    let same_strand : is_on n it.op.lane ≡ true =
    ap (is_on n) (sym (lane-found s.ops by it.op it.is)) ∙ caller_on (lane_at s.ops by) request.lane n dispatch.own strand in
    let one : staged (runs_on n) it.op ≡ 1 =
    ap (λ stage. if_executing stage (is_on n it.op.lane)) (executing_phase it.op.phase it.passed)
    ∙ ap one_if same_strand in
    let own = share (staged (runs_on n)) by s.ops it.op it.is in
    let runs = fits.runs_fits in
    some_runs (strand_of s n).runs (omega (arith, one, own, runs))

-- what was dispatched first is counted while its handler executes
abbrev IsCounted : ℕ → StrandState → Type 0
IsCounted count st = is_some st.runs ≡ true → st.front ≡ count

counted_call : (b : Bool) (entry : Entry) (op count : ℕ) (st : StrandState) → IsCounted count st →
    IsCounted (if b then one_more_first entry count else count) (if b then called_on entry op st else st)
counted_call true First op count st is runs = let before = is runs in omega (arith, before)
counted_call true Last op count st is runs = is runs
counted_call true Later op count st is runs = is runs
counted_call false entry op count st is runs = is runs

counted_begin : (b : Bool) (op count : ℕ) (st : StrandState) → IsCounted count st →
    IsCounted (if b then 0 else count) (if b then begun_on op st else st)
counted_begin true op count st is runs = refl
counted_begin false op count st is runs = is runs

counted_done : (b : Bool) (op count : ℕ) (st : StrandState) → IsCounted count st →
    IsCounted count (if b then ready_on op st else st)
counted_done true op count st is runs = is runs
counted_done false op count st is runs = is runs

counted_end : (b last : Bool) (count : ℕ) (st : StrandState) → IsCounted count st →
    IsCounted count (if b then left_on last st else st)
counted_end true true count st is runs = absurd (true≢false (sym runs))
counted_end true false count st is runs = absurd (true≢false (sym runs))
counted_end false last count st is runs = is runs

counted_left : (count : ℕ) (st new : StrandState) → IsCounted count st → IsLeft st new → IsCounted count new
counted_left count st new is left =
    ⊎_elim (λ (same_strand : new ≡ st). subst (IsCounted count) (sym same_strand) is)
    (λ (over : (new ≡ new_strand) × (st.tied ≡ 0)).
    subst (IsCounted count) (sym over.0) (λ runs. absurd (true≢false (sym runs))))
    left

counts : (limits : Limits) (past : List Event) → IsLegal limits past → (n : Name) →
    IsCounted (dispatched_in n past) (strand_of (state_of limits past) n)
counts limits [] legal n = λ runs. ap (λ (st : StrandState). st.front) (first_strand limits n)
counts limits (event.Called op by request given ∷ past) legal n =
    let s = state_of limits past in
    let entry = entry_of (caller_lane s.ops by) request given in
    let on = lane_given request given in
    subst
    (λ caller. IsCounted
    (if is_on n on then one_more_first (entry_of caller request given) (dispatched_in n past) else dispatched_in n past)
    (strand_in s.names.strands (on_lane on (called_on entry op) s.strands) n))
    (sym (caller_known limits past legal.1 given by legal.0.allowed))
    (subst
    (IsCounted (if is_on n on then one_more_first entry (dispatched_in n past) else dispatched_in n past))
    (sym
    (strand-on_lane s.names.strands s.strands on (called_on entry op) n
    (known_given s request given (lengths limits past legal.1) legal.0.names)))
    (counted_call (is_on n on) entry op (dispatched_in n past) (strand_of s n) (counts limits past legal.1 n)))
counts limits (event.Done op code size ∷ past) legal n =
    let s = state_of limits past in
    let on = lane_at s.ops op in
    let it = completing s op code size legal.0 in
    let known = known_lane s op it.it it.is (strands_fit limits past legal.1 legal.0.going) in
    subst (IsCounted (dispatched_in n past)) (sym (strand-on_lane s.names.strands s.strands on (ready_on op) n known))
    (counted_done (is_on n on) op (dispatched_in n past) (strand_of s n) (counts limits past legal.1 n))
counts limits (event.Begun op spares ∷ past) legal n =
    let s = state_of limits past in
    let on = lane_at s.ops op in
    let it = found is_ready s.ops op legal.0.ready in
    let known = known_lane s op it.op it.is (strands_fit limits past legal.1 legal.0.going) in
    subst
    (λ l. IsCounted (if is_on n l then 0 else dispatched_in n past)
    (strand_of (state_of limits (event.Begun op spares ∷ past)) n))
    (sym (lane_known limits past legal.1 op it.op it.is))
    (subst (IsCounted (if is_on n on then 0 else dispatched_in n past))
    (sym
    (strand-with_life_of (life.Kept op) spares.strand s.names.strands (on_lane on (begun_on op) s.strands) n
    ∙ strand-on_lane s.names.strands s.strands on (begun_on op) n known))
    (counted_begin (is_on n on) op (dispatched_in n past) (strand_of s n) (counts limits past legal.1 n)))
counts limits (event.Ended op mark ∷ past) legal n =
    let s = state_of limits past in
    let on = lane_at s.ops op in
    let it = found is_running s.ops op legal.0.runs in
    let known = known_lane s op it.op it.is (strands_fit limits past legal.1 legal.0.going) in
    subst (IsCounted (dispatched_in n past))
    (sym (strand_left s.names.strands s.strands (spares_of (op_at s.ops op)).strand on (is_last_on s on) n known))
    (counted_end (is_on n on) (is_last_on s on) (dispatched_in n past) (strand_of s n) (counts limits past legal.1 n))
counts limits (event.Granted op spares ∷ past) legal n =
    let s = state_of limits past in
    subst (IsCounted (dispatched_in n past))
    (sym (strand-with_life_of (life.Kept op) spares.strand s.names.strands s.strands n)) (counts limits past legal.1 n)
counts limits (event.Changed by change ∷ past) legal n =
    let s = state_of limits past in
    counted_left (dispatched_in n past) (strand_of s n) _ (counts limits past legal.1 n) (changed_strand s change n)
counts limits (e ∷ past) legal n = counts limits past legal.1 n

-- what became ready is what began, and then what waits
abbrev IsOrder : List ℕ → List ℕ → StrandState → Type 0
IsOrder order begun st = order ≡ begun ++ st.queue

order_call : (b : Bool) (entry : Entry) (op count : ℕ) (order begun : List ℕ) (st : StrandState) →
    IsOrder order begun st → (b ≡ true → entry ≡ First → st.front ≡ count) →
    IsOrder (if b then ready_with entry (length begun + count) op order else order) begun
    (if b then called_on entry op st else st)
order_call true First op count order begun st is front =
    let at : length begun + count - length begun ≡ st.front = let f = front refl refl in omega (arith, f) in
    ap (λ xs. insert xs (length begun + count) op) is
    ∙ insert-append_right begun st.queue (length begun) (length begun + count) op refl (omega arith)
    ∙ ap (λ i. begun ++ insert st.queue i op) at
order_call true Last op count order begun st is front =
    ap (λ xs. xs ++ op ∷ []) is ∙ append_assoc begun st.queue (op ∷ [])
order_call true Later op count order begun st is front = is
order_call false entry op count order begun st is front = is

order_done : (b : Bool) (op : ℕ) (order begun : List ℕ) (st : StrandState) → IsOrder order begun st →
    IsOrder (if b then order ++ op ∷ [] else order) begun (if b then ready_on op st else st)
order_done true op order begun st is = ap (λ xs. xs ++ op ∷ []) is ∙ append_assoc begun st.queue (op ∷ [])
order_done false op order begun st is = is

first_of_queue : (queue : List ℕ) (op : ℕ) → slice_get queue 0 ≡ Some op → queue ≡ op ∷ drop 1 queue
first_of_queue [] op is = absurd (cc)
first_of_queue (x ∷ queue) op is = let it : x ≡ op = cc in ap (λ y. y ∷ queue) it

order_begin : (b : Bool) (op : ℕ) (order begun : List ℕ) (st : StrandState) → IsOrder order begun st →
    (b ≡ true → IsNextOf st op) → IsOrder order (if b then begun ++ op ∷ [] else begun) (if b then begun_on op st else st)
order_begin true op order begun st is next =
    is ∙ ap (λ q. begun ++ q) (first_of_queue st.queue op (next refl).first)
    ∙ sym (append_assoc begun (op ∷ []) (drop 1 st.queue))
order_begin false op order begun st is next = is

-- of a strand that is forgotten nothing waited
order_end : (b last : Bool) (order begun : List ℕ) (st : StrandState) → IsOrder order begun st →
    (b ≡ true → last ≡ true → st.queue ≡ []) → IsOrder order begun (if b then left_on last st else st)
order_end true true order begun st is none = is ∙ ap (λ q. begun ++ q) (none refl refl)
order_end true false order begun st is none = is
order_end false last order begun st is none = is

order_left : (order begun : List ℕ) (st new : StrandState) → IsOrder order begun st → (st.tied ≡ 0 → st.queue ≡ []) →
    IsLeft st new → IsOrder order begun new
order_left order begun st new is none left =
    ⊎_elim (λ (same_strand : new ≡ st). subst (IsOrder order begun) (sym same_strand) is)
    (λ (over : (new ≡ new_strand) × (st.tied ≡ 0)).
    subst (IsOrder order begun) (sym over.0) (is ∙ ap (λ q. begun ++ q) (none over.1)))
    left

empty_untied : (s : ContextState) (n : Name) → FitsStrand s n → (strand_of s n).tied ≡ 0 → (strand_of s n).queue ≡ []
empty_untied s n fits none =
    let waits = fits.waits_fits in let le = fits.tied_fits in let less = waits_tied n s.ops in
    nil_from_length (strand_of s n).queue (omega (arith, none, waits, le, less))

empty_last : (s : ContextState) (op mark : ℕ) (n : Name) → MayEnd s op mark → FitsStrand s n →
    IsKnown s.names.strands s.strands (lane_at s.ops op) → is_on n (lane_at s.ops op) ≡ true →
    is_last_on s (lane_at s.ops op) ≡ true → (strand_of s n).queue ≡ []
empty_last s op mark n may fits known on last =
    let few = last_one s (lane_at s.ops op) n known on last in
    let waits = fits.waits_fits in
    let le = fits.tied_fits in
    let one = ap one_if on in
    let tied = ended-leaves (tied_to n) op mark s may in
    let ready = ended-leaves (waits_on n) op mark s may in
    let less = waits_tied n (after_end op s).ops in
    nil_from_length (strand_of s n).queue (omega (arith, few, waits, le, one, tied, ready, less))

pub in_order : BeginInOrder
in_order limits [] legal n = sym (ap (λ (st : StrandState). st.queue) (first_strand limits n))
in_order limits (event.Called op by request given ∷ past) legal n =
    let s = state_of limits past in
    let entry = entry_of (caller_lane s.ops by) request given in
    let on = lane_given request given in
    let at = length (begun_in n past) + dispatched_in n past in
    subst
    (λ caller. IsOrder
    (if is_on n on then ready_with (entry_of caller request given) at op (ready_in n past) else ready_in n past)
    (begun_in n past) (strand_in s.names.strands (on_lane on (called_on entry op) s.strands) n))
    (sym (caller_known limits past legal.1 given by legal.0.allowed))
    (subst
    (IsOrder (if is_on n on then ready_with entry at op (ready_in n past) else ready_in n past) (begun_in n past))
    (sym
    (strand-on_lane s.names.strands s.strands on (called_on entry op) n
    (known_given s request given (lengths limits past legal.1) legal.0.names)))
    (order_call (is_on n on) entry op (dispatched_in n past) (ready_in n past) (begun_in n past) (strand_of s n)
    (in_order limits past legal.1 n)
    (λ is first.
    counts limits past legal.1 n
    (first_runs s by request given n (strands_fit limits past legal.1 legal.0.going n) legal.0.allowed is first))))
in_order limits (event.Done op code size ∷ past) legal n =
    let s = state_of limits past in
    let on = lane_at s.ops op in
    let it = completing s op code size legal.0 in
    let known = known_lane s op it.it it.is (strands_fit limits past legal.1 legal.0.going) in
    subst
    (λ l. IsOrder (if is_on n l then ready_in n past ++ op ∷ [] else ready_in n past) (begun_in n past)
    (strand_in s.names.strands (on_lane on (ready_on op) s.strands) n))
    (sym (lane_known limits past legal.1 op it.it it.is))
    (subst (IsOrder (if is_on n on then ready_in n past ++ op ∷ [] else ready_in n past) (begun_in n past))
    (sym (strand-on_lane s.names.strands s.strands on (ready_on op) n known))
    (order_done (is_on n on) op (ready_in n past) (begun_in n past) (strand_of s n) (in_order limits past legal.1 n)))
in_order limits (event.Begun op spares ∷ past) legal n =
    let s = state_of limits past in
    let on = lane_at s.ops op in
    let it = found is_ready s.ops op legal.0.ready in
    let known = known_lane s op it.op it.is (strands_fit limits past legal.1 legal.0.going) in
    subst
    (λ l. IsOrder (ready_in n past) (if is_on n l then begun_in n past ++ op ∷ [] else begun_in n past)
    (strand_of (state_of limits (event.Begun op spares ∷ past)) n))
    (sym (lane_known limits past legal.1 op it.op it.is))
    (subst (IsOrder (ready_in n past) (if is_on n on then begun_in n past ++ op ∷ [] else begun_in n past))
    (sym
    (strand-with_life_of (life.Kept op) spares.strand s.names.strands (on_lane on (begun_on op) s.strands) n
    ∙ strand-on_lane s.names.strands s.strands on (begun_on op) n known))
    (order_begin (is_on n on) op (ready_in n past) (begun_in n past) (strand_of s n) (in_order limits past legal.1 n)
    (λ is. next_of s.names.strands s.strands on n op known legal.0.next is)))
in_order limits (event.Ended op mark ∷ past) legal n =
    let s = state_of limits past in
    let on = lane_at s.ops op in
    let it = found is_running s.ops op legal.0.runs in
    let fits = strands_fit limits past legal.1 legal.0.going in
    let known = known_lane s op it.op it.is fits in
    subst (IsOrder (ready_in n past) (begun_in n past))
    (sym (strand_left s.names.strands s.strands (spares_of (op_at s.ops op)).strand on (is_last_on s on) n known))
    (order_end (is_on n on) (is_last_on s on) (ready_in n past) (begun_in n past) (strand_of s n)
    (in_order limits past legal.1 n) (λ is last. empty_last s op mark n legal.0 (fits n) known is last))
in_order limits (event.Granted op spares ∷ past) legal n =
    let s = state_of limits past in
    subst (IsOrder (ready_in n past) (begun_in n past))
    (sym (strand-with_life_of (life.Kept op) spares.strand s.names.strands s.strands n)) (in_order limits past legal.1 n)
in_order limits (event.Changed by change ∷ past) legal n =
    let s = state_of limits past in
    order_left (ready_in n past) (begun_in n past) (strand_of s n) _ (in_order limits past legal.1 n)
    (empty_untied s n (strands_fit limits past legal.1 legal.0.going n)) (changed_strand s change n)
in_order limits (e ∷ past) legal n = in_order limits past legal.1 n
