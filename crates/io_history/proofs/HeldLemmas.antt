-- What a keeper holds behind an event, and that nothing executes while a context is destroyed.
use Rattle.std.proofs.Common.{ap, refl, subst, sym, ◌∙◌, ◌⊎◌, inl, inr}
use Rattle.std.proofs.lemmas.Bool.{true≢false}
use Rattle.std.specs.Prelude.{◌≡◌, ℕ, ◌==◌, nat_lt, not, ◌&&◌, Bool, true, false, List, [], ◌∷◌, ◌++◌, Option, Some, None, if◌then◌else◌}
use Rattle.std.specs.List.{list_all}
use Rattle.io_rules.specs.declared.control.Control.{Control}
use Rattle.io_rules.specs.declared.control.Control.TheVariants as control
use Rattle.io_rules.specs.declared.event.Event.{Event}
use Rattle.io_rules.specs.declared.event.Event.TheVariants as event
use Rattle.io_rules.specs.declared.limits.Limits.{Limits}
use Rattle.io_rules.specs.declared.name.Kind.{Kind}
use Rattle.io_rules.specs.declared.op.Op.{Op}
use Rattle.io_rules.specs.declared.op.Phase.{Phase}
use Rattle.io_rules.specs.declared.op.Phase.TheVariants as phase
use Rattle.io_rules.specs.declared.request.Gone.{Gone}
use Rattle.io_rules.specs.declared.request.Request.{Request}
use Rattle.io_rules.specs.declared.spares.Spares.{Spares}
use Rattle.io_rules.specs.Calls.{accepted, after_call, caller_lane, new_op, target_if}
use Rattle.io_rules.specs.Cancelling.{cancelled}
use Rattle.io_rules.specs.Changes.{ops_changed, reached, spare_used}
use Rattle.io_rules.specs.Executions.{granted_more}
use Rattle.io_rules.specs.Legal.{IsLegal, MayHappen, after, state_of}
use Rattle.io_rules.specs.Operations.{target_of}
use Rattle.io_rules.specs.Ops.{is_at, is_ready, is_running, op_at, passes, without}
use Rattle.io_rules.specs.Room.{at_op, grant_of, granted_in, more_granted, place_given, place_given_by}
use Rattle.io_rules.specs.State.{ContextState}
use Rattle.io_rules.specs.Strands.{entry_of}
use Rattle.io_rules.proofs.TotalLemmas.{Found, found}
use Rattle.io_history.specs.declared.view.Held.{Held}
use Rattle.io_history.specs.Rule.{Executes, IsHeld}
use Rattle.io_history.specs.Steps.{IsBegin, IsFree, actor, held_after, held_op, held_still, holding}
use Rattle.io_history.proofs.AtLemmas.{at-push, come-changed, passed-changed, passed-changed_of}
use Rattle.io_history.proofs.StayLemmas.{Rests, cancelled_leaves, served_leaves, stays}

is_there : (ops : List Op) (n : ℕ) (is : Op) → op_at ops n ≡ Some is → is_running is.phase ≡ true →
    is_at is_running ops n ≡ true
is_there ops n is found runs = subst (λ (o : Option Op). passes is_running o ≡ true) (sym found) runs

-- what its own calls leave of what executes
give_if : (b : Bool) (p q : Phase) → is_running p ≡ true → is_running q ≡ true →
    is_running (if b then p else q) ≡ true
give_if true p q one other = one
give_if false p q one other = other

give_runs : (p : Phase) → is_running p ≡ true → is_running (place_given p) ≡ true
give_runs (phase.Running own grant spares) is = give_if (nat_lt 0 grant) _ _ refl refl
give_runs (phase.Pending moved cancelled) is = is
give_runs (phase.Settled code size) is = is
give_runs (phase.Ready code size) is = is

spare_runs : (kind : Kind) (p : Phase) → is_running p ≡ true → is_running (spare_used kind p) ≡ true
spare_runs kind (phase.Running own grant spares) is = refl
spare_runs kind (phase.Pending moved cancelled) is = is
spare_runs kind (phase.Settled code size) is = is
spare_runs kind (phase.Ready code size) is = is

more_runs : (more : ℕ) (spares : Spares) (p : Phase) → is_running p ≡ true →
    is_running (granted_more more spares p) ≡ true
more_runs more spares (phase.Running own grant had) is = refl
more_runs more spares (phase.Pending moved cancelled) is = is
more_runs more spares (phase.Settled code size) is = is
more_runs more spares (phase.Ready code size) is = is

called_runs : (s : ContextState) (op : ℕ) (by : Option ℕ) (request : Request) (gone : Gone) (n : ℕ) →
    is_at is_running s.ops n ≡ true → is_at is_running (after_call op by request gone s).ops n ≡ true
called_runs s op by request gone n runs =
    let entry = entry_of (caller_lane s.ops by) request gone in
    let given : is_at is_running (place_given_by by s.ops) n ≡ true =
    passed-changed_of is_running by n (λ it. place_given it.phase) s.ops (λ it is. give_runs it.phase is) runs in
    let it = found is_running (place_given_by by s.ops) n given in
    is_there (after_call op by request gone s).ops n it.op
    (served_leaves (accepted entry op by request gone s) (target_if gone (target_of request.kind)) n it.op it.passed
    (at-push n (place_given_by by s.ops) (new_op entry op request gone) it.op it.is)) it.passed

made_runs : (by : Option ℕ) (change : Control) (ops : List Op) (n : ℕ) → is_at is_running ops n ≡ true →
    is_at is_running (ops_changed by change ops) n ≡ true
made_runs by (control.Make kind name) ops n runs =
    passed-changed_of is_running by n (λ it. spare_used kind it.phase) ops (λ it is. spare_runs kind it.phase is) runs
made_runs by (control.Free kind name) ops n runs = runs
made_runs by (control.Expires timer at) ops n runs = runs
made_runs by (control.Cancel timer) ops n runs = runs
made_runs by (control.CancelOne timer) ops n runs = runs
made_runs by (control.Emit slot types) ops n runs = runs
made_runs by (control.CancelAll stream) ops n runs = runs
made_runs by (control.Shutdown stream) ops n runs = runs
made_runs by (control.NoDelay stream on) ops n runs = runs
made_runs by control.Hold ops n runs = runs
made_runs by control.Release ops n runs = runs
made_runs by control.Stop ops n runs = runs

changed_runs : (s : ContextState) (by : Option ℕ) (change : Control) (n : ℕ) → is_at is_running s.ops n ≡ true →
    is_at is_running (ops_changed by change (cancelled (reached s change) s).ops) n ≡ true
changed_runs s by change n runs =
    let it = found is_running s.ops n runs in
    made_runs by change (cancelled (reached s change) s).ops n
    (is_there (cancelled (reached s change) s).ops n it.op
    (cancelled_leaves s (reached s change) s.ops n it.op it.passed it.is) it.passed)

-- whatever executes goes on, till it returns
abbrev Goes : Event → Type 0
Goes (event.Ended op mark) = ⊥
Goes _ = Unit {0}

goes_on : (s : ContextState) (e : Event) (n : ℕ) → MayHappen s e → Rests s → Goes e → is_at is_running s.ops n ≡ true →
    is_at is_running (after e s).ops n ≡ true
goes_on s (event.Called op by request gone) n may rests goes runs = called_runs s op by request gone n runs
goes_on s (event.Changed by change) n may rests goes runs = changed_runs s by change n runs
goes_on s (event.Granted op spares) n may rests goes runs =
    passed-changed is_running op n (λ it. granted_more (more_granted s (at_op granted_in s.ops op)) spares it.phase) s.ops
    (λ it is. more_runs (more_granted s (at_op granted_in s.ops op)) spares it.phase is) runs
goes_on s (event.Ended op mark) n may rests goes runs = absurd goes
goes_on s e n may rests goes runs =
    let it = found is_running s.ops n runs in
    is_there (after e s).ops n it.op (stays s e n it.op may rests (λ (here : None ≡ Some n). absurd (cc)) it.is it.passed)
    it.passed

-- so what the keeper holds executes
held_here : (s : ContextState) (n : ℕ) (at : Option Op) → op_at s.ops n ≡ at → passes is_running at ≡ true →
    IsHeld s (holding n at)
held_here s n None is runs = absurd (true≢false (sym runs))
held_here s n (Some op) is runs = record { same = is; runs = runs }

still_held : (s : ContextState) (e : Event) (held : Option Held) → MayHappen s e → Rests s → Goes e → IsHeld s held →
    IsHeld (after e s) (held_still (after e s) held)
still_held s e None may rests goes is = tt
still_held s e (Some held) may rests goes is =
    held_here (after e s) held.op (op_at (after e s).ops held.op) refl
    (goes_on s e held.op may rests goes (is_there s.ops held.op held.is is.same is.runs))

pub after_held : (s : ContextState) (e : Event) (held : Option Held) → MayHappen s e → Rests s → IsHeld s held →
    IsHeld (after e s) (held_after (after e s) e held)
after_held s (event.Begun op spares) held may rests is =
    held_here (after (event.Begun op spares) s) op (op_at (after (event.Begun op spares) s).ops op) refl
    (come-changed is_running is_ready op (phase.Running true (grant_of s) spares) s.ops refl may.ready)
after_held s (event.Ended op mark) held may rests is = tt
after_held s e held may rests is = still_held s e held may rests tt is

-- what it holds behind an event it held before, or it has begun
abbrev pub begun_in : Event → Option ℕ
begun_in (event.Begun op spares) = Some op
begun_in _ = None

holding_is : (n : ℕ) (at : Option Op) (h : Held) → holding n at ≡ Some h → n ≡ h.op
holding_is n None h is = absurd (cc)
holding_is n (Some op) h is = cc

still_is : (s : ContextState) (held : Option Held) (h : Held) → held_still s held ≡ Some h → held_op held ≡ Some h.op
still_is s None h is = absurd (cc)
still_is s (Some held) h is = ap Some (holding_is held.op (op_at s.ops held.op) h is)

pub whence : (s : ContextState) (e : Event) (held : Option Held) (h : Held) → held_after s e held ≡ Some h →
    (held_op held ≡ Some h.op) ⊎ (begun_in e ≡ Some h.op)
whence s (event.Begun op spares) held h is = inr (ap Some (holding_is op (op_at s.ops op) h is))
whence s (event.Ended op mark) held h is = absurd (cc)
whence s e held h is = inl (still_is s held h is)

-- while a context is destroyed nothing executes, since nothing did when that began
drop_rests : (x : Op) (ops : List Op) (n : ℕ) (b : Bool) (all rest : Bool) → (all ≡ true → rest ≡ true) →
    (not (is_running x.phase) && all) ≡ true →
    list_all (λ op. not (is_running op.phase)) ops ≡ all → list_all (λ op. not (is_running op.phase)) (without n ops) ≡ rest →
    list_all (λ op. not (is_running op.phase)) (if b then ops else x ∷ without n ops) ≡ true
drop_rests x ops n true all rest later none here there = here ∙ second (is_running x.phase) all none
  where
    second : (a b : Bool) → (not a && b) ≡ true → b ≡ true
    second true b none = absurd (true≢false (sym none))
    second false b none = none
drop_rests x ops n false all rest later none here there =
    both (is_running x.phase) all (list_all (λ op. not (is_running op.phase)) (without n ops)) none
    (λ is. there ∙ later is)
  where
    both : (a b c : Bool) → (not a && b) ≡ true → (b ≡ true → c ≡ true) → (not a && c) ≡ true
    both true b c none keeps = absurd (true≢false (sym none))
    both false b c none keeps = keeps none

without_rests : (n : ℕ) (ops : List Op) → list_all (λ op. not (is_running op.phase)) ops ≡ true →
    list_all (λ op. not (is_running op.phase)) (without n ops) ≡ true
without_rests n [] none = none
without_rests n (x ∷ ops) none =
    drop_rests x ops n (x.number == n) (list_all (λ op. not (is_running op.phase)) ops)
    (list_all (λ op. not (is_running op.phase)) (without n ops)) (without_rests n ops) none refl refl

goes : {X : Type 0} {b : Bool} → b ≡ false → b ≡ true → X
goes going finishing = absurd (true≢false (sym finishing ∙ going))

pub legal_rests : (limits : Limits) (events : List Event) → IsLegal limits events → Rests (state_of limits events)
legal_rests limits [] legal finishing = absurd (true≢false (sym finishing))
legal_rests limits (event.Called op by request gone ∷ past) legal finishing = goes legal.0.going finishing
legal_rests limits (event.Changed by change ∷ past) legal finishing = goes legal.0.going finishing
legal_rests limits (event.Passed now ∷ past) legal finishing = goes legal.0.going finishing
legal_rests limits (event.Granted op spares ∷ past) legal finishing = goes legal.0.going finishing
legal_rests limits (event.Tried stream side reserved ∷ past) legal finishing = goes legal.0.going finishing
legal_rests limits (event.Back stream side gave ∷ past) legal finishing = goes legal.0.going finishing
legal_rests limits (event.Searched stream end ∷ past) legal finishing = goes legal.0.going finishing
legal_rests limits (event.Done op code size ∷ past) legal finishing = goes legal.0.going finishing
legal_rests limits (event.Begun op spares ∷ past) legal finishing = goes legal.0.going finishing
legal_rests limits (event.Ended op mark ∷ past) legal finishing = goes legal.0.going finishing
legal_rests limits (event.Returned ∷ past) legal finishing = goes legal.0.going finishing
legal_rests limits (event.Restarted ∷ past) legal finishing = goes legal.0.going finishing
legal_rests limits (event.Finishing ∷ past) legal finishing = legal.0.handlers
legal_rests limits (event.Dropped op mark ∷ past) legal finishing =
    without_rests op (state_of limits past).ops (legal_rests limits past legal.1 finishing)
