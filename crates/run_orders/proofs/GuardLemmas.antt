-- Guarded claims are held by one thread.
use Rattle.std.proofs.Common.{◌≡◌, ℕ, List, refl, ap, sym, subst, ◌∙◌, ⊎_elim}
use Rattle.std.specs.Prelude.{Some, true}
use Rattle.std.specs.Option.{option_map}
use Rattle.run_lines.specs.declared.line.Doing.TheVariants as doing
use Rattle.run_lines.specs.declared.line.Line.{Line}
use Rattle.run_rules.specs.declared.frame.Frame.TheVariants.{Outside}
use Rattle.run_rules.specs.declared.taking.Resource.TheVariants.{Lock}
use Rattle.run_rules.specs.Calls.{Calling, begins, context_of}
use Rattle.run_rules.specs.Legal.{IsLegalSoFar}
use Rattle.run_rules.specs.Starting.{Holds}
use Rattle.run_rules.specs.Takings.{has_taken}
use Rattle.run_orders.specs.declared.guard.Guard.{Guard}
use Rattle.run_orders.specs.declared.guard.Guard.TheVariants as guard
use Rattle.run_orders.specs.declared.order.Step.{Step}
use Rattle.run_orders.specs.Guards.{Guards, GuardsAll, OnStrand, OnThread, OnWorker, UnderLock}
use Rattle.run_orders.specs.Holding.{HoldsBoth, IsHeld}
use Rattle.run_orders.specs.Laws.{NeverOverlaps}
use Rattle.run_orders.specs.Orders.{IsOrderOf, IsWorker, lines_of, plain}
use Rattle.run_orders.specs.Trees.{Spot, spot_at, writer}
use Rattle.run_orders.proofs.TreeLemmas.{found, some_same}
use Rattle.run_orders.proofs.StandLemmas.{stood}
use Rattle.run_orders.proofs.RunningLemmas.{IsClaim, claim_begun, running}
use Rattle.run_orders.proofs.StrandLemmas.{holders_agree_but}
use Rattle.run_orders.proofs.CalledLemmas.{holds_strand, order_strand, same_call}
use Rattle.run_orders.proofs.LockLemmas.{lockers_agree}
use Rattle.run_orders.proofs.UnderLockLemmas.{lock_held, outside_thread, plain_at}

-- the claim that is held is this one
held_is : (run : List Line) (steps : List Step) (place thread thing : ℕ) (claim : Spot) → (held : IsHeld run steps place thread thing)
    → spot_at run place ≡ Some claim → held.claim ≡ claim
held_is run steps place thread thing claim held there = some_same held.claim claim (sym held.there ∙ there)

on_strand : (run : List Line) → IsLegalSoFar plain run → (apart : List ℕ) (steps : List Step) → IsOrderOf run apart steps
    → (strand thing place thread : ℕ) → (held : IsHeld run steps place thread thing) → OnStrand strand held.claim
    → Holds (lines_of steps) thread strand
on_strand run legal apart steps order strand thing place thread held on =
    let is : IsClaim run held.claim thing on.op = record {
      end = (found run place held.claim held.there).end;
      claims = held.claims;
      writes = on.claims;
    } in
    let runs = running run legal apart steps order.each order.legal held.claim thing on.op is held.step held.put held.kept in
    subst (λ (t : ℕ). Holds (lines_of steps) t strand) held.on
    (holds_strand (lines_of steps) held.step.line.thread strand runs.executes.number runs.within
    (order_strand run legal apart steps order.each order.legal held.claim thing on.op strand is on.on held.step.line.thread runs.executes))

under_lock : (run : List Line) → IsLegalSoFar plain run → (apart : List ℕ) (steps : List Step) → IsOrderOf run apart steps
    → (lock thing place thread : ℕ) → (held : IsHeld run steps place thread thing) → UnderLock run lock thing held.claim
    → has_taken (lines_of steps) thread (Lock lock) ≡ true
under_lock run legal apart steps order lock thing place thread held under =
    subst (λ (t : ℕ). has_taken (lines_of steps) t (Lock lock) ≡ true) held.on
    (lock_held run legal apart steps order.each held.claim thing lock place held.there held.claims under held.step held.put held.kept)

on_worker : (run : List Line) → IsLegalSoFar plain run → (apart : List ℕ) (steps : List Step) → IsOrderOf run apart steps
    → (worker thing place thread : ℕ) → (held : IsHeld run steps place thread thing) → OnWorker run worker held.claim → thread ≡ worker
on_worker run legal apart steps order worker thing place thread held on =
    let is : IsClaim run held.claim thing on.op = record {
      end = (found run place held.claim held.there).end;
      claims = held.claims;
      writes = on.claims;
    } in
    let runs = running run legal apart steps order.each order.legal held.claim thing on.op is held.step held.put held.kept in
    let ex = runs.executes in
    let began = claim_begun run legal held.claim thing on.op is in
    let was = stood run apart steps order.each ex.begin began.spot ex.put.stands ex.put.there in
    let context : context_of began.spot.past on.op ≡ Some on.context =
    ap (λ (o : _). option_map (λ (c : Calling). c.context) o) (sym (same_call run legal held.claim thing on.op is)) ∙ on.of_context in
    let works : IsWorker run ex.begin.line.thread on.context =
    was.may.worker on.op on.context (ap (λ (s : Spot). begins s.line.does on.op) was.same ∙ began.begun)
    (ap (λ (s : Spot). context_of s.past on.op) was.same ∙ context) in
    sym held.on ∙ sym ex.on ∙ on.alone ex.begin.line.thread works

on_thread : (run : List Line) → IsLegalSoFar plain run → (apart : List ℕ) (steps : List Step) → IsOrderOf run apart steps
    → (worker thing place thread : ℕ) → (held : IsHeld run steps place thread thing) → OnThread run worker held.claim → thread ≡ worker
on_thread run legal apart steps order worker thing place thread held on =
    ⊎_elim
    (λ (outside : writer held.claim ≡ Outside worker).
    let was = stood run apart steps order.each held.step held.claim held.put.stands held.put.there in
    sym held.on
    ∙ outside_thread run apart was.before held.step was.may held.claim was.same worker outside
    (plain_at held.claim (doing.Claim thing) held.claims (λ ops. refl)))
    (λ works. on_worker run legal apart steps order worker thing place thread held works) on

both_apart : (run : List Line) → IsLegalSoFar plain run → (apart : List ℕ) (steps : List Step) → IsOrderOf run apart steps
    → (how : Guard) (thing place other first second : ℕ) → (held : IsHeld run steps place first thing)
    → (held_too : IsHeld run steps other second thing) → Guards run how thing held.claim → Guards run how thing held_too.claim
    → first ≡ second
both_apart run legal apart steps order (guard.Strand strand) thing place other first second held held_too one two =
    holders_agree_but (lines_of steps) order.legal strand first second
    (on_strand run legal apart steps order strand thing place first held one)
    (on_strand run legal apart steps order strand thing other second held_too two)
both_apart run legal apart steps order (guard.Lock lock) thing place other first second held held_too one two =
    lockers_agree (lines_of steps) order.legal lock first second
    (under_lock run legal apart steps order lock thing place first held one)
    (under_lock run legal apart steps order lock thing other second held_too two)
both_apart run legal apart steps order (guard.Thread thread) thing place other first second held held_too one two =
    on_thread run legal apart steps order thread thing place first held one
    ∙ sym (on_thread run legal apart steps order thread thing other second held_too two)

pub guarded_apart : (run : List Line) (apart : List ℕ) (steps : List Step) (how : Guard) (thing place other : ℕ) (one two : Spot)
    → IsLegalSoFar plain run → IsOrderOf run apart steps → spot_at run place ≡ Some one → spot_at run other ≡ Some two
    → Guards run how thing one → Guards run how thing two → HoldsBoth run steps thing place other → ⊥
guarded_apart run apart steps how thing place other one two legal order there too first second holds =
    holds.apart
    (both_apart run legal apart steps order how thing place other holds.first holds.second holds.held holds.held_too
    (subst (λ (s : Spot). Guards run how thing s) (sym (held_is run steps place holds.first thing one holds.held there)) first)
    (subst (λ (s : Spot). Guards run how thing s) (sym (held_is run steps other holds.second thing two holds.held_too too)) second))

pub guards_suffice : (run : List Line) (how : Guard) (thing : ℕ) → IsLegalSoFar plain run → GuardsAll run how thing → NeverOverlaps run thing
guards_suffice run how thing legal all apart steps place other order holds =
    let x = holds.held in
    let y = holds.held_too in
    guarded_apart run apart steps how thing place other x.claim y.claim legal order x.there y.there
    (all place x.claim x.there x.claims) (all other y.claim y.there y.claims) holds
