-- Where strands have to be busy, and what may be set apart.
use Rattle.std.proofs.Common.{◌≡◌, ◌+◌, ℕ, List, ◌<◌, ◌≤◌, refl, ap, sym, subst, ◌∙◌, inl, inr, ⊎_elim, length, take, get_or}
use Rattle.std.proofs.lemmas.List.{take_all}
use Rattle.std.proofs.lemmas.List.Elements.{All-contains, All-get_or, All-more, All-weaker, Contains-get_or}
use Rattle.std.specs.List.{All, Contains}
use Rattle.std.specs.Prelude.{Bool, true, false, ◌↔◌, IsSome, IsTrue, Option, Some, None}
use Rattle.std.specs.Option.{option_map}
use Rattle.run_lines.specs.declared.line.Line.{Line}
use Rattle.run_rules.specs.Against.{calls}
use Rattle.run_rules.specs.Calls.{Calling, Completion, Waits, call_of, done_of, is_posting, strand_of}
use Rattle.run_rules.specs.Entries.{Entry, entry_by, entry_from, entry_of}
use Rattle.run_rules.specs.Starting.{Holds}
use Rattle.run_check.specs.After.{waiter_from, waiter_of}
use Rattle.run_check.specs.declared.waiting.Waiter.{Waiter}
use Rattle.run_check.proofs.RuleLemmas.{says_strand, says_waits, waiter_says}
use Rattle.run_orders.specs.declared.order.Step.{Step}
use Rattle.run_orders.specs.Apart.{StandsAlone}
use Rattle.run_orders.specs.Orders.{IsBusy, MayStand, lines_of}
use Rattle.run_orders.specs.Trees.{Spot}
use Rattle.run_orders.proofs.TreeLemmas.{some_same}
use Rattle.run_witness.specs.Executions.{is_lent}
use Rattle.run_witness.specs.Facts.{AreFacts, CallsIdle}
use Rattle.run_witness.specs.Judging.{HasEntry, SomeHasEntry}
use Rattle.run_witness.specs.Placing.{FindsBusy}
use Rattle.run_witness.specs.declared.facts.Facts.{Facts}
use Rattle.run_witness.proofs.JudgingLemmas.{refuted}
use Rattle.run_witness.proofs.PlacingLemmas.{true_false}

-- where strands are busy

pub busy_here : (apart : List ℕ) (run : List Line) (before : List Step) (step : Step) (strand : ℕ) (found_strand : Option ℕ)
    → ((on : ℕ) → (found_strand ≡ Some on) ↔ CallsIdle run apart step.place on) → found_strand ≡ Some strand → (good : Bool)
    → IsTrue good ↔ IsBusy (lines_of before) strand → IsTrue good ↔ FindsBusy run apart before step
busy_here apart run before step strand found_strand exact is good busy = (
  λ fine spot op on there called among idle.
      let same : strand ≡ on = some_same strand on (sym is ∙ (exact on).1
      (record { spot = spot; op = op; there = there; calls_it = called; among = among; idle = idle })) in
      subst (IsBusy (lines_of before)) same (busy.0 fine),
  λ all. let calls = (exact strand).0 is in
      busy.1 (all calls.spot calls.op strand calls.there calls.calls_it calls.among calls.idle),
)

pub busy_none : (apart : List ℕ) (run : List Line) (before : List Step) (step : Step) (found_strand : Option ℕ)
    → ((on : ℕ) → (found_strand ≡ Some on) ↔ CallsIdle run apart step.place on) → found_strand ≡ None
    → IsTrue true ↔ FindsBusy run apart before step
busy_none apart run before step found_strand exact is = (
  λ fine spot op on there called among idle.
      let e : None ≡ Some on = sym is ∙ (exact on).1
      (record { spot = spot; op = op; there = there; calls_it = called; among = among; idle = idle }) in cc,
  λ all. refl,
)

pub stands_busy : (apart : List ℕ) (run : List Line) (before : List Step) (step : Step) → MayStand run apart before step
    → FindsBusy run apart before step
stands_busy apart run before step may spot op strand there called among idle =
    let same : spot ≡ may.spot = some_same spot may.spot (sym there ∙ may.there) in
    may.busy op strand (subst (λ (s : Spot). IsTrue (calls s.line.does op)) same called) among idle

-- what waits for a strand

some_map : (o : Option Entry) → IsSome o → IsSome (option_map (λ (e : Entry). e.place) o)
some_map None is = is
some_map (Some e) is = refl

map_some : (o : Option Entry) → IsSome (option_map (λ (e : Entry). e.place) o) → IsSome o
map_some None is = is
map_some (Some e) is = refl

pub entry_here : (past : List Line) (op strand : ℕ) (waiter : Waiter) → waiter_of past op ≡ Some waiter → (good : Bool)
    → IsTrue good ↔ ((waiter.strand ≡ Some strand) × IsSome waiter.entry) → IsTrue good ↔ HasEntry past strand op
entry_here past op strand waiter known good exact =
    let says = waiter_says past op waiter known in
    let on : strand_of past op ≡ waiter.strand = says_strand past op waiter says in
    let entry : option_map (λ (e : Entry). e.place) (entry_of past op) ≡ waiter.entry =
    ap (λ (o : Option Calling). option_map (λ (e : Entry). e.place) (entry_from o (done_of past op))) says.called
    ∙ ap (λ (w : Waiter). w.entry) says.is in (
      λ fine. let both = exact.0 fine in
          record {
            waits = says_waits past op waiter says;
            on = on ∙ both.0;
            entered = map_some (entry_of past op) (subst (λ (o : Option ℕ). IsSome o) (sym entry) both.1);
          },
      λ has. exact.1 (sym on ∙ has.on, subst (λ (o : Option ℕ). IsSome o) entry (some_map (entry_of past op) has.entered)),
    )

pub entry_none : (past : List Line) (op strand : ℕ) → waiter_of past op ≡ None → IsTrue false ↔ HasEntry past strand op
entry_none past op strand none = refuted (λ has. by_call has.waits (call_of past op) refl)
  where
    by_call : Waits past op → (o : Option Calling) → call_of past op ≡ o → false ≡ true
    by_call waits None called = subst (λ (o : Option Calling). IsSome o) called waits.called
    by_call waits (Some call) called =
        let known : waiter_of past op ≡ Some (waiter_from (done_of past op) call) =
        rw (waits.not_begun, waits.not_dropped) (ap (option_map (waiter_from (done_of past op))) called) in
        let e : None ≡ Some (waiter_from (done_of past op) call) = sym none ∙ known in cc

pub one_has_entry : (past : List Line) (strand : ℕ) (ops : List ℕ) (at : ℕ) → at < length ops
    → HasEntry past strand (get_or ops at 0) → SomeHasEntry past strand ops
one_has_entry past strand ops at within has = record {
  op = get_or ops at 0;
  among = Contains-get_or ops at 0 within;
  has = has;
}

pub no_entry_more : (past : List Line) (strand : ℕ) (ops : List ℕ) (at : ℕ) → at < length ops
    → All (λ one. ¬ (HasEntry past strand one)) (take at ops) → (good : Bool)
    → IsTrue good ↔ HasEntry past strand (get_or ops at 0)
    → good ≡ false
    → All (λ one. ¬ (HasEntry past strand one)) (take (at + 1) ops)
no_entry_more past strand ops at within before good exact bad =
    All-more (λ (one : ℕ). ¬ (HasEntry past strand one)) ops at 0 within before (λ has. true_false (sym (exact.1 has)
    ∙ bad))

pub none_has_entry : (past : List Line) (strand : ℕ) (ops : List ℕ) (at : ℕ) → length ops ≤ at
    → All (λ op. ¬ (HasEntry past strand op)) (take at ops) → IsTrue false ↔ SomeHasEntry past strand ops
none_has_entry past strand ops at past_all none =
    refuted (λ some. absurd (All-contains (λ (op : ℕ). ¬ (HasEntry past strand op)) ops some.op
    (subst (All (λ (op : ℕ). ¬ (HasEntry past strand op))) (take_all at ops past_all) none) some.among some.has))

pub busy_held : (past : List Line) (thread strand : ℕ) → Holds past thread strand → IsTrue true ↔ IsBusy past strand
busy_held past thread strand holds = (λ fine. inl (thread, holds), λ busy. refl)

pub busy_unheld : (past : List Line) (strand : ℕ) (called : List ℕ) → ((thread : ℕ) → Holds past thread strand → ⊥)
    → ((op : ℕ) → IsSome (call_of past op) → Contains called op) → (good : Bool)
    → IsTrue good ↔ SomeHasEntry past strand called
    → IsTrue good ↔ IsBusy past strand
busy_unheld past strand called unheld all good exact = (
  λ fine. let some = exact.0 fine in inr (some.op, some.has.waits, some.has.on, some.has.entered),
  λ busy. ⊎_elim (λ held. absurd (unheld held.0 held.1))
      (λ waits. exact.1 (record {
        op = waits.0;
        among = all waits.0 waits.1.called;
        has = record { waits = waits.1; on = waits.2; entered = waits.3 };
      })) busy,
)

-- what may be set apart

pub lent_more : (facts : Facts) (ops : List ℕ) (at : ℕ) → at < length ops
    → All (λ one. is_lent facts.executions one ≡ true) (take at ops) → is_lent facts.executions (get_or ops at 0) ≡ true
    → All (λ one. is_lent facts.executions one ≡ true) (take (at + 1) ops)
lent_more facts ops at within before here = All-more (λ
    (one : ℕ). is_lent facts.executions one ≡ true) ops at 0 within before here

pub all_lent : (asked : List ℕ) (thing : ℕ) (run : List Line) (facts : Facts) (ops : List ℕ) (at : ℕ)
    → AreFacts asked thing run facts
    → length ops ≤ at → All (λ one. is_lent facts.executions one ≡ true) (take at ops)
    → IsTrue true ↔ All (StandsAlone run) ops
all_lent asked thing run facts ops at are past_all lent = (
  λ fine. All-weaker (λ (one : ℕ). is_lent facts.executions one ≡ true) (StandsAlone run) (λ one is.
      (are.lent one).0 is) ops
      (subst (All (λ (one : ℕ). is_lent facts.executions one ≡ true)) (take_all at ops past_all) lent),
  λ all. refl,
)

pub one_not_lent : (asked : List ℕ) (thing : ℕ) (run : List Line) (facts : Facts) (ops : List ℕ) (at : ℕ)
    → AreFacts asked thing run facts
    → at < length ops → is_lent facts.executions (get_or ops at 0) ≡ false → IsTrue false ↔ All (StandsAlone run) ops
one_not_lent asked thing run facts ops at are within bad =
    refuted (λ all. sym bad ∙ (are.lent (get_or ops at 0)).1 (All-get_or (StandsAlone run) ops at 0 within all))
