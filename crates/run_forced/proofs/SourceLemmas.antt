-- Where lines stand that come before later ones.
use Rattle.std.proofs.Common.{◌≡◌, ◌+◌, ℕ, ◌<◌, ◌≤◌, List, refl, ap, sym, subst, ◌∙◌, inl, inr, ⊎_elim, length, arith}
use Rattle.std.proofs.lemmas.Bool.{cases_Bool, eq-eqb, eqb-true}
use Rattle.std.specs.Prelude.{◌⊎◌, ◌==◌, ◌&&◌, Bool, true, false, if◌then◌else◌, Option, Some, None, IsTrue, nat_eq}
use Rattle.std.specs.HashMap.{get}
use Rattle.run_lines.specs.declared.code.Code.{Code}
use Rattle.run_lines.specs.declared.word.Word.{Word}
use Rattle.run_lines.specs.declared.line.Doing.{Doing}
use Rattle.run_lines.specs.declared.line.Doing.TheVariants as doing
use Rattle.run_lines.specs.declared.line.Line.{Line}
use Rattle.run_rules.specs.declared.frame.Frame.{Frame}
use Rattle.run_rules.specs.declared.frame.Frame.TheVariants.{Execution, Outside}
use Rattle.run_rules.specs.Against.{calls, completes}
use Rattle.run_rules.specs.Calls.{begins, is_posting}
use Rattle.run_orders.specs.Forced.{IsQueued, begun_by, posts}
use Rattle.run_orders.specs.Trees.{Spot, spot_at, writer}
use Rattle.run_orders.proofs.TreeLemmas.{some_same}
use Rattle.run_forced.specs.declared.event.Event.{Event}
use Rattle.run_forced.specs.declared.sources.Called.{Called}
use Rattle.run_forced.specs.declared.sources.Last.{Last}
use Rattle.run_forced.specs.declared.sources.Sources.{Sources}
use Rattle.run_forced.specs.Events.{IsHere}
use Rattle.run_forced.specs.Sources.{AreSources, Begins, Completes, IsAt, IsCallOf, IsLast, IsOf, IsQueuedAt, begin_at, behind_at, call_at, done_at, last_of}
use Rattle.run_forced.proofs.ChainLemmas.{when_false, when_true}
use Rattle.run_forced.proofs.EdgeLemmas.{shorter_at}

-- one entry more of a table, or one less
pub table_put : {V : Type 0} (P : ℕ → V → Type 0) (old new : ℕ → Option V) (key : ℕ) (value : V)
    → ((other : ℕ) → new other ≡ (if key == other then Some value else old other)) → ((k : ℕ) (v : V) → old k ≡ Some v → P k v) → P key value
    → (k : ℕ) (v : V) → new k ≡ Some v → P k v
table_put {V} P old new key value is before holds k v there =
    ⊎_elim
    (λ (here : (key == k) ≡ true).
    let same : value ≡ v = some_same value v (sym (is k ∙ when_true (key == k) (Some value) (old k) here) ∙ there) in
    subst (λ (x : V). P k x) same (subst (λ (n : ℕ). P n value) (eqb-true key k here) holds))
    (λ (elsewhere : (key == k) ≡ false). before k v (sym (is k ∙ when_false (key == k) (Some value) (old k) elsewhere) ∙ there))
    (cases_Bool (key == k))

pub table_less : {V : Type 0} (P : ℕ → V → Type 0) (old new : ℕ → Option V) (key : ℕ)
    → ((other : ℕ) → new other ≡ (if key == other then None else old other)) → ((k : ℕ) (v : V) → old k ≡ Some v → P k v)
    → (k : ℕ) (v : V) → new k ≡ Some v → P k v
table_less {V} P old new key is before k v there =
    ⊎_elim
    (λ (here : (key == k) ≡ true). let no : None ≡ Some v = sym (is k ∙ when_true (key == k) None (old k) here) ∙ there in cc)
    (λ (elsewhere : (key == k) ≡ false). before k v (sym (is k ∙ when_false (key == k) None (old k) elsewhere) ∙ there))
    (cases_Bool (key == k))

at_more : {Such : Spot → Type 0} (run : List Line) (lines place : ℕ) → IsAt run lines Such place → IsAt run (lines + 1) Such place
at_more run lines place at = record { spot = at.spot; there = at.there; earlier = more at.earlier; such = at.such }
  where
    more : {a b : ℕ} → a < b → a < b + 1
    more less = omega arith

-- one line more was seen
pub sources_more : (run : List Line) (lines : ℕ) (sources : Sources) → AreSources run lines sources → AreSources run (lines + 1) sources
sources_more run lines sources are = record {
  lasts = λ who last is. at_more run lines last.place (are.lasts who last is);
  calls = λ op called is. at_more run lines called.place (are.calls op called is);
  dones = λ op place is. at_more run lines place (are.dones op place is);
  begins = λ op place is. at_more run lines place (are.begins op place is);
  behind = are.behind;
}

-- what the frame posted last stands in its queue from here on
pub queued_here : (run : List Line) (place op : ℕ) (event : Event) (last : Last) → IsHere run place event
    → begun_by event.note.line.does ≡ None → IsAt run place (IsLast event.note.frame last.posted) last.place → last.posted ≡ Some op
    → IsQueuedAt run op place
queued_here run place op event last here plain at is =
    let posts_it : IsTrue (posts at.spot.line.does op) = at.such.1 op is in
    record {
      post = last.place;
      posted = at.spot;
      back = here.spot;
      posted_there = at.there;
      back_there = here.there;
      queued =
          record {
            before = record { posts_it = posts_it; earlier = shorter_at run last.place place at.spot here.spot at.there here.there at.earlier };
            one = record {
              same =
                  ⊎_elim (λ begun. absurd (no_begin at.spot.line.does begun.0 op begun.2 posts_it)) (λ wrote. wrote.0) at.such.0
                  ∙ here.known.note.writes;
              plain = posts_plain at.spot.line.does op posts_it;
              plain_too = subst (λ (d : Doing). begun_by d ≡ None) (ap (λ (l : Line). l.does) here.known.note.same) plain;
            };
          };
    }
  where
    posts_plain : (does : Doing) (op : ℕ) → IsTrue (posts does op) → begun_by does ≡ None
    posts_plain (doing.Begin number code size) op is = cc
    posts_plain _ op is = refl

    no_begin : (does : Doing) (op other : ℕ) → IsTrue (begins does op) → IsTrue (posts does other) → ⊥
    no_begin (doing.Begin number code size) op other begun is = cc
    no_begin (doing.Call number word context strand thing) op other begun is = cc
    no_begin _ op other begun is = cc

-- one entry more, table by table

pub with_execution : (run : List Line) (lines op : ℕ) (last : Last) (sources : Sources) (table : _)
    → ((other : ℕ) → get nat_eq table other ≡ (if op == other then Some last else get nat_eq sources.executions other))
    → AreSources run lines sources → IsAt run lines (IsLast (Execution op) last.posted) last.place
    → AreSources run lines (record sources { executions = table })
with_execution run lines op last sources table is are at = record {
  lasts = by_who;
  calls = are.calls;
  dones = are.dones;
  begins = are.begins;
  behind = are.behind;
}
  where
    by_who : (who : Frame) (one : Last) → last_of (record sources { executions = table }) who ≡ Some one
        → IsAt run lines (IsLast who one.posted) one.place
    by_who (Execution other) one there =
        table_put (λ (k : ℕ) (v : Last). IsAt run lines (IsLast (Execution k) v.posted) v.place) (λ k. get nat_eq sources.executions k)
        (λ k. get nat_eq table k) op last is (λ k v old. are.lasts (Execution k) v old) at other one there
    by_who (Outside thread) one there = are.lasts (Outside thread) one there

pub with_outside : (run : List Line) (lines thread : ℕ) (last : Last) (sources : Sources) (table : _)
    → ((other : ℕ) → get nat_eq table other ≡ (if thread == other then Some last else get nat_eq sources.outsides other))
    → AreSources run lines sources → IsAt run lines (IsLast (Outside thread) last.posted) last.place
    → AreSources run lines (record sources { outsides = table })
with_outside run lines thread last sources table is are at = record {
  lasts = by_who;
  calls = are.calls;
  dones = are.dones;
  begins = are.begins;
  behind = are.behind;
}
  where
    by_who : (who : Frame) (one : Last) → last_of (record sources { outsides = table }) who ≡ Some one
        → IsAt run lines (IsLast who one.posted) one.place
    by_who (Outside other) one there =
        table_put (λ (k : ℕ) (v : Last). IsAt run lines (IsLast (Outside k) v.posted) v.place) (λ k. get nat_eq sources.outsides k)
        (λ k. get nat_eq table k) thread last is (λ k v old. are.lasts (Outside k) v old) at other one there
    by_who (Execution op) one there = are.lasts (Execution op) one there

pub with_call : (run : List Line) (lines op : ℕ) (called : Called) (sources : Sources) (table : _)
    → ((other : ℕ) → get nat_eq table other ≡ (if op == other then Some called else get nat_eq sources.calls other))
    → AreSources run lines sources → IsAt run lines (IsCallOf op called) called.place
    → AreSources run lines (record sources { calls = table })
with_call run lines op called sources table is are at = record {
  lasts = same_lasts;
  calls = table_put (λ (k : ℕ) (v : Called). IsAt run lines (IsCallOf k v) v.place) (λ k. get nat_eq sources.calls k)
      (λ k. get nat_eq table k) op called is are.calls at;
  dones = are.dones;
  begins = are.begins;
  behind = are.behind;
}
  where
    same_lasts : (who : Frame) (one : Last) → last_of (record sources { calls = table }) who ≡ Some one
        → IsAt run lines (IsLast who one.posted) one.place
    same_lasts (Execution op) one there = are.lasts (Execution op) one there
    same_lasts (Outside thread) one there = are.lasts (Outside thread) one there

pub with_done : (run : List Line) (lines op place : ℕ) (sources : Sources) (table : _)
    → ((other : ℕ) → get nat_eq table other ≡ (if op == other then Some place else get nat_eq sources.dones other))
    → AreSources run lines sources → IsAt run lines (Completes op) place → AreSources run lines (record sources { dones = table })
with_done run lines op place sources table is are at = record {
  lasts = same_lasts;
  calls = are.calls;
  dones = table_put (λ (k v : ℕ). IsAt run lines (Completes k) v) (λ k. get nat_eq sources.dones k) (λ k. get nat_eq table k) op place is
      are.dones at;
  begins = are.begins;
  behind = are.behind;
}
  where
    same_lasts : (who : Frame) (one : Last) → last_of (record sources { dones = table }) who ≡ Some one
        → IsAt run lines (IsLast who one.posted) one.place
    same_lasts (Execution op) one there = are.lasts (Execution op) one there
    same_lasts (Outside thread) one there = are.lasts (Outside thread) one there

pub with_begin : (run : List Line) (lines op place : ℕ) (sources : Sources) (table : _)
    → ((other : ℕ) → get nat_eq table other ≡ (if op == other then Some place else get nat_eq sources.begins other))
    → AreSources run lines sources → IsAt run lines (Begins op) place → AreSources run lines (record sources { begins = table })
with_begin run lines op place sources table is are at = record {
  lasts = same_lasts;
  calls = are.calls;
  dones = are.dones;
  begins = table_put (λ (k v : ℕ). IsAt run lines (Begins k) v) (λ k. get nat_eq sources.begins k) (λ k. get nat_eq table k) op place is
      are.begins at;
  behind = are.behind;
}
  where
    same_lasts : (who : Frame) (one : Last) → last_of (record sources { begins = table }) who ≡ Some one
        → IsAt run lines (IsLast who one.posted) one.place
    same_lasts (Execution op) one there = are.lasts (Execution op) one there
    same_lasts (Outside thread) one there = are.lasts (Outside thread) one there

pub with_behind : (run : List Line) (lines op place : ℕ) (sources : Sources) (table : _)
    → ((other : ℕ) → get nat_eq table other ≡ (if op == other then Some place else get nat_eq sources.behind other))
    → AreSources run lines sources → IsQueuedAt run op place → AreSources run lines (record sources { behind = table })
with_behind run lines op place sources table is are at = record {
  lasts = same_lasts;
  calls = are.calls;
  dones = are.dones;
  begins = are.begins;
  behind = table_put (λ (k v : ℕ). IsQueuedAt run k v) (λ k. get nat_eq sources.behind k) (λ k. get nat_eq table k) op place is are.behind at;
}
  where
    same_lasts : (who : Frame) (one : Last) → last_of (record sources { behind = table }) who ≡ Some one
        → IsAt run lines (IsLast who one.posted) one.place
    same_lasts (Execution op) one there = are.lasts (Execution op) one there
    same_lasts (Outside thread) one there = are.lasts (Outside thread) one there

-- what is said of the next line

here_is : {Such : Spot → Type 0} (run : List Line) (place : ℕ) (event : Event) → (here : IsHere run place event) → Such here.spot
    → IsAt run (place + 1) Such place
here_is run place event here such = record { spot = here.spot; there = here.there; earlier = more place; such = such }
  where
    more : (n : ℕ) → n < n + 1
    more n = omega arith

does_here : (run : List Line) (place : ℕ) (event : Event) → (here : IsHere run place event) → event.note.line.does ≡ here.spot.line.does
does_here run place event here = ap (λ (l : Line). l.does) here.known.note.same

pub last_here : (run : List Line) (place : ℕ) (event : Event) (posted : Option ℕ) → IsHere run place event
    → begun_by event.note.line.does ≡ None → ((op : ℕ) → posted ≡ Some op → IsTrue (posts event.note.line.does op))
    → IsAt run (place + 1) (IsLast event.note.frame posted) place
last_here run place event posted here plain posts_it =
    here_is run place event here (
      inr (sym here.known.note.writes, subst (λ (d : Doing). begun_by d ≡ None) (does_here run place event here) plain),
      λ op is. subst (λ (d : Doing). IsTrue (posts d op)) (does_here run place event here) (posts_it op is),
    )

pub begins_of : (does : Doing) (op : ℕ) → begun_by does ≡ Some op → IsTrue (begins does op)
begins_of (doing.Begin number code size) op is = eq-eqb number op (some_same number op is)
begins_of _ op is = cc

pub begin_here : (run : List Line) (place op : ℕ) (event : Event) → IsHere run place event → begun_by event.note.line.does ≡ Some op
    → IsAt run (place + 1) (Begins op) place
begin_here run place op event here is =
    here_is run place event here
    (begins_of here.spot.line.does op (subst (λ (d : Doing). begun_by d ≡ Some op) (does_here run place event here) is))

pub begin_last : (run : List Line) (place op : ℕ) → IsAt run (place + 1) (Begins op) place
    → IsAt run (place + 1) (IsLast (Execution op) None) place
begin_last run place op at = record {
  spot = at.spot;
  there = at.there;
  earlier = at.earlier;
  such = (inl (op, refl, at.such), λ other none. absurd (no other none));
}
  where
    no : (other : ℕ) → None ≡ Some other → ⊥
    no other e = cc

pub call_here : (run : List Line) (place op : ℕ) (word : Word) (context : ℕ) (strand thing : Option ℕ) (event : Event) (posting : Bool)
    → IsHere run place event → event.note.line.does ≡ doing.Call op word context strand thing → posting ≡ is_posting word
    → IsAt run (place + 1) (IsCallOf op (record { place = place; posting = posting })) place
call_here run place op word context strand thing event posting here is posts_is =
    here_is run place event here (record {
      calls_it = subst (λ (d : Doing). IsTrue (calls d op)) does (eq-eqb op op refl);
      posts_it = λ yes. subst (λ (d : Doing). IsTrue (posts d op)) does (both (is_posting word) (op == op) (sym posts_is ∙ yes) (eq-eqb op op refl));
    })
  where
    does : doing.Call op word context strand thing ≡ here.spot.line.does
    does = sym is ∙ does_here run place event here

    both : (a b : Bool) → a ≡ true → b ≡ true → IsTrue (a && b)
    both true true is too = refl
    both true false is too = too
    both false b is too = is

pub done_here : (run : List Line) (place op : ℕ) (code : Code) (size : ℕ) (event : Event) → IsHere run place event
    → event.note.line.does ≡ doing.Done op code size → IsAt run (place + 1) (Completes op) place
done_here run place op code size event here is =
    here_is run place event here
    (subst (λ (d : Doing). IsTrue (completes d op)) (sym is ∙ does_here run place event here) (eq-eqb op op refl))

-- one entry less, table by table

pub without_execution : (run : List Line) (lines op : ℕ) (sources : Sources) (table : _)
    → ((other : ℕ) → get nat_eq table other ≡ (if op == other then None else get nat_eq sources.executions other))
    → AreSources run lines sources → AreSources run lines (record sources { executions = table })
without_execution run lines op sources table is are = record {
  lasts = by_who;
  calls = are.calls;
  dones = are.dones;
  begins = are.begins;
  behind = are.behind;
}
  where
    by_who : (who : Frame) (one : Last) → last_of (record sources { executions = table }) who ≡ Some one
        → IsAt run lines (IsLast who one.posted) one.place
    by_who (Execution other) one there =
        table_less (λ (k : ℕ) (v : Last). IsAt run lines (IsLast (Execution k) v.posted) v.place) (λ k. get nat_eq sources.executions k)
        (λ k. get nat_eq table k) op is (λ k v old. are.lasts (Execution k) v old) other one there
    by_who (Outside thread) one there = are.lasts (Outside thread) one there

pub without_call : (run : List Line) (lines op : ℕ) (sources : Sources) (table : _)
    → ((other : ℕ) → get nat_eq table other ≡ (if op == other then None else get nat_eq sources.calls other))
    → AreSources run lines sources → AreSources run lines (record sources { calls = table })
without_call run lines op sources table is are = record {
  lasts = same_lasts;
  calls = table_less (λ (k : ℕ) (v : Called). IsAt run lines (IsCallOf k v) v.place) (λ k. get nat_eq sources.calls k) (λ k. get nat_eq table k) op is
      are.calls;
  dones = are.dones;
  begins = are.begins;
  behind = are.behind;
}
  where
    same_lasts : (who : Frame) (one : Last) → last_of (record sources { calls = table }) who ≡ Some one
        → IsAt run lines (IsLast who one.posted) one.place
    same_lasts (Execution op) one there = are.lasts (Execution op) one there
    same_lasts (Outside thread) one there = are.lasts (Outside thread) one there

pub without_done : (run : List Line) (lines op : ℕ) (sources : Sources) (table : _)
    → ((other : ℕ) → get nat_eq table other ≡ (if op == other then None else get nat_eq sources.dones other))
    → AreSources run lines sources → AreSources run lines (record sources { dones = table })
without_done run lines op sources table is are = record {
  lasts = same_lasts;
  calls = are.calls;
  dones = table_less (λ (k : ℕ) (v : ℕ). IsAt run lines (Completes k) v) (λ k. get nat_eq sources.dones k) (λ k. get nat_eq table k) op is
      are.dones;
  begins = are.begins;
  behind = are.behind;
}
  where
    same_lasts : (who : Frame) (one : Last) → last_of (record sources { dones = table }) who ≡ Some one
        → IsAt run lines (IsLast who one.posted) one.place
    same_lasts (Execution op) one there = are.lasts (Execution op) one there
    same_lasts (Outside thread) one there = are.lasts (Outside thread) one there

pub without_begin : (run : List Line) (lines op : ℕ) (sources : Sources) (table : _)
    → ((other : ℕ) → get nat_eq table other ≡ (if op == other then None else get nat_eq sources.begins other))
    → AreSources run lines sources → AreSources run lines (record sources { begins = table })
without_begin run lines op sources table is are = record {
  lasts = same_lasts;
  calls = are.calls;
  dones = are.dones;
  begins = table_less (λ (k : ℕ) (v : ℕ). IsAt run lines (Begins k) v) (λ k. get nat_eq sources.begins k) (λ k. get nat_eq table k) op is
      are.begins;
  behind = are.behind;
}
  where
    same_lasts : (who : Frame) (one : Last) → last_of (record sources { begins = table }) who ≡ Some one
        → IsAt run lines (IsLast who one.posted) one.place
    same_lasts (Execution op) one there = are.lasts (Execution op) one there
    same_lasts (Outside thread) one there = are.lasts (Outside thread) one there

pub without_behind : (run : List Line) (lines op : ℕ) (sources : Sources) (table : _)
    → ((other : ℕ) → get nat_eq table other ≡ (if op == other then None else get nat_eq sources.behind other))
    → AreSources run lines sources → AreSources run lines (record sources { behind = table })
without_behind run lines op sources table is are = record {
  lasts = same_lasts;
  calls = are.calls;
  dones = are.dones;
  begins = are.begins;
  behind = table_less (λ (k : ℕ) (v : ℕ). IsQueuedAt run k v) (λ k. get nat_eq sources.behind k) (λ k. get nat_eq table k) op is
      are.behind;
}
  where
    same_lasts : (who : Frame) (one : Last) → last_of (record sources { behind = table }) who ≡ Some one
        → IsAt run lines (IsLast who one.posted) one.place
    same_lasts (Execution op) one there = are.lasts (Execution op) one there
    same_lasts (Outside thread) one there = are.lasts (Outside thread) one there
