-- What a handler is told of its begin: the begins of an execution have their entries in the log that it makes.
use Rattle.std.proofs.Common.{◌≡◌, ℕ, zero, suc, ◌+◌, ◌<◌, List, [], ◌∷◌, ◌++◌, Some, length, refl, sym, ap, subst, ◌∙◌}
use Rattle.std.specs.Prelude.{slice_get}
use mathlib.Core.Option.{some, some-injective, some-ne-none}
use lib.ListN.{get_elem?}
use Rattle.asio_types.specs.declared.code.Code.{Code}
use Rattle.asio_types.specs.declared.event.Event.{Event}
use Rattle.asio_types.specs.declared.event.Event.TheVariants as event
use Rattle.execution_laws.specs.Marks.{BeginsAt, IsToldMark}
use Rattle.session_script.specs.Script.{ScriptModel}
use Rattle.strand_core.specs.declared.posted.Posted.{Posted}
use Rattle.strand_core.specs.declared.posted.Posted.TheVariants as posted
use Rattle.execution_laws.specs.Shown.{EachBegin}
use Rattle.lane_logs.specs.declared.log.LogEntry.{LogEntry}
use Rattle.lane_logs.specs.Labels.{AreDrawn, IsDrawn, Labelled, begins, dispatches, ends, entries_in, none_drawn, one_drawn, posts, returns, stops_context}
use Rattle.lane_logs.specs.Logs.{LogsView, entries_of}
use Rattle.lane_logs.proofs.LabelLemmas.{entries-append}
use Rattle.history_merge.specs.Merging.{IsMerging}
use Rattle.history_merge.proofs.PartLemmas.{at_right}

-- the entry of a begin
abbrev pub begin_entry : ℕ → Code → ℕ → ℕ → LogEntry
begin_entry o given size begun = record { position = begun; event = event.Begin o given size }

-- it is among these entries
pub record HasBegin (entries : List LogEntry) (o : ℕ) (given : Code) (size begun : ℕ) : Type 0 where
  pub at : ℕ
  pub there : get_elem? entries at ≡ some (begin_entry o given size begun)

at_first : {A : Type 0} (xs ys : List A) (i : ℕ) (x : A) → get_elem? xs i ≡ some x → get_elem? (xs ++ ys) i ≡ some x
at_first [] ys i x at = absurd (some-ne-none x (sym at))
at_first (y ∷ xs) ys zero x at = at
at_first (y ∷ xs) ys (suc i) x at = at_first xs ys i x at

of_elem : {A : Type 0} (xs ys : List A) (i : ℕ) (x : A) → get_elem? xs i ≡ some x → slice_get (xs ++ ys) i ≡ Some x
of_elem [] ys i x at = absurd (some-ne-none x (sym at))
of_elem (y ∷ xs) ys zero x at = ap Some (some-injective y x at)
of_elem (y ∷ xs) ys (suc i) x at = of_elem xs ys i x at

pub begin_behind : (xs ys : List Labelled) (o : ℕ) (given : Code) (size begun : ℕ) → HasBegin (entries_in xs) o given size begun →
    HasBegin (entries_in (xs ++ ys)) o given size begun
begin_behind xs ys o given size begun has = record {
  at = has.at;
  there =
      subst (λ es. get_elem? es has.at ≡ some (begin_entry o given size begun)) (sym (entries-append xs ys))
      (at_first (entries_in xs) (entries_in ys) has.at (begin_entry o given size begun) has.there);
}

pub begin_before : (xs ys : List Labelled) (o : ℕ) (given : Code) (size begun : ℕ) → HasBegin (entries_in ys) o given size begun →
    HasBegin (entries_in (xs ++ ys)) o given size begun
begin_before xs ys o given size begun has = record {
  at = length (entries_in xs) + has.at;
  there =
      subst (λ es. get_elem? es (length (entries_in xs) + has.at) ≡ some (begin_entry o given size begun))
      (sym (entries-append xs ys))
      (at_right (entries_in xs) (entries_in ys) (length (entries_in xs) + has.at) has.at refl ∙ has.there);
}

-- a mark of a handler that was told of such a begin is one where there are more
pub told_so : (run : ℕ → Code → ℕ → ℕ → ℕ) (One Other : ℕ → Code → ℕ → ℕ → Type 0) →
    ((o : ℕ) (given : Code) (size begun : ℕ) → One o given size begun → Other o given size begun) → (o mark : ℕ) →
    IsToldMark run One o mark → IsToldMark run Other o mark
told_so run One Other so o mark told = record {
  code = told.code;
  size = told.size;
  begun = told.begun;
  begins = so o told.code told.size told.begun told.begins;
  is = told.is;
}

module _ (One Other : ℕ → Code → ℕ → ℕ → Type 0)
    (so : (o : ℕ) (given : Code) (size begun : ℕ) → One o given size begun → Other o given size begun) where
  begins_so : (calls : List Posted) → EachBegin One calls → EachBegin Other calls
  begins_so [] each = tt
  begins_so (posted.Begin op given size begun ∷ calls) each =
      (so op given size begun each.0, begins_so calls each.1)
  begins_so (posted.Call act ∷ calls) each = begins_so calls each
  begins_so (posted.Back act ∷ calls) each = begins_so calls each
  begins_so (posted.End op ran ∷ calls) each = begins_so calls each

begins-append : (One : ℕ → Code → ℕ → ℕ → Type 0) (xs ys : List Posted) → EachBegin One xs → EachBegin One ys →
    EachBegin One (xs ++ ys)
begins-append One [] ys first rest = rest
begins-append One (posted.Begin op given size begun ∷ xs) ys first rest =
    (first.0, begins-append One xs ys first.1 rest)
begins-append One (posted.Call act ∷ xs) ys first rest = begins-append One xs ys first rest
begins-append One (posted.Back act ∷ xs) ys first rest = begins-append One xs ys first rest
begins-append One (posted.End op ran ∷ xs) ys first rest = begins-append One xs ys first rest

module _ (script : ScriptModel) where
  call_begins : {made : Posted} {labels : List Labelled} → IsDrawn script made labels →
      EachBegin (HasBegin (entries_in labels)) (made ∷ [])
  call_begins begins = (record { at = 0; there = refl }, tt)
  call_begins (posts isnt outside) = tt
  call_begins (dispatches isnt within) = tt
  call_begins (stops_context is) = tt
  call_begins returns = tt
  call_begins ends = tt

  -- each begin of calls that were drawn has its entry
  pub drawn_begins : {calls : List Posted} {labels : List Labelled} → AreDrawn script calls labels →
      EachBegin (HasBegin (entries_in labels)) calls
  drawn_begins none_drawn = tt
  drawn_begins (one_drawn {calls} {call = one} {labels} {made} before now) =
      begins-append (HasBegin (entries_in (labels ++ made))) calls (one ∷ [])
      (begins_so (HasBegin (entries_in labels)) (HasBegin (entries_in (labels ++ made))) (begin_behind labels made) calls
      (drawn_begins before))
      (begins_so (HasBegin (entries_in made)) (HasBegin (entries_in (labels ++ made))) (begin_before labels made)
      (one ∷ []) (call_begins now))

-- what is an entry of a log stands in the merged history
pub begins_merged : (logs : LogsView) (events : List Event) (merging : IsMerging logs events)
    (labels : ℕ → List Labelled) → ((n : ℕ) → entries_in (labels n) ≡ entries_of logs n) → (n o : ℕ) (given : Code)
    (size begun : ℕ) → HasBegin (entries_in (labels n)) o given size begun → BeginsAt events o given size begun
begins_merged logs events merging labels entries n o given size begun has =
    subst (λ es. slice_get es begun ≡ Some (event.Begin o given size)) (sym merging.is)
    (of_elem merging.drawn logs.drops begun (event.Begin o given size)
    (merging.ordered.each (begin_entry o given size begun) (record {
      seat = n;
      at = has.at;
      there =
          subst (λ es. get_elem? es has.at ≡ some (begin_entry o given size begun)) (entries n) has.there;
    })))
