-- What a strand knows of its operations: how many it has, which executes, and what is ready.
use Rattle.std.proofs.Common.{arith, ap, refl, subst, sym, ◌∙◌, length-append}
use Rattle.std.proofs.lemmas.List.{length-drop, length-take}
use Rattle.std.specs.Prelude.{◌≡◌, ◌≤◌, ℕ, ◌+◌, Bool, true, false, List, [], ◌∷◌, Option, Some, None, drop, insert, length, slice_get, take, if◌then◌else◌}
use Rattle.std.specs.Option.{is_some}
use Rattle.io_rules.specs.declared.name.Lane.{Lane}
use Rattle.io_rules.specs.declared.name.Name.{Name}
use Rattle.io_rules.specs.declared.request.Gone.{Gone}
use Rattle.io_rules.specs.declared.request.Gone.TheVariants as gone
use Rattle.io_rules.specs.Calls.{first_phase}
use Rattle.io_rules.specs.InOrder.{strand_of}
use Rattle.io_rules.specs.Names.{is_on}
use Rattle.io_rules.specs.Room.{one_if}
use Rattle.io_rules.specs.State.{ContextState, StrandState, new_strand}
use Rattle.io_rules.specs.Strands.{Entry, First, Last, Later, IsNextOf, begun_on, called_on, ended_on, ready_on}
use Rattle.io_rules.proofs.OnceLemmas.{if_executing}
use Rattle.io_rules.proofs.StageLemmas.{Stage, Idle, Prepared, Executing, stage_of, staged}
use Rattle.io_rules.proofs.TotalLemmas.{total}

abbrev pub if_prepared : Stage → Bool → ℕ
if_prepared Idle b = 0
if_prepared Prepared b = one_if b
if_prepared Executing b = 0

abbrev pub tied_to : Name → ℕ → Lane → Stage → ℕ
tied_to n k on stage = one_if (is_on n on)

abbrev pub runs_on : Name → ℕ → Lane → Stage → ℕ
runs_on n k on stage = if_executing stage (is_on n on)

abbrev pub waits_on : Name → ℕ → Lane → Stage → ℕ
waits_on n k on stage = if_prepared stage (is_on n on)

-- it has at least so many operations, and of these so many that execute and that are ready
pub record FitsWith (tied runs waits : ℕ) (st : StrandState) : Type 0 where
  pub tied_fits : tied ≤ st.tied
  pub runs_fits : runs ≡ one_if (is_some st.runs)
  pub waits_fits : waits ≡ length st.queue

abbrev pub FitsStrand : ContextState → Name → Type 0
FitsStrand s n =
    FitsWith (total (staged (tied_to n)) s.ops) (total (staged (runs_on n)) s.ops)
    (total (staged (waits_on n)) s.ops) (strand_of s n)

pub fits_at : (t r w t' r' w' : ℕ) (st st' : StrandState) → FitsWith t r w st → t' ≡ t → r' ≡ r → w' ≡ w →
    st' ≡ st → FitsWith t' r' w' st'
fits_at t r w t' r' w' st st' fits tied runs waits same_strand =
    subst (FitsWith t' r' w') (sym same_strand)
    (record {
      tied_fits = let le = fits.tied_fits in omega (arith, le, tied);
      runs_fits = runs ∙ fits.runs_fits;
      waits_fits = waits ∙ fits.waits_fits;
    })

length-insert : (at op : ℕ) (xs : List ℕ) → length (insert xs at op) ≡ length xs + 1
length-insert at op xs =
    let whole = length-append (take at xs) (op ∷ drop at xs) in
    let front = length-take at xs in
    let rest = length-drop at xs in
    omega (arith, whole, front, rest)

-- a call
called_there : (entry : Entry) (given : Gone) (op t r w : ℕ) (st : StrandState) → FitsWith t r w st →
    FitsWith (t + 1) (r + if_executing (stage_of (first_phase entry given)) true)
    (w + if_prepared (stage_of (first_phase entry given)) true) (called_on entry op st)
called_there First given op t r w st fits =
    let le = fits.tied_fits in let runs = fits.runs_fits in let waits = fits.waits_fits in
    let more = length-insert st.front op st.queue in
    record { tied_fits = omega (arith, le); runs_fits = omega (arith, runs); waits_fits = omega (arith, waits, more) }
called_there Last given op t r w st fits =
    let le = fits.tied_fits in let runs = fits.runs_fits in let waits = fits.waits_fits in
    let more = length-append st.queue (op ∷ []) in
    record { tied_fits = omega (arith, le); runs_fits = omega (arith, runs); waits_fits = omega (arith, waits, more) }
called_there Later gone.Nothing op t r w st fits =
    let le = fits.tied_fits in let runs = fits.runs_fits in let waits = fits.waits_fits in
    record { tied_fits = omega (arith, le); runs_fits = omega (arith, runs); waits_fits = omega (arith, waits) }
called_there Later gone.Strand op t r w st fits =
    let le = fits.tied_fits in let runs = fits.runs_fits in let waits = fits.waits_fits in
    record { tied_fits = omega (arith, le); runs_fits = omega (arith, runs); waits_fits = omega (arith, waits) }
called_there Later gone.Other op t r w st fits =
    let le = fits.tied_fits in let runs = fits.runs_fits in let waits = fits.waits_fits in
    record { tied_fits = omega (arith, le); runs_fits = omega (arith, runs); waits_fits = omega (arith, waits) }

no_executing : (stage : Stage) (n : ℕ) → n + if_executing stage false ≡ n
no_executing Idle n = omega arith
no_executing Prepared n = omega arith
no_executing Executing n = omega arith

no_prepared : (stage : Stage) (n : ℕ) → n + if_prepared stage false ≡ n
no_prepared Idle n = omega arith
no_prepared Prepared n = omega arith
no_prepared Executing n = omega arith

pub called_fits : (b : Bool) (entry : Entry) (given : Gone) (op t r w : ℕ) (st : StrandState) → FitsWith t r w st →
    FitsWith (t + one_if b) (r + if_executing (stage_of (first_phase entry given)) b)
    (w + if_prepared (stage_of (first_phase entry given)) b) (if b then called_on entry op st else st)
called_fits true entry given op t r w st fits = called_there entry given op t r w st fits
called_fits false entry given op t r w st fits =
    let stage = stage_of (first_phase entry given) in
    fits_at t r w _ _ _ st st fits (omega arith) (no_executing stage r) (no_prepared stage w) refl

-- a completion
pub done_fits : (b : Bool) (op t r w t' r' w' : ℕ) (st : StrandState) → FitsWith t r w st →
    t' + one_if b ≡ t + one_if b → r' + 0 ≡ r + 0 → w' + 0 ≡ w + one_if b →
    FitsWith t' r' w' (if b then ready_on op st else st)
done_fits true op t r w t' r' w' st fits tied runs waits =
    let le = fits.tied_fits in let one = fits.runs_fits in let many = fits.waits_fits in
    let more = length-append st.queue (op ∷ []) in
    record {
      tied_fits = omega (arith, le, tied);
      runs_fits = omega (arith, one, runs);
      waits_fits = omega (arith, many, more, waits);
    }
done_fits false op t r w t' r' w' st fits tied runs waits =
    fits_at t r w t' r' w' st st fits (omega (arith, tied)) (omega (arith, runs)) (omega (arith, waits)) refl

first_there : (queue : List ℕ) (op : ℕ) → slice_get queue 0 ≡ Some op → length queue ≡ length (drop 1 queue) + 1
first_there [] op is = absurd (cc)
first_there (x ∷ queue) op is = omega arith

-- a begin
pub begun_fits : (b : Bool) (op t r w t' r' w' : ℕ) (st : StrandState) → FitsWith t r w st →
    (b ≡ true → IsNextOf st op) →
    t' + one_if b ≡ t + one_if b → r' + 0 ≡ r + one_if b → w' + one_if b ≡ w + 0 →
    FitsWith t' r' w' (if b then begun_on op st else st)
begun_fits true op t r w t' r' w' st fits next tied runs waits =
    let le = fits.tied_fits in let many = fits.waits_fits in
    let none : r ≡ 0 = fits.runs_fits ∙ ap (λ o. one_if (is_some o)) (next refl).alone in
    let less = first_there st.queue op (next refl).first in
    record {
      tied_fits = omega (arith, le, tied);
      runs_fits = omega (arith, none, runs);
      waits_fits = omega (arith, many, less, waits);
    }
begun_fits false op t r w t' r' w' st fits next tied runs waits =
    fits_at t r w t' r' w' st st fits (omega (arith, tied)) (omega (arith, runs)) (omega (arith, waits)) refl

abbrev one_runs : Option ℕ → ℕ
one_runs o = one_if (is_some o)

at_most_one : (o : Option ℕ) → one_if (is_some o) ≤ 1
at_most_one None = omega arith
at_most_one (Some n) = omega arith

abbrev pub left_on : Bool → StrandState → StrandState
left_on true st = new_strand
left_on false st = ended_on st

-- an end, behind which a strand that was freed and has no more operations is forgotten
pub ended_fits : (b last : Bool) (t r w t' r' w' : ℕ) (st : StrandState) → FitsWith t r w st →
    (b ≡ true → last ≡ true → st.tied ≤ 1) → r' ≤ t' → w' ≤ t' →
    t' + one_if b ≡ t → r' + one_if b ≡ r → w' + 0 ≡ w →
    FitsWith t' r' w' (if b then left_on last st else st)
ended_fits true true t r w t' r' w' st fits few less behind tied runs waits =
    let le = fits.tied_fits in let one = few refl refl in
    record {
      tied_fits = omega (arith, le, one, tied);
      runs_fits = omega (arith, le, one, tied, less);
      waits_fits = omega (arith, le, one, tied, behind);
    }
ended_fits true false t r w t' r' w' st fits few less behind tied runs waits =
    let le = fits.tied_fits in let is = fits.runs_fits in let many = fits.waits_fits in
    let one = at_most_one st.runs in
    record {
      tied_fits = omega (arith, le, tied);
      runs_fits = omega (arith, is, one, runs);
      waits_fits = omega (arith, many, waits);
    }
ended_fits false last t r w t' r' w' st fits few less behind tied runs waits =
    fits_at t r w t' r' w' st st fits (omega (arith, tied)) (omega (arith, runs)) (omega (arith, waits)) refl
