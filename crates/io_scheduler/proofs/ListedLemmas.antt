-- What may begin, as one more may.
use Rattle.std.proofs.Common.{arith, ap, refl, sym, ◌∙◌}
use Rattle.std.proofs.lemmas.Bool.{lt-ltb, true≢false}
use Rattle.std.proofs.lemmas.List.{length-append, length_push, set-get_or}
use Rattle.std.proofs.Math.ListN.{get_or-map}
use Rattle.std.specs.Prelude.{◌≡◌, ◌<◌, ℕ, ◌&&◌, nat_lt, not, Bool, true, false, List, [], ◌∷◌, ◌++◌, drop, length, map, take, if◌then◌else◌}
use Rattle.std.specs.List.{slice_index_or, slice_set}
use Rattle.std.specs.Option.{is_some}
use Rattle.io_rules.specs.State.{StrandState, new_strand}
use Rattle.io_rules.specs.Strands.{entry_of_dispatch}
use Rattle.io_strands.specs.declared.ready.ReadyOp.{ReadyOp}
use Rattle.io_strands.specs.Cell.{Cell, called, may_begin, vacant}
use Rattle.io_strands.specs.Numbered.{numbered}
use Rattle.io_jobs.specs.declared.job.Job.{Job}
use Rattle.io_jobs.specs.declared.job.Job.TheVariants as job
use Rattle.io_jobs.specs.Listed.{JobList, is_listed, with_strand}
use Rattle.io_scheduler.specs.Entered.{listed_if}
use Rattle.io_scheduler.specs.Ready.{own_ops}
use Rattle.io_scheduler.specs.Shown.{cell_at}

-- the strand at a place
pub cell_is : {H S : Type 0} (cells : List (Cell H S)) (strands : List StrandState) (place : ℕ) →
    map numbered cells ≡ strands → numbered (cell_at cells place) ≡ slice_index_or strands place new_strand
cell_is cells strands place are =
    sym (get_or-map numbered cells place (vacant 0)) ∙ ap (λ xs. slice_index_or xs place new_strand) are

pub flag_is : {H S : Type 0} (cells : List (Cell H S)) (jobs : JobList (ReadyOp H)) (place : ℕ) →
    jobs.listed ≡ map may_begin cells → is_listed jobs place ≡ may_begin (cell_at cells place)
flag_is cells jobs place are =
    ap (λ xs. slice_index_or xs place false) are ∙ get_or-map may_begin cells place (vacant 0)

still_not : (q more r : Bool) → more ≡ true → (more && r) ≡ false → (q && r) ≡ false
still_not true true r is isnt = isnt
still_not false true r is isnt = refl
still_not q false r is isnt = absurd (true≢false (sym is))

length_called : {H S : Type 0} (first : Bool) (op : ReadyOp H) (c : Cell H S) →
    0 < length (called (entry_of_dispatch first) op c).queue
length_called false op c = let many = length_push c.queue op in omega (arith, many)
length_called true op c =
    let many = length-append (take c.front c.queue) (op ∷ drop c.front c.queue) in omega (arith, many)

runs_called : {H S : Type 0} (first : Bool) (op : ReadyOp H) (c : Cell H S) →
    (called (entry_of_dispatch first) op c).runs ≡ c.runs
runs_called false op c = refl
runs_called true op c = refl

-- what may not begin with one more might not before
pub not_before : {H S : Type 0} (first : Bool) (op : ReadyOp H) (c : Cell H S) →
    may_begin (called (entry_of_dispatch first) op c) ≡ false → may_begin c ≡ false
not_before first op c isnt =
    let new = called (entry_of_dispatch first) op c in
    still_not (nat_lt 0 (length c.queue)) (nat_lt 0 (length new.queue)) (not (is_some c.runs))
    (lt-ltb 0 (length new.queue) (length_called first op c))
    (ap (λ runs. nat_lt 0 (length new.queue) && not (is_some runs)) (sym (runs_called first op c)) ∙ isnt)

pub set_same : (flags : List Bool) (place : ℕ) (b : Bool) → slice_index_or flags place false ≡ b →
    flags ≡ slice_set flags place b
set_same flags place b is = sym (ap (λ v. slice_set flags place v) (sym is) ∙ set-get_or flags place false)

pub listed-if : {T : Type 0} (b : Bool) (jobs : JobList T) (place : ℕ) →
    (b ≡ false → is_listed jobs place ≡ false) → (listed_if b place jobs).listed ≡ slice_set jobs.listed place b
listed-if false jobs place isnt = set_same jobs.listed place false (isnt refl)
listed-if true jobs place isnt = by_flag (is_listed jobs place) refl
  where
    by_flag : (c : Bool) → is_listed jobs place ≡ c →
        (if c then jobs else with_strand place jobs).listed ≡ slice_set jobs.listed place true
    by_flag true is = set_same jobs.listed place true is
    by_flag false is = refl

own-strand : {H : Type 0} (ring : List (Job (ReadyOp H))) (place : ℕ) →
    own_ops (ring ++ job.Strand place ∷ []) ≡ own_ops ring
own-strand [] place = refl
own-strand (job.Strand strand ∷ ring) place = own-strand ring place
own-strand (job.Own op ∷ ring) place = ap (λ rest. op ∷ rest) (own-strand ring place)

pub own-push : {H : Type 0} (ring : List (Job (ReadyOp H))) (op : ReadyOp H) →
    own_ops (ring ++ job.Own op ∷ []) ≡ own_ops ring ++ op ∷ []
own-push [] op = refl
own-push (job.Strand strand ∷ ring) op = own-push ring op
own-push (job.Own other ∷ ring) op = ap (λ rest. other ∷ rest) (own-push ring op)

pub own-if : {H : Type 0} (b : Bool) (jobs : JobList (ReadyOp H)) (place : ℕ) →
    own_ops (listed_if b place jobs).ring ≡ own_ops jobs.ring
own-if false jobs place = refl
own-if true jobs place = by_flag (is_listed jobs place)
  where
    by_flag : (c : Bool) → own_ops (if c then jobs else with_strand place jobs).ring ≡ own_ops jobs.ring
    by_flag true = refl
    by_flag false = own-strand jobs.ring place

pub room-if : {T : Type 0} (b : Bool) (jobs : JobList T) (place : ℕ) → (listed_if b place jobs).room ≡ jobs.room
room-if false jobs place = refl
room-if true jobs place = by_flag (is_listed jobs place)
  where
    by_flag : (c : Bool) → (if c then jobs else with_strand place jobs).room ≡ jobs.room
    by_flag true = refl
    by_flag false = refl
