-- Which strands are in a list of jobs, as one comes and one is taken.
use Rattle.std.proofs.Common.{arith, ap, cond, eqb, refl, subst, sym, ◌∙◌, ⊎_elim, ◌≢◌}
use Rattle.std.proofs.lemmas.Bool.{cases_lt, true≢false}
use Rattle.std.proofs.lemmas.Bool.Decides.{eqb_tells}
use Rattle.std.proofs.lemmas.List.{get_or-replicate, get_or-set_other, get_or-set_same, get_or_past, length-replicate, length-set}
use Rattle.std.proofs.lemmas.List.Folds.{sum_by-replicate}
use Rattle.std.proofs.lemmas.List.Sums.{count_by-le-length, sum_by-set}
use Rattle.std.specs.Prelude.{◌≡◌, ◌<◌, ◌≤◌, ℕ, suc, ◌+◌, ◌==◌, Bool, true, false, List, [], ◌∷◌, ◌++◌, count_by, length, replicate}
use Rattle.std.specs.List.{slice_index_or, slice_set}
use Rattle.io_rules.specs.Room.{one_if}
use Rattle.io_rules.proofs.TotalLemmas.{same}
use Rattle.io_jobs.specs.declared.job.Job.{Job}
use Rattle.io_jobs.specs.declared.job.Job.TheVariants as job
use Rattle.io_jobs.specs.Listed.{AreListed, IsAmong, IsJobList, JobList, WasListed, is_listed, listed_without, own_in, owns, strand_in, strand_of, strand_times, strands_in, with_op, with_strand}

flag_here : (listed : List Bool) (p n : ℕ) (b : Bool) → p < length listed → p ≡ n →
    slice_index_or (slice_set listed p b) n false ≡ b
flag_here listed p n b within is =
    subst (λ k. slice_index_or (slice_set listed p b) k false ≡ b) is (get_or-set_same listed p b false within)

flag_else : (listed : List Bool) (p n : ℕ) (b : Bool) → p ≢ n →
    slice_index_or (slice_set listed p b) n false ≡ slice_index_or listed n false
flag_else listed p n b other = get_or-set_other listed p n b false (λ is. other (sym is))

cond_is : (b : Bool) → cond b 1 0 ≡ one_if b
cond_is true = refl
cond_is false = refl

counted_set : (listed : List Bool) (p : ℕ) (a b : Bool) → p < length listed →
    slice_index_or listed p false ≡ a →
    count_by (λ it. it) (slice_set listed p b) + one_if a ≡ count_by (λ it. it) listed + one_if b
counted_set listed p a b within was =
    let step = sum_by-set (λ (it : Bool). cond it 1 0) listed p b false within in
    let old = cond_is (slice_index_or listed p false) ∙ ap one_if was in
    let put = cond_is b in
    omega (arith, step, old, put)

times-push : {T : Type 0} (n : ℕ) (ring : List (Job T)) (job : Job T) →
    strand_times n (ring ++ job ∷ []) ≡ strand_times n ring + strand_in n job
times-push n [] job = omega arith
times-push n (x ∷ ring) job = let rest = times-push n ring job in omega (arith, rest)

strands-push : {T : Type 0} (ring : List (Job T)) (job : Job T) →
    strands_in (ring ++ job ∷ []) ≡ strands_in ring + strand_of job
strands-push [] job = omega arith
strands-push (x ∷ ring) job = let rest = strands-push ring job in omega (arith, rest)

owns-push : {T : Type 0} (ring : List (Job T)) (job : Job T) →
    owns (ring ++ job ∷ []) ≡ owns ring + own_in job
owns-push [] job = omega arith
owns-push (x ∷ ring) job = let rest = owns-push ring job in omega (arith, rest)

-- each is a strand, or an operation without one
all_in : {T : Type 0} (ring : List (Job T)) → length ring ≡ strands_in ring + owns ring
all_in [] = refl
all_in (job.Strand strand ∷ ring) = let rest = all_in ring in omega (arith, rest)
all_in (job.Own op ∷ ring) = let rest = all_in ring in omega (arith, rest)

within_listed : (listed : List Bool) (p : ℕ) → slice_index_or listed p false ≡ true → p < length listed
within_listed listed p is =
    ⊎_elim (λ (lt : p < length listed). lt)
    (λ (le : length listed ≤ p). absurd (true≢false (sym is ∙ get_or_past listed p false le)))
    (cases_lt p (length listed))

-- room for one strand more, that isn't in the list
pub room_listed : {T : Type 0} (capacity : ℕ) (jobs : JobList T) (p : ℕ) → IsJobList capacity jobs →
    p < length jobs.listed → is_listed jobs p ≡ false → length jobs.ring < capacity
room_listed capacity jobs p are within isnt =
    let step = counted_set jobs.listed p false true within isnt in
    let most = count_by-le-length (λ it. it) (slice_set jobs.listed p true) in
    let many = length-set jobs.listed p true in
    let each = all_in jobs.ring in
    let all = are.strands.all in let own = are.owns in let memory = are.memory in
    omega (arith, step, most, many, each, all, own, memory)

pub room_added : {T : Type 0} (capacity : ℕ) (jobs : JobList T) → IsJobList capacity jobs →
    owns jobs.ring < jobs.room → length jobs.ring < capacity
room_added capacity jobs are left =
    let most = count_by-le-length (λ it. it) jobs.listed in
    let each = all_in jobs.ring in
    let all = are.strands.all in let memory = are.memory in
    omega (arith, most, each, all, memory, left)

pub listed_more : {T : Type 0} (capacity : ℕ) (jobs : JobList T) (p : ℕ) → IsJobList capacity jobs →
    p < length jobs.listed → is_listed jobs p ≡ false → IsJobList capacity (with_strand p jobs)
listed_more capacity jobs p are within isnt =
    let step = counted_set jobs.listed p false true within isnt in
    let many = length-set jobs.listed p true in
    let all = are.strands.all in let own = are.owns in let memory = are.memory in
    let new = strands-push jobs.ring (job.Strand p) in let same_owns = owns-push jobs.ring (job.Strand p) in
    record {
      strands = record {
        once = λ n.
            times-push n jobs.ring (job.Strand p)
            ∙ ⊎_elim
            (λ (t : (eqb p n ≡ true) × (p ≡ n)).
            let here = ap one_if t.0 in
            let none = subst (λ k. strand_times k jobs.ring ≡ 0) t.1 (are.strands.once p ∙ ap one_if isnt) in
            let one : strand_times n jobs.ring + one_if (p == n) ≡ 1 = omega (arith, here, none) in
            one ∙ sym (ap one_if (flag_here jobs.listed p n true within t.1)))
            (λ (t : (eqb p n ≡ false) × (p ≢ n)).
            let here = ap one_if t.0 in let old = are.strands.once n in
            let rest : strand_times n jobs.ring + one_if (p == n) ≡ one_if (slice_index_or jobs.listed n false) =
            omega (arith, here, old) in
            rest ∙ sym (ap one_if (flag_else jobs.listed p n true t.1)))
            (eqb_tells p n);
        all = omega (arith, step, all, new);
      };
      owns = omega (arith, own, same_owns);
      memory = omega (arith, memory, many);
    }

pub added_more : {T : Type 0} (capacity : ℕ) (jobs : JobList T) (op : T) → IsJobList capacity jobs →
    owns jobs.ring < jobs.room → IsJobList capacity (with_op op jobs)
added_more capacity jobs op are left =
    let new = strands-push jobs.ring (job.Own op) in let more = owns-push jobs.ring (job.Own op) in
    let all = are.strands.all in
    record {
      strands = record {
        once = λ n.
            let pushed = times-push n jobs.ring (job.Own op) in let old = are.strands.once n in
            omega (arith, pushed, old);
        all = omega (arith, all, new);
      };
      owns = omega (arith, more, left);
      memory = are.memory;
    }

only_one : (b : Bool) (n : ℕ) → suc n ≡ one_if b → b ≡ true
only_one true n is = refl
only_one false n is = absurd (omega (arith, is))

-- a strand at the head is in the list, and no second time
head_listed : {T : Type 0} (p : ℕ) (ring : List (Job T)) (listed : List Bool) →
    AreListed (job.Strand p ∷ ring) listed → slice_index_or listed p false ≡ true
head_listed p ring listed are =
    let one = ap one_if (same p) in let counted = are.once p in
    only_one (slice_index_or listed p false) (strand_times p ring) (omega (arith, one, counted))

head_within : {T : Type 0} (p : ℕ) (ring : List (Job T)) (listed : List Bool) →
    AreListed (job.Strand p ∷ ring) listed → p < length listed
head_within p ring listed are = within_listed listed p (head_listed p ring listed are)

strand_taken : {T : Type 0} (capacity p room : ℕ) (ring : List (Job T)) (listed : List Bool) →
    IsJobList capacity (record { ring = job.Strand p ∷ ring; listed = listed; room = room }) →
    IsJobList capacity (record { ring = ring; listed = slice_set listed p false; room = room })
strand_taken capacity p room ring listed are =
    let was = head_listed p ring listed are.strands in
    let within = head_within p ring listed are.strands in
    let step = counted_set listed p true false within was in
    let many = length-set listed p false in
    let all = are.strands.all in let own = are.owns in let memory = are.memory in
    record {
      strands = record {
        once = λ n.
            ⊎_elim
            (λ (t : (eqb p n ≡ true) × (p ≡ n)).
            let here = ap one_if t.0 in let old = are.strands.once n in
            let flag = ap one_if (subst (λ k. slice_index_or listed k false ≡ true) t.1 was) in
            let none : strand_times n ring ≡ 0 = omega (arith, here, old, flag) in
            none ∙ sym (ap one_if (flag_here listed p n false within t.1)))
            (λ (t : (eqb p n ≡ false) × (p ≢ n)).
            let here = ap one_if t.0 in let old = are.strands.once n in
            let rest : strand_times n ring ≡ one_if (slice_index_or listed n false) = omega (arith, here, old) in
            rest ∙ sym (ap one_if (flag_else listed p n false t.1)))
            (eqb_tells p n);
        all = omega (arith, step, all);
      };
      owns = omega (arith, own);
      memory = omega (arith, memory, many);
    }

op_taken : {T : Type 0} (capacity room : ℕ) (op : T) (ring : List (Job T)) (listed : List Bool) →
    IsJobList capacity (record { ring = job.Own op ∷ ring; listed = listed; room = room }) →
    IsJobList capacity (record { ring = ring; listed = listed; room = room })
op_taken capacity room op ring listed are =
    let own = are.owns in let all = are.strands.all in
    record {
      strands = record {
        once = λ n. let old = are.strands.once n in omega (arith, old);
        all = omega (arith, all);
      };
      owns = omega (arith, own);
      memory = are.memory;
    }

-- the first one is taken
pub first_among : {T : Type 0} (first : Job T) (ring : List (Job T)) (listed : List Bool) →
    AreListed (first ∷ ring) listed → IsAmong first listed
first_among (job.Strand p) ring listed are = head_within p ring listed are
first_among (job.Own op) ring listed are = tt

pub first_listed : {T : Type 0} (first : Job T) (ring : List (Job T)) (listed : List Bool) →
    AreListed (first ∷ ring) listed → WasListed first listed
first_listed (job.Strand p) ring listed are = head_listed p ring listed are
first_listed (job.Own op) ring listed are = tt

pub first_taken : {T : Type 0} (capacity room : ℕ) (first : Job T) (ring : List (Job T)) (listed : List Bool) →
    IsJobList capacity (record { ring = first ∷ ring; listed = listed; room = room }) →
    IsJobList capacity (record { ring = ring; listed = listed_without first listed; room = room })
first_taken capacity room (job.Strand p) ring listed are = strand_taken capacity p room ring listed are
first_taken capacity room (job.Own op) ring listed are = op_taken capacity room op ring listed are

-- an empty list has no strand
pub none_listed : (listed : List Bool) (n : ℕ) → 0 ≡ one_if (slice_index_or listed n false) →
    slice_index_or listed n false ≡ false
none_listed listed n is = not_one (slice_index_or listed n false) is
  where
    not_one : (b : Bool) → 0 ≡ one_if b → b ≡ false
    not_one true is = absurd (omega (arith, is))
    not_one false is = refl

pub no_jobs_yet : {T : Type 0} (capacity strands room : ℕ) → strands + room ≤ capacity →
    IsJobList {T = T} capacity (record { ring = []; listed = replicate strands false; room = room })
no_jobs_yet capacity strands room memory =
    let many = length-replicate strands false in
    let each = sum_by-replicate (λ (it : Bool). cond it 1 0) strands false in
    record {
      strands = record {
        once = λ n.
            ⊎_elim
            (λ (lt : n < strands). sym (ap one_if (get_or-replicate strands n false false lt)))
            (λ (le : strands ≤ n).
            sym (ap one_if (get_or_past (replicate strands false) n false (omega (arith, le, many)))))
            (cases_lt n strands);
        all = omega (arith, each);
      };
      owns = omega arith;
      memory = omega (arith, memory, many);
    }
