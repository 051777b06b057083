-- What may begin, in the order in which it came.
use Rattle.std.specs.Prelude.{◌≡◌, ◌<◌, ◌≤◌, ℕ, ◌+◌, ◌==◌, Bool, true, false, List, [], ◌∷◌, ◌++◌, count_by, drop, length, replicate}
use Rattle.std.specs.List.{slice_index_or, slice_set}
use Rattle.io_rules.specs.Room.{one_if}
use Rattle.io_jobs.specs.declared.job.Job.{Job}
use Rattle.io_jobs.specs.declared.job.Job.TheVariants as job

pub record JobList (T : Type 0) : Type 0 where
  -- next first
  pub ring : List (Job T)
  -- which strands are in it
  pub listed : List Bool
  -- for how many operations without a strand there is room
  pub room : ℕ

abbrev pub no_jobs : {T : Type 0} → ℕ → ℕ → JobList T
no_jobs strands room = record { ring = []; listed = replicate strands false; room = room }

abbrev pub is_listed : {T : Type 0} → JobList T → ℕ → Bool
is_listed jobs strand = slice_index_or jobs.listed strand false

abbrev pub with_strand : {T : Type 0} → ℕ → JobList T → JobList T
with_strand strand jobs =
    record jobs { ring = jobs.ring ++ job.Strand strand ∷ []; listed = slice_set jobs.listed strand true }

abbrev pub with_op : {T : Type 0} → T → JobList T → JobList T
with_op op jobs = record jobs { ring = jobs.ring ++ job.Own op ∷ [] }

abbrev pub listed_without : {T : Type 0} → Job T → List Bool → List Bool
listed_without (job.Strand strand) listed = slice_set listed strand false
listed_without (job.Own op) listed = listed

-- the first one is taken
abbrev pub taken : {T : Type 0} → Job T → JobList T → JobList T
taken first jobs =
    record jobs { ring = drop 1 jobs.ring; listed = listed_without first jobs.listed }

abbrev pub own_in : {T : Type 0} → Job T → ℕ
own_in (job.Strand strand) = 0
own_in (job.Own op) = 1

-- how many operations without a strand
abbrev pub owns : {T : Type 0} → List (Job T) → ℕ
owns [] = 0
owns (job ∷ jobs) = own_in job + owns jobs

-- these operations
abbrev pub ops_in : {T : Type 0} → List (Job T) → List T
ops_in [] = []
ops_in (job.Strand strand ∷ jobs) = ops_in jobs
ops_in (job.Own op ∷ jobs) = op ∷ ops_in jobs

-- a strand that is taken was listed
abbrev pub WasListed : {T : Type 0} → Job T → List Bool → Type 0
WasListed (job.Strand strand) listed = slice_index_or listed strand false ≡ true
WasListed (job.Own op) listed = Unit {0}

-- a strand that there is a place for
abbrev pub IsAmong : {T : Type 0} → Job T → List Bool → Type 0
IsAmong (job.Strand strand) listed = strand < length listed
IsAmong (job.Own op) listed = Unit {0}

-- how often a strand is in a list of jobs
abbrev pub strand_in : {T : Type 0} → ℕ → Job T → ℕ
strand_in n (job.Strand strand) = one_if (strand == n)
strand_in n (job.Own op) = 0

abbrev pub strand_times : {T : Type 0} → ℕ → List (Job T) → ℕ
strand_times n [] = 0
strand_times n (job ∷ jobs) = strand_in n job + strand_times n jobs

abbrev pub strand_of : {T : Type 0} → Job T → ℕ
strand_of (job.Strand strand) = 1
strand_of (job.Own op) = 0

abbrev pub strands_in : {T : Type 0} → List (Job T) → ℕ
strands_in [] = 0
strands_in (job ∷ jobs) = strand_of job + strands_in jobs

-- these strands are in the list, each once
pub record AreListed {T : Type 0} (ring : List (Job T)) (listed : List Bool) : Type 0 where
  pub once : (n : ℕ) → strand_times n ring ≡ one_if (slice_index_or listed n false)
  pub all : strands_in ring ≡ count_by (λ it. it) listed

-- what holds of each list of jobs with memory for so many
pub record IsJobList {T : Type 0} (capacity : ℕ) (jobs : JobList T) : Type 0 where
  pub strands : AreListed jobs.ring jobs.listed
  pub owns : owns jobs.ring ≤ jobs.room
  pub memory : length jobs.listed + jobs.room ≤ capacity
