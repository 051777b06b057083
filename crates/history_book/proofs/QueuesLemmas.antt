-- What is cancelled in the queues of a stream, with what its operations ask for.
use Rattle.std.proofs.Common.{◌≡◌, ℕ, nat_lt, Bool, true, false, cond, not, List, [], ◌∷◌, ◌++◌, length, map, filter, ◌+◌, refl, ap, ◌∙◌, arith}
use Rattle.std.proofs.lemmas.List.{length-append, length-map}
use Rattle.std.proofs.lemmas.List.Filters.{length-filter_both}
use Rattle.stream_rules.specs.declared.queue.Completion.{Completion}
use Rattle.stream_rules.specs.declared.queue.Queued.{Queued}
use Rattle.stream_rules.specs.Queue.{asked, Pending}
use Rattle.stream_rules.specs.Serving.{Reading, Writing}
use Rattle.history_rules.specs.Performing.{aborted, all_aborted, all_of_stream, is_of, with_writes}
use Rattle.history_rules.proofs.CancelledLemmas.{length-all_of_stream}
use Rattle.history_book.specs.Queues.{abort_of, aborts_of, is_queued, reads_go_first, IsFirstOf}

-- a read goes first
pub read-first : (head : Queued) (reads writes : List Queued) → reads_go_first (head ∷ reads) writes ≡ true →
    IsFirstOf head (head ∷ reads) writes reads writes
read-first head reads [] first f g = refl
read-first head reads (write ∷ writes) first f g = rw first

-- a write goes first
pub write-first : (reads : List Queued) (head : Queued) (writes : List Queued) →
    reads_go_first reads (head ∷ writes) ≡ false → IsFirstOf head reads (head ∷ writes) reads writes
write-first [] head writes first f g = refl
write-first (read ∷ reads) head writes first f g = rw first

-- no read is there
pub reads-none : (reads writes : List Queued) → reads_go_first reads writes ≡ true → reads ≡ [] → (A : Type 0) → A
reads-none [] writes first none A = absurd (cc)
reads-none (read ∷ reads) writes first none A = absurd (cc)

-- where a read doesn't go first and no write is there, nothing is there
pub writes-none : (reads writes : List Queued) → reads_go_first reads writes ≡ false → writes ≡ [] → reads ≡ []
writes-none [] writes first none = refl
writes-none (read ∷ reads) [] first none = absurd (cc)
writes-none (read ∷ reads) (write ∷ writes) first none = absurd (cc)

-- an operation that stays or not, with what it asks for
filter-asked-step : {Asks : Type 0} (f : ℕ → Asks) (x : Queued) (stays : Bool) (xs : List Queued)
    (rest : List (Pending Asks)) → rest ≡ map (asked f) xs →
    cond stays (asked f x ∷ rest) rest ≡ map (asked f) (cond stays (x ∷ xs) xs)
filter-asked-step f x true xs rest e = ap (λ r. asked f x ∷ r) e
filter-asked-step f x false xs rest e = e

pub filter-asked : {Asks : Type 0} (f : ℕ → Asks) (op : ℕ) (xs : List Queued) →
    filter (λ pending. not (is_of op pending)) (map (asked f) xs)
    ≡ map (asked f) (filter (λ queued. not (is_queued op queued)) xs)
filter-asked f op [] = refl
filter-asked f op (x ∷ xs) =
    filter-asked-step f x (not (is_queued op x)) (filter (λ queued. not (is_queued op queued)) xs)
    (filter (λ pending. not (is_of op pending)) (map (asked f) xs)) (filter-asked f op xs)

aborts-asked-step : {Asks : Type 0} (f : ℕ → Asks) (x : Queued) (goes : Bool) (xs : List Queued)
    (rest : List (Pending Asks)) → all_aborted rest ≡ map abort_of xs →
    all_aborted (cond goes (asked f x ∷ rest) rest) ≡ map abort_of (cond goes (x ∷ xs) xs)
aborts-asked-step f x true xs rest e = ap (λ r. abort_of x ∷ r) e
aborts-asked-step f x false xs rest e = e

pub aborts-asked : {Asks : Type 0} (f : ℕ → Asks) (op : ℕ) (xs : List Queued) →
    all_aborted (filter (is_of op) (map (asked f) xs)) ≡ aborts_of (is_queued op) xs
aborts-asked f op [] = refl
aborts-asked f op (x ∷ xs) =
    aborts-asked-step f x (is_queued op x) (filter (is_queued op) xs) (filter (is_of op) (map (asked f) xs))
    (aborts-asked f op xs)

pub all-count : (f : ℕ → Reading) (g : ℕ → Writing) (reads writes : List Queued) (due after : List Completion) →
    after ≡ due ++ all_of_stream (map (asked f) reads) (map (asked g) writes) →
    length after ≡ length due + length reads + length writes
all-count f g reads writes due after is =
    let all = length-all_of_stream (map (asked f) reads) (map (asked g) writes) in
    let more = ap length is ∙ length-append due (all_of_stream (map (asked f) reads) (map (asked g) writes)) in
    let one = length-map reads (asked f) in
    let two = length-map writes (asked g) in
    omega arith
