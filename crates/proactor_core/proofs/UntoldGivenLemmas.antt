-- What streams give in order, where bytes are untold.
use Rattle.std.proofs.Common.{◌≡◌, ℕ, ◌+◌, ◌<◌, ◌≤◌, List, [], ◌∷◌, ◌++◌, Some, None, length, map, drop, set, sum_by, zero, suc, inl, inr, refl, sym, ap, subst, ◌∙◌, arith}
use Rattle.std.specs.List.{All, slice_get}
use Rattle.std.proofs.Math.ListN.{length-set}
use Rattle.std.proofs.lemmas.Bool.{cases_lt}
use Rattle.std.proofs.lemmas.List.{append-nil, append_assoc, get_or-set_same, get_or_past, length-map, map-set, set-get_or}
use Rattle.std.proofs.lemmas.List.Sums.{sum_by-cons, sum_by-set}
use Rattle.std.proofs.lemmas.List.Elements.{All-tail}
use Rattle.session_script.specs.Script.{ScriptModel}
use Rattle.stream_rules.specs.declared.queue.Completion.{Completion}
use Rattle.stream_rules.specs.Queue.{Pending}
use Rattle.stream_rules.specs.Serving.{Reading, Writing}
use Rattle.history_rules.specs.Kinds.{reading_of, writing_of}
use Rattle.history_rules.specs.State.{StreamQueues, no_queues}
use Rattle.history_rules.specs.Untold.{may_give_read, may_give_write, reading_place, writing_place}
use Rattle.proactor_core.specs.Pending.{unmoved, GivesInOrder}
use Rattle.proactor_core.specs.Untold.{none_below, none_given, one_below, queues_of_view, read_given, unmoved_queues, without_read, without_write, write_given, AreGiven, AreGivenBelow, AreKnown, AreKnownAt, IsFirstGiven, IsGivenAt, IsKnown}
use Rattle.proactor_core.proofs.UntoldLikeLemmas.{each-set, rested-at}

-- from an earlier place to a later one
pub given-wider : {from to : ℕ} {queues left : List StreamQueues} {given : List Completion} (before after : ℕ) →
    before ≤ from → to ≤ after → AreGiven from queues given to left → AreGiven before queues given after left
given-wider before after less more (none_given ahead) = none_given (omega arith)
given-wider before after less more (read_given stream ahead first rest) =
    read_given stream (omega arith) first (given-wider (reading_place stream) after (omega arith) more rest)
given-wider before after less more (write_given stream ahead first rest) =
    write_given stream (omega arith) first (given-wider (writing_place stream) after (omega arith) more rest)

-- one after the other
pub given-both : {from between to : ℕ} {queues middle left : List StreamQueues} {given more : List Completion} →
    AreGiven from queues given between middle → AreGiven between middle more to left →
    AreGiven from queues (given ++ more) to left
given-both {from = from} {to = to} (none_given ahead) second = given-wider from to ahead (omega arith) second
given-both (read_given stream ahead first rest) second = read_given stream ahead first (given-both rest second)
given-both (write_given stream ahead first rest) second = write_given stream ahead first (given-both rest second)

set-twice : {X : Type 0} (xs : List X) (i : ℕ) (x y : X) → set (set xs i x) i y ≡ set xs i y
set-twice [] i x y = refl
set-twice (z ∷ zs) zero x y = refl
set-twice (z ∷ zs) (suc i) x y = ap (λ ws. z ∷ ws) (set-twice zs i x y)

module _ (stream : ℕ) where
  abbrev place : ℕ
  place = reading_place stream

  abbrev with_reads : List (Pending Reading) → StreamQueues → StreamQueues
  with_reads reads queues = record queues { reads = reads }

  abbrev with_writes : List (Pending Writing) → StreamQueues → StreamQueues
  with_writes writes queues = record queues { writes = writes }

  -- the reads of a stream give
  pub reads-given : (queues : List StreamQueues) (queue staying : List (Pending Reading))
      (given : List Completion) → stream < length queues → GivesInOrder may_give_read queue staying given →
      (queues_of_view queues stream).reads ≡ map unmoved queue →
      AreGiven place queues given place (set queues stream
      (with_reads (map unmoved staying) (queues_of_view queues stream)))
  reads-given queues queue staying [] within gives is =
      let now = queues_of_view queues stream in
      let same : set queues stream (with_reads (map unmoved staying) now) ≡ queues =
      ap (λ rs. set queues stream (with_reads rs now)) (sym gives ∙ sym is) ∙ set-get_or queues stream no_queues in
      subst (AreGiven place queues [] place) (sym same) (none_given (omega arith))
  reads-given queues [] staying (done ∷ given) within gives is = absurd gives
  reads-given queues (head ∷ queue) staying (done ∷ given) within gives is =
      let now = queues_of_view queues stream in
      let left = without_read stream queues in
      let long : stream < length left = let same = length-set queues stream (with_reads (drop 1 now.reads) now) in
      omega arith in
      let here : queues_of_view left stream ≡ with_reads (drop 1 now.reads) now =
      get_or-set_same queues stream (with_reads (drop 1 now.reads) now) no_queues within in
      let next : (queues_of_view left stream).reads ≡ map unmoved queue =
      ap (λ (q : StreamQueues). q.reads) here ∙ ap (drop 1) is in
      let first : IsFirstGiven may_give_read now.reads done =
      record {
        head = unmoved head;
        first = ap (λ rs. slice_get rs 0) is;
        is_op = gives.0;
        allowed = gives.1;
      } in
      let end : set left stream (with_reads (map unmoved staying) (queues_of_view left stream)) ≡
      set queues stream (with_reads (map unmoved staying) now) =
      ap (λ q. set left stream (with_reads (map unmoved staying) q)) here
      ∙ set-twice queues stream (with_reads (drop 1 now.reads) now) (with_reads (map unmoved staying) now) in
      read_given stream (omega arith) first (subst (AreGiven place left given place) end
      (reads-given left queue staying given long gives.2 next))

  -- and so do its writes
  pub writes-given : (queues : List StreamQueues) (queue staying : List (Pending Writing))
      (given : List Completion) → stream < length queues → GivesInOrder may_give_write queue staying given →
      (queues_of_view queues stream).writes ≡ map unmoved queue →
      AreGiven (writing_place stream) queues given (writing_place stream)
      (set queues stream (with_writes (map unmoved staying) (queues_of_view queues stream)))
  writes-given queues queue staying [] within gives is =
      let now = queues_of_view queues stream in
      let same : set queues stream (with_writes (map unmoved staying) now) ≡ queues =
      ap (λ ws. set queues stream (with_writes ws now)) (sym gives ∙ sym is) ∙ set-get_or queues stream no_queues in
      subst (AreGiven (writing_place stream) queues [] (writing_place stream)) (sym same) (none_given (omega arith))
  writes-given queues [] staying (done ∷ given) within gives is = absurd gives
  writes-given queues (head ∷ queue) staying (done ∷ given) within gives is =
      let now = queues_of_view queues stream in
      let left = without_write stream queues in
      let long : stream < length left = let same = length-set queues stream (with_writes (drop 1 now.writes) now) in
      omega arith in
      let here : queues_of_view left stream ≡ with_writes (drop 1 now.writes) now =
      get_or-set_same queues stream (with_writes (drop 1 now.writes) now) no_queues within in
      let next : (queues_of_view left stream).writes ≡ map unmoved queue =
      ap (λ (q : StreamQueues). q.writes) here ∙ ap (drop 1) is in
      let first : IsFirstGiven may_give_write now.writes done =
      record {
        head = unmoved head;
        first = ap (λ ws. slice_get ws 0) is;
        is_op = gives.0;
        allowed = gives.1;
      } in
      let end : set left stream (with_writes (map unmoved staying) (queues_of_view left stream)) ≡
      set queues stream (with_writes (map unmoved staying) now) =
      ap (λ q. set left stream (with_writes (map unmoved staying) q)) here
      ∙ set-twice queues stream (with_writes (drop 1 now.writes) now) (with_writes (map unmoved staying) now) in
      write_given stream (omega arith) first (subst (AreGiven (writing_place stream) left given
      (writing_place stream)) end (writes-given left queue staying given long gives.2 next))

-- one stream gives
stream-given : (stream : ℕ) (old new : List StreamQueues) (due later : List Completion) →
    (at : IsGivenAt stream old new due later) → AreGiven (reading_place stream) (map unmoved_queues old)
    (at.reads ++ at.writes) (writing_place stream) (map unmoved_queues new)
stream-given stream old new due later at =
    let before = queues_of_view old stream in
    let after = queues_of_view new stream in
    let rested = map unmoved_queues old in
    let long : stream < length rested = let same = length-map old unmoved_queues in let within = at.within in
    omega arith in
    let here = rested-at old stream in
    let now = queues_of_view rested stream in
    let between : StreamQueues = record now { reads = map unmoved after.reads } in
    let middle = set rested stream between in
    let there : queues_of_view middle stream ≡ between = get_or-set_same rested stream between no_queues long in
    let still : stream < length middle = let same = length-set rested stream between in omega arith in
    let first = reads-given stream rested before.reads after.reads at.reads long at.reads_in_order
    (ap (λ (q : StreamQueues). q.reads) here) in
    let second = writes-given stream middle before.writes after.writes at.writes still at.writes_in_order
    (ap (λ (q : StreamQueues). q.writes) there ∙ ap (λ (q : StreamQueues). q.writes) here) in
    let last = λ (q : StreamQueues). let w : StreamQueues = record q { writes = map unmoved after.writes } in w in
    let whole = λ (q : StreamQueues). let w : StreamQueues =
    record q { reads = map unmoved after.reads; writes = map unmoved after.writes } in w in
    let is_new : map unmoved_queues new ≡ set rested stream (whole (unmoved_queues before)) =
    ap (map unmoved_queues) at.others ∙ map-set unmoved_queues old stream
    (record before { reads = after.reads; writes = after.writes }) in
    let end : set middle stream (last (queues_of_view middle stream)) ≡ map unmoved_queues new =
    ap (λ q. set middle stream (last q)) there ∙ set-twice rested stream between (last between)
    ∙ ap (λ q. set rested stream (whole q)) here ∙ sym is_new in
    given-both (given-wider (reading_place stream) (writing_place stream) (omega arith) (omega arith) first)
    (subst (AreGiven (writing_place stream) middle at.writes (writing_place stream)) end second)

-- what the first streams give
pub record IsGivenSo (number : ℕ) (old new : List StreamQueues) (due later : List Completion) : Type 0 where
  pub given : List Completion
  pub listed : later ≡ due ++ given
  pub in_order : AreGiven 0 (map unmoved_queues old) given (reading_place number) (map unmoved_queues new)

pub below-given : {number : ℕ} {old new : List StreamQueues} {due later : List Completion} →
    AreGivenBelow number old new due later → IsGivenSo number old new due later
below-given (none_below {queues = queues} {due = due}) =
    record { given = []; listed = sym (append-nil due); in_order = none_given (omega arith) }
below-given
    (one_below {number = number} {old = old} {new = new} {start = start} {due = due} {later = later} below at) =
    let lower = below-given below in
    let step = given-wider (reading_place number) (reading_place (number + 1)) (omega arith) (omega arith)
    (stream-given number old new due later at) in
    record {
      given = lower.given ++ (at.reads ++ at.writes);
      listed = at.listed ∙ ap (λ d. d ++ (at.reads ++ at.writes)) lower.listed
          ∙ append_assoc start lower.given (at.reads ++ at.writes);
      in_order = given-both lower.in_order step;
    }

-- what is first is there
pub first-there : {Asks : Type 0} (queue : List (Pending Asks)) (head : Pending Asks) →
    slice_get queue 0 ≡ Some head → queue ≡ head ∷ drop 1 queue
first-there [] head is = absurd (cc)
first-there (x ∷ xs) head is = let same : x ≡ head = cc in ap (λ y. y ∷ xs) same

pub is-within : {Asks : Type 0} (side : StreamQueues → List (Pending Asks)) (queues : List StreamQueues)
    (stream : ℕ) (head : Pending Asks) → side no_queues ≡ [] →
    slice_get (side (queues_of_view queues stream)) 0 ≡ Some head → stream < length queues
is-within {Asks = Asks} side queues stream head empty is =
    elim (cases_lt stream (length queues)) [
      | inl within ↦ within
      | inr past ↦
          let none : None ≡ Some head = ap (λ (q : List (Pending Asks)). slice_get q 0)
          (sym empty ∙ ap side (sym (get_or_past queues stream no_queues past))) ∙ is in
          absurd (cc)
    ]

-- how many operations a stream has
abbrev pub pending_of : StreamQueues → ℕ
pending_of queues = length queues.reads + length queues.writes

set-count : (queues : List StreamQueues) (stream : ℕ) (new : StreamQueues) → stream < length queues →
    pending_of (queues_of_view queues stream) ≡ suc (pending_of new) →
    sum_by pending_of queues ≡ suc (sum_by pending_of (set queues stream new))
set-count queues stream new within one = let total = sum_by-set pending_of queues stream new no_queues within in
    omega arith

pub given-count : {from to : ℕ} {queues left : List StreamQueues} {given : List Completion} →
    AreGiven from queues given to left → sum_by pending_of queues ≡ length given + sum_by pending_of left
given-count {queues = queues} (none_given ahead) = omega arith
given-count {queues = queues} (read_given stream ahead first rest) =
    let now = queues_of_view queues stream in
    let new : StreamQueues = record now { reads = drop 1 now.reads } in
    let within = is-within (λ (q : StreamQueues). q.reads) queues stream first.head refl first.first in
    let long : length now.reads ≡ suc (length new.reads) =
    ap length (first-there now.reads first.head first.first) in
    let one : pending_of now ≡ suc (pending_of new) = omega arith in
    let step = set-count queues stream new within one in
    let below = given-count rest in
    omega arith
given-count {queues = queues} (write_given stream ahead first rest) =
    let now = queues_of_view queues stream in
    let new : StreamQueues = record now { writes = drop 1 now.writes } in
    let within = is-within (λ (q : StreamQueues). q.writes) queues stream first.head refl first.first in
    let long : length now.writes ≡ suc (length new.writes) =
    ap length (first-there now.writes first.head first.first) in
    let one : pending_of now ≡ suc (pending_of new) = omega arith in
    let step = set-count queues stream new within one in
    let below = given-count rest in
    omega arith

pub rested-count : (queues : List StreamQueues) → sum_by pending_of (map unmoved_queues queues) ≡
    sum_by pending_of queues
rested-count [] = refl
rested-count (q ∷ queues) =
    let reads = length-map q.reads unmoved in
    let writes = length-map q.writes unmoved in
    let here : pending_of (unmoved_queues q) ≡ pending_of q = omega arith in
    let below = rested-count queues in
    let first = sum_by-cons pending_of (unmoved_queues q) (map unmoved_queues queues) in
    let second = sum_by-cons pending_of q queues in
    omega arith

pub All-drop : {X : Type 0} (P : X → Type 0) (xs : List X) → All P xs → All P (drop 1 xs)
All-drop P [] all = all
All-drop P (x ∷ xs) all = All-tail P x xs all

-- what is left is known
pub given-known : (script : ScriptModel) {from to : ℕ} {queues left : List StreamQueues} {given : List Completion} →
    AreGiven from queues given to left → AreKnown script queues → AreKnown script left
given-known script (none_given ahead) known = known
given-known script {queues = queues} (read_given stream ahead first rest) known =
    let now = queues_of_view queues stream in
    given-known script rest (each-set (AreKnownAt script) queues stream (record now { reads = drop 1 now.reads })
    (record {
      reads = All-drop (IsKnown script reading_of stream) now.reads (known stream).reads;
      writes = (known stream).writes;
    }) known)
given-known script {queues = queues} (write_given stream ahead first rest) known =
    let now = queues_of_view queues stream in
    given-known script rest (each-set (AreKnownAt script) queues stream (record now { writes = drop 1 now.writes })
    (record {
      reads = (known stream).reads;
      writes = All-drop (IsKnown script writing_of stream) now.writes
          (known stream).writes;
    }) known)
