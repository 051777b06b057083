-- How a queue of operations is served, head by head.
use Rattle.std.proofs.Common.{◌≡◌, ℕ, ◌+◌, ◌-◌, Bool, true, Option, None, Some, List, [], ◌∷◌, ◌++◌, length, map, zero, suc, refl, sym, ap, subst, ◌∙◌, append_assoc, arith}
use Rattle.std.specs.List.{All}
use Rattle.std.specs.Option.{IfSome}
use Rattle.std.proofs.lemmas.List.{append-nil, length-append, length-map}
use Rattle.asio_types.specs.declared.code.Code.{Code}
use Rattle.stream_rules.specs.Cutting.{Course}
use Rattle.stream_rules.specs.declared.queue.Completion.{Completion}
use Rattle.stream_rules.specs.Queue.{Pending, QueueServed, Side, completed_first, served_head, served_queue, reading_side, writing_side}
use Rattle.history_rules.specs.Untold.{may_give_read, may_give_write}
use Rattle.stream_rules.specs.Serving.{Outcome, Reading, Writing, Some_bytes, All_bytes, Until}
use Rattle.stream_rules.specs.Stream.{Stream}
use Rattle.composed_ops.specs.StreamOperation.{StreamOperation, Reads, Writes}
use Rattle.composed_ops.specs.Progress.{IsSearched, IsSearchedBy, StreamProgress}
use Rattle.reactor_trait.specs.Reactor.{Outside}
use Rattle.proactor_core.specs.declared.pending.PendingOp.{PendingOp}
use Rattle.proactor_core.specs.Due.{Due, listed}
use Rattle.proactor_core.specs.Held.{HeldBytes}
use Rattle.proactor_core.specs.Pending.{progress_in, pending_read, pending_write, reading_asked, writing_asked, unmoved, AreReads, AreWrites, GivesDue, GivesInOrder, IsNewRead, IsServedBy}
use Rattle.proactor_core.specs.Reactor.{whole_told, ChangesOne}
use Rattle.proactor_core.specs.Reading.{exchange_at, may_give, Ends, AsksToRead, MayRead}
use Rattle.history_rules.specs.State.{StreamQueues}
use Rattle.proactor_core.specs.Streams.{IsStreamServed, StreamView}
use Rattle.proactor_core.specs.Writing.{AsksToWrite, MayWrite}

-- what is known of a reactor that tells its bytes, before and after some calls
pub join-told : (first told : Option Outside) (number : ℕ) (P Q R : Type 0) → ChangesOne number first told →
    (P → Q → R) → IfSome first (λ _. P) → IfSome told (λ _. Q) → IfSome first (λ _. R)
join-told None told number P Q R changes joined p q = tt
join-told (Some before) None number P Q R changes joined p q = absurd (cc)
join-told (Some before) (Some outside) number P Q R changes joined p q = joined p q

-- what is due after two lists
pub listed-twice : (first second : List Completion) (due : Due) →
    listed second (listed first due) ≡ listed (first ++ second) due
listed-twice first second due =
    let both = append_assoc due.coming first second in
    let count : (due.spare - length first) - length second ≡ due.spare - length (first ++ second) =
    omega (arith, length-append first second) in
    rw (both, count)

-- the head of a queue completes
head-completes : {Asks : Type 0} (side : Side Asks) (head : Pending Asks) (queue : List (Pending Asks))
    (there left : Stream) (outcome : Outcome) → (side.served head.asks head.moved there).outcome ≡ Some outcome →
    side.after head.asks head.moved (side.served head.asks head.moved there).used there ≡ left →
    served_queue side (head ∷ queue) there ≡ completed_first head.op outcome (served_queue side queue left)
head-completes {Asks = Asks} side head queue there left outcome is after =
    let served = side.served head.asks head.moved there in
    let behind = side.after head.asks head.moved served.used there in
    let with_outcome = λ (o : Option Outcome).
    served_head head queue served.used behind (served_queue side queue behind) o in
    let with_left = λ (l : Stream). completed_first head.op outcome (served_queue side queue l) in
    ap with_outcome is ∙ ap with_left after

-- the head of a queue stays
pub record HeadStays {Asks : Type 0} (side : Side Asks) (head : Pending Asks) (queue : List (Pending Asks))
    (there left : Stream) (moved : ℕ) : Type 0 where
  pub completed : (served_queue side (head ∷ queue) there).completed ≡ []
  pub staying : (served_queue side (head ∷ queue) there).staying ≡ record head { moved = moved } ∷ queue
  pub stream : (served_queue side (head ∷ queue) there).stream ≡ left

head-stays : {Asks : Type 0} (side : Side Asks) (head : Pending Asks) (queue : List (Pending Asks))
    (there left : Stream) (moved : ℕ) → (side.served head.asks head.moved there).outcome ≡ None →
    head.moved + (side.served head.asks head.moved there).used ≡ moved →
    side.after head.asks head.moved (side.served head.asks head.moved there).used there ≡ left →
    HeadStays side head queue there left moved
head-stays {Asks = Asks} side head queue there left moved is moves after =
    let served = side.served head.asks head.moved there in
    let behind = side.after head.asks head.moved served.used there in
    let whole =
    ap (λ (o : Option Outcome). served_head head queue served.used behind (served_queue side queue behind) o) is in
    record {
      completed = ap (λ (s : QueueServed Asks). s.completed) whole;
      staying =
          ap (λ (s : QueueServed Asks). s.staying) whole ∙ ap (λ (n : ℕ). record head { moved = n } ∷ queue) moves;
      stream = ap (λ (s : QueueServed Asks). s.stream) whole ∙ after;
    }

-- what was done before, and what serving the rest gives, is what serving the whole queue gives
pub record RulesSoFar {Asks : Type 0} (side : Side Asks) (first queue : List (Pending Asks)) (start there : Stream)
    (old new : Due) : Type 0 where
  pub due : listed (served_queue side queue there).completed new ≡ listed (served_queue side first start).completed old
  pub staying : (served_queue side queue there).staying ≡ (served_queue side first start).staying
  pub stream : (served_queue side queue there).stream ≡ (served_queue side first start).stream

pub rules-begin : {Asks : Type 0} (side : Side Asks) (queue : List (Pending Asks)) (there : Stream) (due : Due) →
    RulesSoFar side queue queue there there due due
rules-begin side queue there due = record { due = refl; staying = refl; stream = refl }

pub rules-go-on : {Asks : Type 0} (side : Side Asks) (first queue : List (Pending Asks)) (head : Pending Asks)
    (start there left : Stream) (old now new : Due) (outcome : Outcome) →
    (side.served head.asks head.moved there).outcome ≡ Some outcome →
    side.after head.asks head.moved (side.served head.asks head.moved there).used there ≡ left →
    new ≡ listed (record { op = head.op; outcome = outcome } ∷ []) now →
    RulesSoFar side first (head ∷ queue) start there old now → RulesSoFar side first queue start left old new
rules-go-on {Asks = Asks} side first queue head start there left old now new outcome is after lists so_far =
    let step = head-completes side head queue there left outcome is after in
    let given : Completion = record { op = head.op; outcome = outcome } in
    let rest = (served_queue side queue left).completed in
    record {
      due =
          ap (listed rest) lists ∙ listed-twice (given ∷ []) rest now
          ∙ ap (λ (s : QueueServed Asks). listed s.completed now) (sym step) ∙ so_far.due;
      staying = ap (λ (s : QueueServed Asks). s.staying) (sym step) ∙ so_far.staying;
      stream = ap (λ (s : QueueServed Asks). s.stream) (sym step) ∙ so_far.stream;
    }

listed-none : (due : Due) → listed [] due ≡ due
listed-none due =
    let same = append-nil due.coming in
    let count : due.spare - 0 ≡ due.spare = omega arith in
    rw (same, count)

-- the queue is empty
pub rules-end : {Asks : Type 0} (side : Side Asks) (first : List (Pending Asks)) (start there : Stream)
    (old new : Due) → RulesSoFar side first [] start there old new → IsServedBy side first [] start there old new
rules-end side first start there old new so_far = record {
  due = sym (listed-none new) ∙ so_far.due;
  stays = so_far.staying;
  stream = so_far.stream;
}

-- the head stays
pub rules-stay : {Asks : Type 0} (side : Side Asks) (first queue : List (Pending Asks)) (head : Pending Asks)
    (start there left : Stream) (old new : Due) (moved : ℕ) →
    (side.served head.asks head.moved there).outcome ≡ None →
    head.moved + (side.served head.asks head.moved there).used ≡ moved →
    side.after head.asks head.moved (side.served head.asks head.moved there).used there ≡ left →
    RulesSoFar side first (head ∷ queue) start there old new →
    IsServedBy side first (record head { moved = moved } ∷ queue) start left old new
rules-stay side first queue head start there left old new moved is moves after so_far =
    let step = head-stays side head queue there left moved is moves after in
    record {
      due = sym (listed-none new) ∙ ap (λ (cs : List Completion). listed cs new) (sym step.completed) ∙ so_far.due;
      stays = sym step.staying ∙ so_far.staying;
      stream = sym step.stream ∙ so_far.stream;
    }

-- what serving a read gave by the rules
pub record ReadEnds (asks : StreamOperation) (moved : ℕ) (there left : Stream) (outcome : Option Outcome) : Type 0 where
  pub outcome_is : (reading_side.served (reading_asked asks) moved there).outcome ≡ outcome
  pub after : reading_side.after (reading_asked asks) moved (reading_side.served (reading_asked asks) moved there).used
      there ≡ left

pub record WriteEnds (asks : StreamOperation) (moved : ℕ) (there left : Stream) (outcome : Option Outcome) : Type 0 where
  pub outcome_is : (writing_side.served (writing_asked asks) moved there).outcome ≡ outcome
  pub after : writing_side.after (writing_asked asks) moved (writing_side.served (writing_asked asks) moved there).used
      there ≡ left

pub read-completes : (told left : Option Outside) (number : ℕ) (asks : StreamOperation) (moved : ℕ) (latest : Option ℕ)
    (next : StreamProgress) (held kept : List ℕ) (outcome : Outcome) →
    (let progress : StreamProgress = record { asks = asks; moved = moved; latest = latest } in
    AsksToRead asks →
    Ends (exchange_at progress held told number) (exchange_at next kept left number) (Some outcome) →
    ReadEnds asks moved (whole_told held told number) (whole_told kept left number) (Some outcome))
read-completes told left number (Reads reading) moved latest next held kept outcome = λ reads ends. record {
  outcome_is = ends.0;
  after = ends.1;
}
read-completes told left number (Writes writing) moved latest next held kept outcome = λ reads ends. absurd reads

pub read-stays : (told left : Option Outside) (number : ℕ) (asks : StreamOperation) (moved : ℕ) (latest : Option ℕ)
    (next : StreamProgress) (held kept : List ℕ) →
    (let progress : StreamProgress = record { asks = asks; moved = moved; latest = latest } in
    AsksToRead asks → Ends (exchange_at progress held told number) (exchange_at next kept left number) None →
    ReadEnds asks moved (whole_told held told number) (whole_told kept left number) None
    × (moved + (reading_side.served (reading_asked asks) moved (whole_told held told number)).used ≡ next.moved))
read-stays told left number (Reads reading) moved latest next held kept = λ reads ends. (
  record {
    outcome_is = ap (λ (course : Course). course.outcome) ends;
    after = ap (λ (course : Course). course.stream) ends;
  },
  ap (λ (course : Course). course.moved) ends,
)
read-stays told left number (Writes writing) moved latest next held kept = λ reads ends. absurd reads

pub write-completes : (told left : Option Outside) (number : ℕ) (asks : StreamOperation) (moved : ℕ) (latest : Option ℕ)
    (next : StreamProgress) (held kept : List ℕ) (outcome : Outcome) →
    (let progress : StreamProgress = record { asks = asks; moved = moved; latest = latest } in
    AsksToWrite asks →
    Ends (exchange_at progress held told number) (exchange_at next kept left number) (Some outcome) →
    WriteEnds asks moved (whole_told held told number) (whole_told kept left number) (Some outcome))
write-completes told left number (Reads reading) moved latest next held kept outcome = λ writes ends. absurd writes
write-completes told left number (Writes writing) moved latest next held kept outcome = λ writes ends. record {
  outcome_is = ends.0;
  after = ends.1;
}

pub write-stays : (told left : Option Outside) (number : ℕ) (asks : StreamOperation) (moved : ℕ) (latest : Option ℕ)
    (next : StreamProgress) (held kept : List ℕ) →
    (let progress : StreamProgress = record { asks = asks; moved = moved; latest = latest } in
    AsksToWrite asks → Ends (exchange_at progress held told number) (exchange_at next kept left number) None →
    WriteEnds asks moved (whole_told held told number) (whole_told kept left number) None
    × (moved + (writing_side.served (writing_asked asks) moved (whole_told held told number)).used ≡ next.moved))
write-stays told left number (Reads reading) moved latest next held kept = λ writes ends. absurd writes
write-stays told left number (Writes writing) moved latest next held kept = λ writes ends. (
  record {
    outcome_is = ap (λ (course : Course). course.outcome) ends;
    after = ap (λ (course : Course). course.stream) ends;
  },
  ap (λ (course : Course). course.moved) ends,
)

-- what the heads gave so far, and what the rest may give
pub record GivesSoFar {Asks : Type 0} (may : Asks → Code → ℕ → Bool) (first queue : List (Pending Asks)) (old new : Due)
    : Type 0 where
  pub completed : List Completion
  pub due : new ≡ listed completed old
  pub then : (staying : List (Pending Asks)) (later : List Completion) → GivesInOrder may queue staying later →
      GivesInOrder may first staying (completed ++ later)

pub gives-begin : {Asks : Type 0} (may : Asks → Code → ℕ → Bool) (queue : List (Pending Asks)) (due : Due) →
    GivesSoFar may queue queue due due
gives-begin may queue due = record { completed = []; due = sym (listed-none due); then = λ staying later gives. gives }

pub gives-go-on : {Asks : Type 0} (may : Asks → Code → ℕ → Bool) (first queue : List (Pending Asks))
    (head : Pending Asks) (old now new : Due) (outcome : Outcome) → may head.asks outcome.0 outcome.1 ≡ true →
    new ≡ listed (record { op = head.op; outcome = outcome } ∷ []) now → GivesSoFar may first (head ∷ queue) old now →
    GivesSoFar may first queue old new
gives-go-on {Asks = Asks} may first queue head old now new outcome allowed lists so_far =
    let given : Completion = record { op = head.op; outcome = outcome } in
    record {
      completed = so_far.completed ++ given ∷ [];
      due = lists ∙ ap (listed (given ∷ [])) so_far.due ∙ listed-twice so_far.completed (given ∷ []) old;
      then = λ staying later gives.
          subst (GivesInOrder may first staying) (sym (append_assoc so_far.completed (given ∷ []) later))
          (so_far.then staying (given ∷ later) (refl, allowed, gives));
    }

-- the others stay
pub gives-end : {Asks : Type 0} (may : Asks → Code → ℕ → Bool) (first queue staying : List (Pending Asks))
    (old new : Due) → map unmoved queue ≡ map unmoved staying → GivesSoFar may first queue old new →
    GivesDue may first staying old new
gives-end may first queue staying old new same so_far = record {
  completed = so_far.completed;
  due = so_far.due;
  in_order = subst (GivesInOrder may first staying) (append-nil so_far.completed) (so_far.then staying [] same);
}

-- a read before its first step may be asked, whatever is held
searched-first : (asks : StreamOperation) (held : List ℕ) → IsSearchedBy asks None held
searched-first (Reads (Some_bytes size)) held = tt
searched-first (Reads (All_bytes size)) held = tt
searched-first (Reads (Until delimiter max)) held = refl
searched-first (Writes writing) held = tt

new-read : (buffer : ℕ) (held : HeldBytes) (progress : StreamProgress) → IsNewRead buffer held.room progress →
    MayRead buffer held progress
new-read buffer held progress new = record {
  reads = new.reads;
  under_way = new.under_way;
  searched =
      subst (λ (p : StreamProgress). IsSearched p held.bytes) (sym new.fresh) (searched-first progress.asks held.bytes);
  fits = new.fits;
  holds = new.holds;
}

-- the reads behind a head
pub reads-behind : (buffer : ℕ) (held : HeldBytes) (queue : List PendingOp) →
    All (λ pending. IsNewRead buffer held.room (progress_in pending)) queue → AreReads buffer held queue
reads-behind buffer held [] new = tt
reads-behind buffer held (head ∷ queue) new =
    (new-read buffer held (progress_in head) (new 0 head (omega arith)), λ k d within. new (suc k) d (omega arith))

pub told-any : (told : Option Outside) (P : Type 0) → P → IfSome told (λ _. P)
told-any None P p = tt
told-any (Some outside) P p = p

pub may-read : (asks : StreamOperation) (code : Code) (size : ℕ) → AsksToRead asks → may_give asks code size ≡ true →
    may_give_read (reading_asked asks) code size ≡ true
may-read (Reads reading) code size reads may = may
may-read (Writes writing) code size reads may = absurd reads

pub may-write : (asks : StreamOperation) (code : Code) (size : ℕ) → AsksToWrite asks → may_give asks code size ≡ true →
    may_give_write (writing_asked asks) code size ≡ true
may-write (Reads reading) code size writes may = absurd writes
may-write (Writes writing) code size writes may = may

-- a head that stays is the same operation
pub head-unmoved : {Asks : Type 0} (see : PendingOp → Pending Asks) (head later : PendingOp)
    (queue all new : List PendingOp) → all ≡ head ∷ queue → new ≡ later ∷ queue →
    unmoved (see head) ≡ unmoved (see later) → map unmoved (map see all) ≡ map unmoved (map see new)
head-unmoved {Asks = Asks} see head later queue all new is now same =
    let rest : List (Pending Asks) = map unmoved (map see queue) in
    rw (is, now) (ap (λ (p : Pending Asks). p ∷ rest) same)

-- a read completed
pub reads-go-on : (first told left : Option Outside) (number : ℕ) (firsts : List (Pending Reading)) (head : PendingOp)
    (queue : List PendingOp) (next : StreamProgress) (start held kept : List ℕ) (old now new : Due) (outcome : Outcome) →
    ChangesOne number first told → AsksToRead (progress_in head).asks →
    new ≡ listed (record { op = head.op; outcome = outcome } ∷ []) now →
    IfSome told
    (λ _. Ends (exchange_at (progress_in head) held told number) (exchange_at next kept left number) (Some outcome)) →
    IfSome first (λ _.
    RulesSoFar reading_side firsts (map pending_read (head ∷ queue)) (whole_told start first number)
    (whole_told held told number) old now) →
    IfSome first (λ _.
    RulesSoFar reading_side firsts (map pending_read queue) (whole_told start first number)
    (whole_told kept left number) old new)
reads-go-on first told left number firsts head queue next start held kept old now new outcome changes reads lists follows so_far =
    let before =
    RulesSoFar reading_side firsts (map pending_read (head ∷ queue)) (whole_told start first number)
    (whole_told held told number) old now in
    let after =
    RulesSoFar reading_side firsts (map pending_read queue) (whole_told start first number)
    (whole_told kept left number) old new in
    let ended =
    Ends (exchange_at (progress_in head) held told number) (exchange_at next kept left number) (Some outcome) in
    let progress = progress_in head in
    let joined : before → ended → after = λ p q.
    let ends =
    read-completes told left number progress.asks progress.moved progress.latest next held kept outcome reads q in
    rules-go-on reading_side firsts (map pending_read queue) (pending_read head) (whole_told start first number)
    (whole_told held told number) (whole_told kept left number) old now new outcome ends.outcome_is ends.after lists p
    in
    join-told first told number before ended after changes joined so_far follows

-- a write completed
pub writes-go-on : (first told left : Option Outside) (number : ℕ) (firsts : List (Pending Writing)) (head : PendingOp)
    (queue : List PendingOp) (next : StreamProgress) (held : List ℕ) (old now new : Due) (outcome : Outcome) →
    ChangesOne number first told → AsksToWrite (progress_in head).asks →
    new ≡ listed (record { op = head.op; outcome = outcome } ∷ []) now →
    IfSome told
    (λ _. Ends (exchange_at (progress_in head) held told number) (exchange_at next held left number) (Some outcome)) →
    IfSome first (λ _.
    RulesSoFar writing_side firsts (map pending_write (head ∷ queue)) (whole_told held first number)
    (whole_told held told number) old now) →
    IfSome first (λ _.
    RulesSoFar writing_side firsts (map pending_write queue) (whole_told held first number)
    (whole_told held left number) old new)
writes-go-on first told left number firsts head queue next held old now new outcome changes writes lists follows so_far =
    let before =
    RulesSoFar writing_side firsts (map pending_write (head ∷ queue)) (whole_told held first number)
    (whole_told held told number) old now in
    let after =
    RulesSoFar writing_side firsts (map pending_write queue) (whole_told held first number)
    (whole_told held left number) old new in
    let ended =
    Ends (exchange_at (progress_in head) held told number) (exchange_at next held left number) (Some outcome) in
    let progress = progress_in head in
    let joined : before → ended → after = λ p q.
    let ends =
    write-completes told left number progress.asks progress.moved progress.latest next held held outcome writes q in
    rules-go-on writing_side firsts (map pending_write queue) (pending_write head) (whole_told held first number)
    (whole_told held told number) (whole_told held left number) old now new outcome ends.outcome_is ends.after lists p
    in
    join-told first told number before ended after changes joined so_far follows

-- a read stays
pub reads-stay : (first told left : Option Outside) (number : ℕ) (firsts : List (Pending Reading))
    (head later : PendingOp) (queue : List PendingOp) (start held kept : List ℕ) (old new : Due) →
    ChangesOne number first told → AsksToRead (progress_in head).asks →
    pending_read later ≡ record (pending_read head) { moved = (progress_in later).moved } →
    IfSome told (λ _.
    Ends (exchange_at (progress_in head) held told number) (exchange_at (progress_in later) kept left number)
    None) →
    IfSome first (λ _.
    RulesSoFar reading_side firsts (map pending_read (head ∷ queue)) (whole_told start first number)
    (whole_told held told number) old new) →
    IfSome first (λ _.
    IsServedBy reading_side firsts (map pending_read (later ∷ queue)) (whole_told start first number)
    (whole_told kept left number) old new)
reads-stay first told left number firsts head later queue start held kept old new changes reads same follows so_far =
    let before =
    RulesSoFar reading_side firsts (map pending_read (head ∷ queue)) (whole_told start first number)
    (whole_told held told number) old new in
    let after =
    IsServedBy reading_side firsts (map pending_read (later ∷ queue)) (whole_told start first number)
    (whole_told kept left number) old new in
    let ended =
    Ends (exchange_at (progress_in head) held told number) (exchange_at (progress_in later) kept left number) None in
    let progress = progress_in head in
    let joined : before → ended → after = λ p q.
    let ends =
    read-stays told left number progress.asks progress.moved progress.latest (progress_in later) held kept reads q in
    let stays =
    rules-stay reading_side firsts (map pending_read queue) (pending_read head) (whole_told start first number)
    (whole_told held told number) (whole_told kept left number) old new (progress_in later).moved ends.0.outcome_is
    ends.1 ends.0.after p in
    let rest : List (Pending Reading) = map pending_read queue in
    subst
    (λ (h : Pending Reading).
    IsServedBy reading_side firsts (h ∷ rest) (whole_told start first number) (whole_told kept left number) old new)
    (sym same) stays in
    join-told first told number before ended after changes joined so_far follows

-- a write stays
pub writes-stay : (first told left : Option Outside) (number : ℕ) (firsts : List (Pending Writing))
    (head later : PendingOp) (queue : List PendingOp) (held : List ℕ) (old new : Due) → ChangesOne number first told →
    AsksToWrite (progress_in head).asks →
    pending_write later ≡ record (pending_write head) { moved = (progress_in later).moved } →
    IfSome told (λ _.
    Ends (exchange_at (progress_in head) held told number) (exchange_at (progress_in later) held left number)
    None) →
    IfSome first (λ _.
    RulesSoFar writing_side firsts (map pending_write (head ∷ queue)) (whole_told held first number)
    (whole_told held told number) old new) →
    IfSome first (λ _.
    IsServedBy writing_side firsts (map pending_write (later ∷ queue)) (whole_told held first number)
    (whole_told held left number) old new)
writes-stay first told left number firsts head later queue held old new changes writes same follows so_far =
    let before =
    RulesSoFar writing_side firsts (map pending_write (head ∷ queue)) (whole_told held first number)
    (whole_told held told number) old new in
    let after =
    IsServedBy writing_side firsts (map pending_write (later ∷ queue)) (whole_told held first number)
    (whole_told held left number) old new in
    let ended =
    Ends (exchange_at (progress_in head) held told number) (exchange_at (progress_in later) held left number) None in
    let progress = progress_in head in
    let joined : before → ended → after = λ p q.
    let ends =
    write-stays told left number progress.asks progress.moved progress.latest (progress_in later) held held writes q in
    let stays =
    rules-stay writing_side firsts (map pending_write queue) (pending_write head) (whole_told held first number)
    (whole_told held told number) (whole_told held left number) old new (progress_in later).moved ends.0.outcome_is
    ends.1 ends.0.after p in
    let rest : List (Pending Writing) = map pending_write queue in
    subst
    (λ (h : Pending Writing).
    IsServedBy writing_side firsts (h ∷ rest) (whole_told held first number) (whole_told held left number) old new)
    (sym same) stays in
    join-told first told number before ended after changes joined so_far follows

-- all completed
pub rules-over : {Asks : Type 0} (side : Side Asks) (told : Option Outside) (first queue : List (Pending Asks))
    (start there : Stream) (old new : Due) → queue ≡ [] →
    IfSome told (λ _. RulesSoFar side first queue start there old new) →
    IfSome told (λ _. IsServedBy side first queue start there old new)
rules-over side None first queue start there old new none so_far = tt
rules-over side (Some outside) first queue start there old new none so_far =
    let over = rules-end side first start there old new (rw none at so_far) in
    rw none over

-- a write that stays is in front of the others
pub writes-kept : (head later : PendingOp) (queue : List PendingOp) → MayWrite (progress_in later) →
    AreWrites (head ∷ queue) → AreWrites (later ∷ queue)
writes-kept head later queue may writes zero d within = may
writes-kept head later queue may writes (suc k) d within = writes (suc k) d within

-- nothing completes
pub gives-none : {Asks : Type 0} (may : Asks → Code → ℕ → Bool) (queue : List (Pending Asks)) (due : Due) →
    GivesDue may queue queue due due
gives-none may queue due = record { completed = []; due = sym (listed-none due); in_order = refl }

-- each operation completes or stays
pub gives-count : {Asks : Type 0} (may : Asks → Code → ℕ → Bool) (queue staying : List (Pending Asks))
    (completed : List Completion) → GivesInOrder may queue staying completed →
    length completed + length staying ≡ length queue
gives-count {Asks = Asks} may queue staying [] gives =
    let unmoved : Pending Asks → Pending Asks = unmoved in
    let counts : length (map unmoved queue) ≡ length (map unmoved staying) = ap length gives in
    omega (arith, counts, length-map queue unmoved, length-map staying unmoved)
gives-count may [] staying (given ∷ completed) gives = absurd gives
gives-count may (head ∷ queue) staying (given ∷ completed) gives =
    omega (arith, gives-count may queue staying completed gives.2)

-- one more in front of a list, and behind it
pub all-cons : {X : Type 0} (P : X → Type 0) (x : X) (xs : List X) → P x → All P xs → All P (x ∷ xs)
all-cons P x xs px all zero d within = px
all-cons P x xs px all (suc k) d within = all k d (omega arith)

pub all-pushed : {X : Type 0} (P : X → Type 0) (xs : List X) (x : X) → P x → All P xs → All P (xs ++ x ∷ [])
all-pushed P [] x px all = all-cons P x [] px all
all-pushed P (y ∷ xs) x px all =
    all-cons P y (xs ++ x ∷ []) (all 0 y (omega arith)) (all-pushed P xs x px (λ k d w. all (suc k) d (omega arith)))

-- one more read waits behind the others
pub reads-pushed : (buffer : ℕ) (held : HeldBytes) (queue : List PendingOp) (new : PendingOp) →
    IsNewRead buffer held.room (progress_in new) → AreReads buffer held queue → AreReads buffer held (queue ++ new ∷ [])
reads-pushed buffer held [] new fresh reads =
    (new-read buffer held (progress_in new) fresh, λ k d within. absurd (omega arith))
reads-pushed buffer held (head ∷ queue) new fresh reads =
    (reads.0, all-pushed (λ pending. IsNewRead buffer held.room (progress_in pending)) queue new fresh reads.1)

-- the reads of a stream are served, and then its writes
pub stream-served : (before after : StreamView) (there between left : Stream) (old now new : Due) →
    after.closed ≡ before.closed → IsServedBy reading_side before.reads after.reads there between old now →
    IsServedBy writing_side before.writes after.writes between left now new →
    IsStreamServed before after there left old new
stream-served before after there between left old now new same reads writes =
    let first = served_queue reading_side before.reads there in
    let next =
    subst (λ (s : Stream). IsServedBy writing_side before.writes after.writes s left now new) reads.stream writes in
    let second = served_queue writing_side before.writes first.stream in
    let queues = λ (c : Bool) (r : List (Pending Reading)) (w : List (Pending Writing)).
    let q : StreamQueues = record { closed = c; reads = r; writes = w } in q in
    record {
      due = next.due ∙ ap (listed second.completed) reads.due ∙ listed-twice first.completed second.completed old;
      queues =
          ap (λ c. queues c after.reads after.writes) same ∙ ap (λ r. queues before.closed r after.writes) reads.stays
          ∙ ap (λ w. queues before.closed first.staying w) next.stays;
      stream = next.stream;
    }
