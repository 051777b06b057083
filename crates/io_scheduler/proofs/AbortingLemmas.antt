-- The waits of a timer are cancelled: the first of them completes.
use Rattle.std.proofs.Common.{arith, ap, refl, subst, sym, ◌∙◌}
use Rattle.std.specs.Prelude.{◌≡◌, ◌<◌, ℕ, ◌+◌, ◌==◌, cond, not, Bool, true, false, List, [], ◌∷◌, Some, None, map, take}
use Rattle.std.specs.List.{filter}
use Rattle.asio_types.specs.declared.code.Code.TheVariants as code
use Rattle.io_rules.specs.declared.event.Event.{Event}
use Rattle.io_rules.specs.declared.event.Event.TheVariants as event
use Rattle.io_rules.specs.declared.limits.Limits.{Limits}
use Rattle.io_rules.specs.declared.name.Lane.{Lane}
use Rattle.io_rules.specs.declared.name.Name.{Name}
use Rattle.io_rules.specs.declared.op.Op.{Op}
use Rattle.io_rules.specs.declared.op.Phase.{Phase}
use Rattle.io_rules.specs.declared.op.Phase.TheVariants as phase
use Rattle.io_rules.specs.declared.request.Marks.{Marks}
use Rattle.io_rules.specs.Cancelling.{cancelled, cancelled_phase, is_tried, ops_cancelled}
use Rattle.io_rules.specs.InOrder.{strand_in}
use Rattle.io_rules.specs.Legal.{IsLegal, IsStep, MayHappen, after, state_of}
use Rattle.io_rules.specs.Names.{Names}
use Rattle.io_rules.specs.Ops.{phase_changed}
use Rattle.io_rules.specs.Room.{places_in}
use Rattle.io_rules.specs.State.{ContextState}
use Rattle.io_rules.proofs.FitLemmas.{FitsStrand, FitsWith, runs_on, tied_to}
use Rattle.io_rules.proofs.FitLemmas as fits_of
use Rattle.io_rules.proofs.RoomLemmas.{places_add_up}
use Rattle.io_rules.proofs.StageLemmas.{Stage, cancel_keeps, stage_of, staged}
use Rattle.io_rules.proofs.StrandStateLemmas.{strands_fit}
use Rattle.io_rules.proofs.StrandLemmas.{by_test}
use Rattle.io_rules.proofs.TotalLemmas.{same, sum_by-total, total, total-kept}
use Rattle.io_strands.specs.declared.ready.ReadyOp.{ReadyOp}
use Rattle.io_strands.specs.Cell.{Cell}
use Rattle.io_jobs.specs.Listed.{JobList}
use Rattle.io_timers.specs.declared.pending.PendingWait.{PendingWait}
use Rattle.io_timers.specs.Kept.{Each, Rises}
use Rattle.io_timers.specs.Pending.{Entry, IsOnly, Timers, first_in, is_of, is_other, number_of, numbered_in, waits_on, without_wait}
use Rattle.io_timers.proofs.FoundLemmas.{apart_test}
use Rattle.io_timers.proofs.OrderLemmas.{each-weaker, filter-all}
use Rattle.io_scheduler.specs.declared.counts.Counts.{Counts}
use Rattle.io_scheduler.specs.declared.tally.Tally.{Tally}
use Rattle.io_scheduler.specs.declared.waiting.Waiting.{Waiting}
use Rattle.io_scheduler.specs.Aborting.{IsAbortedIf, IsCancelling, numbers_on, those_left, those_of, with_changed}
use Rattle.io_scheduler.specs.Come.{HaveCome, MayCome, completions, with_events}
use Rattle.io_scheduler.specs.Completed.{MayBeReadyOn, readied_cells, readied_jobs}
use Rattle.io_scheduler.specs.Expired.{left_settled, left_waits, wait_done}
use Rattle.io_scheduler.specs.Tallied.{tally_called}
use Rattle.io_scheduler.specs.Waits.{ArePending, IsThere, IsWaitingAs}
use Rattle.io_scheduler.proofs.CancelledLemmas.{IsPendingWait, IsToCancel, complete_in_turn, to_cancel}
use Rattle.io_scheduler.proofs.CompletedLemmas.{ready_with}
use Rattle.io_scheduler.proofs.ExpiredLemmas.{room_on, shows_on, there_tied}
use Rattle.io_scheduler.proofs.TallyLemmas.{tally_completes, tally_incomplete}
use Rattle.io_scheduler.proofs.WaitsLemmas.{pending_at, unready, waits_left}

-- a cancellation changes no sum that knows no more of a phase than this
pub total-cancelled : (f : Op → ℕ) (s : ContextState) →
    ((t : Bool) (op : Op) → f (record op { phase = cancelled_phase t op.phase }) ≡ f op) → (numbers : List ℕ)
    (ops : List Op) → total f (ops_cancelled s numbers ops) ≡ total f ops
total-cancelled f s keeps [] ops = refl
total-cancelled f s keeps (m ∷ numbers) ops =
    total-cancelled f s keeps numbers (phase_changed m (λ op. cancelled_phase (is_tried s op) op.phase) ops)
    ∙ total-kept f m (λ op. cancelled_phase (is_tried s op) op.phase) (λ op. keeps (is_tried s op) op) ops

pub same_places : (t : Bool) (p : Phase) → places_in (cancelled_phase t p) ≡ places_in p
same_places true (phase.Pending moved cancelled) = refl
same_places false (phase.Pending moved cancelled) = refl
same_places t (phase.Settled code size) = refl
same_places t (phase.Ready code size) = refl
same_places t (phase.Running own grant spares) = refl

same_stage : (h : ℕ → Lane → Stage → ℕ) (t : Bool) (op : Op) →
    staged h (record op { phase = cancelled_phase t op.phase }) ≡ staged h op
same_stage h t op = ap (h op.number op.lane) (cancel_keeps t op.phase)

fits_before : (s v : ContextState) (numbers : List ℕ) (name : Name) →
    s ≡ with_changed s.names s.timers (cancelled numbers v) → s.names.strands ≡ v.names.strands → FitsStrand s name →
    FitsStrand v name
fits_before s v numbers name is same_places fits =
    let at : FitsStrand (with_changed s.names s.timers (cancelled numbers v)) name =
    subst (λ t. FitsStrand t name) is fits in
    let tied = total-cancelled (staged (tied_to name)) v (same_stage (tied_to name)) numbers v.ops in
    let runs = total-cancelled (staged (runs_on name)) v (same_stage (runs_on name)) numbers v.ops in
    let waits = total-cancelled (staged (fits_of.waits_on name)) v (same_stage (fits_of.waits_on name)) numbers v.ops in
    let le = at.tied_fits in
    subst
    (λ places. FitsWith (total (staged (tied_to name)) v.ops) (total (staged (runs_on name)) v.ops)
    (total (staged (fits_of.waits_on name)) v.ops) (strand_in places v.strands name)) same_places
    (record {
      tied_fits = omega (arith, le, tied);
      runs_fits = sym runs ∙ at.runs_fits;
      waits_fits = sym waits ∙ at.waits_fits;
    })

places_before : (limits : Limits) (s v : ContextState) (numbers : List ℕ) →
    s ≡ with_changed s.names s.timers (cancelled numbers v) →
    s.room + total (λ (op : Op). places_in op.phase) s.ops ≡ limits.operations →
    v.room + total (λ (op : Op). places_in op.phase) v.ops ≡ limits.operations
places_before limits s v numbers is places =
    let at = subst (λ (t : ContextState). t.room + total (λ (op : Op). places_in op.phase) t.ops ≡ limits.operations) is places in
    let same = total-cancelled (λ op. places_in op.phase) v (λ t op. same_places t op.phase) numbers v.ops in
    omega (arith, at, same)

-- ---- the waits of a timer

on-yes : {T : Type 0} (timer : Name) (x : Entry (PendingWait T)) (xs : List (Entry (PendingWait T))) →
    is_of timer x ≡ true → numbers_on timer (x ∷ xs) ≡ number_of x ∷ numbers_on timer xs
on-yes timer x xs is = ap (λ b. map number_of (cond b (x ∷ waits_on timer xs) (waits_on timer xs))) is

on-no : {T : Type 0} (timer : Name) (x : Entry (PendingWait T)) (xs : List (Entry (PendingWait T))) →
    is_of timer x ≡ false → numbers_on timer (x ∷ xs) ≡ numbers_on timer xs
on-no timer x xs is = ap (λ b. map number_of (cond b (x ∷ waits_on timer xs) (waits_on timer xs))) is

numbers_above : {T : Type 0} (timer : Name) (n : ℕ) (xs : List (Entry (PendingWait T))) →
    Each (λ x. n < number_of x) xs → Each (λ m. m ≡ n → ⊥) (numbers_on timer xs)
numbers_above timer n [] all = tt
numbers_above timer n (x ∷ xs) all =
    by_test (is_of timer x)
    (λ yes.
    let lt = all.0 in
    subst (Each (λ m. m ≡ n → ⊥)) (sym (on-yes timer x xs yes))
    (λ at. omega (arith, lt, at), numbers_above timer n xs all.1))
    (λ no_more. subst (Each (λ m. m ≡ n → ⊥)) (sym (on-no timer x xs no_more)) (numbers_above timer n xs all.1))

-- the first of them, and those behind it
pub record IsFirstOn {T : Type 0} (timer : Name) (n : ℕ) (xs : List (Entry (PendingWait T))) : Type 0 where
  pub first : numbers_on timer xs ≡ n ∷ numbers_on timer (filter (is_other n) xs)
  pub others : Each (λ m. m ≡ n → ⊥) (numbers_on timer (filter (is_other n) xs))

some_is : {X : Type 0} (a b : X) → Some a ≡ Some b → a ≡ b
some_is a b is = cc

none_is : {X : Type 0} (a : X) → None ≡ Some a → ⊥
none_is a is = cc

pub first_on : {T : Type 0} (timer : Name) (wait : PendingWait T) (xs : List (Entry (PendingWait T))) → Rises xs →
    first_in (waits_on timer xs) ≡ Some wait → IsFirstOn timer wait.op xs
first_on timer wait [] rises is = absurd (none_is wait is)
first_on timer wait (x ∷ xs) rises is =
    by_test (is_of timer x)
    (λ yes.
    let item : x.item ≡ wait =
    some_is x.item wait (sym (ap (λ b. first_in (cond b (x ∷ waits_on timer xs) (waits_on timer xs))) yes) ∙ is) in
    let rest : filter (is_other (number_of x)) (x ∷ xs) ≡ xs =
    ap (λ b. cond (not b) (x ∷ filter (is_other (number_of x)) xs) (filter (is_other (number_of x)) xs))
    (same (number_of x))
    ∙ filter-all (is_other (number_of x)) xs
    (each-weaker (λ y. number_of x < number_of y) (λ y. is_other (number_of x) y ≡ true) xs
    (λ y less. ap not (apart_test (number_of y) (number_of x) (λ e. omega (arith, less, e)))) rises.0) in
    subst (λ (w : PendingWait _). IsFirstOn timer w.op (x ∷ xs)) item
    (record {
      first = on-yes timer x xs yes ∙ ap (λ l. number_of x ∷ numbers_on timer l) (sym rest);
      others = subst (λ l. Each (λ m. m ≡ number_of x → ⊥) (numbers_on timer l)) (sym rest)
          (numbers_above timer (number_of x) xs rises.0);
    }))
    (λ no_more.
    let there = sym (ap (λ b. first_in (cond b (x ∷ waits_on timer xs) (waits_on timer xs))) no_more) ∙ is in
    let behind = first_on timer wait xs rises.1 there in
    by_test (x.item.op == wait.op)
    (λ here.
    let skip : filter (is_other wait.op) (x ∷ xs) ≡ filter (is_other wait.op) xs =
    ap (λ b. cond (not b) (x ∷ filter (is_other wait.op) xs) (filter (is_other wait.op) xs)) here in
    record {
      first = on-no timer x xs no_more ∙ behind.first ∙ ap (λ l. wait.op ∷ numbers_on timer l) (sym skip);
      others = subst (λ l. Each (λ m. m ≡ wait.op → ⊥) (numbers_on timer l)) (sym skip) behind.others;
    })
    (λ other.
    let keep : filter (is_other wait.op) (x ∷ xs) ≡ x ∷ filter (is_other wait.op) xs =
    ap (λ b. cond (not b) (x ∷ filter (is_other wait.op) xs) (filter (is_other wait.op) xs)) other in
    let pass = ap (numbers_on timer) keep ∙ on-no timer x (filter (is_other wait.op) xs) no_more in
    record {
      first = on-no timer x xs no_more ∙ behind.first ∙ ap (λ l. wait.op ∷ l) (sym pass);
      others = subst (Each (λ m. m ≡ wait.op → ⊥)) (sym pass) behind.others;
    }))

pub pending_wait : {H : Type 0} (marks : H → Marks) (s : ContextState) (wait : PendingWait (Waiting H)) →
    IsWaitingAs marks s.ops wait → IsPendingWait s wait.op wait.timer wait.item.lane
pending_wait marks s wait it = record {
  op = it.op;
  is = it.is;
  lane = it.lane;
  binding = it.binding;
  kind = it.kind;
  phase = it.phase;
}

-- each of them can be cancelled
all_to_cancel : {H : Type 0} (marks : H → Marks) (s : ContextState) (timer : Name)
    (xs : List (Entry (PendingWait (Waiting H)))) → ArePending marks s.ops xs → Each (IsToCancel s) (numbers_on timer xs)
all_to_cancel marks s timer [] all = tt
all_to_cancel marks s timer (x ∷ xs) all =
    by_test (is_of timer x)
    (λ yes.
    subst (Each (IsToCancel s)) (sym (on-yes timer x xs yes)) (
      to_cancel s x.item.op x.item.timer x.item.item.lane (pending_wait marks s x.item all.0),
      all_to_cancel marks s timer xs all.1,
    ))
    (λ no_more. subst (Each (IsToCancel s)) (sym (on-no timer x xs no_more)) (all_to_cancel marks s timer xs all.1))

left_pending : {H : Type 0} (marks : H → Marks) (ops : List Op) (n : ℕ) (xs : List (Entry (PendingWait (Waiting H)))) →
    ArePending marks ops xs → ArePending marks ops (filter (is_other n) xs)
left_pending marks ops n [] all = tt
left_pending marks ops n (x ∷ xs) all =
    by_test (x.item.op == n)
    (λ here.
    subst (ArePending marks ops)
    (sym (ap (λ b. cond (not b) (x ∷ filter (is_other n) xs) (filter (is_other n) xs)) here))
    (left_pending marks ops n xs all.1))
    (λ other.
    subst (ArePending marks ops)
    (sym (ap (λ b. cond (not b) (x ∷ filter (is_other n) xs) (filter (is_other n) xs)) other))
    (all.0, left_pending marks ops n xs all.1))

first_of_those : (all : Bool) (n : ℕ) (numbers rest : List ℕ) → numbers ≡ n ∷ rest →
    those_of all numbers ≡ n ∷ those_left all rest
first_of_those true n numbers rest is = is
first_of_those false n numbers rest is = ap (take 1) is

left_of_those : (P : ℕ → Type 0) (all : Bool) (rest : List ℕ) → Each P rest → Each P (those_left all rest)
left_of_those P true rest each = each
left_of_those P false rest each = tt

none_of_those : (all : Bool) (numbers : List ℕ) → numbers ≡ [] → those_of all numbers ≡ []
none_of_those true numbers is = is
none_of_those false numbers is = ap (take 1) is

pub none_on : {T : Type 0} (timer : Name) (xs : List (Entry (PendingWait T))) → first_in (waits_on timer xs) ≡ None →
    waits_on timer xs ≡ []
none_on timer xs none = no_first (waits_on timer xs) none
  where
    no_first : {T : Type 0} (ys : List (Entry (PendingWait T))) → first_in ys ≡ None → ys ≡ []
    no_first [] none = refl
    no_first (y ∷ ys) none = absurd (none_is y.item (sym none))

pub none_first : {T : Type 0} (all : Bool) (timer : Name) (xs : List (Entry (PendingWait T))) →
    first_in (waits_on timer xs) ≡ None → those_of all (numbers_on timer xs) ≡ []
none_first all timer xs none =
    none_of_those all (numbers_on timer xs) (ap (map number_of) (none_on timer xs none))

nothing_left : {T : Type 0} (all : Bool) (timer : Name) (xs : List (Entry (PendingWait T))) →
    first_in (waits_on timer xs) ≡ None → those_of all (numbers_on timer xs) ≡ those_left all (numbers_on timer xs)
nothing_left true timer xs none = refl
nothing_left false timer xs none = none_first false timer xs none

pub cancelling_over : {H S : Type 0} (marks : H → Marks) (limits : Limits) (counts : Counts) (names : Names)
    (cells : List (Cell H S)) (jobs : JobList (ReadyOp H)) (timers : Timers (Waiting H)) (tally : Tally) (timer : Name)
    (all : Bool) (s : ContextState) → first_in (waits_on timer timers.waits) ≡ None →
    IsCancelling marks limits counts names cells jobs timers tally (those_of all (numbers_on timer timers.waits)) s →
    IsCancelling marks limits counts names cells jobs timers tally (those_left all (numbers_on timer timers.waits)) s
cancelling_over marks limits counts names cells jobs timers tally timer all s none going =
    subst (λ ns. IsCancelling marks limits counts names cells jobs timers tally ns s)
    (nothing_left all timer timers.waits none) going

pub only_left : {T : Type 0} (timer : Name) (n : ℕ) (xs : List (Entry (PendingWait T))) → IsOnly timer xs →
    IsOnly timer (filter (is_other n) xs)
only_left timer n [] only = tt
only_left timer n (x ∷ xs) only =
    by_test (x.item.op == n)
    (λ here.
    subst (IsOnly timer) (sym (ap (λ b. cond (not b) (x ∷ filter (is_other n) xs) (filter (is_other n) xs)) here))
    (only_left timer n xs only.1))
    (λ other.
    subst (IsOnly timer) (sym (ap (λ b. cond (not b) (x ∷ filter (is_other n) xs) (filter (is_other n) xs)) other))
    (only.0, only_left timer n xs only.1))

-- so far, where these are left
pub record AreAborted (limits : Limits) (all left : List ℕ) (first past : List Event) : Type 0 where
  pub may : MayCome (completions code.Aborted left) (state_of limits past) →
      MayCome (completions code.Aborted all) (state_of limits first)
  pub is : with_events (completions code.Aborted all) first ≡ with_events (completions code.Aborted left) past

pub none_aborted : (limits : Limits) (all : List ℕ) (past : List Event) → AreAborted limits all all past past
none_aborted limits all past = record { may = λ may. may; is = refl }

pub one_aborted : (limits : Limits) (more : Bool) (all numbers left : List ℕ) (first old new : List Event) →
    IsAbortedIf more limits numbers left old new → (numbers ≡ [] → left ≡ []) → AreAborted limits all numbers first old →
    AreAborted limits all left first new
one_aborted limits true all numbers left first old new one over are =
    let now = subst (λ ns. AreAborted limits all ns first old) one.first are in
    subst (AreAborted limits all left first) (sym one.is)
    (record { may = λ may. now.may (one.may, may); is = now.is })
one_aborted limits false all numbers left first old new one over are =
    subst (AreAborted limits all left first) (sym one.1)
    (subst (λ ns. AreAborted limits all ns first old) (one.0 ∙ sym (over one.0)) are)

pub all_aborted : (limits : Limits) (all : List ℕ) (first past : List Event) → AreAborted limits all [] first past →
    HaveCome limits (completions code.Aborted all) first past
all_aborted limits all first past are = record { may = are.may tt; is = sym are.is }

-- ---- the step

module _ {H S : Type 0} (marks : H → Marks) (limits : Limits) (past : List Event) (counts : Counts) (names : Names)
    (cells : List (Cell H S)) (jobs : JobList (ReadyOp H)) (timers : Timers (Waiting H)) (tally : Tally) (timer : Name)
    (all : Bool) (wait : PendingWait (Waiting H))
    (going : IsCancelling marks limits counts names cells jobs timers tally (those_of all (numbers_on timer timers.waits))
    (state_of limits past))
    (is : numbered_in wait.op timers.waits ≡ Some wait) (first : first_in (waits_on timer timers.waits) ≡ Some wait) where
  it : IsWaitingAs marks going.waiting.ops wait
  it = pending_at marks going.waiting.ops wait.op wait timers.waits is going.waits.each

  parts : IsFirstOn timer wait.op timers.waits
  parts = first_on timer wait timers.waits going.waits.rises first

  abbrev rest : List ℕ
  rest = those_left all (numbers_on timer (filter (is_other wait.op) timers.waits))

  pub abort_first : those_of all (numbers_on timer timers.waits) ≡ wait.op ∷ rest
  abort_first =
      first_of_those all wait.op (numbers_on timer timers.waits)
      (numbers_on timer (filter (is_other wait.op) timers.waits)) parts.first

  step : IsStep (state_of limits past) (event.Done wait.op code.Aborted 0)
      (with_changed (state_of limits past).names (state_of limits past).timers
      (cancelled rest (wait_done wait.op code.Aborted wait.item.lane going.waiting)))
  step =
      let v = going.waiting in
      let s = state_of limits past in
      let left = numbers_on timer (filter (is_other wait.op) timers.waits) in
      subst (λ t. IsStep t (event.Done wait.op code.Aborted 0)
      (with_changed s.names s.timers (cancelled rest (wait_done wait.op code.Aborted wait.item.lane v))))
      (sym (going.is ∙ ap (λ ns. with_changed s.names s.timers (cancelled ns v)) abort_first))
      (complete_in_turn v wait.op wait.timer wait.item.lane rest s.names s.timers (pending_wait marks v wait it)
      going.shows.going going.shows.settled
      (left_of_those (λ m. m ≡ wait.op → ⊥) all left parts.others)
      (left_of_those (IsToCancel v) all left
      (all_to_cancel marks v timer (filter (is_other wait.op) timers.waits)
      (left_pending marks v.ops wait.op timers.waits going.waits.each))))

  pub abort_may : MayHappen (state_of limits past) (event.Done wait.op code.Aborted 0)
  abort_may = step.may

  still_open : (state_of limits past).finishing ≡ false
  still_open = ap (λ (s : ContextState). s.finishing) going.is ∙ going.shows.going

  fits : IsLegal limits past → (name : Name) → FitsStrand going.waiting name
  fits legal name =
      fits_before (state_of limits past) going.waiting (those_of all (numbers_on timer timers.waits)) name going.is
      going.strands (strands_fit limits past legal still_open name)

  there : IsLegal limits past → IsThere going.waiting.names.strands wait.item.lane
  there legal =
      there_tied marks limits counts names cells jobs going.waiting going.shows (fits legal) wait.op it.op it.is
      wait.item.lane it.lane

  pub abort_room : IsLegal limits past → MayBeReadyOn wait.item.lane cells jobs
  abort_room legal =
      let s = state_of limits past in
      let v = going.waiting in
      let sum = sum_by-total (λ (op : Op). places_in op.phase) s.ops in
      let places = places_add_up limits past legal in
      room_on marks limits counts names cells jobs v going.shows wait.op wait.item.handler
      (places_before limits s v (those_of all (numbers_on timer timers.waits)) going.is (omega (arith, sum, places)))
      (fits legal) wait.item.lane (there legal) (unready marks v wait it) (ap stage_of it.phase)

  pub abort_number : tally.waiting < counts.next
  abort_number =
      let less = tally_incomplete tally going.waiting wait.op it.op going.tallied it.is (ap stage_of it.phase) in
      let next = ap (λ (c : Counts). c.next) going.shows.counts_are in
      omega (arith, less, next)

  pub abort_left : IsLegal limits past →
      IsCancelling marks limits counts names
      (readied_cells wait.item.lane (ready_with wait.op code.Aborted 0 None None wait.item.handler) cells)
      (readied_jobs wait.item.lane (ready_with wait.op code.Aborted 0 None None wait.item.handler) cells jobs)
      (without_wait wait.op timers) (tally_called tally) rest (after (event.Done wait.op code.Aborted 0) (state_of limits past))
  abort_left legal =
      let v = going.waiting in
      record {
        waiting = wait_done wait.op code.Aborted wait.item.lane v;
        is = sym step.is;
        strands = going.strands;
        shows = shows_on marks limits counts names cells jobs v going.shows wait.op code.Aborted 0 None None wait.item.handler
            (left_settled wait.op v.settled) (left_waits wait.op v.waits) (ap (left_settled wait.op) going.shows.settled)
            wait.item.lane (there legal) (unready marks v wait it);
        waits = waits_left marks limits timers v wait code.Aborted going.waits is;
        tallied = tally_completes tally v wait.op code.Aborted wait.item.lane it.op going.tallied it.is (ap stage_of it.phase);
      }
