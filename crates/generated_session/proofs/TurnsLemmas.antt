-- The reactor of a session that a number makes: which requests it has taken, and which waits are pending.
use Rattle.std.proofs.Common.{◌≡◌, ◌≢◌, ◌⊎◌, ℕ, ◌+◌, ◌<◌, ◌≤◌, ◌==◌, nat_lt, max, inl, inr, suc, Bool, true, false, not, ◌&&◌, cond, List, [], ◌∷◌, length, filter, Option, refl, ap, sym, ◌∙◌, subst, arith}
use Rattle.std.specs.List.{All, slice_index_or, slice_set}
use Rattle.std.proofs.Math.ListN.{length-set}
use Rattle.std.proofs.lemmas.Bool.{cases_eq, cases_lt, eq-eqb, le-ltb, leb-true, lt-ltb, ne_eqb, not-false, not-true}
use Rattle.std.proofs.lemmas.List.{get_or-set_same, get_or-set_other}
use Rattle.std.proofs.lemmas.List.Elements.{filter_passes}
use Rattle.asio_types.specs.declared.code.Code.{Code}
use Rattle.asio_types.specs.declared.code.Code.TheVariants as code
use Rattle.session_script.specs.declared.act.Act.{Act}
use Rattle.session_script.specs.Script.{Entry}
use Rattle.stream_rules.specs.declared.queue.Completion.{Completion}
use Rattle.history_rules.specs.Order.{is_request, was_taken}
use Rattle.history_rules.specs.Settling.{due_waits, expiry_of, is_due, settled, served_below, sorted_by, waited, with_waits_served}
use Rattle.history_rules.specs.State.{ReactorHalf, StreamQueues}
use Rattle.history_rules.specs.declared.wait.Wait.{Wait}
use Rattle.history_rules.specs.declared.phase.ActPhase.{ActPhase}
use Rattle.history_rules.specs.declared.phase.ActPhase.TheVariants as phase
use Rattle.history_rules.specs.declared.phase.ActState.{ActState}
use Rattle.generated_session.proofs.FitLemmas.{is_requested}
use Rattle.generated_session.proofs.FutureLemmas.{is_renewed, to_abort, to_last}
use Rattle.generated_session.proofs.GatherLemmas.{all_any, all_by, gather, gather-append, gather-kept, gather-map, gather-sorted, gather-split, most, most-kept, plus, sums}
use Rattle.generated_session.proofs.ItemsLemmas.{asks_in, nth_act}
use Rattle.generated_session.proofs.ListedLemmas.{IsListed}
use Rattle.generated_session.proofs.StatesLemmas.{Changes, at}

abbrev pub is_asking : List Entry → ℕ → Bool
is_asking acts n = asks_in (nth_act acts n)

-- how many of these completions are those of an operation
abbrev pub op_count : ℕ → List Completion → ℕ
op_count n due = gather plus (λ (c : Completion). cond (c.op == n) 1 0) due

abbrev pub wait_count : ℕ → List Wait → ℕ
wait_count n waits = gather plus (λ (w : Wait). cond (w.op == n) 1 0) waits

-- what holds of the reactor, where these requests are left from a number on
pub record Turns (acts : List Entry) (states : List ActState) (r : ReactorHalf) (from : ℕ) (left : List ℕ)
    : Type 0 where
  pub working : r.failed ≡ false
  pub queues : r.queues ≡ []
  pub guards : r.guards ≡ []
  pub timers : length r.expiries ≡ 4
  pub size : length r.taken ≡ length acts
  pub listed : IsListed (is_asking acts) from left
  pub taken : (n : ℕ) → was_taken r n ≡ (is_asking acts n && nat_lt n from)
  pub waiting : (n : ℕ) → is_asking acts n ≡ true → from ≤ n → is_request (at states n).phase ≡ true
  pub pending : (n : ℕ) →
      op_count n r.due + wait_count n r.waits ≡ cond (is_requested (at states n).phase && was_taken r n) 1 0
  pub early : (r.now ≡ 0) ⊎ (left ≡ [])

-- each pending wait expires later
abbrev pub AreAhead : ReactorHalf → Type 0
AreAhead r = All (λ (w : Wait). is_due r w ≡ false) r.waits

abbrev pub is_aborted_code : Code → Bool
is_aborted_code code.Aborted = true
is_aborted_code _ = false

abbrev pub is_aborted : Completion → Bool
is_aborted completion = is_aborted_code completion.outcome.0

abbrev pub abort_count : List Completion → ℕ
abort_count due = gather plus (λ (c : Completion). cond (is_aborted c) 1 0) due

-- a pending wait is cancelled by these requests
abbrev pub cut_by : List (Option Act) → Wait → ℕ
cut_by later wait = cond (is_renewed wait.timer later) 1 0

-- until when it is pending, where it isn't
abbrev pub stays_by : ReactorHalf → List (Option Act) → Wait → ℕ
stays_by r later wait = cond (is_renewed wait.timer later) 0 (expiry_of r wait)

-- how many waits are still told as cancelled
abbrev pub to_come : ReactorHalf → List (Option Act) → ℕ
to_come r later = abort_count r.due + (gather plus (cut_by later) r.waits + to_abort r.expiries later)

-- the last time
abbrev pub until : ReactorHalf → List (Option Act) → ℕ
until r later = max r.now (max (gather most (stays_by r later) r.waits) (to_last r.expiries later))

-- where waits may be due, which no request cancels
abbrev pub to_come_beside : ReactorHalf → List (Option Act) → ℕ
to_come_beside r later =
    abort_count r.due
    + (gather plus (λ (w : Wait). cond (is_due r w) 0 (cut_by later w)) r.waits + to_abort r.expiries later)

-- the waits that are due complete
abbrev pub served : ReactorHalf → ReactorHalf
served r = record (with_waits_served r) { whole_turn = true; reached = 0 }

pub settled_is : (told : Bool) (r : ReactorHalf) → r.queues ≡ [] → settled told r ≡ served r
settled_is true r none = ap (λ (queues : List StreamQueues). served_below (length queues) (served r)) none
settled_is false r none = refl

pub pending_served : (n : ℕ) (r : ReactorHalf) → op_count n (served r).due + wait_count n
    (served r).waits ≡ op_count n r.due + wait_count n r.waits
pending_served n r =
    let f : Completion → ℕ = λ c. cond (c.op == n) 1 0 in
    let g : Wait → ℕ = λ w. cond (w.op == n) 1 0 in
    let due : List Wait = filter (is_due r) r.waits in
    let one = gather-append plus sums f r.due (due_waits r) in
    let two = gather-map plus f waited (sorted_by (expiry_of r) due) in
    let three = gather-sorted plus sums g (expiry_of r) due in
    let four = gather-split plus sums g (is_due r) r.waits in
    omega (arith, one, two, three, four)

pub turns_served : (acts : List Entry) (states : List ActState) (r : ReactorHalf) (from : ℕ) (left : List ℕ) →
    Turns acts states r from left → Turns acts states (served r) from left
turns_served acts states r from left turns = record {
  working = turns.working;
  queues = turns.queues;
  guards = turns.guards;
  timers = turns.timers;
  size = turns.size;
  listed = turns.listed;
  taken = turns.taken;
  waiting = turns.waiting;
  pending = λ n. pending_served n r ∙ turns.pending n;
  early = turns.early;
}

pub ahead_served : (r : ReactorHalf) → AreAhead (served r)
ahead_served r =
    let late : Wait → Bool = λ w. not (is_due r w) in
    all_by (λ (w : Wait). late w ≡ true) (λ (w : Wait). is_due r w ≡ false) (filter late r.waits)
    (λ w is. not-true (is_due r w) is)
    (filter_passes late r.waits)

cond_not : (b : Bool) (n : ℕ) → cond b 0 n ≡ cond (not b) n 0
cond_not true n = refl
cond_not false n = refl

none_aborted : (waits : List Wait) → gather plus (λ (w : Wait). cond (is_aborted (waited w)) 1 0) waits ≡ 0
none_aborted [] = refl
none_aborted (w ∷ waits) = let rest = none_aborted waits in omega (arith, rest)

pub served_to_come : (r : ReactorHalf) (later : List (Option Act)) → to_come (served r) later ≡ to_come_beside r later
served_to_come r later =
    let due : List Wait = sorted_by (expiry_of r) (filter (is_due r) r.waits) in
    let f : Completion → ℕ = λ c. cond (is_aborted c) 1 0 in
    let one = gather-append plus sums f r.due (due_waits r) in
    let two = gather-map plus f waited due in
    let three = none_aborted due in
    let all : Wait → ℕ = λ w. cond (is_due r w) 0 (cut_by later w) in
    let late : Wait → Bool = λ w. not (is_due r w) in
    let four =
    gather-kept plus sums all (cut_by later) late r.waits
    (all_any (λ (w : Wait). all w ≡ cond (late w) (cut_by later w) 0) r.waits (λ w. cond_not (is_due r w) (cut_by later w))) in
    omega (arith, one, two, three, four)

stays_small : (b : Bool) (n now : ℕ) → n ≤ now → cond b 0 n ≤ now
stays_small true n now small = omega arith
stays_small false n now small = small

pub served_until : (r : ReactorHalf) (later : List (Option Act)) → until (served r) later ≡ until r later
served_until r later =
    let kept = most-kept (stays_by r later) (λ (w : Wait). not (is_due r w)) r.now r.waits
    (λ w due. stays_small (is_renewed w.timer later) (expiry_of r w) r.now
    (leb-true (expiry_of r w) r.now (not-false (is_due r w) due))) in
    omega (arith, kept)

-- the first request that is left wasn't taken
pub head_untaken : (acts : List Entry) (states : List ActState) (r : ReactorHalf) (from a : ℕ) (rest : List ℕ) →
    Turns acts states r from (a ∷ rest) → was_taken r a ≡ false
head_untaken acts states r from a rest turns =
    turns.taken a ∙ ap (λ b. is_asking acts a && b) (le-ltb a from turns.listed.0) ∙ ap (λ b. b && false) turns.listed.2

-- requests are left at time 0 alone
pub head_early : (acts : List Entry) (states : List ActState) (r : ReactorHalf) (from a : ℕ) (rest : List ℕ) →
    Turns acts states r from (a ∷ rest) → r.now ≡ 0
head_early acts states r from a rest turns = elim turns.early [
  | inl early ↦ early
  | inr none ↦ absurd (cc none)
]

-- the reactor has taken a request, with these completions and waits
pub record TakenTo (r taken : ReactorHalf) (a more : ℕ) : Type 0 where
  pub working : taken.failed ≡ r.failed
  pub queues : taken.queues ≡ r.queues
  pub guards : taken.guards ≡ r.guards
  pub at : taken.now ≡ r.now
  pub timers : length taken.expiries ≡ length r.expiries
  pub takes : taken.taken ≡ slice_set r.taken a true
  pub pending : (n : ℕ) →
      op_count n taken.due + wait_count n taken.waits ≡ op_count n r.due + wait_count n r.waits + cond (a == n) more 0

module _ (acts : List Entry) (states : List ActState) (r taken : ReactorHalf) (from a : ℕ) (rest : List ℕ)
    (turns : Turns acts states r from (a ∷ rest)) (to : TakenTo r taken a (cond (is_requested (at states a).phase) 1 0))
    (below : a < length acts) where
  taken_here : was_taken taken a ≡ true
  taken_here =
      ap (λ (xs : List Bool). slice_index_or xs a false) to.takes
      ∙ get_or-set_same r.taken a true false (omega (arith, below, turns.size))

  taken_other : (n : ℕ) → n ≢ a → was_taken taken n ≡ was_taken r n
  taken_other n differ =
      ap (λ (xs : List Bool). slice_index_or xs n false) to.takes ∙ get_or-set_other r.taken a n true false differ

  none_between : (n : ℕ) → n ≢ a → (is_asking acts n && nat_lt n from) ≡ (is_asking acts n && nat_lt n (suc a))
  none_between n differ = elim (cases_lt n from) [
    | inl before ↦
        ap (λ b. is_asking acts n && b) (lt-ltb n from before ∙ sym (lt-ltb n (suc a) (omega (arith, before, turns.listed.0))))
    | inr after ↦ elim (cases_lt n a) [
      | inl inside ↦ ap (λ b. b && nat_lt n from) (turns.listed.1 n after inside)
          ∙ sym (ap (λ b. b && nat_lt n (suc a)) (turns.listed.1 n after inside))
      | inr beyond ↦
          ap (λ b. is_asking acts n && b) (le-ltb n from after ∙ sym (le-ltb n (suc a) (omega (arith, beyond, differ))))
    ]
  ]

  taken_at : (n : ℕ) → was_taken taken n ≡ (is_asking acts n && nat_lt n (suc a))
  taken_at n = elim (cases_eq n a) [
    | inl same ↦ subst (λ m. was_taken taken m ≡ (is_asking acts m && nat_lt m (suc a))) (sym same)
        (taken_here ∙ sym (ap (λ b. b && nat_lt a (suc a)) turns.listed.2 ∙ lt-ltb a (suc a) (omega arith)))
    | inr differ ↦ taken_other n differ ∙ turns.taken n ∙ none_between n differ
  ]

  more_here : (b : Bool) (k : ℕ) → k ≡ cond (b && false) 1 0 → k + cond b 1 0 ≡ cond (b && true) 1 0
  more_here true k is = omega (arith, is)
  more_here false k is = omega (arith, is)

  pending_at : (n : ℕ) → op_count n taken.due + wait_count n taken.waits ≡ cond
      (is_requested (at states n).phase && was_taken taken n) 1 0
  pending_at n = elim (cases_eq n a) [
    | inl same ↦ subst (λ m. op_count m taken.due + wait_count m taken.waits ≡ cond
        (is_requested (at states m).phase && was_taken taken m) 1 0) (sym same)
        (to.pending a ∙ ap (λ b. op_count a r.due + wait_count a r.waits + cond b (cond (is_requested (at states a).phase) 1 0) 0)
        (eq-eqb a a refl)
        ∙ more_here (is_requested (at states a).phase) (op_count a r.due + wait_count a r.waits)
        (turns.pending a
        ∙ ap (λ b. cond (is_requested (at states a).phase && b) 1 0) (head_untaken acts states r from a rest turns))
        ∙ ap (λ b. cond (is_requested (at states a).phase && b) 1 0) (sym taken_here))
    | inr differ ↦
        to.pending n
        ∙ ap (λ b. op_count n r.due + wait_count n r.waits + cond b (cond (is_requested (at states a).phase) 1 0) 0)
        (ne_eqb a n (λ same. differ (sym same)))
        ∙ plain (op_count n r.due + wait_count n r.waits) ∙ turns.pending n
        ∙ ap (λ b. cond (is_requested (at states n).phase && b) 1 0) (sym (taken_other n differ))
  ]
    where
      plain : (k : ℕ) → k + 0 ≡ k
      plain k = omega arith

  pub turns_taken : Turns acts states taken (suc a) rest
  turns_taken = record {
    working = to.working ∙ turns.working;
    queues = to.queues ∙ turns.queues;
    guards = to.guards ∙ turns.guards;
    timers = to.timers ∙ turns.timers;
    size = ap length to.takes ∙ length-set r.taken a true ∙ turns.size;
    listed = turns.listed.3;
    taken = taken_at;
    waiting = λ n asks least. turns.waiting n asks (omega (arith, least, turns.listed.0));
    pending = pending_at;
    early = inl (to.at ∙ head_early acts states r from a rest turns);
  }

-- a change of an act that is and was no request
pub turns_changed : (acts : List Entry) (old new : List ActState) (o : ℕ) (to : ActState) (r : ReactorHalf) (from : ℕ)
    (left : List ℕ) → Turns acts old r from left → Changes old new o to → is_request (at old o).phase ≡ false →
    is_request to.phase ≡ false → Turns acts new r from left
turns_changed acts old new o to r from left turns changes was is = record {
  working = turns.working;
  queues = turns.queues;
  guards = turns.guards;
  timers = turns.timers;
  size = turns.size;
  listed = turns.listed;
  taken = turns.taken;
  waiting = λ n asks least. elim (cases_eq n o) [
    | inl same ↦ absurd (let wrong : false ≡ true = sym was
        ∙ (ap (λ m. is_request (at old m).phase) (sym same) ∙ turns.waiting n asks least) in cc)
    | inr differ ↦ ap (λ (act : ActState). is_request act.phase) (changes.others n differ) ∙ turns.waiting n asks least
  ];
  pending = λ n. turns.pending n ∙ ap (λ b. cond (b && was_taken r n) 1 0) (same_at n);
  early = turns.early;
}
  where
    not_requested : (p : ActPhase) → is_request p ≡ false → is_requested p ≡ false
    not_requested phase.Requested never = absurd (cc)
    not_requested p never = refl

    same_at : (n : ℕ) → is_requested (at old n).phase ≡ is_requested (at new n).phase
    same_at n = elim (cases_eq n o) [
      | inl same ↦ subst (λ m. is_requested (at old m).phase ≡ is_requested (at new m).phase) (sym same)
          (not_requested (at old o).phase was ∙ sym
          (ap (λ (act : ActState). is_requested act.phase) changes.here ∙ not_requested to.phase is))
      | inr differ ↦ ap (λ (act : ActState). is_requested act.phase) (sym (changes.others n differ))
    ]
