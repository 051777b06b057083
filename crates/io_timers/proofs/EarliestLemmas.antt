-- The first leaf of a tournament is the wait that the rules say completes next.
use Rattle.std.proofs.Common.{◌≡◌, ℕ, ◌<◌, ◌≤◌, Bool, true, false, List, [], ◌∷◌, length, get_or, map, ap, sym, refl, subst, ◌∙◌, ⊎_elim, inl, arith}
use Rattle.std.specs.Prelude.{IfNone, IfSome, nat_le, Option, Some, None, if◌then◌else◌}
use Rattle.std.proofs.lemmas.Bool.{cases_lt, le-leb, lt-leb}
use Rattle.std.proofs.lemmas.Bool.Decides.{nat_tests}
use Rattle.std.proofs.lemmas.List.{get_or-map, get_or_past, length-map}
use Rattle.io_rules.specs.declared.op.Wait.{Wait}
use Rattle.io_rules.specs.State.{TimerState, new_timer}
use Rattle.io_rules.specs.Timers.{due_by, earlier, earliest, expiry_of}
use Rattle.io_queues.specs.Queued.{found_in, place_first}
use Rattle.io_timers.specs.declared.first.First.{First}
use Rattle.io_timers.specs.declared.pending.PendingWait.{PendingWait}
use Rattle.io_timers.specs.Kept.{Each, IsOn, IsTimers, Rises, first_wait, in_order}
use Rattle.io_timers.specs.Pending.{Entry, Timers, expiry_by, next_wait, number_of, op_by, timer_with, wait_of}
use Rattle.io_timers.specs.Tournament.{IsFirst, IsNoLater, is_before}
use Rattle.io_timers.proofs.FoundLemmas.{IsIn, each-in, in-queue, none_some, some_same}
use Rattle.io_timers.proofs.OrderLemmas.{each-both, each-in_order, each-weaker}

-- a wait of this expiry and number doesn't complete after this one
abbrev pub IsNext : {T : Type 0} → List TimerState → ℕ → ℕ → Entry (PendingWait T) → Type 0
IsNext timers expiry op x =
    (expiry ≤ expiry_of timers (wait_of x)) × (expiry_of timers (wait_of x) ≡ expiry → op ≤ number_of x)

abbrev IsIfSome : (Wait → Type 0) → Option Wait → Type 0
IsIfSome P None = Unit {0}
IsIfSome P (Some wait) = P wait

earlier_is : (P : Wait → Type 0) (timers : List TimerState) (x : Wait) (o : Option Wait) → P x → IsIfSome P o →
    P (earlier timers x o)
earlier_is P timers x None is rest = is
earlier_is P timers x (Some y) is rest = by_le (nat_le (expiry_of timers x) (expiry_of timers y))
  where
    by_le : (b : Bool) → P (if b then x else y)
    by_le true = is
    by_le false = rest

earliest_is_each : {T : Type 0} (P : Wait → Type 0) (timers : List TimerState) (xs : List (Entry (PendingWait T))) →
    Each (λ x. P (wait_of x)) xs → IsIfSome P (earliest timers (map wait_of xs))
earliest_is_each P timers [] all = tt
earliest_is_each P timers (x ∷ xs) all =
    earlier_is P timers (wait_of x) (earliest timers (map wait_of xs)) all.0 (earliest_is_each P timers xs all.1)

earlier_first : (timers : List TimerState) (x : Wait) (o : Option Wait) →
    IsIfSome (λ y. expiry_of timers x ≤ expiry_of timers y) o → earlier timers x o ≡ x
earlier_first timers x None le = refl
earlier_first timers x (Some y) le = ap (λ b. if b then x else y) (le-leb (expiry_of timers x) (expiry_of timers y) le)

pub earliest_is : {T : Type 0} (timers : List TimerState) (w : Entry (PendingWait T)) (xs : List (Entry (PendingWait T))) →
    Rises xs → IsIn w xs → Each (IsNext timers (expiry_of timers (wait_of w)) (number_of w)) xs →
    earliest timers (map wait_of xs) ≡ Some (wait_of w)
earliest_is timers w [] rises there all = absurd there
earliest_is timers w (x ∷ xs) rises there all = ⊎_elim
    (λ (e : w ≡ x).
    let least : IsIfSome (λ y. expiry_of timers (wait_of x) ≤ expiry_of timers y) (earliest timers (map wait_of xs)) =
    earliest_is_each (λ y. expiry_of timers (wait_of x) ≤ expiry_of timers y) timers xs
    (each-weaker (IsNext timers (expiry_of timers (wait_of w)) (number_of w))
    (λ y. expiry_of timers (wait_of x) ≤ expiry_of timers (wait_of y)) xs
    (λ y is. subst (λ v. expiry_of timers (wait_of v) ≤ expiry_of timers (wait_of y)) e is.0) all.1) in
    ap (λ v. Some v) (earlier_first timers (wait_of x) (earliest timers (map wait_of xs)) least)
    ∙ ap (λ v. Some (wait_of v)) (sym e))
    (λ (rest : IsIn w xs).
    let less = each-in (λ y. number_of x < number_of y) w xs rises.0 rest in
    let le = all.0.0 in
    let later : expiry_of timers (wait_of w) < expiry_of timers (wait_of x) = ⊎_elim
    (λ (lt : expiry_of timers (wait_of w) < expiry_of timers (wait_of x)). lt)
    (λ (ge : expiry_of timers (wait_of x) ≤ expiry_of timers (wait_of w)).
    let eq : expiry_of timers (wait_of x) ≡ expiry_of timers (wait_of w) = omega (arith, le, ge) in
    let no = all.0.1 eq in absurd (omega (arith, no, less)))
    (cases_lt (expiry_of timers (wait_of w)) (expiry_of timers (wait_of x))) in
    ap (λ o. Some (earlier timers (wait_of x) o)) (earliest_is timers w xs rises.1 rest all.1)
    ∙ ap (λ b. Some (if b then wait_of x else wait_of w))
    (lt-leb (expiry_of timers (wait_of x)) (expiry_of timers (wait_of w)) later))
    there

-- the expiry of a wait by the place of its timer
pub expiry_at : (expiries : List ℕ) (k : ℕ) → (get_or (map timer_with expiries) k new_timer).expiry ≡ get_or expiries k 0
expiry_at expiries k = ⊎_elim
    (λ (lt : k < length expiries). ap (λ t. t.expiry) (get_or-map timer_with expiries k 0 new_timer lt))
    (λ (le : length expiries ≤ k).
    let many = length-map expiries timer_with in
    ap (λ t. t.expiry) (get_or_past (map timer_with expiries) k new_timer (omega (arith, le, many)))
    ∙ sym (get_or_past expiries k 0 le))
    (cases_lt k (length expiries))

pub expiry_on : {T : Type 0} (expiries : List ℕ) (k : ℕ) (x : Entry (PendingWait T)) → IsOn k x →
    expiry_of (map timer_with expiries) (wait_of x) ≡ get_or expiries k 0
expiry_on expiries k x on = expiry_at expiries x.item.timer.place ∙ ap (λ p. get_or expiries p 0) on

not_before : (a b : First) → is_before b a ≡ false → (a.expiry ≤ b.expiry) × (b.expiry ≡ a.expiry → a.op ≤ b.op)
not_before a b is = (grind (arith, nat_tests), λ e. grind (arith, nat_tests))

-- the waits of a queue whose first one comes no earlier than a wait
queue_next : {T : Type 0} (expiries : List ℕ) (k : ℕ) (first : First) (q : List (Entry (PendingWait T))) → Rises q →
    Each (IsOn k) q → IsNoLater (Some first) (first_wait k (get_or expiries k 0) q) →
    Each (IsNext (map timer_with expiries) first.expiry first.op) q
queue_next expiries k first [] rises on later = tt
queue_next expiries k first (x ∷ q) rises on later =
    let is = not_before first (record { expiry = get_or expiries k 0; op = number_of x; timer = k }) later in (
      (
        subst (λ e. first.expiry ≤ e) (sym (expiry_on expiries k x on.0)) is.0,
        λ e. is.1 (sym (expiry_on expiries k x on.0) ∙ e),
      ),
      each-both (IsOn k) (λ y. number_of x < number_of y)
          (IsNext (map timer_with expiries) first.expiry first.op) q
          (λ y at less. (
            subst (λ e. first.expiry ≤ e) (sym (expiry_on expiries k y at)) is.0,
            λ e. let least = is.1 (sym (expiry_on expiries k y at) ∙ e) in omega (arith, least, less),
          ))
          on.1 rises.0,
    )

first_of_queue : {T : Type 0} (k e : ℕ) (first : First) (q : List (Entry (PendingWait T))) →
    first_wait k e q ≡ Some first → (w : Entry (PendingWait T)) × (IsIn w q) × (first.expiry ≡ e)
    × (first.op ≡ number_of w) × (first.timer ≡ k) × (place_first q ≡ Some w.place)
first_of_queue k e first [] is = absurd (cc)
first_of_queue k e first (w ∷ q) is =
    let same : record { expiry = e; op = number_of w; timer = k } ≡ first = cc in (
      w,
      inl refl,
      sym (ap (λ (f : First). f.expiry) same),
      sym (ap (λ (f : First). f.op) same),
      sym (ap (λ (f : First). f.timer) same),
      refl,
    )

-- ---- whether it is due

due_on : (timers : List TimerState) (now e op : ℕ) (o : Option Wait) → Some e ≡ expiry_by timers o → e ≤ now →
    op_by o ≡ Some op → due_by timers now o ≡ Some op
due_on timers now e op None is le of = absurd (cc)
due_on timers now e op (Some wait) is le of =
    let at : e ≡ expiry_of timers wait = some_same e (expiry_of timers wait) is in
    ap (λ b. if b then Some wait.op else None) (le-leb (expiry_of timers wait) now (subst (λ k. k ≤ now) at le)) ∙ of

pub due_next : {T : Type 0} (s : Timers T) (now e : ℕ) → Some e ≡ expiry_by s.timers (next_wait s) → e ≤ now →
    (r : Option ℕ) → IfSome r (λ place. (wait : PendingWait T) → found_in place s.waits ≡ Some wait →
    op_by (next_wait s) ≡ Some wait.op) →
    IfSome r (λ place. (wait : PendingWait T) → found_in place s.waits ≡ Some wait →
    due_by s.timers now (next_wait s) ≡ Some wait.op)
due_next s now e is le None next = tt
due_next s now e is le (Some place) next = λ wait found. due_on s.timers now e wait.op (next_wait s) is le (next wait found)

pub late_next : (timers : List TimerState) (now e : ℕ) (o : Option Wait) → Some e ≡ expiry_by timers o → now < e →
    due_by timers now o ≡ None
late_next timers now e None is late = refl
late_next timers now e (Some wait) is late =
    let at : e ≡ expiry_of timers wait = some_same e (expiry_of timers wait) is in
    ap (λ b. if b then Some wait.op else None) (lt-leb (expiry_of timers wait) now (subst (λ k. now < k) at late))

pub no_next : (timers : List TimerState) (now : ℕ) (o : Option Wait) (r : Option ℕ) → r ≡ expiry_by timers o →
    ((e : ℕ) → r ≡ Some e → ⊥) → due_by timers now o ≡ None
no_next timers now None r is never = refl
no_next timers now (Some wait) r is never = absurd (never (expiry_of timers wait) is)

-- there is a wait where one expires
pub some_next : {T : Type 0} (s : Timers T) (e : ℕ) → Some e ≡ expiry_by s.timers (next_wait s) → (P : Type 0) →
    (r : Option ℕ) → IfNone r (s.waits ≡ []) → IfNone r P
some_next s e is P None none =
    absurd (none_some e (sym (is ∙ ap (λ ws. expiry_by s.timers (earliest s.timers (map wait_of ws))) none)))
some_next s e is P (Some place) none = tt

abbrev pub expiry_first : Option First → Option ℕ
expiry_first None = None
expiry_first (Some first) = Some first.expiry

module _ {T : Type 0} (expiries : List ℕ) (queues : List (List (Entry (PendingWait T)))) (leaves : List (Option First))
    (kept : IsTimers expiries queues leaves) where
  all_next : (first : First) → IsFirst leaves (Some first) →
      Each (IsNext (map timer_with expiries) first.expiry first.op) (in_order queues)
  all_next first is =
      each-in_order (IsNext (map timer_with expiries) first.expiry first.op) queues
      (λ k.
      queue_next expiries k first (get_or queues k []) (kept.each_rises k) (kept.own k)
      (subst (IsNoLater (Some first)) (kept.firsts k) (is.least k)))

  -- the first leaf is a wait of its timer's queue, and the rules' next one
  pub next_is : (first : First) → IsFirst leaves (Some first) →
      (w : Entry (PendingWait T)) × (IsIn w (in_order queues))
      × (earliest (map timer_with expiries) (map wait_of (in_order queues)) ≡ Some (wait_of w))
      × (expiry_of (map timer_with expiries) (wait_of w) ≡ first.expiry)
      × (place_first (get_or queues first.timer []) ≡ Some w.place)
  next_is first is =
      let k = is.there.0 in
      let at = first_of_queue k (get_or expiries k 0) first (get_or queues k []) (sym (kept.firsts k) ∙ is.there.1) in
      let w = at.0 in
      let on = each-in (IsOn k) w (get_or queues k []) (kept.own k) at.1 in
      let expiry : expiry_of (map timer_with expiries) (wait_of w) ≡ first.expiry =
      expiry_on expiries k w on ∙ sym at.2 in
      let inside = in-queue w queues k at.1 in (
        w,
        inside,
        earliest_is (map timer_with expiries) w (in_order queues) kept.rises inside
            (subst (λ e. Each (IsNext (map timer_with expiries) e (number_of w)) (in_order queues)) (sym expiry)
            (subst (λ n. Each (IsNext (map timer_with expiries) first.expiry n) (in_order queues)) at.3 (all_next first is))),
        expiry,
        subst (λ p. place_first (get_or queues p []) ≡ Some w.place) (sym at.4) at.5,
      )

  nothing_first : (k e : ℕ) (q : List (Entry (PendingWait T))) → IsNoLater None (first_wait k e q) →
      (P : Entry (PendingWait T) → Type 0) → Each P q
  nothing_first k e [] later P = tt
  nothing_first k e (x ∷ q) later P = absurd later

  -- no leaf, no wait
  pub none_next : IsFirst leaves None → in_order queues ≡ []
  none_next is =
      empty (in_order queues)
      (each-in_order (λ x. ⊥) queues
      (λ k.
      nothing_first k (get_or expiries k 0) (get_or queues k [])
      (subst (IsNoLater None) (kept.firsts k) (is.least k)) (λ x. ⊥)))
    where
      empty : (xs : List (Entry (PendingWait T))) → Each (λ x. ⊥) xs → xs ≡ []
      empty [] all = refl
      empty (x ∷ xs) all = absurd all.0

  -- when it is due
  pub expiry_is : (o : Option First) → IsFirst leaves o →
      expiry_first o ≡ expiry_by (map timer_with expiries) (earliest (map timer_with expiries) (map wait_of (in_order queues)))
  expiry_is None is = sym (ap (λ ws. expiry_by (map timer_with expiries) (earliest (map timer_with expiries) (map wait_of ws))) (none_next is))
  expiry_is (Some first) is =
      let next = next_is first is in
      ap (λ e. Some e) (sym next.3) ∙ sym (ap (expiry_by (map timer_with expiries)) next.2)
