-- Each call of the tables leaves the room that later ones need.
use Rattle.std.proofs.Common.{◌≡◌, ℕ, ◌+◌, ◌-◌, ◌<◌, ◌≤◌, ◌==◌, Bool, true, false, not, cond, List, [], ◌∷◌, ◌++◌, Option, length, filter, get_or, set, replicate, zero, suc, refl, ap, sym, subst, ◌∙◌, arith, inl, inr}
use Rattle.std.specs.Prelude.{count_by}
use Rattle.std.specs.List.{All}
use Rattle.std.proofs.lemmas.Bool.{cases_eq}
use Rattle.std.proofs.lemmas.Bool.Decides.{nat_tests}
use Rattle.std.proofs.lemmas.List.{get_or-replicate, get_or-set_other, get_or-set_same, get_or_default, length-append, length-map, length-replicate, length-set}
use Rattle.std.proofs.lemmas.List.Elements.{All-filter, All-nil, All-push, All-weaker, filter-append}
use Rattle.std.proofs.lemmas.List.Filters.{length-filter_both}
use Rattle.std.proofs.lemmas.List.Sums.{count_by-le-length, sum_by-set}
use Rattle.asio_types.specs.Faults.{one_more}
use Rattle.session_script.specs.declared.act.Act.{Act}
use Rattle.session_script.specs.declared.act.Act.TheVariants as act
use Rattle.session_script.specs.Script.{ScriptModel, act_of}
use Rattle.history_rules.specs.Performing.{aborted, is_wait_of}
use Rattle.history_rules.specs.Settling.{sorted_by, waited}
use Rattle.history_rules.specs.Waits.{expiry_in}
use Rattle.history_rules.specs.declared.wait.Wait.{Wait}
use Rattle.stream_rules.specs.declared.queue.Completion.{Completion}
use Rattle.proactor_core.specs.Due.{listed}
use Rattle.proactor_core.specs.Room.{AsksToWait, HasRoomLeft, IsUntaken, CallsKeepRoom, MayWait}
use Rattle.proactor_core.specs.Rooms.{acts_below, one_if, untaken_below, waits_for}
use Rattle.proactor_core.specs.Tables.{TableState, act_taken, wait_begun}
use Rattle.proactor_core.specs.Waits.{aborts, expired, has_expired, without}
use Rattle.proactor_core.proofs.FilterLemmas.{fewer-pass}
use Rattle.proactor_core.proofs.SortingLemmas.{length-sorted_by}

abbrev part : Bool → (Act → Bool) → Option Act → ℕ
part held test act = cond held 0 (one_if test act)

-- one act more was taken
module _ (test : Act → Bool) (script : ScriptModel) (taken : List Bool) (a : ℕ) (within : a < length taken)
    (untaken : get_or taken a true ≡ false) where
  taken-above : (n : ℕ) → n ≤ a → untaken_below test script (set taken a true) n ≡ untaken_below test script taken n
  taken-above zero b = refl
  taken-above (suc n) b =
      let same = get_or-set_other taken a n true true (λ e. omega arith) in
      let below = taken-above n (omega arith) in
      ap (λ m. m + part (get_or (set taken a true) n true) test (act_of script n)) below
      ∙ ap (λ held. untaken_below test script taken n + part held test (act_of script n)) same

  taken-at : untaken_below test script (set taken a true) (suc a) + one_if test (act_of script a)
      ≡ untaken_below test script taken (suc a)
  taken-at =
      let here = get_or-set_same taken a true true within in
      let below = taken-above a (omega arith) in
      let one : part (get_or (set taken a true) a true) test (act_of script a) ≡ 0 =
      ap (λ held. part held test (act_of script a)) here in
      let was : part (get_or taken a true) test (act_of script a) ≡ one_if test (act_of script a) =
      ap (λ held. part held test (act_of script a)) untaken in
      omega arith

  taken-from : (k : ℕ) →
      untaken_below test script (set taken a true) (suc (a + k)) + one_if test (act_of script a)
      ≡ untaken_below test script taken (suc (a + k))
  taken-from zero = let n : a + 0 ≡ a = omega arith in rw n taken-at
  taken-from (suc k) =
      let n : a + suc k ≡ suc (a + k) = omega arith in
      let same = get_or-set_other taken a (suc (a + k)) true true (λ e. omega arith) in
      let kept : part (get_or (set taken a true) (suc (a + k)) true) test (act_of script (suc (a + k)))
      ≡ part (get_or taken (suc (a + k)) true) test (act_of script (suc (a + k))) =
      ap (λ held. part held test (act_of script (suc (a + k)))) same in
      let below = taken-from k in
      rw n (omega arith)

  -- fewer acts are left
  pub less-untaken : untaken_below test script (set taken a true) (length taken) + one_if test (act_of script a)
      ≡ untaken_below test script taken (length taken)
  less-untaken =
      let n : length taken ≡ suc (a + (length taken - suc a)) = omega arith in
      let P : ℕ → Type 0 = λ m.
      untaken_below test script (set taken a true) m + one_if test (act_of script a)
      ≡ untaken_below test script taken m in
      subst P (sym n) (taken-from (length taken - suc a))

pub count-taken : (taken : List Bool) (a : ℕ) → a < length taken → get_or taken a false ≡ false →
    count_by not (set taken a true) + 1 ≡ count_by not taken
count-taken taken a b is =
    let sums = sum_by-set (λ (held : Bool). cond (not held) 1 0) taken a true false b in
    let here = rw is at sums in
    omega arith

taken-there : (taken : List Bool) (a n : ℕ) → n ≡ a → get_or taken n false ≡ true →
    get_or (set taken a true) n false ≡ true
taken-there [] a n same is = is
taken-there (held ∷ taken) zero zero same is = refl
taken-there (held ∷ taken) zero (suc n) same is = absurd (omega arith)
taken-there (held ∷ taken) (suc a) zero same is = absurd (omega arith)
taken-there (held ∷ taken) (suc a) (suc n) same is = taken-there taken a n (omega arith) is

taken-grows : (taken : List Bool) (a n : ℕ) → get_or taken n false ≡ true → get_or (set taken a true) n false ≡ true
taken-grows taken a n is =
    elim (cases_eq n a) [
      | inl same ↦ taken-there taken a n same is
      | inr other ↦ get_or-set_other taken a n true false other ∙ is
    ]

module _ (script : ScriptModel) (streams : ℕ) (s : TableState) (is : HasRoomLeft script streams s) where
  untaken-true : (a : ℕ) → IsUntaken a s → get_or s.taken a true ≡ false
  untaken-true a un = get_or_default s.taken a true false un.within ∙ un.untaken

  keeps-may : (a timer : ℕ) → AsksToWait script a timer s → MayWait a timer s
  keeps-may a timer asks =
      let un = asks.untaken in
      let within = un.within in
      let acts = is.acts in
      let counted = is.counted in
      let total = count-taken s.taken a un.within un.untaken in
      let left = less-untaken (waits_for timer) script s.taken a un.within (untaken-true a un) in
      let one : one_if (waits_for timer) (act_of script a) ≡ 1 =
      ap (one_if (waits_for timer)) asks.is_act ∙ ap (λ t. cond t 1 0) asks.waits in
      let room = is.rooms timer asks.known in
      record {
        within = omega arith;
        new = λ k d b same.
            let held = is.waits_taken k d b in
            let there : get_or s.taken a false ≡ true = ap (λ n. get_or s.taken n false) (sym same) ∙ held in
            let no = sym un.untaken ∙ there in absurd (cc);
        room = omega arith;
        few = omega arith;
      }

  -- fewer waits, and so many more that are due
  fewer-waits : (test : Wait → Bool) (expiries : List ℕ) (told : List Completion) →
      length expiries ≡ length s.waiting.expiries → length told ≡ length (filter test s.waiting.waits) →
      HasRoomLeft script streams
      (record s { waiting = record (without test s.waiting) { expiries = expiries }; due = listed told s.due })
  fewer-waits test expiries told long count =
      let both = length-filter_both test (λ wait. not (test wait)) (λ wait. refl) s.waiting.waits in
      let spare = is.spare in
      record {
        acts = is.acts;
        waits_taken =
            All-filter (λ wait. not (test wait)) (λ wait. get_or s.taken wait.op false ≡ true) s.waiting.waits is.waits_taken;
        rooms = λ timer b.
            let room = is.rooms timer (omega arith) in
            let less = fewer-pass (is_wait_of timer) (λ wait. not (test wait)) s.waiting.waits in omega arith;
        counted = is.counted;
        accepted = is.accepted;
        spare = omega arith;
      }

  keeps-stream : (a : ℕ) → IsUntaken a s → HasRoomLeft script (streams + 1) (act_taken a s)
  keeps-stream a un =
      let total = count-taken s.taken a un.within un.untaken in
      let long = length-set s.taken a true in
      let acts = is.acts in
      let counted = is.counted in
      let accepted = is.accepted in
      let spare = is.spare in
      let most : one_more s.accepted ≤ s.accepted + 1 = omega arith in
      record {
        acts = omega arith;
        waits_taken =
            All-weaker (λ (wait : Wait). get_or s.taken wait.op false ≡ true)
            (λ wait. get_or (set s.taken a true) wait.op false ≡ true)
            (λ wait held. taken-grows s.taken a wait.op held) s.waiting.waits is.waits_taken;
        rooms = λ timer b.
            let room = is.rooms timer b in
            let left = less-untaken (waits_for timer) script s.taken a un.within (untaken-true a un) in
            rw long (omega arith);
        counted = omega arith;
        accepted = omega arith;
        spare = omega arith;
      }

  waits-of : (t : ℕ) (w : Wait) (r : Bool) → is_wait_of t w ≡ r →
      length (filter (is_wait_of t) (s.waiting.waits ++ w ∷ []))
      ≡ length (filter (is_wait_of t) s.waiting.waits) + cond r 1 0
  waits-of t w r e =
      let split = filter-append (is_wait_of t) s.waiting.waits (w ∷ []) in
      let long = length-append (filter (is_wait_of t) s.waiting.waits) (filter (is_wait_of t) (w ∷ [])) in
      ap length split ∙ long ∙ ap (λ n. length (filter (is_wait_of t) s.waiting.waits) + n) (one-long t w r e)
    where
      one-long : (t : ℕ) (w : Wait) (r : Bool) → is_wait_of t w ≡ r →
          length (filter (is_wait_of t) (w ∷ [])) ≡ cond r 1 0
      one-long t w true e = rw e refl
      one-long t w false e = rw e refl

  keeps-wait : (a timer : ℕ) → AsksToWait script a timer s →
      HasRoomLeft script streams (act_taken a (wait_begun a timer s))
  keeps-wait a timer asks =
      let un = asks.untaken in
      let total = count-taken s.taken a un.within un.untaken in
      let long = length-set s.taken a true in
      let acts = is.acts in
      let counted = is.counted in
      let accepted = is.accepted in
      let spare = is.spare in
      let wait : Wait = record { op = a; timer = timer } in
      let grown =
      All-weaker (λ (w : Wait). get_or s.taken w.op false ≡ true) (λ w. get_or (set s.taken a true) w.op false ≡ true)
      (λ w held. taken-grows s.taken a w.op held) s.waiting.waits is.waits_taken in
      let waits = length-append s.waiting.waits (wait ∷ []) in
      let most : one_more s.accepted ≤ s.accepted + 1 = omega arith in
      record {
        acts = omega arith;
        waits_taken =
            All-push (λ w. get_or (set s.taken a true) w.op false ≡ true) s.waiting.waits wait grown
            (get_or-set_same s.taken a true false un.within);
        rooms = λ t b.
            let room = is.rooms t b in
            let left = less-untaken (waits_for t) script s.taken a un.within (untaken-true a un) in
            let one = waits-of t wait (timer == t) refl in
            let counts : one_if (waits_for t) (act_of script a) ≡ cond (timer == t) 1 0 =
            ap (one_if (waits_for t)) asks.is_act ∙ ap (λ r. cond r 1 0) (same-timer t asks.act asks.waits) in
            rw long (omega arith);
        counted = omega arith;
        accepted = omega arith;
        spare = omega arith;
      }
    where
      same-timer : (t : ℕ) (act : Act) → waits_for timer act ≡ true → waits_for t act ≡ (timer == t)
      same-timer t (act.Wait other strand slot filter) waits =
          let same : other ≡ timer = grind (arith, nat_tests) in ap (λ n. n == t) same
      same-timer t _ waits = absurd (cc)

  pub keeps-room : CallsKeepRoom script streams s
  keeps-room = record {
    may_wait = keeps-may;
    wait = keeps-wait;
    stream = keeps-stream;
    cancel = λ test.
        fewer-waits test s.waiting.expiries (aborts test s.waiting) refl
        (length-map (filter test s.waiting.waits) (λ (wait : Wait). aborted wait.op 0));
    expiry = λ timer expiry.
        fewer-waits (is_wait_of timer) (set s.waiting.expiries timer expiry) (aborts (is_wait_of timer) s.waiting)
        (length-set s.waiting.expiries timer expiry)
        (length-map (filter (is_wait_of timer) s.waiting.waits) (λ (wait : Wait). aborted wait.op 0));
    complete =
        let test : Wait → Bool = has_expired s.time s.waiting.expiries in
        let key : Wait → ℕ = expiry_in s.waiting.expiries in
        fewer-waits test s.waiting.expiries (expired s.time s.waiting) refl
        (length-map (sorted_by key (filter test s.waiting.waits)) waited
        ∙ length-sorted_by key (filter test s.waiting.waits));
  }

pub untaken-none : (test : Act → Bool) (script : ScriptModel) (n k : ℕ) → k ≤ n →
    untaken_below test script (replicate n false) k ≡ acts_below test script k
untaken-none test script n zero b = refl
untaken-none test script n (suc k) b =
    ap (λ m. m + part (get_or (replicate n false) k true) test (act_of script k)) (untaken-none test script n k (omega arith))
    ∙ ap (λ held. acts_below test script k + part held test (act_of script k)) (get_or-replicate n k false true (omega arith))

-- new tables have room for all acts
pub room-first : (script : ScriptModel) (s : TableState) → s.taken ≡ replicate (length script.acts) false →
    s.accepted ≡ 0 → s.waiting.waits ≡ [] → s.waiting.accepted ≡ 0 → s.waiting.acts ≡ length script.acts →
    s.waiting.expiries ≡ replicate script.timers 0 →
    ((timer : ℕ) → timer < script.timers →
    get_or s.waiting.rooms timer 0 ≡ acts_below (waits_for timer) script (length script.acts)) →
    s.due.spare ≡ length script.acts → HasRoomLeft script 0 s
room-first script s taken accepted waits waited acts expiries rooms spare =
    let n : ℕ = length script.acts in
    let long : length s.taken ≡ n = ap length taken ∙ length-replicate n false in
    let timers : length s.waiting.expiries ≡ script.timers = ap length expiries ∙ length-replicate script.timers 0 in
    let none : length s.waiting.waits ≡ 0 = ap length waits in
    let most = count_by-le-length not s.taken in
    record {
      acts = omega arith;
      waits_taken =
          let P : List Wait → Type 0 = All (λ wait. get_or s.taken wait.op false ≡ true) in
          subst P (sym waits) (All-nil (λ (wait : Wait). get_or s.taken wait.op false ≡ true));
      rooms = λ timer b.
          let room = rooms timer (omega arith) in
          let same : untaken_below (waits_for timer) script s.taken (length s.taken)
          ≡ acts_below (waits_for timer) script n =
          ap (λ l. untaken_below (waits_for timer) script s.taken l) long
          ∙ ap (λ held. untaken_below (waits_for timer) script held n) taken
          ∙ untaken-none (waits_for timer) script n n (omega arith) in
          let kept : length (filter (is_wait_of timer) s.waiting.waits) ≡ 0 =
          ap (λ ws. length (filter (is_wait_of timer) ws)) waits in
          omega arith;
      counted = omega arith;
      accepted = omega arith;
      spare = omega arith;
    }
