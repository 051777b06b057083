-- What an act may still show falls at each of its events.
use Rattle.std.proofs.Common.{◌≡◌, ◌≢◌, ℕ, ◌+◌, ◌<◌, ◌≤◌, zero, suc, ◌==◌, Bool, true, false, cond, List, [], ◌∷◌, Some, length, get_or, refl, sym, ap, ◌∙◌, arith}
use Rattle.std.specs.List.{sum_by}
use Rattle.std.proofs.lemmas.List.Sums.{sum_by-cons}
use Rattle.asio_types.specs.declared.event.Event.{Event}
use Rattle.asio_types.specs.declared.event.Event.TheVariants as event
use Rattle.session_script.specs.Lanes.{is_inline}
use Rattle.session_script.specs.Script.{ScriptModel, is_op, is_operation}
use Rattle.history_rules.specs.Calls.{is_open, returned}
use Rattle.history_rules.specs.Kinds.{is_act, is_control, is_posting}
use Rattle.history_rules.specs.Rounds.{is_running, is_unspent}
use Rattle.history_rules.specs.declared.phase.ActPhase.{ActPhase}
use Rattle.history_rules.specs.declared.phase.ActPhase.TheVariants as phase
use Rattle.history_rules.specs.declared.phase.ActState.{ActState}
use Rattle.history_rules.specs.declared.phase.CallPhase.{CallPhase}
use Rattle.history_rules.specs.declared.phase.CallPhase.TheVariants as call
use Rattle.history_rules.specs.declared.phase.Cause.TheVariants as cause
use Rattle.history_laws.proofs.CountLemmas.{one_if, same-is}
use Rattle.history_laws.proofs.KindLemmas.{inline_is_op, posting_is_op}
use Rattle.history_laws.proofs.Moves.{Moves, comes_back, completes, destroys, enters, finishes, further, halts, initiates, is_about, starts, stays}
use Rattle.history_laws.proofs.Sound.{IsKind, IsPhaseOf}
use Rattle.asio_types.specs.declared.code.Code.TheVariants as code

-- an operation completes, begins and ends, and a posting begins and ends
abbrev pub phase_left : ActPhase → ℕ
phase_left phase.Absent = 0
phase_left phase.Inside = 2
phase_left phase.Requested = 3
phase_left (phase.Ready given size why) = 2
phase_left (phase.Running class progress) = 1
phase_left phase.Ended = 0
phase_left phase.Dropped = 0
phase_left phase.Asked = 0

-- what has no handler may stop the context during its call
abbrev pub open_left : ActPhase → ℕ
open_left phase.Absent = 1
open_left phase.Inside = 2
open_left phase.Requested = 3
open_left (phase.Ready given size why) = 2
open_left (phase.Running class progress) = 1
open_left phase.Ended = 0
open_left phase.Dropped = 0
open_left phase.Asked = 1

abbrev left_at : CallPhase → ActPhase → ℕ
left_at call.Uncalled p = 5
left_at (call.Open called) p = 1 + open_left p
left_at (call.Stopping called) p = 1 + phase_left p
left_at (call.Back called back) p = phase_left p

-- that the reactor takes it aside, an act that wasn't called shows at most five events
abbrev pub act_left : ActState → ℕ
act_left act = left_at act.call act.phase

less_open : (p : ActPhase) → phase_left p ≤ open_left p
less_open phase.Absent = omega arith
less_open phase.Inside = omega arith
less_open phase.Requested = omega arith
less_open (phase.Ready given size why) = omega arith
less_open (phase.Running class progress) = omega arith
less_open phase.Ended = omega arith
less_open phase.Dropped = omega arith
less_open phase.Asked = omega arith

-- an act whose call was made
falls_by : (made : CallPhase) (p q : ActPhase) → made ≢ call.Uncalled → open_left q + 1 ≤ open_left p →
    phase_left q + 1 ≤ phase_left p → left_at made q + 1 ≤ left_at made p
falls_by call.Uncalled p q called one two = absurd (called refl)
falls_by (call.Open at) p q called one two = omega (arith, one)
falls_by (call.Stopping at) p q called one two = omega (arith, two)
falls_by (call.Back at back) p q called one two = two

same_by : (made : CallPhase) (p q : ActPhase) → open_left q ≡ open_left p → phase_left q ≡ phase_left p →
    left_at made q ≡ left_at made p
same_by call.Uncalled p q one two = refl
same_by (call.Open at) p q one two = omega (arith, one)
same_by (call.Stopping at) p q one two = omega (arith, two)
same_by (call.Back at back) p q one two = two

back_falls : (at : ℕ) (made : CallPhase) (p : ActPhase) → is_open made ≡ true →
    left_at (returned at made) p + 1 ≤ left_at made p
back_falls at call.Uncalled p is = absurd (cc)
back_falls at (call.Open called) p is = omega (arith, less_open p)
back_falls at (call.Stopping called) p is = omega arith
back_falls at (call.Back called back) p is = absurd (cc)

accepted_few : (inline posting operation control : Bool) →
    open_left (cond inline phase.Inside (cond posting (phase.Ready code.Ok 0 cause.Posted)
    (cond operation phase.Requested (cond control phase.Asked phase.Absent)))) ≤ 3
accepted_few true posting operation control = omega arith
accepted_few false true operation control = omega arith
accepted_few false false true control = omega arith
accepted_few false false false true = omega arith
accepted_few false false false false = omega arith

-- what has no handler
halted_falls : (script : ScriptModel) (n : ℕ) (made : CallPhase) (p : ActPhase) → is_op script n ≡ false →
    IsPhaseOf script n made p → phase_left p + 1 ≤ open_left p
halted_falls script n made phase.Absent never is = omega arith
halted_falls script n made phase.Asked never is = omega arith
halted_falls script n made phase.Inside never is =
    absurd (let op = inline_is_op script n is.0 in let wrong : true ≡ false = sym op ∙ never in cc)
halted_falls script n made phase.Requested never is = absurd (let wrong : true ≡ false = sym is.operation ∙ never in cc)
halted_falls script n made (phase.Ready given size cause.Posted) never is =
    absurd (let op = posting_is_op script n is.0 in let wrong : true ≡ false = sym op ∙ never in cc)
halted_falls script n made (phase.Ready given size (cause.Completed done turn)) never is =
    absurd (let wrong : true ≡ false = sym is.operation ∙ never in cc)
halted_falls script n made (phase.Running class progress) never is = absurd (let wrong : true ≡ false = sym is ∙ never in cc)
halted_falls script n made phase.Ended never is = absurd (let wrong : true ≡ false = sym is ∙ never in cc)
halted_falls script n made phase.Dropped never is = absurd (let wrong : true ≡ false = sym is ∙ never in cc)

waiting_falls : (p : ActPhase) → is_unspent p ≡ true → is_running p ≡ false →
    (1 ≤ open_left p) × (1 ≤ phase_left p)
waiting_falls phase.Inside is isnt = (omega arith, omega arith)
waiting_falls phase.Requested is isnt = (omega arith, omega arith)
waiting_falls (phase.Ready given size why) is isnt = (omega arith, omega arith)
waiting_falls (phase.Running class progress) is isnt = absurd (cc)
waiting_falls _ is isnt = absurd (cc)

module _ (script : ScriptModel) (n : ℕ) where
  here_one : one_if (n == n) ≡ 1
  here_one = ap one_if (same-is n)

  called_by : (made : CallPhase) (p : ActPhase) → IsKind script n (record { call = made; phase = p }) → p ≢ phase.Absent →
      made ≢ call.Uncalled
  called_by made p kind became = λ uncalled. became (kind.uncalled uncalled)

  -- each event of an act leaves it one less
  pub left_moved : (e : Event) (old new : ActState) → Moves script n e old new → IsKind script n old →
      (e ≡ event.Stop (Some n) → is_op script n ≡ false) →
      act_left new + one_if (is_about n e) ≤ act_left old
  left_moved e old new (stays isnt) kind stop = let none = ap one_if isnt in omega (arith, none)
  left_moved e old new (further {made = made} {class = class} {old = was} {new = now} isnt calling more) kind stop =
      let none = ap one_if isnt in
      let same = same_by made (phase.Running class was) (phase.Running class now) refl refl in omega (arith, none, same)
  left_moved e old new initiates kind stop =
      let few = accepted_few (is_inline script n) (is_act is_posting script n) (is_act is_operation script n)
      (is_act is_control script n) in
      omega (arith, few, here_one)
  left_moved e old new (comes_back at {made = made} {old = was} is never) kind stop =
      let less = back_falls at made was is in omega (arith, less, here_one)
  left_moved e old new (halts {at = at} {old = was}) kind stop =
      let less = halted_falls script n (call.Open at) was (stop refl) (kind.made (λ uncalled. absurd (cc))) in
      omega (arith, less, here_one)
  left_moved e old new (starts {made = made} {code = given} {size = size} {why = why}) kind stop =
      let less = falls_by made (phase.Ready given size why) new.phase
      (called_by made (phase.Ready given size why) kind (λ same. absurd (cc))) (omega arith) (omega arith) in
      omega (arith, less, here_one)
  left_moved e old new (enters {made = made}) kind stop =
      let less = falls_by made phase.Inside new.phase (called_by made phase.Inside kind (λ same. absurd (cc))) (omega arith)
      (omega arith) in
      omega (arith, less, here_one)
  left_moved e old new (finishes {made = made} {class = class} {old = was} all) kind stop =
      let less = falls_by made (phase.Running class was) phase.Ended
      (called_by made (phase.Running class was) kind (λ same. absurd (cc))) (omega arith) (omega arith) in
      omega (arith, less, here_one)
  left_moved e old new (completes {made = made}) kind stop =
      let less = falls_by made phase.Requested new.phase (called_by made phase.Requested kind (λ same. absurd (cc)))
      (omega arith) (omega arith) in
      omega (arith, less, here_one)
  left_moved e old new (destroys {made = made} {old = was} is isnt never) kind stop =
      let some = waiting_falls was is isnt in
      let less = falls_by made was phase.Dropped
      (called_by made was kind (λ absent. absurd (let wrong : false ≡ true = sym (ap is_unspent absent) ∙ is in cc)))
      (omega (arith, some.0)) (omega (arith, some.1)) in
      omega (arith, less, here_one)

-- sums whose terms fall
pub sum_less : {X : Type 0} (f : X → ℕ) (d : X) (xs ys : List X) → length xs ≡ length ys →
    ((n : ℕ) → f (get_or xs n d) ≤ f (get_or ys n d)) → sum_by f xs ≤ sum_by f ys
sum_less f d [] [] long each = omega arith
sum_less f d [] (y ∷ ys) long each = absurd (omega (arith, long))
sum_less f d (x ∷ xs) [] long each = absurd (omega (arith, long))
sum_less f d (x ∷ xs) (y ∷ ys) long each =
    let one = sum_by-cons f x xs in
    let two = sum_by-cons f y ys in
    let rest = sum_less f d xs ys (omega (arith, long)) (λ n. each (suc n)) in
    let here = each 0 in omega (arith, one, two, rest, here)

pub sum_falls : {X : Type 0} (f : X → ℕ) (d : X) (xs ys : List X) (a : ℕ) → length xs ≡ length ys → a < length xs →
    f (get_or xs a d) + 1 ≤ f (get_or ys a d) → ((n : ℕ) → f (get_or xs n d) ≤ f (get_or ys n d)) →
    sum_by f xs + 1 ≤ sum_by f ys
sum_falls f d [] ys a long within less each = absurd (omega (arith, within))
sum_falls f d (x ∷ xs) [] a long within less each = absurd (omega (arith, long))
sum_falls f d (x ∷ xs) (y ∷ ys) zero long within less each =
    let one = sum_by-cons f x xs in
    let two = sum_by-cons f y ys in
    let rest = sum_less f d xs ys (omega (arith, long)) (λ n. each (suc n)) in omega (arith, one, two, rest, less)
sum_falls f d (x ∷ xs) (y ∷ ys) (suc a) long within less each =
    let one = sum_by-cons f x xs in
    let two = sum_by-cons f y ys in
    let rest = sum_falls f d xs ys a (omega (arith, long)) (omega (arith, within)) less (λ n. each (suc n)) in
    let here = each 0 in omega (arith, one, two, rest, here)
