-- What the requests of a session that a number makes do as they are taken, all of them at time 0.
use Rattle.std.proofs.Common.{◌≡◌, ℕ, ◌+◌, ◌==◌, nat_le, nat_lt, zero, suc, Bool, true, false, not, ◌&&◌, ◌||◌, cond, List, [], ◌∷◌, map, filter, Option, Some, refl, ap, sym, ◌∙◌, arith}
use Rattle.std.specs.List.{slice_index_or, slice_set}
use Rattle.std.proofs.Math.ListN.{length-set}
use Rattle.std.proofs.lemmas.Bool.{eqb-false, lt-leb, lt-ltb, not-true}
use Rattle.std.proofs.lemmas.List.{get_or-set_other}
use Rattle.std.proofs.lemmas.List.Elements.{All-filter, filter_passes}
use Rattle.session_script.specs.declared.act.Act.{Act}
use Rattle.session_script.specs.declared.act.Act.TheVariants as act
use Rattle.stream_rules.specs.declared.queue.Completion.{Completion}
use Rattle.history_rules.specs.Performing.{aborted, expiry_set, is_wait_of, wait_accepted, with_taken}
use Rattle.history_rules.specs.Settling.{expiry_of, is_due}
use Rattle.history_rules.specs.State.{ReactorHalf}
use Rattle.history_rules.specs.declared.wait.Wait.{Wait}
use Rattle.generated_session.proofs.FutureLemmas.{is_renewed, to_abort, to_last}
use Rattle.generated_session.proofs.GatherLemmas.{all_any, all_both, all_by, gather, gather-append, gather-kept, gather-map, gather-same, gather-split, most, mosts, one_if, plus, sums}
use Rattle.generated_session.proofs.TurnsLemmas.{AreAhead, TakenTo, cut_by, is_aborted, stays_by, to_come, to_come_beside, until}

-- a timer has this expiry, and its waits are cancelled
abbrev pub expired : ℕ → ℕ → ℕ → ReactorHalf → ReactorHalf
expired a timer expiry r = with_taken a (expiry_set timer expiry r)

-- a wait is pending
abbrev pub awaited : ℕ → ℕ → ReactorHalf → ReactorHalf
awaited a timer r = with_taken a (wait_accepted a timer r)

nothing_more : (b : Bool) (more : ℕ) → more ≡ 0 → cond b more 0 ≡ 0
nothing_more true more none = none
nothing_more false more none = refl

pub taken_expires : (r : ReactorHalf) (a timer expiry more : ℕ) → more ≡ 0 → TakenTo r (expired a timer expiry r) a more
taken_expires r a timer expiry more none = record {
  working = refl;
  queues = refl;
  guards = refl;
  at = refl;
  timers = length-set r.expiries timer expiry;
  takes = refl;
  pending = λ n.
      let f : Completion → ℕ = λ c. cond (c.op == n) 1 0 in
      let g : Wait → ℕ = λ w. cond (w.op == n) 1 0 in
      let cut : List Wait = filter (is_wait_of timer) r.waits in
      let one = gather-append plus sums f r.due (map (λ (w : Wait). aborted w.op 0) cut) in
      let two = gather-map plus f (λ (w : Wait). aborted w.op 0) cut in
      let three = gather-split plus sums g (is_wait_of timer) r.waits in
      let four = nothing_more (a == n) more none in
      omega (arith, one, two, three, four);
}

pub taken_waits : (r : ReactorHalf) (a timer more : ℕ) → more ≡ 1 → TakenTo r (awaited a timer r) a more
taken_waits r a timer more one = record {
  working = refl;
  queues = refl;
  guards = refl;
  at = refl;
  timers = refl;
  takes = refl;
  pending = λ n.
      let g : Wait → ℕ = λ w. cond (w.op == n) 1 0 in
      let new : Wait = record { op = a; timer = timer } in
      let more_waits = gather-append plus sums g r.waits (new ∷ []) in
      let here = ap (λ m. cond (a == n) m 0) one in
      omega (arith, more_waits, here);
}

cut_here : (b rest : Bool) → b ≡ true → one_if (b || rest) ≡ 1
cut_here true rest is = refl
cut_here false rest is = absurd (cc)

cut_later : (b due rest : Bool) → b ≡ false → due ≡ false → one_if (b || rest) ≡ cond due 0 (one_if rest)
cut_later true due rest is ahead = absurd (cc)
cut_later false true rest is ahead = absurd (cc)
cut_later false false rest is ahead = refl

stays_later : (b rest : Bool) (n m : ℕ) → (b ≡ false → n ≡ m) → cond (b || rest) 0 n ≡ cond (not b) (cond rest 0 m) 0
stays_later true rest n m same = refl
stays_later false true n m same = refl
stays_later false false n m same = same refl

other_expiry : (expiries : List ℕ) (timer expiry other : ℕ) → (other == timer) ≡ false →
    slice_index_or expiries other 0 ≡ slice_index_or (slice_set expiries timer expiry) other 0
other_expiry expiries timer expiry other differ =
    sym (get_or-set_other expiries timer other expiry 0 (eqb-false other timer differ))

ones : (ws : List Wait) →
    gather plus (λ (w : Wait). one_if (is_aborted (aborted w.op 0))) ws ≡ gather plus (λ (w : Wait). 1) ws
ones [] = refl
ones (w ∷ ws) = ap (λ n. 1 + n) (ones ws)

pub expired_to_come : (r : ReactorHalf) (a timer after expiry : ℕ) (later : List (Option Act)) → expiry ≡ after →
    AreAhead r → to_come r (Some (act.Expires timer after) ∷ later) ≡ to_come_beside (expired a timer expiry r) later
expired_to_come r a timer after expiry later same ahead =
    let all : List (Option Act) = Some (act.Expires timer after) ∷ later in
    let next : ReactorHalf = expired a timer expiry r in
    let cut : List Wait = filter (is_wait_of timer) r.waits in
    let left : List Wait = filter (λ (w : Wait). not (is_wait_of timer w)) r.waits in
    let f : Completion → ℕ = λ c. cond (is_aborted c) 1 0 in
    let one = gather-append plus sums f r.due (map (λ (w : Wait). aborted w.op 0) cut) in
    let two = gather-map plus f (λ (w : Wait). aborted w.op 0) cut in
    let three = ones cut in
    let four = gather-split plus sums (cut_by all) (is_wait_of timer) r.waits in
    let is_left : Wait → Bool = λ w. not (is_wait_of timer w) in
    let beside : Wait → ℕ = λ w. cond (is_due next w) 0 (cut_by later w) in
    let five = gather-same plus (cut_by all) (λ (w : Wait). 1) cut
    (all_by (λ (w : Wait). is_wait_of timer w ≡ true) (λ (w : Wait). cut_by all w ≡ 1) cut
    (λ w is. cut_here (is_wait_of timer w) (is_renewed w.timer later) is) (filter_passes (is_wait_of timer) r.waits)) in
    let six = gather-same plus (cut_by all) beside left
    (all_both (λ (w : Wait). is_left w ≡ true) (λ (w : Wait). is_due r w ≡ false) (λ (w : Wait). cut_by all w ≡ beside w) left
    (λ w is ahead_of.
    let other = not-true (is_wait_of timer w) is in
    cut_later (is_wait_of timer w) (is_due next w) (is_renewed w.timer later) other
    (ap (λ e. nat_le e r.now) (sym (other_expiry r.expiries timer expiry w.timer other)) ∙ ahead_of))
    (filter_passes is_left r.waits) (All-filter is_left (λ (w : Wait). is_due r w ≡ false) r.waits ahead)) in
    let seven = ap (λ e. to_abort (slice_set r.expiries timer e) later) same in
    omega (arith, one, two, three, four, five, six, seven)

pub expired_until : (r : ReactorHalf) (a timer after expiry : ℕ) (later : List (Option Act)) → expiry ≡ after →
    until r (Some (act.Expires timer after) ∷ later) ≡ until (expired a timer expiry r) later
expired_until r a timer after expiry later same =
    let all : List (Option Act) = Some (act.Expires timer after) ∷ later in
    let next : ReactorHalf = expired a timer expiry r in
    let one =
    gather-kept most mosts (stays_by r all) (stays_by next later) (λ (w : Wait). not (is_wait_of timer w)) r.waits
    (all_any (λ (w : Wait). stays_by r all w ≡ cond (not (is_wait_of timer w)) (stays_by next later w) 0) r.waits
    (λ w. stays_later (is_wait_of timer w) (is_renewed w.timer later) (expiry_of r w) (expiry_of next w)
    (other_expiry r.expiries timer expiry w.timer))) in
    let two = ap (λ e. to_last (slice_set r.expiries timer e) later) same in
    omega (arith, one, two)

at_zero : (n : ℕ) (b : Bool) → cond (nat_le n 0) 0 (one_if b) ≡ one_if (nat_lt 0 n && b)
at_zero zero b = refl
at_zero (suc n) b =
    ap (λ t. cond t 0 (one_if b)) (lt-leb (suc n) 0 (omega arith))
    ∙ ap (λ t. one_if (t && b)) (sym (lt-ltb 0 (suc n) (omega arith)))

not_due : (due : Bool) (n : ℕ) → due ≡ false → n ≡ cond due 0 n
not_due true n is = absurd (cc)
not_due false n is = refl

pub awaited_to_come : (r : ReactorHalf) (a timer filter : ℕ) (strand slot : Option ℕ) (later : List (Option Act)) →
    r.now ≡ 0 → AreAhead r →
    to_come r (Some (act.Wait timer strand slot filter) ∷ later) ≡ to_come_beside (awaited a timer r) later
awaited_to_come r a timer filter strand slot later early ahead =
    let next : ReactorHalf = awaited a timer r in
    let new : Wait = record { op = a; timer = timer } in
    let g : Wait → ℕ = λ w. cond (is_due next w) 0 (cut_by later w) in
    let one = gather-append plus sums g r.waits (new ∷ []) in
    let two =
    gather-same plus (cut_by later) g r.waits
    (all_by (λ (w : Wait). is_due r w ≡ false) (λ (w : Wait). cut_by later w ≡ g w) r.waits
    (λ w due. not_due (is_due r w) (cut_by later w) due) ahead) in
    let three = ap (λ now. cond (nat_le (slice_index_or r.expiries timer 0) now) 0 (cut_by later new)) early in
    let four = at_zero (slice_index_or r.expiries timer 0) (is_renewed timer later) in
    omega (arith, one, two, three, four)

pub awaited_until : (r : ReactorHalf) (a timer filter : ℕ) (strand slot : Option ℕ) (later : List (Option Act)) →
    until r (Some (act.Wait timer strand slot filter) ∷ later) ≡ until (awaited a timer r) later
awaited_until r a timer filter strand slot later =
    let new : Wait = record { op = a; timer = timer } in
    let one = gather-append most mosts (stays_by r later) r.waits (new ∷ []) in
    omega (arith, one)
