-- How many events are left, step by step.
use Rattle.std.proofs.Common.{◌≡◌, ◌≢◌, ℕ, zero, suc, ◌+◌, ◌*◌, ◌-◌, ◌<◌, ◌≤◌, Bool, true, false, List, inl, inr, length, replicate, refl, ap, ◌∙◌, arith}
use Rattle.std.specs.Prelude.{sum_by}
use Rattle.std.specs.List.{range_with_len, slice_index_or}
use Rattle.std.proofs.lemmas.Bool.{cases_lt}
use Rattle.std.proofs.lemmas.List.{get_or-replicate, get_or_past, length-replicate}
use Rattle.session_script.specs.Script.{ScriptModel}
use Rattle.stream_rules.specs.World.{times_after}
use Rattle.history_rules.specs.Order.{is_request, was_taken}
use Rattle.history_rules.specs.State.{State, act_at, call_at, first_state, fresh, phase_at}
use Rattle.history_rules.specs.declared.phase.ActPhase.{ActPhase}
use Rattle.history_rules.specs.declared.phase.ActPhase.TheVariants as phase
use Rattle.history_rules.specs.declared.phase.ActState.{ActState}
use Rattle.history_rules.specs.declared.phase.CallPhase.{CallPhase}
use Rattle.history_rules.specs.declared.phase.CallPhase.TheVariants as call
use Rattle.reactor_turns.specs.Ahead.{one_unless}
use Rattle.reactor_turns.proofs.AheadLemmas.{times-most}
use Rattle.execution_laws.specs.Work.{is_requested}
use Rattle.book_context.specs.Left.{act_left, act_left_at, events_left, most_history, phase_left, rounds_left}
use Rattle.reactor_turns.proofs.SummingLemmas.{one_if, summed, summed-apart, summed-both, summed-less, summed-range, summed-same}

-- what the acts may still show
abbrev pub acts_left : State → ℕ
acts_left s = summed (act_left_at s) (length s.context.acts)

-- and all else
abbrev pub world_left : ScriptModel → State → ℕ
world_left script s = length s.reactor.waits + length (times_after s.reactor.now script.world.lines)

abbrev pub flags_left : State → ℕ
flags_left s = one_unless s.reactor.last + one_unless s.reactor.failed + one_unless s.context.stopped

abbrev pub rounds_left_at : ScriptModel → State → ℕ
rounds_left_at script s = rounds_left (length script.rounds - s.context.closings) s.context.restarted

pub left-parts : (script : ScriptModel) (s : State) →
    events_left script s ≡ acts_left s + world_left script s + flags_left s + rounds_left_at script s
left-parts script s =
    let acts = summed-range (act_left_at s) (length s.context.acts) in
    add_up (sum_by (act_left_at s) (range_with_len 0 (length s.context.acts))) (acts_left s) (length s.reactor.waits)
    (length (times_after s.reactor.now script.world.lines)) (one_unless s.reactor.last) (one_unless s.reactor.failed)
    (one_unless s.context.stopped) (rounds_left_at script s) acts
  where
    add_up : (a b w l o f u r : ℕ) → a ≡ b → a + w + l + o + f + u + r ≡ b + (w + l) + (o + f + u) + r
    add_up a b w l o f u r same = omega (arith, same)

-- the parts fall by so much in all
pub left-falls : (script : ScriptModel) (s t : State) (k : ℕ) →
    acts_left t + world_left script t + flags_left t + rounds_left_at script t + k
    ≤ acts_left s + world_left script s + flags_left s + rounds_left_at script s →
    events_left script t + k ≤ events_left script s
left-falls script s t k less =
    let one = left-parts script s in
    let two = left-parts script t in by_sums (events_left script t) (events_left script s) _ _ k two one less
  where
    by_sums : (a b c d k : ℕ) → a ≡ c → b ≡ d → c + k ≤ d → a + k ≤ b
    by_sums a b c d k first second less = omega (arith, first, second, less)

-- acts that are as they were show as much
pub acts-same : (s t : State) → t.context.acts ≡ s.context.acts →
    ((n : ℕ) → was_taken t.reactor n ≡ was_taken s.reactor n) → acts_left t ≡ acts_left s
acts-same s t acts taken =
    let one = summed-same (act_left_at t) (act_left_at s) (length t.context.acts) (λ n.
    ap (λ (acts : List ActState). act_left (slice_index_or acts n fresh).call (slice_index_or acts n fresh).phase (was_taken t.reactor n)) acts ∙ ap (λ b. act_left (call_at s.context n) (phase_at s.context n) b) (taken n)) in
    let long = ap (λ (acts : List ActState). summed (act_left_at s) (length acts)) acts in
    one ∙ long

-- an act whose call was made
pub left_made : (c : CallPhase) (p : ActPhase) (taken : Bool) → c ≢ call.Uncalled →
    act_left c p taken ≡ phase_left p taken
left_made call.Uncalled p taken made = absurd (made refl)
left_made (call.Open called) p taken made = refl
left_made (call.Stopping called) p taken made = refl
left_made (call.Back called back) p taken made = refl

-- a request that is taken
take_phase : (p : ActPhase) → is_request p ≡ true → phase_left p true + 1 + one_if (is_requested p) ≤ phase_left p false
take_phase phase.Requested is = omega arith
take_phase phase.Asked is = omega arith
take_phase p is = absurd (cc)

pub left_taken : (c : CallPhase) (p : ActPhase) → c ≢ call.Uncalled → is_request p ≡ true →
    act_left c p true + (1 + one_if (is_requested p)) ≤ act_left c p false
left_taken c p made is =
    let one = left_made c p true made in
    let two = left_made c p false made in
    let less = take_phase p is in
    omega (arith, one, two, less)

-- an operation that completes
pub left_told : (c : CallPhase) (p q : ActPhase) → c ≢ call.Uncalled → p ≡ phase.Requested → phase_left q true ≡ 2 →
    act_left c q true + 1 ≤ act_left c p true
left_told c p q made is two =
    let before = left_made c p true made ∙ ap (λ p. phase_left p true) is in
    let after = left_made c q true made in
    omega (arith, before, after, two)

-- each act shows at most seven
seven_each : (n : ℕ) → summed (λ m. 7) n ≡ 7 * n
seven_each zero = refl
seven_each (suc n) = let rest = seven_each n in omega (arith, rest)

unmade_left : (s : State) (n : ℕ) → act_at s.context n ≡ fresh → act_left_at s n ≡ 7
unmade_left s n is = ap (λ (act : ActState). act_left act.call act.phase (was_taken s.reactor n)) is

pub first_act : (script : ScriptModel) (n : ℕ) → slice_index_or (replicate (length script.acts) fresh) n fresh ≡ fresh
first_act script n = elim (cases_lt n (length script.acts)) [
  | inl within ↦ get_or-replicate (length script.acts) n fresh fresh within
  | inr beyond ↦
      get_or_past (replicate (length script.acts) fresh) n fresh
      (omega (arith, beyond, length-replicate (length script.acts) fresh))
]

-- before the first event no more are left than a session needs room for
pub first_bounded : (script : ScriptModel) (told : Bool) →
    events_left script (first_state script told) ≤ most_history script
first_bounded script told =
    let s : State = first_state script told in
    let parts = left-parts script s in
    let long : length s.context.acts ≡ length script.acts = length-replicate (length script.acts) fresh in
    let each =
    summed-same (act_left_at s) (λ m. 7) (length s.context.acts) (λ n. unmade_left s n (first_act script n)) in
    let seven = seven_each (length s.context.acts) in
    let times = times-most 0 script.world.lines in
    omega (arith, parts, long, each, seven, times)

-- the acts that an execution calls, and its operation
pub acts-fall : (s t : State) (f : ℕ → ℕ) → length t.context.acts ≡ length s.context.acts →
    ((n : ℕ) → act_left_at t n + f n ≤ act_left_at s n) → acts_left t + summed f (length s.context.acts) ≤ acts_left s
acts-fall s t f long each =
    let both = summed-both (act_left_at t) f (length s.context.acts) in
    let less = summed-less (λ n. act_left_at t n + f n) (act_left_at s) (length s.context.acts) each in
    let same = ap (summed (act_left_at t)) long in
    omega (arith, both, less, same)

-- what one act shows
pub acts-apart : (s t : State) (a k : ℕ) → length t.context.acts ≡ length s.context.acts → a < length s.context.acts →
    act_left_at t a + k ≤ act_left_at s a → ((m : ℕ) → m ≢ a → act_left_at t m ≡ act_left_at s m) →
    acts_left t + k ≤ acts_left s
acts-apart s t a k long within here others =
    let less =
    summed-apart (act_left_at t) (act_left_at s) a k (length s.context.acts) within here
    (λ m differ. let same = others m differ in omega (arith, same)) in
    let same = ap (summed (act_left_at t)) long in
    omega (arith, less, same)
