-- Places and numbers add up, and a handler is never without a place.
use Rattle.std.proofs.Common.{arith, ap, refl, subst, sym, ◌∙◌}
use Rattle.std.proofs.lemmas.Bool.{true≢false}
use Rattle.std.proofs.lemmas.Bool.{ltb-false, ltb-true}
use Rattle.std.specs.Prelude.{◌≡◌, ◌<◌, ◌≤◌, ℕ, suc, ◌+◌, ◌-◌, ◌==◌, ◌||◌, min, not, nat_lt, Bool, true, false, List, [], ◌∷◌, Option, Some, None, if◌then◌else◌}
use Rattle.asio_types.specs.declared.code.Code.TheVariants as code
use Rattle.io_rules.specs.declared.event.Event.{Event}
use Rattle.io_rules.specs.declared.event.Event.TheVariants as event
use Rattle.io_rules.specs.declared.limits.Limits.{Limits}
use Rattle.io_rules.specs.declared.op.Phase.TheVariants as phase
use Rattle.io_rules.specs.declared.request.Gone.{Gone}
use Rattle.io_rules.specs.declared.request.Gone.TheVariants as gone
use Rattle.io_rules.specs.declared.spares.Spares.{Spares}
use Rattle.io_rules.specs.Calls.{IsWithin, MayCallBy, caller_lane, first_phase}
use Rattle.io_rules.specs.Executions.{granted_more}
use Rattle.io_rules.specs.History.{calls_by, is_caller, times}
use Rattle.io_rules.specs.Legal.{IsLegal, state_of}
use Rattle.io_rules.specs.Ops.{is_at, is_ready, is_running, passes}
use Rattle.io_rules.specs.Places.{MayInitiateOne, NumbersSuffice, PlacesAddUp}
use Rattle.io_rules.specs.Room.{at_op, counted, grant_of, granted_in, has_place, more_granted, most_numbers, numbers_in, one_if, place_given, place_given_by, places_in, promised_left, room_left}
use Rattle.io_rules.specs.State.{ContextState, Op, Phase}
use Rattle.io_rules.specs.Spares.{joined_spares}
use Rattle.io_rules.specs.Stopping.{MayDrop}
use Rattle.io_rules.specs.Strands.{Entry, First, Last, Later, entry_of}
use Rattle.io_rules.proofs.MoveLemmas.{dropping, running_stage}
use Rattle.io_rules.proofs.OnceLemmas.{at_rest, executing, if_executing, suc_if}
use Rattle.io_rules.proofs.ShareLemmas.{IsQuiet, weighed, weighed-called, weighed-changed, weighed-done, weighed-other, weighed-without}
use Rattle.io_rules.proofs.StageLemmas.{stage_of, staged}
use Rattle.io_rules.proofs.StrandLemmas.{by_test}
use Rattle.io_rules.proofs.TotalLemmas.{found, number-op_at, same, share, sum_by-total, total}

calm_places : (n : ℕ) (p q : Phase) → is_running p ≡ false → is_running q ≡ false → places_in p ≡ places_in q
calm_places n p q one other = one_place p one ∙ sym (one_place q other)
  where
    one_place : (p : Phase) → is_running p ≡ false → places_in p ≡ 1
    one_place (phase.Pending moved cancelled) is = refl
    one_place (phase.Settled code size) is = refl
    one_place (phase.Ready code size) is = refl
    one_place (phase.Running own grant spares) is = absurd (true≢false is)

calm_numbers : (n : ℕ) (p q : Phase) → is_running p ≡ false → is_running q ≡ false → numbers_in p ≡ numbers_in q
calm_numbers n p q one other = no_number p one ∙ sym (no_number q other)
  where
    no_number : (p : Phase) → is_running p ≡ false → numbers_in p ≡ 0
    no_number (phase.Pending moved cancelled) is = refl
    no_number (phase.Settled code size) is = refl
    no_number (phase.Ready code size) is = refl
    no_number (phase.Running own grant spares) is = absurd (true≢false is)

abbrev places : ℕ → Phase → ℕ
places n p = places_in p

abbrev numbers : ℕ → Phase → ℕ
numbers n p = numbers_in p

quiet_places : IsQuiet places
quiet_places = record { calm = calm_places; spares = λ n own grant one other. refl }

quiet_numbers : IsQuiet numbers
quiet_numbers = record { calm = calm_numbers; spares = λ n own grant one other. refl }

pub first_calm : (entry : Entry) (given : Gone) → is_running (first_phase entry given) ≡ false
first_calm First given = refl
first_calm Last given = refl
first_calm Later gone.Nothing = refl
first_calm Later gone.Strand = refl
first_calm Later gone.Other = refl

-- what counts places, or numbers, of a handler that executes
abbrev CountsPlaces : (Phase → ℕ) → Type 0
CountsPlaces count =
    (own : Bool) (grant : ℕ) (spares : Spares) → count (phase.Running own grant spares) ≡ one_if own + grant

gives_here : (count : Phase → ℕ) → CountsPlaces count → (own : Bool) (grant : ℕ) (spares : Spares) (b : Bool) →
    nat_lt 0 grant ≡ b → (own || b) ≡ true →
    one_if own + grant
    ≡ count (if b then phase.Running own (grant - 1) spares else phase.Running false 0 spares) + 1
gives_here count counts own grant spares true is may =
    let lt = ltb-true 0 grant is in let left = counts own (grant - 1) spares in omega (arith, lt, left)
gives_here count counts true grant spares false is may =
    let le = ltb-false 0 grant is in let left = counts false 0 spares in omega (arith, le, left)
gives_here count counts false grant spares false is may = absurd (true≢false (sym may))

-- a place that is given away is one less
gives_one : (count : Phase → ℕ) → CountsPlaces count → (p : Phase) → has_place p ≡ true →
    count p ≡ count (place_given p) + 1
gives_one count counts (phase.Running own grant spares) may =
    counts own grant spares ∙ gives_here count counts own grant spares (nat_lt 0 grant) refl may
gives_one count counts (phase.Pending moved cancelled) may = absurd (true≢false (sym may))
gives_one count counts (phase.Settled code size) may = absurd (true≢false (sym may))
gives_one count counts (phase.Ready code size) may = absurd (true≢false (sym may))

given_by : (w : ℕ → Phase → ℕ) → CountsPlaces (w 0) → ((n : ℕ) (p : Phase) → w n p ≡ w 0 p) → (ops : List Op) (by : ℕ)
    → is_at has_place ops by ≡ true →
    total (weighed w) (place_given_by (Some by) ops) + 1 ≡ total (weighed w) ops
given_by w counts plain ops by may =
    let it = found has_place ops by may in
    let change = weighed-changed w ops by (λ op. place_given op.phase) it.op it.is in
    let one = gives_one (w 0) counts it.op.phase it.passed in
    let here = plain by it.op.phase in
    let there = plain by (place_given it.op.phase) in
    omega (arith, change, one, here, there)

plain_places : (n : ℕ) (p : Phase) → places n p ≡ places 0 p
plain_places n p = refl

plain_numbers : (n : ℕ) (p : Phase) → numbers n p ≡ numbers 0 p
plain_numbers n p = refl

-- a call takes a place, of the context's or of its handler's
called_room : (s : ContextState) (given : Gone) (by : Option ℕ) (limit new : ℕ) → MayCallBy s given by →
    s.room + total (weighed places) s.ops ≡ limit →
    new ≡ total (weighed places) (place_given_by by s.ops) + 1 → room_left by s.room + new ≡ limit
called_room s given None limit new may before is =
    let room = may.room in omega (arith, room, before, is)
called_room s given (Some by) limit new may before is =
    let one = given_by places (λ own grant spares. refl) plain_places s.ops by may in
    omega (arith, one, before, is)

ready_place : (p : Phase) → is_ready p ≡ true → places_in p ≡ 1
ready_place (phase.Ready code size) is = refl
ready_place (phase.Pending moved cancelled) is = absurd (true≢false (sym is))
ready_place (phase.Settled code size) is = absurd (true≢false (sym is))
ready_place (phase.Running own grant spares) is = absurd (true≢false (sym is))

ready_number : (p : Phase) → is_ready p ≡ true → numbers_in p ≡ 0
ready_number (phase.Ready code size) is = refl
ready_number (phase.Pending moved cancelled) is = absurd (true≢false (sym is))
ready_number (phase.Settled code size) is = absurd (true≢false (sym is))
ready_number (phase.Running own grant spares) is = absurd (true≢false (sym is))

grants_more : (count : Phase → ℕ) → CountsPlaces count → (more : ℕ) (taken : Spares) (p : Phase) →
    is_running p ≡ true → count (granted_more more taken p) ≡ count p + more
grants_more count counts more taken (phase.Running own grant spares) is =
    let old = counts own grant spares in
    let new = counts own (grant + more) (joined_spares spares taken) in
    omega (arith, old, new)
grants_more count counts more taken (phase.Pending moved cancelled) is = absurd (true≢false (sym is))
grants_more count counts more taken (phase.Settled code size) is = absurd (true≢false (sym is))
grants_more count counts more taken (phase.Ready code size) is = absurd (true≢false (sym is))

not_executing : (p : Phase) → if_executing (stage_of p) true ≡ 0 → is_running p ≡ false
not_executing (phase.Pending moved cancelled) none = refl
not_executing (phase.Settled code size) none = refl
not_executing (phase.Ready code size) none = refl
not_executing (phase.Running own grant spares) none = absurd (omega (arith, none))

-- what is destroyed doesn't execute
dropped_calm : (limits : Limits) (past : List Event) (op mark : ℕ) → IsLegal limits past →
    (may : MayDrop (state_of limits past) op mark) →
    is_running (dropping (state_of limits past) op mark may).it.phase ≡ false
dropped_calm limits past op mark legal may =
    let s = state_of limits past in
    let it = dropping s op mark may in
    let none = at_rest limits past legal may.finishing op in
    let own = share (staged (executing op)) op s.ops it.it it.is in
    let number : (it.it.number == op) ≡ true =
    ap (λ n. n == op) (number-op_at op s.ops it.it it.is) ∙ same op in
    let stage : if_executing (stage_of it.it.phase) true ≡ 0 =
    sym (ap (if_executing (stage_of it.it.phase)) number) ∙ omega (arith, none, own) in
    not_executing it.it.phase stage

more_room : (s : ContextState) (left : ℕ) → more_granted s left ≤ s.room
more_room s left = omega arith

grant_room : (s : ContextState) → grant_of s ≤ s.room
grant_room s = omega arith

begun_sum : (room grant old new was limit : ℕ) → grant ≤ room → was ≡ 1 → new + was ≡ old + (1 + grant) →
    room + old ≡ limit → room - grant + new ≡ limit
begun_sum room grant old new was limit within one change before = omega (arith, within, one, change, before)

granted_sum : (room more old new was is limit : ℕ) → more ≤ room → is ≡ was + more → new + was ≡ old + is →
    room + old ≡ limit → room - more + new ≡ limit
granted_sum room more old new was is limit within gives change before = omega (arith, within, gives, change, before)

begun_numbers : (promised grant old new was : ℕ) → was ≡ 0 → new + was ≡ old + (1 + grant) → promised ≡ old →
    promised + (grant + 1) ≡ new
begun_numbers promised grant old new was none change before = omega (arith, none, change, before)

granted_numbers : (promised more old new was is : ℕ) → is ≡ was + more → new + was ≡ old + is → promised ≡ old →
    promised + more ≡ new
granted_numbers promised more old new was is gives change before = omega (arith, gives, change, before)

called_numbers : (s : ContextState) (given : Gone) (by : Option ℕ) (new : ℕ) → MayCallBy s given by →
    s.promised ≡ total (weighed numbers) s.ops → new ≡ total (weighed numbers) (place_given_by by s.ops) + 0 →
    promised_left by s.promised ≡ new
called_numbers s given None new may before is = omega (arith, before, is)
called_numbers s given (Some by) new may before is =
    let one = given_by numbers (λ own grant spares. refl) plain_numbers s.ops by may in
    omega (arith, one, before, is)

called_within : (s : ContextState) (given : Gone) (by : Option ℕ) (most : ℕ) → most ≡ most_numbers →
    MayCallBy s given by → s.promised ≡ total (weighed numbers) s.ops → s.next + s.promised ≤ most →
    s.next + 1 + promised_left by s.promised ≤ most
called_within s given None most is may before within =
    let left : 0 < most - (s.next + s.promised) = subst (λ m. 0 < m - (s.next + s.promised)) (sym is) may.numbers in
    outside s.next s.promised most left
  where
    outside : (next promised most : ℕ) → 0 < most - (next + promised) → next + 1 + promised ≤ most
    outside next promised most left = omega (arith, left)
called_within s given (Some by) most is may before within =
    let one = given_by numbers (λ own grant spares. refl) plain_numbers s.ops by may in
    omega (arith, one, before, within)

begun_within : (next promised most limit room : ℕ) → next + promised ≤ most → 0 < most - (next + promised) →
    next + (promised + (min limit (min room (most - (next + promised) - 1)) + 1)) ≤ most
begun_within next promised most limit room within left = omega (arith, within, left)

granted_within : (next promised most limit left room : ℕ) → next + promised ≤ most →
    next + (promised + min (limit - left) (min room (most - (next + promised)))) ≤ most
granted_within next promised most limit left room within = omega (arith, within)

places_here : (limits : Limits) (past : List Event) → IsLegal limits past →
    (state_of limits past).room + total (weighed places) (state_of limits past).ops ≡ limits.operations
places_here limits [] legal = omega arith
places_here limits (event.Called op by request given ∷ past) legal =
    let s = state_of limits past in
    let entry = entry_of (caller_lane s.ops by) request given in
    called_room s given by limits.operations _ legal.0.allowed (places_here limits past legal.1)
    (weighed-called places calm_places op by request given s
    ∙ ap (λ n. total (weighed places) (place_given_by by s.ops) + n)
    (calm_places op (first_phase entry given) (phase.Ready code.Ok 0) (first_calm entry given) refl))
places_here limits (event.Done op code size ∷ past) legal =
    let s = state_of limits past in
    ap (λ n. s.room + n) (weighed-done places calm_places op code size s legal.0) ∙ places_here limits past legal.1
places_here limits (event.Begun op spares ∷ past) legal =
    let s = state_of limits past in
    let before = places_here limits past legal.1 in
    let it = found is_ready s.ops op legal.0.ready in
    let change = weighed-changed places s.ops op (λ other. phase.Running true (grant_of s) spares) it.op it.is in
    let old = ready_place it.op.phase it.passed in
    let within = grant_room s in
    begun_sum s.room (grant_of s) (total (weighed places) s.ops) _ (places_in it.op.phase) limits.operations within old
    change before
places_here limits (event.Granted op spares ∷ past) legal =
    let s = state_of limits past in
    let before = places_here limits past legal.1 in
    let it = found is_running s.ops op legal.0.runs in
    let more = more_granted s (at_op granted_in s.ops op) in
    let change = weighed-changed places s.ops op (λ o. granted_more more spares o.phase) it.op it.is in
    let new = grants_more places_in (λ own grant sp. refl) more spares it.op.phase it.passed in
    let within = more_room s (at_op granted_in s.ops op) in
    granted_sum s.room more (total (weighed places) s.ops) _ (places_in it.op.phase)
    (places_in (granted_more more spares it.op.phase)) limits.operations within new change before
places_here limits (event.Ended op mark ∷ past) legal =
    let s = state_of limits past in
    let before = places_here limits past legal.1 in
    let it = found is_running s.ops op legal.0.runs in
    let left = weighed-without places s.ops op it.op it.is in
    let own : at_op places_in s.ops op ≡ places_in it.op.phase = ap (counted places_in) it.is in
    omega (arith, before, left, own)
places_here limits (event.Dropped op mark ∷ past) legal =
    let s = state_of limits past in
    let before = places_here limits past legal.1 in
    let it = dropping s op mark legal.0 in
    let left = weighed-without places s.ops op it.it it.is in
    let one = calm_places op it.it.phase (phase.Ready code.Ok 0) (dropped_calm limits past op mark legal.1 legal.0) refl in
    omega (arith, before, left, one)
places_here limits (e ∷ past) legal =
    let s = state_of limits past in
    ap (λ n. s.room + n) (weighed-other places quiet_places e s refl) ∙ places_here limits past legal.1

pub places_add_up : PlacesAddUp
places_add_up limits past legal =
    ap (λ n. (state_of limits past).room + n) (sum_by-total (weighed places) (state_of limits past).ops)
    ∙ places_here limits past legal

-- the numbers that are kept are those that handlers have
numbers_here : (limits : Limits) (past : List Event) → IsLegal limits past →
    (state_of limits past).promised ≡ total (weighed numbers) (state_of limits past).ops
numbers_here limits [] legal = refl
numbers_here limits (event.Called op by request given ∷ past) legal =
    let s = state_of limits past in
    let entry = entry_of (caller_lane s.ops by) request given in
    called_numbers s given by _ legal.0.allowed (numbers_here limits past legal.1)
    (weighed-called numbers calm_numbers op by request given s
    ∙ ap (λ n. total (weighed numbers) (place_given_by by s.ops) + n)
    (calm_numbers op (first_phase entry given) (phase.Ready code.Ok 0) (first_calm entry given) refl))
numbers_here limits (event.Done op code size ∷ past) legal =
    let s = state_of limits past in
    numbers_here limits past legal.1 ∙ sym (weighed-done numbers calm_numbers op code size s legal.0)
numbers_here limits (event.Begun op spares ∷ past) legal =
    let s = state_of limits past in
    let before = numbers_here limits past legal.1 in
    let it = found is_ready s.ops op legal.0.ready in
    let change = weighed-changed numbers s.ops op (λ other. phase.Running true (grant_of s) spares) it.op it.is in
    let old = ready_number it.op.phase it.passed in
    begun_numbers s.promised (grant_of s) (total (weighed numbers) s.ops) _ (numbers_in it.op.phase) old change before
numbers_here limits (event.Granted op spares ∷ past) legal =
    let s = state_of limits past in
    let before = numbers_here limits past legal.1 in
    let it = found is_running s.ops op legal.0.runs in
    let more = more_granted s (at_op granted_in s.ops op) in
    let change = weighed-changed numbers s.ops op (λ o. granted_more more spares o.phase) it.op it.is in
    let new = grants_more numbers_in (λ own grant sp. refl) more spares it.op.phase it.passed in
    granted_numbers s.promised more (total (weighed numbers) s.ops) _ (numbers_in it.op.phase)
    (numbers_in (granted_more more spares it.op.phase)) new change before
numbers_here limits (event.Ended op mark ∷ past) legal =
    let s = state_of limits past in
    let before = numbers_here limits past legal.1 in
    let it = found is_running s.ops op legal.0.runs in
    let left = weighed-without numbers s.ops op it.op it.is in
    let own : at_op numbers_in s.ops op ≡ numbers_in it.op.phase = ap (counted numbers_in) it.is in
    omega (arith, before, left, own)
numbers_here limits (event.Dropped op mark ∷ past) legal =
    let s = state_of limits past in
    let before = numbers_here limits past legal.1 in
    let it = dropping s op mark legal.0 in
    let left = weighed-without numbers s.ops op it.it it.is in
    let none = calm_numbers op it.it.phase (phase.Ready code.Ok 0) (dropped_calm limits past op mark legal.1 legal.0) refl in
    omega (arith, before, left, none)
numbers_here limits (e ∷ past) legal =
    let s = state_of limits past in
    numbers_here limits past legal.1 ∙ sym (weighed-other numbers quiet_numbers e s refl)

-- none is given that isn't there
within_numbers : (limits : Limits) (past : List Event) → IsLegal limits past →
    (state_of limits past).next + (state_of limits past).promised ≤ most_numbers
within_numbers limits [] legal = omega arith
within_numbers limits (event.Called op by request given ∷ past) legal =
    let s = state_of limits past in
    called_within s given by most_numbers refl legal.0.allowed (numbers_here limits past legal.1)
    (within_numbers limits past legal.1)
within_numbers limits (event.Begun op spares ∷ past) legal =
    let s = state_of limits past in
    begun_within s.next s.promised most_numbers s.limits.grant s.room (within_numbers limits past legal.1) legal.0.numbers
within_numbers limits (event.Granted op spares ∷ past) legal =
    let s = state_of limits past in
    granted_within s.next s.promised most_numbers s.limits.grant (at_op granted_in s.ops op) s.room
    (within_numbers limits past legal.1)
within_numbers limits (event.Ended op mark ∷ past) legal =
    let before = within_numbers limits past legal.1 in omega (arith, before)
within_numbers limits (e ∷ past) legal = within_numbers limits past legal.1

pub numbers_suffice : NumbersSuffice
numbers_suffice limits past legal =
    let s = state_of limits past in
    subst (λ n. s.next + n ≤ most_numbers)
    (numbers_here limits past legal ∙ sym (sum_by-total (weighed numbers) s.ops)) (within_numbers limits past legal)

-- whether a handler that executes gave its own place away
abbrev gave_in : Phase → ℕ
gave_in (phase.Running own grant spares) = one_if (not own)
gave_in _ = 0

abbrev gave_if : Bool → Phase → ℕ
gave_if true p = gave_in p
gave_if false p = 0

abbrev gave : ℕ → ℕ → Phase → ℕ
gave k n p = gave_if (n == k) p

calm_gave : (b : Bool) (p : Phase) → is_running p ≡ false → gave_if b p ≡ 0
calm_gave true (phase.Pending moved cancelled) is = refl
calm_gave true (phase.Settled code size) is = refl
calm_gave true (phase.Ready code size) is = refl
calm_gave true (phase.Running own grant spares) is = absurd (true≢false is)
calm_gave false p is = refl

spares_gave : (b own : Bool) (grant : ℕ) (one other : Spares) →
    gave_if b (phase.Running own grant one) ≡ gave_if b (phase.Running own grant other)
spares_gave true own grant one other = refl
spares_gave false own grant one other = refl

quiet_gave : (k : ℕ) → IsQuiet (gave k)
quiet_gave k = record {
  calm = λ n p q one other. calm_gave (n == k) p one ∙ sym (calm_gave (n == k) q other);
  spares = λ n own grant one other. spares_gave (n == k) own grant one other;
}

at_most : (own : Bool) → one_if (not own) ≤ 1
at_most true = omega arith
at_most false = omega arith

gives_phase : (own : Bool) (grant : ℕ) (spares : Spares) (b : Bool) →
    gave_in (if b then phase.Running own (grant - 1) spares else phase.Running false 0 spares) ≤ one_if (not own) + 1
gives_phase own grant spares true = omega arith
gives_phase own grant spares false = omega arith

gives_at_most : (b : Bool) (p : Phase) → gave_if b (place_given p) ≤ gave_if b p + one_if b
gives_at_most true (phase.Pending moved cancelled) = omega arith
gives_at_most true (phase.Settled code size) = omega arith
gives_at_most true (phase.Ready code size) = omega arith
gives_at_most true (phase.Running own grant spares) = gives_phase own grant spares (nat_lt 0 grant)
gives_at_most false p = omega arith

more_gave : (b : Bool) (more : ℕ) (taken : Spares) (p : Phase) → gave_if b (granted_more more taken p) ≡ gave_if b p
more_gave true more taken (phase.Pending moved cancelled) = refl
more_gave true more taken (phase.Settled code size) = refl
more_gave true more taken (phase.Ready code size) = refl
more_gave true more taken (phase.Running own grant spares) = refl
more_gave false more taken p = refl

begun_gave : (b : Bool) (grant : ℕ) (spares : Spares) → gave_if b (phase.Running true grant spares) ≡ 0
begun_gave true grant spares = refl
begun_gave false grant spares = refl

called_gave : (s : ContextState) (given : Gone) (by : Option ℕ) (k count : ℕ) → MayCallBy s given by →
    total (weighed (gave k)) s.ops ≤ count →
    total (weighed (gave k)) (place_given_by by s.ops) + 0 ≤ (if is_caller k by then suc count else count)
called_gave s given None k count may before = omega (arith, before)
called_gave s given (Some by) k count may before =
    let it = found has_place s.ops by may in
    let change = weighed-changed (gave k) s.ops by (λ op. place_given op.phase) it.op it.is in
    let more = gives_at_most (by == k) it.op.phase in
    let counted_once = suc_if (by == k) count in
    omega (arith, before, change, more, counted_once)

-- only what a handler initiates takes its own place
gave_here : (limits : Limits) (past : List Event) → IsLegal limits past → (k : ℕ) →
    total (weighed (gave k)) (state_of limits past).ops ≤ times (calls_by k) past
gave_here limits [] legal k = omega arith
gave_here limits (event.Called op by request given ∷ past) legal k =
    let s = state_of limits past in
    let entry = entry_of (caller_lane s.ops by) request given in
    subst (λ n. n ≤ times (calls_by k) (event.Called op by request given ∷ past))
    (sym
    (weighed-called (gave k) (quiet_gave k).calm op by request given s
    ∙ ap (λ n. total (weighed (gave k)) (place_given_by by s.ops) + n)
    (calm_gave (op == k) (first_phase entry given) (first_calm entry given))))
    (called_gave s given by k (times (calls_by k) past) legal.0.allowed (gave_here limits past legal.1 k))
gave_here limits (event.Done op code size ∷ past) legal k =
    let before = gave_here limits past legal.1 k in
    let same_total = weighed-done (gave k) (quiet_gave k).calm op code size (state_of limits past) legal.0 in
    omega (arith, before, same_total)
gave_here limits (event.Begun op spares ∷ past) legal k =
    let s = state_of limits past in
    let before = gave_here limits past legal.1 k in
    let it = found is_ready s.ops op legal.0.ready in
    let change = weighed-changed (gave k) s.ops op (λ other. phase.Running true (grant_of s) spares) it.op it.is in
    let none = begun_gave (op == k) (grant_of s) spares in
    omega (arith, before, change, none)
gave_here limits (event.Granted op spares ∷ past) legal k =
    let s = state_of limits past in
    let before = gave_here limits past legal.1 k in
    let it = found is_running s.ops op legal.0.runs in
    let more = more_granted s (at_op granted_in s.ops op) in
    let change = weighed-changed (gave k) s.ops op (λ o. granted_more more spares o.phase) it.op it.is in
    let keeps = more_gave (op == k) more spares it.op.phase in
    omega (arith, before, change, keeps)
gave_here limits (event.Ended op mark ∷ past) legal k =
    let s = state_of limits past in
    let before = gave_here limits past legal.1 k in
    let it = found is_running s.ops op legal.0.runs in
    let left = weighed-without (gave k) s.ops op it.op it.is in
    omega (arith, before, left)
gave_here limits (event.Dropped op mark ∷ past) legal k =
    let s = state_of limits past in
    let before = gave_here limits past legal.1 k in
    let it = dropping s op mark legal.0 in
    let left = weighed-without (gave k) s.ops op it.it it.is in
    omega (arith, before, left)
gave_here limits (e ∷ past) legal k =
    subst (λ n. n ≤ times (calls_by k) past)
    (sym (weighed-other (gave k) (quiet_gave k) e (state_of limits past) refl)) (gave_here limits past legal.1 k)

has_own : (p : Phase) → is_running p ≡ true → gave_in p ≡ 0 → has_place p ≡ true
has_own (phase.Running true grant spares) runs none = refl
has_own (phase.Running false grant spares) runs none = absurd (omega (arith, none))
has_own (phase.Pending moved cancelled) runs none = absurd (true≢false (sym runs))
has_own (phase.Settled code size) runs none = absurd (true≢false (sym runs))
has_own (phase.Ready code size) runs none = absurd (true≢false (sym runs))

limits_are : (limits : Limits) (past : List Event) → (state_of limits past).limits ≡ limits
limits_are limits [] = refl
limits_are limits (event.Called op by request given ∷ past) = limits_are limits past
limits_are limits (e ∷ past) = limits_are limits past

-- while a handler executes the context isn't being destroyed
going_on : (limits : Limits) (past : List Event) → IsLegal limits past → (op : ℕ) →
    is_at is_running (state_of limits past).ops op ≡ true → (state_of limits past).finishing ≡ false
going_on limits past legal op runs =
    let s = state_of limits past in
    by_test s.finishing
    (λ finishing.
    let it = found is_running s.ops op runs in
    let none = at_rest limits past legal finishing op in
    let own = share (staged (executing op)) op s.ops it.op it.is in
    let number : (it.op.number == op) ≡ true =
    ap (λ n. n == op) (number-op_at op s.ops it.op it.is) ∙ same op in
    let one : staged (executing op) it.op ≡ 1 =
    ap (λ b. if_executing (stage_of it.op.phase) b) number
    ∙ ap (λ stage. if_executing stage true) (running_stage it.op.phase it.passed) in
    absurd (omega (arith, none, own, one)))
    (λ going. going)

pub may_initiate_one : MayInitiateOne
may_initiate_one limits past legal op runs nothing request within =
    let s = state_of limits past in
    let it = found is_running s.ops op runs in
    let few = gave_here limits past legal op in
    let own = share (weighed (gave op)) op s.ops it.op it.is in
    let number : (it.op.number == op) ≡ true =
    ap (λ n. n == op) (number-op_at op s.ops it.op it.is) ∙ same op in
    let kept : gave_in it.op.phase ≡ 0 =
    sym (ap (λ b. gave_if b it.op.phase) number) ∙ omega (arith, few, own, nothing) in
    record {
      going = going_on limits past legal op runs;
      number = refl;
      names = refl;
      allowed = ap (passes has_place) it.is ∙ has_own it.op.phase it.passed kept;
      within = subst (λ l. IsWithin l.held request.kind) (sym (limits_are limits past)) within;
    }
