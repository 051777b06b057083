-- What is still to come of the requests that weren't taken: which waits a later expiry of their timer cancels, and how
-- long the others last.
use Rattle.std.proofs.Common.{◌≡◌, ℕ, ◌+◌, nat_lt, max, zero, suc, Bool, true, false, ◌&&◌, ◌||◌, cond, List, [], ◌∷◌, length, map, Option, Some, None, refl, ap, sym, ◌∙◌, arith}
use Rattle.std.specs.List.{list_any, slice_get, slice_index_or, slice_set}
use Rattle.std.proofs.Math.ListN.{length-set}
use Rattle.std.proofs.lemmas.Bool.{lt-ltb}
use Rattle.std.proofs.lemmas.List.{get_or-set_same}
use Rattle.session_script.specs.declared.act.Act.{Act}
use Rattle.session_script.specs.declared.act.Act.TheVariants as act
use Rattle.session_script.specs.Script.{Entry}
use Rattle.generated_session.specs.PlainSummary.{cut_off_by, is_expiry_of, is_set_again, lasting_by, plain_aborted, plain_time}
use Rattle.generated_session.proofs.ItemsLemmas.{act_of-in, AreItems, asks, asks_entry, dispatch, IsPosting, nested, nothing, nth_act, post, posting, waiting}
use Rattle.generated_session.proofs.ListedLemmas.{numbered}

abbrev pub sets_timer : ℕ → Option Act → Bool
sets_timer timer None = false
sets_timer timer (Some act) = is_expiry_of timer act

-- a later request gives the timer another expiry
abbrev pub is_renewed : ℕ → List (Option Act) → Bool
is_renewed timer later = list_any (sets_timer timer) later

abbrev pub expiries_after : Option Act → List ℕ → List ℕ
expiries_after (Some (act.Expires timer after)) expiries = slice_set expiries timer after
expiries_after _ expiries = expiries

abbrev pub aborts_by : Option Act → List ℕ → List (Option Act) → ℕ
aborts_by (Some (act.Wait timer strand slot filter)) expiries later =
    cond (nat_lt 0 (slice_index_or expiries timer 0) && is_renewed timer later) 1 0
aborts_by _ expiries later = 0

abbrev pub lasts_by : Option Act → List ℕ → List (Option Act) → ℕ
lasts_by (Some (act.Wait timer strand slot filter)) expiries later =
    cond (is_renewed timer later) 0 (slice_index_or expiries timer 0)
lasts_by _ expiries later = 0

abbrev pub to_abort : List ℕ → List (Option Act) → ℕ
to_abort expiries [] = 0
to_abort expiries (act ∷ later) = aborts_by act expiries later + to_abort (expiries_after act expiries) later

abbrev pub to_last : List ℕ → List (Option Act) → ℕ
to_last expiries [] = 0
to_last expiries (act ∷ later) = max (lasts_by act expiries later) (to_last (expiries_after act expiries) later)

-- the acts that ask
abbrev pub asked_acts : List Entry → List (Option Act)
asked_acts [] = []
asked_acts (e ∷ es) = cond (asks_entry e) (Some e.act ∷ asked_acts es) (asked_acts es)

asked_by : (b : Bool) (acts : List Entry) (n : ℕ) (a : Act) (xs : List ℕ) (ys : List (Option Act)) →
    nth_act acts n ≡ Some a → map (nth_act acts) xs ≡ ys →
    map (nth_act acts) (cond b (n ∷ xs) xs) ≡ cond b (Some a ∷ ys) ys
asked_by true acts n a xs ys here rest = ap (λ o. o ∷ map (nth_act acts) xs) here ∙ ap (λ zs. Some a ∷ zs) rest
asked_by false acts n a xs ys here rest = rest

asked_from : (acts : List Entry) (n : ℕ) (es : List Entry) → ((k : ℕ) → slice_get es k ≡ slice_get acts (n + k)) →
    map (nth_act acts) (numbered asks_entry n es) ≡ asked_acts es
asked_from acts n [] same = refl
asked_from acts n (e ∷ es) same =
    let here : n ≡ n + 0 = omega arith in
    let there : slice_get acts n ≡ Some e = ap (slice_get acts) here ∙ sym (same 0) in
    asked_by (asks_entry e) acts n e.act (numbered asks_entry (n + 1) es) (asked_acts es) (act_of-in acts n (Some e) there)
    (asked_from acts (n + 1) es (λ k. let at : n + suc k ≡ n + 1 + k = omega arith in same (suc k) ∙ ap (slice_get acts) at))

pub asked : (acts : List Entry) → map (nth_act acts) (numbered asks_entry 0 acts) ≡ asked_acts acts
asked acts = asked_from acts 0 acts (λ k. let at : k ≡ 0 + k = omega arith in ap (slice_get acts) at)

asks_none : {a : Act} → IsPosting a → asks a ≡ false
asks_none (post strand small) = refl
asks_none (dispatch strand small) = refl

sets_none : {a : Act} → IsPosting a → (timer : ℕ) → is_expiry_of timer a ≡ false
sets_none (post strand small) timer = refl
sets_none (dispatch strand small) timer = refl

cuts_none : {a : Act} → IsPosting a → (later : List Entry) → cut_off_by a later ≡ 0
cuts_none (post strand small) later = refl
cuts_none (dispatch strand small) later = refl

lasts_none : {a : Act} → IsPosting a → (later : List Entry) → lasting_by a later ≡ 0
lasts_none (post strand small) later = refl
lasts_none (dispatch strand small) later = refl

renewed_later : {n : ℕ} {es : List Entry} → AreItems n es → (timer : ℕ) →
    is_renewed timer (asked_acts es) ≡ is_set_again timer es
renewed_later nothing timer = refl
renewed_later (posting a rest is items) timer = rw (asks_none is, sets_none is timer) (renewed_later items timer)
renewed_later (nested a b rest is also items) timer =
    rw (asks_none is, asks_none also, sets_none is timer, sets_none also timer) (renewed_later items timer)
renewed_later (waiting other after rest small short items) timer =
    ap (λ b. is_expiry_of timer (act.Expires other after) || b) (renewed_later items timer)

cut_same : (m : ℕ) (a b : Bool) (n rest more : ℕ) → n ≡ m → a ≡ b → rest ≡ more →
    cond (nat_lt 0 n && a) 1 0 + rest ≡ cond (nat_lt 0 m && b) 1 0 + more
cut_same m a b n rest more first second third =
    ap (λ k. cond (nat_lt 0 k && a) 1 0 + rest) first ∙ ap (λ c. cond (nat_lt 0 m && c) 1 0 + rest) second
    ∙ ap (λ k. cond (nat_lt 0 m && b) 1 0 + k) third

lasting_same : (m : ℕ) (b : Bool) → cond b 0 m ≡ cond (nat_lt 0 m && b) 0 m
lasting_same zero true = refl
lasting_same zero false = refl
lasting_same (suc m) b = ap (λ t. cond (t && b) 0 (suc m)) (sym (lt-ltb 0 (suc m) (omega arith)))

-- from the requests to the acts
pub aborts_plain : {n : ℕ} {es : List Entry} → AreItems n es → (expiries : List ℕ) → length expiries ≡ 4 →
    to_abort expiries (asked_acts es) ≡ plain_aborted es
aborts_plain nothing expiries four = refl
aborts_plain (posting a rest is items) expiries four =
    let later = aborts_plain items expiries four in
    rw (asks_none is, cuts_none is rest) (omega (arith, later))
aborts_plain (nested a b rest is also items) expiries four =
    let later = aborts_plain items expiries four in
    rw (asks_none is, asks_none also, cuts_none is _, cuts_none also rest) (omega (arith, later))
aborts_plain (waiting timer after rest small short items) expiries four =
    let set : List ℕ = slice_set expiries timer after in
    let later = aborts_plain items set (length-set expiries timer after ∙ four) in
    let here =
    cut_same after (is_renewed timer (asked_acts rest)) (is_set_again timer rest) (slice_index_or set timer 0)
    (to_abort set (asked_acts rest)) (plain_aborted rest)
    (get_or-set_same expiries timer after 0 (omega (arith, small, four))) (renewed_later items timer) later in
    omega (arith, here)

pub lasts_plain : {n : ℕ} {es : List Entry} → AreItems n es → (expiries : List ℕ) → length expiries ≡ 4 →
    to_last expiries (asked_acts es) ≡ plain_time es
lasts_plain nothing expiries four = refl
lasts_plain (posting a rest is items) expiries four =
    let later = lasts_plain items expiries four in
    rw (asks_none is, lasts_none is rest) (omega (arith, later))
lasts_plain (nested a b rest is also items) expiries four =
    let later = lasts_plain items expiries four in
    rw (asks_none is, asks_none also, lasts_none is _, lasts_none also rest) (omega (arith, later))
lasts_plain (waiting timer after rest small short items) expiries four =
    let set : List ℕ = slice_set expiries timer after in
    let later = lasts_plain items set (length-set expiries timer after ∙ four) in
    let here =
    ap (λ b. cond b 0 (slice_index_or set timer 0)) (renewed_later items timer)
    ∙ ap (λ m. cond (is_set_again timer rest) 0 m) (get_or-set_same expiries timer after 0 (omega (arith, small, four)))
    ∙ lasting_same after (is_set_again timer rest) in
    omega (arith, here, later)
