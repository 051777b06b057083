-- Where bytes are untold a completion of an act has a place of its own, by its operation, code and size.
use Rattle.std.proofs.Common.{◌≡◌, ◌<◌, ◌≤◌, ◌+◌, ◌-◌, ◌*◌, ◌/◌, ◌%◌, ◌⊎◌, inl, inr, ℕ, suc, zero, Bool, true, false, Option, Some, None, length, slice_get, arith, refl, cond, ap, sym, subst, ◌∙◌}
use Rattle.std.specs.Prelude.{◌==◌, nat_eq, nat_lt, nat_le, not, ◌&&◌}
use Rattle.std.specs.Cmp.Derive.{both_true}
use Rattle.std.proofs.lemmas.Bool.{and_parts, both_ways, cases_Bool, cases_lt, eqb-true, le-leb, le-ltb, leb-true, lt-ltb, ltb-true}
use Rattle.std.proofs.lemmas.Option.{slice_get_past}
use Rattle.asio_types.specs.declared.code.Code.{Code}
use Rattle.asio_types.specs.declared.code.Code.TheVariants as code
use Rattle.asio_types.specs.declared.event.Event.{Event}
use Rattle.asio_types.specs.declared.event.Event.TheVariants as event
use Rattle.history_rules.specs.Requests.{IsNextDue, MayTell}
use Rattle.history_rules.specs.State.{ReactorHalf}
use Rattle.history_rules.specs.Untold.{IsToldAs, MayGiveUntold, is_read_mark, is_write_mark, may_give_all, may_give_some, may_give_until, may_have_moved}
use Rattle.session_orders.specs.Place.{AllFit, asked_by, asked_in, asked_of, base_of, code_with, done_in, has_own, number_of, own_event, own_place, sizes}
use Rattle.session_orders.specs.declared.bounds.ReactorKind.{ReactorKind}
use Rattle.session_script.specs.declared.act.Act.{Act}
use Rattle.session_script.specs.declared.act.Act.TheVariants as act
use Rattle.session_script.specs.Limits.{limits_of}
use Rattle.session_script.specs.Script.{ScriptModel, act_of}
use Rattle.session_script.specs.WellFormed.{FitsAct, header_of}
use Rattle.stream_rules.specs.declared.queue.Completion.{Completion}
use Rattle.stream_rules.specs.Serving.{Outcome}

-- what has a place of its own

untold_is : (told : Bool) → not told ≡ true → told ≡ false
untold_is true wrong = cc
untold_is false is = refl

pub record IsOwn (script : ScriptModel) (kind : ReactorKind) (op size : ℕ) : Type 0 where
  pub untold : kind.told ≡ false
  pub below : op < length script.acts
  pub within : size ≤ asked_of script op

pub own_parts : (script : ScriptModel) (kind : ReactorKind) (op size : ℕ) → has_own script kind op size ≡ true →
    IsOwn script kind op size
own_parts script kind op size own =
    let acts = nat_lt op (length script.acts) in
    let within = nat_le size (asked_of script op) in
    let first = and_parts (not kind.told) (acts && within) own in
    let rest = and_parts acts within first.1 in
    record {
      untold = untold_is kind.told first.0;
      below = ltb-true op (length script.acts) rest.0;
      within = leb-true size (asked_of script op) rest.1;
    }

pub is_own : (script : ScriptModel) (kind : ReactorKind) (op size : ℕ) → kind.told ≡ false → op < length script.acts →
    size ≤ asked_of script op → has_own script kind op size ≡ true
is_own script kind op size untold below within =
    both_true (ap not untold)
    (both_true (lt-ltb op (length script.acts) below) (le-leb size (asked_of script op) within))

-- an operation gives no more than was asked for

zero_within : (size most : ℕ) → (size == 0) ≡ true → size ≤ most
zero_within size most is = let none = eqb-true size 0 is in omega (arith, none)

below_within : (size most : ℕ) → nat_lt size most ≡ true → size ≤ most
below_within size most is = let below = ltb-true size most is in omega (arith, below)

some_within : (most : ℕ) (is_mark : Code → Bool) (code : Code) (size : ℕ) →
    may_give_some most is_mark code size ≡ true → size ≤ most
some_within most is_mark code.Ok size may = leb-true size most (and_parts (nat_le 1 size) (nat_le size most) may).1
some_within most is_mark code.Aborted size may = zero_within size most (and_parts (is_mark code.Aborted) (size == 0) may).1
some_within most is_mark code.Eof size may = zero_within size most (and_parts (is_mark code.Eof) (size == 0) may).1
some_within most is_mark code.NotFound size may = zero_within size most (and_parts (is_mark code.NotFound) (size == 0) may).1
some_within most is_mark code.Bad size may = zero_within size most (and_parts (is_mark code.Bad) (size == 0) may).1
some_within most is_mark code.Broken size may = zero_within size most (and_parts (is_mark code.Broken) (size == 0) may).1
some_within most is_mark code.Reset size may = zero_within size most (and_parts (is_mark code.Reset) (size == 0) may).1

all_within : (all : ℕ) (is_mark : Code → Bool) (code : Code) (size : ℕ) → may_give_all all is_mark code size ≡ true →
    size ≤ all
all_within all is_mark code.Ok size may = let same = eqb-true size all may in omega (arith, same)
all_within all is_mark code.Aborted size may = below_within size all (and_parts (is_mark code.Aborted) (nat_lt size all) may).1
all_within all is_mark code.Eof size may = below_within size all (and_parts (is_mark code.Eof) (nat_lt size all) may).1
all_within all is_mark code.NotFound size may = below_within size all (and_parts (is_mark code.NotFound) (nat_lt size all) may).1
all_within all is_mark code.Bad size may = below_within size all (and_parts (is_mark code.Bad) (nat_lt size all) may).1
all_within all is_mark code.Broken size may = below_within size all (and_parts (is_mark code.Broken) (nat_lt size all) may).1
all_within all is_mark code.Reset size may = below_within size all (and_parts (is_mark code.Reset) (nat_lt size all) may).1

until_within : (least most : ℕ) (code : Code) (size : ℕ) → may_give_until least most code size ≡ true → size ≤ most
until_within least most code.Ok size may = leb-true size most (and_parts (nat_le least size) (nat_le size most) may).1
until_within least most code.Aborted size may = zero_within size most (and_parts (is_read_mark code.Aborted) (size == 0) may).1
until_within least most code.Eof size may = zero_within size most (and_parts (is_read_mark code.Eof) (size == 0) may).1
until_within least most code.NotFound size may = zero_within size most may
until_within least most code.Bad size may = zero_within size most (and_parts (is_read_mark code.Bad) (size == 0) may).1
until_within least most code.Broken size may = zero_within size most (and_parts (is_read_mark code.Broken) (size == 0) may).1
until_within least most code.Reset size may = zero_within size most (and_parts (is_read_mark code.Reset) (size == 0) may).1

gives_within : (r : ReactorHalf) (o : ℕ) (act : Option Act) (code : Code) (size : ℕ) →
    MayGiveUntold r o act code size → size ≤ asked_in act
gives_within r o None code size gives = absurd gives
gives_within r o (Some (act.ReadSome stream most strand slot filter)) code size gives =
    some_within most is_read_mark code size gives.allowed
gives_within r o (Some (act.ReadAll stream all strand slot filter)) code size gives =
    all_within all is_read_mark code size gives.allowed
gives_within r o (Some (act.Until stream delimiter max strand slot filter)) code size gives =
    until_within (length delimiter) max code size gives.allowed
gives_within r o (Some (act.WriteSome stream bytes strand slot filter)) code size gives =
    some_within (length bytes) is_write_mark code size gives.allowed
gives_within r o (Some (act.WriteAll stream bytes strand slot filter)) code size gives =
    all_within (length bytes) is_write_mark code size gives.allowed
gives_within r o (Some (act.Post strand)) code size gives = absurd gives
gives_within r o (Some (act.Defer strand)) code size gives = absurd gives
gives_within r o (Some (act.Dispatch strand)) code size gives = absurd gives
gives_within r o (Some (act.Expires timer after)) code size gives = absurd gives
gives_within r o (Some (act.ExpiresAt timer at)) code size gives = absurd gives
gives_within r o (Some (act.Wait timer strand slot filter)) code size gives = absurd gives
gives_within r o (Some (act.Cancel timer)) code size gives = absurd gives
gives_within r o (Some (act.CancelOne timer)) code size gives = absurd gives
gives_within r o (Some (act.Emit slot types)) code size gives = absurd gives
gives_within r o (Some (act.Close stream)) code size gives = absurd gives
gives_within r o (Some (act.Release guard)) code size gives = absurd gives
gives_within r o (Some act.Stop) code size gives = absurd gives

-- only an act of the script gives something
gives_act : (script : ScriptModel) (r : ReactorHalf) (o : ℕ) (code : Code) (size : ℕ) →
    MayGiveUntold r o (act_of script o) code size → o < length script.acts
gives_act script r o code size gives =
    elim (cases_lt o (length script.acts)) [
      | inl below ↦ below
      | inr past ↦
          let gone = slice_get_past script.acts o past in
          let none : act_of script o ≡ None = rw gone refl in
          absurd (subst (λ act. MayGiveUntold r o act code size) none gives)
    ]

-- what was moved is told as it is, or is less than what was asked for

moved_is : (act : Option Act) (code : Code) (from size : ℕ) → may_have_moved act code from size ≡ true →
    (size ≡ from) ⊎ (size ≤ asked_in act)
moved_is None code from size told = inl (eqb-true size from told)
moved_is (Some (act.ReadAll stream all strand slot filter)) code.Aborted from size told = inr (below_within size all told)
moved_is (Some (act.ReadAll stream all strand slot filter)) code.Ok from size told = inl (eqb-true size from told)
moved_is (Some (act.ReadAll stream all strand slot filter)) code.Eof from size told = inl (eqb-true size from told)
moved_is (Some (act.ReadAll stream all strand slot filter)) code.NotFound from size told = inl (eqb-true size from told)
moved_is (Some (act.ReadAll stream all strand slot filter)) code.Bad from size told = inl (eqb-true size from told)
moved_is (Some (act.ReadAll stream all strand slot filter)) code.Broken from size told = inl (eqb-true size from told)
moved_is (Some (act.ReadAll stream all strand slot filter)) code.Reset from size told = inl (eqb-true size from told)
moved_is (Some (act.WriteAll stream bytes strand slot filter)) code.Aborted from size told = inr (below_within size (length bytes) told)
moved_is (Some (act.WriteAll stream bytes strand slot filter)) code.Ok from size told = inl (eqb-true size from told)
moved_is (Some (act.WriteAll stream bytes strand slot filter)) code.Eof from size told = inl (eqb-true size from told)
moved_is (Some (act.WriteAll stream bytes strand slot filter)) code.NotFound from size told = inl (eqb-true size from told)
moved_is (Some (act.WriteAll stream bytes strand slot filter)) code.Bad from size told = inl (eqb-true size from told)
moved_is (Some (act.WriteAll stream bytes strand slot filter)) code.Broken from size told = inl (eqb-true size from told)
moved_is (Some (act.WriteAll stream bytes strand slot filter)) code.Reset from size told = inl (eqb-true size from told)
moved_is (Some (act.ReadSome stream most strand slot filter)) code from size told = inl (eqb-true size from told)
moved_is (Some (act.Until stream delimiter max strand slot filter)) code from size told =
    inl (eqb-true size from told)
moved_is (Some (act.WriteSome stream bytes strand slot filter)) code from size told =
    inl (eqb-true size from told)
moved_is (Some (act.Post strand)) code from size told = inl (eqb-true size from told)
moved_is (Some (act.Defer strand)) code from size told = inl (eqb-true size from told)
moved_is (Some (act.Dispatch strand)) code from size told = inl (eqb-true size from told)
moved_is (Some (act.Expires timer after)) code from size told = inl (eqb-true size from told)
moved_is (Some (act.ExpiresAt timer at)) code from size told = inl (eqb-true size from told)
moved_is (Some (act.Wait timer strand slot filter)) code from size told = inl (eqb-true size from told)
moved_is (Some (act.Cancel timer)) code from size told = inl (eqb-true size from told)
moved_is (Some (act.CancelOne timer)) code from size told = inl (eqb-true size from told)
moved_is (Some (act.Emit slot types)) code from size told = inl (eqb-true size from told)
moved_is (Some (act.Close stream)) code from size told = inl (eqb-true size from told)
moved_is (Some (act.Release guard)) code from size told = inl (eqb-true size from told)
moved_is (Some act.Stop) code from size told = inl (eqb-true size from told)

pub told_exactly : (script : ScriptModel) (kind : ReactorKind) (o : ℕ) (outcome : Outcome) (code : Code) (size : ℕ) →
    has_own script kind o size ≡ false → IsToldAs kind.told (act_of script o) outcome code size →
    (outcome.0 ≡ code) × (outcome.1 ≡ size)
told_exactly script kind o outcome code size other told = by_told kind.told refl told
  where
    by_told : (b : Bool) → kind.told ≡ b → IsToldAs b (act_of script o) outcome code size →
        (outcome.0 ≡ code) × (outcome.1 ≡ size)
    by_told true is told = (ap (λ p. p.0) told, ap (λ p. p.1) told)
    by_told false is told =
        elim (cases_lt o (length script.acts)) [
          | inl below ↦
              elim (moved_is (act_of script o) outcome.0 outcome.1 size told.1) [
                | inl same ↦ (told.0, sym same)
                | inr within ↦
                    absurd (both_ways (has_own script kind o size) other (is_own script kind o size is below within))
              ]
          | inr past ↦
              let gone = slice_get_past script.acts o past in
              let none : act_of script o ≡ None = rw gone refl in
              let moved = subst (λ act. may_have_moved act outcome.0 outcome.1 size ≡ true) none told.1 in
              (told.0, sym (eqb-true size outcome.1 moved))
        ]

-- what may be told and has no place of its own is what is due next
pub told_next : (script : ScriptModel) (kind : ReactorKind) (r : ReactorHalf) (o : ℕ) (code : Code) (size : ℕ) →
    has_own script kind o size ≡ false → MayTell script kind.told r o code size →
    done_in script kind (slice_get r.due 0) ≡ Some (event.Done o code size)
told_next script kind r o code size other (inl next) =
    let head = next.head in
    let exact = told_exactly script kind o head.outcome code size other next.outcome in
    let own : has_own script kind head.op head.outcome.1 ≡ false =
    ap (λ n. has_own script kind n head.outcome.1) next.is_op ∙ ap (has_own script kind o) exact.1 ∙ other in
    let told : Some (event.Done head.op head.outcome.0 head.outcome.1) ≡ Some (event.Done o code size) =
    ap (λ n. Some (event.Done n head.outcome.0 head.outcome.1)) next.is_op
    ∙ ap (λ c. Some (event.Done o c head.outcome.1)) exact.0 ∙ ap (λ n. Some (event.Done o code n)) exact.1 in
    ap (done_in script kind) next.due
    ∙ ap (λ b. cond b None (Some (event.Done head.op head.outcome.0 head.outcome.1))) own ∙ told
told_next script kind r o code size other (inr given) =
    let below = gives_act script r o code size given.given in
    let within = gives_within r o (act_of script o) code size given.given in
    absurd (both_ways (has_own script kind o size) other (is_own script kind o size given.untold below within))

-- numbers of codes

number_below : (code : Code) → number_of code < 7
number_below code.Ok = omega arith
number_below code.Aborted = omega arith
number_below code.Eof = omega arith
number_below code.NotFound = omega arith
number_below code.Bad = omega arith
number_below code.Broken = omega arith
number_below code.Reset = omega arith

code_back : (code : Code) → code_with (number_of code) ≡ code
code_back code.Ok = refl
code_back code.Aborted = refl
code_back code.Eof = refl
code_back code.NotFound = refl
code_back code.Bad = refl
code_back code.Broken = refl
code_back code.Reset = refl

number_back : (n : ℕ) → n < 7 → number_of (code_with n) ≡ n
number_back zero below = refl
number_back (suc zero) below = refl
number_back (suc (suc zero)) below = refl
number_back (suc (suc (suc zero))) below = refl
number_back (suc (suc (suc (suc zero)))) below = refl
number_back (suc (suc (suc (suc (suc zero))))) below = refl
number_back (suc (suc (suc (suc (suc (suc zero)))))) below = refl
number_back (suc (suc (suc (suc (suc (suc (suc more))))))) below = absurd (omega (arith, below))

-- a place of its own, and what stands there

pub own_below : (script : ScriptModel) (op : ℕ) (code : Code) (size : ℕ) → op < length script.acts → size < sizes →
    own_place script op code size < base_of script + 7 * length script.acts * sizes
own_below script op code size below fits = let number = number_below code in omega (arith, below, fits, number)

pub own_found : (script : ScriptModel) (n op : ℕ) (code : Code) (size : ℕ) →
    n ≡ (7 * op + number_of code) * sizes + size → size < sizes → size ≤ asked_of script op →
    own_event script n ≡ Some (event.Done op code size)
own_found script n op code size is fits within =
    let number = number_below code in
    let row : n / sizes / 7 ≡ op = omega (arith, is, fits, number) in
    let column : n / sizes % 7 ≡ number_of code = omega (arith, is, fits, number) in
    let left : n % sizes ≡ size = omega (arith, is, fits) in
    let Q : ℕ → ℕ → ℕ → Option Event =
    λ a b c. cond (nat_le c (asked_of script a)) (Some (event.Done a (code_with b) c)) None in
    ap (λ a. Q a (n / sizes % 7) (n % sizes)) row ∙ ap (λ b. Q op b (n % sizes)) column ∙ ap (Q op (number_of code)) left
    ∙ ap (λ t. cond t (Some (event.Done op (code_with (number_of code)) size)) None)
    (le-leb size (asked_of script op) within)
    ∙ ap (λ c. Some (event.Done op c size)) (code_back code)

-- what stands at a place of its own
pub record IsFound (script : ScriptModel) (n : ℕ) (found : Event) : Type 0 where
  pub code : Code
  pub is : event.Done (n / sizes / 7) code (n % sizes) ≡ found
  pub number : number_of code ≡ n / sizes % 7
  pub within : n % sizes ≤ asked_of script (n / sizes / 7)

some_is : (first second : Event) → Some first ≡ Some second → first ≡ second
some_is first second same = cc

none_is : {A : Type 0} (found : Event) → None ≡ Some found → A
none_is found wrong = cc

pub own_stands : (script : ScriptModel) (n : ℕ) (found : Event) → own_event script n ≡ Some found →
    IsFound script n found
own_stands script n found is =
    let op = n / sizes / 7 in
    let here : Event = event.Done op (code_with (n / sizes % 7)) (n % sizes) in
    elim (cases_Bool (nat_le (n % sizes) (asked_of script op))) [
      | inl within ↦ record {
        code = code_with (n / sizes % 7);
        is = some_is here found (sym (ap (λ t. cond t (Some here) None) within) ∙ is);
        number = number_back (n / sizes % 7) (omega arith);
        within = leb-true (n % sizes) (asked_of script op) within;
      }
      | inr past ↦ none_is found (sym (ap (λ t. cond t (Some here) None) past) ∙ is)
    ]

-- no script asks for more bytes than its limits allow

either : (first : Bool) → cond first 4096 16384 < sizes
either true = omega arith
either false = omega arith

size_allowed : (version : ℕ) → (limits_of version).size < sizes
unfolding limits_of
size_allowed version = either (nat_eq version 1)

act_fits : (script : ScriptModel) (a : Act) → FitsAct (header_of script) a → asked_by a < sizes
act_fits script (act.ReadSome stream size strand slot filter) fits =
    omega (arith, fits.1.1, size_allowed script.version)
act_fits script (act.ReadAll stream size strand slot filter) fits = omega (arith, fits.1.1, size_allowed script.version)
act_fits script (act.Until stream delimiter max strand slot filter) fits =
    omega (arith, fits.2.1, size_allowed script.version)
act_fits script (act.WriteSome stream bytes strand slot filter) fits =
    omega (arith, fits.1.1, size_allowed script.version)
act_fits script (act.WriteAll stream bytes strand slot filter) fits =
    omega (arith, fits.1.1, size_allowed script.version)
act_fits script (act.Post strand) fits = omega arith
act_fits script (act.Defer strand) fits = omega arith
act_fits script (act.Dispatch strand) fits = omega arith
act_fits script (act.Expires timer after) fits = omega arith
act_fits script (act.ExpiresAt timer at) fits = omega arith
act_fits script (act.Wait timer strand slot filter) fits = omega arith
act_fits script (act.Cancel timer) fits = omega arith
act_fits script (act.CancelOne timer) fits = omega arith
act_fits script (act.Emit slot types) fits = omega arith
act_fits script (act.Close stream) fits = omega arith
act_fits script (act.Release guard) fits = omega arith
act_fits script act.Stop fits = omega arith

pub all_fit : (script : ScriptModel) →
    ((n : ℕ) (act : Act) → act_of script n ≡ Some act → FitsAct (header_of script) act) → AllFit script
all_fit script fits op = by_act (act_of script op) refl
  where
    by_act : (a : Option Act) → act_of script op ≡ a → asked_in (act_of script op) < sizes
    by_act None is = subst (λ a. asked_in a < sizes) (sym is) (omega arith)
    by_act (Some act) is = subst (λ a. asked_in a < sizes) (sym is) (act_fits script act (fits op act is))
