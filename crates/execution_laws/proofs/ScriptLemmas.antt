-- What the calls of a body need of a script.
use Rattle.std.proofs.Common.{◌≡◌, ℕ, suc, ◌+◌, ◌≤◌, Bool, true, false, cond, List, [], ◌∷◌, Option, Some, None, length, refl, arith, ap}
use Rattle.std.specs.Prelude.{slice_get}
use Rattle.asio_types.specs.declared.code.Class.{Class}
use Rattle.asio_types.specs.declared.code.Class.TheVariants as class
use Rattle.asio_types.specs.declared.number.Lane.{Lane}
use Rattle.session_script.specs.declared.act.Act.{Act}
use Rattle.session_script.specs.declared.act.Act.TheVariants as act
use Rattle.session_script.specs.Script.{Entry, Place, ScriptModel, is_stop, numbers_in, parent_of, same_class, same_place, stops}
use Rattle.session_script.specs.Lanes.{caller_lane, is_inline, is_inside, lanes_of}
use Rattle.history_rules.specs.Calls.{accepted}
use Rattle.history_rules.specs.Kinds.{is_act}
use Rattle.history_rules.specs.declared.phase.ActPhase.TheVariants as phase

pub same_class-self : (class : Class) → same_class class class ≡ true
same_class-self class.Ok = refl
same_class-self class.Abort = refl
same_class-self class.Other = refl

length_by : (n : ℕ) (numbers : List ℕ) (size : ℕ) (here : Bool) → length numbers ≤ size →
    length (cond here (n ∷ numbers) numbers) ≤ suc size
length_by n numbers size true within = omega (arith, within)
length_by n numbers size false within = omega (arith, within)

-- no body has more acts than the script
pub few_in : (place : Place) (n : ℕ) (entries : List Entry) → length (numbers_in place n entries) ≤ length entries
few_in place n [] = omega arith
few_in place n (entry ∷ entries) =
    length_by n (numbers_in place (n + 1) entries) (length entries) (same_place place entry.parent) (few_in place (n + 1) entries)

-- the two words for an act that stops the context
pub stops-is : (script : ScriptModel) (a : ℕ) → is_act is_stop script a ≡ stops script a
stops-is script a = by_entry (slice_get script.acts a) refl
  where
    by_entry : (found : Option Entry) → slice_get script.acts a ≡ found → is_act is_stop script a ≡ stops script a
    by_entry None there = rw there refl
    by_entry (Some entry) there = rw there refl

no_stop_inside : (caller : Option Lane) (it : Act) → is_inside caller it ≡ true → is_stop it ≡ false
no_stop_inside (Some caller) act.Stop inside = absurd (cc)
no_stop_inside None act.Stop inside = absurd (cc)
no_stop_inside caller _ inside = refl

-- what executes inside its call is no stop
pub inline_no_stop : (script : ScriptModel) (a : ℕ) → is_inline script a ≡ true → stops script a ≡ false
inline_no_stop script a inline = by_entry (slice_get script.acts a) refl
  where
    by_entry : (found : Option Entry) → slice_get script.acts a ≡ found → stops script a ≡ false
    by_entry None there = rw there refl
    by_entry (Some entry) there =
        rw there (no_stop_inside (caller_lane (lanes_of script) (parent_of script a)) entry.act (rw there at inline))

pub accepted-inline : (script : ScriptModel) (a : ℕ) → is_inline script a ≡ true → accepted script a ≡ phase.Inside
accepted-inline script a inline = rw inline refl

-- what stands in `open` itself executes outside its call
pub open_outside : (script : ScriptModel) (n : ℕ) → parent_of script n ≡ None → is_inline script n ≡ false
open_outside script n under = by_entry (slice_get script.acts n) refl
  where
    by_entry : (found : Option Entry) → slice_get script.acts n ≡ found → is_inline script n ≡ false
    by_entry None there = rw there refl
    by_entry (Some entry) there =
        let outside : is_inside (caller_lane (lanes_of script) (parent_of script n)) entry.act ≡ false =
        ap (λ place. is_inside (caller_lane (lanes_of script) place) entry.act) under in
        rw there outside
