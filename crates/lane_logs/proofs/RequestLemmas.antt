-- Requests that the reactor may take, by their acts.
use Rattle.std.proofs.Common.{◌≡◌, ℕ, ◌<◌, true, false, not, Option, Some, None, inl, inr, length, refl, sym, ◌∙◌}
use Rattle.std.specs.Prelude.{◌||◌, slice_get, ◌&&◌}
use Rattle.std.proofs.lemmas.Bool.{and_parts, cases_lt, not-true}
use Rattle.std.proofs.lemmas.Option.{slice_get_past}
use Rattle.session_script.specs.declared.act.Act.{Act}
use Rattle.session_script.specs.declared.act.Act.TheVariants as act
use Rattle.session_script.specs.Script.{ScriptModel, act_of, is_operation}
use Rattle.history_rules.specs.Kinds.{is_control, is_posting}
use Rattle.history_rules.specs.Order.{was_taken}
use Rattle.history_rules.specs.State.{ReactorHalf}
use Rattle.lane_map.specs.LaneNumbers.{act_passes, asks_its_lane, asks_reactor}
use Rattle.lane_logs.specs.ReactorTurns.{may_take}

-- what asks the reactor is an asynchronous operation or a control act
pub asks_kind : (given : Act) → asks_reactor given ≡ true →
    ((is_operation given && not (is_posting given)) || is_control given) ≡ true
asks_kind (act.Post strand) asks = absurd (cc)
asks_kind (act.Defer strand) asks = absurd (cc)
asks_kind (act.Dispatch strand) asks = absurd (cc)
asks_kind act.Stop asks = absurd (cc)
asks_kind (act.Wait a b c d) asks = refl
asks_kind (act.ReadSome a b c d e) asks = refl
asks_kind (act.ReadAll a b c d e) asks = refl
asks_kind (act.Until a b c d e f) asks = refl
asks_kind (act.WriteSome a b c d e) asks = refl
asks_kind (act.WriteAll a b c d e) asks = refl
asks_kind (act.Expires a b) asks = refl
asks_kind (act.ExpiresAt a b) asks = refl
asks_kind (act.Cancel a) asks = refl
asks_kind (act.CancelOne a) asks = refl
asks_kind (act.Emit a b) asks = refl
asks_kind (act.Close a) asks = refl
asks_kind (act.Release a) asks = refl

pub posting_asks : (given : Act) → asks_its_lane given ≡ is_posting given
posting_asks (act.Post strand) = refl
posting_asks (act.Defer strand) = refl
posting_asks (act.Dispatch strand) = refl
posting_asks given = refl

passing_act : (script : ScriptModel) (n : ℕ) → act_passes asks_reactor script n ≡ true →
    (given : Act) × (act_of script n ≡ Some given) × (asks_reactor given ≡ true)
passing_act script n passes = by_found (act_of script n) refl
  where
    by_found : (found : Option Act) → act_of script n ≡ found →
        (given : Act) × (act_of script n ≡ Some given) × (asks_reactor given ≡ true)
    by_found None there = absurd (cc (rw there at passes))
    by_found (Some given) there = (given, there, rw there at passes)

-- what is known of a request that may be taken
pub record IsAsked (script : ScriptModel) (half : ReactorHalf) (a : ℕ) : Type 0 where
  pub given : Act
  pub is : act_of script a ≡ Some given
  pub asks : asks_reactor given ≡ true
  pub untaken : was_taken half a ≡ false

pub asked : (script : ScriptModel) (half : ReactorHalf) (a : ℕ) → may_take script half a ≡ true → IsAsked script half a
asked script half a may =
    let parts = and_parts (act_passes asks_reactor script a) (not (was_taken half a)) may in
    let found = passing_act script a parts.0 in
    record {
      given = found.0;
      is = found.1;
      asks = found.2;
      untaken = not-true (was_taken half a) parts.1;
    }

pub request_within : (script : ScriptModel) (half : ReactorHalf) (a : ℕ) → may_take script half a ≡ true →
    a < length script.acts
request_within script half a may = elim (cases_lt a (length script.acts)) [
  | inl within ↦ within
  | inr past ↦
      let gone : slice_get script.acts a ≡ None = slice_get_past script.acts a past in
      let none : act_passes asks_reactor script a ≡ false = rw gone refl in
      let passes = (and_parts (act_passes asks_reactor script a) (not (was_taken half a)) may).0 in
      absurd (let wrong : false ≡ true = sym none ∙ passes in cc)
]
