-- What an act asks by how its call accepted it: a posting its own lane, any other the reactor.
use Rattle.std.proofs.Common.{◌≡◌, ◌⊎◌, ℕ, Bool, true, false, cond, Option, None, Some, inl, inr, refl, sym, ap, ◌∙◌}
use Rattle.std.specs.Prelude.{slice_get}
use Rattle.asio_types.specs.declared.code.Code.{Code}
use Rattle.asio_types.specs.declared.code.Code.TheVariants as code
use Rattle.session_script.specs.Script.{Entry, ScriptModel, is_operation, is_stop, stops}
use Rattle.session_script.specs.declared.act.Act.{Act}
use Rattle.session_script.specs.declared.act.Act.TheVariants as act
use Rattle.history_rules.specs.Kinds.{is_act, is_control, is_posting}
use Rattle.history_rules.specs.Order.{is_request}
use Rattle.history_rules.specs.declared.phase.ActPhase.{ActPhase}
use Rattle.history_rules.specs.declared.phase.ActPhase.TheVariants as phase
use Rattle.history_rules.specs.declared.phase.Cause.{Cause}
use Rattle.history_rules.specs.declared.phase.Cause.TheVariants as cause
use Rattle.lane_map.specs.LaneNumbers.{act_passes, asked_lane, asks_its_lane, home_lane, reactor_lane}
use Rattle.history_merge.proofs.AlikeLemmas.{never}

-- how an act was accepted tells of what kind it is
pub record IsAskedAs (script : ScriptModel) (n lane : ℕ) : Type 0 where
  pub going : stops script n ≡ false
  pub asks : asked_lane script n ≡ lane

posting_kind : (it : Act) → is_posting it ≡ true → (is_stop it ≡ false) × (asks_its_lane it ≡ true)
posting_kind (act.Post strand) is = (refl, refl)
posting_kind (act.Defer strand) is = (refl, refl)
posting_kind (act.Dispatch strand) is = (refl, refl)
posting_kind other is = absurd (cc)

request_kind : (it : Act) → is_posting it ≡ false → (is_operation it ≡ true) ⊎ (is_control it ≡ true) →
    (is_stop it ≡ false) × (asks_its_lane it ≡ false)
request_kind (act.Post strand) isnt is = absurd (cc)
request_kind (act.Defer strand) isnt is = absurd (cc)
request_kind (act.Dispatch strand) isnt is = absurd (cc)
request_kind act.Stop isnt (inl is) = absurd (cc)
request_kind act.Stop isnt (inr is) = absurd (cc)
request_kind other isnt is = (refl, refl)

module _ (script : ScriptModel) (n : ℕ) where
  pub posted_asks : is_act is_posting script n ≡ true → IsAskedAs script n (home_lane script n)
  posted_asks is = by_entry (slice_get script.acts n) refl
    where
      by_entry : (found : Option Entry) → slice_get script.acts n ≡ found → IsAskedAs script n (home_lane script n)
      by_entry None stands =
          absurd (let none : is_act is_posting script n ≡ false = rw stands refl in never (is_act is_posting script n) none is)
      by_entry (Some e) stands =
          let posts : is_act is_posting script n ≡ is_posting e.act = rw stands refl in
          let halts : stops script n ≡ is_stop e.act = rw stands refl in
          let asks : act_passes asks_its_lane script n ≡ asks_its_lane e.act = rw stands refl in
          let kind = posting_kind e.act (sym posts ∙ is) in
          record {
            going = halts ∙ kind.0;
            asks = ap (λ b. cond b (home_lane script n) (reactor_lane script)) (asks ∙ kind.1);
          }

  pub request_asks : is_act is_posting script n ≡ false →
      (is_act is_operation script n ≡ true) ⊎ (is_act is_control script n ≡ true) →
      IsAskedAs script n (reactor_lane script)
  request_asks isnt is = by_entry (slice_get script.acts n) refl is
    where
      by_entry : (found : Option Entry) → slice_get script.acts n ≡ found →
          (is_act is_operation script n ≡ true) ⊎ (is_act is_control script n ≡ true) →
          IsAskedAs script n (reactor_lane script)
      by_entry None stands (inl is) =
          absurd (let none : is_act is_operation script n ≡ false = rw stands refl in never (is_act is_operation script n) none is)
      by_entry None stands (inr is) =
          absurd (let none : is_act is_control script n ≡ false = rw stands refl in never (is_act is_control script n) none is)
      by_entry (Some e) stands is =
          let posts : is_act is_posting script n ≡ is_posting e.act = rw stands refl in
          let operates : is_act is_operation script n ≡ is_operation e.act = rw stands refl in
          let controls : is_act is_control script n ≡ is_control e.act = rw stands refl in
          let halts : stops script n ≡ is_stop e.act = rw stands refl in
          let asks : act_passes asks_its_lane script n ≡ asks_its_lane e.act = rw stands refl in
          let which : (is_operation e.act ≡ true) ⊎ (is_control e.act ≡ true) =
          elim is [ inl it ↦ inl (sym operates ∙ it) | inr it ↦ inr (sym controls ∙ it) ] in
          let kind = request_kind e.act (sym posts ∙ isnt) which in
          record {
            going = halts ∙ kind.0;
            asks = ap (λ b. cond b (home_lane script n) (reactor_lane script)) (asks ∙ kind.1);
          }

  -- what a call made ready was posted, and what waits as it was accepted asks the reactor
  pub ready_by : (inline posting operation control : Bool) (given : Code) (size : ℕ) (why : Cause) →
      phase.Ready given size why ≡ cond inline phase.Inside (cond posting (phase.Ready code.Ok 0 cause.Posted)
      (cond operation phase.Requested (cond control phase.Asked phase.Absent))) → posting ≡ true
  ready_by true posting operation control given size why is = absurd (cc)
  ready_by false true operation control given size why is = refl
  ready_by false false true control given size why is = absurd (cc)
  ready_by false false false true given size why is = absurd (cc)
  ready_by false false false false given size why is = absurd (cc)

  pub waits_by : (inline posting operation control : Bool) (of : ActPhase) → is_request of ≡ true →
      of ≡ cond inline phase.Inside (cond posting (phase.Ready code.Ok 0 cause.Posted)
      (cond operation phase.Requested (cond control phase.Asked phase.Absent))) →
      (inline ≡ false) × (posting ≡ false) × ((operation ≡ true) ⊎ (control ≡ true))
  waits_by true posting operation control of asks is =
      absurd (let wrong : true ≡ false = sym asks ∙ ap is_request is in cc)
  waits_by false true operation control of asks is =
      absurd (let wrong : true ≡ false = sym asks ∙ ap is_request is in cc)
  waits_by false false true control of asks is = (refl, refl, inl refl)
  waits_by false false false true of asks is = (refl, refl, inr refl)
  waits_by false false false false of asks is =
      absurd (let wrong : true ≡ false = sym asks ∙ ap is_request is in cc)
