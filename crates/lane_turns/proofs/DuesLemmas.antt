-- What completes in a turn of the reactor is told, one after another.
use Rattle.std.proofs.Common.{◌≡◌, ℕ, ◌<◌, Bool, true, false, List, [], ◌++◌, Option, inl, inr, length, refl, sym, ap, subst, ◌∙◌, arith}
use Rattle.std.specs.Prelude.{IsTrue, ◌==◌}
use Rattle.std.proofs.lemmas.Bool.{cases_Bool, cases_lt, eq-eqb}
use Rattle.std.proofs.lemmas.List.{append-nil, append_assoc, get_or_past}
use Rattle.asio_types.specs.declared.code.Code.{Code}
use Rattle.session_script.specs.Script.{ScriptModel}
use Rattle.history_rules.specs.Order.{was_taken}
use Rattle.history_rules.specs.Requests.{MayTell, reactor_after_done}
use Rattle.history_rules.specs.State.{ReactorHalf}
use Rattle.reactor_trait.specs.Reactor.{Outside, ReactorState}
use Rattle.proactor_core.specs.Proactor.{Follows, IsSound, ProactorView, tells}
use Rattle.reactor_turns.specs.Ahead.{IsHalfOf, LeavesRoom, events_ahead}
use Rattle.reactor_turns.proofs.AheadLemmas.{done_leaves}
use Rattle.reactor_turns.proofs.ClockLemmas.{time-done}
use Rattle.reactor_turns.proofs.StandingLemmas.{stands-done}
use Rattle.reactor_turns.proofs.SummingLemmas.{one_if}
use Rattle.lane_logs.specs.Half.{half_from}
use Rattle.lane_logs.specs.Labels.{Labelled, entries_in}
use Rattle.lane_logs.specs.Names.{SessionNames}
use Rattle.lane_logs.specs.ReactorTurns.{AreTold, none_told, one_told, done_labels, done_note}
use Rattle.lane_logs.proofs.LabelLemmas.{entries-append}
use Rattle.lane_turns.specs.Pens.{HasGone, MayGo, PenView}
use Rattle.lane_turns.specs.Telling.{HasToldDone}
use Rattle.lane_turns.specs.Turning.{HasTold, IsMidTurn, log_half}
use Rattle.lane_turns.proofs.HalfLemmas.{done_draws, done_entries, done_half, done_places, half-append, log_on, room_on}
use Rattle.lane_turns.proofs.PenLemmas.{gone_nowhere, gone_on, may_go_less}

-- some completions, and then others
told-append : (script : ScriptModel) (told : Bool) (from : ReactorHalf) (xs : List Labelled) {ys : List Labelled} →
    AreTold script told from xs → AreTold script told (half_from script told from (entries_in xs)) ys →
    AreTold script told from (xs ++ ys)
told-append script told from xs first none_told = subst (AreTold script told from) (sym (append-nil xs)) first
told-append script told from xs first (one_told {labels} op with_code size place found before may) =
    subst (AreTold script told from) (append_assoc xs labels (done_labels script op with_code size place found))
    (one_told op with_code size place found (told-append script told from xs first before)
    (subst (λ half. MayTell script told half op with_code size)
    (sym (half-append script told from (entries_in xs) (entries_in labels))
    ∙ ap (half_from script told from) (sym (entries-append xs labels))) may))

pub told-none : (names : SessionNames) (pen : PenView) → HasTold names pen pen
told-none names pen = record { labels = []; told_so = none_told; gone = gone_nowhere pen }

pub told-more : (names : SessionNames) (a b c : PenView) → HasTold names a b → HasTold names b c → HasTold names a c
told-more names a b c one two =
    record {
      labels = one.labels ++ two.labels;
      told_so =
          told-append names.script names.told (log_half names a.log) one.labels one.told_so
          (subst (λ half. AreTold names.script names.told half two.labels) (log_on names one.labels a b one.gone) two.told_so);
      gone = gone_on one.labels two.labels a b c one.gone two.gone;
    }

-- an operation that completes is an act
pub told_known : (script : ScriptModel) (told : Bool) (half : ReactorHalf) (op : ℕ) (with_code : Code) (size : ℕ) →
    IsHalfOf script half → MayTell script told half op with_code size → op < length script.acts
told_known script told half op with_code size fit may = elim (cases_Bool (was_taken half op)) [
  | inl was ↦
      elim (cases_lt op (length half.taken)) [
        | inl within ↦ omega (arith, within, fit.marks)
        | inr past ↦
            absurd (let wrong : false ≡ true = sym (get_or_past half.taken op false past) ∙ was in cc)
      ]
  | inr not ↦
      let none = fit.taken op not in
      let one = stands-done op script told half op with_code size may in
      let itself : one_if (op == op) ≡ 1 = ap one_if (eq-eqb op op refl) in
      absurd (omega (arith, none, one, itself))
]

-- it may be told in this turn
module _ {X : Type 0} (names : SessionNames) (state : X → ReactorState) (told : X → Option Outside) (pen : PenView)
    (view : ProactorView X) (turn : IsMidTurn names state told pen view) (op : ℕ) (with_code : Code) (size : ℕ)
    (allowed : (half : ReactorHalf) → Follows told view half →
    MayTell view.script (tells (told view.reactor)) half op with_code size) where
  abbrev half : ReactorHalf
  half = log_half names pen.log

  pub may_tell : MayTell names.script names.told half op with_code size
  may_tell =
      subst (λ (s : ScriptModel). MayTell s names.told half op with_code size) turn.script
      (subst (λ b. MayTell view.script b half op with_code size) turn.in_step.tells (allowed half turn.telling.follows))

  abbrev leaves : LeavesRoom names.script half (reactor_after_done names.script half op)
  leaves = done_leaves names.script names.told half op with_code size turn.is_half may_tell

  pub act_known : op < length names.script.acts
  act_known = told_known names.script names.told half op with_code size turn.is_half may_tell

  pub room_for_one : MayGo pen 1 1
  room_for_one =
      let less = leaves.fewer in
      may_go_less pen (events_ahead names.script half) (events_ahead names.script half) 1 1 turn.room
      (omega (arith, less)) (omega (arith, less))

  module _ (script : ScriptModel) (same_names : script ≡ names.script) (new : PenView)
      (done : HasToldDone script (done_note op with_code size) pen new) where
    abbrev gone : HasGone (done_labels names.script op with_code size done.place done.found) pen new
    gone = subst (λ (s : ScriptModel). HasGone (done_labels s op with_code size done.place done.found) pen new)
        same_names done.gone

    pub told-one : HasTold names pen new
    told-one = record {
      labels = done_labels names.script op with_code size done.place done.found;
      told_so = one_told op with_code size done.place done.found none_told may_tell;
      gone = gone;
    }

    pub room_falls : new.room < pen.room
    room_falls =
        let one = ap length (done_entries names.script op with_code size done.place done.found) in
        let room = gone.room in
        omega (arith, one, room)

    after : log_half names new.log ≡ reactor_after_done names.script half op
    after =
        log_on names (done_labels names.script op with_code size done.place done.found) pen new gone
        ∙ done_half names.script op with_code size done.place done.found names.told half

    pub mid_after : (next : ProactorView X) → next.script ≡ view.script → next.reactor ≡ view.reactor →
        next.tables.failed ≡ view.tables.failed → IsSound state told next →
        ((half : ReactorHalf) → Follows told view half → Follows told next (reactor_after_done view.script half op)) →
        IsMidTurn names state told new next
    mid_after next same_script same_reactor same_failed sound follows =
        let one = ap length (done_entries names.script op with_code size done.place done.found) in
        let draws = done_draws names.script op with_code size done.place done.found in
        let places = done_places names.script op with_code size done.place done.found in
        record {
          script = same_script ∙ turn.script;
          in_step = record {
            tells = ap (λ x. tells (told x)) same_reactor ∙ turn.in_step.tells;
            up = subst (λ x. IsTrue (state x).up) (sym same_reactor) turn.in_step.up;
            now =
                ap (λ x. (state x).now) same_reactor ∙ turn.in_step.now
                ∙ sym (ap (λ (h : ReactorHalf). h.now) after ∙ (time-done names.script half op).now);
          };
          telling = record {
            working = same_failed ∙ turn.telling.working;
            works = ap (λ (h : ReactorHalf). h.failed) after ∙ (time-done names.script half op).failed ∙ turn.telling.works;
            sound = sound;
            follows =
                subst (Follows told next) (sym after)
                (subst (λ (s : ScriptModel). Follows told next (reactor_after_done s half op)) turn.script
                (follows half turn.telling.follows));
          };
          is_half = subst (IsHalfOf names.script) (sym after) leaves.is_half;
          room =
              room_on names (done_labels names.script op with_code size done.place done.found) 1 pen new
              (reactor_after_done names.script half op) gone after (omega (arith, one)) (omega (arith, draws))
              (omega (arith, places)) leaves.fewer turn.room;
        }

-- of a turn so much was told
pub record TellsOn {X : Type 0} (names : SessionNames) (state : X → ReactorState) (told : X → Option Outside)
    (first pen : PenView) (begun view : ProactorView X) : Type 0 where
  pub turn : IsMidTurn names state told pen view
  pub clock : pen.seat.clock ≡ first.seat.clock
  pub reactor : view.reactor ≡ begun.reactor
  pub told_so_far : HasTold names first pen
