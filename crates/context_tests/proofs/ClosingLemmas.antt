-- A session is over behind its only round.
use Rattle.std.proofs.Common.{◌≡◌, ◌∙◌, ◌+◌, ap, inl, inr, length, refl}
use Rattle.session_script.specs.Script.{ScriptModel}
use Rattle.lane_context.specs.declared.round_end.RoundEnd.{RoundEnd}
use Rattle.lane_context.specs.declared.round_end.RoundEnd.TheVariants as end
use Rattle.lane_logs.specs.Stand.{Stand}
use Rattle.lane_turns.specs.ClosingTries.{HasClosedRound}
use Rattle.lane_turns.specs.Finishing.{IsOver}
use Rattle.lane_turns.specs.KnownFaults.{KnowsFault}
use Rattle.lane_turns.specs.LaneValues.{Terms}
use Rattle.lane_turns.specs.Openers.{OpenerView}
use Rattle.lane_context.specs.RoundEnds.{EndsRound}

module _ {H X : Type 0} (t : Terms H X) (script : ScriptModel) (old new : OpenerView)
    (only : old.stand.closings + 1 ≡ length script.rounds) where
  -- the type of how it was closed has no name here
  closed_over : {how : _} → HasClosedRound t how old new → IsOver script new
  closed_over closed =
      inl
      (ap (λ (s : Stand). s.closings) closed.held.met.stand
      ∙ (ap (λ (s : Stand). s.closings) closed.held.drew.stand
      ∙ (ap (λ (s : Stand). s.closings + 1) closed.held.heard.stand ∙ only)))

  pub is_over : (now : RoundEnd) → EndsRound t now old new → (now ≡ end.Fault → KnowsFault script new.pen.seat) →
      IsOver script new
  is_over end.Ended ended knows = closed_over ended
  is_over end.Stopped ended knows = closed_over ended
  is_over end.Polled ended knows = closed_over ended
  is_over end.Fault ended knows = inr (knows refl)
