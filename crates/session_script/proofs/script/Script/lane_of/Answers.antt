use Rattle.std.proofs.Common.{◌≡◌, ◌<◌, [], length, get_or, ap, ◌∙◌, arith}
use Rattle.std.proofs.lemmas.List.{get_or_read}
use Rattle.asio_types.specs.declared.number.Lane.TheVariants as lane
use Rattle.session_script.specs.Script.{ScriptModel}
use Rattle.session_script.specs.Lanes.{lanes_of}
use Rattle.session_script.specs.Outcome.{model_of}
use Rattle.session_script.proofs.PlacesLemmas.{length-lanes_after}
use Rattle.session_script.proofs.script.Script.lane_of.Goals as goal

pub index-requires : goal.index-requires
unfolding model_of
index-requires c =
    let lanes : c.self.inside.lanes.items ≡ lanes_of (model_of c.self.inside.parts) = c.self.invariant.lanes in
    let view : model_of c.self.inside.parts ≡ c.args.self.now = c.self.view_is in
    omega (
      arith,
      c.self.inside.lanes.ok,
      ap length lanes,
      length-lanes_after [] (model_of c.self.inside.parts).acts,
      ap (λ (s : ScriptModel). length s.acts) view,
      c.requires,
    )

pub returns : goal.returns
unfolding model_of
returns c =
    let lanes : c.self.inside.lanes.items ≡ lanes_of (model_of c.self.inside.parts) = c.self.invariant.lanes in
    let view : model_of c.self.inside.parts ≡ c.args.self.now = c.self.view_is in
    let within : c.args.a < length c.self.inside.lanes.items =
    omega (
      arith,
      ap length lanes,
      length-lanes_after [] (model_of c.self.inside.parts).acts,
      ap (λ (s : ScriptModel). length s.acts) view,
      c.requires,
    ) in
    get_or_read c.self.inside.lanes.items c.args.a c.index.result.now within c.index.ensures lane.Reactor
    ∙ ap (λ ls. get_or ls c.args.a lane.Reactor) lanes
    ∙ ap (λ (s : ScriptModel). get_or (lanes_of s) c.args.a lane.Reactor) view
