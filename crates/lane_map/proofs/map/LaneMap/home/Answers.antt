use Rattle.std.proofs.Common.{length, arith, ap, ◌∙◌}
use Rattle.std.proofs.lemmas.List.{get_or_read}
use Rattle.session_script.specs.Script.{ScriptModel}
use Rattle.lane_map.specs.LaneNumbers.{home_lane}
use Rattle.lane_map.proofs.CountLemmas.{read_table, table_length}
use Rattle.lane_map.proofs.map.LaneMap.home.Goals as goal

pub index-requires : goal.index-requires
index-requires c =
    omega (
      arith,
      table_length (home_lane c.self.inside.script.now) c.self.inside.home.items _ c.self.invariant.home,
      ap (λ (s : ScriptModel). length s.acts) c.self.view_is,
      c.requires,
    )

pub returns : goal.returns
returns c =
    get_or_read c.self.inside.home.items c.args.op c.index.result.now
    (omega (arith, table_length (home_lane c.self.inside.script.now) c.self.inside.home.items _ c.self.invariant.home, ap (λ (s : ScriptModel). length s.acts) c.self.view_is, c.requires)) c.index.ensures 0
    ∙ read_table (home_lane c.self.inside.script.now) c.self.inside.home.items _ c.args.op c.self.invariant.home
    (omega (arith, ap (λ (s : ScriptModel). length s.acts) c.self.view_is, c.requires))
    ∙ ap (λ (s : ScriptModel). home_lane s c.args.op) c.self.view_is
