use Rattle.std.proofs.Common.{length, arith, ap, ◌∙◌}
use Rattle.std.proofs.lemmas.List.{get_or_read}
use Rattle.session_script.specs.Script.{ScriptModel}
use Rattle.lane_map.specs.LaneNumbers.{lane_list, operations_on}
use Rattle.lane_map.proofs.CountLemmas.{read_table, table_length}
use Rattle.lane_map.proofs.map.LaneMap.operations.Goals as goal

pub index-requires : goal.index-requires
index-requires c =
    omega (
      arith,
      table_length (operations_on c.self.inside.script.now) c.self.inside.operations.items _ c.self.invariant.operations,
      ap (λ (s : ScriptModel). length (lane_list s)) c.self.view_is,
      c.requires,
    )

pub returns : goal.returns
returns c =
    get_or_read c.self.inside.operations.items c.args.lane c.index.result.now
    (omega (arith, table_length (operations_on c.self.inside.script.now) c.self.inside.operations.items _ c.self.invariant.operations, ap (λ (s : ScriptModel). length (lane_list s)) c.self.view_is, c.requires)) c.index.ensures 0
    ∙ read_table (operations_on c.self.inside.script.now) c.self.inside.operations.items _ c.args.lane
    c.self.invariant.operations
    (omega (arith, ap (λ (s : ScriptModel). length (lane_list s)) c.self.view_is, c.requires))
    ∙ ap (λ (s : ScriptModel). operations_on s c.args.lane) c.self.view_is
