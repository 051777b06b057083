use Rattle.std.proofs.Common.{◌∙◌, List, subst, sym}
use Rattle.asio_types.specs.declared.world.Line.{Line}
use Rattle.group_script.specs.Group.{group_of}
use Rattle.group_script.specs.Limits.{IsGroup}
use Rattle.group_script.proofs.group.script_with.Goals as goal

pub script_of-requires-clause-group : goal.script_of-requires-clause-group
script_of-requires-clause-group c =
    subst (λ (lines : List Line).
    IsGroup (group_of (record { streams = c.args.world.now.streams; lines = lines }) c.args.members.now c.args.rule
    c.args.types c.args.workers)) (sym (c.in_ok-from_slice.ensures ∙ c.as_slice.ensures)) c.requires.group
