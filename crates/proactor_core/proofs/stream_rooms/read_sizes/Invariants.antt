use Rattle.std.proofs.Common.{◌≡◌, ◌<◌, ◌≤◌, ℕ, Some, length, get_or}
use Rattle.session_script.specs.Script.{act_of}
use Rattle.session_script.specs.declared.act.Act.{Act}
use Rattle.proactor_core.specs.StreamRooms.{bytes_asked_at}
use Rattle.proactor_core.proofs.stream_rooms.read_sizes.Given as goal

abbrev pub invariant-loop-a : goal.invariant-loop-a
invariant-loop-a l = record {
  streams : length l.sizes.items ≡ l.script.world.streams;
  sizes : (n stream : ℕ) (act : Act) → n < l.a → stream < length l.sizes.items → act_of l.script n ≡ Some act →
      bytes_asked_at stream act ≤ get_or l.sizes.items stream 0;
}
