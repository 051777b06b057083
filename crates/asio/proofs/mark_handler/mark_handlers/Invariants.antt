use Rattle.std.proofs.Common.{◌≡◌, ◌≤◌, vec_len, vec_capacity}
use Rattle.std.specs.Prelude.{All, IsSome}
use Rattle.session_script.specs.Limits.{most_acts}
use Rattle.asio.proofs.mark_handler.mark_handlers.Given as goal

-- room for a handler of each act, and one for each so far
abbrev pub invariant-loop-act : goal.invariant-loop-act
invariant-loop-act l =
    record {
      room : most_acts ≤ vec_capacity l.handlers;
      count : vec_len l.handlers ≡ l.act;
      whole : All IsSome l.handlers.items;
    }
