use Rattle.std.proofs.Common.{◌≡◌, ◌<◌, ◌≤◌, ◌*◌, ◌^◌, ℕ, length, take}
use Rattle.std.specs.Prelude.{None}
use Rattle.std.specs.List.{sum_by}
use Rattle.op_handlers.specs.Marks.{drop_mark_of}
use Rattle.op_handlers.specs.Rack.{handler_at, handlers_in}
use Rattle.op_handlers.proofs.rack.Rack.discard_rest.Given as goal

abbrev pub invariant-loop-n : goal.invariant-loop-n
invariant-loop-n g l =
    record {
      size : length (handlers_in l.self) ≡ length (handlers_in l.fn.self);
      none : (i : ℕ) → i < l.n → handler_at l.self i ≡ None;
      later : (i : ℕ) → l.n ≤ i → handler_at l.self i ≡ handler_at l.fn.self i;
      marks : l.marks ≡ sum_by (drop_mark_of g.H.CompletionHandler.marks) (take l.n (handlers_in l.fn.self));
      few : l.marks ≤ l.n * 2 ^ 64;
    }
