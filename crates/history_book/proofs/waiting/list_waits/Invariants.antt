use Rattle.std.proofs.Common.{◌≡◌, ◌+◌, ◌≤◌, ◌++◌, take, vec_len, vec_capacity}
use Rattle.history_rules.specs.Waits.{all_completed_with}
use Rattle.history_book.specs.Waiting.{is_chosen}
use Rattle.history_book.proofs.waiting.list_waits.Given as goal

abbrev pub invariant-loop-wait : goal.invariant-loop-wait
invariant-loop-wait l = record {
  due : l.due.items ≡ l.initial.due.items ++ all_completed_with l.code (is_chosen l.which) (take l.wait-index l.waits);
  room : vec_capacity l.due ≡ vec_capacity l.initial.due;
  count : vec_len l.due ≤ vec_len l.initial.due + l.wait-index;
}
