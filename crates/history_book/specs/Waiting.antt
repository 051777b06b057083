-- Which waits complete together.
use Rattle.std.specs.Prelude.{◌==◌, nat_le, Bool}
use Rattle.history_rules.specs.Waits.{expiry_in}
use Rattle.history_book.specs.declared.waiting.Which.{Which}
use Rattle.history_book.specs.declared.waiting.Which.TheVariants as which
use Rattle.history_rules.specs.declared.wait.Wait.{Wait}

abbrev pub is_chosen : Which → Wait → Bool
is_chosen (which.OfTimer timer) wait = wait.timer == timer
is_chosen (which.OfOperation op) wait = wait.op == op
is_chosen (which.Due now expiries) wait = nat_le (expiry_in expiries.now wait) now
