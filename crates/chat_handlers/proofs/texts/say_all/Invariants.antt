use Rattle.std.proofs.Common.{ℕ, List, length}
use Rattle.chat_handlers.specs.Texts.{IsSaid}
use Rattle.chat_handlers.proofs.texts.say_all.Given as goal

-- what the rest leads to, all bytes do
abbrev pub invariant-lines : goal.invariant-lines
invariant-lines l = (final rest : List ℕ) → IsSaid l.name l.rest l.text.items final rest →
    IsSaid l.name l.initial.rest l.initial.text.items final rest

abbrev pub decreases-lines : goal.decreases-lines
decreases-lines l = length l.rest
