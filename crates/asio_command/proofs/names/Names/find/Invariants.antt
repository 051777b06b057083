use Rattle.std.proofs.Common.{◌≡◌, ◌<◌, ℕ, get_or}
use Rattle.asio_command.specs.declared.names.Name.{Name}
use Rattle.asio_command.proofs.names.Names.find.Given as goal

abbrev pub invariant-loop-name : goal.invariant-loop-name
invariant-loop-name l = (k : ℕ) (d : Name) → k < l.name-index → (get_or l.self.list.items k d).kind ≡ l.kind →
    (get_or l.self.list.items k d).number ≡ l.number → ⊥
