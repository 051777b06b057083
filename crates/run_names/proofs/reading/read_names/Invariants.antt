use Rattle.std.proofs.Common.{◌≡◌, List, ℕ, Some}
use Rattle.run_names.specs.Reading.{IsNaming}
use Rattle.run_names.proofs.reading.read_names.Given as goal

abbrev pub invariant-loop : goal.invariant-loop
invariant-loop g l = record {
  naming : (text : List ℕ) → g.S.Source.left l.fn.source ≡ Some text
      → IsNaming text l.reader.held (g.S.Source.left l.source) l.names;
  counts : g.S.Source.faults l.source ≡ g.S.Source.faults l.fn.source;
}
