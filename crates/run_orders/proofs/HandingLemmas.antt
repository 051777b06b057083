-- What is handed over is held by one thread.
use Rattle.std.proofs.Common.{◌≡◌, ℕ, ◌<◌, List, ap, sym, ◌∙◌, ⊎_elim, arith}
use Rattle.std.specs.Prelude.{◌⊎◌}
use Rattle.run_lines.specs.declared.line.Line.{Line}
use Rattle.run_rules.specs.Legal.{IsLegalSoFar}
use Rattle.run_orders.specs.Handing.{HandsOver}
use Rattle.run_orders.specs.Laws.{NeverOverlaps}
use Rattle.run_orders.specs.Orders.{plain}
use Rattle.run_orders.specs.Trees.{spot_at, tree}
use Rattle.run_orders.proofs.TreeLemmas.{some_same}
use Rattle.run_orders.proofs.ForcedLemmas.{forced_apart}
use Rattle.run_orders.proofs.JoinLemmas.{turned}
use Rattle.run_orders.proofs.OrderLemmas.{one_tree_apart}

pub handing_suffices : (run : List Line) (thing : ℕ) → IsLegalSoFar plain run → HandsOver run thing → NeverOverlaps run thing
handing_suffices run thing legal hands apart steps place other order holds =
    let x = holds.held in
    let y = holds.held_too in
    ⊎_elim
    (λ (less : place < other).
    let over = hands place other x.claim y.claim x.there y.there x.claims y.claims less in
    forced_apart run apart steps thing place other over.at x.claim over.later legal order x.there over.there over.gives over.forced holds)
    (λ rest. ⊎_elim
    (λ (less : other < place).
    let over = hands other place y.claim x.claim y.there x.there y.claims x.claims less in
    forced_apart run apart steps thing other place over.at y.claim over.later legal order y.there over.there over.gives over.forced
    (turned run steps thing place other holds))
    (λ (e : other ≡ place).
    let same : x.claim ≡ y.claim = some_same x.claim y.claim (sym x.there ∙ ap (spot_at run) (sym e) ∙ y.there) in
    one_tree_apart run apart steps thing place other x.claim y.claim order x.there y.there (ap (tree apart) same) holds) rest)
    (three place other)
  where
    three : (a b : ℕ) → (a < b) ⊎ ((b < a) ⊎ (b ≡ a))
    three a b = grind (arith)
