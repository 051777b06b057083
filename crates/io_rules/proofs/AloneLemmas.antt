-- Handlers of a strand are alone.
use Rattle.std.proofs.Common.{arith, ap, refl, subst, sym, ◌∙◌}
use Rattle.std.specs.Prelude.{◌≡◌, ◌≤◌, ℕ, ◌==◌, Bool, true, false, List, [], ◌∷◌}
use Rattle.std.specs.Option.{is_some}
use Rattle.io_rules.specs.declared.name.Lane.{Lane}
use Rattle.io_rules.specs.Alone.{AloneOnStrand}
use Rattle.io_rules.specs.History.{lane_in}
use Rattle.io_rules.specs.Legal.{state_of}
use Rattle.io_rules.specs.Names.{is_on}
use Rattle.io_rules.specs.Ops.{is_ready, lane_at}
use Rattle.io_rules.specs.Room.{one_if}
use Rattle.io_rules.specs.State.{Op}
use Rattle.io_rules.proofs.FitLemmas.{runs_on}
use Rattle.io_rules.proofs.LaneLemmas.{lane_known, lanes_known}
use Rattle.io_rules.proofs.OnceLemmas.{executing, if_executing, under_way}
use Rattle.io_rules.proofs.StageLemmas.{Stage, Idle, Prepared, Executing, stage_of, staged}
use Rattle.io_rules.proofs.StrandLemmas.{name-itself}
use Rattle.io_rules.proofs.StrandStateLemmas.{known_lane, next_of, strands_fit}
use Rattle.io_rules.proofs.TotalLemmas.{Each, equal, found, total}

total-less_each : (P : ℕ → Lane → Type 0) (f g : Op → ℕ) → ((op : Op) → P op.number op.lane → f op ≤ g op) →
    (ops : List Op) → Each P ops → total f ops ≤ total g ops
total-less_each P f g less [] all = omega arith
total-less_each P f g less (op ∷ ops) all =
    let own = less op all.0 in let behind = total-less_each P f g less ops all.1 in omega (arith, own, behind)

none_le : (stage : Stage) (n : ℕ) → if_executing stage false ≤ n
none_le Idle n = omega arith
none_le Prepared n = omega arith
none_le Executing n = omega arith

executes_with : (stage : Stage) (b c : Bool) → (b ≡ true → c ≡ true) → if_executing stage b ≤ if_executing stage c
executes_with stage true c on = subst (λ x. if_executing stage true ≤ if_executing stage x) (sym (on refl)) (omega arith)
executes_with stage false c on = none_le stage (if_executing stage c)

pub alone : AloneOnStrand
alone limits past op other spares strand legal here there =
    let s = state_of limits past in
    let it = found is_ready s.ops op legal.0.ready in
    let on : is_on strand (lane_at s.ops op) ≡ true =
    ap (is_on strand) (sym (lane_known limits past legal.1 op it.op it.is) ∙ here) ∙ name-itself strand in
    let fits = strands_fit limits past legal.1 legal.0.going in
    let known = known_lane s op it.op it.is fits in
    let next = next_of s.names.strands s.strands (lane_at s.ops op) strand op known legal.0.next on in
    let none : total (staged (runs_on strand)) s.ops ≡ 0 =
    (fits strand).runs_fits ∙ ap (λ o. one_if (is_some o)) next.alone in
    let less =
    total-less_each (λ k l. lane_in past k ≡ l) (staged (executing other)) (staged (runs_on strand))
    (λ o is.
    executes_with (stage_of o.phase) (o.number == other) (is_on strand o.lane)
    (λ same_number.
    ap (is_on strand) (sym is ∙ ap (lane_in past) (equal o.number other same_number) ∙ there)
    ∙ name-itself strand))
    s.ops (lanes_known limits past legal.1) in
    let all = under_way limits past legal.1 other in
    omega (arith, none, less, all)
