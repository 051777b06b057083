use Rattle.std.proofs.Common.{◌≡◌, Some, ap, sym, ◌∙◌}
use Rattle.lane_map.proofs.CountLemmas.{passing_all}
use Rattle.strand_core.specs.Placing.{place_of}
use Rattle.strand_core.specs.declared.placing.Placing.{Placing}
use Rattle.strand_core.specs.declared.placing.Placing.TheVariants as by
use Rattle.strand_core.proofs.placing.place_of.Goals as goal

pub returns-in-ByNumber : goal.returns-in-ByNumber
returns-in-ByNumber c =
    let is : c.args.placing ≡ by.ByNumber = cc c.in-ByNumber.is in
    ap Some (sym (passing_all c.args.op)) ∙ ap (λ (p : Placing). place_of c.args.script.now p c.args.op) (sym is)
