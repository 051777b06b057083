use Rattle.std.proofs.Common.{ℕ, List, [], ◌∷◌, ◌++◌, subst, sym, ◌∙◌}
use Rattle.std.specs.Prelude.{codes}
use Rattle.asio_types.specs.Sink.{Extends}
use Rattle.asio_types.proofs.SinkLemmas.{extends_more}
use Rattle.run_verdict.specs.Text.{owed_part}
use Rattle.run_verdict.proofs.TextLemmas.{more_on}
use Rattle.run_verdict.proofs.text.write_owed.Goals as goal

pub returns : goal.returns
returns g c =
    let written = g.K.Sink.written in
    let waiting : List ℕ = owed_part c.args.owed.now.waiting (codes " operations that wait" ++ 10 ∷ []) in
    let executing : List ℕ = owed_part c.args.owed.now.executing (codes " threads that execute handlers" ++ 10 ∷ []) in
    let taken : List ℕ = owed_part c.args.owed.now.taken (codes " claims and locks" ++ 10 ∷ []) in
    more_on c.write_part-3.result (written c.args.out.now) (written c.write_part-2.new.out) (written c.write_part-3.new.out)
    (waiting ++ executing) taken
    (extends_more (written c.args.out.now) (written c.write_part.new.out) (written c.write_part-2.new.out) waiting executing
    c.in_ok-write_part.ensures c.in_ok-write_part-2.ensures)
    c.write_part-3.ensures
