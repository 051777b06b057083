use Rattle.std.proofs.Common.{◌≡◌, ◌++◌, arith, rules, sym, ◌∙◌}
use Rattle.http_handlers.proofs.ConnectionsLemmas.{behind_fits, gives_turned}
use Rattle.http_handlers.proofs.connection.Connection.take.Goals as goal

pub overflow_sub-over : goal.overflow_sub-over
overflow_sub-over c =
    let fits = behind_fits _ _ _ _ _ c.in_ok-left.ensures in
    omega (arith, fits, c.as_slice.ensures.len, c.len.ensures)

pub returns : goal.returns
returns c =
    let came : c.as_slice.result.now ≡ c.self.inside.kept.items ++ c.args.bytes.now = search rules in
    rw (← c.self.view_is) (gives_turned _ c.as_slice.result.now _ c.extend_from_slice.new.self.items _ _ _ _ _ _ _
    c.in_ok-left.ensures c.as_slice.ensures.value came (c.len.ensures ∙ sym c.as_slice.ensures.len)
    c.truncate.ensures.items c.rotate_left.ensures.items)
