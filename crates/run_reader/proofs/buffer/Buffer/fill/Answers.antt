use Rattle.std.proofs.Common.{◌≡◌, ◌≤◌, ◌+◌, ◌-◌, ℕ, List, length, take, drop, Result, Ok, Err, OnErr, ap, arith, ◌∙◌}
use Rattle.std.proofs.lemmas.List.{length-drop, length-take}
use Rattle.run_reader.specs.Buffer.{Held}
use Rattle.run_reader.proofs.BufferLemmas.{moves, unwritten, written}
use Rattle.run_reader.proofs.buffer.Buffer.fill.Goals as goal

on_any : {X E P : Type 0} (r : Result X E) → P → OnErr r P
on_any (Ok x) said = tt
on_any (Err e) said = said

pub returns-in_err-n-clause-unchanged : goal.returns-in_err-n-clause-unchanged
returns-in_err-n-clause-unchanged g c =
    let end : ℕ = c.self.inside.end in
    let start : ℕ = c.self.inside.start in
    let items : List ℕ = c.deref_mut.result.now in
    let value = c.deref_mut.ensures.value in
    let same : take (end - start) (drop start items) ≡ c.args.self.now.bytes =
    ap (λ xs. take (end - start) (drop start xs)) value ∙ ap (λ (held : Held). held.bytes) c.self.view_is in
    let first : start ≤ end = c.self.invariant.0 in
    let within : end ≤ length items = omega (arith, ap length value, c.self.invariant.1, c.self.invariant.2) in
    on_any c.from_residual.result
    (unwritten c.self.inside.bytes.len start end items c.read.new.buf _ _ c.args.self.now.bytes same first within
    (omega (arith, within, c.deref_mut.ensures.len)))

pub returns-clause-moves : goal.returns-clause-moves
returns-clause-moves g c =
    let end : ℕ = c.self.inside.end in
    let start : ℕ = c.self.inside.start in
    let items : List ℕ = c.deref_mut.result.now in
    let value = c.deref_mut.ensures.value in
    let same : take (end - start) (drop start items) ≡ c.args.self.now.bytes =
    ap (λ xs. take (end - start) (drop start xs)) value ∙ ap (λ (held : Held). held.bytes) c.self.view_is in
    let first : start ≤ end = c.self.invariant.0 in
    let within : end ≤ length items = omega (arith, ap length value, c.self.invariant.1, c.self.invariant.2) in
    let part = length-take (length items - end) (drop end items) in
    let left = length-drop end items in
    let read : c.in_ok-n.n ≤ length c.read.new.buf = omega (arith, c.in_ok-n.ensures.bound, c.read.auto.buf) in
    let fits : end + c.in_ok-n.n ≤ c.self.inside.bytes.len =
    omega (arith, within, part, left, c.in_ok-n.ensures.bound, c.deref_mut.ensures.len) in
    moves c.in_ok-n.n c.args.self.now.bytes c.read.new.buf _ (g.S.Source.left c.args.source.now) (g.S.Source.left c.read.new.self)
    (written c.self.inside.bytes.len start end c.in_ok-n.n items c.read.new.buf _ _ c.args.self.now.bytes same
    first within read fits)
    c.in_ok-n.ensures.next c.in_ok-n.ensures.rest
