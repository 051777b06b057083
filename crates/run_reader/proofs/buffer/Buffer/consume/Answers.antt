use Rattle.std.proofs.Common.{◌≡◌, ◌≤◌, ◌-◌, ℕ, length, take, drop, ap, arith}
use Rattle.std.proofs.lemmas.List.{length-take}
use Rattle.run_reader.specs.Buffer.{Held}
use Rattle.run_reader.proofs.BufferLemmas.{consumed}
use Rattle.run_reader.proofs.buffer.Buffer.consume.Goals as goal

pub returns : goal.returns
returns c =
    let start : ℕ = c.self.inside.start in
    let end : ℕ = c.self.inside.end in
    let same : take (end - start) (drop start c.self.inside.bytes.items) ≡ c.args.self.now.bytes =
    ap (λ (held : Held). held.bytes) c.self.view_is in
    let few : c.args.count ≤ length c.args.self.now.bytes = c.requires in
    let within : start ≤ end = c.self.invariant.0 in
    let long : length c.args.self.now.bytes ≤ end - start =
    omega (arith, ap length same, length-take (end - start) (drop start c.self.inside.bytes.items)) in
    consumed start end c.args.count c.self.inside.bytes.items c.args.self.now.bytes same (omega (arith, few, long, within))
