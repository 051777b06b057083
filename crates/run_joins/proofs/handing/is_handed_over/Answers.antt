use Rattle.std.proofs.Common.{◌≡◌, ◌<◌, ◌≤◌, ◌-◌, ◌∙◌, suc, length, take, refl, arith}
use Rattle.run_joins.proofs.HandingLemmas.{chain_begun, chain_more, chain_whole, take_none}
use Rattle.run_joins.proofs.handing.is_handed_over.Goals as goal

pub loop-left-init : goal.loop-left-init
loop-left-init c = record {
  thing = c.new-chain.ensures.thing;
  within = omega arith;
  chain = λ run legal are. chain_begun run c.args.notes.now c.new-chain.result c.new-chain.ensures.met are;
}

pub loop-left-preserved : goal.loop-left-preserved
loop-left-preserved c =
    let some = c.loop-left-test.true in
    let within : c.loop-left.left ≤ length c.args.notes.now = c.loop-left.invariant.within in
    let one : c.loop-left.left ≡ suc (c.loop-left.left - 1) = omega arith in
    let less : c.loop-left.left - 1 < length c.args.notes.now = omega arith in
    record {
      thing = c.see.ensures.thing ∙ c.loop-left.invariant.thing;
      within = omega arith;
      chain = λ run legal are.
          chain_more run c.args.notes.now c.loop-left.left (c.loop-left.left - 1) c.index-notes-left.result c.loop-left.chain c.see.new.self
          one less c.index-notes-left.is (c.loop-left.invariant.chain run legal are)
          (λ past line known before. c.in_ok-see.ensures.chain run past line legal c.if-not-branch.false known before);
    }

pub returns : goal.returns
returns c = λ run legal are yes.
    let last = c.loop-left-test.false in
    let none : c.loop-left.left ≡ 0 = omega arith in
    chain_whole run (take c.loop-left.left c.args.notes.now) c.args.thing c.loop-left.chain (take_none c.loop-left.left c.args.notes.now none)
    c.loop-left.invariant.thing (c.loop-left.invariant.chain run legal are)
