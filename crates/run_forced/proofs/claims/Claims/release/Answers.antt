use Rattle.std.proofs.Common.{◌≡◌, ◌+◌, refl, rules, sym}
use Rattle.run_forced.proofs.ClaimLemmas.{claims_over, release_stays}
use Rattle.run_forced.proofs.claims.Claims.release.Goals as goal

pub returns-in_default : goal.returns-in_default
returns-in_default c = λ run legal here does gone are.
    release_stays run c.args.place c.args.thing c.args.event.now c.args.self.now here does are

pub returns-then-ne : goal.returns-then-ne
returns-then-ne c = λ run legal here does gone are.
    release_stays run c.args.place c.args.thing c.args.event.now c.args.self.now here does are

pub returns : goal.returns
returns c = λ run legal here does gone are.
    let frame : c.in-Some.last.frame ≡ c.args.event.now.note.frame = search rules in
    claims_over run c.args.place c.args.thing c.args.event.now c.args.self.now
    (record { last = c.insert.new.self; mixed = c.args.self.now.mixed }) c.in-Some.last legal here does gone (sym c.in-Some.ensures) frame refl
    c.in_ok-insert.ensures.updates.0
    (release_stays run c.args.place c.args.thing c.args.event.now c.args.self.now here does are)
