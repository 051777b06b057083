use Rattle.std.proofs.Common.{◌≡◌, ◌<◌, ◌^◌, false, arith}
use Rattle.std.specs.Prelude.{nat_le}
use Rattle.std.proofs.lemmas.Bool.Decides.{nat_tests}
use Rattle.session_script.proofs.JudgingLemmas.{judged_holds, ok_more}
use Rattle.session_script.proofs.reader.body.first_word.Goals as goal

pub returns-clause-room : goal.returns-clause-room
returns-clause-room c =
    let small : c.args.header.now.limits.acts < 2 ^ 32 = omega arith in
    judged_holds (λ _. c.args.count < 2 ^ 32) _ c.judged.result c.judged.ensures.passed
    (ok_more (λ _. nat_le c.args.header.now.limits.acts c.args.count ≡ false) (λ _. c.args.count < 2 ^ 32)
    c.act_word.result (λ _ free. grind (arith, nat_tests)) c.act_word.ensures.room)
