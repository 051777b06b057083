use Rattle.std.proofs.Common.{◌≡◌, false}
use Rattle.session_script.proofs.JudgingLemmas.{judged_holds}
use Rattle.session_script.proofs.reader.field.another.Goals as goal

pub returns-clause-room : goal.returns-clause-room
returns-clause-room c =
    judged_holds (λ _. c.args.full ≡ false) _ c.judged.result c.judged.ensures.passed c.another_word.ensures.room
