use Rattle.std.proofs.Common.{◌∷◌, [], refl, subst}
use Rattle.std.specs.Prelude.{IfOk, IfSome, string_bytes}
use Rattle.order_report.specs.Form.{IsTask}
use Rattle.order_report.proofs.form.task_pair.Goals as goal

pub returns-then-is_word : goal.returns-then-is_word
returns-then-is_word c =
    subst
    (λ word. IfOk c.task_can.result (λ found. IfSome found (IsTask (word ∷ string_bytes c.args.text.now ∷ []))))
    (c.if-is_word.ensures refl) c.task_can.ensures
