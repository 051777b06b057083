use Rattle.std.proofs.Common.{◌≡◌, ◌∷◌, map, subst}
use Rattle.std.specs.Prelude.{IfOk, IfSome, string_bytes}
use Rattle.order_report.specs.Form.{IsBounded}
use Rattle.order_report.proofs.form.form_behind.Goals as goal

pub returns : goal.returns
returns c =
    subst
    (λ word.
    IfOk c.form_within.result
    (λ found. IfSome found (λ form. (form.told ≡ c.args.told)
    × IsBounded (word ∷ string_bytes c.args.number.now ∷ map string_bytes c.args.rest.now) form)))
    c.requires c.form_within.ensures
