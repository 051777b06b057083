use Rattle.std.proofs.Common.{◌≡◌, ◌∷◌, false, inr, map, refl, subst}
use Rattle.std.specs.Prelude.{IfOk, IfSome, codes, string_bytes}
use Rattle.order_report.specs.Form.{IsBounded, IsForm}
use Rattle.session_orders.proofs.ComeLemmas.{if_ok, if_some}
use Rattle.order_report.proofs.form.form_net.Goals as goal

pub returns : goal.returns
returns c =
    let words = map string_bytes c.args.rest.now in
    subst (λ word. IfOk c.form_bounded.result (λ found. IfSome found (IsForm (word ∷ words)))) c.requires
    (if_ok (λ found. IfSome found (λ form. (form.told ≡ false) × IsBounded words form))
    (λ found. IfSome found (IsForm (codes "--net" ∷ words))) c.form_bounded.result c.form_bounded.ensures
    (λ found said. if_some (λ form. (form.told ≡ false) × IsBounded words form) (IsForm (codes "--net" ∷ words)) found said
    (λ form is. inr (record { rest = words; are = refl; untold = is.0; is_bounded = is.1 }))))
