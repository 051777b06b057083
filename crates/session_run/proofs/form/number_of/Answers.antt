use Rattle.std.proofs.Common.{◌≡◌, rules, string_bytes, subst}
use Rattle.std.specs.Fmt.{decimal}
use Rattle.std.specs.Str.Parse.{ParsesUnsigned}
use Rattle.session_run.proofs.NumberLemmas.{read_back, read_otherwise, unread}
use Rattle.session_run.proofs.form.number_of.Goals as goal

pub returns-in_default : goal.returns-in_default
returns-in_default c n fits =
    let parses =
    subst (λ word. ParsesUnsigned 32 10 word c.parse.result) c.as_str.ensures.value c.parse.ensures.value.0 in
    unread (string_bytes c.args.word.now) c.parse.result c.in_default.field-0 parses c.in_default.is n fits

pub returns-then-eq : goal.returns-then-eq
returns-then-eq c n fits =
    let parses =
    subst (λ word. ParsesUnsigned 32 10 word c.parse.result) c.as_str.ensures.value c.parse.ensures.value.0 in
    let same : decimal c.in-Ok.number ≡ string_bytes c.args.word.now = search rules in
    read_back (string_bytes c.args.word.now) c.parse.result c.in-Ok.number parses c.in-Ok.is same n fits

pub returns-else-eq : goal.returns-else-eq
returns-else-eq c n fits =
    let parses =
    subst (λ word. ParsesUnsigned 32 10 word c.parse.result) c.as_str.ensures.value c.parse.ensures.value.0 in
    let other : decimal c.in-Ok.number ≡ string_bytes c.args.word.now → ⊥ = search rules in
    read_otherwise (string_bytes c.args.word.now) c.parse.result c.in-Ok.number parses c.in-Ok.is other n fits
