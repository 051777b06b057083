-- The numbers of the rules of refusal.
use Rattle.std.specs.Prelude.{ℕ}
use Rattle.session_script.specs.declared.refusal.Rule.{Rule}
use Rattle.session_script.specs.declared.refusal.Rule.TheVariants as rule

abbrev pub number_of_rule : Rule → ℕ
number_of_rule rule.NotText = 1
number_of_rule rule.TooLong = 2
number_of_rule rule.Token = 3
number_of_rule rule.Shape = 4
number_of_rule rule.Number = 5
number_of_rule rule.Unknown = 6
number_of_rule rule.Limit = 7
number_of_rule rule.Guard = 8
number_of_rule rule.Version = 9
