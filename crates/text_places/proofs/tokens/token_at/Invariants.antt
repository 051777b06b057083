use Rattle.std.proofs.Common.{◌≡◌, ◌<◌, ◌≤◌, false, take}
use Rattle.text_places.specs.Tokens.{tokens_begun, ends_inside}
use Rattle.text_places.proofs.tokens.token_at.Given as goal

abbrev pub invariant-loop-at : goal.invariant-loop-at
invariant-loop-at l = record {
  counted : l.before ≡ tokens_begun false (take l.at l.text);
  inside : l.inside ≡ ends_inside false (take l.at l.text);
  few : l.before ≤ l.at;
  less : 0 < l.number → l.before < l.number;
}
