-- A script that is well formed and in text order has a text, and is read from its canonical one.
use Rattle.std.proofs.Common.{◌≡◌, ℕ, suc, ◌-◌, ◌^◌, ◌<◌, ◌⊎◌, inl, inr, Bool, true, false, cond, [], ◌∷◌, None, refl, subst, arith}
use Rattle.std.specs.Prelude.{nat_eq}
use lib.Chars.{codes}
use Rattle.session_script.specs.Grammar.{IsScript}
use Rattle.session_script.specs.Limits.{limits_of, most_nesting}
use Rattle.session_script.specs.Script.{ScriptModel}
use Rattle.session_script.specs.Spelling.{spelling_of}
use Rattle.session_script.specs.Text.{Words, IsBodyText, IsScriptText}
use Rattle.session_script.specs.WellFormed.{IsWellFormed, header_of}
use Rattle.session_script.specs.Writable.{IsWritable}
use Rattle.session_script.proofs.BuildingLemmas.{opening_has_text}
use Rattle.session_script.proofs.ReadingBackLemmas.{canonical_is_read}
use Rattle.session_script.proofs.SayingLemmas.{HasText, number_has_text, header_is_small, declarations_have_text, lines_have_text, rounds_have_text}

same_either : (first : Bool) (n : ℕ) → cond first n n ≡ n
same_either true n = refl
same_either false n = refl

nesting_is : (version : ℕ) → (limits_of version).nesting ≡ most_nesting
unfolding limits_of
nesting_is version = same_either (nat_eq version 1) most_nesting

version_is_small : (version : ℕ) → (version ≡ 1) ⊎ (version ≡ 2) → version < 2 ^ 64
version_is_small version (inl one) = omega arith
version_is_small version (inr two) = omega arith

body_has_text : (script : ScriptModel) → IsWellFormed script → IsWritable script →
    HasText (IsBodyText script.version (limits_of script.version).nesting None [] script.acts)
body_has_text script well writable =
    let nesting = (limits_of script.version).nesting in
    let is : suc (nesting - 1) ≡ nesting = omega (arith, nesting_is script.version) in
    subst (λ (levels : ℕ). HasText (IsBodyText script.version levels None [] script.acts)) is
    (opening_has_text script well writable (nesting - 1) (omega (arith, nesting_is script.version)))

script_has_text : (script : ScriptModel) → IsWellFormed script → IsWritable script →
    (ws : Words) × IsScriptText script ws
script_has_text script well writable =
    let small = header_is_small script well in
    let rounds = (rounds_have_text (header_of script) small script.rounds well.rounds).text [] in
    let body = (body_has_text script well writable).text rounds.0 in
    let lines =
    (lines_have_text (header_of script) small script.world.lines well.lines writable.fed).text (codes "open" ∷ body.0) in
    let decls = (declarations_have_text script small).text lines.0 in
    let version = (number_has_text script.version (version_is_small script.version well.version)).text decls.0 in (
      codes "session" ∷ version.0,
      record {
        at_version = version.0;
        at_decls = decls.0;
        at_lines = lines.0;
        at_open = codes "open" ∷ body.0;
        at_body = body.0;
        at_rounds = rounds.0;
        session = refl;
        version = version.1;
        decls = decls.1;
        lines = lines.1;
        open_word = refl;
        acts = body.1;
        some_round = well.some_round;
        rounds = rounds.1;
      },
    )

pub writable_is_script : (script : ScriptModel) → IsWellFormed script → IsWritable script →
    IsScript (spelling_of script) script
writable_is_script script well writable =
    let found = script_has_text script well writable in
    canonical_is_read script found.0 found.1 well writable.size
