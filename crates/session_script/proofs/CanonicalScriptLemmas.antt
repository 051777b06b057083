-- The canonical words of a script spell it again, are no longer than any that spell it, and are tokens.
use Rattle.std.proofs.Common.{◌≡◌, ◌+◌, ◌≤◌, [], ◌∷◌, ◌++◌, None, refl, subst, arith}
use Rattle.std.specs.List.{All, flat_map}
use Rattle.std.specs.Fmt.{decimal}
use Rattle.std.proofs.lemmas.List.{append-nil}
use Rattle.std.proofs.lemmas.List.Elements.{All-append, All-cons}
use lib.Chars.{codes}
use Rattle.session_script.specs.Script.{ScriptModel, opening_of}
use Rattle.session_script.specs.Tokens.{is_printable}
use Rattle.session_script.specs.Limits.{limits_of}
use Rattle.session_script.specs.Text.{Words, IsN, IsDeclsText, IsLinesText, IsBodyText, IsRoundsText, IsScriptText}
use Rattle.session_script.specs.Spelling.{line_words, round_words, declared_words, body_words, words_after_session}
use Rattle.session_script.proofs.TokenizingLemmas.{IsToken, size}
use Rattle.session_script.proofs.RespellingLemmas.{Rewrites, size-append}
use Rattle.session_script.proofs.CanonicalActsLemmas.{act_respells}
use Rattle.session_script.proofs.CanonicalBodiesLemmas.{opening_respells}
use Rattle.session_script.proofs.CanonicalLemmas.{number_respells, declared_respells, lines_respell, rounds_respell}

abbrev pub canonical : ScriptModel → Words
canonical script = codes "session" ∷ words_after_session script

session_is_token : IsToken (codes "session")
unfolding is_printable
session_is_token = (omega arith, refl)

open_is_token : IsToken (codes "open")
unfolding is_printable
open_is_token = (omega arith, refl)

module _ (script : ScriptModel) (ws : Words) (is : IsScriptText script ws) where
  after_open : Words
  after_open =
      body_words (limits_of script.version).nesting script (opening_of script) ++ flat_map round_words script.rounds

  after_declared : Words
  after_declared = flat_map line_words script.world.lines ++ codes "open" ∷ after_open

  abbrev of_version : Rewrites (IsN script.version) (decimal script.version ∷ []) is.at_version is.at_decls
  of_version = (number_respells script.version).rewrites is.at_version is.at_decls is.version

  abbrev of_declared : Rewrites (IsDeclsText script) (declared_words script) is.at_decls is.at_lines
  of_declared = (declared_respells script).rewrites is.at_decls is.at_lines is.decls

  abbrev of_lines : Rewrites (IsLinesText script.world.lines) (flat_map line_words script.world.lines) is.at_lines
      is.at_open
  of_lines = (lines_respell script.world.lines).rewrites is.at_lines is.at_open is.lines

  abbrev of_body : Rewrites (IsBodyText script.version (limits_of script.version).nesting None [] script.acts)
      (body_words (limits_of script.version).nesting script (opening_of script)) is.at_body is.at_rounds
  of_body =
      (opening_respells script.version (act_respells script.version) (limits_of script.version).nesting script).rewrites
      is.at_body is.at_rounds is.acts

  abbrev of_rounds : Rewrites (IsRoundsText script.rounds) (flat_map round_words script.rounds) is.at_rounds []
  of_rounds = (rounds_respell script.rounds).rewrites is.at_rounds [] is.rounds

  pub spelled_again : IsScriptText script (canonical script)
  unfolding words_after_session after_open after_declared
  spelled_again = record {
    at_version = words_after_session script;
    at_decls = declared_words script ++ after_declared;
    at_lines = after_declared;
    at_open = codes "open" ∷ after_open;
    at_body = after_open;
    at_rounds = flat_map round_words script.rounds;
    session = refl;
    version = of_version.again (declared_words script ++ after_declared);
    decls = of_declared.again after_declared;
    lines = of_lines.again (codes "open" ∷ after_open);
    open_word = refl;
    acts = of_body.again (flat_map round_words script.rounds);
    some_round = is.some_round;
    rounds =
        subst (λ all. IsRoundsText script.rounds all []) (append-nil (flat_map round_words script.rounds)) (of_rounds.again []);
  }

  pub no_longer : size (canonical script) ≤ size ws
  unfolding words_after_session after_open after_declared
  no_longer = rw (is.session) (omega (
    arith,
    of_version.shorter,
    of_declared.shorter,
    of_lines.shorter,
    open_size,
    of_body.shorter,
    of_rounds.shorter,
    size-append (declared_words script) after_declared,
    size-append (flat_map line_words script.world.lines) (codes "open" ∷ after_open),
    size-append (body_words (limits_of script.version).nesting script (opening_of script)) (flat_map round_words script.rounds),
  ))
    where
      open_size : size is.at_open ≡ 4 + 1 + size is.at_body
      open_size = rw is.open_word refl

  pub all_tokens : All IsToken (canonical script)
  unfolding words_after_session after_open after_declared
  all_tokens =
      All-cons IsToken (codes "session") (words_after_session script) session_is_token
      (All-append IsToken (decimal script.version ∷ []) (declared_words script ++ after_declared) of_version.tokens
      (All-append IsToken (declared_words script) after_declared of_declared.tokens
      (All-append IsToken (flat_map line_words script.world.lines) (codes "open" ∷ after_open) of_lines.tokens
      (All-cons IsToken (codes "open") after_open open_is_token (All-append IsToken (body_words (limits_of script.version).nesting script (opening_of script)) (flat_map round_words script.rounds) of_body.tokens of_rounds.tokens)))))
