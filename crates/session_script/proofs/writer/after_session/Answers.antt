use Rattle.std.proofs.Common.{◌≡◌, ℕ, List, ◌∷◌, ◌++◌, None, ap, ◌∙◌}
use Rattle.std.specs.List.{flat_map}
use Rattle.std.specs.Fmt.{decimal}
use Rattle.std.proofs.lemmas.Result.{on_ok_weaker}
use Rattle.asio_types.specs.declared.world.World.{World}
use Rattle.asio_types.specs.declared.world.Line.{Line}
use Rattle.session_script.specs.declared.round.Round.{Round}
use Rattle.session_script.specs.declared.limits.Limits.{Limits}
use Rattle.session_script.specs.Script.{opening_of}
use Rattle.session_script.specs.Limits.{limits_of}
use Rattle.session_script.specs.Spelling.{written, words_after_session, declared_words, line_words, round_words, body_words}
use Rattle.session_script.proofs.WrittenLemmas.{are_acts, session_written}
use Rattle.session_script.proofs.writer.after_session.Goals as goal

pub body-requires : goal.body-requires
body-requires c = are_acts c.args.script.now None c.opening.result.now c.opening.ensures

pub returns : goal.returns
unfolding words_after_session
returns c =
    let v : c.number.new.out.items ≡ c.args.out.now.items ++ 32 ∷ decimal c.args.script.now.version =
    c.in_ok-number.ensures ∙ ap (λ n. c.args.out.now.items ++ 32 ∷ decimal n) c.version-version.ensures in
    let l : c.lines.new.out.items
    ≡ written c.declarations.new.out.items (flat_map line_words c.args.script.now.world.lines) =
    c.in_ok-lines.ensures
    ∙ ap (λ (ls : List Line). written c.declarations.new.out.items (flat_map line_words ls))
    (c.as_slice.ensures ∙ ap (λ (w : World). w.lines) c.world.ensures) in
    let b : c.body.new.out.items
    ≡ written c.word.new.out.items
    (body_words (limits_of c.args.script.now.version).nesting c.args.script.now (opening_of c.args.script.now)) =
    c.in_ok-body.ensures
    ∙ ap (λ (k : ℕ). written c.word.new.out.items (body_words k c.args.script.now c.opening.result.now))
    (ap (λ (k : Limits). k.nesting) (c.limits_of.ensures ∙ ap limits_of c.version-version.ensures))
    ∙ ap (λ (acts : List ℕ).
    written c.word.new.out.items (body_words (limits_of c.args.script.now.version).nesting c.args.script.now acts))
    c.opening.ensures in
    on_ok_weaker c.rounds-2.result
    (λ r.
    session_written c.args.out.now.items (decimal c.args.script.now.version) c.number.new.out.items
    c.declarations.new.out.items c.lines.new.out.items c.word.new.out.items c.body.new.out.items
    c.rounds-2.new.out.items (declared_words c.args.script.now)
    (flat_map line_words c.args.script.now.world.lines)
    (body_words (limits_of c.args.script.now.version).nesting c.args.script.now (opening_of c.args.script.now))
    (flat_map round_words c.args.script.now.rounds) v c.in_ok-declarations.ensures l c.in_ok-word.ensures b
    (r ∙ ap (λ (rs : List Round). written c.body.new.out.items (flat_map round_words rs)) c.rounds.ensures))
    c.rounds-2.ensures
