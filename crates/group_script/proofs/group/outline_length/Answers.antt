use Rattle.std.proofs.Common.{◌≡◌, ◌≤◌, ◌∙◌, ℕ, List, [], ap, arith, length, subst, sym}
use Rattle.std.specs.Prelude.{IfOk, Result, Ok, Err}
use Rattle.asio_types.specs.declared.world.Line.{Line}
use Rattle.session_script.specs.Limits.{most_bytes}
use Rattle.session_script.specs.Script.{ScriptModel}
use Rattle.session_script.specs.Spelling.{spelling_of}
use Rattle.group_script.specs.declared.member.Member.{Member}
use Rattle.group_script.specs.declared.member.WaitFor.{WaitFor}
use Rattle.group_script.specs.Group.{group_of, script_of}
use Rattle.group_script.specs.Limits.{IsGroup}
use Rattle.group_script.proofs.group.outline_length.Goals as goal

if_ok : {X E : Type 0} (P Q : X → Type 0) (r : Result X E) → IfOk r P → ((x : X) → P x → Q x) → IfOk r Q
if_ok P Q (Ok x) said more = more x said
if_ok P Q (Err e) said more = tt

-- the text of a script without lines
without : (streams : ℕ) (lines : List Line) (members : List Member) (rule : WaitFor) (types workers : ℕ)
    (script : ScriptModel) →
    script ≡ script_of (group_of (record { streams = streams; lines = lines }) members rule types workers) →
    lines ≡ [] →
    length (spelling_of script)
    ≡ length (spelling_of (script_of (group_of (record { streams = streams; lines = [] }) members rule types workers)))
without streams lines members rule types workers script is empty =
    ap (λ of. length (spelling_of of)) (is
    ∙ ap (λ (left : List Line).
    script_of (group_of (record { streams = streams; lines = left }) members rule types workers)) empty)

pub script_of-requires-clause-group : goal.script_of-requires-clause-group
script_of-requires-clause-group c =
    subst (λ (lines : List Line).
    IsGroup (group_of (record { streams = c.args.streams; lines = lines }) c.args.members.now c.args.rule c.args.types
    c.args.workers)) (sym (c.of.ensures ∙ c.new.ensures.items)) c.requires

pub returns-clause-text : goal.returns-clause-text
returns-clause-text c =
    if_ok (λ bytes. bytes ≡ length (spelling_of c.in_ok-outline.outline))
    (λ bytes. bytes ≡ length (spelling_of (script_of (group_of (record { streams = c.args.streams; lines = [] }) c.args.members.now
    c.args.rule c.args.types c.args.workers)))) c.text_length.result
    c.text_length.ensures
    (λ bytes is. is
    ∙ without c.args.streams c.of.result c.args.members.now c.args.rule c.args.types c.args.workers
    c.in_ok-outline.outline c.in_ok-outline.ensures (c.of.ensures ∙ c.new.ensures.items))

pub returns-clause-few : goal.returns-clause-few
returns-clause-few c =
    let text =
    without c.args.streams c.of.result c.args.members.now c.args.rule c.args.types c.args.workers
    c.in_ok-outline.outline c.in_ok-outline.ensures (c.of.ensures ∙ c.new.ensures.items) in
    if_ok (λ bytes. bytes ≡ length (spelling_of c.in_ok-outline.outline)) (λ bytes. bytes ≤ most_bytes)
    c.text_length.result c.text_length.ensures (λ bytes is. omega (arith, is, text, c.requires.size))
