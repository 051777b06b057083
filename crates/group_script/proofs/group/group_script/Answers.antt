use Rattle.std.proofs.Common.{◌≡◌, ◌≤◌, ◌+◌, List, [], ap, arith, length, refl, subst}
use Rattle.std.specs.List.{flat_map}
use Rattle.asio_types.specs.declared.world.Line.{Line}
use Rattle.session_script.specs.Limits.{limits_of, most_bytes}
use Rattle.session_script.specs.Spelling.{line_words, spelling_of}
use Rattle.group_script.specs.declared.member.Member.{Member}
use Rattle.group_script.specs.Group.{group_of, script_of}
use Rattle.group_script.specs.Limits.{IsGroup}
use Rattle.group_script.specs.Measure.{span}
use Rattle.group_script.proofs.ShortLemmas.{measured, outline_is_group}
use Rattle.group_script.proofs.group.group_script.Goals as goal
use Rattle.group_script.proofs.group.group_script.Goals.{After-lines_length}

pub outline_length-requires : goal.outline_length-requires
outline_length-requires c =
    outline_is_group c.args.world.now.streams c.args.world.now.lines [] c.as_slice-members.result.now c.args.rule
    c.args.types c.args.workers (c.fits_group.ensures.0 c.if-not-fits_group.false) refl

pub lines_length-requires-clause-few : goal.lines_length-requires-clause-few
unfolding limits_of
lines_length-requires-clause-few c =
    omega (
      arith,
      ap (λ (lines : List Line). length lines) c.as_slice-lines.ensures,
      (c.fits_group.ensures.0 c.if-not-fits_group.false).line_count,
    )

-- what was measured is how long the text is
size_at : (c : After-lines_length) →
    length (spelling_of (script_of (group_of c.args.world.now c.as_slice-members.result.now c.args.rule c.args.types
    c.args.workers)))
    ≡ c.in_ok-outlined.outlined + c.lines_length.result
size_at c =
    let all =
    measured c.args.world.now.streams c.args.world.now.lines c.as_slice-members.result.now c.args.rule c.args.types
    c.args.workers in
    let lines = ap (λ (lines : List Line). span (flat_map line_words lines)) c.as_slice-lines.ensures in
    omega (arith, all, c.in_ok-outlined.ensures.text, lines, c.lines_length.ensures.length)

-- by the members as they were given
size_with : (c : After-lines_length) →
    length (spelling_of (script_of (group_of c.args.world.now c.as_slice-members.result.now c.args.rule c.args.types
    c.args.workers)))
    ≡ length (spelling_of (script_of (group_of c.args.world.now c.args.members.now c.args.rule c.args.types
    c.args.workers)))
size_with c =
    ap (λ (members : List Member).
    length (spelling_of (script_of (group_of c.args.world.now members c.args.rule c.args.types c.args.workers))))
    c.as_slice-members.ensures

pub returns-then-bytes-gt-MOST_BYTES-clause-refused : goal.returns-then-bytes-gt-MOST_BYTES-clause-refused
returns-then-bytes-gt-MOST_BYTES-clause-refused c group =
    let size = size_at (goal.at.returns-then-bytes-gt-MOST_BYTES-clause-refused c).After-lines_length in
    let same = size_with (goal.at.returns-then-bytes-gt-MOST_BYTES-clause-refused c).After-lines_length in
    omega (arith, size, same, group.size, c.if-bytes-gt-MOST_BYTES.true)

-- what fits is a group
group_at : (c : After-lines_length) → c.in_ok-outlined.outlined + c.lines_length.result ≤ most_bytes →
    IsGroup (group_of c.args.world.now c.as_slice-members.result.now c.args.rule c.args.types c.args.workers)
group_at c short =
    let fits = c.fits_group.ensures.0 c.if-not-fits_group.false in
    record { fits = fits; size = omega (arith, size_at c, short) }

pub script_with-requires-clause-group : goal.script_with-requires-clause-group
script_with-requires-clause-group c =
    group_at (goal.at.script_with-requires-clause-group c).After-lines_length
    (omega (arith, c.if-bytes-gt-MOST_BYTES.false))

pub returns-clause-within : goal.returns-clause-within
returns-clause-within c =
    subst (λ (members : List Member).
    IsGroup (group_of c.args.world.now members c.args.rule c.args.types c.args.workers)) c.as_slice-members.ensures
    (group_at (goal.at.returns-clause-within c).After-lines_length
    (omega (arith, c.if-bytes-gt-MOST_BYTES.false)))
