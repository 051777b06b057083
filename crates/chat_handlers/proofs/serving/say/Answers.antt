use Rattle.std.proofs.Common.{◌∙◌, refl, subst, sym}
use Rattle.chat_handlers.specs.Serving.{SaysIf}
use Rattle.chat_handlers.proofs.ServingLemmas.{reads_from}
use Rattle.chat_handlers.proofs.serving.say.Goals as goal

pub returns-then-has_member-clause-says : goal.returns-then-has_member-clause-says
returns-then-has_member-clause-says c =
    subst
    (λ has. SaysIf has c.args.speaker c.args.buffer c.args.text c.args.io.now c.read_and_tell.new.io c.args.room.now
    c.read_and_tell.new.room)
    (sym c.if-has_member.true ∙ c.has_member.ensures)
    (reads_from _ _ _ _ _ _ _ _ _ _ _ (record { word = refl; next = refl; alloc = refl; refused = refl }) c.as_slice.ensures.value refl
    c.read_and_tell.ensures.tells)

pub returns-else-has_member-clause-says : goal.returns-else-has_member-clause-says
returns-else-has_member-clause-says c =
    subst
    (λ has. SaysIf has c.args.speaker c.args.buffer c.args.text c.args.io.now c.leave.new.io c.args.room.now c.leave.new.room)
    (sym c.if-has_member.false ∙ c.has_member.ensures) c.leave.ensures.parts
