use Rattle.std.proofs.Common.{[], ◌++◌, ◌∙◌, ◌∷◌, ap, refl}
use Rattle.chat_handlers.specs.Serving.Admits.{admits, closes}
use Rattle.chat_handlers.proofs.ServingLemmas.{reads_from}
use Rattle.chat_handlers.proofs.serving.admit.Goals as goal

pub returns-in-Ok-clause-admits : goal.returns-in-Ok-clause-admits
returns-in-Ok-clause-admits c =
    admits c.requires
    (reads_from _ _ _ _ _ _ _ _ _ _ _ (record { word = refl; next = refl; alloc = refl; refused = refl }) c.as_slice.ensures.value
    (c.in-Ok.ensures.items ∙ ap (λ one. c.args.room.now.members.items ++ one ∷ []) c.new_member-member.ensures)
    c.read_and_tell.ensures.tells)

pub returns-in-Err-clause-admits : goal.returns-in-Err-clause-admits
returns-in-Err-clause-admits c =
    closes c.part.ensures.parted
    (record { are = c.in-Err.ensures.items; word = refl; next = refl; alloc = refl; counted = refl })
