use Rattle.std.proofs.Common.{◌++◌, ◌∙◌, ap₂, codes, refl}
use Rattle.chat_handlers.specs.Serving.TellsLeft.{fails, tells}
use Rattle.chat_handlers.proofs.ServingLemmas.{tells_from}
use Rattle.chat_handlers.proofs.serving.tell_left.Goals as goal

pub returns-clause-tells : goal.returns-clause-tells
returns-clause-tells c =
    tells
    (tells_from _ _ _ _ _ _ _ _ _ _ (record { word = refl; next = refl; alloc = refl; refused = refl })
    (c.as_slice-in-Ok.ensures.value
    ∙ c.in-Ok.ensures
    ∙ ap₂ (λ text name. text ++ (codes "* " ++ name ++ codes " left\n")) c.new-text.ensures.items c.as_slice.ensures.value) refl
    c.tell_room.ensures.tells)

pub returns-in-Err-clause-tells : goal.returns-in-Err-clause-tells
returns-in-Err-clause-tells c = fails refl (record { are = refl; word = refl; next = refl; alloc = refl; counted = refl })
