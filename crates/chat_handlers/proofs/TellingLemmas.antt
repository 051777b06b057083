-- The members of a room are told a text one after another.
use Rattle.std.proofs.Common.{◌≡◌, ℕ, ◌+◌, ◌<◌, ◌≤◌, option_to_list, List, [], ◌∷◌, ◌++◌, length, get_or, drop, ap, sym, ◌∙◌, arith, subst, subst₂, append_assoc, append-nil, drop_of_length-le}
use Rattle.io_rules.specs.declared.name.Name.{Name}
use Rattle.io_handlers.specs.Initiated.{Initiated}
use Rattle.chat_handlers.specs.declared.chat.Chat.{Chat}
use Rattle.chat_handlers.specs.declared.room.Member.{Member}
use Rattle.chat_handlers.specs.declared.telling.Fate.{Fate}
use Rattle.chat_handlers.specs.declared.telling.Fate.TheVariants as fate
use Rattle.chat_handlers.specs.declared.room.Room.{Room}
use Rattle.chat_handlers.specs.Telling.{TellsFirst, TellsOne, Told, refused_of, told_of}
use Rattle.chat_handlers.specs.Telling.Told.{none, written, dropped, unfit}
use Rattle.chat_handlers.proofs.RoomLemmas.{next_of, nobody}

-- so many are told, and for so many of them memory was refused: those of them who are left stand behind the others, and what
-- the others lead to, all do
pub record IsToldTo (room : Name) (text : List ℕ) (io : Initiated Chat Room) (all : List Member) (k : ℕ)
    (later : Initiated Chat Room) (members : List Member) (refused : ℕ) : Type 0 where
  pub left : List Member
  pub are : members ≡ drop k all ++ left
  pub leads : (final : Initiated Chat Room) (rest : List Member) (more : ℕ) → Told room text later (drop k all) final rest more →
      Told room text io all final (left ++ rest) (refused + more)

-- a count that is the same is as good
told_with : (room : Name) (text : List ℕ) (io final : Initiated Chat Room) (all rest : List Member) (one other : ℕ) → one ≡ other →
    Told room text io all final rest one → Told room text io all final rest other
told_with room text io final all rest one other same told = subst (λ n. Told room text io all final rest n) same told

pub told_to_none : (room : Name) (text : List ℕ) (io : Initiated Chat Room) (all : List Member) → IsToldTo room text io all 0 io all 0
told_to_none room text io all = record {
  left = [];
  are = sym (append-nil all);
  leads = λ final rest more told. told_with room text io final all rest more (0 + more) (omega arith) told;
}

one_told : (room : Name) (text : List ℕ) (io later final : Initiated Chat Room) (first : Member) (members rest : List Member)
    (became : Fate) (more : ℕ) →
    TellsOne room text first io later became → Told room text later members final rest more →
    Told room text io (first ∷ members) final (option_to_list (told_of became) ++ rest) (refused_of became + more)
one_told room text io later final first members rest (fate.Told told) more is goes =
    told_with room text io final (first ∷ members) (told ∷ rest) more (0 + more) (omega arith)
    (subst (λ one. Told room text io (first ∷ members) final (one ∷ rest) more) (sym is.0) (written first is.1 is.2 goes))
one_told room text io later final first members rest fate.Dropped more is goes =
    told_with room text io final (first ∷ members) rest more (0 + more) (omega arith)
    (dropped first is.0 (subst (λ io. Told room text io members final rest more) is.1 goes))
one_told room text io later final first members rest fate.Refused more is goes =
    unfit first (subst (λ io. Told room text io members final rest more) is goes)

pub told_to_next : (room : Name) (text : List ℕ) (io behind later : Initiated Chat Room) (all before after : List Member)
    (k refused here now_refused : ℕ) →
    k < length all → IsToldTo room text io all k behind before refused →
    ((first : Member) (rest : List Member) → before ≡ first ∷ rest →
    TellsFirst room text first rest behind later after here) →
    now_refused ≡ refused + here → IsToldTo room text io all (k + 1) later after now_refused
told_to_next room text io behind later all before after k refused here now_refused l so tells counts =
    let first = get_or all k nobody in
    let rest = drop (k + 1) all in
    let next = next_of all k l in
    let one = tells first (rest ++ so.left) (so.are ∙ ap (λ xs. xs ++ so.left) next) in
    let kept = option_to_list (told_of one.became) in
    record {
      left = so.left ++ kept;
      are = one.are ∙ append_assoc rest so.left kept;
      leads = λ final last more goes.
          let sums : refused + (refused_of one.became + more) ≡ now_refused + more = omega (arith, counts, one.counted) in
          subst₂ (λ xs n. Told room text io all final xs n) (sym (append_assoc so.left kept last)) sums
          (so.leads final (kept ++ last) (refused_of one.became + more)
          (subst (λ xs. Told room text behind xs final (kept ++ last) (refused_of one.became + more)) (sym next)
          (one_told room text behind later final first rest last one.became more one.tells goes)));
    }

pub told_to_all : (room : Name) (text : List ℕ) (io later : Initiated Chat Room) (all members : List Member) (k refused : ℕ) →
    length all ≤ k → IsToldTo room text io all k later members refused → Told room text io all later members refused
told_to_all room text io later all members k refused enough so =
    let over : drop k all ≡ [] = drop_of_length-le all enough in
    let whole = so.leads later [] 0 (subst (λ xs. Told room text later xs later [] 0) (sym over) none) in
    let sums : refused + 0 ≡ refused = omega arith in
    subst₂ (λ xs n. Told room text io all later xs n)
    (append-nil so.left ∙ sym (so.are ∙ ap (λ xs. xs ++ so.left) over)) sums whole
