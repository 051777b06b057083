-- A room whose members have changed is the same room.
use Rattle.std.proofs.Common.{◌≡◌, ◌∙◌, ◌+◌, ℕ, List, min, refl, subst, subst₂}
use Rattle.std.specs.Global.{Vec}
use Rattle.io_rules.specs.declared.name.Name.{Name}
use Rattle.io_handlers.specs.Initiated.{Initiated}
use Rattle.chat_handlers.specs.declared.chat.Chat.{Chat}
use Rattle.chat_handlers.specs.declared.reading.Speaker.{Speaker}
use Rattle.chat_handlers.specs.declared.room.Member.{Member}
use Rattle.chat_handlers.specs.declared.room.Room.{Room}
use Rattle.chat_handlers.specs.Rooms.{HasMembers}
use Rattle.chat_handlers.specs.Serving.{ReadsAndTells, Tells, TellsLeft}
use Rattle.chat_handlers.specs.Serving.TellsLeft.{fails, tells}
use Rattle.chat_handlers.specs.Telling.{Told}

-- the same but for its members
pub record IsSameRoom (old between : Room) : Type 0 where
  pub word : between.word ≡ old.word
  pub next : between.next ≡ old.next
  pub alloc : between.alloc ≡ old.alloc
  pub refused : between.refused ≡ old.refused

pub has_members_from : (old between new : Room) (members : List Member) (refused : ℕ) → IsSameRoom old between →
    HasMembers between new members refused → HasMembers old new members refused
has_members_from old between new members refused same has = record {
  are = has.are;
  word = has.word ∙ same.word;
  next = has.next ∙ same.next;
  alloc = has.alloc ∙ same.alloc;
  counted = has.counted;
}

pub tells_from : (room : Name) (text other : List ℕ) (members others : List Member) (io later : Initiated Chat Room)
    (old between new : Room) →
    IsSameRoom old between → text ≡ other → members ≡ others → Tells room text members io later between new →
    Tells room other others io later old new
tells_from room text other members others io later old between new same is_text are told = record {
  left = told.left;
  refused = told.refused;
  told = subst₂ (λ one all. Told room one io all later told.left told.refused) is_text are told.told;
  has = has_members_from old between new told.left _ same
      (subst (λ n. HasMembers between new told.left (min (n + told.refused) 18446744073709551615)) same.refused told.has);
}

pub reads_from : (speaker : Speaker) (buffer : Vec ℕ) (text other : List ℕ) (members others : List Member)
    (io later : Initiated Chat Room) (old between new : Room) →
    IsSameRoom old between → text ≡ other → members ≡ others →
    ReadsAndTells speaker buffer text members io later between new →
    ReadsAndTells speaker buffer other others io later old new
reads_from speaker buffer text other members others io later old between new same is_text are goes = record {
  behind = goes.behind;
  reads = goes.reads;
  tells = tells_from speaker.room text other members others goes.behind later old between new same is_text are goes.tells;
}

pub left_from : (speaker : Speaker) (members others : List Member) (io later : Initiated Chat Room) (old between new : Room) →
    IsSameRoom old between → members ≡ others → TellsLeft speaker members io later between new →
    TellsLeft speaker others io later old new
left_from speaker members others io later old between new same are (tells told) =
    tells (tells_from speaker.room _ _ members others io later old between new same refl are told)
left_from speaker members others io later old between new same are (fails is has) =
    fails is (subst₂ (λ all n. HasMembers old new all n) are same.refused
    (has_members_from old between new members between.refused same has))
