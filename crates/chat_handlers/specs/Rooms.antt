-- The members of a room, in the order in which they joined.
use Rattle.std.specs.Prelude.{◌≡◌, ◌+◌, ◌-◌, ℕ, Bool, Option, List, filter, find, not, if◌then◌else◌}
use Rattle.std.specs.List.{list_any}
use Rattle.io_rules.specs.declared.name.Name.{Name}
use Rattle.io_rules.specs.Names.{same_name}
use Rattle.chat_handlers.specs.declared.room.Member.{Member}
use Rattle.chat_handlers.specs.declared.room.Room.{Room}
use Rattle.chat_handlers.specs.Links.{until}

-- a room has at most so many members, and of each at most so many writes are pending
abbrev pub most_members : ℕ
most_members = 64

abbrev pub most_pending : ℕ
most_pending = 128

abbrev pub has_member : Name → List Member → Bool
has_member stream members = list_any (λ member. same_name member.stream stream) members

abbrev pub member_of : Name → List Member → Option Member
member_of stream members = find (λ member. same_name member.stream stream) members

-- who has this stream is taken out
abbrev pub without : Name → List Member → List Member
without stream members = filter (λ member. not (same_name member.stream stream)) members

-- a member is kept for so many nanoseconds after it joined, and after each text that was written to it
abbrev pub idle : ℕ
idle = 3600000000000

-- one write more is pending, or one less of this stream, which was over at this time
abbrev pub one_more : Member → Member
one_more member = record member { pending = member.pending + 1 }

abbrev pub one_less : Name → ℕ → Member → Member
one_less stream now member =
    if same_name member.stream stream then record member { pending = member.pending - 1; until = until now idle } else member

abbrev pub new_member : Name → ℕ → Member
new_member stream now = record { stream = stream; pending = 0; until = until now idle }

-- only its members change, and how many of them were dropped since memory was refused: so many were by then
pub record HasMembers (old new : Room) (members : List Member) (refused : ℕ) : Type 0 where
  pub are : new.members.items ≡ members
  pub word : new.word ≡ old.word
  pub next : new.next ≡ old.next
  pub alloc : new.alloc ≡ old.alloc
  pub counted : new.refused ≡ refused
