-- Which answers are owed to all that came on a connection (RFC 9112, sections 2.2 and 9.3.2).
use Rattle.std.specs.Prelude.{◌≡◌, ℕ, ◌<◌, ◌≤◌, Bool, true, false, not, ◌==◌, List, [], ◌∷◌, ◌++◌, length, take, drop, flat_map}
use Rattle.http_handlers.specs.declared.answer.Answer.{Answer}
use Rattle.http_handlers.specs.declared.answer.Status.TheVariants as status
use Rattle.http_handlers.specs.declared.connection.Rest.{Rest}
use Rattle.http_handlers.specs.Answers.{number_of, printed, refused}
use Rattle.http_handlers.specs.Heads.{HasNoHead, IsHeadSize, most_head}
use Rattle.http_handlers.specs.Requests.{IsAnswer}

-- what is left of the bytes of a connection once they are answered
pub record Left : Type 0 where
  -- those behind the last head
  pub kept : List ℕ
  -- how many heads were answered
  pub served : ℕ
  -- whether an answer has closed it
  pub closed : Bool

-- behind so many answers, these are owed to these bytes: one to each head, up to the first that closes
pub data Owes : ℕ → List ℕ → List Answer → Left → Type 0 where
  waits : {served : ℕ} {bytes : List ℕ} → HasNoHead bytes → length bytes < most_head →
      Owes served bytes [] (record { kept = bytes; served = served; closed = false })
  refuses : {served : ℕ} {bytes : List ℕ} → HasNoHead bytes → most_head ≤ length bytes →
      Owes served bytes (refused status.HeaderFieldsTooLarge ∷ []) (record { kept = []; served = served; closed = true })
  closes : {served : ℕ} {bytes : List ℕ} (size : ℕ) (answer : Answer) → IsHeadSize bytes size → IsAnswer served (take size bytes) answer →
      answer.keeps ≡ false →
      Owes served bytes (answer ∷ []) (record { kept = []; served = number_of served; closed = true })
  goes : {served : ℕ} {bytes : List ℕ} {answers : List Answer} {left : Left} (size : ℕ) (answer : Answer) →
      IsHeadSize bytes size → IsAnswer served (take size bytes) answer → answer.keeps ≡ true →
      Owes (number_of served) (drop size bytes) answers left → Owes served bytes (answer ∷ answers) left

-- behind so many answers, these bytes have come, and this text is what they are answered
pub record Said (served : ℕ) (came text : List ℕ) (left : Left) : Type 0 where
  pub answers : List Answer
  pub owes : Owes served came answers left
  pub text_is : text ≡ flat_map printed answers

-- it is appended to a buffer
pub record Gives (served : ℕ) (bytes old new : List ℕ) (left : Left) : Type 0 where
  pub text : List ℕ
  pub said : Said served bytes text left
  pub appended : new ≡ old ++ text

-- a connection takes these bytes, and what is appended is owed to them behind those that it kept; one that is closed
-- passes over them
pub record Feeds (before : Left) (came old new : List ℕ) (after : Left) : Type 0 where
  pub gives : before.closed ≡ false → Gives before.served (before.kept ++ came) old new after
  pub same : before.closed ≡ true → after ≡ before
  pub silent : before.closed ≡ true → new ≡ old

-- these bytes came behind others, and what is appended for them is what was owed and not said yet
pub record SaysOnce (came said bytes old new : List ℕ) (left : Left) : Type 0 where
  pub text : List ℕ
  pub all : Said 0 (came ++ bytes) (said ++ text) left
  pub appended : new ≡ old ++ text

-- nothing has come
abbrev pub new_left : Left
new_left = record { kept = []; served = 0; closed = false }

-- whether a head has begun and isn't whole
abbrev pub is_begun : Left → Bool
is_begun left = not (length left.kept == 0)

abbrev pub left_of : Rest → Left
left_of rest = record { kept = rest.bytes.now; served = rest.served; closed = rest.closed }

-- what all that came is answered: one text alone, whatever pieces it came in
abbrev pub IsSaidOnce : Type 0
IsSaidOnce = (came text other : List ℕ) (left last : Left) → Said 0 came text left → Said 0 came other last → text ≡ other
