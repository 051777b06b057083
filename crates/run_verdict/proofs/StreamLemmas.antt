-- What is pending on streams, by the tables and by the lines.
use Rattle.std.proofs.Common.{◌≡◌, ℕ, ◌<◌, List, ◌∷◌, refl, ap, subst, sym, ◌∙◌, inl, inr, ⊎_elim, arith}
use Rattle.std.proofs.lemmas.Bool.{both_ways, or_parts}
use Rattle.std.proofs.lemmas.Slice.Eq.{bytes_eq-Decides}
use Rattle.std.specs.Prelude.{Bool, true, false, if◌then◌else◌, Option, Some, None, IsSome, IsTrue, codes}
use Rattle.std.specs.Option.{option_and_then, option_map}
use Rattle.std.specs.Str.{bytes_eq}
use Rattle.run_lines.specs.declared.line.Doing.{Doing}
use Rattle.run_lines.specs.declared.line.Doing.TheVariants as doing
use Rattle.run_lines.specs.declared.line.Line.{Line}
use Rattle.run_lines.specs.declared.word.Word.{Word}
use Rattle.run_lines.specs.declared.word.Word.TheVariants.{Post, Defer, Dispatch, Other}
use Rattle.run_rules.specs.declared.level.Level.{Level}
use Rattle.run_rules.specs.Calls.{Calling, Waits, call_of, is_begun, is_dropped, thing_of, word_of}
use Rattle.run_rules.specs.MayCome.{IsOfStream, MayDo}
use Rattle.run_rules.specs.Legal.{IsLegalSoFar}
use Rattle.run_check.specs.After.{is_spent}
use Rattle.run_verdict.specs.declared.streams.Streams.{Streams}
use Rattle.run_verdict.specs.declared.uses.Uses.{Uses}
use Rattle.run_verdict.specs.declared.uses.Way.{Way}
use Rattle.run_verdict.specs.declared.uses.Way.TheVariants as way
use Rattle.run_rules.specs.Against.{IsPending}
use Rattle.run_verdict.specs.Streams.{AreStreams, pending_in}
use Rattle.run_verdict.specs.Uses.{ArePaired, AreUses, IsNewUse, is_by, letters_of, stream_at, stream_in, use_after, use_of, user_at}
use Rattle.run_verdict.proofs.UseLemmas.{use_of-next}

pub none_some : (n : ℕ) → None ≡ Some n → ⊥
none_some n e = cc

some_word : (a b : Word) → Some a ≡ Some b → a ≡ b
some_word a b e = cc

false_true : false ≡ true → ⊥
false_true e = cc

-- the word of a read or a write

word_is : (how : Way) (word : Word) → is_by how word ≡ true → word ≡ Other (letters_of how)
word_is how Post is = cc
word_is how Defer is = cc
word_is how Dispatch is = cc
word_is how (Other letters) is = ap Other ((bytes_eq-Decides letters (letters_of how)).0 is)

own_word : (how : Way) → is_by how (Other (letters_of how)) ≡ true
own_word how = (bytes_eq-Decides (letters_of how) (letters_of how)).1 refl

of_way : (how : Way) → IsOfStream (Other (letters_of how))
of_way way.Read = inl refl
of_way way.Write = inr refl

of_stream : (how : Way) (word : Word) → word ≡ Other (letters_of how) → IsOfStream word
of_stream how word is = subst (λ (w : Word). IsOfStream w) (sym is) (of_way how)

used_by : (word : Word) → IsOfStream word → is_by way.Read word ≡ false → is_by way.Write word ≡ false → ⊥
used_by Post used r w = used
used_by Defer used r w = used
used_by Dispatch used r w = used
used_by (Other letters) used r w =
    ⊎_elim (λ e. both_ways (bytes_eq letters (codes "read")) r ((bytes_eq-Decides letters (codes "read")).1 e))
    (λ e. both_ways (bytes_eq letters (codes "write")) w ((bytes_eq-Decides letters (codes "write")).1 e)) used

stream_by : (how : Way) (word : Word) (thing : Option ℕ) (stream : ℕ) (b : Bool) → is_by how word ≡ b
    → (if b then thing else None) ≡ Some stream
    → (word ≡ Other (letters_of how)) × (thing ≡ Some stream)
stream_by how word thing stream true e is = (word_is how word e, is)
stream_by how word thing stream false e is = absurd (none_some stream is)

stream_parts : (how : Way) (word : Word) (thing : Option ℕ) (stream : ℕ) → stream_in how word thing ≡ Some stream
    → (word ≡ Other (letters_of how)) × (thing ≡ Some stream)
stream_parts how word thing stream is = stream_by how word thing stream (is_by how word) refl is

-- an operation that waits and uses a stream

pub record IsUse (how : Way) (past : List Line) (op stream : ℕ) : Type 0 where
  pub waits : Waits past op
  pub same_word : word_of past op ≡ Some (Other (letters_of how))
  pub same_thing : thing_of past op ≡ Some stream

use_by : (how : Way) (past : List Line) (op stream : ℕ) (spent : Bool) (found : Option Calling) → is_spent past op ≡ spent
    → call_of past op ≡ found
    → (if spent then None else option_and_then (λ (c : Calling). stream_in how c.word c.thing) found) ≡ Some stream
    → IsUse how past op stream
use_by how past op stream true found s f is = absurd (none_some stream is)
use_by how past op stream false None s f is = absurd (none_some stream is)
use_by how past op stream false (Some call) s f is =
    let parts = stream_parts how call.word call.thing stream is in
    let apart = or_parts (is_begun past op) (is_dropped past op) s in
    record {
      waits = record {
        called = subst (λ (o : Option Calling). IsSome o) (sym f) refl;
        not_begun = apart.0;
        not_dropped =
            apart.1;
      };
      same_word = ap (λ (o : Option Calling). option_map (λ (c : Calling). c.word) o) f ∙ ap (λ (w : Word). Some w) parts.0;
      same_thing = ap (λ (o : Option Calling). option_and_then (λ (c : Calling). c.thing) o) f ∙ parts.1;
    }

use_is : (how : Way) (past : List Line) (op stream : ℕ) → use_of how past op ≡ Some stream → IsUse how past op stream
use_is how past op stream is = use_by how past op stream (is_spent past op) (call_of past op) refl refl is

from_by : (how : Way) (stream : ℕ) (found : Option Calling)
    → option_map (λ (c : Calling). c.word) found ≡ Some (Other (letters_of how))
    → option_and_then (λ (c : Calling). c.thing) found ≡ Some stream
    → option_and_then (λ (c : Calling). stream_in how c.word c.thing) found ≡ Some stream
from_by how stream None w t = absurd (none_some stream t)
from_by how stream (Some call) w t =
    ap (λ (o : Word). stream_in how o call.thing) (some_word call.word (Other (letters_of how)) w)
    ∙ ap (λ (b : Bool). if b then call.thing else None) (own_word how) ∙ t

use_from : (how : Way) (past : List Line) (op stream : ℕ) → IsUse how past op stream → use_of how past op ≡ Some stream
use_from how past op stream usage =
    let unspent : is_spent past op ≡ false = rw (usage.waits.not_begun, usage.waits.not_dropped) refl in
    ap (λ (b : Bool). if b then None else option_and_then (λ (c : Calling). stream_in how c.word c.thing) (call_of past op))
    unspent
    ∙ from_by how stream (call_of past op) usage.same_word usage.same_thing

-- a line that may come is followed

unused_by : (how : Way) (spent : Bool) (found : Option Calling) → (IsSome found → ⊥)
    → (if spent then None else option_and_then (λ (c : Calling). stream_in how c.word c.thing) found) ≡ None
unused_by how true found uncalled = refl
unused_by how false None uncalled = refl
unused_by how false (Some call) uncalled = absurd (uncalled refl)

pub new_use : (how : Way) (level : Level) (past : List Line) (thread : ℕ) (does : Doing) (kept : Uses) → IsTrue level.streams
    → MayDo level past thread does
    → AreUses how past kept → IsNewUse how kept does
new_use how level past thread (doing.Call number word context strand thing) kept on may uses = (
  uses.uses number ∙ unused_by how (is_spent past number) (call_of past number) (λ called. let less : number < number =
      may.is_new number called in absurd (omega arith)),
  λ stream is. alone stream is (user_at kept stream) refl,
)
  where
    alone : (stream : ℕ) → stream_in how word thing ≡ Some stream → (o : Option ℕ) → user_at kept stream ≡ o → o ≡ None
    alone stream is None e = refl
    alone stream is (Some op) e =
        let usage : IsUse how past op stream = use_is how past op stream (sym (uses.uses op) ∙ uses.paired.stands op stream e) in
        let parts = stream_parts how word thing stream is in
        absurd (may.single stream op on (of_stream how word parts.0) parts.1 usage.waits (usage.same_word
        ∙ ap (λ (w : Word). Some w) (sym parts.0)) usage.same_thing)
new_use how level past thread _ kept on may uses = tt

pub uses_next : (how : Way) (level : Level) (past : List Line) (thread : ℕ) (does : Doing) (old new : Uses)
    → IsTrue level.streams → IsLegalSoFar level past
    → MayDo level past thread does → AreUses how past old
    → (IsNewUse how old does → (op : ℕ) → stream_at new op ≡ use_after how does op (stream_at old op))
    → (ArePaired old → IsNewUse how old does → ArePaired new)
    → AreUses how (record { thread = thread; does = does } ∷ past) new
uses_next how level past thread does old new on legal may uses streams paired =
    let fresh : IsNewUse how old does = new_use how level past thread does old on may uses in
    record {
      paired = paired uses.paired fresh;
      uses = λ op. streams fresh op ∙ ap (use_after how does op) (uses.uses op)
          ∙ sym (use_of-next how level past (record { thread = thread; does = does }) legal may op);
    }

-- what is found is pending

pending_by : (how : Way) (past : List Line) (kept : Uses) (word : Word) (stream op : ℕ) → AreUses how past kept
    → is_by how word ≡ true → user_at kept stream ≡ Some op
    → IsPending past word (Some stream) op
pending_by how past kept word stream op uses test is =
    let usage : IsUse how past op stream = use_is how past op stream (sym (uses.uses op) ∙ uses.paired.stands op stream is) in
    let same : word ≡ Other (letters_of how) = word_is how word test in
    record {
      used = of_stream how word same;
      stream = refl;
      waits = usage.waits;
      same_word = usage.same_word ∙ ap (λ (w : Word). Some w) (sym same);
      same_thing = usage.same_thing;
    }

pub pending_is : (past : List Line) (kept : Streams) (word : Word) (thing : Option ℕ) (op : ℕ) → AreStreams past kept
    → pending_in kept word thing ≡ Some op
    → IsPending past word thing op
pending_is past kept word None op streams is = absurd (none_some op is)
pending_is past kept word (Some stream) op streams is = by_tests (is_by way.Read word) refl (is_by way.Write word) refl is
  where
    by_tests : (r : Bool) → is_by way.Read word ≡ r → (w : Bool) → is_by way.Write word ≡ w
        → (if r then user_at kept.reads stream else (if w then user_at kept.writes stream else None)) ≡ Some op
        → IsPending past word (Some stream) op
    by_tests true r w e found = pending_by way.Read past kept.reads word stream op streams.reads r found
    by_tests false r true e found = pending_by way.Write past kept.writes word stream op streams.writes e found
    by_tests false r false e found = absurd (none_some op found)

user_by : (how : Way) (past : List Line) (kept : Uses) (word : Word) (stream op : ℕ) → AreUses how past kept
    → is_by how word ≡ true → IsPending past word (Some stream) op → user_at kept stream ≡ Some op
user_by how past kept word stream op uses test pending =
    let same : word ≡ Other (letters_of how) = word_is how word test in
    let usage : IsUse how past op stream =
    record {
      waits = pending.waits;
      same_word = pending.same_word ∙ ap (λ (w : Word). Some w) same;
      same_thing =
          pending.same_thing;
    } in
    uses.paired.found op stream (uses.uses op ∙ use_from how past op stream usage)

pub pending_found : (past : List Line) (kept : Streams) (word : Word) (thing : Option ℕ) (op : ℕ) → AreStreams past kept
    → IsPending past word thing op → pending_in kept word thing ≡ Some op
pending_found past kept word None op streams pending = absurd (false_true pending.stream)
pending_found past kept word (Some stream) op streams pending =
    by_tests (is_by way.Read word) refl (is_by way.Write word) refl
  where
    by_tests : (r : Bool) → is_by way.Read word ≡ r → (w : Bool) → is_by way.Write word ≡ w
        → (if r then user_at kept.reads stream else (if w then user_at kept.writes stream else None)) ≡ Some op
    by_tests true r w e = user_by way.Read past kept.reads word stream op streams.reads r pending
    by_tests false r true e = user_by way.Write past kept.writes word stream op streams.writes e pending
    by_tests false r false e = absurd (used_by word pending.used r e)

pub pending_none : (past : List Line) (kept : Streams) (word : Word) (thing : Option ℕ) (op : ℕ) → AreStreams past kept
    → pending_in kept word thing ≡ None
    → IsPending past word thing op → ⊥
pending_none past kept word thing op streams is pending =
    none_some op (sym is ∙ pending_found past kept word thing op streams pending)
