-- What is read of acts, bodies, lines and rounds is well formed.
use Rattle.std.proofs.Common.{◌≡◌, ℕ, zero, suc, ◌+◌, ◌<◌, ◌≤◌, Bool, true, false, not, ◌||◌, List, [], ◌∷◌, ◌++◌, length, Option, Some, None, Result, refl, sym, subst, add-one, arith}
use Rattle.std.specs.Prelude.{nat_eq, nat_le, is_none}
use Rattle.std.proofs.lemmas.Bool.{false≢true}
use Rattle.std.proofs.lemmas.Bool.Decides.{nat_tests}
use lib.Chars.{codes}
use Rattle.asio_types.specs.declared.code.Class.{Class}
use Rattle.asio_types.specs.declared.code.Class.TheVariants as class
use Rattle.session_script.specs.declared.refusal.Refusal.{Refusal}
use Rattle.session_script.specs.declared.parts.Header.{Header}
use Rattle.session_script.specs.declared.reader.act_word.ActWord.{ActWord}
use Rattle.session_script.specs.declared.reader.act_word.ActWord.TheVariants as words
use Rattle.session_script.specs.declared.act.Bodies.{Bodies}
use Rattle.session_script.specs.declared.act.Bodies.TheVariants as bodies
use Rattle.session_script.specs.Script.{Place, Entry}
use Rattle.session_script.specs.Tokens.{Tokens, begins, goes_on}
use Rattle.session_script.specs.Productions.{and_then, one, bounded, word, another, types, plug}
use Rattle.session_script.specs.Acts.{act_word_of, act_word, while_room, fields, bodies_of, BodyReader, branch, branches, bodies_after, entry, braced, body}
use Rattle.session_script.specs.WellFormed.{IsPlug, FitsAct, has_branch, IsForest}
use Rattle.session_script.proofs.HoldingLemmas.{Passes, Holds, Reads, weaker, done_reads, then_reads, one_reads, any_reads, if_reads, else_reads, repeated_reads, bounded_reads, declared_reads, optional_reads, another_reads, bytes_reads}
use Rattle.session_script.proofs.ForestLemmas.{Extends, extends_by_none, extends_both, extends_by_one, Stands, stands_later, forest_of_one_more, stands_in_branch}

types_reads : Reads (λ k. k ≤ 7) types
unfolding types
types_reads = weaker (λ k. (0 ≤ k) × (k ≤ 7)) (λ k. k ≤ 7) (λ k p. p.1) (bounded_reads 0 7)

plug_reads : (h : Header) → Reads (λ p. IsPlug h p.0 p.1) (plug h)
unfolding plug
plug_reads h =
    then_reads (optional_reads h.slots) (λ slot known.
    else_reads {P = λ p. IsPlug h p.0 p.1}
    (λ ts. is_none slot || nat_eq h.version 1 || not (begins (codes "only") ts)) (slot, 7) (known, omega arith)
    (then_reads (any_reads (word (codes "only")))
    (λ _ _. then_reads types_reads (λ k le. done_reads (known, le)))))

pub time_reads : (most : ℕ) → Reads (λ n. n ≤ most) (bounded 0 most)
time_reads most = weaker (λ n. (0 ≤ n) × (n ≤ most)) (λ n. n ≤ most) (λ n p. p.1) (bounded_reads 0 most)

fields_reads : (h : Header) (w : ActWord) → Reads (FitsAct h) (fields h w)
unfolding fields
fields_reads h words.Post = then_reads (optional_reads h.strands) (λ strand lane. done_reads lane)
fields_reads h words.Defer = then_reads (optional_reads h.strands) (λ strand lane. done_reads lane)
fields_reads h words.Dispatch = then_reads (optional_reads h.strands) (λ strand lane. done_reads lane)
fields_reads h words.Expires =
    then_reads (declared_reads h.timers) (λ n lt. then_reads (time_reads h.limits.time) (λ time le. done_reads (lt, le)))
fields_reads h words.ExpiresAt =
    then_reads (declared_reads h.timers) (λ n lt. then_reads (time_reads h.limits.time) (λ time le. done_reads (lt, le)))
fields_reads h words.Wait =
    then_reads (declared_reads h.timers) (λ n lt.
    then_reads (optional_reads h.strands)
    (λ strand lane. then_reads (plug_reads h) (λ plugged p. done_reads (lt, lane, p))))
fields_reads h words.Cancel = then_reads (declared_reads h.timers) (λ n lt. done_reads lt)
fields_reads h words.CancelOne = then_reads (declared_reads h.timers) (λ n lt. done_reads lt)
fields_reads h words.Emit =
    then_reads (declared_reads h.slots) (λ n lt. then_reads types_reads (λ k le. done_reads (lt, le)))
fields_reads h words.ReadSome =
    then_reads (declared_reads h.streams) (λ n lt.
    then_reads (bounded_reads 1 h.limits.size) (λ size is_size.
    then_reads (optional_reads h.strands)
    (λ strand lane. then_reads (plug_reads h) (λ plugged p. done_reads (lt, is_size, lane, p)))))
fields_reads h words.Read =
    then_reads (declared_reads h.streams) (λ n lt.
    then_reads (bounded_reads 1 h.limits.size) (λ size is_size.
    then_reads (optional_reads h.strands)
    (λ strand lane. then_reads (plug_reads h) (λ plugged p. done_reads (lt, is_size, lane, p)))))
fields_reads h words.Until =
    then_reads (declared_reads h.streams) (λ n lt.
    then_reads (bytes_reads h.limits.delimiter) (λ bs long.
    then_reads (bounded_reads 1 h.limits.size) (λ size is_size.
    then_reads (optional_reads h.strands)
    (λ strand lane. then_reads (plug_reads h) (λ plugged p. done_reads (lt, long, is_size, lane, p))))))
fields_reads h words.WriteSome =
    then_reads (declared_reads h.streams) (λ n lt.
    then_reads (bytes_reads h.limits.size) (λ bs long.
    then_reads (optional_reads h.strands)
    (λ strand lane. then_reads (plug_reads h) (λ plugged p. done_reads (lt, long, lane, p)))))
fields_reads h words.Write =
    then_reads (declared_reads h.streams) (λ n lt.
    then_reads (bytes_reads h.limits.size) (λ bs long.
    then_reads (optional_reads h.strands)
    (λ strand lane. then_reads (plug_reads h) (λ plugged p. done_reads (lt, long, lane, p)))))
fields_reads h words.Close = then_reads (declared_reads h.streams) (λ n lt. done_reads lt)
fields_reads h words.Release = then_reads (declared_reads h.guards) (λ n lt. done_reads lt)
fields_reads h words.Stop = done_reads tt

pub is_below : (a b : ℕ) → nat_le a b ≡ false → b < a
is_below a b h = grind (arith, nat_tests)

room_passes : (full : Bool) (bs : List ℕ) (found : Option ActWord) →
    Passes (λ w. full ≡ false) (while_room full bs found)
room_passes true bs (Some found) = tt
room_passes false bs (Some found) = refl
room_passes full bs None = tt

word_reads : (h : Header) (count : ℕ) →
    Reads (λ w. count < h.limits.acts) (one (act_word h.version (nat_le h.limits.acts count)))
unfolding act_word
word_reads h count =
    weaker (λ w. nat_le h.limits.acts count ≡ false) (λ w. count < h.limits.acts)
    (λ w free. is_below h.limits.acts count free) (one_reads (act_word h.version (nat_le h.limits.acts count))
    (λ bs. room_passes (nat_le h.limits.acts count) bs (act_word_of h.version bs)))

-- the acts so far are a forest, and they begin with others
pub record Grown (h : Header) (before acts : List Entry) : Type 0 where
  pub forest : IsForest h acts
  pub extends : Extends before acts

-- bodies with so many levels left append to a forest
abbrev pub GrowsAll : Header → BodyReader → ℕ → Type 0
GrowsAll h inner levels =
    (place : Place) (acts : List Entry) → IsForest h acts → Stands h.limits.nesting acts place levels →
    Reads (Grown h acts) (inner place acts)

grown_more : (h : Header) (before acts later : List Entry) → Extends before acts → Grown h acts later →
    Grown h before later
grown_more h before acts later more grown = record { forest = grown.forest; extends = extends_both more grown.extends }

module _ (h : Header) (inner : BodyReader) (levels : ℕ) (grows : GrowsAll h inner levels) where
  branch_reads : (text : List ℕ) (place : Place) (acts : List Entry) → IsForest h acts →
      Stands h.limits.nesting acts place levels → Reads (Grown h acts) (branch text inner place acts)
  unfolding branch
  branch_reads text place acts forest stands =
      if_reads {P = Grown h acts} (begins text) acts (record { forest = forest; extends = extends_by_none acts })
      (then_reads (any_reads (word text)) (λ _ _. grows place acts forest stands))

  branches_reads : (op : ℕ) (acts : List Entry) → IsForest h acts →
      ((branch : Class) → Stands h.limits.nesting acts (Some (op, branch)) levels) →
      Reads (Grown h acts) (branches inner op acts)
  unfolding branches
  branches_reads op acts forest stands =
      then_reads (grows (Some (op, class.Ok)) acts forest (stands class.Ok)) (λ after_ok first.
      then_reads (branch_reads (codes "abort") (Some (op, class.Abort)) after_ok first.forest (stands_later first.extends (stands class.Abort))) (λ after_abort second.
      let so_far = extends_both first.extends second.extends in
      weaker (Grown h after_abort) (Grown h acts) (λ later third. grown_more h acts after_abort later so_far third)
      (branch_reads (codes "other") (Some (op, class.Other)) after_abort second.forest (stands_later so_far (stands class.Other)))))

  after_reads : (op : ℕ) (which : Bodies) (acts : List Entry) → IsForest h acts →
      ((branch : Class) → has_branch which branch ≡ true → Stands h.limits.nesting acts (Some (op, branch)) levels) →
      Reads (Grown h acts) (bodies_after inner op which acts)
  after_reads op bodies.Nothing acts forest stands =
      done_reads (record { forest = forest; extends = extends_by_none acts })
  after_reads op bodies.Posting acts forest stands = grows (Some (op, class.Ok)) acts forest (stands class.Ok refl)
  after_reads op bodies.Operation acts forest stands = branches_reads op acts forest (λ branch. stands branch refl)

  entry_reads : (place : Place) (acts : List Entry) → IsForest h acts →
      Stands h.limits.nesting acts place (levels + 1) → Reads (Grown h acts) (entry h inner place acts)
  unfolding entry
  entry_reads place acts forest stands =
      then_reads (word_reads h (length acts)) (λ begun room.
      then_reads (fields_reads h begun) (λ made fits.
      let new : Entry = record { act = made; parent = place } in
      weaker (Grown h (acts ++ new ∷ [])) (Grown h acts)
      (λ later grown. grown_more h acts (acts ++ new ∷ []) later (extends_by_one acts new) grown)
      (after_reads (length acts) (bodies_of made) (acts ++ new ∷ []) (forest_of_one_more h acts new levels stands forest room fits) (stands_in_branch h acts new levels stands))))

  acts_reads : (place : Place) (acts : List Entry) → IsForest h acts → Stands h.limits.nesting acts place (levels + 1) →
      Reads (Grown h acts) (braced h false inner place acts)
  unfolding braced
  acts_reads place acts forest stands =
      then_reads (any_reads (another (codes "{") false)) (λ _ _.
      then_reads (repeated_reads (Grown h acts) (goes_on (codes "}")) (entry h inner place) (λ so_far grown. weaker (Grown h so_far) (Grown h acts) (λ later next. grown_more h acts so_far later grown.extends next) (entry_reads place so_far grown.forest (stands_later grown.extends stands))) acts (record { forest = forest; extends = extends_by_none acts })) (λ filled grown.
      then_reads (any_reads (word (codes "}"))) (λ _ _. done_reads grown)))

full_reads : {A : Type 0} (P : A → Type 0) (text : List ℕ) (f : Unit {0} → Tokens → Result (A × Tokens) Refusal)
    (ts : Tokens) → Holds P (and_then (another text true ts) f)
full_reads P text f ts =
    (then_reads {P = λ u. true ≡ false} {Q = P} {f = f} (another_reads text true)
    (λ u never. absurd (false≢true (sym never)))).holds ts

pub body_reads : (h : Header) (levels : ℕ) → GrowsAll h (body h levels) levels
unfolding body braced
body_reads h zero place acts forest stands = record { holds = λ ts. full_reads (Grown h acts) (codes "{") _ ts }
body_reads h (suc levels) place acts forest stands =
    acts_reads h (body h levels) levels (body_reads h levels) place acts forest
    (subst (λ k. Stands h.limits.nesting acts place k) (sym (add-one levels)) stands)
