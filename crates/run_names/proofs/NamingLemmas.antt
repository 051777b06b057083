-- The names of a text, line by line.
use Rattle.std.proofs.Common.{◌≡◌, ℕ, List, [], ◌∷◌, ◌++◌, Option, Some, None, refl, ap, sym, subst, ◌∙◌, ◌<◌, append_assoc, arith}
use Rattle.std.proofs.lemmas.Bool.{and_parts, cond_both, eqb-true, eq-eqb}
use Rattle.std.proofs.lemmas.List.Elements.{All-nil, All-push}
use Rattle.std.specs.Prelude.{◌⊎◌, ◌==◌, ◌&&◌, Bool, true, false, if◌then◌else◌, IfOk, Result, Ok, Err}
use Rattle.std.specs.List.{flat_map}
use Rattle.run_lines.specs.declared.name.Kind.{Kind}
use Rattle.run_lines.specs.declared.name.Kind.TheVariants as kind
use Rattle.run_lines.specs.declared.line.Line.{Line}
use Rattle.run_lines.specs.Entry.{IsEntryText, PlainEntry, line, name}
use Rattle.run_lines.specs.Run.{with_line_feed}
use Rattle.run_reader.specs.Buffer.{HasNoLineFeed}
use Rattle.run_reader.specs.Reader.{IsTooLong, TakesLine}
use Rattle.run_names.specs.declared.names.Names.{Names}
use Rattle.run_names.specs.Names.{name_at, same_kind}
use Rattle.run_names.specs.Reading.{AreNames, GivesNames, IsLastName, IsNaming, NamesNot}

kind_same : (one other : Kind) → same_kind one other ≡ true → one ≡ other
kind_same kind.Strand kind.Strand is = refl
kind_same kind.Thing kind.Thing is = refl
kind_same kind.Op kind.Op is = refl
kind_same kind.Thread kind.Thread is = refl
kind_same kind.Context kind.Context is = refl
kind_same kind.Lock kind.Lock is = refl
kind_same kind.Mark kind.Mark is = refl
kind_same _ _ is = cc

same_itself : (one : Kind) → same_kind one one ≡ true
same_itself kind.Strand = refl
same_itself kind.Thing = refl
same_itself kind.Op = refl
same_itself kind.Thread = refl
same_itself kind.Context = refl
same_itself kind.Lock = refl
same_itself kind.Mark = refl

-- a line that doesn't name it leaves its last name
last_still : (lines : List (List ℕ)) (bytes : List ℕ) (which : Kind) (number : ℕ) (answer : Option (List ℕ))
    → IsLastName lines which number answer → NamesNot which number bytes → IsLastName (lines ++ bytes ∷ []) which number answer
last_still lines bytes which number None was not = All-push (NamesNot which number) lines bytes was not
last_still lines bytes which number (Some text) (front, named, back, parted, is, others) not = (
  front,
  named,
  back ++ bytes ∷ [],
  ap (λ (all : List (List ℕ)). all ++ bytes ∷ []) parted ∙ append_assoc front (named ∷ back) (bytes ∷ []),
  is,
  All-push (NamesNot which number) back bytes others not,
)

-- a line that names nothing
pub unnamed_more : (lines : List (List ℕ)) (bytes : List ℕ) (names : Names)
    → ((which : Kind) (number : ℕ) → NamesNot which number bytes) → AreNames lines names → AreNames (lines ++ bytes ∷ []) names
unnamed_more lines bytes names not are = λ which number.
    last_still lines bytes which number (name_at names which number) (are which number) (not which number)

-- the bytes of a line of what happened name nothing
pub line_names_nothing : (bytes : List ℕ) (happened : Line) → ((entry : PlainEntry) → IsEntryText bytes entry → line happened ≡ entry)
    → (which : Kind) (number : ℕ) → NamesNot which number bytes
line_names_nothing bytes happened only which number = λ text is. apart text (only (name which number text) is)
  where
    apart : (text : List ℕ) → line happened ≡ name which number text → ⊥
    apart text e = cc

-- a line that gives a name
pub named_more : (lines : List (List ℕ)) (bytes : List ℕ) (old new : Names) (which : Kind) (number : ℕ) (text : List ℕ)
    → IsEntryText bytes (name which number text) → ((entry : PlainEntry) → IsEntryText bytes entry → name which number text ≡ entry)
    → ((other : Kind) (n : ℕ) → name_at new other n ≡ (if same_kind which other && number == n then Some text else name_at old other n))
    → AreNames lines old → AreNames (lines ++ bytes ∷ []) new
named_more lines bytes old new which number text is only puts are = λ other n.
    let P : Option (List ℕ) → Type 0 = λ answer. IsLastName (lines ++ bytes ∷ []) other n answer in
    subst P (sym (puts other n))
    (cond_both (same_kind which other && number == n) (Some text) (name_at old other n) P
    (λ here. (
      lines,
      bytes,
      [],
      refl,
      here_named other n (kind_same which other (and_parts (same_kind which other) (number == n) here).0)
          (eqb-true number n (and_parts (same_kind which other) (number == n) here).1),
      All-nil (NamesNot other n),
    ))
    (λ elsewhere. last_still lines bytes other n (name_at old other n) (are other n)
    (λ another named. clash (same_kind which other && number == n) elsewhere (matches other n another (only (name other n another) named)))))
  where
    here_named : (other : Kind) (n : ℕ) → which ≡ other → number ≡ n → IsEntryText bytes (name other n text)
    here_named other n kinds numbers =
        subst (λ (k : Kind). IsEntryText bytes (name k n text)) kinds
        (subst (λ (m : ℕ). IsEntryText bytes (name which m text)) numbers is)

    clash : (b : Bool) → b ≡ false → b ≡ true → ⊥
    clash true not is = cc
    clash false not is = cc

    matches : (other : Kind) (n : ℕ) (another : List ℕ) → name which number text ≡ name other n another
        → (same_kind which other && number == n) ≡ true
    matches other n another e =
        let kinds : which ≡ other = cc in
        let numbers : number ≡ n = cc in
        subst (λ (k : Kind). (same_kind which k && number == n) ≡ true) kinds
        (rw (same_itself which) (eq-eqb number n numbers))

-- reading

pub first_naming : (text held : List ℕ) (left : Option (List ℕ)) (names : Names) → held ≡ [] → left ≡ Some text
    → ((which : Kind) (number : ℕ) → name_at names which number ≡ None) → IsNaming text held left names
first_naming text held left names none tells new =
    subst (λ (l : Option (List ℕ)). IsNaming text held l names) (sym tells) (
      [],
      (ap (λ (h : List ℕ). h ++ text) (sym none), All-nil HasNoLineFeed),
      λ which number. subst (λ (answer : Option (List ℕ)). IsLastName [] which number answer) (sym (new which number))
          (All-nil (NamesNot which number)),
    )

texts_more : (lines : List (List ℕ)) (bytes rest : List ℕ)
    → flat_map with_line_feed (lines ++ bytes ∷ []) ++ rest ≡ flat_map with_line_feed lines ++ (bytes ++ 10 ∷ rest)
texts_more [] bytes rest =
    append_assoc (bytes ++ 10 ∷ []) [] rest ∙ append_assoc bytes (10 ∷ []) rest
texts_more (first ∷ lines) bytes rest =
    append_assoc (with_line_feed first) (flat_map with_line_feed (lines ++ bytes ∷ [])) rest
    ∙ ap (λ (behind : List ℕ). with_line_feed first ++ behind) (texts_more lines bytes rest)
    ∙ sym (append_assoc (with_line_feed first) (flat_map with_line_feed lines) (bytes ++ 10 ∷ rest))

pub naming_more : (text held : List ℕ) (left : Option (List ℕ)) (bytes held_after : List ℕ) (left_after : Option (List ℕ))
    (old new : Names) → TakesLine held left bytes held_after left_after → HasNoLineFeed bytes
    → ((lines : List (List ℕ)) → AreNames lines old → AreNames (lines ++ bytes ∷ []) new) → IsNaming text held left old
    → IsNaming text held_after left_after new
naming_more text held None bytes held_after left_after old new takes whole more was = absurd was
naming_more text held (Some left) bytes held_after None old new takes whole more was = absurd takes
naming_more text held (Some left) bytes held_after (Some left_after) old new takes whole more (lines, parted, are) = (
  lines ++ bytes ∷ [],
  (
    parted.0 ∙ ap (λ (rest : List ℕ). flat_map with_line_feed lines ++ rest) takes
        ∙ sym (texts_more lines bytes (held_after ++ left_after)),
    All-push HasNoLineFeed lines bytes parted.1 whole,
  ),
  more lines are,
)

pub naming_ends : (text held : List ℕ) (left : Option (List ℕ)) (names : Names)
    → ((rest : List ℕ) → left ≡ Some rest → HasNoLineFeed (held ++ rest) ⊎ IsTooLong (held ++ rest))
    → IsNaming text held left names → GivesNames text names
naming_ends text held None names ends was = absurd was
naming_ends text held (Some rest) names ends (lines, parted, are) = (lines, held ++ rest, parted, are, ends rest refl)

pub nothing_left : (bytes : List ℕ) → bytes ≡ [] → HasNoLineFeed bytes
nothing_left bytes none = subst HasNoLineFeed (sym none) (λ k less. absurd (no_less k less))
  where
    no_less : (k : ℕ) → k < 0 → ⊥
    no_less k less = omega arith

pub if_ok : {T E : Type 0} (result : Result T E) (P Q : Type 0) → IfOk result (λ (value : T). P) → (P → Q)
    → IfOk result (λ (value : T). Q)
if_ok (Ok value) P Q holds follows = follows holds
if_ok (Err error) P Q holds follows = tt
