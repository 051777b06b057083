-- Answers to what came, piece by piece and in one.
use Rattle.std.proofs.Common.{◌≡◌, ℕ, ◌+◌, ◌-◌, ◌<◌, ◌≤◌, true, false, List, [], ◌∷◌, ◌++◌, length, take, drop, refl, ap, sym, subst, ◌∙◌, append_assoc, append-nil, arith, flat_map}
use Rattle.std.proofs.lemmas.Bool.{false≢true, true≢false}
use Rattle.std.specs.Prelude.{Result, Ok, Err, OnOk}
use Rattle.std.proofs.Math.Seq.{take-append_seam, drop-append_seam}
use Rattle.std.proofs.lemmas.Grind.{flat_map-append}
use Rattle.std.proofs.lemmas.List.{take-append-le, take-append-drop, drop-append-le, length-append}
use Rattle.http_handlers.specs.declared.answer.Answer.{Answer}
use Rattle.http_handlers.specs.declared.answer.Status.TheVariants as status
use Rattle.http_handlers.specs.Answers.{number_of, printed, refused}
use Rattle.http_handlers.specs.Connections.{Gives, Left, Owes, Said, SaysOnce}
use Rattle.http_handlers.specs.Connections.Owes.{closes, goes, refuses, waits}
use Rattle.http_handlers.specs.Heads.{HasNoHead, IsHeadSize, most_head}
use Rattle.http_handlers.specs.Requests.{IsAnswer}
use Rattle.http_handlers.proofs.RequestsLemmas.{answer_once}
use Rattle.http_handlers.proofs.HeadsLemmas.{none_front, none_or_size, size_front, size_same}

-- ---- what one call gives

pub gives_none : (served : ℕ) (bytes old : List ℕ) → HasNoHead bytes → length bytes < most_head →
    Gives served bytes old old (record { kept = bytes; served = served; closed = false })
gives_none served bytes old none short = record {
  text = [];
  said = record { answers = []; owes = waits none short; text_is = refl };
  appended = sym (append-nil old);
}

pub gives_refusal : (served : ℕ) (bytes old new : List ℕ) → HasNoHead bytes → most_head ≤ length bytes →
    new ≡ old ++ printed (refused status.HeaderFieldsTooLarge) →
    Gives served bytes old new (record { kept = []; served = served; closed = true })
gives_refusal served bytes old new none long appended = record {
  text = printed (refused status.HeaderFieldsTooLarge);
  said = record {
    answers = refused status.HeaderFieldsTooLarge ∷ [];
    owes = refuses none long;
    text_is = sym (append-nil (printed (refused status.HeaderFieldsTooLarge)));
  };
  appended = appended;
}

pub gives_last : (served next : ℕ) (bytes old new : List ℕ) (size : ℕ) (answer : Answer) → IsHeadSize bytes size →
    IsAnswer served (take size bytes) answer → answer.keeps ≡ false → new ≡ old ++ printed answer →
    next ≡ number_of served → Gives served bytes old new (record { kept = []; served = next; closed = true })
gives_last served next bytes old new size answer is answers ends appended counted = record {
  text = printed answer;
  said = record {
    answers = answer ∷ [];
    owes = rw counted (closes size answer is answers ends);
    text_is = sym (append-nil (printed answer));
  };
  appended = appended;
}

pub gives_first : (served next : ℕ) (bytes old between new : List ℕ) (left : Left) (size : ℕ) (answer : Answer) →
    IsHeadSize bytes size → IsAnswer served (take size bytes) answer → answer.keeps ≡ true →
    between ≡ old ++ printed answer → next ≡ number_of served → Gives next (drop size bytes) between new left →
    Gives served bytes old new left
gives_first served next bytes old between new left size answer is answers keeps appended counted later = record {
  text = printed answer ++ later.text;
  said = record {
    answers = answer ∷ later.said.answers;
    owes = goes size answer is answers keeps
        (subst (λ n. Owes n (drop size bytes) later.said.answers left) counted later.said.owes);
    text_is = ap (λ xs. printed answer ++ xs) later.said.text_is;
  };
  appended = later.appended ∙ ap (λ xs. xs ++ later.text) appended ∙ append_assoc old (printed answer) later.text;
}

-- what is left stands at the end
pub left_behind : (served : ℕ) (bytes : List ℕ) (answers : List Answer) (left : Left) → Owes served bytes answers left →
    (front : List ℕ) × (bytes ≡ front ++ left.kept)
left_behind served bytes answers left (waits none short) = ([], refl)
left_behind served bytes answers left (refuses none long) = (bytes, sym (append-nil bytes))
left_behind served bytes answers left (closes size answer is by ends) = (bytes, sym (append-nil bytes))
left_behind served bytes answers left (goes size answer is by keeps later) =
    let rest = left_behind _ _ _ _ later in (
      take size bytes ++ rest.0,
      sym (take-append-drop size bytes) ∙ ap (λ xs. take size bytes ++ xs) rest.1
          ∙ sym (append_assoc (take size bytes) rest.0 left.kept),
    )

-- ---- pieces

pub owes_more : (served : ℕ) (a b : List ℕ) (x y : List Answer) (p q : Left) → Owes served a x p → p.closed ≡ false →
    Owes p.served (p.kept ++ b) y q → Owes served (a ++ b) (x ++ y) q
owes_more served a b x y p q (waits none short) kept later = later
owes_more served a b x y p q (refuses none long) kept later = absurd (true≢false kept)
owes_more served a b x y p q (closes size answer is by ends) kept later = absurd (true≢false kept)
owes_more served a b x y p q (goes size answer is by keeps rest) kept later =
    goes size answer (size_front a b size is)
    (subst (λ head. IsAnswer served head answer) (sym (take-append-le size a b is.within)) by) keeps
    (rw (drop-append-le size a b is.within)
    (owes_more (number_of served) (drop size a) b _ y p q rest kept later))

pub owes_over : (served : ℕ) (a b : List ℕ) (x : List Answer) (p : Left) → Owes served a x p → p.closed ≡ true →
    Owes served (a ++ b) x p
owes_over served a b x p (waits none short) over = absurd (false≢true over)
owes_over served a b x p (refuses none long) over =
    refuses (none_front a b none long) (omega (arith, long, length-append a b))
owes_over served a b x p (closes size answer is by ends) over =
    closes size answer (size_front a b size is)
    (subst (λ head. IsAnswer served head answer) (sym (take-append-le size a b is.within)) by) ends
owes_over served a b x p (goes size answer is by keeps rest) over =
    goes size answer (size_front a b size is)
    (subst (λ head. IsAnswer served head answer) (sym (take-append-le size a b is.within)) by) keeps
    (rw (drop-append-le size a b is.within)
    (owes_over (number_of served) (drop size a) b _ p rest over))

pub says_more : (came said bytes old new : List ℕ) (p q : Left) → Said 0 came said p → p.closed ≡ false →
    Gives p.served (p.kept ++ bytes) old new q → SaysOnce came said bytes old new q
says_more came said bytes old new p q so kept later = record {
  text = later.text;
  all = record {
    answers = so.answers ++ later.said.answers;
    owes = owes_more 0 came bytes so.answers later.said.answers p q so.owes kept later.said.owes;
    text_is = ap (λ xs. xs ++ later.text) so.text_is
        ∙ ap (λ xs. flat_map printed so.answers ++ xs) later.said.text_is
        ∙ sym (flat_map-append printed so.answers later.said.answers);
  };
  appended = later.appended;
}

pub says_over : (came said bytes old : List ℕ) (p : Left) → Said 0 came said p → p.closed ≡ true →
    SaysOnce came said bytes old old p
says_over came said bytes old p so over = record {
  text = [];
  all = record {
    answers = so.answers;
    owes = owes_over 0 came bytes so.answers p so.owes over;
    text_is = append-nil said ∙ so.text_is;
  };
  appended = sym (append-nil old);
}

-- ---- what is left in the buffer

kept_behind : (bytes front kept more : List ℕ) → bytes ≡ front ++ kept →
    take (length kept) (drop (length bytes - length kept) bytes ++ more) ≡ kept
kept_behind bytes front kept more is =
    let size : length bytes ≡ length front + length kept = ap length is ∙ length-append front kept in
    let over : length bytes - length kept ≡ length front = omega (arith, size) in
    let behind : drop (length bytes - length kept) bytes ≡ kept = rw (over, is) (drop-append_seam front kept) in
    rw behind (take-append_seam kept more)

pub behind_fits : (served : ℕ) (bytes old new : List ℕ) (left : Left) → Gives served bytes old new left →
    length left.kept ≤ length bytes
behind_fits served bytes old new left gives =
    let behind = left_behind served bytes gives.said.answers left gives.said.owes in
    omega (arith, ap length behind.1 ∙ length-append behind.0 left.kept)

pub gives_kept : (served : ℕ) (bytes old new kept more : List ℕ) (left : Left) → Gives served bytes old new left →
    kept ≡ take (length left.kept) (drop (length bytes - length left.kept) bytes ++ more) →
    Gives served bytes old new (record { kept = kept; served = left.served; closed = left.closed })
gives_kept served bytes old new kept more left gives is =
    let behind = left_behind served bytes gives.said.answers left gives.said.owes in
    let same : kept ≡ left.kept = is ∙ kept_behind bytes behind.0 left.kept more behind.1 in
    subst (λ bytes'. Gives served bytes old new (record { kept = bytes'; served = left.served; closed = left.closed }))
    (sym same) gives

pub gives_turned : (served : ℕ) (whole came items old new kept turned more : List ℕ) (all : ℕ) (left : Left) →
    Gives served whole old new left → whole ≡ items → whole ≡ came → all ≡ length whole → kept ≡ take (length left.kept) turned →
    turned ≡ drop (all - length left.kept) items ++ more →
    Gives served came old new (record { kept = kept; served = left.served; closed = left.closed })
gives_turned served whole came items old new kept turned more all left gives same all_came sized is turns =
    subst (λ bytes. Gives served bytes old new (record { kept = kept; served = left.served; closed = left.closed })) all_came
    (gives_kept served whole old new kept more left gives
    (is ∙ ap (take (length left.kept)) (turns ∙ rw (sized, ← same) refl)))

pub on_ok : {A E : Type 0} (result : Result A E) (P Q : Type 0) → (P → Q) → OnOk result P → OnOk result Q
on_ok (Ok value) P Q so h = so h
on_ok (Err error) P Q so h = tt

-- ---- one way alone

cons_same : (a b : Answer) (xs ys : List Answer) → a ≡ b → xs ≡ ys → a ∷ xs ≡ b ∷ ys
cons_same a b xs ys one others = rw (one, others) refl

pub owes_once : (served : ℕ) (bytes : List ℕ) (x y : List Answer) (p q : Left) → Owes served bytes x p →
    Owes served bytes y q → x ≡ y
owes_once served bytes x y p q (waits none short) (waits none' short') = refl
owes_once served bytes x y p q (waits none short) (refuses none' long) = absurd (omega (arith, short, long))
owes_once served bytes x y p q (waits none short) (closes size answer is by ends) =
    absurd (none_or_size bytes size none is)
owes_once served bytes x y p q (waits none short) (goes size answer is by keeps rest) =
    absurd (none_or_size bytes size none is)
owes_once served bytes x y p q (refuses none long) (waits none' short) = absurd (omega (arith, short, long))
owes_once served bytes x y p q (refuses none long) (refuses none' long') = refl
owes_once served bytes x y p q (refuses none long) (closes size answer is by ends) =
    absurd (none_or_size bytes size none is)
owes_once served bytes x y p q (refuses none long) (goes size answer is by keeps rest) =
    absurd (none_or_size bytes size none is)
owes_once served bytes x y p q (closes size answer is by ends) (waits none short) =
    absurd (none_or_size bytes size none is)
owes_once served bytes x y p q (closes size answer is by ends) (refuses none long) =
    absurd (none_or_size bytes size none is)
owes_once served bytes x y p q (closes size answer is by ends) (closes other answer' that by' ends') =
    let same = size_same bytes size other is that in
    ap (λ a. a ∷ []) (answer_once served (take size bytes) answer answer' by (rw same by'))
owes_once served bytes x y p q (closes size answer is by ends) (goes other answer' that by' keeps rest) =
    let same = size_same bytes size other is that in
    let one = answer_once served (take size bytes) answer answer' by (rw same by') in
    absurd (false≢true (sym ends ∙ ap (λ a. a.keeps) one ∙ keeps))
owes_once served bytes x y p q (goes size answer is by keeps rest) (waits none short) =
    absurd (none_or_size bytes size none is)
owes_once served bytes x y p q (goes size answer is by keeps rest) (refuses none long) =
    absurd (none_or_size bytes size none is)
owes_once served bytes x y p q (goes size answer is by keeps rest) (closes other answer' that by' ends) =
    let same = size_same bytes size other is that in
    let one = answer_once served (take size bytes) answer answer' by (rw same by') in
    absurd (false≢true (sym ends ∙ ap (λ a. a.keeps) (sym one) ∙ keeps))
owes_once served bytes x y p q (goes size answer is by keeps rest) (goes other answer' that by' keeps' rest') =
    let same = size_same bytes size other is that in
    let one = answer_once served (take size bytes) answer answer' by (rw same by') in
    let others = owes_once (number_of served) (drop size bytes) _ _ p q rest (rw same rest') in
    cons_same answer answer' _ _ one others

pub said_once : (came text other : List ℕ) (p q : Left) → Said 0 came text p → Said 0 came other q → text ≡ other
said_once came text other p q one two =
    one.text_is ∙ ap (flat_map printed) (owes_once 0 came one.answers two.answers p q one.owes two.owes) ∙ sym two.text_is
