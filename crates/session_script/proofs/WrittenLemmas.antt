-- Words that are appended to a text.
use Rattle.std.proofs.Common.{◌≡◌, ℕ, zero, suc, ◌+◌, ◌-◌, ◌<◌, Bool, true, false, cond, List, [], ◌∷◌, ◌++◌, length, drop, get_or, refl, sym, ap, ◌∙◌, arith}
use Rattle.std.specs.List.{flat_map}
use Rattle.std.proofs.lemmas.List.{drop_more}
use lib.Chars.{codes}
use Rattle.session_script.specs.Script.{Place, Entry, ScriptModel, same_place, numbers_in}
use Rattle.session_script.specs.Text.{Words}
use Rattle.session_script.specs.Spelling.{written, entry_words, body_words}

pub written-append : (text : List ℕ) (ws vs : Words) → written text (ws ++ vs) ≡ written (written text ws) vs
written-append text [] vs = refl
written-append text (w ∷ ws) vs = written-append (text ++ 32 ∷ w) ws vs

-- one more of a list of things that are written
pub written_more : {A : Type 0} (f : A → Words) (xs : List A) (i : ℕ) (d : A) (text : List ℕ) → i < length xs →
    written text (flat_map f (drop i xs)) ≡ written (written text (f (get_or xs i d))) (flat_map f (drop (i + 1) xs))
written_more f xs i d text lt =
    ap (λ ys. written text (flat_map f ys)) (drop_more xs i d lt)
    ∙ written-append text (f (get_or xs i d)) (flat_map f (drop (i + 1) xs))

in_range_of : (b : Bool) (n m : ℕ) (rest : List ℕ) → ((k : ℕ) → k < length rest → get_or rest k 0 < m) → n < m →
    (k : ℕ) → k < length (cond b (n ∷ rest) rest) → get_or (cond b (n ∷ rest) rest) k 0 < m
in_range_of true n m rest below first zero lt = first
in_range_of true n m rest below first (suc k) lt = below k (omega arith)
in_range_of false n m rest below first k lt = below k lt

-- the acts of a place are acts
numbers_in_range : (place : Place) (n : ℕ) (acts : List Entry) (k : ℕ) → k < length (numbers_in place n acts) →
    get_or (numbers_in place n acts) k 0 < n + length acts
numbers_in_range place n [] k lt = absurd (omega arith)
numbers_in_range place n (entry ∷ acts) k lt =
    in_range_of (same_place place entry.parent) n (n + length (entry ∷ acts)) (numbers_in place (n + 1) acts)
    (λ j h. omega (arith, numbers_in_range place (n + 1) acts j h)) (omega arith) k lt

pub are_acts : (script : ScriptModel) (place : Place) (numbers : List ℕ) → numbers ≡ numbers_in place 0 script.acts →
    (i : ℕ) → i < length numbers → get_or numbers i 0 < length script.acts
are_acts script place numbers e i h = rw e (omega (arith, numbers_in_range place 0 script.acts i (rw e at h)))

pub body_written : (levels : ℕ) (script : ScriptModel) (acts text opened filled closed : List ℕ) → (levels ≡ 0 → ⊥) →
    opened ≡ text ++ 32 ∷ codes "{" →
    filled ≡ written opened (flat_map (entry_words (body_words (levels - 1) script) script) acts) →
    closed ≡ filled ++ 32 ∷ codes "}" → closed ≡ written text (body_words levels script acts)
body_written zero script acts text opened filled closed some is_opened is_filled is_closed = absurd (some refl)
body_written (suc levels) script acts text opened filled closed some is_opened is_filled is_closed =
    let less : suc levels - 1 ≡ levels = omega arith in
    let filled' : filled ≡ written opened (flat_map (entry_words (body_words levels script) script) acts) =
    rw less at is_filled in
    is_closed
    ∙ rw (filled', is_opened) (sym (written-append (text ++ 32 ∷ codes "{")
    (flat_map (entry_words (body_words levels script) script) acts) (codes "}" ∷ [])))

pub three_written : (text first second third : List ℕ) (a b c : Words) → first ≡ written text a →
    second ≡ written first b → third ≡ written second c → third ≡ written text (a ++ (b ++ c))
three_written text first second third a b c is_first is_second is_third =
    is_third ∙ rw (is_second, is_first) (sym (written-append text a (b ++ c) ∙ written-append (written text a) b c))

pub session_written : (text version : List ℕ) (t1 t2 t3 t4 t5 t6 : List ℕ) (declared lines body rounds : Words) →
    t1 ≡ text ++ 32 ∷ version → t2 ≡ written t1 declared → t3 ≡ written t2 lines → t4 ≡ t3 ++ 32 ∷ codes "open" →
    t5 ≡ written t4 body → t6 ≡ written t5 rounds →
    t6 ≡ written text (version ∷ (declared ++ (lines ++ codes "open" ∷ (body ++ rounds))))
session_written text version t1 t2 t3 t4 t5 t6 declared lines body rounds e1 e2 e3 e4 e5 e6 =
    e6
    ∙ rw (e5, e4, e3, e2, e1) (sym (written-append (text ++ 32 ∷ version) declared
    (lines ++ codes "open" ∷ (body ++ rounds))
    ∙ written-append (written (text ++ 32 ∷ version) declared) lines (codes "open" ∷ (body ++ rounds))
    ∙ written-append (written (written (text ++ 32 ∷ version) declared) lines ++ 32 ∷ codes "open") body rounds))
