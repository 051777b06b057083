-- The body of a handler as far as it was executed.
use Rattle.std.proofs.Common.{◌≡◌, ℕ, ◌+◌, ◌<◌, List, [], ◌∷◌, ◌++◌, false, length, take, get_or, refl, sym, ap, subst, ◌∙◌}
use Rattle.std.proofs.lemmas.List.{append_assoc, take_more}
use Rattle.asio_types.specs.declared.code.Code.{Code}
use Rattle.op_handlers.specs.Marks.{Marks}
use Rattle.session_script.specs.Script.{ScriptModel}
use Rattle.strand_core.specs.Answer.{HasMade}
use Rattle.strand_core.specs.Execution.{AreCalls}
use Rattle.strand_core.specs.Hands.{Held, held_at, begins_among, left_at, HasRunMark}
use Rattle.strand_core.specs.declared.posted.Posted.{Posted}
use Rattle.strand_core.specs.declared.posted.Posted.TheVariants as posted
use Rattle.strand_core.proofs.CallLemmas.{calls-append, begins-append, left_at-or}

-- one call that begins nothing
pub has_called : {H : Type 0} (hands : Held H) (call : Posted) (made more : List Posted) (T U : List Posted → Type 0) →
    ((n : ℕ) → begins_among n (call ∷ []) ≡ false) → more ≡ made ++ call ∷ [] →
    ((rest : List Posted) → T (call ∷ rest) → U rest) → HasMade (call ∷ []) hands hands made more T U
has_called hands call made more T U begins_none is rest =
    record {
      made = is;
      script = refl;
      spent = λ n. sym (ap (λ b. left_at b (held_at hands n)) (begins_none n));
      rest = rest;
    }

-- calls after calls
pub has_made_both : {H : Type 0} (xs ys : List Posted) (a b c : Held H) (m n o : List Posted)
    (T U V : List Posted → Type 0) → HasMade xs a b m n T U → HasMade ys b c n o U V → HasMade (xs ++ ys) a c m o T V
has_made_both xs ys a b c m n o T U V first second = record {
  made = second.made ∙ ap (λ made. made ++ ys) first.made ∙ append_assoc m xs ys;
  script = second.script ∙ first.script;
  spent = λ k.
      second.spent k ∙ ap (left_at (begins_among k ys)) (first.spent k)
      ∙ sym (ap (λ b. left_at b (held_at a k)) (begins-append k xs ys) ∙ left_at-or (begins_among k xs) (begins_among k ys) (held_at a k));
  rest = λ rest taken. second.rest rest (first.rest (ys ++ rest) (subst T (append_assoc xs ys rest) taken));
}

-- the body of a handler up to its i-th act
pub record BodyTo {H : Type 0} (script : ScriptModel) (marks : H → Marks) (op : ℕ) (code : Code) (size begun : ℕ)
    (branch : List ℕ) (i : ℕ) (old now : Held H) (old_made made : List Posted) (T U : List Posted → Type 0)
    : Type 0 where
  pub done : List Posted
  pub acts : AreCalls script (HasRunMark marks old) (take i branch) done
  pub did : HasMade (posted.Begin op code size begun ∷ done) old now old_made made T U

module _ {H : Type 0} (script : ScriptModel) (marks : H → Marks) (op : ℕ) (code : Code) (size begun : ℕ)
    (branch : List ℕ) (i : ℕ) where
  pub one_act_more : (act : ℕ) (calls : List Posted) (old now next : Held H) (old_made made more : List Posted)
      (T U V : List Posted → Type 0) → i < length branch → act ≡ get_or branch i 0 →
      AreCalls script (HasRunMark marks old) (act ∷ []) calls → HasMade calls now next made more U V →
      BodyTo script marks op code size begun branch i old now old_made made T U →
      BodyTo script marks op code size begun branch (i + 1) old next old_made more T V
  one_act_more act calls old now next old_made made more T U V less is acts did far = record {
    done = far.done ++ calls;
    acts =
        let all : AreCalls script (HasRunMark marks old) (take i branch ++ act ∷ []) (far.done ++ calls) =
        calls-append script (HasRunMark marks old) far.acts acts in
        let same : take (i + 1) branch ≡ take i branch ++ act ∷ [] =
        take_more branch i 0 less ∙ ap (λ a. take i branch ++ a ∷ []) (sym is) in
        subst (λ list. AreCalls script (HasRunMark marks old) list (far.done ++ calls)) (sym same) all;
    did =
        has_made_both (posted.Begin op code size begun ∷ far.done) calls old now next old_made made more T U V far.did did;
  }
