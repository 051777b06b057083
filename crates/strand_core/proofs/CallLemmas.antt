-- Calls one after another.
use Rattle.std.proofs.Common.{◌≡◌, ℕ, cond, List, [], ◌∷◌, ◌++◌, Bool, true, false, ◌||◌, Option, refl}
use Rattle.std.specs.Prelude.{◌==◌}
use Rattle.std.proofs.lemmas.List.{append_assoc}
use Rattle.asio_types.specs.declared.code.Code.TheVariants as code
use Rattle.op_handlers.specs.declared.call.Call.{Call}
use Rattle.session_script.specs.Script.{ScriptModel}
use Rattle.strand_core.specs.Execution.{AreCalls, no_act, outside, inside, execution_of}
use Rattle.strand_core.specs.Hands.{begins_among, left_at}
use Rattle.strand_core.specs.declared.posted.Posted.{Posted}
use Rattle.strand_core.specs.declared.posted.Posted.TheVariants as posted

module _ (script : ScriptModel) where
  -- marks that are known for another reason
  pub with_marks : (P Q : Call → ℕ → Type 0) → ((call : Call) (mark : ℕ) → P call mark → Q call mark) →
      {acts : List ℕ} {calls : List Posted} → AreCalls script P acts calls → AreCalls script Q acts calls
  with_marks P Q f no_act = no_act
  with_marks P Q f (outside is more) = outside is (with_marks P Q f more)
  with_marks P Q f (inside is marked body more) =
      inside is (f _ _ marked) (with_marks P Q f body) (with_marks P Q f more)

  -- acts after acts
  pub calls-append : (P : Call → ℕ → Type 0) {some more : List ℕ} {xs ys : List Posted} → AreCalls script P some xs →
      AreCalls script P more ys → AreCalls script P (some ++ more) (xs ++ ys)
  calls-append P no_act second = second
  calls-append P (outside is first) second = outside is (calls-append P first second)
  calls-append P (inside {act} {begun} {mark} {acts} {body} {calls} is marked inner first) second =
      rw (append_assoc (execution_of act code.Ok 0 begun mark body) (posted.Back act ∷ calls) _)
      (inside is marked inner (calls-append P first second))

either_way : (is all first second : Bool) → all ≡ (first || second) → cond is true all ≡ (cond is true first || second)
either_way true all first second same = refl
either_way false all first second same = same

-- what begins in one list after another
pub begins-append : (n : ℕ) (xs ys : List Posted) → begins_among n (xs ++ ys) ≡ (begins_among n xs || begins_among n ys)
begins-append n [] ys = refl
begins-append n (posted.Begin op code size begun ∷ xs) ys =
    either_way (op == n) (begins_among n (xs ++ ys)) (begins_among n xs) (begins_among n ys) (begins-append n xs ys)
begins-append n (posted.Call act ∷ xs) ys = begins-append n xs ys
begins-append n (posted.Back act ∷ xs) ys = begins-append n xs ys
begins-append n (posted.End op ran ∷ xs) ys = begins-append n xs ys

pub left_at-or : {H : Type 0} (a b : Bool) (o : Option H) → left_at (a || b) o ≡ left_at b (left_at a o)
left_at-or true true o = refl
left_at-or true false o = refl
left_at-or false b o = refl
