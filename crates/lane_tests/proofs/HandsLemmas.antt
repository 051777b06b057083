-- What the hands of a whole rack hold, and what they leave in it.
use Rattle.std.proofs.Common.{◌≡◌, ℕ, ◌<◌, ◌≤◌, ◌==◌, List, Bool, true, false, Option, Some, None, IsSome, length, refl, sym, ap, subst, ◌∙◌, arith}
use Rattle.std.specs.Prelude.{All, slice_get}
use Rattle.std.specs.Option.{option_flatten}
use Rattle.std.proofs.lemmas.Bool.{and_parts, eq-eqb, eqb-true}
use Rattle.std.proofs.lemmas.Option.{slice_get-get_or}
use Rattle.asio_types.specs.declared.number.Lane.{Lane}
use Rattle.asio_types.specs.declared.number.Lane.TheVariants as lane
use Rattle.session_script.specs.Script.{ScriptModel, is_op, parent_of}
use Rattle.session_script.specs.Lanes.{lane_of}
use Rattle.session_script.specs.WellFormed.{HasParent}
use Rattle.strand_core.specs.Hands.{CallerIsGone, Held, IsInlineOf, in_list, is_op_of, is_of_lane, left_at, same_lane, taken_at}
use Rattle.lane_map.proofs.RankLemmas.{op_within}
use Rattle.strand_core.proofs.HandLemmas.{free_at, is_within}

pub of_within : (script : ScriptModel) (of : Option Lane) (n : ℕ) → is_op_of script of n ≡ true → n < length script.acts
of_within script (Some lane) n is =
    op_within script n (and_parts (is_op script n) (same_lane (lane_of script n) lane) is).0
of_within script None n is = op_within script n is

same_number : (m k l : ℕ) → (m == k) ≡ true → (m == l) ≡ true → (k == l) ≡ true
same_number m k l is_k is_l = eq-eqb k l (sym (eqb-true m k is_k) ∙ eqb-true m l is_l)

same_both : (x a b : Lane) → same_lane x a ≡ true → same_lane x b ≡ true → same_lane a b ≡ true
same_both (lane.Strand m) (lane.Strand k) (lane.Strand l) is_a is_b = same_number m k l is_a is_b
same_both (lane.Own m) (lane.Own k) (lane.Own l) is_a is_b = same_number m k l is_a is_b
same_both lane.Reactor lane.Reactor lane.Reactor is_a is_b = refl
same_both (lane.Strand m) (lane.Own k) b is_a is_b = absurd (cc is_a)
same_both (lane.Strand m) lane.Reactor b is_a is_b = absurd (cc is_a)
same_both (lane.Own m) (lane.Strand k) b is_a is_b = absurd (cc is_a)
same_both (lane.Own m) lane.Reactor b is_a is_b = absurd (cc is_a)
same_both lane.Reactor (lane.Strand k) b is_a is_b = absurd (cc is_a)
same_both lane.Reactor (lane.Own k) b is_a is_b = absurd (cc is_a)
same_both (lane.Strand m) (lane.Strand k) (lane.Own l) is_a is_b = absurd (cc is_b)
same_both (lane.Strand m) (lane.Strand k) lane.Reactor is_a is_b = absurd (cc is_b)
same_both (lane.Own m) (lane.Own k) (lane.Strand l) is_a is_b = absurd (cc is_b)
same_both (lane.Own m) (lane.Own k) lane.Reactor is_a is_b = absurd (cc is_b)
same_both lane.Reactor lane.Reactor (lane.Strand l) is_a is_b = absurd (cc is_b)
same_both lane.Reactor lane.Reactor (lane.Own l) is_a is_b = absurd (cc is_b)

-- an operation is of one lane
pub lanes_apart : (script : ScriptModel) (a b : Lane) (n : ℕ) → same_lane a b ≡ false → is_of_lane script b n ≡ true →
    is_of_lane script a n ≡ false
lanes_apart script a b n differ is_b = by (is_of_lane script a n) refl
  where
    by : (t : Bool) → is_of_lane script a n ≡ t → is_of_lane script a n ≡ false
    by false is_a = is_a
    by true is_a =
        let on_a : same_lane (lane_of script n) a ≡ true =
        (and_parts (is_op script n) (same_lane (lane_of script n) a) is_a).1 in
        let on_b : same_lane (lane_of script n) b ≡ true =
        (and_parts (is_op script n) (same_lane (lane_of script n) b) is_b).1 in
        absurd (cc (differ, same_both (lane_of script n) a b on_a on_b))

-- a rack from which nothing was taken has the handlers of every lane
pub whole_has : {H : Type 0} (script : ScriptModel) (of : Option Lane) (hs : List (Option H)) → All IsSome hs →
    length script.acts ≤ length hs → (n : ℕ) → is_op_of script of n ≡ true → IsSome (in_list hs n)
whole_has script of hs whole long n is =
    let within : n < length hs = omega (arith, long, of_within script of n is) in
    subst IsSome (sym (ap option_flatten (slice_get-get_or hs n None within))) (whole n None within)

-- where the handlers of a lane were taken, those of another are left
pub others_left : {H : Type 0} (script : ScriptModel) (a b : Lane) (all left : List (Option H)) →
    same_lane a b ≡ false → ((n : ℕ) → in_list left n ≡ left_at (is_of_lane script a n) (in_list all n)) →
    ((n : ℕ) → is_of_lane script b n ≡ true → IsSome (in_list all n)) → (n : ℕ) → is_of_lane script b n ≡ true →
    IsSome (in_list left n)
others_left script a b all left differ is_left there n is =
    subst IsSome (sym (is_left n ∙ ap (λ t. left_at t (in_list all n)) (lanes_apart script a b n differ is))) (there n is)

was_of_lane : {H : Type 0} (b : Bool) (handler : Option H) → IsSome (taken_at b handler) → b ≡ true
was_of_lane true handler some = refl
was_of_lane false handler some = absurd (cc some)

-- where the handlers of a lane were taken there is room for them
pub room_for_taken : {H : Type 0} (of_lane : ℕ → Bool) (all left hs : List (Option H)) → length left ≡ length all →
    ((n : ℕ) → in_list hs n ≡ taken_at (of_lane n) (in_list all n)) →
    ((n : ℕ) → in_list left n ≡ left_at (of_lane n) (in_list all n)) → (n : ℕ) → IsSome (in_list hs n) →
    slice_get left n ≡ Some None
room_for_taken of_lane all left hs size taken is_left n some =
    let is : of_lane n ≡ true = was_of_lane (of_lane n) (in_list all n) (subst IsSome (taken n) some) in
    let there : IsSome (in_list all n) = subst IsSome (taken n ∙ ap (λ t. taken_at t (in_list all n)) is) some in
    free_at left n (omega (arith, size, is_within all n there)) (is_left n ∙ ap (λ t. left_at t (in_list all n)) is)

-- nothing calls the first act
pub none_calls_first : {H : Type 0} (script : ScriptModel)
    (ordered : (n : ℕ) → HasParent script.acts n (parent_of script n)) (hands : Held H) → hands.script ≡ script →
    CallerIsGone hands 0
none_calls_first script ordered hands same caller inside =
    let called : IsInlineOf script caller 0 = subst (λ (s : ScriptModel). IsInlineOf s caller 0) same inside in
    let before : HasParent script.acts 0 (Some (caller, inside.0)) =
    subst (HasParent script.acts 0) called.1 (ordered 0) in
    absurd (omega (arith, before.0))
