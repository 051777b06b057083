-- The handlers of all operations, moved to the racks of their lanes.
use Rattle.std.proofs.Common.{◌≡◌, ◌≢◌, ℕ, ◌+◌, ◌<◌, ◌≤◌, ◌==◌, ◌++◌, List, [], ◌∷◌, Bool, true, false, inl, inr, Option, Some, None, length, drop, get_or, set, map, replicate, refl, sym, ap, subst, ◌∙◌, arith}
use Rattle.std.specs.Prelude.{IfSome, slice_get, slice_set}
use Rattle.std.specs.List.{range_with_len}
use Rattle.std.proofs.lemmas.Bool.{cases_lt, eq-eqb, eqb-true}
use Rattle.std.proofs.lemmas.Option.{slice_get-get_or, slice_get_past}
use Rattle.op_handlers.specs.Rack.{handlers_in}
use Rattle.op_handlers.specs.declared.rack.Rack.{Rack}
use Rattle.std.proofs.lemmas.List.{drop_more, get_or-map, get_or-set_other, get_or-set_same, length-map, length-replicate, length-set}
use Rattle.std.proofs.lemmas.List.FromFn.{get_or-map-range_with_len, length-map-range_with_len, map-range_with_len_more}
use Rattle.asio_types.specs.declared.number.Lane.{Lane}
use Rattle.session_script.specs.Script.{ScriptModel, is_op}
use Rattle.lane_map.specs.LaneNumbers.{home_lane, is_op_on, lane_list, operations_on, passing_before, rank_of}
use Rattle.lane_map.proofs.RankLemmas.{op_within}
use Rattle.strand_core.specs.Hands.{Held, in_list, is_op_of, taken_at}
use Rattle.strand_core.specs.Placing.{spread}
use Rattle.strand_core.proofs.HandLemmas.{free_at, same_or_not}
use Rattle.strand_core.proofs.MovingLemmas.{HeldTo, LeftTo, none_in, held_passed, held_taken, left_passed, left_taken}
use Rattle.strand_core.proofs.SpreadLemmas.{in_spread, in_spread_here, length-spread, place_within, set-spread, taken_nothing}

-- the handlers of the operations below number a are in the racks of their lanes
pub record FilledTo {H : Type 0} (script : ScriptModel) (lanes a : ℕ) (all from : List (Option H))
    (racks : List (List (Option H))) : Type 0 where
  pub size : length racks ≡ lanes
  pub sizes : (k : ℕ) → k < lanes → length (get_or racks k []) ≡ operations_on script k
  pub held : (k : ℕ) → k < lanes →
      HeldTo (is_op_on script k) a all (spread (is_op_on script k) (length script.acts) (get_or racks k []))
  pub left : LeftTo (is_op script) a all from

-- a list that a function makes, element by element
pub made_length : {X : Type 0} (f : ℕ → X) (xs : List X) (n : ℕ) → xs ≡ map f (range_with_len 0 n) → length xs ≡ n
made_length f xs n is = ap length is ∙ length-map-range_with_len f 0 n

pub made_more : {X : Type 0} (f : ℕ → X) (xs : List X) (x : X) (n : ℕ) → xs ≡ map f (range_with_len 0 n) → x ≡ f n →
    xs ++ x ∷ [] ≡ map f (range_with_len 0 (n + 1))
made_more f xs x n is same =
    ap (λ ys. ys ++ x ∷ []) is ∙ ap (λ y. map f (range_with_len 0 n) ++ y ∷ []) same
    ∙ sym (map-range_with_len_more f 0 n n (omega arith))

rows_more : {H : Type 0} (racks : List (Rack H)) (rack : Rack H) →
    map handlers_in (racks ++ rack ∷ []) ≡ map handlers_in racks ++ handlers_in rack ∷ []
rows_more [] rack = refl
rows_more (r ∷ racks) rack = ap (λ rows. handlers_in r ∷ rows) (rows_more racks rack)

pub racks_made : {H : Type 0} (f : ℕ → List (Option H)) (racks : List (Rack H)) (n : ℕ) →
    map handlers_in racks ≡ map f (range_with_len 0 n) → length racks ≡ n
racks_made f racks n is = sym (length-map racks handlers_in) ∙ made_length f (map handlers_in racks) n is

pub racks_more : {H : Type 0} (f : ℕ → List (Option H)) (racks : List (Rack H)) (rack : Rack H) (n : ℕ) →
    map handlers_in racks ≡ map f (range_with_len 0 n) → handlers_in rack ≡ f n →
    map handlers_in (racks ++ rack ∷ []) ≡ map f (range_with_len 0 (n + 1))
racks_more f racks rack n is same =
    rows_more racks rack ∙ made_more f (map handlers_in racks) (handlers_in rack) n is same

-- the rack that comes next, and those after it
pub next_row : {X : Type 0} (rows : List X) (k : ℕ) (row d : X) (later : List X) → k < length rows →
    row ∷ later ≡ drop k rows → (row ≡ get_or rows k d) × (later ≡ drop (k + 1) rows)
next_row rows k row d later less is =
    let same : row ∷ later ≡ get_or rows k d ∷ drop (k + 1) rows = is ∙ drop_more rows k d less in (cc same, cc same)

-- the handlers of a lane, by the racks of all
abbrev pub lane_held : {H : Type 0} → ScriptModel → List (List (Option H)) → ℕ → Held H
lane_held script rows lane = record {
  script = script;
  handlers = spread (is_op_on script lane) (length script.acts) (get_or rows lane []);
}

-- of a list that a function makes, what holds of its elements
pub if_at : {X : Type 0} (f : ℕ → X) (count k : ℕ) (P : X → Type 0) → (k < count → P (f k)) →
    IfSome (slice_get (map f (range_with_len 0 count)) k) P
if_at f count k P holds = elim (cases_lt k count) [
  | inl less ↦
      subst (λ o. IfSome o P)
      (sym (slice_get-get_or (map f (range_with_len 0 count)) k (f k)
      (omega (arith, less, length-map-range_with_len f 0 count))
      ∙ ap Some (get_or-map-range_with_len f 0 count k k (f k) less (omega arith)))) (holds less)
  | inr past ↦
      subst (λ o. IfSome o P)
      (sym (slice_get_past (map f (range_with_len 0 count)) k (omega (arith, past, length-map-range_with_len f 0 count)))) tt
]

pub row_at : {H : Type 0} (racks : List (Rack H)) (k : ℕ) (rack : Rack H) → k < length racks →
    rack ≡ get_or racks k rack → handlers_in rack ≡ get_or (map handlers_in racks) k []
row_at racks k rack less is = ap handlers_in is ∙ sym (get_or-map handlers_in racks k rack [] less)

false_unless : (b : Bool) → (b ≡ true → ⊥) → b ≡ false
false_unless true isnt = absurd (isnt refl)
false_unless false isnt = refl

module _ {H : Type 0} (script : ScriptModel) (all : List (Option H)) where
  -- nothing is moved yet
  pub none_moved : (lanes : ℕ) (racks : List (List (Option H))) →
      racks ≡ map (λ lane. replicate (operations_on script lane) None) (range_with_len 0 lanes) →
      FilledTo script lanes 0 all all racks
  none_moved lanes racks are =
      let row : (k : ℕ) → k < lanes → get_or racks k [] ≡ replicate (operations_on script k) None =
      λ k less.
      ap (λ xs. get_or xs k []) are
      ∙ get_or-map-range_with_len (λ lane. replicate (operations_on script lane) None) 0 lanes k k [] less (omega arith) in
      let sizes : (k : ℕ) → k < lanes → length (get_or racks k []) ≡ operations_on script k =
      λ k less. ap length (row k less) ∙ length-replicate {A = Option H} (operations_on script k) None in
      record {
        size = ap length are ∙ length-map-range_with_len (λ lane. replicate (operations_on script lane) None) 0 lanes;
        sizes = sizes;
        held = λ k less. record {
          taken = λ n before. absurd (omega (arith, before));
          free = λ n more.
              in_spread (is_op_on script k) (length script.acts) (get_or racks k []) (sizes k less) n
              ∙ ap (λ xs. taken_at (is_op_on script k n) (in_list xs (passing_before (is_op_on script k) n))) (row k less)
              ∙ ap (taken_at (is_op_on script k n))
              (none_in (operations_on script k) (passing_before (is_op_on script k) n))
              ∙ taken_nothing (is_op_on script k n);
        };
        left = record {
          left = λ n before. absurd (omega (arith, before));
          later = λ n more. refl;
          count = refl;
        };
      }

  module _ (seen : ScriptModel) (same : seen ≡ script) (lanes : ℕ) (racks : List (List (Option H)))
      (is : lanes ≡ length racks)
      (are : racks ≡ map (λ lane. replicate (operations_on seen lane) None) (range_with_len 0 (length (lane_list seen))))
    where
      all_are : racks ≡ map (λ lane. replicate (operations_on script lane) None) (range_with_len 0 (length (lane_list script)))
      all_are =
          subst
          (λ (s : ScriptModel).
          racks ≡ map (λ lane. replicate (operations_on s lane) None) (range_with_len 0 (length (lane_list s)))) same are

      pub lanes_are : lanes ≡ length (lane_list script)
      lanes_are =
          is ∙ ap length all_are
          ∙ length-map-range_with_len {X = List (Option H)} (λ lane. replicate (operations_on script lane) None) 0
          (length (lane_list script))

      pub none_moved_yet : FilledTo script lanes 0 all all racks
      none_moved_yet =
          none_moved lanes racks
          (subst (λ m. racks ≡ map (λ lane. replicate (operations_on script lane) None) (range_with_len 0 m))
          (sym lanes_are) all_are)

  -- no act comes after the last
  pub no_op_past : (n : ℕ) → length script.acts ≤ n → is_op script n ≡ false
  no_op_past n past =
      false_unless (is_op script n) (λ is. absurd (omega (arith, past, op_within script n is)))

  pub none_of_past : (of : Option Lane) (n : ℕ) → length script.acts ≤ n → is_op_of script of n ≡ false
  none_of_past (Some lane) n past = rw (no_op_past n past) refl
  none_of_past None n past = no_op_past n past

  pub none_on_past : (k n : ℕ) → length script.acts ≤ n → is_op_on script k n ≡ false
  none_on_past k n past = rw (no_op_past n past) refl

  module _ (lanes a : ℕ) (from : List (Option H)) (racks : List (List (Option H)))
      (far : FilledTo script lanes a all from racks) where
    pub act_passed : is_op script a ≡ false → FilledTo script lanes (a + 1) all from racks
    act_passed isnt = record {
      size = far.size;
      sizes = far.sizes;
      held = λ k less.
          held_passed (is_op_on script k) a all (spread (is_op_on script k) (length script.acts) (get_or racks k []))
          (far.held k less) (rw isnt refl);
      left = left_passed (is_op script) a all from far.left isnt;
    }

    module _ (is : is_op script a ≡ true) (within : a < length script.acts) (less : home_lane script a < lanes) where
      on_home : is_op_on script (home_lane script a) a ≡ true
      on_home = rw (is, eq-eqb (home_lane script a) (home_lane script a) refl) refl

      -- its place is free
      pub rank_free : slice_get (get_or racks (home_lane script a) []) (rank_of script a) ≡ Some None
      rank_free =
          free_at (get_or racks (home_lane script a) []) (rank_of script a)
          (place_within (is_op_on script (home_lane script a)) (length script.acts) (get_or racks (home_lane script a) [])
          (far.sizes (home_lane script a) less) a on_home within)
          (sym (in_spread_here (is_op_on script (home_lane script a)) (length script.acts)
          (get_or racks (home_lane script a) []) (far.sizes (home_lane script a) less) a on_home)
          ∙ (far.held (home_lane script a) less).free a (omega arith))

      module _ (row : List (Option H)) (row_is : row ≡ slice_set (get_or racks (home_lane script a) []) (rank_of script a)
          (in_list from a)) where
        here : get_or (set racks (home_lane script a) row) (home_lane script a) [] ≡ row
        here = get_or-set_same racks (home_lane script a) row [] (omega (arith, less, far.size))

        there : (k : ℕ) → home_lane script a ≢ k →
            get_or (set racks (home_lane script a) row) k [] ≡ get_or racks k []
        there k differ = get_or-set_other racks (home_lane script a) k row [] (λ same. differ (sym same))

        else_lane : (k : ℕ) → home_lane script a ≢ k → (b : Bool) → (home_lane script a == k) ≡ b →
            is_op_on script k a ≡ false
        else_lane k differ true same = absurd (differ (eqb-true (home_lane script a) k same))
        else_lane k differ false other = rw (is, other) refl

        row_held : HeldTo (is_op_on script (home_lane script a)) (a + 1) all
            (spread (is_op_on script (home_lane script a)) (length script.acts) row)
        row_held =
            subst (HeldTo (is_op_on script (home_lane script a)) (a + 1) all)
            (set-spread (is_op_on script (home_lane script a)) (length script.acts)
            (get_or racks (home_lane script a) []) (far.sizes (home_lane script a) less) a (in_list from a) on_home within
            ∙ ap (spread (is_op_on script (home_lane script a)) (length script.acts)) (sym row_is))
            (held_taken (is_op_on script (home_lane script a)) a all
            (spread (is_op_on script (home_lane script a)) (length script.acts) (get_or racks (home_lane script a) []))
            (far.held (home_lane script a) less) (in_list from a) on_home
            (omega (
              arith,
              within,
              length-spread (is_op_on script (home_lane script a)) (length script.acts) (get_or racks (home_lane script a) []),
            )) (far.left.later a (omega arith)))

        row_size : length row ≡ operations_on script (home_lane script a)
        row_size =
            ap length row_is
            ∙ length-set (get_or racks (home_lane script a) []) (rank_of script a) (in_list from a)
            ∙ far.sizes (home_lane script a) less

        -- it is moved there
        pub act_moved : FilledTo script lanes (a + 1) all (slice_set from a None) (set racks (home_lane script a) row)
        act_moved = record {
          size = length-set racks (home_lane script a) row ∙ far.size;
          sizes = λ k within_k. elim (same_or_not (home_lane script a) k) [
            | inl same ↦
                subst
                (λ m. length (get_or (set racks (home_lane script a) row) m []) ≡ operations_on script m) same
                (ap length here ∙ row_size)
            | inr differ ↦ ap length (there k differ) ∙ far.sizes k within_k
          ];
          held = λ k within_k. elim (same_or_not (home_lane script a) k) [
            | inl same ↦
                subst
                (λ m.
                HeldTo (is_op_on script m) (a + 1) all
                (spread (is_op_on script m) (length script.acts) (get_or (set racks (home_lane script a) row) m [])))
                same
                (subst
                (λ xs.
                HeldTo (is_op_on script (home_lane script a)) (a + 1) all
                (spread (is_op_on script (home_lane script a)) (length script.acts) xs)) (sym here) row_held)
            | inr differ ↦
                subst
                (λ xs.
                HeldTo (is_op_on script k) (a + 1) all (spread (is_op_on script k) (length script.acts) xs))
                (sym (there k differ))
                (held_passed (is_op_on script k) a all
                (spread (is_op_on script k) (length script.acts) (get_or racks k [])) (far.held k within_k)
                (else_lane k differ (home_lane script a == k) refl))
          ];
          left = left_taken (is_op script) a all from far.left is;
        }
