-- Handlers one behind the other, and what is seen of them at their numbers.
use Rattle.std.proofs.Common.{◌≡◌, ◌≢◌, ℕ, zero, suc, ◌+◌, ◌<◌, ◌≤◌, List, Bool, true, false, inl, inr, Option, Some, None, length, get_or, take, refl, sym, ap, subst, ◌∙◌, arith}
use Rattle.std.specs.Prelude.{slice_set, if◌then◌else◌}
use Rattle.std.specs.List.{sum_by}
use Rattle.std.proofs.lemmas.Bool.{cases_lt}
use Rattle.std.proofs.lemmas.List.{get_or-set_other, get_or-set_same, length-set, take_all}
use Rattle.std.proofs.lemmas.List.FromFn.{fill_by_all, get_or-map-range_with_len, length-map-range_with_len, sum_by-map-range_with_len_more}
use Rattle.std.proofs.lemmas.List.Sums.{sum_by_more}
use Rattle.lane_map.specs.LaneNumbers.{passing_before}
use Rattle.lane_map.proofs.CountLemmas.{passing_all, passing_by, passing_here, passing_le, passing_less}
use Rattle.op_handlers.specs.Marks.{Marks, drop_mark_of}
use Rattle.op_handlers.specs.Rack.{drop_marks}
use Rattle.strand_core.specs.Hands.{in_list, taken_at}
use Rattle.strand_core.specs.Placing.{has_place, place_of, spread}
use Rattle.strand_core.specs.declared.placing.Placing.{Placing}
use Rattle.strand_core.specs.declared.placing.Placing.TheVariants as by
use Rattle.session_script.specs.Script.{ScriptModel}
use Rattle.strand_core.proofs.HandLemmas.{in_list-get_or, none_past, same_or_not, taken_none}

-- a place is that of a number that has one
pub was_placed : (b : Bool) (p place : ℕ) → (if b then Some p else None) ≡ Some place → (b ≡ true) × (p ≡ place)
was_placed true p place is = (refl, cc is)
was_placed false p place is = absurd (cc is)

pub had_none : (b : Bool) (p : ℕ) → (if b then Some p else None) ≡ None → b ≡ false
had_none true p is = absurd (cc is)
had_none false p is = refl

pub taken_nothing : {H : Type 0} (b : Bool) → taken_at {H = H} b None ≡ None
taken_nothing true = refl
taken_nothing false = refl

module _ {H : Type 0} (test : ℕ → Bool) (count : ℕ) where
  pub length-spread : (packed : List (Option H)) → length (spread test count packed) ≡ count
  length-spread packed =
      length-map-range_with_len (λ m. taken_at (test m) (in_list packed (passing_before test m))) 0 count

  module _ (packed : List (Option H)) (size : length packed ≡ passing_before test count) where
    pub in_spread : (n : ℕ) →
        in_list (spread test count packed) n ≡ taken_at (test n) (in_list packed (passing_before test n))
    in_spread n = elim (cases_lt n count) [
      | inl less ↦
          in_list-get_or (spread test count packed) n
          ∙ get_or-map-range_with_len (λ m. taken_at (test m) (in_list packed (passing_before test m))) 0 count n n None
          less (omega arith)
      | inr past ↦
          let none : in_list packed (passing_before test n) ≡ None =
          none_past packed (passing_before test n) (omega (arith, size, passing_le test count n past)) in
          none_past (spread test count packed) n
          (omega (arith, past, length-map-range_with_len (λ m. taken_at (test m) (in_list packed (passing_before test m))) 0 count))
          ∙ sym (taken_nothing (test n)) ∙ sym (ap (taken_at (test n)) none)
    ]

    pub in_spread_here : (n : ℕ) → test n ≡ true →
        in_list (spread test count packed) n ≡ in_list packed (passing_before test n)
    in_spread_here n is = in_spread n ∙ ap (λ b. taken_at b (in_list packed (passing_before test n))) is

    pub in_spread_else : (n : ℕ) → test n ≡ false → in_list (spread test count packed) n ≡ None
    in_spread_else n isnt = in_spread n ∙ ap (λ b. taken_at b (in_list packed (passing_before test n))) isnt

    pub place_within : (n : ℕ) → test n ≡ true → n < count → passing_before test n < length packed
    place_within n is less = omega (arith, size, passing_less test n count less is)

    -- one is changed at its place
    module _ (n : ℕ) (h : Option H) (is : test n ≡ true) (less : n < count) where
      apart : (k : ℕ) → n ≢ k → test k ≡ true → passing_before test n ≢ passing_before test k
      apart k differ is_k same = elim (cases_lt n k) [
        | inl before ↦ absurd (omega (arith, same, passing_less test n k before is))
        | inr after ↦
            elim (cases_lt k n) [
              | inl later ↦ absurd (omega (arith, same, passing_less test k n later is_k))
              | inr equal ↦ differ (omega (arith, after, equal))
            ]
      ]

      other : (k : ℕ) → n ≢ k → (b : Bool) → test k ≡ b →
          taken_at b (in_list packed (passing_before test k))
          ≡ taken_at b (in_list (slice_set packed (passing_before test n) h) (passing_before test k))
      other k differ false isnt = refl
      other k differ true is_k =
          in_list-get_or packed (passing_before test k)
          ∙ sym (get_or-set_other packed (passing_before test n) (passing_before test k) h None
          (λ same. apart k differ is_k (sym same)))
          ∙ sym (in_list-get_or (slice_set packed (passing_before test n) h) (passing_before test k))

      seen : (k : ℕ) → k < count →
          get_or (slice_set (spread test count packed) n h) k None
          ≡ taken_at (test k) (in_list (slice_set packed (passing_before test n) h) (passing_before test k))
      seen k within = elim (same_or_not n k) [
        | inl same ↦
            subst
            (λ m.
            get_or (slice_set (spread test count packed) n h) m None
            ≡ taken_at (test m) (in_list (slice_set packed (passing_before test n) h) (passing_before test m))) same
            (get_or-set_same (spread test count packed) n h None
            (omega (arith, less, length-map-range_with_len (λ m. taken_at (test m) (in_list packed (passing_before test m))) 0 count))
            ∙ sym (ap (λ b. taken_at b (in_list (slice_set packed (passing_before test n) h) (passing_before test n))) is
            ∙ in_list-get_or (slice_set packed (passing_before test n) h) (passing_before test n)
            ∙ get_or-set_same packed (passing_before test n) h None (place_within n is less)))
        | inr differ ↦
            get_or-set_other (spread test count packed) n k h None (λ same. differ (sym same))
            ∙ get_or-map-range_with_len (λ m. taken_at (test m) (in_list packed (passing_before test m))) 0 count k k None
            within (omega arith)
            ∙ other k differ (test k) refl
      ]

      pub set-spread : slice_set (spread test count packed) n h
          ≡ spread test count (slice_set packed (passing_before test n) h)
      set-spread =
          fill_by_all
          (λ k. taken_at (test k) (in_list (slice_set packed (passing_before test n) h) (passing_before test k)))
          (slice_set (spread test count packed) n h) count None
          (length-set (spread test count packed) n h
          ∙ length-map-range_with_len (λ m. taken_at (test m) (in_list packed (passing_before test m))) 0 count) seen

    -- one is taken at its place, wherever that is
    pub take-spread : (n : ℕ) → test n ≡ true →
        slice_set (spread test count packed) n None ≡ spread test count (slice_set packed (passing_before test n) None)
    take-spread n is = elim (cases_lt n count) [
      | inl less ↦ set-spread n None is less
      | inr past ↦
          let none : in_list packed (passing_before test n) ≡ None =
          none_past packed (passing_before test n) (omega (arith, size, passing_le test count n past)) in
          taken_none (spread test count packed) n (in_spread_here n is ∙ none)
          ∙ ap (spread test count) (sym (taken_none packed (passing_before test n) none))
    ]

  -- those seen have the drop marks of all that there are
  module _ (marks : H → Marks) (packed : List (Option H)) where
    one_seen : (n : ℕ) →
        drop_marks marks (spread test (suc n) packed)
        ≡ drop_marks marks (spread test n packed)
        + drop_mark_of marks (taken_at (test n) (in_list packed (passing_before test n)))
    one_seen n =
        let e : suc n ≡ n + 1 = omega arith in
        ap (λ m. drop_marks marks (spread test m packed)) e
        ∙ sum_by-map-range_with_len_more (drop_mark_of marks)
        (λ m. taken_at (test m) (in_list packed (passing_before test m))) 0 n n (omega arith)

    longer : (n : ℕ) → passing_before test (suc n) ≡ passing_before test (n + 1)
    longer n = let e : suc n ≡ n + 1 = omega arith in ap (passing_before test) e

    one_more : (n : ℕ) → passing_before test (suc n) ≤ length packed →
        drop_marks marks (spread test n packed)
        ≡ sum_by (drop_mark_of marks) (take (passing_before test n) packed) → (b : Bool) → test n ≡ b →
        drop_marks marks (spread test (suc n) packed)
        ≡ sum_by (drop_mark_of marks) (take (passing_before test (suc n)) packed)
    one_more n within before true is =
        let more : passing_before test (suc n) ≡ passing_before test n + 1 = longer n ∙ passing_here test n is in
        let here : taken_at (test n) (in_list packed (passing_before test n))
        ≡ get_or packed (passing_before test n) None =
        ap (λ b. taken_at b (in_list packed (passing_before test n))) is
        ∙ in_list-get_or packed (passing_before test n) in
        one_seen n ∙ ap (λ h. drop_marks marks (spread test n packed) + drop_mark_of marks h) here
        ∙ ap (λ m. m + drop_mark_of marks (get_or packed (passing_before test n) None)) before
        ∙ sym (sum_by_more (drop_mark_of marks) packed (passing_before test n) None (omega (arith, within, more)))
        ∙ sym (ap (λ m. sum_by (drop_mark_of marks) (take m packed)) more)
    one_more n within before false is =
        let same : passing_before test (suc n) ≡ passing_before test n = longer n ∙ passing_by test n is in
        let here : taken_at (test n) (in_list packed (passing_before test n)) ≡ None =
        ap (λ b. taken_at b (in_list packed (passing_before test n))) is in
        let none : drop_marks marks (spread test n packed) + 0 ≡ drop_marks marks (spread test n packed) =
        omega arith in
        one_seen n ∙ ap (λ h. drop_marks marks (spread test n packed) + drop_mark_of marks h) here ∙ none ∙ before
        ∙ sym (ap (λ m. sum_by (drop_mark_of marks) (take m packed)) same)

    marks_to : (n : ℕ) → passing_before test n ≤ length packed →
        drop_marks marks (spread test n packed) ≡ sum_by (drop_mark_of marks) (take (passing_before test n) packed)
    marks_to zero within = refl
    marks_to (suc n) within =
        one_more n within
        (marks_to n (omega (arith, within, longer n, passing_le test n (n + 1) (omega arith)))) (test n) refl

    pub marks-spread : length packed ≡ passing_before test count →
        drop_marks marks (spread test count packed) ≡ drop_marks marks packed
    marks-spread size =
        marks_to count (omega (arith, size))
        ∙ ap (sum_by (drop_mark_of marks)) (take_all (passing_before test count) packed (omega (arith, size)))

-- the racks of all operations have each at its number
module _ {H : Type 0} (script : ScriptModel) (packed : List (Option H)) (size : length packed ≡ length script.acts)
  where
    pub size_of_all : length packed ≡ passing_before (has_place script by.ByNumber) (length script.acts)
    size_of_all = size ∙ sym (passing_all (length script.acts))

    pub in_all : (n : ℕ) →
        in_list (spread (has_place script by.ByNumber) (length script.acts) packed) n ≡ in_list packed n
    in_all n =
        in_spread_here (has_place script by.ByNumber) (length script.acts) packed size_of_all n refl
        ∙ ap (in_list packed) (passing_all n)

-- a place that was found
module _ {H : Type 0} (script : ScriptModel) (placed : Placing) (packed : List (Option H))
    (size : length packed ≡ passing_before (has_place script placed) (length script.acts)) (op : ℕ) where
  module _ (place : ℕ) (is : Some place ≡ place_of script placed op) where
    found : (has_place script placed op ≡ true) × (passing_before (has_place script placed) op ≡ place)
    found = was_placed (has_place script placed op) (passing_before (has_place script placed) op) place (sym is)

    pub seen_there : in_list packed place ≡ in_list (spread (has_place script placed) (length script.acts) packed) op
    seen_there =
        ap (in_list packed) (sym found.1)
        ∙ sym (in_spread_here (has_place script placed) (length script.acts) packed size op found.0)

    pub seen_after : slice_set (spread (has_place script placed) (length script.acts) packed) op None
        ≡ spread (has_place script placed) (length script.acts) (slice_set packed place None)
    seen_after =
        take-spread (has_place script placed) (length script.acts) packed size op found.0
        ∙ ap (λ k. spread (has_place script placed) (length script.acts) (slice_set packed k None)) found.1

  pub none_seen : None ≡ place_of script placed op →
      in_list (spread (has_place script placed) (length script.acts) packed) op ≡ None
  none_seen is =
      in_spread_else (has_place script placed) (length script.acts) packed size op
      (had_none (has_place script placed op) (passing_before (has_place script placed) op) (sym is))
