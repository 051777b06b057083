-- Logs stay positioned where a seat draws the next position.
use Rattle.std.proofs.Common.{◌≡◌, ◌<◌, ◌≤◌, ◌+◌, ◌⊎◌, inl, inr, ⊎_elim, ℕ, zero, suc, List, [], ◌∷◌, ◌++◌, Vec, Global, length, map, set, arith, ap, refl, sym, subst, ◌∙◌}
use Rattle.std.proofs.lemmas.Bool.{cases_lt}
use Rattle.std.specs.Prelude.{slice_index_or}
use lib.ListN.{get_elem?}
use mathlib.Core.Option.{some, some-injective, some-ne-none}
use Rattle.atomic_table.proofs.Lists.{at_last, at_longer, at_snoc}
use Rattle.asio_types.specs.declared.event.Event.{Event}
use Rattle.lane_logs.specs.declared.log.LogEntry.{LogEntry}
use Rattle.history_merge.specs.Ordering.{ArePositioned, IsEntryIn}

-- the entries of the logs
abbrev entries : List (Vec LogEntry Global) → List (List LogEntry)
entries logs = map (λ (log : Vec LogEntry Global). log.items) logs

none_yet : (logs : List (Vec LogEntry Global)) (log : Vec LogEntry Global) → log.items ≡ [] → (seat at : ℕ) (entry : LogEntry) →
    get_elem? (slice_index_or (entries (logs ++ log ∷ [])) seat []) at ≡ some entry →
    get_elem? (slice_index_or (entries logs) seat []) at ≡ some entry
none_yet [] log empty zero at entry there = subst (λ (l : List LogEntry). get_elem? l at ≡ some entry) empty there
none_yet [] log empty (suc seat) at entry there = there
none_yet (x ∷ xs) log empty zero at entry there = there
none_yet (x ∷ xs) log empty (suc seat) at entry there = none_yet xs log empty seat at entry there

no_entry : (entry : LogEntry) → IsEntryIn [] entry → ⊥
no_entry entry is = some-ne-none entry (sym is.there)

pub none_positioned : (logs : List (Vec LogEntry Global)) → logs ≡ [] → ArePositioned (entries logs) 0
none_positioned logs none = subst (λ (all : List (Vec LogEntry Global)). ArePositioned (entries all) 0) (sym none)
    (record {
      fit = λ entry is. absurd (no_entry entry is);
      agree = λ entry other is and same. absurd (no_entry entry is);
      each = λ position less. absurd (omega (arith, less));
    })

-- and where logs get one more that is empty
pub none_longer : (logs all : List (Vec LogEntry Global)) (log : Vec LogEntry Global) → all ≡ logs ++ log ∷ [] → log.items ≡ [] →
    ArePositioned (entries logs) 0 → ArePositioned (entries all) 0
none_longer logs all log longer empty are =
    subst (λ (them : List (Vec LogEntry Global)). ArePositioned (entries them) 0) (sym longer) (record {
      fit = λ entry is. are.fit entry (before entry is);
      agree = λ entry other is and same. are.agree entry other (before entry is) (before other and) same;
      each = λ position less. absurd (omega (arith, less));
    })
  where
    before : (entry : LogEntry) → IsEntryIn (entries (logs ++ log ∷ [])) entry → IsEntryIn (entries logs) entry
    before entry is = record { seat = is.seat; at = is.at; there = none_yet logs log empty is.seat is.at entry is.there }

module _ (longer : Vec LogEntry Global) (added : LogEntry) where
  was_or_is : (logs : List (Vec LogEntry Global)) (seat : ℕ) (log : Vec LogEntry Global) → get_elem? logs seat ≡ some log →
      longer.items ≡ log.items ++ added ∷ [] → (other at : ℕ) (entry : LogEntry) →
      get_elem? (slice_index_or (entries (set logs seat longer)) other []) at ≡ some entry →
      (get_elem? (slice_index_or (entries logs) other []) at ≡ some entry) ⊎ (added ≡ entry)
  was_or_is [] seat log here is other at entry there = absurd (some-ne-none log (sym here))
  was_or_is (x ∷ xs) zero log here is zero at entry there =
      let same : longer.items ≡ x.items ++ added ∷ [] =
      is ∙ ap (λ (l : Vec LogEntry Global). l.items ++ added ∷ []) (sym (some-injective x log here)) in
      at_snoc x.items added entry at (subst (λ (l : List LogEntry). get_elem? l at ≡ some entry) same there)
  was_or_is (x ∷ xs) zero log here is (suc other) at entry there = inl there
  was_or_is (x ∷ xs) (suc seat) log here is zero at entry there = inl there
  was_or_is (x ∷ xs) (suc seat) log here is (suc other) at entry there = was_or_is xs seat log here is other at entry there

  still_there : (logs : List (Vec LogEntry Global)) (seat : ℕ) (log : Vec LogEntry Global) → get_elem? logs seat ≡ some log →
      longer.items ≡ log.items ++ added ∷ [] → (other at : ℕ) (entry : LogEntry) →
      get_elem? (slice_index_or (entries logs) other []) at ≡ some entry →
      get_elem? (slice_index_or (entries (set logs seat longer)) other []) at ≡ some entry
  still_there [] seat log here is other at entry there = absurd (some-ne-none log (sym here))
  still_there (x ∷ xs) zero log here is zero at entry there =
      let same : longer.items ≡ x.items ++ added ∷ [] =
      is ∙ ap (λ (l : Vec LogEntry Global). l.items ++ added ∷ []) (sym (some-injective x log here)) in
      subst (λ (l : List LogEntry). get_elem? l at ≡ some entry) (sym same) (at_longer x.items (added ∷ []) at entry there)
  still_there (x ∷ xs) zero log here is (suc other) at entry there = there
  still_there (x ∷ xs) (suc seat) log here is zero at entry there = there
  still_there (x ∷ xs) (suc seat) log here is (suc other) at entry there = still_there xs seat log here is other at entry there

  added_there : (logs : List (Vec LogEntry Global)) (seat : ℕ) (log : Vec LogEntry Global) → get_elem? logs seat ≡ some log →
      longer.items ≡ log.items ++ added ∷ [] →
      get_elem? (slice_index_or (entries (set logs seat longer)) seat []) (length log.items) ≡ some added
  added_there [] seat log here is = absurd (some-ne-none log (sym here))
  added_there (x ∷ xs) zero log here is =
      subst (λ (l : List LogEntry). get_elem? l (length log.items) ≡ some added) (sym is)
      (at_last log.items added (length log.items) refl)
  added_there (x ∷ xs) (suc seat) log here is = added_there xs seat log here is

pub next_positioned : (logs : List (Vec LogEntry Global)) (seat : ℕ) (log longer : Vec LogEntry Global) (count : ℕ) (shown : Event) →
    get_elem? logs seat ≡ some log → longer.items ≡ log.items ++ record { position = count; event = shown } ∷ [] →
    ArePositioned (entries logs) count → ArePositioned (entries (set logs seat longer)) (count + 1)
next_positioned logs seat log longer count shown here is are = record {
  fit = λ entry there. ⊎_elim
      (λ (was : IsEntryIn (entries logs) entry). let less = are.fit entry was in omega (arith, less))
      (λ (same : added ≡ entry). let at : count ≡ entry.position = ap (λ (e : LogEntry). e.position) same in omega (arith, at))
      (old_or_added entry there);
  agree = λ entry other there also same. ⊎_elim
      (λ (was : IsEntryIn (entries logs) entry). ⊎_elim
      (λ (and : IsEntryIn (entries logs) other). are.agree entry other was and same)
      (λ (last : added ≡ other). let at : count ≡ other.position = ap (λ (e : LogEntry). e.position) last in
      let less = are.fit entry was in absurd (omega (arith, less, at, same)))
      (old_or_added other also))
      (λ (first : added ≡ entry). ⊎_elim
      (λ (and : IsEntryIn (entries logs) other). let at : count ≡ entry.position = ap (λ (e : LogEntry). e.position) first in
      let less = are.fit other and in absurd (omega (arith, less, at, same)))
      (λ (last : added ≡ other). ap (λ (e : LogEntry). e.event) (sym first ∙ last))
      (old_or_added other also))
      (old_or_added entry there);
  each = λ position less. ⊎_elim
      (λ (early : position < count). let had = are.each position early in (had.0, kept (record { position = position; event = had.0 }) had.1))
      (λ (late : count ≤ position). let last : count ≡ position = omega (arith, less, late) in (
        shown,
        subst (λ p. IsEntryIn (entries (set logs seat longer)) (record { position = p; event = shown })) last
            (record { seat = seat; at = length log.items; there = added_there longer added logs seat log here is }),
      ))
      (cases_lt position count);
}
  where
    added : LogEntry
    added = record { position = count; event = shown }

    old_or_added : (entry : LogEntry) → IsEntryIn (entries (set logs seat longer)) entry →
        IsEntryIn (entries logs) entry ⊎ (added ≡ entry)
    old_or_added entry there = ⊎_elim
        (λ (was : get_elem? (slice_index_or (entries logs) there.seat []) there.at ≡ some entry).
        inl (record { seat = there.seat; at = there.at; there = was }))
        (λ (same : added ≡ entry). inr same)
        (was_or_is longer added logs seat log here is there.seat there.at entry there.there)

    kept : (entry : LogEntry) → IsEntryIn (entries logs) entry → IsEntryIn (entries (set logs seat longer)) entry
    kept entry was = record {
      seat = was.seat;
      at = was.at;
      there = still_there longer added logs seat log here is was.seat was.at entry was.there;
    }
