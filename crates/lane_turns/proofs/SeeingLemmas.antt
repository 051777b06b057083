-- Marks of what some events show, while a list of events is gone through.
use Rattle.std.proofs.Common.{◌≡◌, ℕ, ◌+◌, ◌<◌, Bool, true, false, List, [], ◌∷◌, ◌++◌, length, get_or, refl, sym, ap, subst, ◌∙◌, arith}
use Rattle.std.specs.Prelude.{◌||◌, map, slice_index_or, take}
use Rattle.std.specs.List.{flat_map, list_any}
use Rattle.std.proofs.Math.Bool.{or_assoc}
use Rattle.std.proofs.Math.ListN.{get_or-map}
use Rattle.std.proofs.lemmas.Grind.{flat_map-append}
use Rattle.std.proofs.lemmas.List.{append-nil, length-map, map-append, take_more}
use Rattle.std.proofs.lemmas.List.Folds.{list_any-append}
use Rattle.asio_types.specs.declared.event.Event.{Event}
use Rattle.lane_logs.specs.declared.log.LogEntry.{LogEntry}
use Rattle.lane_logs.specs.Labels.{events_in}

module _ (test : ℕ → Event → Bool) where
  -- the numbers that the events show are marked beside those that were
  abbrev pub Marks : List Bool → List Bool → List Event → Type 0
  Marks old new events =
      (n : ℕ) → n < length old →
      slice_index_or new n false ≡ (slice_index_or old n false || list_any (test n) events)

  pub marks_none : (old : List Bool) → Marks old old []
  marks_none old n less = sym (or_none (slice_index_or old n false))
    where
      or_none : (b : Bool) → (b || false) ≡ b
      or_none true = refl
      or_none false = refl

  pub marks_on : (old mid new : List Bool) (front more all : List Event) → Marks old mid front →
      Marks mid new more → length mid ≡ length old → all ≡ front ++ more → Marks old new all
  marks_on old mid new front more all first second same is n less =
      second n (omega (arith, less, same))
      ∙ ap (λ b. b || list_any (test n) more) (first n less)
      ∙ or_assoc (slice_index_or old n false) (list_any (test n) front) (list_any (test n) more)
      ∙ ap (λ b. slice_index_or old n false || b)
      (sym (ap (list_any (test n)) is ∙ list_any-append (test n) front more))

-- the events of one entry more, and those of one log more
pub entry_more : (log : List LogEntry) (k : ℕ) (d : LogEntry) → k < length log →
    events_in (take (k + 1) log) ≡ events_in (take k log) ++ (get_or log k d).event ∷ []
entry_more log k d less =
    ap events_in (take_more log k d less)
    ∙ map-append (λ (entry : LogEntry). entry.event) (take k log) (get_or log k d ∷ [])

pub log_more : (logs : List (List LogEntry)) (k : ℕ) (d : List LogEntry) → k < length logs →
    flat_map events_in (take (k + 1) logs) ≡ flat_map events_in (take k logs) ++ events_in (get_or logs k d)
log_more logs k d less =
    ap (flat_map events_in) (take_more logs k d less)
    ∙ flat_map-append events_in (take k logs) (get_or logs k d ∷ [])
    ∙ ap (λ xs. flat_map events_in (take k logs) ++ xs) (append-nil (events_in (get_or logs k d)))

module _ (test : ℕ → Event → Bool) (old mid new : List Bool) (same : length mid ≡ length old) where
  pub marks_entry : (log : List LogEntry) (k : ℕ) (d : LogEntry) → k < length log →
      Marks test old mid (events_in (take k log)) → Marks test mid new ((get_or log k d).event ∷ []) →
      Marks test old new (events_in (take (k + 1) log))
  marks_entry log k d less first second =
      marks_on test old mid new (events_in (take k log)) ((get_or log k d).event ∷ []) (events_in (take (k + 1) log))
      first second same (entry_more log k d less)

  pub marks_log : (logs : List (List LogEntry)) (k : ℕ) (d : List LogEntry) → k < length logs →
      Marks test old mid (flat_map events_in (take k logs)) → Marks test mid new (events_in (get_or logs k d)) →
      Marks test old new (flat_map events_in (take (k + 1) logs))
  marks_log logs k d less first second =
      marks_on test old mid new (flat_map events_in (take k logs)) (events_in (get_or logs k d))
      (flat_map events_in (take (k + 1) logs)) first second same (log_more logs k d less)

  pub marks_item : {V : Type 0} (items : V → List LogEntry) (logs : List V) (k : ℕ) (one : V)
      (seen : List LogEntry) → k < length logs → one ≡ get_or logs k one → seen ≡ items one →
      Marks test old mid (flat_map events_in (take k (map items logs))) → Marks test mid new (events_in seen) →
      Marks test old new (flat_map events_in (take (k + 1) (map items logs)))
  marks_item items logs k one seen less is here first second =
      let same : seen ≡ get_or (map items logs) k (items one) =
      here ∙ ap items is ∙ sym (get_or-map items logs k one) in
      marks_log (map items logs) k (items one) (omega (arith, less, length-map logs items)) first
      (subst (λ log. Marks test mid new (events_in log)) same second)
