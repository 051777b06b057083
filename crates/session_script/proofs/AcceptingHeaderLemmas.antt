-- Declarations that are spelled are read.
use Rattle.std.proofs.Common.{◌≡◌, ℕ, ◌≤◌, ◌⊎◌, true, false, List, [], ◌∷◌, inl, inr, refl, sym, subst, arith}
use lib.Chars.{codes}
use Rattle.session_script.specs.Script.{ScriptModel}
use Rattle.session_script.specs.Productions.{count, header}
use Rattle.session_script.specs.Text.{Words, IsWord, IsN, IsCountText, IsDeclsText}
use Rattle.session_script.specs.WellFormed.{header_of, IsWellFormed}
use Rattle.session_script.proofs.AcceptingLemmas.{starts}
use Rattle.session_script.proofs.ReadingAsLemmas.{ReadsAs, by_accepts, then_reads_as, done_reads_as, begun_reads_as, unbegun_reads_as}
use Rattle.session_script.proofs.AcceptingPartsLemmas.{word_accepts, bounded_accepts, version_accepts}
use Rattle.session_script.proofs.NextWordsLemmas.{IsAmong, is_among, word_starts, starts_otherwise}

-- a declaration, where something else follows
count_is_read : (text : List ℕ) (n most : ℕ) (ws rest : Words) → IsCountText text n ws rest → n ≤ most →
    starts text rest ≡ false → ReadsAs (count text most) n ws rest
unfolding count
count_is_read text n most ws rest (inl none) few other =
    subst (λ (m : ℕ). ReadsAs (count text most) m ws rest) (sym none.0)
    (subst (λ (now : Words). ReadsAs (count text most) 0 now rest) (sym none.1) (unbegun_reads_as text 0 _ rest other))
count_is_read text n most ws rest (inr is) few other =
    begun_reads_as text 0 _ n ws rest (word_starts text ws is.0 is.1)
    (then_reads_as _ (by_accepts (word_accepts text) tt ws is.0 is.1)
    (by_accepts (bounded_accepts 0 most) n is.0 rest (is.2, omega arith, few)))

-- before a declaration its word may come next, or what may come next after it
among_before : (text : List ℕ) (texts : List (List ℕ)) (n : ℕ) (ws rest : Words) → IsCountText text n ws rest →
    IsAmong texts rest → IsAmong (text ∷ texts) ws
among_before text texts n ws rest (inl none) among = inr (subst (IsAmong texts) (sym none.1) among)
among_before text texts n ws rest (inr is) among = inl (word_starts text ws is.0 is.1)

-- what may come after all declarations, after the one of streams, and so on
pub after_guards : List (List ℕ)
after_guards = codes "at" ∷ codes "open" ∷ []

after_streams : List (List ℕ)
after_streams = codes "guards" ∷ after_guards

after_slots : List (List ℕ)
after_slots = codes "streams" ∷ after_streams

after_timers : List (List ℕ)
after_timers = codes "slots" ∷ after_slots

after_strands : List (List ℕ)
after_strands = codes "timers" ∷ after_timers

-- a declaration, by what may come next after it
count_among : (text : List ℕ) (texts : List (List ℕ)) (n most : ℕ) (ws rest : Words) → is_among text texts ≡ false →
    IsCountText text n ws rest → n ≤ most → IsAmong texts rest → ReadsAs (count text most) n ws rest
count_among text texts n most ws rest differs is few among =
    count_is_read text n most ws rest is few (starts_otherwise text texts rest differs among)

pub header_reads_as : (script : ScriptModel) (ws a b rest : Words) → IsWord (codes "session") ws a →
    IsN script.version a b → IsDeclsText script b rest → IsWellFormed script → IsAmong after_guards rest →
    ReadsAs header (header_of script) ws rest
unfolding header after_guards after_streams after_slots after_timers after_strands
header_reads_as script ws a b rest session version decls well next =
    let next_guards : IsAmong after_streams decls.3 =
    among_before (codes "guards") after_guards script.guards decls.3 rest decls.8 next in
    let next_streams : IsAmong after_slots decls.2 =
    among_before (codes "streams") after_streams script.world.streams decls.2 decls.3 decls.7 next_guards in
    let next_slots : IsAmong after_timers decls.1 =
    among_before (codes "slots") after_slots script.slots decls.1 decls.2 decls.6 next_streams in
    let next_timers : IsAmong after_strands decls.0 =
    among_before (codes "timers") after_timers script.timers decls.0 decls.1 decls.5 next_slots in
    then_reads_as _ (by_accepts (word_accepts (codes "session")) tt ws a session)
    (then_reads_as _ (by_accepts version_accepts script.version a b (version, well.version))
    (then_reads_as _ (count_among (codes "strands") after_strands script.strands _ b decls.0 refl decls.4 well.strands next_timers)
    (then_reads_as _ (count_among (codes "timers") after_timers script.timers _ decls.0 decls.1 refl decls.5 well.timers next_slots)
    (then_reads_as _ (count_among (codes "slots") after_slots script.slots _ decls.1 decls.2 refl decls.6 well.slots next_streams)
    (then_reads_as _ (count_among (codes "streams") after_streams script.world.streams _ decls.2 decls.3 refl decls.7 well.streams next_guards)
    (then_reads_as _ (count_among (codes "guards") after_guards script.guards _ decls.3 rest refl decls.8 well.guards next)
    (done_reads_as (header_of script) rest)))))))

-- as the text of a script has it
pub as_among : (rest : Words) → (starts (codes "at") rest ≡ true) ⊎ (starts (codes "open") rest ≡ true) →
    IsAmong after_guards rest
unfolding after_guards
as_among rest (inl is) = inl is
as_among rest (inr is) = inr (inl is)
