-- Entries of a queue of timers, sorted by acceptance and by expiry.
use Rattle.std.proofs.Common.{◌≡◌, ◌<◌, ◌≤◌, nat_le, Bool, true, false, List, [], ◌∷◌, ◌++◌, refl, ap, sym, ◌∙◌, arith}
use Rattle.std.specs.List.{All}
use Rattle.std.proofs.lemmas.Bool.Decides.{nat_tests}
use Rattle.std.proofs.lemmas.List.Elements.{All-head, All-tail, All-weaker}
use Rattle.history_rules.specs.Settling.{put_by, sorted_by}
use Rattle.timer_queue.specs.declared.entry.TimerEntry.{TimerEntry}
use Rattle.timer_queue.specs.Entry.{is_entry_before, IsBefore}
use Rattle.timer_queue.specs.Queue.{put}
use Rattle.timer_queue.proofs.OrderLemmas.{put-after, put-before}
use Rattle.proactor_core.specs.Waits.{expiry_of_entry, serial_of}
use Rattle.proactor_core.proofs.SortingLemmas.{put_by-front, put_by-later, put_by-greatest, put_by-least, put_by_push, All-sorted_by}

abbrev pub IsOlder : TimerEntry → TimerEntry → Type 0
IsOlder e w = w.serial < e.serial

-- the newest entry stands last by acceptance
serial-step : (e f : TimerEntry) (r : List TimerEntry) (t : Bool) → is_entry_before f e ≡ t → All (IsOlder e) (f ∷ r) →
    sorted_by serial_of (put e r) ≡ sorted_by serial_of r ++ e ∷ [] →
    sorted_by serial_of (put e (f ∷ r)) ≡ sorted_by serial_of (f ∷ r) ++ e ∷ []
serial-step e f r true is older below =
    let first : f.serial < e.serial = All-head (IsOlder e) f r older in
    ap (sorted_by serial_of) (put-before e f r is) ∙ ap (put_by serial_of f) below
    ∙ put_by_push serial_of f e (sorted_by serial_of r) (omega arith)
serial-step e f r false is older below =
    ap (sorted_by serial_of) (put-after e f r is)
    ∙ put_by-greatest serial_of e (sorted_by serial_of (f ∷ r)) (All-sorted_by serial_of (IsOlder e) (f ∷ r) older)

pub serial-put : (e : TimerEntry) (q : List TimerEntry) → All (IsOlder e) q →
    sorted_by serial_of (put e q) ≡ sorted_by serial_of q ++ e ∷ []
serial-put e [] older = refl
serial-put e (f ∷ r) older =
    serial-step e f r (is_entry_before f e) refl older (serial-put e r (All-tail (IsOlder e) f r older))

expiry-new : (e x f : TimerEntry) (r : List TimerEntry) (v : Bool) → is_entry_before x e ≡ v → is_entry_before f e ≡ false →
    x.serial < e.serial → f.serial < e.serial → x.expiry ≤ f.expiry →
    put_by expiry_of_entry x (e ∷ f ∷ r) ≡ put e (x ∷ f ∷ r)
expiry-new e x f r true here is older first less =
    let before : x.expiry ≤ e.expiry = grind (arith, nat_tests) in
    put_by-front expiry_of_entry x e (f ∷ r) before
    ∙ sym (put-before e x (f ∷ r) here ∙ ap (λ zs. x ∷ zs) (put-after e f r is))
expiry-new e x f r false here is older first less =
    let after : e.expiry < x.expiry = grind (arith, nat_tests) in
    put_by-later expiry_of_entry x e (f ∷ r) after ∙ ap (λ zs. e ∷ zs) (put_by-front expiry_of_entry x f r less)
    ∙ sym (put-after e x (f ∷ r) here)

-- the newest entry and an older one go in in either order
expiry-step : (e x f : TimerEntry) (r : List TimerEntry) (t u : Bool) → is_entry_before f e ≡ t → nat_le x.expiry f.expiry ≡ u →
    x.serial < e.serial → f.serial < e.serial →
    put_by expiry_of_entry x (put e r) ≡ put e (put_by expiry_of_entry x r) →
    put_by expiry_of_entry x (put e (f ∷ r)) ≡ put e (put_by expiry_of_entry x (f ∷ r))
expiry-step e x f r true true is le older first below =
    let here : is_entry_before x e ≡ true = grind (arith, nat_tests) in
    let less : x.expiry ≤ f.expiry = grind (arith, nat_tests) in
    ap (put_by expiry_of_entry x) (put-before e f r is) ∙ put_by-front expiry_of_entry x f (put e r) less
    ∙ sym (ap (put e) (put_by-front expiry_of_entry x f r less) ∙ put-before e x (f ∷ r) here
    ∙ ap (λ zs. x ∷ zs) (put-before e f r is))
expiry-step e x f r true false is le older first below =
    let more : f.expiry < x.expiry = grind (arith, nat_tests) in
    ap (put_by expiry_of_entry x) (put-before e f r is) ∙ put_by-later expiry_of_entry x f (put e r) more
    ∙ ap (λ zs. f ∷ zs) below
    ∙ sym (ap (put e) (put_by-later expiry_of_entry x f r more) ∙ put-before e f (put_by expiry_of_entry x r) is)
expiry-step e x f r false true is le older first below =
    let less : x.expiry ≤ f.expiry = grind (arith, nat_tests) in
    ap (put_by expiry_of_entry x) (put-after e f r is) ∙ expiry-new e x f r (is_entry_before x e) refl is older first less
    ∙ sym (ap (put e) (put_by-front expiry_of_entry x f r less))
expiry-step e x f r false false is le older first below =
    let more : f.expiry < x.expiry = grind (arith, nat_tests) in
    let late : e.expiry < x.expiry = grind (arith, nat_tests) in
    ap (put_by expiry_of_entry x) (put-after e f r is) ∙ put_by-later expiry_of_entry x e (f ∷ r) late
    ∙ ap (λ zs. e ∷ zs) (put_by-later expiry_of_entry x f r more)
    ∙ sym (ap (put e) (put_by-later expiry_of_entry x f r more) ∙ put-after e f (put_by expiry_of_entry x r) is)

expiry-alone : (e x : TimerEntry) (t : Bool) → nat_le x.expiry e.expiry ≡ t → x.serial < e.serial →
    put_by expiry_of_entry x (e ∷ []) ≡ put e (x ∷ [])
expiry-alone e x true le older =
    let before : is_entry_before x e ≡ true = grind (arith, nat_tests) in
    let less : x.expiry ≤ e.expiry = grind (arith, nat_tests) in
    put_by-front expiry_of_entry x e [] less ∙ sym (put-before e x [] before)
expiry-alone e x false le older =
    let before : is_entry_before x e ≡ false = grind (arith, nat_tests) in
    let more : e.expiry < x.expiry = grind (arith, nat_tests) in
    put_by-later expiry_of_entry x e [] more ∙ sym (put-after e x [] before)

expiry-comm : (e x : TimerEntry) (q : List TimerEntry) → x.serial < e.serial → All (IsOlder e) q →
    put_by expiry_of_entry x (put e q) ≡ put e (put_by expiry_of_entry x q)
expiry-comm e x [] older all = expiry-alone e x (nat_le x.expiry e.expiry) refl older
expiry-comm e x (f ∷ r) older all =
    let first : f.serial < e.serial = All-head (IsOlder e) f r all in
    expiry-step e x f r (is_entry_before f e) (nat_le x.expiry f.expiry) refl refl older first
    (expiry-comm e x r older (All-tail (IsOlder e) f r all))

-- the newest entry, which stands last by acceptance, goes in as the queue puts it
pub expiry-put : (e : TimerEntry) (q : List TimerEntry) → All (IsOlder e) q →
    sorted_by expiry_of_entry (q ++ e ∷ []) ≡ put e (sorted_by expiry_of_entry q)
expiry-put e [] older = refl
expiry-put e (x ∷ xs) older =
    let rest = All-tail (IsOlder e) x xs older in
    let first : x.serial < e.serial = All-head (IsOlder e) x xs older in
    ap (put_by expiry_of_entry x) (expiry-put e xs rest)
    ∙ expiry-comm e x (sorted_by expiry_of_entry xs) first (All-sorted_by expiry_of_entry (IsOlder e) xs rest)

-- what comes before all others stands first by expiry, wherever it stands by acceptance
first-step : (w f : TimerEntry) (r : List TimerEntry) (t : Bool) → nat_le w.serial f.serial ≡ t → All (IsBefore w) (f ∷ r) →
    sorted_by expiry_of_entry (put_by serial_of w r) ≡ w ∷ sorted_by expiry_of_entry r →
    sorted_by expiry_of_entry (put_by serial_of w (f ∷ r)) ≡ w ∷ sorted_by expiry_of_entry (f ∷ r)
first-step w f r true le before below =
    let here : w.serial ≤ f.serial = grind (arith, nat_tests) in
    let least : All (λ y. w.expiry ≤ y.expiry) (f ∷ r) =
    All-weaker (IsBefore w) (λ y. w.expiry ≤ y.expiry) (λ y h. grind arith) (f ∷ r) before in
    ap (sorted_by expiry_of_entry) (put_by-front serial_of w f r here)
    ∙ put_by-least expiry_of_entry w (sorted_by expiry_of_entry (f ∷ r))
    (All-sorted_by expiry_of_entry (λ y. w.expiry ≤ y.expiry) (f ∷ r) least)
first-step w f r false le before below =
    let here : f.serial < w.serial = grind (arith, nat_tests) in
    let first : IsBefore w f = All-head (IsBefore w) f r before in
    let less : w.expiry < f.expiry = grind arith in
    ap (sorted_by expiry_of_entry) (put_by-later serial_of w f r here) ∙ ap (put_by expiry_of_entry f) below
    ∙ put_by-later expiry_of_entry f w (sorted_by expiry_of_entry r) less

pub expiry-first : (w : TimerEntry) (q : List TimerEntry) → All (IsBefore w) q →
    sorted_by expiry_of_entry (put_by serial_of w q) ≡ w ∷ sorted_by expiry_of_entry q
expiry-first w [] before = refl
expiry-first w (f ∷ r) before =
    first-step w f r (nat_le w.serial f.serial) refl before (expiry-first w r (All-tail (IsBefore w) f r before))
