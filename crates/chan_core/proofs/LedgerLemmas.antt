-- The calls of send in a list of events, and how they completed.
use Rattle.std.proofs.Common.{◌≡◌, ℕ, ◌==◌, Bool, true, false, cond, List, [], ◌∷◌, ◌++◌, Option, Some, None, filter, map, refl, ap, sym, subst, ◌∙◌}
use Rattle.chan_core.specs.declared.done.ChanCode.{ChanCode}
use Rattle.chan_core.specs.declared.done.ChanCode.TheVariants as chan_code
use Rattle.chan_core.specs.declared.done.ChanDone.{ChanDone}
use Rattle.chan_core.specs.declared.pending.PendingOp.{PendingOp}
use Rattle.chan_core.specs.Runs.{ChanEvent, SendMade, code_after, is_ok, received_in, sends_in, value_of, was_accepted, with_value}
use Rattle.chan_core.specs.Runs.ChanCall.{Cancel, Close, Lapse, Receive, Send}
use Rattle.chan_core.specs.Runs.ChanEvent.{Called, Told}

-- the code that comes first
abbrev pub first_code : Option ChanCode → Option ChanCode → Option ChanCode
first_code None second = second
first_code (Some code) second = Some code

-- how a send stands after these later codes
abbrev pub settled : (ℕ → Option ChanCode) → SendMade → SendMade
settled later made = record made { code = first_code made.code (later made.op) }

abbrev pub accepted : List SendMade → List ℕ
accepted made = map value_of (filter was_accepted made)

-- what a send adds to those that haven't completed
abbrev pub opened : Option ChanCode → SendMade → List (PendingOp ℕ) → List (PendingOp ℕ)
opened None made others = record { op = made.op; deadline = made.deadline; value = made.value } ∷ others
opened (Some code) made others = others

-- the sends that haven't completed
abbrev pub opens : List SendMade → List (PendingOp ℕ)
opens [] = []
opens (made ∷ rest) = opened made.code made (opens rest)

-- behind a send that hasn't completed none is accepted
abbrev pub AreInOrder : List SendMade → Type 0
AreInOrder [] = Unit {0}
AreInOrder (made ∷ rest) = (made.code ≡ None → accepted rest ≡ []) × AreInOrder rest

-- each of them
abbrev pub Each : {X : Type 0} → (X → Type 0) → List X → Type 0
Each P [] = Unit {0}
Each P (x ∷ xs) = P x × Each P xs

pub code_after-append : (op : ℕ) (xs ys : List ChanEvent) →
    code_after op (xs ++ ys) ≡ first_code (code_after op xs) (code_after op ys)
code_after-append op [] ys = refl
code_after-append op (Called call ∷ xs) ys = code_after-append op xs ys
code_after-append op (Told done ∷ xs) ys =
    elim (done.op == op) as (λ b. cond b (Some done.code) (code_after op (xs ++ ys))
    ≡ first_code (cond b (Some done.code) (code_after op xs)) (code_after op ys)) [
      | true ↦ refl
      | false ↦ code_after-append op xs ys
    ]

pub sends_in-append : (xs ys : List ChanEvent) →
    sends_in (xs ++ ys) ≡ map (settled (λ op. code_after op ys)) (sends_in xs) ++ sends_in ys
sends_in-append [] ys = refl
sends_in-append (Told done ∷ xs) ys = sends_in-append xs ys
sends_in-append (Called (Send op value deadline) ∷ xs) ys =
    rw (code_after-append op xs ys, sends_in-append xs ys) refl
sends_in-append (Called (Receive op deadline) ∷ xs) ys = sends_in-append xs ys
sends_in-append (Called Close ∷ xs) ys = sends_in-append xs ys
sends_in-append (Called Cancel ∷ xs) ys = sends_in-append xs ys
sends_in-append (Called (Lapse wait) ∷ xs) ys = sends_in-append xs ys

pub received_in-append : (xs ys : List ChanEvent) →
    received_in (xs ++ ys) ≡ received_in xs ++ received_in ys
received_in-append [] ys = refl
received_in-append (Called call ∷ xs) ys = received_in-append xs ys
received_in-append (Told done ∷ xs) ys =
    elim done.value as (λ v. with_value v (received_in (xs ++ ys)) ≡ with_value v (received_in xs) ++ received_in ys) [
      | None ↦ received_in-append xs ys
      | Some value ↦ ap (λ l. value ∷ l) (received_in-append xs ys)
    ]

pub sends_in-told : (done : List ChanDone) → sends_in (map Told done) ≡ []
sends_in-told [] = refl
sends_in-told (done ∷ rest) = sends_in-told rest

pub accepted-append : (xs ys : List SendMade) → accepted (xs ++ ys) ≡ accepted xs ++ accepted ys
accepted-append [] ys = refl
accepted-append (made ∷ xs) ys =
    elim (was_accepted made) as (λ b.
    map value_of (cond b (made ∷ filter was_accepted (xs ++ ys)) (filter was_accepted (xs ++ ys)))
    ≡ map value_of (cond b (made ∷ filter was_accepted xs) (filter was_accepted xs)) ++ accepted ys) [
      | true ↦ ap (λ l. made.value ∷ l) (accepted-append xs ys)
      | false ↦ accepted-append xs ys
    ]

pub opens-append : (xs ys : List SendMade) → opens (xs ++ ys) ≡ opens xs ++ opens ys
opens-append [] ys = refl
opens-append (made ∷ xs) ys =
    elim made.code as (λ o. opened o made (opens (xs ++ ys)) ≡ opened o made (opens xs) ++ opens ys) [
      | None ↦ ap (λ l. record { op = made.op; deadline = made.deadline; value = made.value } ∷ l) (opens-append xs ys)
      | Some code ↦ opens-append xs ys
    ]

-- in order, where what comes behind isn't accepted
pub in_order-refused : (xs ys : List SendMade) → AreInOrder xs → AreInOrder ys → accepted ys ≡ [] →
    AreInOrder (xs ++ ys)
in_order-refused [] ys h behind none = behind
in_order-refused (made ∷ xs) ys h behind none =
    (λ is. rw (accepted-append xs ys, h.0 is, none) refl, in_order-refused xs ys h.1 behind none)

-- in order, where none before has not completed
pub in_order-closed : (xs ys : List SendMade) → opens xs ≡ [] → AreInOrder ys → AreInOrder (xs ++ ys)
in_order-closed [] ys none behind = behind
in_order-closed (made ∷ xs) ys none behind =
    let step : (o : Option ChanCode) → opened o made (opens xs) ≡ [] →
    (o ≡ None → accepted (xs ++ ys) ≡ []) × (opens xs ≡ []) =
    λ o. elim o as (λ o. opened o made (opens xs) ≡ [] → (o ≡ None → accepted (xs ++ ys) ≡ []) × (opens xs ≡ [])) [
      | None ↦ λ h. absurd (cc)
      | Some code ↦ λ h. (λ is. absurd (cc), h)
    ] in
    let both = step made.code none in (both.0, in_order-closed xs ys both.1 behind)

-- those that haven't completed by these codes
abbrev pub is_left : (ℕ → Option ChanCode) → PendingOp ℕ → Bool
is_left later pending = elim (later pending.op) as (λ _. Bool) [ None ↦ true | Some code ↦ false ]

-- later codes that accept no pending send
pub record Refused (later : ℕ → Option ChanCode) (made : List SendMade) : Type 0 where
  pub accepted : accepted (map (settled later) made) ≡ accepted made
  pub opens : opens (map (settled later) made) ≡ filter (is_left later) (opens made)
  pub in_order : AreInOrder made → AreInOrder (map (settled later) made)

refused-one : (later : ℕ → Option ChanCode) (o : Option ChanCode) (op value : ℕ) (deadline : Option ℕ)
    (rest : List SendMade) →
    Each (λ p. is_ok (later p.op) ≡ false)
    (opened o (record { op = op; value = value; deadline = deadline; code = o }) (opens rest)) →
    (Each (λ p. is_ok (later p.op) ≡ false) (opens rest) → Refused later rest) →
    Refused later (record { op = op; value = value; deadline = deadline; code = o } ∷ rest)
refused-one later None op value deadline rest h next =
    let others = next h.1 in
    record {
      accepted = rw h.0 others.accepted;
      opens =
          elim (later op) as (λ w.
          opened w (record { op = op; value = value; deadline = deadline; code = w }) (opens (map (settled later) rest))
          ≡ cond (elim w as (λ _. Bool) [ None ↦ true | Some code ↦ false ])
          (record { op = op; deadline = deadline; value = value } ∷ filter (is_left later) (opens rest))
          (filter (is_left later) (opens rest))) [
            | None ↦ ap (λ l. record { op = op; deadline = deadline; value = value } ∷ l) others.opens
            | Some code ↦ others.opens
          ];
      in_order = λ order. ((λ _. others.accepted ∙ order.0 refl), others.in_order order.1);
    }
refused-one later (Some chan_code.Ok) op value deadline rest h next =
    let others = next h in
    record {
      accepted = ap (λ l. value ∷ l) others.accepted;
      opens = others.opens;
      in_order = λ order. ((λ is. absurd (cc)), others.in_order order.1);
    }
refused-one later (Some chan_code.Cancelled) op value deadline rest h next =
    let others = next h in
    record {
      accepted = others.accepted;
      opens = others.opens;
      in_order = λ order. ((λ is. absurd (cc)), others.in_order order.1);
    }
refused-one later (Some chan_code.Closed) op value deadline rest h next =
    let others = next h in
    record {
      accepted = others.accepted;
      opens = others.opens;
      in_order = λ order. ((λ is. absurd (cc)), others.in_order order.1);
    }

-- where later codes accept no pending send, those that they name have completed, and all else stays
pub refused : (later : ℕ → Option ChanCode) (made : List SendMade) →
    Each (λ p. is_ok (later p.op) ≡ false) (opens made) → Refused later made
refused later [] h = record { accepted = refl; opens = refl; in_order = λ order. order }
refused later (made ∷ rest) h =
    refused-one later made.code made.op made.value made.deadline rest h (λ others. refused later rest others)

pub Each-map : {X : Type 0} (P Q : X → Type 0) (xs : List X) → ((x : X) → P x → Q x) → Each P xs → Each Q xs
Each-map P Q [] step h = tt
Each-map P Q (x ∷ xs) step h = (step x h.0, Each-map P Q xs step h.1)

pub Each-both : {X : Type 0} (P Q R : X → Type 0) (xs : List X) → ((x : X) → P x → Q x → R x) → Each P xs →
    Each Q xs → Each R xs
Each-both P Q R [] step h i = tt
Each-both P Q R (x ∷ xs) step h i = (step x h.0 i.0, Each-both P Q R xs step h.1 i.1)

pub filter-same : {X : Type 0} (f g : X → Bool) (xs : List X) → Each (λ x. f x ≡ g x) xs →
    filter f xs ≡ filter g xs
filter-same f g [] h = refl
filter-same f g (x ∷ xs) h = rw (h.0, filter-same f g xs h.1) refl

pub filter-every : {X : Type 0} (xs : List X) → filter (λ x. true) xs ≡ xs
filter-every [] = refl
filter-every (x ∷ xs) = ap (λ l. x ∷ l) (filter-every xs)

pub filter-none : {X : Type 0} (xs : List X) → filter (λ x. false) xs ≡ []
filter-none [] = refl
filter-none (x ∷ xs) = filter-none xs

-- what later codes leave where they name no pending send
pub record Untouched (later : ℕ → Option ChanCode) (made : List SendMade) : Type 0 where
  pub accepted : accepted (map (settled later) made) ≡ accepted made
  pub opens : opens (map (settled later) made) ≡ opens made
  pub in_order : AreInOrder made → AreInOrder (map (settled later) made)

pub untouched : (later : ℕ → Option ChanCode) (made : List SendMade) →
    Each (λ p. later p.op ≡ None) (opens made) → Untouched later made
untouched later made h =
    let all =
    refused later made (Each-map (λ p. later p.op ≡ None) (λ p. is_ok (later p.op) ≡ false) (opens made)
    (λ p none. ap is_ok none) h) in
    let left =
    filter-same (is_left later) (λ p. true) (opens made)
    (Each-map (λ p. later p.op ≡ None) (λ p. is_left later p ≡ true) (opens made)
    (λ p none. ap (λ w. elim w as (λ _. Bool) [ None ↦ true | Some code ↦ false ]) none) h) in
    record { accepted = all.accepted; opens = all.opens ∙ left ∙ filter-every (opens made); in_order = all.in_order }

-- later codes accept the first pending send, and name no other
pub record AcceptsFirst (later : ℕ → Option ChanCode) (made : List SendMade) (first : PendingOp ℕ)
    (others : List (PendingOp ℕ)) : Type 0 where
  pub accepted : accepted (map (settled later) made) ≡ accepted made ++ first.value ∷ []
  pub opens : opens (map (settled later) made) ≡ others
  pub in_order : AreInOrder (map (settled later) made)

accepts-one : (later : ℕ → Option ChanCode) (first : PendingOp ℕ) (others : List (PendingOp ℕ))
    (o : Option ChanCode) (op value : ℕ) (deadline : Option ℕ) (rest : List SendMade) →
    opened o (record { op = op; value = value; deadline = deadline; code = o }) (opens rest) ≡ first ∷ others →
    later first.op ≡ Some chan_code.Ok → Each (λ p. later p.op ≡ None) others →
    (o ≡ None → accepted rest ≡ []) → AreInOrder rest →
    (opens rest ≡ first ∷ others → AcceptsFirst later rest first others) →
    AcceptsFirst later (record { op = op; value = value; deadline = deadline; code = o } ∷ rest) first others
accepts-one later first others None op value deadline rest is ok none order behind next =
    let head : record { op = op; deadline = deadline; value = value } ≡ first = cc in
    let tail : opens rest ≡ others = cc in
    let here : later op ≡ Some chan_code.Ok = ap (λ (p : PendingOp ℕ). later p.op) head ∙ ok in
    let left =
    untouched later rest (subst (λ (l : List (PendingOp ℕ)). Each (λ p. later p.op ≡ None) l) (sym tail) none) in
    record {
      accepted =
          rw here (rw (order refl) (ap (λ l. value ∷ l) (left.accepted ∙ order refl)
          ∙ ap (λ (p : PendingOp ℕ). p.value ∷ []) head));
      opens = rw here (left.opens ∙ tail);
      in_order = (
        (λ gone. absurd (let never : Some chan_code.Ok ≡ None = sym here ∙ gone in cc)),
        left.in_order behind,
      );
    }
accepts-one later first others (Some chan_code.Ok) op value deadline rest is ok none order behind next =
    let all = next is in
    record {
      accepted = ap (λ l. value ∷ l) all.accepted;
      opens = all.opens;
      in_order = ((λ gone. absurd (cc)), all.in_order);
    }
accepts-one later first others (Some chan_code.Cancelled) op value deadline rest is ok none order behind next =
    let all = next is in
    record { accepted = all.accepted; opens = all.opens; in_order = ((λ gone. absurd (cc)), all.in_order) }
accepts-one later first others (Some chan_code.Closed) op value deadline rest is ok none order behind next =
    let all = next is in
    record { accepted = all.accepted; opens = all.opens; in_order = ((λ gone. absurd (cc)), all.in_order) }

pub accepts-first : (later : ℕ → Option ChanCode) (made : List SendMade) (first : PendingOp ℕ)
    (others : List (PendingOp ℕ)) → opens made ≡ first ∷ others → later first.op ≡ Some chan_code.Ok →
    Each (λ p. later p.op ≡ None) others → AreInOrder made → AcceptsFirst later made first others
accepts-first later [] first others is ok none order = absurd (cc)
accepts-first later (made ∷ rest) first others is ok none order =
    accepts-one later first others made.code made.op made.value made.deadline rest is ok none order.0 order.1
    (λ same. accepts-first later rest first others same ok none order.1)
