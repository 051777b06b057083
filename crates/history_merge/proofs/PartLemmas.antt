-- The label at an index of what a list of parts makes: in which part it stands, and what stands before it.
use Rattle.std.proofs.Common.{◌≡◌, ℕ, zero, suc, ◌+◌, ◌-◌, ◌<◌, ◌≤◌, List, [], ◌∷◌, ◌++◌, inl, inr, length, refl, sym, ap, subst, ◌∙◌, arith}
use Rattle.std.proofs.lemmas.Bool.{cases_lt}
use Rattle.std.proofs.lemmas.List.{append_assoc}
use mathlib.Core.Option.{some, some-injective, some-ne-none}
use lib.ListN.{get_elem?}
use Rattle.lane_clock.specs.declared.step.ClockStep.{ClockStep}
use Rattle.lane_logs.specs.Labels.{Labelled, step_of, steps_in}
use Rattle.lane_logs.specs.OpenerLog.{OpenerPart, labels_of_opener, opener_labels}
use Rattle.lane_logs.specs.Parts.{Part, labels_in, labels_of}
use Rattle.lane_logs.specs.WorkerLog.{WorkerPart, labels_of_worker, worker_label}
use Rattle.session_script.specs.Script.{ScriptModel}

-- an element of a list parts it
pub record IsParted (A : Type 0) (xs : List A) (i : ℕ) (x : A) : Type 0 where
  pub before : List A
  pub after : List A
  pub parts : xs ≡ before ++ x ∷ after
  pub index : i ≡ length before

module _ {A : Type 0} where
  pub parted : (xs : List A) (i : ℕ) (x : A) → get_elem? xs i ≡ some x → IsParted A xs i x
  parted [] i x at = absurd (some-ne-none x (sym at))
  parted (y ∷ xs) zero x at =
      record { before = []; after = xs; parts = ap (λ z. z ∷ xs) (some-injective y x at); index = refl }
  parted (y ∷ xs) (suc i) x at =
      let rest = parted xs i x at in
      record {
        before = y ∷ rest.before;
        after = rest.after;
        parts = ap (λ zs. y ∷ zs) rest.parts;
        index = omega (arith, rest.index);
      }

  pub at_seam : (before : List A) (x : A) (after : List A) → get_elem? (before ++ x ∷ after) (length before) ≡ some x
  at_seam [] x after = refl
  at_seam (y ∷ before) x after = at_seam before x after

  pub at_left : (xs ys : List A) (i : ℕ) → i < length xs → get_elem? (xs ++ ys) i ≡ get_elem? xs i
  at_left [] ys i within = absurd (omega (arith, within))
  at_left (x ∷ xs) ys zero within = refl
  at_left (x ∷ xs) ys (suc i) within = at_left xs ys i (omega (arith, within))

  pub at_right : (xs ys : List A) (i j : ℕ) → i ≡ length xs + j → get_elem? (xs ++ ys) i ≡ get_elem? ys j
  at_right [] ys i j is = ap (get_elem? ys) (let same : i ≡ j = omega (arith, is) in same)
  at_right (x ∷ xs) ys zero j is = absurd (omega (arith, is))
  at_right (x ∷ xs) ys (suc i) j is = at_right xs ys i j (omega (arith, is))

-- what holds of each element
abbrev pub Every : {A : Type 0} → (A → Type 0) → List A → Type 0
Every P [] = Unit {0}
Every P (x ∷ xs) = P x × Every P xs

module _ {A : Type 0} (P : A → Type 0) where
  pub every-append : (xs ys : List A) → Every P xs → Every P ys → Every P (xs ++ ys)
  every-append [] ys first second = second
  every-append (x ∷ xs) ys first second = (first.0, every-append xs ys first.1 second)

  pub every_at : (xs : List A) → Every P xs → (i : ℕ) (x : A) → get_elem? xs i ≡ some x → P x
  every_at [] all i x at = absurd (some-ne-none x (sym at))
  every_at (y ∷ xs) all zero x at = subst P (some-injective y x at) all.0
  every_at (y ∷ xs) all (suc i) x at = every_at xs all.1 i x at

pub every_so : {A : Type 0} (P Q : A → Type 0) → ((x : A) → P x → Q x) → (xs : List A) → Every P xs → Every Q xs
every_so P Q so [] all = tt
every_so P Q so (x ∷ xs) all = (so x all.0, every_so P Q so xs all.1)

pub every_all : {A : Type 0} (Q : A → Type 0) → ((x : A) → Q x) → (xs : List A) → Every Q xs
every_all Q so [] = tt
every_all Q so (x ∷ xs) = (so x, every_all Q so xs)

-- What parts make one after another, the newest part first: each some labels
module _ (P : Type 0) (made : P → List Labelled) where
  abbrev pub all_made : List P → List Labelled
  all_made [] = []
  all_made (part ∷ parts) = all_made parts ++ made part

  -- the label with this index stands in this part, behind all earlier parts and some labels of its own
  pub record IsMadeAt (parts : List P) (i : ℕ) (label : Labelled) : Type 0 where
    pub later : List P
    pub part : P
    pub earlier : List P
    pub before : List Labelled
    pub after : List Labelled
    pub parts_are : parts ≡ later ++ part ∷ earlier
    pub labels_are : made part ≡ before ++ label ∷ after
    pub index : i ≡ length (all_made earlier) + length before

  -- what parts make from one on
  pub made-append : (later earlier : List P) → (rest : List Labelled) × (all_made (later ++ earlier) ≡ all_made earlier ++ rest)
  made-append [] earlier = ([], sym (nothing (all_made earlier)))
    where
      nothing : (xs : List Labelled) → xs ++ [] ≡ xs
      nothing [] = refl
      nothing (x ∷ xs) = ap (λ ys. x ∷ ys) (nothing xs)
  made-append (part ∷ later) earlier =
      let more = made-append later earlier in
      (more.0 ++ made part, ap (λ xs. xs ++ made part) more.1 ∙ append_assoc (all_made earlier) more.0 (made part))

  module _ (part : P) (parts : List P) (i : ℕ) (label : Labelled) where
    in_last : IsParted Labelled (made part) (i - length (all_made parts)) label → length (all_made parts) ≤ i →
        IsMadeAt (part ∷ parts) i label
    in_last at beyond = record {
      later = [];
      part = part;
      earlier = parts;
      before = at.before;
      after = at.after;
      parts_are = refl;
      labels_are = at.parts;
      index = omega (arith, at.index, beyond);
    }

    in_earlier : IsMadeAt parts i label → IsMadeAt (part ∷ parts) i label
    in_earlier at = record {
      later = part ∷ at.later;
      part = at.part;
      earlier = at.earlier;
      before = at.before;
      after = at.after;
      parts_are = ap (λ rest. part ∷ rest) at.parts_are;
      labels_are = at.labels_are;
      index = at.index;
    }

  pub made_at : (parts : List P) (i : ℕ) (label : Labelled) → get_elem? (all_made parts) i ≡ some label →
      IsMadeAt parts i label
  made_at [] i label at = absurd (some-ne-none label (sym at))
  made_at (part ∷ parts) i label at = elim (cases_lt i (length (all_made parts))) [
    | inl within ↦
        in_earlier part parts i label
        (made_at parts i label (sym (at_left (all_made parts) (made part) i within) ∙ at))
    | inr beyond ↦
        in_last part parts i label
        (parted (made part) (i - length (all_made parts)) label
        (sym (at_right (all_made parts) (made part) i (i - length (all_made parts)) (omega (arith, beyond))) ∙ at)) beyond
  ]

  -- the labels up to it, and then it
  pub made_up_to : (parts : List P) (i : ℕ) (label : Labelled) (at : IsMadeAt parts i label) →
      (rest : List Labelled) × (all_made parts ≡ (all_made at.earlier ++ at.before) ++ label ∷ rest)
  made_up_to parts i label at =
      let more = made-append at.later (at.part ∷ at.earlier) in (
        at.after ++ more.0,
        ap all_made at.parts_are
            ∙ (more.1
            ∙ (ap (λ xs. (all_made at.earlier ++ xs) ++ more.0) at.labels_are
            ∙ (append_assoc (all_made at.earlier) (at.before ++ label ∷ at.after) more.0
            ∙ (ap (λ xs. all_made at.earlier ++ xs) (append_assoc at.before (label ∷ at.after) more.0)
            ∙ sym (append_assoc (all_made at.earlier) at.before (label ∷ (at.after ++ more.0))))))),
      )

  -- what holds of each part behind its earlier ones
  module _ (May : List P → P → Type 0) where
    abbrev pub Follow : List P → Type 0
    Follow [] = Unit {0}
    Follow (part ∷ parts) = Follow parts × May parts part

    pub follow_from : (later earlier : List P) → Follow (later ++ earlier) → Follow earlier
    follow_from [] earlier all = all
    follow_from (part ∷ later) earlier all = follow_from later earlier all.0

    pub follows_at : (parts : List P) (i : ℕ) (label : Labelled) (at : IsMadeAt parts i label) → Follow parts →
        May at.earlier at.part
    follows_at parts i label at all =
        (follow_from at.later (at.part ∷ at.earlier) (subst Follow at.parts_are all)).1

    -- and so of each of their labels
    pub every_made : (Q : Labelled → Type 0) → ((earlier : List P) (part : P) → May earlier part → Every Q (made part)) →
        (parts : List P) → Follow parts → Every Q (all_made parts)
    every_made Q each [] all = tt
    every_made Q each (part ∷ parts) all =
        every-append Q (all_made parts) (made part) (every_made Q each parts all.0) (each parts part all.1)

    -- also of what holds of a label among some, and so among more
    module _ (Q : List Labelled → Labelled → Type 0)
        (more_behind : (xs ys : List Labelled) (label : Labelled) → Q xs label → Q (xs ++ ys) label)
        (more_before : (xs ys : List Labelled) (label : Labelled) → Q ys label → Q (xs ++ ys) label)
        (each : (earlier : List P) (part : P) → May earlier part → Every (Q (made part)) (made part)) where
      pub every_among : (parts : List P) → Follow parts → Every (Q (all_made parts)) (all_made parts)
      every_among [] all = tt
      every_among (part ∷ parts) all =
          let whole : List Labelled = all_made parts ++ made part in
          every-append (Q whole) (all_made parts) (made part)
          (every_so (Q (all_made parts)) (Q whole) (more_behind (all_made parts) (made part)) (all_made parts)
          (every_among parts all.0))
          (every_so (Q (made part)) (Q whole) (more_before (all_made parts) (made part)) (made part)
          (each parts part all.1))

-- the labels of a lane, of a worker and of the opener are so
pub lane_made : (script : ScriptModel) (lane : ℕ) (parts : List Part) →
    labels_of script lane parts ≡ all_made Part (labels_in script lane) parts
lane_made script lane [] = refl
lane_made script lane (part ∷ parts) = ap (λ xs. xs ++ labels_in script lane part) (lane_made script lane parts)

abbrev pub labels_worker : WorkerPart → List Labelled
labels_worker part = worker_label part ∷ []

pub worker_made : (parts : List WorkerPart) → labels_of_worker parts ≡ all_made WorkerPart labels_worker parts
worker_made [] = refl
worker_made (part ∷ parts) = ap (λ xs. xs ++ labels_worker part) (worker_made parts)

pub opener_made : (parts : List OpenerPart) → labels_of_opener parts ≡ all_made OpenerPart opener_labels parts
opener_made [] = refl
opener_made (part ∷ parts) = ap (λ xs. xs ++ opener_labels part) (opener_made parts)

-- the label behind a step
pub label_of_step : (labels : List Labelled) (i : ℕ) (step : ClockStep) → get_elem? (steps_in labels) i ≡ some step →
    (label : Labelled) × (get_elem? labels i ≡ some label) × (step_of label ≡ step)
label_of_step [] i step at = absurd (some-ne-none step (sym at))
label_of_step (label ∷ labels) zero step at = (label, refl, some-injective (step_of label) step at)
label_of_step (label ∷ labels) (suc i) step at = label_of_step labels i step at

pub step_of_label : (labels : List Labelled) (i : ℕ) (label : Labelled) → get_elem? labels i ≡ some label →
    get_elem? (steps_in labels) i ≡ some (step_of label)
step_of_label [] i label at = absurd (some-ne-none label (sym at))
step_of_label (other ∷ labels) zero label at = ap (λ x. some (step_of x)) (some-injective other label at)
step_of_label (other ∷ labels) (suc i) label at = step_of_label labels i label at
