-- The strand of a name, through changes of places and of strands.
use Rattle.std.proofs.Common.{arith, ap, refl, subst, sym, ◌∙◌, ◌≢◌, ⊎_elim}
use Rattle.std.proofs.lemmas.Bool.{true≢false, cases_lt}
use Rattle.std.proofs.lemmas.List.{get_or-set_same, get_or-set_other, get_or_past, set_past}
use Rattle.std.specs.List.{slice_index_or}
use Rattle.std.specs.Prelude.{◌≡◌, ◌<◌, ◌≤◌, ℕ, ◌==◌, ◌&&◌, Bool, true, false, List, Option, Some, None, length, if◌then◌else◌}
use Rattle.io_rules.specs.declared.name.Lane.{Lane}
use Rattle.io_rules.specs.declared.name.Lane.TheVariants as lane
use Rattle.io_rules.specs.declared.name.Name.{Name}
use Rattle.io_rules.specs.declared.place.Life.{Life}
use Rattle.io_rules.specs.declared.place.Place.{Place}
use Rattle.io_rules.specs.InOrder.{strand_if, strand_in}
use Rattle.io_rules.specs.Names.{is_alive, is_current, is_living, is_on, no_place, place_at, same_name, with_freed, with_life}
use Rattle.io_rules.specs.Spares.{with_life_of}
use Rattle.io_rules.specs.State.{StrandState, new_strand, strand_at, with_strand}
use Rattle.io_rules.specs.Strands.{on_lane}
use Rattle.io_rules.proofs.TotalLemmas.{apart, equal, same}

pub record Both (p q : Bool) : Type 0 where
  pub one : p ≡ true
  pub other : q ≡ true

pub both : (p q : Bool) → (p && q) ≡ true → Both p q
both true true is = record { one = refl; other = refl }
both true false is = absurd (true≢false (sym is))
both false q is = absurd (true≢false (sym is))

name_is : (place other generation at : ℕ) → place ≡ other → generation ≡ at →
    let x : Name = record { place = place; generation = generation } in
    let y : Name = record { place = other; generation = at } in x ≡ y
name_is place other generation at p g = cc

pub same-name : (a b : Name) → same_name a b ≡ true → a ≡ b
same-name a b is =
    let parts = both (a.place == b.place) (a.generation == b.generation) is in
    name_is a.place b.place a.generation b.generation (equal a.place b.place parts.one)
    (equal a.generation b.generation parts.other)

pub name-itself : (a : Name) → same_name a a ≡ true
name-itself a = ap (λ b. b && (a.generation == a.generation)) (same a.place) ∙ same a.generation

-- a case split on a test, with what it says
pub by_test : {X : Type 0} (b : Bool) → (b ≡ true → X) → (b ≡ false → X) → X
by_test true one other = one refl
by_test false one other = other refl

-- the strand of this lane is there
abbrev pub IsKnown : List Place → List StrandState → Lane → Type 0
IsKnown places strands lane.Own = Unit {0}
IsKnown places strands (lane.Strand m) = (is_current places m ≡ true) × (m.place < length strands)

-- at one place only one name is current
not_current : (places : List Place) (m n : Name) → is_current places m ≡ true → m.place ≡ n.place →
    same_name m n ≡ false → is_current places n ≡ false
not_current places m n current at differ =
    by_test (is_current places n)
    (λ also. absurd (true≢false (sym (all also) ∙ differ))) (λ is. is)
  where
    all : is_current places n ≡ true → same_name m n ≡ true
    all also =
        let one = equal (place_at places m.place).generation m.generation current in
        let two = equal (place_at places n.place).generation n.generation also in
        let gen : m.generation ≡ n.generation =
        sym one ∙ ap (λ p. (place_at places p).generation) at ∙ two in
        ap (λ b. b && (m.generation == n.generation)) (subst (λ p. (m.place == p) ≡ true) at (same m.place))
        ∙ subst (λ g. (m.generation == g) ≡ true) gen (same m.generation)

-- a change at one strand leaves the others
pub strand-other : (places : List Place) (strands : List StrandState) (m n : Name) (new : StrandState) →
    is_current places m ≡ true → same_name m n ≡ false →
    strand_in places (with_strand m new strands) n ≡ strand_in places strands n
strand-other places strands m n new current differ =
    by_test (n.place == m.place)
    (λ is.
    let none = not_current places m n current (sym (equal n.place m.place is)) differ in
    ap (λ b. strand_if b (strand_at (with_strand m new strands) n)) none
    ∙ sym (ap (λ b. strand_if b (strand_at strands n)) none))
    (λ isnt.
    ap (λ st. strand_if (is_current places n) st)
    (get_or-set_other strands m.place n.place new new_strand (λ e. apart n.place m.place isnt (sym e))))

pub strand-itself : (places : List Place) (strands : List StrandState) (m : Name) (new : StrandState) →
    is_current places m ≡ true → m.place < length strands →
    strand_in places (with_strand m new strands) m ≡ new
strand-itself places strands m new current within =
    ap (λ b. strand_if b (strand_at (with_strand m new strands) m)) current
    ∙ get_or-set_same strands m.place new new_strand within

pub strand_is : (places : List Place) (strands : List StrandState) (m : Name) → is_current places m ≡ true →
    strand_in places strands m ≡ strand_at strands m
strand_is places strands m current = ap (λ b. strand_if b (strand_at strands m)) current

-- a change of a lane's strand changes what its name names, and nothing else
pub strand-on_lane : (places : List Place) (strands : List StrandState) (on : Lane)
    (change : StrandState → StrandState) (n : Name) → IsKnown places strands on →
    strand_in places (on_lane on change strands) n
    ≡ (if is_on n on then change (strand_in places strands n) else strand_in places strands n)
strand-on_lane places strands lane.Own change n known = refl
strand-on_lane places strands (lane.Strand m) change n known =
    by_test (same_name m n)
    (λ is.
    subst
    (λ k. strand_in places (with_strand m (change (strand_at strands m)) strands) k
    ≡ (if same_name m k then change (strand_in places strands k) else strand_in places strands k))
    (same-name m n is)
    (strand-itself places strands m (change (strand_at strands m)) known.0 known.1
    ∙ ap change (sym (strand_is places strands m known.0))
    ∙ sym (ap (λ b. if b then change (strand_in places strands m) else strand_in places strands m) (name-itself m))))
    (λ isnt.
    strand-other places strands m n (change (strand_at strands m)) known.0 isnt
    ∙ sym (ap (λ b. if b then change (strand_in places strands n) else strand_in places strands n) isnt))

-- what has operations is there
pub known_by_tied : (places : List Place) (strands : List StrandState) (m : Name) →
    1 ≤ (strand_in places strands m).tied → IsKnown places strands (lane.Strand m)
known_by_tied places strands m tied =
    let current =
    by_test {X = is_current places m ≡ true} (is_current places m) (λ is. is)
    (λ isnt.
    let none : (strand_in places strands m).tied ≡ 0 =
    ap (λ b. (strand_if b (strand_at strands m)).tied) isnt in
    absurd (omega (arith, none))) in (
      current,
      ⊎_elim (λ (lt : m.place < length strands). lt)
          (λ (le : length strands ≤ m.place).
          let none : (strand_in places strands m).tied ≡ 0 =
          ap (λ (st : StrandState). st.tied)
          (strand_is places strands m current ∙ get_or_past strands m.place new_strand le) in
          absurd (omega (arith, none)))
          (cases_lt m.place (length strands)),
    )

-- what is alive has a place
pub known_alive : (places : List Place) (strands : List StrandState) (m : Name) → length strands ≡ length places →
    is_alive places m ≡ true → IsKnown places strands (lane.Strand m)
known_alive places strands m lengths alive =
    let parts = both (is_current places m) (is_living (place_at places m.place).life) alive in (
      parts.one,
      ⊎_elim (λ (lt : m.place < length strands). lt)
          (λ (le : length strands ≤ m.place).
          let none : is_living (place_at places m.place).life ≡ false =
          ap (λ (p : Place). is_living p.life) (get_or_past places m.place no_place (omega (arith, lengths))) in
          absurd (true≢false (sym parts.other ∙ none)))
          (cases_lt m.place (length strands)),
    )

-- a place keeps its generation whatever lives there
pub generation-with_life : (new : Life) (name : Name) (places : List Place) (p : ℕ) →
    (place_at (with_life new name places) p).generation ≡ (place_at places p).generation
generation-with_life new name places p =
    ⊎_elim
    (λ (lt : name.place < length places).
    by_test (p == name.place)
    (λ is.
    subst (λ k. (place_at (with_life new name places) k).generation ≡ (place_at places k).generation)
    (sym (equal p name.place is))
    (ap (λ (q : Place). q.generation) (get_or-set_same places name.place _ no_place lt)))
    (λ isnt.
    ap (λ (q : Place). q.generation)
    (get_or-set_other places name.place p _ no_place (λ e. apart p name.place isnt (sym e)))))
    (λ (le : length places ≤ name.place).
    ap (λ ps. (place_at ps p).generation) (set_past places name.place _ le))
    (cases_lt name.place (length places))

pub strand-with_life : (new : Life) (name : Name) (places : List Place) (strands : List StrandState) (n : Name) →
    strand_in (with_life new name places) strands n ≡ strand_in places strands n
strand-with_life new name places strands n =
    ap (λ g. strand_if (g == n.generation) (strand_at strands n)) (generation-with_life new name places n.place)

pub strand-with_life_of : (new : Life) (name : Option Name) (places : List Place) (strands : List StrandState)
    (n : Name) → strand_in (with_life_of new name places) strands n ≡ strand_in places strands n
strand-with_life_of new None places strands n = refl
strand-with_life_of new (Some name) places strands n = strand-with_life new name places strands n

new_at : (strands : List StrandState) (m : Name) → strand_at (with_strand m new_strand strands) m ≡ new_strand
new_at strands m =
    ⊎_elim (λ (lt : m.place < length strands). get_or-set_same strands m.place new_strand new_strand lt)
    (λ (le : length strands ≤ m.place).
    ap (λ sts. strand_at sts m) (set_past strands m.place new_strand le)
    ∙ get_or_past strands m.place new_strand le)
    (cases_lt m.place (length strands))

pub new_if : (b : Bool) → strand_if b new_strand ≡ new_strand
new_if true = refl
new_if false = refl

-- of a strand that is forgotten nothing is left
pub strand-freed : (places : List Place) (strands : List StrandState) (m n : Name) → is_current places m ≡ true →
    strand_in (with_freed m places) (with_strand m new_strand strands) n
    ≡ (if same_name m n then new_strand else strand_in places strands n)
strand-freed places strands m n current =
    by_test (n.place == m.place)
    (λ is.
    let at : m.place ≡ n.place = sym (equal n.place m.place is) in
    ap (λ st. strand_if (is_current (with_freed m places) n) st)
    (subst (λ p. slice_index_or (with_strand m new_strand strands) p new_strand ≡ new_strand) at (new_at strands m))
    ∙ new_if (is_current (with_freed m places) n)
    ∙ by_test (same_name m n)
    (λ one. sym (ap (λ b. if b then new_strand else strand_in places strands n) one))
    (λ other.
    sym (ap (λ b. strand_if b (strand_at strands n)) (not_current places m n current at other))
    ∙ sym (ap (λ b. if b then new_strand else strand_in places strands n) other)))
    (λ isnt.
    let ne : n.place ≢ m.place = λ e. apart n.place m.place isnt (sym e) in
    ap (λ (p : Place). strand_if (p.generation == n.generation) (strand_at (with_strand m new_strand strands) n))
    (get_or-set_other places m.place n.place _ no_place ne)
    ∙ ap (λ st. strand_if (is_current places n) st) (get_or-set_other strands m.place n.place new_strand new_strand ne)
    ∙ by_test (same_name m n)
    (λ one. absurd (ne (ap (λ (k : Name). k.place) (sym (same-name m n one)))))
    (λ other. sym (ap (λ b. if b then new_strand else strand_in places strands n) other)))
