-- The script of a group is within the limits of version 2, in text order, and has words.
use Rattle.std.proofs.Common.{◌≡◌, ℕ, ◌<◌, ◌≤◌, ◌⊎◌, inl, inr, zero, suc, false, List, length, Option, Some, None, refl, ap, sym, ◌∙◌, subst, arith}
use Rattle.std.specs.Prelude.{slice_get}
use Rattle.std.specs.List.{All}
use Rattle.std.proofs.lemmas.List.Elements.{All-from_recursion, All-weaker}
use Rattle.asio_types.specs.declared.code.Class.{Class}
use Rattle.asio_types.specs.declared.world.Line.{Line}
use Rattle.asio_types.specs.declared.world.What.{What}
use Rattle.asio_types.specs.declared.world.What.TheVariants as what
use Rattle.session_script.specs.declared.act.Act.{Act}
use Rattle.session_script.specs.Grammar.{IsScript, are_released}
use Rattle.session_script.specs.Groups.{class_number}
use Rattle.session_script.specs.Limits.{limits_of, most_bytes}
use Rattle.session_script.specs.Spelling.{spelling_of}
use Rattle.session_script.specs.Script.{Entry, Place, ScriptModel, act_of, is_stop, parent_of}
use Rattle.session_script.specs.WellFormed.{FitsAct, FitsLine, FitsRound, FitsWhat, HasParent, IsForest, IsNested, in_open, in_branch, IsWellFormed, header_of}
use Rattle.session_script.specs.Writable.{HasWords, IsFedBytes, IsInTextOrder, IsWritable, StandsUnder}
use Rattle.session_script.proofs.WritingLemmas.{writable_is_script}
use Rattle.history_rules.specs.Kinds.{is_act, slot_of}
use Rattle.history_rules.specs.Requests.{slot_in}
use Rattle.history_rules.specs.Rounds.{restarts}
use Rattle.group_script.specs.declared.member.Member.TheVariants as member
use Rattle.group_script.specs.Group.{Group, acts_from, cancelling_of, script_of}
use Rattle.group_script.specs.Limits.{FitsGroup, FitsWorldLine}
use Rattle.group_script.proofs.FlowsLemmas.{Flows, few_acts, flow, opens_of}
use Rattle.group_script.proofs.PlacedLemmas.{Held, IsAt, IsKnown, Under, at, emit, expires, one_slot, operation, parent_in, place_at}

same_entry : (x y : Entry) → Some x ≡ Some y → x ≡ y
same_entry x y same = cc

same_act : (x y : Act) → Some x ≡ Some y → x ≡ y
same_act x y same = cc

same_place_of : (p q : ℕ × Class) → Some p ≡ Some q → p ≡ q
same_place_of p q same = cc

module _ (g : Group) (fits : FitsGroup g) where
  abbrev script : ScriptModel
  script = script_of g

  abbrev all : List Entry
  all = acts_from (cancelling_of g) 0 0 g.members

  pub flows : Flows (length g.members) g.world.streams 0 0 None
      (opens_of (cancelling_of g) g.world.streams fits.members.1 fits.types g.members) all
  flows =
      flow (cancelling_of g) g.world.streams fits.members.1 fits.types g.members 0 0 (omega arith) fits.each

  pub each_at : (k : ℕ) (e : Entry) → slice_get all k ≡ Some e → IsAt (length g.members) g.world.streams all k e
  each_at k e there = at (length g.members) g.world.streams all flows k e there

  fits_known : (a : Act) → IsKnown (length g.members) g.world.streams a → FitsAct (header_of script) a
  unfolding limits_of
  fits_known a (expires i after within short) = (within, short)
  fits_known a (operation i (member.Wait after) within fit) = (within, omega arith, (within, omega arith))
  fits_known a (operation i (member.Read stream size) within fit) = (fit.0, fit.1, omega arith, (within, omega arith))
  fits_known a (emit j types within few) = (within, few)

  words_known : (a : Act) → IsKnown (length g.members) g.world.streams a → HasWords 2 a
  words_known a (expires i after within short) = (tt, tt)
  words_known a (operation i (member.Wait after) within fit) = (tt, inl refl)
  words_known a (operation i (member.Read stream size) within fit) = (tt, inl refl)
  words_known a (emit j types within few) = (tt, tt)

  parent_by : (n : ℕ) (o : Option Entry) → slice_get all n ≡ o → parent_of script n ≡ parent_in o
  parent_by n None there = rw there refl
  parent_by n (Some e) there = rw there refl

  parent_at : (n : ℕ) → parent_of script n ≡ place_at all n
  parent_at n = parent_by n (slice_get all n) refl

  has_parent : (n : ℕ) (e : Entry) → (e.parent ≡ None) ⊎ Under all n e → HasParent all n e.parent
  has_parent n e (inl none) = subst (λ p. HasParent all n p) (sym none) tt
  has_parent n e (inr under) =
      subst (λ p. HasParent all n p) (sym under.is)
      (under.held.before, (under.held.holder, under.held.there, under.held.has under.branch))

  is_nested : (n : ℕ) (e : Entry) → (e.parent ≡ None) ⊎ Under all n e →
      (depth : ℕ) × (depth ≤ 32) × IsNested all e.parent depth
  is_nested n e (inl none) = (1, omega arith, subst (λ p. IsNested all p 1) (sym none) in_open)
  is_nested n e (inr under) = (
    2,
    omega arith,
    subst (λ p. IsNested all p 2) (sym under.is)
        (in_branch under.held.there (subst (λ p. IsNested all p 1) (sym under.held.outermost) in_open)),
  )

  forest : IsForest (header_of script) all
  unfolding limits_of
  forest = record {
    count =
        (let few = few_acts (cancelling_of g) g.world.streams fits.members.1 fits.types g.members 0 0 in
        omega (arith, few, fits.members.1));
    placed = λ n e there.
        (let here = each_at n e there in
        record {
          fits = fits_known e.act here.known;
          parent = has_parent n e here.place;
          nested = is_nested n e here.place;
        });
  }

  fits_line : (line : Line) (w : What) → line.what ≡ w → FitsWorldLine g.world.streams line →
      FitsLine (header_of script) line
  fits_line line (what.Feed bytes) is fit = (
    fit.0,
    fit.1,
    subst (λ (w : What). FitsWhat (header_of script) w) (sym is) (rw is at fit.2),
  )
  fits_line line what.End is fit = (fit.0, fit.1, subst (λ (w : What). FitsWhat (header_of script) w) (sym is) tt)
  fits_line line what.Reset is fit = (fit.0, fit.1, subst (λ (w : What). FitsWhat (header_of script) w) (sym is) tt)
  fits_line line (what.Room room) is fit = (
    fit.0,
    fit.1,
    subst (λ (w : What). FitsWhat (header_of script) w) (sym is) (rw is at fit.2),
  )

  pub is_well_formed : IsWellFormed script
  unfolding limits_of are_released
  is_well_formed = record {
    version = inr refl;
    strands = omega arith;
    timers = omega (arith, fits.members.1);
    slots = omega (arith, fits.members.1);
    streams = fits.streams;
    guards = omega arith;
    acts = forest;
    line_count = fits.line_count;
    lines =
        All-weaker (FitsWorldLine g.world.streams) (FitsLine (header_of script))
        (λ line fit. fits_line line line.what refl fit) g.world.lines fits.lines;
    some_round = omega arith;
    round_count = omega arith;
    rounds = All-from_recursion (FitsRound (header_of script)) script.rounds (fits.workers, tt);
    released = refl;
  }

  -- what stands under an operation, by its number
  under_of : (n op : ℕ) (branch : Class) (o : Option Entry) → slice_get all n ≡ o →
      parent_of script n ≡ Some (op, branch) → Held all n op (class_number branch)
  under_of n op branch None there parent = absurd (cc (sym (parent_by n None there) ∙ parent))
  under_of n op branch (Some e) there parent =
      let placed : e.parent ≡ Some (op, branch) = sym (parent_by n (Some e) there) ∙ parent in
      elim (each_at n e there).place as (λ s. Held all n op (class_number branch)) [
        | inl none ↦ absurd (cc (sym none ∙ placed))
        | inr under ↦
            (let same : (under.op, under.branch) ≡ (op, branch) =
            same_place_of (under.op, under.branch) (op, branch) (sym under.is ∙ placed) in
            subst (λ (p : ℕ × Class). Held all n p.0 (class_number p.1)) same under.held)
      ]

  in_order : IsInTextOrder script
  in_order = record {
    under = λ op n m branch first second parent.
        (let one = (under_of m op branch (slice_get all m) refl parent).between n first second in
        subst (λ p. StandsUnder op p) (sym (parent_at n ∙ one.is)) (omega arith));
    branches = λ op n m first second before one two.
        (let early = under_of n op first (slice_get all n) refl one in
        let found = (under_of m op second (slice_get all m) refl two).between n early.before before in
        let same : (op, found.branch) ≡ (op, first) =
        same_place_of (op, found.branch) (op, first) (sym (parent_at n ∙ found.is) ∙ one) in
        let number : class_number found.branch ≡ class_number first =
        ap (λ (p : ℕ × Class). class_number p.1) same in
        omega (arith, number, found.le));
  }

  -- how deep a body lies
  depth_in_open : (place : Place) (depth : ℕ) → IsNested all place depth → place ≡ None → depth ≡ 1
  depth_in_open place depth in_open open_place = refl
  depth_in_open place depth (in_branch there nested) open_place = absurd (cc open_place)

  same_maker : (op other : ℕ) (a b : Entry) → op ≡ other → slice_get all op ≡ Some a → slice_get all other ≡ Some b →
      a ≡ b
  same_maker op other a b same first second =
      same_entry a b (sym first ∙ ap (slice_get all) same ∙ second)

  depth_in_branch : (place : Place) (depth : ℕ) → IsNested all place depth → (op : ℕ) (c : Class) (maker : Entry) →
      place ≡ Some (op, c) → slice_get all op ≡ Some maker → maker.parent ≡ None → depth ≡ 2
  depth_in_branch place depth in_open op c maker under there outermost = absurd (cc under)
  depth_in_branch place depth (in_branch {op = o} {branch = b} {parent = p} {depth = d} held nested) op c maker under there
      outermost =
      let same_op : o ≡ op = ap (λ (q : ℕ × Class). q.0) (same_place_of (o, b) (op, c) under) in
      let same : p ≡ maker = same_maker o op p maker same_op held there in
      ap suc (depth_in_open p.parent d nested (ap (λ (e : Entry). e.parent) same ∙ outermost))

  shallow : (n depth : ℕ) (o : Option Entry) → slice_get all n ≡ o → IsNested all (parent_of script n) depth →
      depth < 32
  shallow n depth None there nested =
      let one : depth ≡ 1 = depth_in_open _ depth nested (parent_by n None there) in omega (arith, one)
  shallow n depth (Some e) there nested = elim (each_at n e there).place as (λ s. depth < 32) [
    | inl none ↦
        (let one : depth ≡ 1 = depth_in_open _ depth nested (parent_by n (Some e) there ∙ none) in
        omega (arith, one))
    | inr under ↦
        (let two : depth ≡ 2 =
        depth_in_branch _ depth nested under.op under.branch under.held.holder
        (parent_by n (Some e) there ∙ under.is) under.held.there under.held.outermost in
        omega (arith, two))
  ]

  pub known_at : (n : ℕ) (made : Act) (o : Option Entry) → slice_get all n ≡ o → act_of script n ≡ Some made →
      IsKnown (length g.members) g.world.streams made
  known_at n made None there found =
      let none : act_of script n ≡ None = rw there refl in absurd (cc (sym none ∙ found))
  known_at n made (Some e) there found =
      let some : act_of script n ≡ Some e.act = rw there refl in
      let same : e.act ≡ made = same_act e.act made (sym some ∙ found) in
      subst (λ (a : Act). IsKnown (length g.members) g.world.streams a) same (each_at n e there).known

  is_writable : All (λ (line : Line). IsFedBytes line.what) g.world.lines → length (spelling_of script) ≤ most_bytes →
      IsWritable script
  unfolding limits_of
  is_writable fed short = record {
    words = λ n a found. words_known a (known_at n a (slice_get all n) refl found);
    fed = fed;
    order = in_order;
    depth = λ n depth a found branch nested. shallow n depth (slice_get all n) refl nested;
    size = short;
  }

  pub is_script : All (λ (line : Line). IsFedBytes line.what) g.world.lines → length (spelling_of script) ≤ most_bytes →
      IsScript (spelling_of script) script
  is_script fed short = writable_is_script script is_well_formed (is_writable fed short)

  -- what the law asks of a script
  slot_by : (n i : ℕ) (o : Option Entry) → slice_get all n ≡ o → slot_in (act_of script n) ≡ Some i →
      (e : Entry) × (slice_get all n ≡ Some e) × (slot_of e.act ≡ Some i)
  slot_by n i None there slot =
      absurd (let none : act_of script n ≡ None = rw there refl in
      let wrong : None ≡ Some i = sym (ap slot_in none) ∙ slot in
      cc)
  slot_by n i (Some e) there slot =
      let some : act_of script n ≡ Some e.act = rw there refl in
      (e, there, sym (ap slot_in some) ∙ slot)

  pub alone : (o p i : ℕ) → slot_in (act_of script o) ≡ Some i → slot_in (act_of script p) ≡ Some i → p ≡ o
  alone o p i first second =
      let one = slot_by o i (slice_get all o) refl first in
      let two = slot_by p i (slice_get all p) refl second in
      one_slot flows o p i one.0 two.0 one.1 two.1 one.2 two.2

  stops_not : (a : Act) → IsKnown (length g.members) g.world.streams a → is_stop a ≡ false
  stops_not a (expires i after within short) = refl
  stops_not a (operation i (member.Wait after) within fit) = refl
  stops_not a (operation i (member.Read stream size) within fit) = refl
  stops_not a (emit j types within few) = refl

  stop_by : (n : ℕ) (o : Option Entry) → slice_get all n ≡ o → is_act is_stop script n ≡ false
  stop_by n None there = rw there refl
  stop_by n (Some e) there = rw there (stops_not e.act (each_at n e there).known)

  pub no_stop : (n : ℕ) → is_act is_stop script n ≡ false
  no_stop n = stop_by n (slice_get all n) refl

  pub no_restart : (k : ℕ) → restarts (slice_get script.rounds k) ≡ false
  no_restart k = by_round k
    where
      by_round : (k : ℕ) → restarts (slice_get script.rounds k) ≡ false
      by_round zero = refl
      by_round (suc k) = refl
