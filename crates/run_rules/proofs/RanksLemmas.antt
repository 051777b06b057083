-- What is ready on a strand stands in its order, whatever joins it.
use Rattle.std.proofs.Common.{◌≡◌, ℕ, suc, zero, ◌<◌, List, [], ◌∷◌, ◌++◌, refl, sym, subst, inl, inr, arith}
use Rattle.std.specs.Prelude.{drop, insert, Option, Some, None, IfSome}
use Rattle.std.specs.List.{AllZip}
use Rattle.run_rules.specs.StrictOrder.{Before, Precedes, Readiness}

-- this one goes ahead of each of these
abbrev pub IsAhead : Readiness → List Readiness → Type 0
IsAhead one [] = Unit {0}
IsAhead one (two ∷ others) = Precedes one two × IsAhead one others

-- this was no dispatch from inside, or one of an earlier turn
abbrev pub IsOlder : ℕ → Readiness → Type 0
IsOlder now one = IfSome one.turn (λ turn. turn < now)

-- each goes ahead of those behind it; so many were dispatched in this turn, and the rest wasn't
abbrev pub InOrder : ℕ → ℕ → List Readiness → Type 0
InOrder now front [] = front ≡ 0
InOrder now zero (one ∷ others) = IsOlder now one × IsAhead one others × InOrder now zero others
InOrder now (suc front) (one ∷ others) = (one.turn ≡ Some now) × IsAhead one others × InOrder now front others

-- each became ready before this place
abbrev pub AreBefore : ℕ → List Readiness → Type 0
AreBefore place [] = Unit {0}
AreBefore place (one ∷ others) = (one.place < place) × AreBefore place others

abbrev pub at_end : ℕ → Readiness
at_end place = record { place = place; turn = None }

abbrev pub in_turn : ℕ → ℕ → Readiness
in_turn now place = record { place = place; turn = Some now }

-- one that joins the end

before_end : (turn : Option ℕ) (place later : ℕ) → place < later → Before turn place None later
before_end None place later less = less
before_end (Some turn) place later less = tt

ahead_push : (one : Readiness) (others : List Readiness) (new : Readiness) → IsAhead one others → Precedes one new
    → IsAhead one (others ++ new ∷ [])
ahead_push one [] new ahead goes = (goes, tt)
ahead_push one (two ∷ others) new ahead goes = (ahead.0, ahead_push one others new ahead.1 goes)

pub order_push : (now front place : ℕ) (ranks : List Readiness) → InOrder now front ranks → AreBefore place ranks
    → InOrder now front (ranks ++ at_end place ∷ [])
order_push now front place [] kept earlier =
    let P : ℕ → Type 0 = λ n. InOrder now n (at_end place ∷ []) in subst P (sym kept) (tt, tt, refl)
order_push now zero place (one ∷ others) kept earlier = (
  kept.0,
  ahead_push one others (at_end place) kept.1 (before_end one.turn one.place place earlier.0),
  order_push now zero place others kept.2 earlier.1,
)
order_push now (suc front) place (one ∷ others) kept earlier = (
  kept.0,
  ahead_push one others (at_end place) kept.1 (before_end one.turn one.place place earlier.0),
  order_push now front place others kept.2 earlier.1,
)

-- one that is dispatched in this turn

before_older : (now place : ℕ) (turn : Option ℕ) (later : ℕ) → IfSome turn (λ (t : ℕ). t < now) → Before (Some now) place turn later
before_older now place None later older = tt
before_older now place (Some turn) later older = inl older

ahead_older : (now place : ℕ) (ranks : List Readiness) → InOrder now zero ranks → IsAhead (in_turn now place) ranks
ahead_older now place [] kept = tt
ahead_older now place (one ∷ others) kept =
    (before_older now place one.turn one.place kept.0, ahead_older now place others kept.2)

before_same : (now place later : ℕ) (turn : Option ℕ) → turn ≡ Some now → place < later → Before turn place (Some now) later
before_same now place later turn is less =
    let P : Option ℕ → Type 0 = λ t. Before t place (Some now) later in subst P (sym is) (inr (refl, less))

ahead_insert : (one : Readiness) (front : ℕ) (others : List Readiness) (new : Readiness) → IsAhead one others
    → Precedes one new → IsAhead one (insert others front new)
ahead_insert one zero others new ahead goes = (goes, ahead)
ahead_insert one (suc front) [] new ahead goes = (goes, tt)
ahead_insert one (suc front) (two ∷ others) new ahead goes = (ahead.0, ahead_insert one front others new ahead.1 goes)

pub order_insert : (now front place : ℕ) (ranks : List Readiness) → InOrder now front ranks → AreBefore place ranks
    → InOrder now (suc front) (insert ranks front (in_turn now place))
order_insert now front place [] kept earlier =
    let P : ℕ → Type 0 = λ n. InOrder now (suc n) (insert [] n (in_turn now place)) in subst P (sym kept) (refl, tt, refl)
order_insert now zero place (one ∷ others) kept earlier =
    (refl, ahead_older now place (one ∷ others) kept, kept)
order_insert now (suc front) place (one ∷ others) kept earlier = (
  kept.0,
  ahead_insert one front others (in_turn now place) kept.1
      (before_same now one.place place one.turn kept.0 earlier.0),
  order_insert now front place others kept.2 earlier.1,
)

-- the next turn

older_more : (now : ℕ) (turn : Option ℕ) → IfSome turn (λ (t : ℕ). t < now) → IfSome turn (λ (t : ℕ). t < suc now)
older_more now None older = tt
older_more now (Some turn) older = let less : turn < now = older in omega arith

older_same : (now : ℕ) (turn : Option ℕ) → turn ≡ Some now → IfSome turn (λ (t : ℕ). t < suc now)
older_same now turn is =
    let P : Option ℕ → Type 0 = λ o. IfSome o (λ (t : ℕ). t < suc now) in
    let less : now < suc now = omega arith in subst P (sym is) less

order_aged : (now front : ℕ) (ranks : List Readiness) → InOrder now front ranks → InOrder (suc now) zero ranks
order_aged now front [] kept = refl
order_aged now zero (one ∷ others) kept = (older_more now one.turn kept.0, kept.1, order_aged now zero others kept.2)
order_aged now (suc front) (one ∷ others) kept =
    (older_same now one.turn kept.0, kept.1, order_aged now front others kept.2)

pub order_gone : (now front : ℕ) (ranks : List Readiness) → InOrder now front ranks → InOrder (suc now) zero (drop 1 ranks)
order_gone now front [] kept = refl
order_gone now zero (one ∷ others) kept = order_aged now zero others kept.2
order_gone now (suc front) (one ∷ others) kept = order_aged now front others kept.2

-- when they became ready

pub earlier_more : (place : ℕ) (ranks : List Readiness) → AreBefore place ranks → AreBefore (suc place) ranks
earlier_more place [] earlier = tt
earlier_more place (one ∷ others) earlier =
    let less : one.place < place = earlier.0 in (omega arith, earlier_more place others earlier.1)

pub earlier_push : (place : ℕ) (ranks : List Readiness) (new : Readiness) → AreBefore place ranks → new.place < place
    → AreBefore place (ranks ++ new ∷ [])
earlier_push place [] new earlier less = (less, tt)
earlier_push place (one ∷ others) new earlier less = (earlier.0, earlier_push place others new earlier.1 less)

pub earlier_insert : (place front : ℕ) (ranks : List Readiness) (new : Readiness) → AreBefore place ranks → new.place < place
    → AreBefore place (insert ranks front new)
earlier_insert place zero ranks new earlier less = (less, earlier)
earlier_insert place (suc front) [] new earlier less = (less, tt)
earlier_insert place (suc front) (one ∷ others) new earlier less =
    (earlier.0, earlier_insert place front others new earlier.1 less)

pub earlier_gone : (place : ℕ) (ranks : List Readiness) → AreBefore place ranks → AreBefore place (drop 1 ranks)
earlier_gone place [] earlier = tt
earlier_gone place (one ∷ others) earlier = earlier.1

-- whose they are

-- these operations became ready so
abbrev pub HaveRanks : (ℕ → Option Readiness) → List ℕ → List Readiness → Type 0
HaveRanks ready = AllZip (λ op rank. ready op ≡ Some rank)

pub ranked_push : (ready : ℕ → Option Readiness) (ops : List ℕ) (ranks : List Readiness) (op : ℕ) (rank : Readiness)
    → HaveRanks ready ops ranks → ready op ≡ Some rank → HaveRanks ready (ops ++ op ∷ []) (ranks ++ rank ∷ [])
ranked_push ready [] [] op rank have is = (is, tt)
ranked_push ready [] (one ∷ ranks) op rank have is = absurd have
ranked_push ready (first ∷ ops) [] op rank have is = absurd have
ranked_push ready (first ∷ ops) (one ∷ ranks) op rank have is = (have.0, ranked_push ready ops ranks op rank have.1 is)

pub ranked_insert : (ready : ℕ → Option Readiness) (front : ℕ) (ops : List ℕ) (ranks : List Readiness) (op : ℕ) (rank : Readiness)
    → HaveRanks ready ops ranks → ready op ≡ Some rank → HaveRanks ready (insert ops front op) (insert ranks front rank)
ranked_insert ready zero ops ranks op rank have is = (is, have)
ranked_insert ready (suc front) [] [] op rank have is = (is, tt)
ranked_insert ready (suc front) [] (one ∷ ranks) op rank have is = absurd have
ranked_insert ready (suc front) (first ∷ ops) [] op rank have is = absurd have
ranked_insert ready (suc front) (first ∷ ops) (one ∷ ranks) op rank have is =
    (have.0, ranked_insert ready front ops ranks op rank have.1 is)

pub ranked_gone : (ready : ℕ → Option Readiness) (ops : List ℕ) (ranks : List Readiness) → HaveRanks ready ops ranks
    → HaveRanks ready (drop 1 ops) (drop 1 ranks)
ranked_gone ready [] [] have = tt
ranked_gone ready [] (one ∷ ranks) have = absurd have
ranked_gone ready (first ∷ ops) [] have = absurd have
ranked_gone ready (first ∷ ops) (one ∷ ranks) have = have.1

pub ranked_same : (ready after : ℕ → Option Readiness) → ((op : ℕ) (rank : Readiness) → ready op ≡ Some rank → after op ≡ Some rank)
    → (ops : List ℕ) (ranks : List Readiness) → HaveRanks ready ops ranks → HaveRanks after ops ranks
ranked_same ready after keeps [] [] have = tt
ranked_same ready after keeps [] (one ∷ ranks) have = absurd have
ranked_same ready after keeps (first ∷ ops) [] have = absurd have
ranked_same ready after keeps (first ∷ ops) (one ∷ ranks) have =
    (keeps first one have.0, ranked_same ready after keeps ops ranks have.1)
