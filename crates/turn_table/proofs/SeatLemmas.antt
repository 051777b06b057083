-- What is known of a seat that was taken out of its badge for a call.
use Rattle.std.proofs.Common.{◌≡◌, ℕ, suc, ◌-◌, ◌<◌, ◌≤◌, List, [], ◌∷◌, ◌++◌, map, reverse, sym, ap, ◌∙◌, subst, zero-add, arith, None}
use Rattle.std.proofs.lemmas.List.{reverse-append}
use Rattle.atomic_table.specs.Seated.{TableId}
use Rattle.turn_table.specs.declared.place.TurnView.{TurnView}
use Rattle.turn_table.specs.Numbers.{Has, all_below, run_from}
use Rattle.turn_table.specs.Seated.{HasTurn, Seated, seated, IsSeatReady, Lanes, StandsForTwo, first_seat, new_turn_seat, without_greatest, without_turn, greatest_alone}
use Rattle.turn_table.proofs.NumberLemmas.{below-without, has_below, has_run, run-greatest, run-without_greatest}

pub record IsSat (seat : Seated) (view : TurnView) : Type 0 where
  pub hand : view.hand ≡ None
  pub number : (n : ℕ) × Has view.numbers n
  pub turns : seat.turns ≡ view.turns
  pub numbers : seat.numbers ≡ view.numbers
  pub seats : seat.seats ≡ view.seats

abbrev head_or : TurnView → List TurnView → TurnView
head_or d [] = d
head_or d (v ∷ vs) = v

pub sat : (table : TableId) (views : List TurnView) (seat : Seated) (view : TurnView) → IsSeatReady views →
    seated table views ≡ seat → views ≡ view ∷ [] → IsSat seat view
sat table views seat view ready is sole =
    let same : ready.view ≡ view = ap (head_or view) (sym ready.sole ∙ sole) in
    let seen : seat ≡ seated table (view ∷ []) = sym is ∙ ap (seated table) sole in
    record {
      hand = ap (λ (v : TurnView). v.hand) (sym same) ∙ ready.hand;
      number = (ready.number, subst (λ (v : TurnView). Has v.numbers ready.number) same ready.stands);
      turns = ap (λ (s : Seated). s.turns) seen;
      numbers = ap (λ (s : Seated). s.numbers) seen;
      seats = ap (λ (s : Seated). s.seats) seen;
    }

-- the seat of all numbers, with the turns of the lanes below one
abbrev pub holding : Lanes → ℕ → Seated
holding lanes n = record (first_seat lanes lanes.seats) { turns = all_below n }

module _ (lanes : Lanes) (seat : Seated) (n lane : ℕ) (is : seat ≡ holding lanes (suc n)) (last : lane ≡ n) where
  pub has_last : HasTurn seat lane
  has_last = subst (λ (s : Seated). HasTurn s lane) (sym is) (has_below lane (suc n) (omega (arith, last)))

  pub gave_last : (now : Seated) → now ≡ without_turn lane seat → now ≡ holding lanes n
  gave_last now given =
      given
      ∙ (ap (λ k. without_turn k seat) last
      ∙ (ap (without_turn n) is
      ∙ ap (λ ts. record (first_seat lanes lanes.seats) { turns = ts }) (below-without n)))

-- the seat of the numbers below left, after a part: m is left less 1
pub parted_one : (lanes : Lanes) (seat rest : Seated) (left m : ℕ) → left ≡ suc m → seat ≡ first_seat lanes left →
    rest ≡ without_greatest seat → rest ≡ first_seat lanes m
parted_one lanes seat rest left m e is parted =
    parted
    ∙ (ap without_greatest (is ∙ ap (first_seat lanes) e)
    ∙ ap (λ ns. record (first_seat lanes m) { numbers = ns }) (run-without_greatest 0 m))

-- and the new seats, the last made first
pub made_one : (lanes : Lanes) (seat made : Seated) (left m count : ℕ) (old new : List Seated) → left ≡ suc m →
    left ≤ count → seat ≡ first_seat lanes left → made ≡ greatest_alone seat →
    reverse old ≡ map (new_turn_seat lanes) (run_from left (count - left)) → new ≡ old ++ made ∷ [] →
    reverse new ≡ map (new_turn_seat lanes) (run_from m (count - m))
made_one lanes seat made left m count old new e below is alone others pushed =
    let one : made ≡ new_turn_seat lanes m =
    alone
    ∙ (ap greatest_alone (is ∙ ap (first_seat lanes) e) ∙ ap (new_turn_seat lanes) (run-greatest 0 m ∙ zero-add m)) in
    let size : suc (count - left) ≡ count - m = omega arith in
    ap reverse pushed ∙ (reverse-append old (made ∷ []) ∙ (ap (λ s. s ∷ reverse old) one
    ∙ (ap (λ l. new_turn_seat lanes m ∷ l) others
    ∙ (ap (λ n. new_turn_seat lanes m ∷ map (new_turn_seat lanes) (run_from n (count - left))) e
    ∙ ap (λ k. map (new_turn_seat lanes) (run_from m k)) size))))

-- a seat of more than one number may part
pub two_of : (lanes : Lanes) (seat : Seated) (left : ℕ) → 1 < left → seat ≡ first_seat lanes left → StandsForTwo seat
two_of lanes seat left more is =
    subst StandsForTwo (sym is) (
      0,
      1,
      (λ e. omega arith),
      has_run 0 0 left (omega arith) (omega arith),
      has_run 1 0 left (omega arith) (omega arith),
    )
