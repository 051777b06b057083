-- What stands longest in the queue of a strand is what its table gives first.
use Rattle.std.proofs.Common.{◌≡◌, ℕ, ◌≤◌, List, refl, ap, subst, sym, ◌∙◌, arith}
use Rattle.std.proofs.lemmas.Bool.{leb-true, le-leb}
use Rattle.std.specs.Prelude.{Bool, true, false, nat_le, if◌then◌else◌, Option, Some, None, IfSome, IsSomeAnd}
use Rattle.run_lines.specs.declared.line.Line.{Line}
use Rattle.run_rules.specs.Against.{StandsLongest}
use Rattle.run_rules.specs.Calls.{strand_of}
use Rattle.run_rules.specs.Starting.{GoesBefore}
use Rattle.run_check.specs.After.{spot_of}
use Rattle.run_check.specs.Judging.{place_upto}
use Rattle.run_check.specs.declared.waiting.Waiter.{Waiter}
use Rattle.run_check.proofs.RuleLemmas.{Says, goes_spot, some_number, spot_goes}

none_some : {X : Type 0} (n : ℕ) → None ≡ Some n → X
none_some n e = absurd (differ e)
  where
    differ : None ≡ Some n → ⊥
    differ h = cc

pub no_longest : (past : List Line) (op place : ℕ) → strand_of past op ≡ None → StandsLongest past op place → ⊥
no_longest past op place none stands = none_some stands.strand (sym none ∙ stands.same)

longest_in : (past : List Line) (op strand : ℕ) (waiter : Waiter) → Says past op waiter → strand_of past op ≡ Some strand
    → (first : ℕ × ℕ) → ((other place : ℕ) → spot_of past other ≡ Some (strand, place) → first.0 ≤ place)
    → spot_of past first.1 ≡ Some (strand, first.0) → IsSomeAnd waiter.entry (λ e. first.0 ≤ e)
    → StandsLongest past op first.0
longest_in past op strand waiter says on first least stands upto =
    let goes = spot_goes past op strand waiter says first.1 first.0 stands upto in
    record {
      first = first.1;
      strand = strand;
      same = on;
      goes = goes.0;
      placed = goes.1;
      longest = λ other since before placed. least other since
          (goes_spot past op strand other since waiter says before placed).0;
    }

pub longest_is : (past : List Line) (op strand : ℕ) (waiter : Waiter) → Says past op waiter → strand_of past op ≡ Some strand
    → (first : Option (ℕ × ℕ))
    → ((other place : ℕ) → spot_of past other ≡ Some (strand, place) → IsSomeAnd first (λ f. f.0 ≤ place))
    → IfSome first (λ f. spot_of past f.1 ≡ Some (strand, f.0)) → (entry : Option ℕ) → waiter.entry ≡ entry → (place : ℕ)
    → place_upto first entry ≡ Some place → StandsLongest past op place
longest_is past op strand waiter says on None least stands entry is place found = none_some place found
longest_is past op strand waiter says on (Some first) least stands None is place found = none_some place found
longest_is past op strand waiter says on (Some first) least stands (Some entry) is place found =
    by_test (nat_le first.0 entry) refl
  where
    by_test : (b : Bool) → nat_le first.0 entry ≡ b → StandsLongest past op place
    by_test true e =
        let same : first.0 ≡ place =
        some_number first.0 place (sym (ap (λ (t : Bool). if t then Some first.0 else None) e) ∙ found) in
        subst (λ (n : ℕ). StandsLongest past op n) same
        (longest_in past op strand waiter says on first least stands
        (subst (λ (o : Option ℕ). IsSomeAnd o (λ n. first.0 ≤ n)) (sym is) (leb-true first.0 entry e)))
    by_test false e = none_some place (sym (ap (λ (t : Bool). if t then Some first.0 else None) e) ∙ found)

pub is_longest : (past : List Line) (op strand : ℕ) (waiter : Waiter) → Says past op waiter → strand_of past op ≡ Some strand
    → (first : Option (ℕ × ℕ))
    → ((other place : ℕ) → spot_of past other ≡ Some (strand, place) → IsSomeAnd first (λ f. f.0 ≤ place))
    → IfSome first (λ f. spot_of past f.1 ≡ Some (strand, f.0)) → (entry : Option ℕ) → waiter.entry ≡ entry → (place : ℕ)
    → StandsLongest past op place → place_upto first entry ≡ Some place
is_longest past op strand waiter says on first least stands entry is place found =
    let here : found.strand ≡ strand = some_number found.strand strand (sym found.same ∙ on) in
    let goes : GoesBefore past found.first op strand = subst (λ (s : ℕ). GoesBefore past found.first op s) here found.goes in
    let spot = goes_spot past op strand found.first place waiter says goes found.placed in
    by_first first stands (least found.first place spot.0) entry
    (subst (λ (o : Option ℕ). IsSomeAnd o (λ n. place ≤ n)) is spot.1) is
  where
    by_first : (o : Option (ℕ × ℕ)) → IfSome o (λ f. spot_of past f.1 ≡ Some (strand, f.0)) → IsSomeAnd o (λ f. f.0 ≤ place)
        → (e : Option ℕ) → IsSomeAnd e (λ n. place ≤ n) → waiter.entry ≡ e → place_upto o e ≡ Some place
    by_first None there less e upto same = absurd less
    by_first (Some f) there less None upto same = absurd upto
    by_first (Some f) there less (Some e) upto same =
        let within : f.0 ≤ e = omega (arith, less, upto) in
        let goes = spot_goes past op strand waiter says f.1 f.0 there
        (subst (λ (o : Option ℕ). IsSomeAnd o (λ n. f.0 ≤ n)) (sym same) within) in
        let here : strand ≡ found.strand = some_number strand found.strand (sym on ∙ found.same) in
        let least_too : place ≤ f.0 = found.longest f.1 f.0 (subst (λ (s : ℕ). GoesBefore past f.1 op s) here goes.0) goes.1 in
        let equal : f.0 ≡ place = omega (arith, less, least_too) in
        ap (λ (t : Bool). if t then Some f.0 else None) (le-leb f.0 e within) ∙ ap (λ (n : ℕ). Some n) equal
