-- Lines of chains come before later lines of their chains.
use Rattle.std.proofs.Common.{◌≡◌, ◌+◌, ℕ, suc, ◌<◌, ◌≤◌, List, refl, ap, sym, subst, ◌∙◌, inl, inr, ⊎_elim, arith}
use Rattle.std.proofs.lemmas.Bool.{cases_Bool, eq-eqb, eqb-true, ne_eqb}
use Rattle.std.specs.Prelude.{◌⊎◌, ◌==◌, Bool, true, false, if◌then◌else◌, Option, Some, None, nat_eq}
use Rattle.std.specs.HashMap.{get}
use Rattle.run_lines.specs.declared.line.Line.{Line}
use Rattle.run_orders.specs.Forced.{IsForced, through}
use Rattle.run_orders.proofs.TreeLemmas.{some_same}
use Rattle.run_joins.specs.Reaching.{IsUpTo}
use Rattle.run_forced.specs.declared.chains.Chains.{Chains}
use Rattle.run_forced.specs.declared.clock.Clock.{Clock}
use Rattle.run_forced.specs.declared.clock.Seen.{Seen}
use Rattle.run_forced.specs.Chains.{AreChains, IsKnown, IsOnChain, IsPut, MayGoOn, Reaches, chain_of, tip_of}
use Rattle.run_forced.specs.Clocks.{names}

pub when_true : {T : Type 0} (test : Bool) (one other : T) → test ≡ true → (if test then one else other) ≡ one
when_true true one other is = refl
when_true false one other is = cc

pub when_false : {T : Type 0} (test : Bool) (one other : T) → test ≡ false → (if test then one else other) ≡ other
when_false true one other is = cc
when_false false one other is = refl

two : (a b : ℕ) → a ≤ b → (a ≡ b) ⊎ (a < b)
two a b less = grind (arith)

-- a line of a chain is a later one, or comes before it
upto_on : (run : List Line) (lines : ℕ) (chains : Chains) (chain first later : ℕ) → AreChains run lines chains
    → chain_of chains first ≡ Some chain → chain_of chains later ≡ Some chain → first ≤ later → IsUpTo run first later
upto_on run lines chains chain first later are on on_too less =
    ⊎_elim (λ same. inl same) (λ (before : first < later). inr (are.ordered chain first later on on_too before)) (two first later less)

pub upto_forced : (run : List Line) (first middle later : ℕ) → IsUpTo run first middle → IsForced run middle later
    → IsForced run first later
upto_forced run first middle later upto forced =
    ⊎_elim (λ (same : first ≡ middle). subst (λ (p : ℕ). IsForced run p later) (sym same) forced)
    (λ (before : IsForced run first middle). through middle before forced) upto

pub upto_upto : (run : List Line) (first middle later : ℕ) → IsUpTo run first middle → IsUpTo run middle later → IsUpTo run first later
upto_upto run first middle later upto next =
    ⊎_elim (λ (same : middle ≡ later). subst (λ (p : ℕ). IsUpTo run first p) same upto)
    (λ (forced : IsForced run middle later). inr (upto_forced run first middle later upto forced)) next

-- what a clock names of the chain of a line is that line, or a later one
pub known_upto : (run : List Line) (lines place : ℕ) (chains : Chains) (clock : Clock) → AreChains run lines chains
    → (known : IsKnown chains clock place) → chain_of chains known.seen.place ≡ Some known.seen.chain → IsUpTo run place known.seen.place
known_upto run lines place chains clock are known on =
    upto_on run lines chains known.seen.chain place known.seen.place are known.on on known.upto

-- one line more is put on a chain

put_line : (seen : Seen) (old new : Chains) (place chain : ℕ) → IsPut seen old new → chain_of new place ≡ Some chain
    → ((seen.place ≡ place) × (seen.chain ≡ chain)) ⊎ (chain_of old place ≡ Some chain)
put_line seen old new place chain put is =
    ⊎_elim
    (λ (here : (seen.place == place) ≡ true).
    inl (eqb-true seen.place place here, some_same seen.chain chain (sym (put.lines place ∙ when_true (seen.place == place) (Some seen.chain) (chain_of old place) here) ∙ is)))
    (λ (elsewhere : (seen.place == place) ≡ false). inr (sym (put.lines place ∙ when_false (seen.place == place) (Some seen.chain) (chain_of old place) elsewhere) ∙ is))
    (cases_Bool (seen.place == place))

put_tip : (seen : Seen) (old new : Chains) (chain tip : ℕ) → IsPut seen old new → tip_of new chain ≡ Some tip
    → ((seen.chain ≡ chain) × (seen.place ≡ tip)) ⊎ (tip_of old chain ≡ Some tip)
put_tip seen old new chain tip put is =
    ⊎_elim
    (λ (here : (seen.chain == chain) ≡ true).
    inl (eqb-true seen.chain chain here, some_same seen.place tip (sym (put.tips chain ∙ when_true (seen.chain == chain) (Some seen.place) (tip_of old chain) here) ∙ is)))
    (λ (elsewhere : (seen.chain == chain) ≡ false). inr (sym (put.tips chain ∙ when_false (seen.chain == chain) (Some seen.place) (tip_of old chain) elsewhere) ∙ is))
    (cases_Bool (seen.chain == chain))

-- a line that was put before stays on its chain
pub put_stays : (run : List Line) (seen : Seen) (old new : Chains) (place chain : ℕ) → AreChains run seen.place old → IsPut seen old new
    → chain_of old place ≡ Some chain → chain_of new place ≡ Some chain
put_stays run seen old new place chain are put is =
    put.lines place
    ∙ when_false (seen.place == place) (Some seen.chain) (chain_of old place)
    (ne_eqb seen.place place (λ e. apart e (are.below place chain is))) ∙ is
  where
    apart : {a b : ℕ} → a ≡ b → b < a → ⊥
    apart same less = absurd (omega arith)

-- all lines of its chain come before the line that is put
before_put : (run : List Line) (lines place chain first : ℕ) (chains : Chains) (clock : Clock) → AreChains run lines chains
    → MayGoOn chains clock chain
    → ((seen : Seen) → names clock seen → (chain_of chains seen.place ≡ Some seen.chain) × IsForced run seen.place place)
    → chain_of chains first ≡ Some chain → IsForced run first place
before_put run lines place chain first chains clock are may before on =
    let end = are.ends first chain on in
    ⊎_elim
    (λ (reaches : Reaches chains clock chain).
    let known = before reaches.seen reaches.named in
    let tip : end.tip ≡ reaches.tip = some_same end.tip reaches.tip (sym end.tip_is ∙ reaches.tip_is) in
    let on_too : chain_of chains reaches.seen.place ≡ Some chain = known.0 ∙ ap Some reaches.same in
    upto_forced run first reaches.seen.place place
    (upto_on run lines chains chain first reaches.seen.place are on on_too (less end.upto tip reaches.upto)) known.1)
    (λ (none : tip_of chains chain ≡ None). absurd (not_some end.tip (sym end.tip_is ∙ none))) may
  where
    less : {a b c d : ℕ} → a ≤ b → b ≡ c → c ≤ d → a ≤ d
    less one same other = omega arith

    not_some : (tip : ℕ) → Some tip ≡ None → ⊥
    not_some tip is = cc

pub chains_put : (run : List Line) (seen : Seen) (old new : Chains) (clock : Clock) → AreChains run seen.place old → IsPut seen old new
    → MayGoOn old clock seen.chain
    → ((other : Seen) → names clock other → (chain_of old other.place ≡ Some other.chain) × IsForced run other.place seen.place)
    → AreChains run (seen.place + 1) new
chains_put run seen old new clock are put may before = record {
  ordered = λ chain first later on on_too less.
      ⊎_elim
      (λ here.
      ⊎_elim (λ here_too. absurd (apart less (sym here.0 ∙ here_too.0)))
      (λ was. absurd (over (are.below later chain was) here.0 less)) (put_line seen old new later chain put on_too))
      (λ was.
      ⊎_elim
      (λ here_too.
      subst (λ (p : ℕ). IsForced run first p) here_too.0
      (before_put run seen.place seen.place seen.chain first old clock are may before (was ∙ ap Some (sym here_too.1))))
      (λ was_too. are.ordered chain first later was was_too less) (put_line seen old new later chain put on_too))
      (put_line seen old new first chain put on);
  ends = λ place chain on.
      ⊎_elim
      (λ (here : (seen.chain == chain) ≡ true). record {
        tip = seen.place;
        tip_is = put.tips chain ∙ when_true (seen.chain == chain) (Some seen.place) (tip_of old chain) here;
        upto = ⊎_elim (λ is. no_less is.0) (λ was. below (are.below place chain was)) (put_line seen old new place chain put on);
      })
      (λ (elsewhere : (seen.chain == chain) ≡ false).
      let was = are.ends place chain (⊎_elim (λ is. absurd (differ seen.chain chain elsewhere is.1)) (λ was. was) (put_line seen old new place chain put on)) in
      record {
        tip = was.tip;
        tip_is = put.tips chain ∙ when_false (seen.chain == chain) (Some seen.place) (tip_of old chain) elsewhere ∙ was.tip_is;
        upto = was.upto;
      })
      (cases_Bool (seen.chain == chain));
  tips = λ chain tip is.
      ⊎_elim
      (λ here.
      put.lines tip ∙ when_true (seen.place == tip) (Some seen.chain) (chain_of old tip) (eq-eqb seen.place tip here.1) ∙ ap Some here.0)
      (λ was. put_stays run seen old new tip chain are put (are.tips chain tip was)) (put_tip seen old new chain tip put is);
  below = λ place chain on.
      ⊎_elim (λ is. one_more is.0) (λ was. more (are.below place chain was)) (put_line seen old new place chain put on);
}
  where
    apart : {a b : ℕ} → a < b → a ≡ b → ⊥
    apart less same = absurd (omega arith)

    over : {a b c : ℕ} → a < b → b ≡ c → c < a → ⊥
    over less same more = absurd (omega arith)

    no_less : {a b : ℕ} → a ≡ b → b ≤ a
    no_less same = omega arith

    below : {a b : ℕ} → a < b → a ≤ b
    below less = omega arith

    one_more : {a b : ℕ} → a ≡ b → b < a + 1
    one_more same = omega arith

    more : {a b : ℕ} → a < b → a < b + 1
    more less = omega arith

    differ : (a b : ℕ) → (a == b) ≡ false → a ≡ b → ⊥
    differ a b is same = let no : true ≡ false = sym (eq-eqb a b same) ∙ is in cc

pub chains_more : (run : List Line) (lines : ℕ) (chains : Chains) → AreChains run lines chains → AreChains run (lines + 1) chains
chains_more run lines chains are = record {
  ordered = are.ordered;
  ends = are.ends;
  tips = are.tips;
  below = λ place chain on. more (are.below place chain on);
}
  where
    more : {a b : ℕ} → a < b → a < b + 1
    more less = omega arith

-- only by_place and tips matter
pub chains_same : (run : List Line) (lines : ℕ) (old new : Chains) → new.by_place ≡ old.by_place → new.tips ≡ old.tips
    → AreChains run lines old → AreChains run lines new
chains_same run lines old new places tips are = record {
  ordered = λ chain first later on on_too less.
      are.ordered chain first later (was first ∙ on) (was later ∙ on_too) less;
  ends = λ place chain on.
      let end = are.ends place chain (was place ∙ on) in
      record { tip = end.tip; tip_is = tip_was chain ∙ end.tip_is; upto = end.upto };
  tips = λ chain tip is. sym (was tip) ∙ are.tips chain tip (sym (tip_was chain) ∙ is);
  below = λ place chain on. are.below place chain (was place ∙ on);
}
  where
    was : (place : ℕ) → chain_of old place ≡ chain_of new place
    was place = ap (λ (m : _). get nat_eq m place) (sym places)

    tip_was : (chain : ℕ) → tip_of new chain ≡ tip_of old chain
    tip_was chain = ap (λ (m : _). get nat_eq m chain) tips
