-- What an operation gives on a part of what is there, and on the rest.
use Rattle.std.proofs.Common.{◌≡◌, ℕ, ◌+◌, ◌-◌, ◌<◌, ◌≤◌, ◌==◌, nat_le, true, false, min, Option, None, Some, zero, suc, inl, inr, refl, sym, ap, ◌∙◌, arith}
use Rattle.std.proofs.lemmas.Bool.{cases_lt}
use Rattle.std.proofs.lemmas.Bool.Decides.{nat_tests}
use Rattle.asio_types.specs.declared.code.Code.{Code}
use Rattle.asio_types.specs.declared.code.Code.TheVariants as code
use Rattle.stream_rules.specs.Serving.{Outcome, all_of, ended_by, some_of}
use Rattle.stream_rules.specs.declared.serving.Served.{Served}

-- a part of a service, and the rest of it
abbrev pub joined : ℕ → Served → Served
joined used later = record { used = used + later.used; outcome = later.outcome }

-- with enough there, all that is missing is used
pub all-enough : (size before there : ℕ) (mark : Option Code) → size ≤ before + there →
    all_of size before there mark ≡ record { used = size - before; outcome = Some (code.Ok, size) }
all-enough size before there mark h =
    let test : nat_le size (before + there) ≡ true = grind (arith, nat_tests) in rw test refl

-- with too little there, all of it is
pub all-short : (size before there : ℕ) (mark : Option Code) → before + there < size →
    all_of size before there mark ≡ record { used = there; outcome = ended_by mark (before + there) }
all-short size before there mark h =
    let test : nat_le size (before + there) ≡ false = grind (arith, nat_tests) in rw test refl

-- one that goes on after a part gives the rest on the rest
pub record AllGoesOn (size before count there : ℕ) (mark : Option Code) : Type 0 where
  pub short : before + count < size
  pub rest : all_of size before there mark ≡ joined count (all_of size (before + count) (there - count) mark)

pub all-goes_on : (size before count there : ℕ) (mark : Option Code) → count ≤ there →
    (all_of size before count None).outcome ≡ None → AllGoesOn size before count there mark
all-goes_on size before count there mark within stays =
    elim (cases_lt (before + count) size) [
      | inr enough ↦ let e = all-enough size before count None enough in absurd (cc)
      | inl short ↦
          elim (cases_lt (before + there) size) [
            | inl shorter ↦
                let left : before + count + (there - count) < size = omega arith in
                let whole : before + count + (there - count) ≡ before + there = omega arith in
                let used : count + (there - count) ≡ there = omega arith in
                record {
                  short = short;
                  rest =
                      all-short size before there mark shorter
                      ∙ sym (ap (joined count) (all-short size (before + count) (there - count) mark left)
                      ∙ ap (λ n.
                      let s : Served = record { used = count + (there - count); outcome = ended_by mark n } in
                      s) whole
                      ∙ ap (λ n.
                      let s : Served = record { used = n; outcome = ended_by mark (before + there) } in s)
                      used);
                }
            | inr enough ↦
                let left : size ≤ before + count + (there - count) = omega arith in
                let used : count + (size - (before + count)) ≡ size - before = omega arith in
                record {
                  short = short;
                  rest =
                      all-enough size before there mark enough
                      ∙ sym (ap (joined count) (all-enough size (before + count) (there - count) mark left)
                      ∙ ap (λ n. let s : Served = record { used = n; outcome = Some (code.Ok, size) } in s) used);
                }
          ]
    ]

-- one that completes with a part gives the same on the whole, and uses that part
pub all-completes : (size before count there : ℕ) (mark : Option Code) (outcome : Outcome) → before < size →
    count ≤ size - before → count ≤ there → (all_of size before count None).outcome ≡ Some outcome →
    all_of size before there mark ≡ record { used = count; outcome = Some outcome }
all-completes size before count there mark outcome missing fits within completes =
    elim (cases_lt (before + count) size) [
      | inl short ↦ let e = all-short size before count None short in absurd (cc)
      | inr enough ↦
          let e = ap (λ (s : Served). s.outcome) (all-enough size before count None enough) in
          let used : size - before ≡ count = omega arith in
          all-enough size before there mark (omega arith)
          ∙ ap (λ o. let s : Served = record { used = size - before; outcome = o } in s) (sym e ∙ completes)
          ∙ ap (λ n. let s : Served = record { used = n; outcome = Some outcome } in s) used
    ]

-- where nothing is there, it completes by the mark or stays
pub all-nothing : (size before there : ℕ) (mark : Option Code) → before < size → there ≡ 0 →
    all_of size before there mark ≡ record { used = 0; outcome = ended_by mark before }
all-nothing size before there mark missing none =
    let short : before + 0 < size = omega arith in
    let same : before + 0 ≡ before = omega arith in
    ap (λ n. all_of size before n mark) none ∙ all-short size before 0 mark short
    ∙ ap (λ n. let s : Served = record { used = 0; outcome = ended_by mark n } in s) same

pub some-nothing : (size there : ℕ) (mark : Option Code) → there ≡ 0 →
    some_of size there mark ≡ record { used = 0; outcome = ended_by mark 0 }
some-nothing size there mark none = ap (λ n. some_of size n mark) none

-- what is there completes it
pub some-there : (size there : ℕ) (mark : Option Code) → 1 ≤ there →
    some_of size there mark ≡ record { used = min size there; outcome = Some (code.Ok, min size there) }
some-there size zero mark some = absurd (omega arith)
some-there size (suc there) mark some =
    let test : (suc there == 0) ≡ false = grind (arith, nat_tests) in rw test refl

-- it gives the same on all that is there as on the part that it gets
pub some-completes : (size count there : ℕ) (mark : Option Code) (outcome : Outcome) → 1 ≤ count → count ≤ size →
    count ≤ there → count ≡ min size there → (some_of size count None).outcome ≡ Some outcome →
    some_of size there mark ≡ record { used = count; outcome = Some outcome }
some-completes size count there mark outcome some fits within whole completes =
    let part : min size count ≡ count = omega (arith) in
    let first = ap (λ (s : Served). s.outcome) (some-there size count None some) in
    let is : Some (code.Ok, count) ≡ Some outcome =
    ap (λ n. let o : Option Outcome = Some (code.Ok, n) in o) (sym part) ∙ sym first ∙ completes in
    some-there size there mark (omega arith)
    ∙ ap (λ n. let s : Served = record { used = n; outcome = Some (code.Ok, n) } in s) (sym whole)
    ∙ ap (λ o. let s : Served = record { used = count; outcome = o } in s) is
