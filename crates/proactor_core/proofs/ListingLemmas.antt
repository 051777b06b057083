-- What is listed in a row.
use Rattle.std.proofs.Common.{◌≡◌, ℕ, ◌-◌, List, [], ◌∷◌, ◌++◌, length, suc, ap, ◌∙◌, arith}
use Rattle.std.proofs.lemmas.List.{append-nil, append_assoc}
use Rattle.stream_rules.specs.declared.queue.Completion.{Completion}
use Rattle.proactor_core.specs.Due.{Due, listed}

pub listed-nil : (due : Due) → listed [] due ≡ due
listed-nil due =
    let list : List Completion → ℕ → Due = λ cs n. record { coming = cs; spare = n } in
    let same : due.spare - 0 ≡ due.spare = omega arith in
    ap (λ cs. list cs (due.spare - 0)) (append-nil due.coming) ∙ ap (list due.coming) same

-- one, and then the rest
pub listed-cons : (first : Completion) (rest : List Completion) (due : Due) →
    listed rest (listed (first ∷ []) due) ≡ listed (first ∷ rest) due
listed-cons first rest due =
    let list : List Completion → ℕ → Due = λ cs n. record { coming = cs; spare = n } in
    let same : due.spare - 1 - length rest ≡ due.spare - suc (length rest) = omega arith in
    ap (λ cs. list cs (due.spare - 1 - length rest)) (append_assoc due.coming (first ∷ []) rest)
    ∙ ap (list (due.coming ++ first ∷ rest)) same
