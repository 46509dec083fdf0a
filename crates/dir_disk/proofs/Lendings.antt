-- What is lent where something else is free, and to how many children.
use Rattle.std.proofs.Common.{◌≡◌, ⊎_elim, true, false, List, [], ◌∷◌, ◌++◌, sym, refl, ap, ◌∙◌}
use Rattle.std.proofs.lemmas.Bool.{false≢true, cases_Bool}
use Rattle.std.proofs.lemmas.List.Elements.{All-weaker}
use Rattle.peg_base.specs.Names.{Names, under, same_path}
use Rattle.peg_base.proofs.Under.{under-same, under-trans}
use Rattle.dir_disk.specs.Lent.{Loan, IsNoOutput, IsFree}
use Rattle.dir_disk.specs.Children.{Child, loan_of, loans_of}

-- a path under a free one is free
pub free_below : (lent : List Loan) (top path : Names) → under top path ≡ true → IsFree lent top → IsFree lent path
free_below lent top path below free =
    All-weaker (λ loan. (under top loan.input ≡ false) × (under top loan.output ≡ false)) (λ loan. (under path loan.input ≡ false) × (under path loan.output ≡ false)) (λ loan apart. (apart_below loan.input apart.0, apart_below loan.output apart.1)) lent free
  where
    apart_below : (q : Names) → under top q ≡ false → under path q ≡ false
    apart_below q apart =
        ⊎_elim (λ deeper. absurd (false≢true (sym apart ∙ under-trans top path q below deeper))) (λ outside. outside) (cases_Bool (under path q))

-- a free path is no output of a child
pub no_output : (lent : List Loan) (path : Names) → IsFree lent path → IsNoOutput lent path
no_output lent path free =
    All-weaker (λ loan. (under path loan.input ≡ false) × (under path loan.output ≡ false)) (λ loan. same_path path loan.output ≡ false) (λ loan apart. other loan.output apart.1) lent free
  where
    other : (q : Names) → under path q ≡ false → same_path path q ≡ false
    other q apart =
        ⊎_elim (λ same. absurd (false≢true (sym apart ∙ under-same path q same))) (λ differs. differs) (cases_Bool (same_path path q))

-- a child that is started last has its loan last
pub loans_end : (children : List Child) (child : Child) → loans_of (children ++ child ∷ []) ≡ loans_of children ++ loan_of child ∷ []
loans_end [] child = refl
loans_end (first ∷ others) child = ap (λ loans. loan_of first ∷ loans) (loans_end others child)
