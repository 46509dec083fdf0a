-- Facts of each child of a list.
use Rattle.std.proofs.Common.{◌≡◌, false, List, [], ◌∷◌, ◌++◌, sym}
use Rattle.std.specs.List.{AllByRecursion}
use Rattle.std.proofs.lemmas.List.Elements.{All-nil, All-cons}
use Rattle.peg_base.specs.Names.{Names, under, same_path}
use Rattle.dir_disk.specs.Lent.{Loan, IsFree, IsNoOutput}
use Rattle.dir_disk.specs.Children.{Child, loan_of, loans_of}
use Rattle.job.specs.Children.{AreOthers, AreApart}

pub each_map : {X : Type 0} (P Q : X → Type 0) (xs : List X) → ((x : X) → P x → Q x) → AllByRecursion P xs → AllByRecursion Q xs
each_map P Q [] f h = tt
each_map P Q (x ∷ xs) f h = (f x h.0, each_map P Q xs f h.1)

pub each_both : {X : Type 0} (P Q : X → Type 0) (xs : List X) → AllByRecursion P xs → AllByRecursion Q xs → AllByRecursion (λ x. P x × Q x) xs
each_both P Q [] h k = tt
each_both P Q (x ∷ xs) h k = ((h.0, k.0), each_both P Q xs h.1 k.1)

pub each_append : {X : Type 0} (P : X → Type 0) (xs ys : List X) → AllByRecursion P xs → AllByRecursion P ys → AllByRecursion P (xs ++ ys)
each_append P [] ys h k = k
each_append P (x ∷ xs) ys h k = (h.0, each_append P xs ys h.1 k)

pub each_push : {X : Type 0} (P : X → Type 0) (xs : List X) (x : X) → AllByRecursion P xs → P x → AllByRecursion P (xs ++ x ∷ [])
each_push P xs x h k = each_append P xs (x ∷ []) h (k, tt)

pub each_split : {X : Type 0} (P : X → Type 0) (xs : List X) (x : X) (ys : List X) → AllByRecursion P (xs ++ x ∷ ys) → P x × AllByRecursion P (xs ++ ys)
each_split P [] x ys h = (h.0, h.1)
each_split P (z ∷ xs) x ys h =
    let rest = each_split P xs x ys h.1 in (rest.0, (h.0, rest.1))

pub apart_push : (cs : List Child) (c : Child) → AreApart cs → AllByRecursion (λ d. AreOthers d c) cs → AreApart (cs ++ c ∷ [])
apart_push [] c h k = (tt, tt)
apart_push (d ∷ cs) c h k =
    (each_push (λ e. AreOthers e d) cs c h.0 (λ same number. k.0 (sym same) (sym number)), apart_push cs c h.1 k.1)

pub apart_split : (pre : List Child) (c : Child) (post : List Child) → AreApart (pre ++ c ∷ post) → AllByRecursion (λ d. AreOthers d c) (pre ++ post) × AreApart (pre ++ post)
apart_split [] c post h = (h.0, h.1)
apart_split (d ∷ pre) c post h =
    let here = each_split (λ e. AreOthers e d) pre c post h.0 in
    let rest = apart_split pre c post h.1 in
    (((λ same number. here.0 (sym same) (sym number)), rest.0), (here.1, rest.1))

pub free_loans : (p : Names) (cs : List Child) → AllByRecursion (λ c. (under p c.input ≡ false) × (under p c.output ≡ false)) cs → IsFree (loans_of cs) p
free_loans p [] h = All-nil (λ (loan : Loan). (under p loan.input ≡ false) × (under p loan.output ≡ false))
free_loans p (c ∷ cs) h =
    All-cons (λ (loan : Loan). (under p loan.input ≡ false) × (under p loan.output ≡ false)) (loan_of c) (loans_of cs) h.0 (free_loans p cs h.1)

pub no_output_loans : (p : Names) (cs : List Child) → AllByRecursion (λ c. same_path p c.output ≡ false) cs → IsNoOutput (loans_of cs) p
no_output_loans p [] h = All-nil (λ (loan : Loan). same_path p loan.output ≡ false)
no_output_loans p (c ∷ cs) h =
    All-cons (λ (loan : Loan). same_path p loan.output ≡ false) (loan_of c) (loans_of cs) h.0 (no_output_loans p cs h.1)
