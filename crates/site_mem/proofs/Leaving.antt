-- Loans that begin and end with their children.
use Rattle.std.proofs.Common.{◌≡◌, ℕ, ◌<◌, ◌+◌, zero, suc, Bool, true, false, ◌||◌, cond, ⊎_elim, List, [], ◌∷◌, ◌++◌, length, take, drop, Some, refl, sym, ◌∙◌, ap, subst, arith}
use Rattle.std.specs.Prelude.{ℤ, pos, All, slice_index_or}
use Rattle.std.proofs.lemmas.Bool.{false≢true, cases_Bool, and_from}
use Rattle.std.proofs.lemmas.List.Elements.{All-nil, All-cons, All-head, All-tail, All-push}
use Rattle.peg_base.specs.Names.{Names, same_path, under}
use Rattle.peg_base.proofs.Under.{same_path-true, same_path-refl, under-same}
use Rattle.dir_disk.specs.State.{Held, State}
use Rattle.dir_disk.specs.Moments.{Told, AddsBy, files}
use Rattle.dir_disk.specs.Lent.{Loan, IsFree, IsNoOutput}
use Rattle.dir_disk.specs.Children.{Child, Leaves, loan_of, loans_of}
use Rattle.dir_disk.proofs.Lendings.{loans_end}
use Rattle.dir_mem.specs.Lending.{IsLent, TakesOff, after_loan, is_loan, left_with}
use Rattle.site_mem.specs.Ends.{WriteApart}

-- ---- children that write apart

other_output : (path output : Names) → under output path ≡ false → same_path path output ≡ false
other_output path output apart =
    ⊎_elim (λ same. absurd (false≢true (sym (subst (λ (q : Names). under output q ≡ false) (same_path-true path output same) apart) ∙ under-same output output (same_path-refl output)))) (λ differs. differs) (cases_Bool (same_path path output))

apart_end : (lent : List Loan) (loan : Loan) → WriteApart lent → IsFree lent loan.output → WriteApart (lent ++ loan ∷ [])
apart_end [] loan apart free = (All-nil (λ other. same_path loan.output other.output ≡ false), tt)
apart_end (first ∷ lent) loan apart free =
    let here = All-head (λ other. (under loan.output other.input ≡ false) × (under loan.output other.output ≡ false)) first lent free in
    (All-push (λ other. same_path first.output other.output ≡ false) lent loan apart.0 (other_output first.output loan.output here.1), apart_end lent loan apart.1 (All-tail (λ other. (under loan.output other.input ≡ false) × (under loan.output other.output ≡ false)) first lent free))

-- the output of a child that is started last
pub apart_more : (children : List Child) (child : Child) → WriteApart (loans_of children) → IsFree (loans_of children) child.output → WriteApart (loans_of (children ++ child ∷ []))
apart_more children child apart free =
    subst WriteApart (sym (loans_end children child)) (apart_end (loans_of children) (loan_of child) apart free)

-- ---- a loan among others

amid : (P : Loan → Type 0) (before after : List Loan) (loan : Loan) → All P (before ++ loan ∷ after) → P loan
amid P [] after loan all = All-head P loan after all
amid P (first ∷ before) after loan all = amid P before after loan (All-tail P first (before ++ loan ∷ after) all)

without : (P : Loan → Type 0) (before after : List Loan) (loan : Loan) → All P (before ++ loan ∷ after) → All P (before ++ after)
without P [] after loan all = All-tail P loan after all
without P (first ∷ before) after loan all =
    All-cons P first (before ++ after) (All-head P first (before ++ loan ∷ after) all) (without P before after loan (All-tail P first (before ++ loan ∷ after) all))

apart_without : (before after : List Loan) (loan : Loan) → WriteApart (before ++ loan ∷ after) → WriteApart (before ++ after)
apart_without [] after loan apart = apart.1
apart_without (first ∷ before) after loan apart =
    (without (λ other. same_path first.output other.output ≡ false) before after loan apart.0, apart_without before after loan apart.1)

-- a loan doesn't stand twice among loans that are apart
not_twice : (before after : List Loan) (loan : Loan) → IsNoOutput (before ++ loan ∷ after) loan.output → ⊥
not_twice before after loan none =
    false≢true (sym (amid (λ other. same_path loan.output other.output ≡ false) before after loan none) ∙ same_path-refl loan.output)

head_same : (x y : Loan) (xs ys : List Loan) → x ∷ xs ≡ y ∷ ys → x ≡ y
head_same x y xs ys same = cc

tail_same : (x y : Loan) (xs ys : List Loan) → x ∷ xs ≡ y ∷ ys → xs ≡ ys
tail_same x y xs ys same = cc

one_place : (before after other rest : List Loan) (loan : Loan) → before ++ loan ∷ after ≡ other ++ loan ∷ rest → WriteApart (other ++ loan ∷ rest) → before ++ after ≡ other ++ rest
one_place [] after [] rest loan same apart = tail_same loan loan after rest same
one_place [] after (y ∷ other) rest loan same apart =
    absurd (not_twice other rest loan (subst (λ (x : Loan). IsNoOutput (other ++ loan ∷ rest) x.output) (sym (head_same loan y after (other ++ loan ∷ rest) same)) apart.0))
one_place (x ∷ before) after [] rest loan same apart =
    absurd (not_twice before after loan (subst (λ (lent : List Loan). IsNoOutput lent loan.output) (sym (tail_same x loan (before ++ loan ∷ after) rest same)) apart.0))
one_place (x ∷ before) after (y ∷ other) rest loan same apart =
    let later = one_place before after other rest loan (tail_same x y (before ++ loan ∷ after) (other ++ loan ∷ rest) same) apart.1 in
    ap (λ (l : Loan). l ∷ (before ++ after)) (head_same x y (before ++ loan ∷ after) (other ++ loan ∷ rest) same) ∙ ap (λ (ls : List Loan). y ∷ ls) later

loans_split : (before after : List Child) → loans_of (before ++ after) ≡ loans_of before ++ loans_of after
loans_split [] after = refl
loans_split (first ∷ before) after = ap (λ (ls : List Loan). loan_of first ∷ ls) (loans_split before after)

-- ---- a child ends

-- what is lent once a child has ended is lent to the others
pub lent_then : (old new : List Loan) (before after : List Child) (child : Child) → old ≡ loans_of (before ++ child ∷ after) → WriteApart (loans_of (before ++ child ∷ after)) → TakesOff (loan_of child) old new → new ≡ loans_of (before ++ after)
lent_then old new before after child was apart takes =
    let split : loans_of (before ++ child ∷ after) ≡ loans_of before ++ loan_of child ∷ loans_of after = loans_split before (child ∷ after) in
    takes.is ∙ one_place takes.before takes.after (loans_of before) (loans_of after) (loan_of child) (sym takes.was ∙ was ∙ split) (subst WriteApart split apart) ∙ sym (loans_split before after)

pub apart_then : (before after : List Child) (child : Child) → WriteApart (loans_of (before ++ child ∷ after)) → WriteApart (loans_of (before ++ after))
apart_then before after child apart =
    subst WriteApart (sym (loans_split before after)) (apart_without (loans_of before) (loans_of after) (loan_of child) (subst WriteApart (loans_split before (child ∷ after)) apart))

lent_amid : (before after : List Loan) (loan : Loan) → IsLent loan (before ++ loan ∷ after)
lent_amid [] after loan = first_true (is_loan loan loan) _ (and_from (same_path loan.input loan.input) (same_path loan.output loan.output) (same_path-refl loan.input) (same_path-refl loan.output))
  where
    first_true : (x y : Bool) → x ≡ true → (x || y) ≡ true
    first_true true y is = refl
    first_true false y is = absurd (false≢true is)
lent_amid (first ∷ before) after loan = second_true (is_loan loan first) _ (lent_amid before after loan)
  where
    second_true : (x y : Bool) → y ≡ true → (x || y) ≡ true
    second_true true y is = refl
    second_true false y is = is

-- the child's two paths are lent
pub child_lent : (old : List Loan) (before after : List Child) (child : Child) → old ≡ loans_of (before ++ child ∷ after) → IsLent (loan_of child) old
child_lent old before after child was =
    subst (IsLent (loan_of child)) (sym (was ∙ loans_split before (child ∷ after))) (lent_amid (loans_of before) (loans_of after) (loan_of child))

-- the child at a place, and the others
pub taken_at : {A : Type 0} (xs : List A) (x : A) (place : ℕ) → place < length xs → x ≡ slice_index_or xs place x → xs ≡ take place xs ++ x ∷ drop (place + 1) xs
taken_at {A} xs x place within is =
    let more : suc place ≡ place + 1 = omega arith in
    subst (λ (n : ℕ). xs ≡ take place xs ++ x ∷ drop n xs) more (split xs place within is)
  where
    split : (zs : List A) (n : ℕ) → n < length zs → x ≡ slice_index_or zs n x → zs ≡ take n zs ++ x ∷ drop (suc n) zs
    split [] n inside at = absurd (omega (arith, inside))
    split (z ∷ zs) zero inside at = ap (λ (w : A). w ∷ zs) (sym at)
    split (z ∷ zs) (suc n) inside at = ap (λ (ws : List A). z ∷ ws) (split zs n (omega (arith, inside)) at)

-- what a file has that a child has left
pub left_is : (output : Names) (left : List ℕ) (old new : State) → new ≡ after_loan output (Some left) old → (new output).now ≡ Some left
left_is output left old new goes =
    ap (λ (s : State). (s output).now) goes ∙ now_left (same_path output output) (old output) (same_path-refl output)
  where
    now_left : (test : Bool) (held : Held) → test ≡ true → (cond test (left_with (Some left) held) held).now ≡ Some left
    now_left true held is = refl
    now_left false held is = absurd (false≢true is)

-- what a child leaves that has ended with this in its file
pub leaves : (gives : List (List ℕ) → List ℕ → List ℕ) (child : Child) (status : ℤ) (left : List ℕ) (old new : Told) → AddsBy 0 old new → files new ≡ after_loan child.output (Some left) (files old) → (status ≡ pos 0 → left ≡ gives child.words child.given) → Leaves gives child status old new
leaves gives child status left old new adds goes answers =
    record {
      adds = adds;
      only = record {
        may = λ path. ap (λ (s : State). (s path).may) goes ∙ may_kept (same_path child.output path) (files old path);
        others = λ path apart. ap (λ (s : State). (s path).now) goes ∙ now_kept (same_path child.output path) (files old path) apart;
      };
      output = λ done. left_is child.output left (files old) (files new) goes ∙ ap Some (answers done);
    }
  where
    may_kept : (test : Bool) (held : Held) → (cond test (left_with (Some left) held) held).may ≡ held.may
    may_kept true held = refl
    may_kept false held = refl

    now_kept : (test : Bool) (held : Held) → test ≡ false → (cond test (left_with (Some left) held) held).now ≡ held.now
    now_kept true held apart = absurd (false≢true (sym apart))
    now_kept false held apart = refl
