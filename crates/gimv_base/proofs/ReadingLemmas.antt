-- A group's records, read one by one.
use Rattle.std.proofs.Common.{◌≡◌, ℕ, ◌+◌, List, [], ◌∷◌, ◌++◌, Option, Some, None, IfSome, option_map, option_and_then, fold, refl, sym, ap, ◌∙◌, subst, append_assoc}
use Rattle.std.proofs.lemmas.List.{append-nil}
use Rattle.graph.specs.declared.edges.Edge.{Edge}
use Rattle.peg_text.specs.Pairs.{value_of}
use Rattle.gimv_core.specs.Algebras.{Algebra, FitsMsg}
use Rattle.gimv_core.specs.Laws.{IsLawful}
use Rattle.gimv_base.specs.Parts.{Part, after}
use Rattle.gimv_base.specs.Fields.{tagged}
use Rattle.gimv_base.specs.Records.{edge_record_of, message_record_of}
use Rattle.gimv_base.specs.BaseRules.{read_first, read_all, unless_bad, degree_lines, degree_part, new_value_line, assigned_part}
use Rattle.gimv_base.specs.Answers.{Takes}

unless_bad-more : (bad : Option ℕ) (out : List ℕ) → unless_bad (option_map (λ k. 1 + k) bad) out ≡ after [] 1 (unless_bad bad out)
unless_bad-more None out = refl
unless_bad-more (Some k) out = refl

-- a record is taken in, and nothing is written for it yet
pub takes_silently : (before now : List (List ℕ) → Part) (r old : List ℕ) → ((later : List (List ℕ)) → before (r ∷ later) ≡ after [] 1 (now later)) → Takes before now r old old
takes_silently before now r old on = record { added = []; grown = sym (append-nil old); on = on }

module _ {Val Msg Weight : Type 0} (a : Algebra Val Msg Weight) where
  fits_if_read : IsLawful a → (m : Msg) (found : Option (List ℕ)) → option_and_then a.msg_of found ≡ Some m → FitsMsg a m
  fits_if_read laws m None is = cc
  fits_if_read laws m (Some text) is = subst (λ (o : Option Msg). IfSome o (FitsMsg a)) is (laws.msg_of_fits text)

  pub message_fits : IsLawful a → (r : List ℕ) (m : Msg) → message_record_of a r ≡ Some m → FitsMsg a m
  message_fits laws r m is = fits_if_read laws m (tagged 89 (value_of r)) is

  pub assigned-more : (i : ℕ) (v : Val) (all m : Msg) (r : List ℕ) → message_record_of a r ≡ Some m
      → (later : List (List ℕ)) → assigned_part a (i, v) all (r ∷ later) ≡ after [] 1 (assigned_part a (i, v) (a.algorithm.combine all m) later)
  assigned-more i v all m r is later =
      let read = read_all (message_record_of a) later in
      let line : List Msg → List ℕ = λ ms. new_value_line a (i, v) (a.algorithm.assign v (fold a.algorithm.combine all ms)) in
      ap (λ (found : Option Msg). unless_bad (read_first found read).bad (line (read_first found read).items)) is ∙ unless_bad-more read.bad (line (m ∷ read.items))

pub degree-more : (edges : List Edge) (e : Edge) (r : List ℕ) → edge_record_of r ≡ Some e
    → (later : List (List ℕ)) → degree_part edges (r ∷ later) ≡ after [] 1 (degree_part (edges ++ (e ∷ [])) later)
degree-more edges e r is later =
    let read = read_all edge_record_of later in
    ap (λ (found : Option Edge). unless_bad (read_first found read).bad (degree_lines (edges ++ (read_first found read).items))) is
    ∙ unless_bad-more read.bad (degree_lines (edges ++ (e ∷ read.items)))
    ∙ ap (λ (es : List Edge). after [] 1 (unless_bad read.bad (degree_lines es))) (sym (append_assoc edges (e ∷ []) read.items))
