-- The laws that each algorithm keeps on what fits.
use Rattle.std.specs.Prelude.{◌≡◌, ℕ, ◌<◌, ◌^◌, List, Some, IfSome}
use Rattle.graph.specs.Laws.{CombinesInAnyOrder}
use Rattle.gimv_core.specs.Algebras.{Algebra, FitsVal, FitsMsg, FitsWeight}
use Rattle.gimv_core.specs.Texts.{IsPlainVal, IsPlainItem}

pub record IsLawful {Val Msg Weight : Type 0} (a : Algebra Val Msg Weight) : Type 0 where
  -- combine is associative and commutative, and the unit is neutral
  pub in_any_order : CombinesInAnyOrder a.algorithm a.fits_msg
  -- what is made of what fits fits
  pub combine2_fits : (w : Weight) (v : Val) → FitsWeight a w → FitsVal a v → FitsMsg a (a.algorithm.combine2 w v)
  pub assign_fits : (v : Val) (m : Msg) → FitsVal a v → FitsMsg a m → FitsVal a (a.algorithm.assign v m)
  pub first_fits : (i : ℕ) → i < 2 ^ 32 → FitsVal a (a.algorithm.first i)
  pub number_fits : (v : Val) → FitsVal a v → a.algorithm.number v < 2 ^ 64
  -- what is read fits
  pub val_of_fits : (text : List ℕ) → IfSome (a.val_of text) (FitsVal a)
  pub msg_of_fits : (text : List ℕ) → IfSome (a.msg_of text) (FitsMsg a)
  pub weight_of_fits : (text : List ℕ) → IfSome (a.weight_of text) (FitsWeight a)
  -- what is written reads back
  pub val_reads_back : (v : Val) → FitsVal a v → a.val_of (a.val_text v) ≡ Some v
  pub msg_reads_back : (m : Msg) → FitsMsg a m → a.msg_of (a.msg_text m) ≡ Some m
  -- what is written, and what is read as a weight, has no byte that lines are cut at
  pub val_text_plain : (v : Val) → FitsVal a v → IsPlainVal (a.val_text v)
  pub msg_text_plain : (m : Msg) → FitsMsg a m → IsPlainItem (a.msg_text m)
  pub weight_text_plain : (text : List ℕ) → IfSome (a.weight_of text) (λ _. IsPlainItem text)
