-- Algorithms whose steps may be repeated over a part of the nodes first.
use Rattle.std.specs.Prelude.{◌≡◌, ◌↔◌, true, ◌⊎◌}
use Rattle.gimv_core.specs.Algebras.{Algebra, FitsVal, FitsMsg, FitsWeight}

-- the further laws, where a value can be sent as a message as it is
pub record IsClosing {Val Msg Weight : Type 0} (a : Algebra Val Msg Weight) (as_msg : Val → Msg) : Type 0 where
  pub as_msg_fits : (v : Val) → FitsVal a v → FitsMsg a (as_msg v)
  pub idempotent : (x : Msg) → FitsMsg a x → a.algorithm.combine x x ≡ x
  pub selects : (x y : Msg) → FitsMsg a x → FitsMsg a y → (a.algorithm.combine x y ≡ x) ⊎ (a.algorithm.combine x y ≡ y)
  pub passes_on : (w : Weight) (v : Val) → FitsWeight a w → FitsVal a v → a.algorithm.combine2 w v ≡ as_msg v
  pub assigns : (v : Val) (m : Msg) → FitsVal a v → FitsMsg a m → as_msg (a.algorithm.assign v m) ≡ a.algorithm.combine (as_msg v) m
  pub tells_apart : (v w : Val) → FitsVal a v → FitsVal a w → as_msg v ≡ as_msg w → v ≡ w
  pub same_is : (v w : Val) → FitsVal a v → FitsVal a w → (a.algorithm.same v w ≡ true) ↔ (v ≡ w)

-- c is not above v
abbrev pub IsNotAbove : {Val Msg Weight : Type 0} → Algebra Val Msg Weight → (Val → Msg) → Val → Val → Type 0
IsNotAbove a as_msg c v = a.algorithm.combine (as_msg c) (as_msg v) ≡ as_msg c
