-- Children that follow the rules of the roles of the diagonal form.
use Rattle.std.specs.Prelude.{ℕ}
use Rattle.gimv_core.specs.Algebras.{Algebra}
use Rattle.gimv_base.specs.BaseRules.{id_rule}
use Rattle.gimv_block.specs.BlockRules.{group_rule, firstb_rule, block2_rule}
use Rattle.gimv_diag.specs.DiagonalRules.{diag1_rule}
use Rattle.flow_core.specs.Following.{Giving, Follows}
use Rattle.flow_block.specs.BlockRoles.{BlockWords}

-- as in the block form, but a block's values are closed before they are passed on
pub record FollowsDiagonalRoles {Val Msg Weight : Type 0} (gives : Giving) (a : Algebra Val Msg Weight)
    (as_msg : Val → Msg) (len n : ℕ) (words : BlockWords) : Type 0 where
  pub copy : Follows gives words.copy id_rule
  pub group : Follows gives words.group (group_rule len)
  pub firstb : Follows gives words.firstb (firstb_rule a len n)
  pub diag1 : Follows gives words.block1 (diag1_rule a as_msg len n)
  pub block2 : Follows gives words.block2 (block2_rule a len n)
