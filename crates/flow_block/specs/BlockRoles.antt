-- Children that follow the rules of the roles of blocks.
use Rattle.std.specs.Prelude.{ℕ, List}
use Rattle.gimv_core.specs.Algebras.{Algebra}
use Rattle.gimv_base.specs.BaseRules.{id_rule}
use Rattle.gimv_block.specs.BlockRules.{group_rule, firstb_rule, cut_rule, blocks_rule}
use Rattle.gimv_block.specs.BlockRules.{block1_rule, block2_rule, unblock_rule}
use Rattle.flow_core.specs.Following.{Giving, Follows}

-- the words of each role
pub record BlockWords : Type 0 where
  pub copy : List (List ℕ)
  pub group : List (List ℕ)
  pub firstb : List (List ℕ)
  pub cut : List (List ℕ)
  pub blocks : List (List ℕ)
  pub block1 : List (List ℕ)
  pub block2 : List (List ℕ)
  pub unblock : List (List ℕ)

-- children of these words write what the roles of the algorithm over n nodes give, in blocks of this length
pub record FollowsBlockRoles {Val Msg Weight : Type 0} (gives : Giving) (a : Algebra Val Msg Weight)
    (len n : ℕ) (words : BlockWords) : Type 0 where
  pub copy : Follows gives words.copy id_rule
  pub group : Follows gives words.group (group_rule len)
  pub firstb : Follows gives words.firstb (firstb_rule a len n)
  pub cut : Follows gives words.cut (cut_rule len)
  pub blocks : Follows gives words.blocks blocks_rule
  pub block1 : Follows gives words.block1 (block1_rule a len n)
  pub block2 : Follows gives words.block2 (block2_rule a len n)
  pub unblock : Follows gives words.unblock (unblock_rule a len n)
