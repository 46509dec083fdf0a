-- Children that follow the rules of the base form's roles.
use Rattle.std.specs.Prelude.{ℕ, List}
use Rattle.gimv_core.specs.Algebras.{Algebra}
use Rattle.gimv_base.specs.BaseRules.{id_rule, first_rule, stage1_rule, stage2_rule, number_rule}
use Rattle.flow_core.specs.Following.{Giving, Follows}

-- the words of each role
pub record RoleWords : Type 0 where
  pub copy : List (List ℕ)
  pub first : List (List ℕ)
  pub stage1 : List (List ℕ)
  pub stage2 : List (List ℕ)
  pub number : List (List ℕ)

-- children of these words write what the roles of the algorithm over n nodes give
pub record FollowsRoles {Val Msg Weight : Type 0} (gives : Giving) (a : Algebra Val Msg Weight) (n : ℕ)
    (words : RoleWords) : Type 0 where
  pub copy : Follows gives words.copy id_rule
  pub first : Follows gives words.first (first_rule a n)
  pub stage1 : Follows gives words.stage1 (stage1_rule a n)
  pub stage2 : Follows gives words.stage2 (stage2_rule a n)
  pub number : Follows gives words.number (number_rule a n)
