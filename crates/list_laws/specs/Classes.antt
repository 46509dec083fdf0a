-- Items by classes.
use Rattle.std.specs.Prelude.{◌≡◌, Bool, List, [], ◌∷◌}
use Rattle.std.specs.List.{filter}

-- just one of these passes the test
pub record IsOnce {K : Type 0} (test : K → Bool) (ks : List K) : Type 0 where
  pub one : K
  pub is : filter test ks ≡ one ∷ []

-- the items of a class
abbrev pub class : {A K : Type 0} → (A → K → Bool) → List A → K → List A
class same xs k = filter (λ x. same x k) xs
