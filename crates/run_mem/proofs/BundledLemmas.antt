-- What a child that is done has written.
use Rattle.std.proofs.Common.{◌≡◌, ◌≢◌, ℕ, List, [], Option, Some, None, IfSome, refl, ap, subst}
use Rattle.std.specs.Option.{unwrap_or}
use Rattle.gimv_base.specs.Rules.{Rule}
use Rattle.child.specs.Child.{IsDone}
use Rattle.flow.specs.Children.{given_by}

pub given_is : (rule : Option Rule) (bytes out : List ℕ) (left left' before : Option (List ℕ)) → left ≡ Some bytes → before ≡ Some [] → rule ≢ None → IfSome rule (λ r. IsDone r left left' before (Some out)) → out ≡ given_by rule bytes
given_is None bytes out left left' before is_left is_before some done = absurd (some refl)
given_is (Some r) bytes out left left' before is_left is_before some done =
    let moved : IsDone r (Some bytes) left' (Some []) (Some out) = subst (λ (l : Option (List ℕ)). IsDone r l left' (Some []) (Some out)) is_left (subst (λ (b : Option (List ℕ)). IsDone r left left' b (Some out)) is_before done) in
    ap (λ (o : Option (List ℕ)). unwrap_or o []) moved.all.is
