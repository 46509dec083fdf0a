-- Lists that grow at their end.
use Rattle.std.proofs.Common.{◌≡◌, ℕ, List, [], ◌++◌, length, take, sym, ap, ◌∙◌}
use Rattle.std.proofs.lemmas.List.{append_assoc, append-nil, take_at}
use Rattle.peg_text.specs.Lists.{GoesOnFrom}

pub GoesOnFrom-same : {X : Type 0} (old new : List X) → new ≡ old → GoesOnFrom old new
GoesOnFrom-same old new same = record { more = []; is = same ∙ sym (append-nil old) }

pub GoesOnFrom-by : {X : Type 0} (old new more : List X) → new ≡ old ++ more → GoesOnFrom old new
GoesOnFrom-by old new more is = record { more = more; is = is }

pub GoesOnFrom-then : {X : Type 0} (a b c : List X) → GoesOnFrom a b → GoesOnFrom b c → GoesOnFrom a c
GoesOnFrom-then a b c first second = record {
  more = first.more ++ second.more;
  is = second.is ∙ ap (λ l. l ++ second.more) first.is ∙ append_assoc a first.more second.more;
}

-- what was there is got back by its length
pub take_back : {X : Type 0} (old new : List X) (n : ℕ) → n ≡ length old → GoesOnFrom old new → take n new ≡ old
take_back old new n len goes = ap (take n) goes.is ∙ take_at old goes.more n (sym len)
