-- The bundled children.
use Rattle.std.specs.Prelude.{◌≡◌, ℕ, List, [], Option, Some, None, drop}
use Rattle.peg_text.specs.Records.{records_of}
use Rattle.gimv_base.specs.Rules.{Rule, role_out}
use Rattle.child.specs.Words.{rule_of}
use Rattle.flow_core.specs.Following.{Giving, Follows}

-- a child writes what the role of its words gives, wherever no record is bad; its first word names the
-- program
abbrev pub FollowsChildren : Giving → Type 0
FollowsChildren gives =
    (words : List (List ℕ)) (rule : Rule) → rule_of (drop 1 words) ≡ Some rule → Follows gives words rule

-- what the role of some words writes for all records; nothing where no role has the words
abbrev pub given_by : Option Rule → List ℕ → List ℕ
given_by None bytes = []
given_by (Some rule) bytes = (role_out rule (records_of bytes)).out

abbrev pub bundled : Giving
bundled words bytes = given_by (rule_of (drop 1 words)) bytes

-- there is such a `gives`
abbrev pub BundledFollow : Type 0
BundledFollow = FollowsChildren bundled
