-- Where a further record of a group comes, the one before it isn't bad.
use Rattle.std.specs.Prelude.{◌≡◌, ◌≢◌, ℕ, ◌+◌, List, ◌∷◌, Option, Some, None, option_map}
use Rattle.std.proofs.Common.{arith}
use Rattle.graph.specs.declared.edges.Edge.{Edge}
use Rattle.gimv_core.specs.Algebras.{Algebra}
use Rattle.gimv_base.specs.Records.{edge_record_of, entry_record_of, message_record_of, number_record_of}
use Rattle.gimv_base.specs.BaseRules.{Reading, read_first, read_all, unless_bad, degree_part, passed_part, assigned_part, numbered_part, placed_part, settled_part}

some_is : (m n : ℕ) → Some m ≡ Some n → m ≡ n
some_is m n e = cc

one_more_not_zero : (bad : Option ℕ) → option_map (λ k. 1 + k) bad ≢ Some 0
one_more_not_zero None = λ e. cc
one_more_not_zero (Some k) = λ e. let same : 1 + k ≡ 0 = some_is (1 + k) 0 e in omega arith

read_first_not_zero : {A : Type 0} (found : Option A) (later : Reading A) → (read_first found later).bad ≢ Some 0
read_first_not_zero None later = λ e. cc
read_first_not_zero (Some x) later = one_more_not_zero later.bad

unless_bad_not_zero : (bad : Option ℕ) (out : List ℕ) → bad ≢ Some 0 → (unless_bad bad out).bad ≢ Some 0
unless_bad_not_zero None out apart = λ e. cc
unless_bad_not_zero (Some k) out apart = apart

pub passed_blames_the_end : {Val Msg Weight : Type 0} (a : Algebra Val Msg Weight) (n : ℕ) (v : Val) (r : List ℕ) (rs : List (List ℕ)) → (passed_part a n v (r ∷ rs)).bad ≢ Some 0
passed_blames_the_end a n v r rs = read_first_not_zero (entry_record_of a n r) (read_all (entry_record_of a n) rs)

pub assigned_blames_the_end : {Val Msg Weight : Type 0} (a : Algebra Val Msg Weight) (node : ℕ × Val) (all : Msg) (r : List ℕ) (rs : List (List ℕ)) → (assigned_part a node all (r ∷ rs)).bad ≢ Some 0
assigned_blames_the_end a node all r rs =
    unless_bad_not_zero (read_all (message_record_of a) (r ∷ rs)).bad _ (read_first_not_zero (message_record_of a r) (read_all (message_record_of a) rs))

pub degrees_blame_the_end : (edges : List Edge) (r : List ℕ) (rs : List (List ℕ)) → (degree_part edges (r ∷ rs)).bad ≢ Some 0
degrees_blame_the_end edges r rs =
    unless_bad_not_zero (read_all edge_record_of (r ∷ rs)).bad _ (read_first_not_zero (edge_record_of r) (read_all edge_record_of rs))

numbered_not_zero : (i : ℕ) (number : Option ℕ) (rs : List (List ℕ)) → (numbered_part i number rs).bad ≢ Some 0
numbered_not_zero i None rs = λ e. cc
numbered_not_zero i (Some number) rs = one_more_not_zero (settled_part rs).bad

pub placed_blames_the_end : (i : ℕ) (r : List ℕ) (rs : List (List ℕ)) → (placed_part i (r ∷ rs)).bad ≢ Some 0
placed_blames_the_end i r rs = numbered_not_zero i (number_record_of r) rs

pub settled_blames_the_end : (r : List ℕ) (rs : List (List ℕ)) → (settled_part (r ∷ rs)).bad ≢ Some 0
settled_blames_the_end r rs = λ e. cc
