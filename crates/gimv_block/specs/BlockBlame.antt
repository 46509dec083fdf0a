-- Where a further record of a group comes, the one before it isn't bad.
use Rattle.std.specs.Prelude.{◌≡◌, ◌≢◌, ℕ, ◌+◌, List, ◌∷◌, length, Option, Some, None, option_map, option_and_then}
use Rattle.std.proofs.Common.{arith}
use Rattle.gimv_core.specs.Algebras.{Algebra}
use Rattle.graph.specs.Entries.{Entry}
use Rattle.gimv_base.specs.Parts.{Part}
use Rattle.gimv_base.specs.BaseRules.{Reading, read_first, read_all, unless_bad}
use Rattle.gimv_block.specs.BlockRecords.{sent_record_of, parts_record_of, seat_record_of, cut_record_of}
use Rattle.gimv_block.specs.BlockRules.{sent_part, renewed_part, seated_part, seat_taken, unless_refused, items_part, item_then, item_lead, next_count}

some_is : (m n : ℕ) → Some m ≡ Some n → m ≡ n
some_is m n e = cc

one_more_not_zero : (bad : Option ℕ) → option_map (λ k. 1 + k) bad ≢ Some 0
one_more_not_zero None = λ e. cc
one_more_not_zero (Some k) = λ e. let same : 1 + k ≡ 0 = some_is (1 + k) 0 e in omega arith

read_first_not_zero : {A : Type 0} (found : Option A) (later : Reading A) → (read_first found later).bad ≢ Some 0
read_first_not_zero None later = λ e. cc
read_first_not_zero (Some x) later = one_more_not_zero later.bad

pub sent_blames_the_end : {Val Msg Weight : Type 0} (a : Algebra Val Msg Weight) (len n j : ℕ) (vs : List Val) (r : List ℕ) (rs : List (List ℕ)) → (sent_part a len n j vs (r ∷ rs)).bad ≢ Some 0
sent_blames_the_end a len n j vs r rs = read_first_not_zero (sent_record_of a len n j vs r) (read_all (sent_record_of a len n j vs) rs)

unless_bad_not_zero : (bad : Option ℕ) (out : List ℕ) → bad ≢ Some 0 → (unless_bad bad out).bad ≢ Some 0
unless_bad_not_zero None out apart = λ e. cc
unless_bad_not_zero (Some k) out apart = apart

pub renewed_blames_the_end : {Val Msg Weight : Type 0} (a : Algebra Val Msg Weight) (j : ℕ) (vs : List Val) (before : ℕ → Msg) (r : List ℕ) (rs : List (List ℕ)) → (renewed_part a j vs before (r ∷ rs)).bad ≢ Some 0
renewed_blames_the_end a j vs before r rs =
    unless_bad_not_zero (read_all (parts_record_of a (length vs)) (r ∷ rs)).bad _ (read_first_not_zero (parts_record_of a (length vs) r) (read_all (parts_record_of a (length vs)) rs))

unless_refused_not_zero : {A : Type 0} (found : Option A) (later : A → Part) → (unless_refused found later).bad ≢ Some 0
unless_refused_not_zero None later = λ e. cc
unless_refused_not_zero (Some x) later = one_more_not_zero (later x).bad

pub seated_blames_the_end : {Val Msg Weight : Type 0} (a : Algebra Val Msg Weight) (n j : ℕ) (seats : List (Option ℕ)) (r : List ℕ) (rs : List (List ℕ)) → (seated_part a n j (r ∷ rs) seats).bad ≢ Some 0
seated_blames_the_end a n j seats r rs = unless_refused_not_zero (option_and_then (seat_taken seats) (seat_record_of (length seats) n r)) (seated_part a n j rs)

item_then_not_zero : (found : Option (Entry ℕ)) (lead : List ℕ) (later : Part) → (item_then found lead later).bad ≢ Some 0
item_then_not_zero None lead later = λ e. cc
item_then_not_zero (Some e) lead later = one_more_not_zero later.bad

pub items_blame_the_end : (head : List ℕ) (count : ℕ) (r : List ℕ) (rs : List (List ℕ)) → (items_part head (r ∷ rs) count).bad ≢ Some 0
items_blame_the_end head count r rs = item_then_not_zero (cut_record_of r) (item_lead head count) (items_part head rs (next_count count))
