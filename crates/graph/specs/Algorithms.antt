-- The functions of the algorithms on plain numbers.
use Rattle.std.specs.Prelude.{ℕ, ◌+◌, ◌-◌, ◌*◌, ◌/◌, ◌^◌, min, nat_eq}
use Rattle.graph.specs.declared.edges.One.{One}
use Rattle.graph.specs.Steps.{Algorithm}

-- the components: each node takes over the least label that comes to it
abbrev pub hcc : Algorithm ℕ ℕ One
hcc = record {
  unit = 2 ^ 64 - 1;
  combine = min;
  combine2 = λ weight label. label;
  assign = min;
  same = nat_eq;
  first = λ node. node;
  number = λ label. label;
}

-- a sum that stops at the greatest number of 64 bits
abbrev pub capped_sum : ℕ → ℕ → ℕ
capped_sum x y = min (x + y) (2 ^ 64 - 1)

-- the ranks of n nodes (Page, Brin, Motwani and Winograd 1999), in units of 2^-32, with 0.85 of each passed on
abbrev pub page_rank : ℕ → Algorithm ℕ ℕ ℕ
page_rank n = record {
  unit = 0;
  combine = capped_sum;
  combine2 = λ degree rank. 17 * rank / (20 * degree);
  assign = λ rank all. capped_sum (3 * 2 ^ 32 / (20 * n)) all;
  same = nat_eq;
  first = λ node. 2 ^ 32 / n;
  number = λ rank. rank;
}
