-- The least of numbers, and a sum that stops at the greatest one, may be taken in any order.
use Rattle.std.proofs.Common.{◌-◌, ◌^◌, arith}
use Rattle.std.proofs.lemmas.Bool.{lt-ltb, ltb-true}
use Rattle.graph.specs.Laws.{LabelsInAnyOrder, RanksInAnyOrder}

pub labels_in_any_order : LabelsInAnyOrder
labels_in_any_order = record {
  associative = λ x y z fx fy fz. omega arith;
  commutative = λ x y fx fy. omega arith;
  neutral = λ x fx. let lt = ltb-true x (2 ^ 64) fx in omega arith;
  unit_fits = lt-ltb (2 ^ 64 - 1) (2 ^ 64) (omega arith);
  combine_fits = λ x y fx fy. let lt = ltb-true x (2 ^ 64) fx in lt-ltb _ (2 ^ 64) (omega arith);
}

pub ranks_in_any_order : RanksInAnyOrder
ranks_in_any_order n = record {
  associative = λ x y z fx fy fz. omega arith;
  commutative = λ x y fx fy. omega arith;
  neutral = λ x fx. let lt = ltb-true x (2 ^ 64) fx in omega arith;
  unit_fits = lt-ltb 0 (2 ^ 64) (omega arith);
  combine_fits = λ x y fx fy. lt-ltb _ (2 ^ 64) (omega arith);
}
