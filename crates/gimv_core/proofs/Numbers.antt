-- Numbers of 64 bits.
use Rattle.std.proofs.Common.{◌≡◌, ℕ, ◌+◌, ◌-◌, ◌*◌, ◌/◌, ◌<◌, ◌≤◌, ◌^◌, IsTrue, min, arith, mul_assoc}
use Rattle.std.proofs.Math.Nat.{div-le_of_le-mul}
use Rattle.std.proofs.lemmas.Nat.{mul-le}
use Rattle.std.proofs.lemmas.Bool.{ltb-true, lt-ltb}
use Rattle.graph.specs.Laws.{is_of_64_bits}

pub min_itself : (m : ℕ) → min m m ≡ m
min_itself m = omega arith

-- as a test, and back
pub of_64_bits : (m : ℕ) → m < 2 ^ 64 → IsTrue (is_of_64_bits m)
of_64_bits m small = lt-ltb m (2 ^ 64) small

pub small_of_64_bits : (m : ℕ) → IsTrue (is_of_64_bits m) → m < 2 ^ 64
small_of_64_bits m fits = ltb-true m (2 ^ 64) fits

pub node_of_64_bits : (i : ℕ) → i < 2 ^ 32 → IsTrue (is_of_64_bits i)
node_of_64_bits i small = of_64_bits i (omega arith)

pub at_most_of_64_bits : (m n : ℕ) → m ≤ n → IsTrue (is_of_64_bits n) → IsTrue (is_of_64_bits m)
at_most_of_64_bits m n le fits = let small = small_of_64_bits n fits in of_64_bits m (omega arith)

pub capped_of_64_bits : (m n : ℕ) → IsTrue (is_of_64_bits (min (m + n) (2 ^ 64 - 1)))
capped_of_64_bits m n = of_64_bits (min (m + n) (2 ^ 64 - 1)) (omega arith)

-- seventeen twentieths of a number, shared, are at most the number
pub share_at_most_seventeen : (m n : ℕ) → 1 ≤ m → 17 * n / (20 * m) ≤ n
share_at_most_seventeen m n some =
    let row : 1 * n ≤ m * n = mul-le 1 n m n some (omega arith) in
    let same : 20 * m * n ≡ 20 * (m * n) = mul_assoc 20 m n in
    div-le_of_le-mul (20 * m) (omega arith)
