-- How many numbers a made program prints, and their sum.
use Rattle.std.proofs.Common.{◌≡◌, ℕ, zero, suc, ◌+◌, ◌-◌, ◌*◌, length, mul-suc, refl, ap, ◌∙◌, arith}
use Rattle.std.specs.Prelude.{pos}
use Rattle.std.specs.List.{flat_map, range_with_len}
use Rattle.std.proofs.Math.Nat.{suc-mul}
use Rattle.std.proofs.lemmas.Int.{ints}
use Rattle.made_laws.specs.MadeRun.{twice, made_lines, sum_of_lines}

many : (a n : ℕ) → length (flat_map twice (range_with_len a n)) ≡ 2 * n
many a zero = refl
many a (suc n) = let rest = many (a + 1) n in omega (arith, rest)

-- n * (n + 1) is 2 * n more than n * (n - 1)
pub product : (n : ℕ) → suc n * n ≡ n * (n - 1) + 2 * n
product zero = refl
product (suc m) =
    let p = mul-suc (suc (suc m)) m in
    let q = suc-mul (suc m) m in
    let r = mul-suc (suc m) m in
    let less : suc m * (suc m - 1) ≡ suc m * m = ap (λ (k : ℕ). suc m * k) (let e : suc m - 1 ≡ m = omega arith in e) in
    omega (arith, p, q, r, less)

added : (a n : ℕ) → sum_of_lines (flat_map twice (range_with_len a n)) ≡ pos (n * (n - 1) + 2 * (a * n))
added a zero = ap pos (let e : 0 ≡ 0 * (0 - 1) + 2 * (a * 0) = omega arith in e)
added a (suc n) =
    let rest = added (a + 1) n in
    let one = suc-mul a n in
    let next : (a + 1) * n ≡ suc a * n = ap (λ (k : ℕ). k * n) (let e : a + 1 ≡ suc a = omega arith in e) in
    let both = mul-suc a n in
    let square = product n in
    let less : suc n * (suc n - 1) ≡ suc n * n = ap (λ (k : ℕ). suc n * k) (let e : suc n - 1 ≡ n = omega arith in e) in
    omega (arith, ints, rest, one, next, both, square, less)

pub lines_are_many : (n : ℕ) → length (made_lines n) ≡ 2 * n
lines_are_many n = many 0 n

pub lines_add_up : (n : ℕ) → sum_of_lines (made_lines n) ≡ pos (n * (n - 1))
lines_add_up n = added 0 n ∙ ap pos (let e : n * (n - 1) + 2 * (0 * n) ≡ n * (n - 1) = omega arith in e)
