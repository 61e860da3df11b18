-- Numbers of 64 bits: sums that wrap, and halves.
use Rattle.std.specs.Prelude.{◌≡◌, ℕ, zero, suc, ◌+◌, ◌-◌, ◌/◌, ◌%◌, ◌^◌, ◌<◌, ◌≤◌, true, false, cond, nat_lt, ℤ, pos, negsuc, FitsSigned, ◌+ℤ◌, Ok, refl}
use Rattle.std.specs.Int.{w64, int_wrap, cast_unsigned, cast_signed, int_wrapping_add, int_wrapping_sub, int_wrapping_div}
use Rattle.std.proofs.Common.{sym, ◌∙◌, ap, arith, le-ltb, lt-ltb, Less, Equal, Greater, is_eq}
use Rattle.par_tree.specs.Tree.{equal, above}
use Rattle.depth_first_run.specs.Values.{truth, compared}
use Rattle.std.proofs.lemmas.Int.{of_z-to_z, to_z_pos, SFits-int_wrap, wrapping_add_is, int_wrap_fits, ints}
use Rattle.loop_laws.specs.PlainLoop.{next_number, number_of_round, positive_part, count_between}

-- to wrap on the way changes nothing
mod_left : (a b : ℕ) → (a % 2 ^ 64 + b) % 2 ^ 64 ≡ (a + b) % 2 ^ 64
mod_left a b = omega arith

mod_right : (a b : ℕ) → (a + b % 2 ^ 64) % 2 ^ 64 ≡ (a + b) % 2 ^ 64
mod_right a b = omega arith

bits_of_wrapped : (n : ℕ) → cast_unsigned w64 (cast_signed w64 (n % 2 ^ 64)) ≡ n % 2 ^ 64
bits_of_wrapped n = of_z-to_z w64 (n % 2 ^ 64) (omega arith)

pub sums_regroup : (a b d : ℤ) → int_wrapping_add w64 (int_wrapping_add w64 a b) d ≡ int_wrapping_add w64 a (int_wrapping_add w64 b d)
sums_regroup a b d =
    let x : ℕ = cast_unsigned w64 a in let y : ℕ = cast_unsigned w64 b in let z : ℕ = cast_unsigned w64 d in
    ap (λ n. cast_signed w64 ((n + z) % 2 ^ 64)) (bits_of_wrapped (x + y))
    ∙ ap (λ n. cast_signed w64 n) (mod_left (x + y) z ∙ ap (λ n. n % 2 ^ 64) (omega arith) ∙ sym (mod_right x (y + z)))
    ∙ ap (λ n. cast_signed w64 ((x + n) % 2 ^ 64)) (sym (bits_of_wrapped (y + z)))

pub number_of_round_is : (n : ℕ) (lo : ℤ) → number_of_round lo (suc n) ≡ int_wrapping_add w64 lo (pos (suc n))
unfolding number_of_round
number_of_round_is zero lo = refl
number_of_round_is (suc n) lo =
    let x : ℕ = cast_unsigned w64 lo in
    number_of_round_is n (next_number lo)
    ∙ ap (λ m. cast_signed w64 ((m + suc n) % 2 ^ 64)) (bits_of_wrapped (x + 1))
    ∙ ap (λ m. cast_signed w64 m) (mod_left (x + 1) (suc n) ∙ ap (λ m. m % 2 ^ 64) (omega arith))

pub half_is : (m : ℕ) → m < 2 ^ 63 → int_wrapping_div w64 (pos m) (pos 2) ≡ pos (m / 2)
half_is m small = to_z_pos w64 (m / 2) (omega (arith, small))

pub rest_is : (m h : ℕ) → m < 2 ^ 63 → h ≤ m → int_wrapping_sub w64 (pos m) (pos h) ≡ pos (m - h)
rest_is m h small le = ap (λ n. cast_signed w64 n) (omega (arith, small, le)) ∙ to_z_pos w64 (m - h) (omega (arith, small, le))

small_part : (z : ℤ) → FitsSigned w64 z → positive_part z < 2 ^ 63
small_part (pos n) f = omega (arith, f)
small_part (negsuc n) f = omega arith

wrapped_fits : (n : ℕ) → FitsSigned w64 (cast_signed w64 (n % 2 ^ 64))
unfolding int_wrap
wrapped_fits n = SFits-int_wrap w64 (pos n)

-- a loop has less than 2 ^ 63 numbers
pub count_small : (lo hi : ℤ) → count_between lo hi < 2 ^ 63
count_small lo hi =
    small_part (int_wrapping_sub w64 hi lo) (wrapped_fits (cast_unsigned w64 hi + (2 ^ 64 - cast_unsigned w64 lo)))

-- the tests of a count that is 2 or more
pub not_one : (m : ℕ) → 2 ≤ m → compared equal (pos m) (pos 1) ≡ Ok (pos 0)
unfolding compared
not_one m le =
    let few : nat_lt m 1 ≡ false = le-ltb m 1 (omega (arith, le)) in
    let more : nat_lt 1 m ≡ true = lt-ltb 1 m (omega (arith, le)) in
    λ i. Ok (truth (is_eq (cond (few i) Less (cond (more i) Greater Equal))))

pub above_one : (m : ℕ) → 2 ≤ m → compared above (pos m) (pos 1) ≡ Ok (pos 1)
unfolding compared
above_one m le =
    let more : nat_lt 1 m ≡ true = lt-ltb 1 m (omega (arith, le)) in
    λ i. Ok (truth (more i))

-- 0 and a number of 64 bits
pub nothing_added : (v : ℤ) → FitsSigned w64 v → int_wrapping_add w64 (pos 0) v ≡ v
nothing_added v f =
    wrapping_add_is w64 (pos 0) v (wrapped_fits 0) f ∙ ap (λ z. int_wrap w64 z) (begins_with v) ∙ int_wrap_fits w64 v f
  where
    begins_with : (z : ℤ) → (pos 0 +ℤ z) ≡ z
    begins_with z = omega (arith, ints)
