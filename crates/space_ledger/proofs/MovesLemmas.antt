-- What is stored as the high-water mark.
use Rattle.std.proofs.Common.{◌≡◌, ℤ, ◌+ℤ◌, FitsSigned, to_z, of_z}
use Rattle.std.specs.Int.{w64, int_max}
use Rattle.std.proofs.lemmas.Int.{to_z-of_z}

-- numbers that fit 64 bits are read as they were written
pub kept_high : (result high live change : ℤ) → FitsSigned w64 result → FitsSigned w64 high → FitsSigned w64 live → FitsSigned w64 change → FitsSigned w64 (live +ℤ change)
    → result ≡ int_max (to_z w64 (of_z w64 high)) (to_z w64 (of_z w64 (to_z w64 (of_z w64 (to_z w64 (of_z w64 live) +ℤ to_z w64 (of_z w64 change))))))
    → to_z w64 (of_z w64 result) ≡ int_max high (live +ℤ change)
kept_high result high live change fits_result fits_high fits_live fits_change fits_sum is =
    rw (
      to_z-of_z w64 result fits_result,
      is,
      to_z-of_z w64 high fits_high,
      to_z-of_z w64 live fits_live,
      to_z-of_z w64 change fits_change,
      to_z-of_z w64 (live +ℤ change) fits_sum,
      to_z-of_z w64 (live +ℤ change) fits_sum,
    )
