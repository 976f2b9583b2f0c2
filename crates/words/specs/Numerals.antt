-- Decimal numerals.
use Rattle.std.specs.Prelude.{◌≡◌, ℕ, ◌<◌, true, List, length, slice_index_or}
use Rattle.std.specs.Str.{all_ascii_digits}

-- decimal digits, the first no 0 (byte 48) unless it is alone
pub record Numeral (w : List ℕ) : Type 0 where
  pub digits : all_ascii_digits w ≡ true
  pub some : 0 < length w
  pub plain : slice_index_or w 0 0 ≡ 48 → length w ≡ 1
