-- Number words.
use Rattle.std.specs.Prelude.{ℕ, Bool, not, ◌&&◌, ◌||◌, List, length, ◌==◌, nat_le, nat_lt, slice_index}
use Rattle.std.specs.Str.{all_ascii_digits}

-- 1 to 10 decimal digits, the first no zero unless it is alone
abbrev pub is_number : List ℕ → Bool
is_number w = all_ascii_digits w && (nat_lt 0 (length w) && (nat_le (length w) 10 && (not (slice_index w 0 == 48) || length w == 1)))
