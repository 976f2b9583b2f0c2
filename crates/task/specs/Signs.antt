-- The signs of a label, which is the sum of 2 ^ sign over its signs.
use Rattle.std.specs.Prelude.{◌≡◌, ℕ, ◌/◌, ◌%◌, ◌^◌, ◌<◌, Bool, true, List, length, ◌==◌, slice_index}

unfoldable pub has_sign : ℕ → ℕ → Bool
has_sign label sign = label / 2 ^ sign % 2 == 1

-- place i of a list of labels is there, and its label has the sign
pub record Marked (list : List ℕ) (i sign : ℕ) : Type 0 where
  pub there : i < length list
  pub marked : has_sign (slice_index list i) sign ≡ true
