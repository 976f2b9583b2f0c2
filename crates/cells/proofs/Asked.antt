-- An answer with a default is what the total look-up gives.
use Rattle.std.proofs.Common.{◌≡◌, ℕ, zero, suc, List, [], ◌∷◌, get_or, Option, Some, None, refl}
use Rattle.std.specs.Option.{option_map, unwrap_or, UnwrapsOrElse}
use Rattle.std.specs.List.{slice_get}
use Rattle.board.specs.Questions.{bound}
use Rattle.board.specs.Table.{Row, move_at, absent_row, absent_move}

pub asked : {X Y : Type 0} (f : X → Y) (d : X) (xs : List X) (i : ℕ) → unwrap_or (option_map f (slice_get xs i)) (f d) ≡ f (get_or xs i d)
asked f d [] i = refl
asked f d (x ∷ xs) zero = refl
asked f d (x ∷ xs) (suc i) = asked f d xs i

look : {X : Type 0} (d : X) (xs : List X) (i : ℕ) → unwrap_or (slice_get xs i) d ≡ get_or xs i d
look d [] i = refl
look d (x ∷ xs) zero = refl
look d (x ∷ xs) (suc i) = look d xs i

pub step_asked : (rows : List Row) (p m : ℕ) → unwrap_or (bound (slice_get rows p) (λ r. slice_get r.moves m)) absent_move ≡ move_at (get_or rows p absent_row) m
step_asked [] p m = refl
step_asked (r ∷ rows) zero m = look absent_move r.moves m
step_asked (r ∷ rows) (suc p) m = step_asked rows p m

-- what an answer is where a type's default stands in for none
pub unwraps : {X : Type 0} (P : X → Type 0) (d : X) (o : Option X) (r : X) → UnwrapsOrElse o P r → ((x : X) → P x → x ≡ d) → r ≡ unwrap_or o d
unwraps P d None r h is = is r h
unwraps P d (Some x) r h is = h
