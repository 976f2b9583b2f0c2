-- What a joined table answers, by what the board below answers.
use Rattle.std.proofs.Common.{◌≡◌, ℕ, ◌*◌, ◌/◌, ◌%◌, ◌<◌, ◌≤◌, ◌&&◌, List, map, length, Some, None, Option, sym, refl, ap, ◌∙◌, ⊎_elim, arith}
use Rattle.std.specs.Option.{option_map}
use Rattle.std.specs.List.{slice_get}
use Rattle.std.proofs.lemmas.Nat.{div_below, le-div}
use Rattle.std.proofs.lemmas.List.{length-map}
use Rattle.std.proofs.lemmas.Option.{slice_get-get_or, slice_get_past}
use Rattle.std.proofs.lemmas.Bool.{cases_lt}
use Rattle.board.specs.Table.{Row, Table, absent_row}
use Rattle.board.specs.Questions.{bound, turn_at, label_at, rests_at, degree_at, step_at}
use Rattle.task.specs.Dfa.{Dfa, DfaInRange}
use Rattle.product.specs.Product.{joined_move, joined}
use Rattle.product.proofs.Rows.{joined_count, row_of}

-- a row below with state z
abbrev paired : Table → Dfa → ℕ → Row → Row
paired t d z r = record { turn = r.turn; label = r.label; rests = r.rests && d.accepting z; moves = map (joined_move t d z) r.moves }

nth_map : {X Y : Type 0} (f : X → Y) (xs : List X) (k : ℕ) → slice_get (map f xs) k ≡ option_map f (slice_get xs k)
nth_map f mathlib.Core.List.[] k = refl
nth_map f (mathlib.Core.List.◌∷◌ x xs) Prim.Native.Nat.zero = refl
nth_map f (mathlib.Core.List.◌∷◌ x xs) (Prim.Native.Nat.suc k) = nth_map f xs k

module _ (t : Table) (d : Dfa) (sound : DfaInRange d) where
  some_states : 0 < d.states
  some_states = omega (arith, sound.starts)

  nth_joined : (i : ℕ) → slice_get (joined t d).rows i ≡ option_map (paired t d (i % d.states)) (slice_get t.rows (i / d.states))
  nth_joined i =
      ⊎_elim
      (λ (h : i < length t.rows * d.states).
      slice_get-get_or (joined t d).rows i absent_row (omega (arith, joined_count t d)) ∙ ap Some (row_of t d i h)
      ∙ sym (ap (option_map (paired t d (i % d.states))) (slice_get-get_or t.rows (i / d.states) absent_row (div_below i d.states (length t.rows) some_states h))))
      (λ (h : length t.rows * d.states ≤ i).
      slice_get_past (joined t d).rows i (omega (arith, joined_count t d))
      ∙ sym (ap (option_map (paired t d (i % d.states))) (slice_get_past t.rows (i / d.states) (le-div (length t.rows) i d.states some_states h))))
      (cases_lt i (length t.rows * d.states))

  pub joined_turn : (i : ℕ) → turn_at (joined t d) i ≡ turn_at t (i / d.states)
  joined_turn i = ap (option_map (λ r. r.turn)) (nth_joined i) ∙ through (slice_get t.rows (i / d.states))
    where
      through : (o : Option Row) → option_map (λ r. r.turn) (option_map (paired t d (i % d.states)) o) ≡ option_map (λ r. r.turn) o
      through None = refl
      through (Some r) = refl

  pub joined_label : (i : ℕ) → label_at (joined t d) i ≡ label_at t (i / d.states)
  joined_label i = ap (option_map (λ r. r.label)) (nth_joined i) ∙ through (slice_get t.rows (i / d.states))
    where
      through : (o : Option Row) → option_map (λ r. r.label) (option_map (paired t d (i % d.states)) o) ≡ option_map (λ r. r.label) o
      through None = refl
      through (Some r) = refl

  pub joined_rests : (i : ℕ) → rests_at (joined t d) i ≡ option_map (λ b. b && d.accepting (i % d.states)) (rests_at t (i / d.states))
  joined_rests i = ap (option_map (λ r. r.rests)) (nth_joined i) ∙ through (slice_get t.rows (i / d.states))
    where
      through : (o : Option Row)
          → option_map (λ r. r.rests) (option_map (paired t d (i % d.states)) o) ≡ option_map (λ b. b && d.accepting (i % d.states)) (option_map (λ r. r.rests) o)
      through None = refl
      through (Some r) = refl

  pub joined_degree : (i : ℕ) → degree_at (joined t d) i ≡ degree_at t (i / d.states)
  joined_degree i = ap (option_map (λ r. length r.moves)) (nth_joined i) ∙ through (slice_get t.rows (i / d.states))
    where
      through : (o : Option Row) → option_map (λ r. length r.moves) (option_map (paired t d (i % d.states)) o) ≡ option_map (λ r. length r.moves) o
      through None = refl
      through (Some r) = ap Some (length-map r.moves (joined_move t d (i % d.states)))

  pub joined_step : (i k : ℕ) → step_at (joined t d) i k ≡ option_map (joined_move t d (i % d.states)) (step_at t (i / d.states) k)
  joined_step i k = ap (λ o. bound o (λ r. slice_get r.moves k)) (nth_joined i) ∙ through (slice_get t.rows (i / d.states))
    where
      through : (o : Option Row)
          → bound (option_map (paired t d (i % d.states)) o) (λ r. slice_get r.moves k) ≡ option_map (joined_move t d (i % d.states)) (bound o (λ r. slice_get r.moves k))
      through None = refl
      through (Some r) = nth_map (joined_move t d (i % d.states)) r.moves k
