-- What the joined board answers where the join has at most 4,096 positions.
use Rattle.std.proofs.Common.{◌≡◌, ℕ, ◌+◌, ◌*◌, ◌/◌, ◌%◌, ◌<◌, ◌≤◌, Bool, true, false, cond, ◌&&◌, ltb, leb, length, Some, None, Option, sym, refl, ap, ◌∙◌, subst, ap₂, ⊎_elim, arith}
use Rattle.std.specs.Option.{is_some, option_map, option_map_or, MatchOption}
use Rattle.std.specs.List.{slice_get}
use Rattle.std.proofs.lemmas.Nat.{mod_below}
use Rattle.std.proofs.lemmas.Option.{slice_get-get_or, slice_get_past}
use Rattle.std.proofs.lemmas.Bool.{leb-true, le-leb, cond-true, cases_lt, lt-ltb}
use Rattle.board.specs.declared.parts.Step.{Step}
use Rattle.board.specs.Table.{Table, row_at, move_at, absent_row, absent_move}
use Rattle.board.specs.Ranges.{InRange}
use Rattle.board.specs.Questions.{bound, turn_at, label_at, rests_at, degree_at, step_at}
use Rattle.task.specs.Dfa.{Dfa, DfaInRange, next_at, accepting_at}
use Rattle.product.specs.Joins.{IsJoin}
use Rattle.product.specs.Product.{joined_move, joined}
use Rattle.product.proofs.Answers.{joined_turn, joined_label, joined_rests, joined_degree, joined_step}
use Rattle.product.proofs.Moves.{is_join}
use Rattle.product.proofs.Rows.{joined_count, place_below}
use Rattle.joined.specs.Meant.{join_size, meant, below_of, width_of}

pub whole : (t : Table) (d : Dfa) → join_size t d ≤ 4096 → meant t d ≡ joined t d
whole t d h = cond-true (leb (join_size t d) 4096) (joined t d) t (le-leb (join_size t d) 4096 h)

pub whole_join : (t : Table) (d : Dfa) → InRange t → DfaInRange d → join_size t d ≤ 4096 → IsJoin t d (meant t d)
whole_join t d fair sound h = subst (IsJoin t d) (sym (whole t d h)) (is_join t d fair sound)

none_is_not_some : {X : Type 0} (x : X) → Some x ≡ None → ⊥
none_is_not_some x e = let z : ◌≡◌ {A = ℕ} 0 1 = cc in omega arith

pub label_there : (t : Table) (p : ℕ) → p < length t.rows → label_at t p ≡ Some (row_at t p).label
label_there t p h = ap (option_map (λ r. r.label)) (slice_get-get_or t.rows p absent_row h)

-- a move that is answered leads to a position that is there
pub step_lands : (t : Table) (p k : ℕ) (s : Step) → InRange t → Some s ≡ step_at t p k → s.target < length t.rows
step_lands t p k s fair e =
    ⊎_elim
    (λ (hp : p < length t.rows).
    ⊎_elim
    (λ (hk : k < length (row_at t p).moves).
    (let same : Some s ≡ Some (move_at (row_at t p) k) = e ∙ ap (λ o. bound o (λ r. slice_get r.moves k)) (slice_get-get_or t.rows p absent_row hp) ∙ slice_get-get_or (row_at t p).moves k absent_move hk in
    let is : s ≡ move_at (row_at t p) k = cc in
    subst (λ m. m.target < length t.rows) (sym is) ((fair.each_row p hp).each_move k hk).lands))
    (λ (hk : length (row_at t p).moves ≤ k).
    absurd (none_is_not_some s (e ∙ ap (λ o. bound o (λ r. slice_get r.moves k)) (slice_get-get_or t.rows p absent_row hp) ∙ slice_get_past (row_at t p).moves k hk)))
    (cases_lt k (length (row_at t p).moves)))
    (λ (hp : length t.rows ≤ p). absurd (none_is_not_some s (e ∙ ap (λ o. bound o (λ r. slice_get r.moves k)) (slice_get_past t.rows p hp))))
    (cases_lt p (length t.rows))

-- a width is there where the join has at most 4,096 positions
pub few_there : (t : Table) (d : Dfa) (o : Option ℕ) → o ≡ width_of t d → is_some o ≡ true → join_size t d ≤ 4096
few_there t d o e h = leb-true (join_size t d) 4096 (known (leb (join_size t d) 4096) (sym (ap is_some e) ∙ h))
  where
    known : (b : Bool) → is_some (cond b (Some d.states) None) ≡ true → b ≡ true
    known true k = refl
    known false k = k

-- the count, with the width where there is one
pub count_is : (t : Table) (d : Dfa) (o : Option ℕ) (n x : ℕ) → o ≡ width_of t d → n ≡ length t.rows → MatchOption o (x ≡ n) (λ m. x ≡ n * m) → x ≡ length (meant t d).rows
count_is t d o n x eo en h = counted (leb (join_size t d) 4096) (subst (λ q. MatchOption q (x ≡ n) (λ m. x ≡ n * m)) eo h)
  where
    counted : (b : Bool) → MatchOption (cond b (Some d.states) None) (x ≡ n) (λ m. x ≡ n * m) → x ≡ length (cond b (joined t d) t).rows
    counted true k = k ∙ ap (λ r. r * d.states) en ∙ sym (joined_count t d)
    counted false k = k ∙ en

-- an answer about the position below that position i stands for
module _ (t : Table) (d : Dfa) where
  asked_below : {Y : Type 0} (ask : Table → ℕ → Y) → ((i : ℕ) → ask (joined t d) i ≡ ask t (i / d.states)) → (i : ℕ) (b : Bool)
      → ask t (option_map_or (λ n. i / n) (cond b (Some d.states) None) i) ≡ ask (cond b (joined t d) t) i
  asked_below ask h i true = sym (h i)
  asked_below ask h i false = refl

  pub below_turn : DfaInRange d → (i : ℕ) → turn_at t (below_of t d i) ≡ turn_at (meant t d) i
  below_turn sound i = asked_below turn_at (joined_turn t d sound) i (leb (join_size t d) 4096)

  pub below_label : DfaInRange d → (i : ℕ) → label_at t (below_of t d i) ≡ label_at (meant t d) i
  below_label sound i = asked_below label_at (joined_label t d sound) i (leb (join_size t d) 4096)

  pub below_degree : DfaInRange d → (i : ℕ) → degree_at t (below_of t d i) ≡ degree_at (meant t d) i
  below_degree sound i = asked_below degree_at (joined_degree t d sound) i (leb (join_size t d) 4096)

module _ (t : Table) (d : Dfa) (sound : DfaInRange d) (m : ℕ) (e : Some m ≡ width_of t d) where
  wide : (b : Bool) → leb (join_size t d) 4096 ≡ b → Some m ≡ cond b (Some d.states) None → (m ≡ d.states) × (join_size t d ≤ 4096)
  wide true eb es = (let is : m ≡ d.states = cc in is, leb-true (join_size t d) 4096 eb)
  wide false eb es = absurd (none_is_not_some m es)

  pub width_is : m ≡ d.states
  width_is = (wide (leb (join_size t d) 4096) refl e).0

  pub few : join_size t d ≤ 4096
  few = (wide (leb (join_size t d) 4096) refl e).1

  is_whole : meant t d ≡ joined t d
  is_whole = whole t d few

  pub state_below : (i : ℕ) → i % m < d.states
  state_below i = subst (λ n. i % m < n) width_is (mod_below i m (omega (arith, sound.starts, width_is)))

  pub place_fits : (p z : ℕ) → p < length t.rows → z < d.states → p * m + z < 4097
  place_fits p z hp hz =
      let at_most : p * d.states + z < length t.rows * d.states = place_below (length t.rows) d.states p z hp hz in
      omega (arith, at_most, few, ap (λ n. p * n) width_is)

  pub row_fits : (p : ℕ) → p < length t.rows → p * m < 4097
  row_fits p hp = omega (arith, place_fits p d.first hp sound.starts)

  pub arrival_fits : (p z r : ℕ) → p < length t.rows → z < d.states → r ≡ d.next z (row_at t p).label → p * m + r < 4097
  arrival_fits p z r hp hz er =
      subst (λ y. p * m + y < 4097) (sym er) (place_fits p (d.next z (row_at t p).label) hp (sound.stays z (row_at t p).label hz))

  pub arrival_is : (p r s : ℕ) → r ≡ s → p * m + r ≡ p * d.states + s
  arrival_is p r s er = ap₂ (λ n x. p * n + x) width_is er

  pub wide_rests : (i : ℕ) (r : Option Bool) → r ≡ rests_at t (i / m) → option_map (λ b. b && d.accepting (i % m)) r ≡ rests_at (meant t d) i
  wide_rests i r er =
      ap (option_map (λ b. b && d.accepting (i % m))) er ∙ ap (λ n. option_map (λ b. b && d.accepting (i % n)) (rests_at t (i / n))) width_is
      ∙ sym (joined_rests t d sound i) ∙ sym (ap (λ j. rests_at j i) is_whole)

  pub wide_step : (i k : ℕ) (r : Option Step) → r ≡ step_at t (i / m) k → option_map (joined_move t d (i % m)) r ≡ step_at (meant t d) i k
  wide_step i k r er =
      ap (option_map (joined_move t d (i % m))) er ∙ ap (λ n. option_map (joined_move t d (i % n)) (step_at t (i / n) k)) width_is
      ∙ sym (joined_step t d sound i k) ∙ sym (ap (λ j. step_at j i k) is_whole)

  pub accepting_there : (i : ℕ) (r : Option Bool) → r ≡ accepting_at d (i % m) → r ≡ Some (d.accepting (i % m))
  accepting_there i r er = er ∙ cond-true (ltb (i % m) d.states) (Some (d.accepting (i % m))) None (lt-ltb (i % m) d.states (state_below i))

pub next_there : (d : Dfa) (z label : ℕ) → z < d.states → next_at d z label ≡ Some (d.next z label)
next_there d z label h = cond-true (ltb z d.states) (Some (d.next z label)) None (lt-ltb z d.states h)
