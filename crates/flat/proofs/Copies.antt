-- A board's rows, copied one after another.
use Rattle.std.proofs.Common.{◌≡◌, ℕ, ◌+◌, ◌*◌, ◌<◌, ◌≤◌, List, [], ◌∷◌, ◌++◌, map, length, take, drop, Some, Option, sym, refl, ap, ◌∙◌, subst, ap₂, arith}
use Rattle.std.proofs.lemmas.List.Elements.{All-head, All-tail, All-push, All-weaker}
use Rattle.std.proofs.lemmas.List.{append_assoc, drop-append-le, drop_at, length-append, length-drop, map-append, take_all, take-append-le, take_more}
use Rattle.std.proofs.lemmas.Option.{slice_get-get_or}
use Rattle.std.specs.Option.{option_map}
use Rattle.std.specs.List.{All, slice_get}
use Rattle.board.specs.declared.parts.Step.{Step}
use Rattle.board.specs.Questions.{bound, turn_at, label_at, rests_at, degree_at, step_at}
use Rattle.board.specs.Ranges.{InRange}
use Rattle.board.specs.Table.{Row, Table, row_at, move_at, absent_row, absent_move}
use Rattle.flat.specs.declared.parts.FlatRow.{FlatRow}
use Rattle.flat.specs.Flat.{Among, row_of}

-- an answer that was unwrapped
pub unwrapped : {X : Type 0} (o a : Option X) (r x : X) → o ≡ Some r → o ≡ a → a ≡ Some x → r ≡ x
unwrapped o a r x e f g = cc

module _ (t : Table) (p : ℕ) (h : p < length t.rows) where
  pub turn_there : turn_at t p ≡ Some (row_at t p).turn
  turn_there = ap (option_map (λ r. r.turn)) (slice_get-get_or t.rows p absent_row h)

  pub label_there : label_at t p ≡ Some (row_at t p).label
  label_there = ap (option_map (λ r. r.label)) (slice_get-get_or t.rows p absent_row h)

  pub rests_there : rests_at t p ≡ Some (row_at t p).rests
  rests_there = ap (option_map (λ r. r.rests)) (slice_get-get_or t.rows p absent_row h)

  pub degree_there : degree_at t p ≡ Some (length (row_at t p).moves)
  degree_there = ap (option_map (λ r. length r.moves)) (slice_get-get_or t.rows p absent_row h)

  pub degree_is : (o : Option ℕ) (d : ℕ) → o ≡ Some d → o ≡ degree_at t p → d ≡ length (row_at t p).moves
  degree_is o d e f = unwrapped o (degree_at t p) d (length (row_at t p).moves) e f degree_there

  pub step_there : (k : ℕ) → k < length (row_at t p).moves → step_at t p k ≡ Some (move_at (row_at t p) k)
  step_there k l = ap (λ o. bound o (λ r. slice_get r.moves k)) (slice_get-get_or t.rows p absent_row h) ∙ slice_get-get_or (row_at t p).moves k absent_move l

  -- one more move is appended
  pub moves_next : (k : ℕ) (old so new : List Step) (o : Option Step) (s : Step) → k < length (row_at t p).moves → so ≡ old ++ take k (row_at t p).moves → o ≡ Some s → o ≡ step_at t p k → new ≡ so ++ s ∷ [] → new ≡ old ++ take (k + 1) (row_at t p).moves
  moves_next k old so new o s l so_far e f pushed =
      pushed ∙ ap₂ (λ xs x. xs ++ x ∷ []) so_far (unwrapped o (step_at t p k) s (move_at (row_at t p) k) e f (step_there k l)) ∙ append_assoc old (take k (row_at t p).moves) (move_at (row_at t p) k ∷ []) ∙ ap (λ xs. old ++ xs) (sym (take_more (row_at t p).moves k absent_move l))

-- all moves are appended
pub moves_all : (t : Table) (p k : ℕ) (old new : List Step) → length (row_at t p).moves ≤ k → new ≡ old ++ take k (row_at t p).moves → new ≡ old ++ (row_at t p).moves
moves_all t p k old new h e = e ∙ ap (λ xs. old ++ xs) (take_all k (row_at t p).moves h)

-- appending moves keeps a row
grown : (ss more : List Step) (r : FlatRow) → Among ss r → row_of (ss ++ more) r ≡ row_of ss r
grown ss more r h =
    ap (λ (m : List Step). record { turn = r.turn; label = r.label; rests = r.rests; moves = m })
    (ap (take r.degree) (drop-append-le r.first ss more (omega arith)) ∙ take-append-le r.degree (drop r.first ss) more (omega (arith, length-drop r.first ss)))

all_grown : (ss more : List Step) (rs : List FlatRow) → All (Among ss) rs → map (row_of (ss ++ more)) rs ≡ map (row_of ss) rs
all_grown ss more [] h = refl
all_grown ss more (r ∷ rs) h = ap₂ (λ x xs. x ∷ xs) (grown ss more r (All-head (Among ss) r rs h)) (all_grown ss more rs (All-tail (Among ss) r rs h))

-- a position as a row has it, with its moves from `first` on
pub record Held (row : Row) (first : ℕ) (r : FlatRow) : Type 0 where
  pub turn_same : r.turn ≡ row.turn
  pub label_same : r.label ≡ row.label
  pub rests_same : r.rests ≡ row.rests
  pub first_same : r.first ≡ first
  pub degree_same : r.degree ≡ length row.moves

-- the row of a position whose moves were appended
pub held_row : (ss new : List Step) (row : Row) (r : FlatRow) → new ≡ ss ++ row.moves → Held row (length ss) r → row_of new r ≡ row
held_row ss new row r e h =
    let moves : take r.degree (drop r.first new) ≡ row.moves =
    ap (λ xs. take r.degree (drop r.first xs)) e ∙ ap (take r.degree) (drop_at ss row.moves r.first (sym h.first_same)) ∙ take_all r.degree row.moves (omega (arith, h.degree_same)) in
    λ i. record { turn = h.turn_same i; label = h.label_same i; rests = h.rests_same i; moves = moves i }

pub held_among : (ss new : List Step) (row : Row) (r : FlatRow) → new ≡ ss ++ row.moves → Held row (length ss) r → Among new r
held_among ss new row r e h = omega (arith, h.first_same, h.degree_same, ap length e, length-append ss row.moves)

-- the first p rows of a table are copied
pub record Copied (t : Table) (p : ℕ) (rs : List FlatRow) (ss : List Step) : Type 0 where
  pub same : map (row_of ss) rs ≡ take p t.rows
  pub among : All (Among ss) rs
  pub few : length ss ≤ 64 * p

-- one more row is copied, and its moves are appended
pub copied_next : (t : Table) (p : ℕ) (rs rs' : List FlatRow) (ss ss' : List Step) (r : FlatRow) → InRange t → p < length t.rows → Copied t p rs ss → rs' ≡ rs ++ r ∷ [] → ss' ≡ ss ++ (row_at t p).moves → row_of ss' r ≡ row_at t p → Among ss' r → Copied t (p + 1) rs' ss'
copied_next t p rs rs' ss ss' r fair h so_far er es row here =
    let long : length ss' ≡ length ss + length (row_at t p).moves = ap length es ∙ length-append ss (row_at t p).moves in
    let before : map (row_of ss') rs ≡ take p t.rows = ap (λ xs. map (row_of xs) rs) es ∙ all_grown ss (row_at t p).moves rs so_far.among ∙ so_far.same in
    subst (λ xs. Copied t (p + 1) xs ss') (sym er)
    (record {
      same = map-append (row_of ss') rs (r ∷ []) ∙ ap₂ (λ xs x. xs ++ x ∷ []) before row ∙ sym (take_more t.rows p absent_row h);
      among = All-push (Among ss') rs r (All-weaker (Among ss) (Among ss') (λ x l. omega (arith, l, long)) rs so_far.among) here;
      few = omega (arith, long, so_far.few, (fair.each_row p h).degree_top);
    })
