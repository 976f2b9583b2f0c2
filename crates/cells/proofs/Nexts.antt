-- The cell of a position after the next round, one lemma for each way in which it comes about.
use Rattle.std.proofs.Common.{◌≡◌, ℕ, zero, suc, ◌+◌, ◌<◌, Bool, true, false, List, length, get_or, Some, None, Option, sym, refl, ap, ◌∙◌, subst, arith}
use Rattle.std.specs.Bool.{then_some}
use Rattle.std.specs.Option.{option_map}
use Rattle.board.specs.Table.{Table, row_at}
use Rattle.board.specs.declared.parts.Turn.{Turn}
use Rattle.board.specs.declared.parts.Turn.TheVariants.{Arm, Person}
use Rattle.cost.specs.Kind.{Kind}
use Rattle.cost.specs.Laws.{CostLaws}
use Rattle.orders.specs.Lowest.{lowest}
use Rattle.game.specs.Choices.{first_round, person_choice, chosen}
use Rattle.game.specs.Rounds.{value_through, round, FixedPoint}
use Rattle.game.specs.Strategies.{ToMove}
use Rattle.game.specs.Values.{value_leq}
use Rattle.game.proofs.Choosing.{none_at_rest}
use Rattle.game.proofs.Ends.{stays}
use Rattle.game.proofs.Moves.{chosen_arm, chosen_person}
use Rattle.game.proofs.Rounds.{resting}
use Rattle.game.proofs.Steps.{stays_first, falls_first, stays_chosen, falls_chosen}
use Rattle.game.proofs.Values.{values}
use Rattle.cells.specs.Cells.{empty_cell, final_cell}
use Rattle.cells.specs.Leads.{turn_leq, Leads}
use Rattle.cells.specs.Written.{round_choice, round_cell, Holds, values_of}
use Rattle.cells.specs.declared.parts.Cell.{Cell}
use Rattle.cells.specs.declared.parts.Lead.{Lead}
use Rattle.cells.proofs.Reading.{held_cell, held_value, held_values}

-- cells with the same parts are the same
same_cell : {a b : Option (ℕ × ℕ)} {m l : Option ℕ} {i j : ℕ} → a ≡ b → m ≡ l → i ≡ j → ◌≡◌ {A = Cell} (record { cost = a; choice = m; round = i }) (record { cost = b; choice = l; round = j })
same_cell p q r = λ x. record { cost = p x; choice = q x; round = r x }

module _ {C : Type 0} (k : Kind C) (laws : CostLaws k) (t : Table) where
  choice_at_rest : (n p : ℕ) → (row_at t p).rests ≡ true → round_choice k t n p ≡ None
  unfolding round_choice
  choice_at_rest zero p e = refl
  choice_at_rest (suc n) p e = rw e

  choice_of_arm : (n p : ℕ) → ToMove t p Arm → round_choice k t n p ≡ chosen k t n p
  unfolding round_choice first_round
  choice_of_arm zero p m = sym (chosen_arm k laws t 0 p m)
  choice_of_arm (suc n) p m = rw (m.awake, m.whose) (sym (chosen_arm k laws t (suc n) p m))

  choice_of_person : (n p : ℕ) → ToMove t p Person → round_choice k t (suc n) p ≡ person_choice k (round k t n) (round k t (suc n) p) (row_at t p)
  unfolding round_choice
  choice_of_person n p m = rw (m.awake, m.whose)

  -- the cells of round 0
  pub first_at_rest : (p : ℕ) (z : C) (x : ℕ × ℕ) → (row_at t p).rests ≡ true → z ≡ k.zero → x ≡ k.numbers z → ◌≡◌ {A = Cell} (record { cost = Some x; choice = None; round = 0 }) (round_cell k t 0 p)
  unfolding round round_choice first_round
  first_at_rest p z x rests nothing is = rw rests (same_cell (ap Some (is ∙ ap k.numbers nothing)) refl refl)

  pub first_awake : (p : ℕ) → (row_at t p).rests ≡ false → ◌≡◌ {A = Cell} (record { cost = None; choice = None; round = 0 }) (round_cell k t 0 p)
  unfolding round round_choice first_round
  first_awake p awake = rw awake refl

  pub first_is : (p : ℕ) (b : Bool) (z : C) (x : ℕ × ℕ) (cost : Option (ℕ × ℕ)) → b ≡ (row_at t p).rests → z ≡ k.zero → x ≡ k.numbers z → cost ≡ then_some b x
      → ◌≡◌ {A = Cell} (record { cost = cost; choice = None; round = 0 }) (round_cell k t 0 p)
  first_is p true z x cost rests nothing is c = same_cell c refl refl ∙ first_at_rest p z x (sym rests) nothing is
  first_is p false z x cost rests nothing is c = same_cell c refl refl ∙ first_awake p (sym rests)

  unchanged : (n p : ℕ) → round k t (suc n) p ≡ round k t n p → value_leq k (round k t n p) (round k t (suc n) p) ≡ true
  unchanged n p e = subst (λ v. value_leq k (round k t n p) v ≡ true) (sym e) ((values k laws).reflexive _)

  -- where the round changes nothing, its cells are the final ones
  module _ (n : ℕ) (fixed : FixedPoint k t n) where
    fixed_choice : (p : ℕ) → round_choice k t (suc n) p ≡ chosen k t n p
    fixed_choice p = by_rest (row_at t p).rests refl
      where
        by_turn : (row_at t p).rests ≡ false → (turn : Turn) → (row_at t p).turn ≡ turn → round_choice k t (suc n) p ≡ chosen k t n p
        by_turn awake Arm whose =
            let m : ToMove t p Arm = record { awake = awake; whose = whose } in
            choice_of_arm (suc n) p m ∙ stays_chosen k laws t n p (unchanged n p (fixed p)) m
        by_turn awake Person whose =
            let m : ToMove t p Person = record { awake = awake; whose = whose } in
            choice_of_person n p m ∙ ap (λ (v : Option C). person_choice k (round k t n) v (row_at t p)) (fixed p) ∙ sym (chosen_person k laws t n p m)

        by_rest : (b : _) → (row_at t p).rests ≡ b → round_choice k t (suc n) p ≡ chosen k t n p
        by_rest true rests = choice_at_rest (suc n) p rests ∙ sym (none_at_rest k laws t n p rests)
        by_rest false awake = by_turn awake (row_at t p).turn refl

    pub cell_is_final : (p : ℕ) → round_cell k t (suc n) p ≡ final_cell k t n p
    cell_is_final p = same_cell (ap (option_map k.numbers) (fixed p)) (fixed_choice p) (stays_first k laws t n p (unchanged n p (fixed p)))

  module _ (n p : ℕ) (cells : List Cell) (holds : Holds k t n cells) (inside : p < length t.rows) where
    old : Cell
    old = get_or cells p empty_cell

    -- at rest the cell stays
    pub rest_cell : (row_at t p).rests ≡ true → get_or cells p empty_cell ≡ round_cell k t (suc n) p
    rest_cell rests =
        let same : round k t (suc n) p ≡ round k t n p = resting k laws t (suc n) p rests ∙ sym (resting k laws t n p rests) in
        held_cell k laws t n cells holds p inside
        ∙ sym (same_cell (ap (option_map k.numbers) same) (choice_at_rest (suc n) p rests ∙ sym (choice_at_rest n p rests)) (stays_first k laws t n p (unchanged n p same)))

    module _ (awake : (row_at t p).rests ≡ false) (l : Lead C) (led : Leads k (values_of k (length t.rows) cells) (row_at t p) l) where
      leads : Leads k (round k t n) (row_at t p) l
      leads = subst (λ (w : ℕ → Option C). Leads k w (row_at t p) l) (held_values k laws t n cells holds) led

      lead_value : l.value ≡ round k t (suc n) p
      unfolding round
      lead_value = rw awake leads.value

      lead_of_arm : (row_at t p).turn ≡ Arm → l.choice ≡ lowest (λ s. value_leq k (value_through k (round k t n) s) (round k t (suc n) p)) (row_at t p).moves
      unfolding turn_leq
      lead_of_arm whose = subst (λ (v : Option C). l.choice ≡ lowest (λ s. value_leq k (value_through k (round k t n) s) v) (row_at t p).moves) lead_value (rw whose at leads.choice)

      lead_of_person : (row_at t p).turn ≡ Person → l.choice ≡ person_choice k (round k t n) (round k t (suc n) p) (row_at t p)
      unfolding turn_leq
      lead_of_person whose = subst (λ (v : Option C). l.choice ≡ person_choice k (round k t n) v (row_at t p)) lead_value (rw whose at leads.choice)

      module _ (low : value_leq k (option_map k.read (get_or cells p empty_cell).cost) l.value ≡ true) where
        stood : value_leq k (round k t n p) (round k t (suc n) p) ≡ true
        stood = subst (λ (v : Option C). value_leq k v (round k t (suc n) p) ≡ true) (held_value k laws t n cells holds p inside) (subst (λ (v : Option C). value_leq k (option_map k.read (get_or cells p empty_cell).cost) v ≡ true) lead_value low)

        same_cost : (get_or cells p empty_cell).cost ≡ option_map k.numbers (round k t (suc n) p)
        same_cost = ap (λ (c : Cell). c.cost) (held_cell k laws t n cells holds p inside) ∙ ap (option_map k.numbers) (sym (stays k laws t n p stood))

        same_round : (get_or cells p empty_cell).round ≡ first_round k t (suc n) p
        same_round = ap (λ (c : Cell). c.round) (held_cell k laws t n cells holds p inside) ∙ sym (stays_first k laws t n p stood)

        -- where the arm's value stays, so does its cell
        pub kept_cell : (row_at t p).turn ≡ Arm → get_or cells p empty_cell ≡ round_cell k t (suc n) p
        kept_cell whose =
            let m : ToMove t p Arm = record { awake = awake; whose = whose } in
            same_cell same_cost
            (ap (λ (c : Cell). c.choice) (held_cell k laws t n cells holds p inside) ∙ choice_of_arm n p m ∙ sym (stays_chosen k laws t n p stood m) ∙ sym (choice_of_arm (suc n) p m))
            same_round

        -- the person chooses anew
        pub person_cell : (row_at t p).turn ≡ Person → ◌≡◌ {A = Cell} (record { cost = (get_or cells p empty_cell).cost; choice = l.choice; round = (get_or cells p empty_cell).round }) (round_cell k t (suc n) p)
        person_cell whose = same_cell same_cost (lead_of_person whose ∙ sym (choice_of_person n p (record { awake = awake; whose = whose }))) same_round

      -- where the value falls, the cell is new
      pub fallen_cell : value_leq k (option_map k.read (get_or cells p empty_cell).cost) l.value ≡ false
          → ◌≡◌ {A = Cell} (record { cost = option_map k.numbers l.value; choice = l.choice; round = n + 1 }) (round_cell k t (suc n) p)
      fallen_cell high = same_cell (ap (option_map k.numbers) lead_value) (new_choice (row_at t p).turn refl) (let one : n + 1 ≡ suc n = omega arith in one ∙ sym (falls_first k laws t n p fell))
        where
          fell : value_leq k (round k t n p) (round k t (suc n) p) ≡ false
          fell = subst (λ (v : Option C). value_leq k v (round k t (suc n) p) ≡ false) (held_value k laws t n cells holds p inside) (subst (λ (v : Option C). value_leq k (option_map k.read (get_or cells p empty_cell).cost) v ≡ false) lead_value high)

          new_choice : (turn : Turn) → (row_at t p).turn ≡ turn → l.choice ≡ round_choice k t (suc n) p
          new_choice Arm whose =
              let m : ToMove t p Arm = record { awake = awake; whose = whose } in
              lead_of_arm whose ∙ sym (falls_chosen k laws t n p fell m) ∙ sym (choice_of_arm (suc n) p m)
          new_choice Person whose = lead_of_person whose ∙ sym (choice_of_person n p (record { awake = awake; whose = whose }))
