-- The listing of a plan is that of the rounds.
use Rattle.std.proofs.Common.{◌≡◌, ℕ, zero, suc, ◌<◌, List, ◌++◌, length, refl, ap, ◌∙◌, arith}
use Rattle.std.proofs.lemmas.List.{get_or-take}
use Rattle.board.specs.Ranges.{InRange}
use Rattle.board.specs.Table.{Table}
use Rattle.cells.proofs.Reading.{solved_cell}
use Rattle.cells.specs.Cells.{empty_cell, final_cell}
use Rattle.cells.specs.declared.parts.Cell.{Cell}
use Rattle.cost.specs.Kind.{Kind}
use Rattle.cost.specs.Laws.{CostLaws}
use Rattle.entries.specs.declared.Start.{Start}
use Rattle.game.proofs.Promised.{promised}
use Rattle.game.specs.Rounds.{round}
use Rattle.cells.specs.Said.{plan_cell}
use Rattle.listing.specs.Listing.{head_line, position_line, position_lines, listing}
use Rattle.solve.specs.Solves.{Solves}
use Rattle.solve.specs.Verdicts.{verdict_of}
use Rattle.solve.specs.declared.plan.Plan.{Plan}
use Rattle.wording.specs.declared.kinds.CostKind.{CostKind}
use Rattle.report.specs.Reports.{budget_of, kind_listing, ListsKind, AppendsKind}

-- lines of like cells
same_lines : (kind : CostKind) (t : Table) (f g : ℕ → Cell) (n : ℕ) → ((p : ℕ) → p < n → f p ≡ g p) → position_lines kind t f n ≡ position_lines kind t g n
same_lines kind t f g zero h = refl
same_lines kind t f g (suc n) h =
    let before = same_lines kind t f g n (λ p l. h p (omega arith)) in
    let last = h n (omega arith) in
    λ i. before i ++ position_line kind t n (last i)

module _ {C : Type 0} (k : Kind C) (laws : CostLaws k) (t : Table) (ranges : InRange t) (named : CostKind) (s : Start) (old : List Cell) (p : Plan C)
    (solves : Solves k t s.bruise s.energy old p) where
  final : (q : ℕ) → q < length t.rows → plan_cell (length t.rows) p.cells.now q ≡ final_cell k t p.rounds q
  final q h = get_or-take (length t.rows) p.cells.now q empty_cell h ∙ solved_cell k laws t p.rounds old p.cells.now solves.finals q h

  pub plan_listing : listing named t p.count p.start p.rounds p.verdict (plan_cell p.count p.cells.now) ≡ kind_listing named k t s p.rounds
  plan_listing =
      let n = length t.rows in
      let count = solves.positions in
      let start = solves.starts in
      let verdict = solves.judged in
      let lines = same_lines named t (plan_cell n p.cells.now) (final_cell k t p.rounds) n final in
      (λ i. listing named t (count i) (start i) p.rounds (verdict i) (plan_cell (count i) p.cells.now))
      ∙ (λ i. head_line named p.rounds (verdict_of k (budget_of k s) (round k t p.rounds t.start)) (final t.start ranges.starts i) ++ lines i)

  pub plan_lists : ListsKind named k t s (kind_listing named k t s p.rounds)
  plan_lists = record { rounds = p.rounds; number = solves.number; lists = refl; promise = promised k laws t p.rounds solves.number (budget_of k s) }

  pub appends : (a b : List ℕ) → b ≡ a ++ listing named t p.count p.start p.rounds p.verdict (plan_cell p.count p.cells.now) → AppendsKind named k t s a b
  appends a b e = (kind_listing named k t s p.rounds, plan_lists, e ∙ ap (λ x. a ++ x) plan_listing)
