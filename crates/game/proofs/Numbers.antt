-- A run that keeps its cost as two numbers goes as one that keeps the cost.
use Rattle.std.proofs.Common.{◌≡◌, ℕ, List, [], ◌∷◌, Option, refl, ap, ◌∙◌, ap₂}
use Rattle.board.specs.Table.{Table}
use Rattle.cost.specs.Kind.{Kind}
use Rattle.cost.specs.Laws.{CostLaws}
use Rattle.cost.specs.Numbers.{on_numbers}
use Rattle.game.specs.Events.{Outcome, refused, begins, makes, outcome, resulting, after_event, after_events, noted, accepted}
use Rattle.game.specs.Plays.{move_of}
use Rattle.game.specs.Progress.{moved}
use Rattle.game.specs.Rounds.{charge_of}
use Rattle.game.specs.RunNumbers.{numbered, SameInNumbers}
use Rattle.game.specs.declared.parts.Event.{Event}
use Rattle.game.specs.declared.parts.Phase.{Phase}
use Rattle.game.specs.declared.parts.Progress.{Progress}

holding : ℕ → ℕ × ℕ → ℕ → Phase → Progress (ℕ × ℕ)
holding p c m phase = record { position = p; spent = c; made = m; phase = phase }

module _ {C : Type 0} (k : Kind C) (laws : CostLaws k) (t : Table) (n : ℕ) (plan : ℕ → Option ℕ) where
  result_numbers : (r : Progress C) (o : Outcome) → resulting (on_numbers k) t (numbered k r) o ≡ numbered k (resulting k t r o)
  unfolding holding
  result_numbers r (refused x) = refl
  result_numbers r (begins m) = refl
  result_numbers r (makes m) =
      ap (λ (c : C). holding next.position (k.numbers c) next.made next.phase)
      (ap₂ k.add (laws.reads_back r.spent) (laws.reads_back (charge_of k (move_of t r.position m))))
    where
      next : Progress C
      next = moved k t r m

  pub same_in_numbers : (es : List Event) (r : Progress C) → SameInNumbers k t n plan r es
  same_in_numbers [] r = record { runs = refl; moves = refl }
  same_in_numbers (e ∷ es) r = step (same_in_numbers es (after_event k t n plan r e))
    where
      one : after_event (on_numbers k) t n plan (numbered k r) e ≡ numbered k (after_event k t n plan r e)
      one = result_numbers r (outcome t n plan r e)

      step : SameInNumbers k t n plan (after_event k t n plan r e) es → SameInNumbers k t n plan r (e ∷ es)
      step s = record {
        runs = ap (λ (x : Progress (ℕ × ℕ)). after_events (on_numbers k) t n plan x es) one ∙ s.runs;
        moves = ap (noted (outcome t n plan r e)) (ap (λ (x : Progress (ℕ × ℕ)). accepted (on_numbers k) t n plan x es) one ∙ s.moves);
      }
