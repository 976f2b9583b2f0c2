-- The rounds and the chosen moves meet the promise.
use Rattle.std.proofs.Common.{◌≡◌, ℕ, ◌≤◌, true, [], length, Some, subst, arith}
use Rattle.board.specs.Table.{Table}
use Rattle.cost.specs.Kind.{Kind}
use Rattle.cost.specs.Laws.{CostLaws}
use Rattle.game.specs.Choices.{chosen}
use Rattle.game.specs.Lawful.{Lawful}
use Rattle.game.specs.Open.{open_positions}
use Rattle.game.specs.Plays.{endpoint, play_cost}
use Rattle.game.specs.Promise.{Promise}
use Rattle.game.specs.Rounds.{round, FixedPoint, NumberOfRounds}
use Rattle.game.specs.RoundsEnd.{OpenThen, RoundsEnd}
use Rattle.game.specs.RunsKeep.{solution}
use Rattle.game.specs.Strategies.{ArmStrategy, PersonStrategy, play_of, plan_strategy}
use Rattle.game.specs.Values.{value_leq}
use Rattle.game.proofs.Chains.{Chain, chain}
use Rattle.game.proofs.Choosing.{person_chooses, chosen_there, chosen_allowed}
use Rattle.game.proofs.Ends.{changed_falls, fixed_later, number_found, number_one, number_few}
use Rattle.game.proofs.Holding.{person_holds}
use Rattle.game.proofs.Planning.{plan_rests}
use Rattle.game.proofs.Running.{run_covered}
use Rattle.game.proofs.Values.{leq_costs}

module _ {C : Type 0} (k : Kind C) (laws : CostLaws k) (t : Table) where
  open_then : (n p : ℕ) → Chain k t n p → OpenThen k t n
  open_then n p c = record { those = c.those; many = c.many; distinct = c.distinct; all_open = c.all_open }

  pub rounds_end : RoundsEnd k t
  rounds_end = record {
    shown = λ n p h. open_then n p (chain k laws t n p (changed_falls k laws t n p h));
    rounds = (number_found k laws t).0;
    number = (number_found k laws t).1;
    only = λ n a. number_one k laws t n (number_found k laws t).0 a (number_found k laws t).1;
    final = λ n p h. fixed_later k laws t (number_found k laws t).0 n p (number_found k laws t).1.fixed h;
    few = number_few k laws t (number_found k laws t).0 (number_found k laws t).1;
  }

  pub lawful_arm : (n p : ℕ) → ArmStrategy t p (plan_strategy t (chosen k t n) p)
  lawful_arm n p h m play move e = chosen_there k laws t n (endpoint t p h) m move.awake e

  pub lawful_person : (n p : ℕ) → FixedPoint k t n → PersonStrategy t p (plan_strategy t (chosen k t n) p)
  lawful_person n p fixed h play move some = let c = person_chooses k laws t n fixed (endpoint t p h) move some in (c.move, c.is, c.there)

  pub lawful : (n : ℕ) → FixedPoint k t n → (p : ℕ) → Lawful k t n p
  lawful n fixed p = record { arm = lawful_arm n p; person = lawful_person n p fixed; exact = exact }
    where
      exact : (w : C) → round k t n p ≡ Some w → (m : ℕ) → open_positions t (round k t n) ≤ m
          → play_cost k t p (play_of t (plan_strategy t (chosen k t n) p) (plan_strategy t (chosen k t n) p) m p []) ≡ w
      exact w e m enough =
          let r = plan_rests k laws t n p (plan_strategy t (chosen k t n) p) (lawful_person n p fixed) w e m enough in
          let h = person_holds k laws t n p (plan_strategy t (chosen k t n) p) (lawful_arm n p) fixed m r.rested in
          laws.order.antisymmetric _ _ r.pays (leq_costs k laws w _ (subst (λ v. value_leq k v (Some (play_cost k t p (play_of t (plan_strategy t (chosen k t n) p) (plan_strategy t (chosen k t n) p) m p []))) ≡ true) e h))

  pub promised : (n : ℕ) → NumberOfRounds k t n → (budget : C) → Promise k t budget (solution k t n)
  promised n number budget = record {
    few_rounds = number_few k laws t n number;
    plan = λ p w e person one. plan_rests k laws t n p person one w e (open_positions t (round k t n)) (omega arith);
    moves = chosen_allowed k laws t n;
    answers = λ p. lawful_person n p number.fixed;
    reply = λ p arm one m rests. person_holds k laws t n p arm one number.fixed m rests;
    run = λ w e within es. run_covered k laws t n (length t.rows) w e es;
  }
