-- A session keeps the whole promise.
use Rattle.std.proofs.Common.{◌≡◌, ℕ, Bool, true, false, cond, eqb, List, [], ◌∷◌, ◌++◌, length, Some, None, Option, sym, refl, ap, ◌∙◌, subst, inl, inr, append_assoc, arith}
use Rattle.std.proofs.lemmas.Bool.{eq-eqb}
use Rattle.board.specs.Table.{Table}
use Rattle.cells.proofs.Kept.{said_cost, said_promised}
use Rattle.cells.specs.Cells.{solved_cells}
use Rattle.cells.specs.Said.{solved_by}
use Rattle.cells.specs.declared.parts.Cell.{Cell}
use Rattle.cost.specs.Kind.{Kind}
use Rattle.cost.specs.Laws.{CostLaws}
use Rattle.cost.specs.Numbers.{on_numbers}
use Rattle.game.proofs.Numbers.{same_in_numbers}
use Rattle.game.specs.Events.{outcome, after_event, after_events}
use Rattle.game.specs.Progress.{begun}
use Rattle.game.specs.Promise.{Solved, Promise, run_after}
use Rattle.game.specs.Rounds.{round}
use Rattle.game.specs.RunNumbers.{numbered}
use Rattle.game.specs.declared.parts.Event.{Event}
use Rattle.game.specs.declared.parts.Progress.{Progress}
use Rattle.refusal.specs.Number.{refusal_number}
use Rattle.refusal.specs.declared.Refusal.{Refusal}
use Rattle.refusal.specs.declared.Refusal.TheVariants.{OverBudget, NeverDone, OtherCount}
use Rattle.run.specs.Answers.{answer_of, plan_move}
use Rattle.run.specs.Begins.{verdict_refusal, begin_refusal}
use Rattle.solve.specs.Solves.{Solves}
use Rattle.solve.specs.Verdicts.{verdict_of}
use Rattle.solve.specs.declared.plan.Plan.{Plan}
use Rattle.solve.specs.declared.verdict.Verdict.TheVariants.{Within, Over}
use Rattle.session.specs.Attends.{Attended, CutShort}
use Rattle.session.specs.Notes.{answers, run_log}
use Rattle.session.specs.Serves.{StartWithin, Unbegun, EndsAs, Serves}
use Rattle.session.specs.declared.parts.Ending.{Ending}
use Rattle.session.specs.declared.parts.Ending.TheVariants.{Ended, NotBegun, Cut}
use Rattle.session.specs.declared.parts.Shown.{Shown}
use Rattle.session.specs.declared.parts.Shown.TheVariants.{Begun, Answered}

-- the log of a run that keeps its cost in numbers is the same
answers_numbers : {C : Type 0} (k : Kind C) (laws : CostLaws k) (t : Table) (n : ℕ) (plan : ℕ → Option ℕ) (r : Progress C) (es : List Event)
    → answers (on_numbers k) t n plan (numbered k r) es ≡ answers k t n plan r es
answers_numbers k laws t n plan r [] = refl
answers_numbers k laws t n plan r (e ∷ es) =
    let one : after_event (on_numbers k) t n plan (numbered k r) e ≡ numbered k (after_event k t n plan r e) = (same_in_numbers k laws t n plan (e ∷ []) r).runs in
    let rest = ap (λ x. answers (on_numbers k) t n plan x es) one ∙ answers_numbers k laws t n plan (after_event k t n plan r e) es in
    λ i. Answered (record { event = e; answer = answer_of (outcome t n plan r e); progress = one i }) ∷ rest i

module _ {C : Type 0} (k : Kind C) (laws : CostLaws k) (t : Table) (bruise energy : ℕ) (old : List Cell) (p : Plan C) (solves : Solves k t bruise energy old p) where
  abbrev budget : C
  budget = k.charge bruise energy

  abbrev said : Solved C
  said = solved_by k p.rounds p.count p.cells.now

  pub plan_promised : Promise k t budget said
  plan_promised =
      subst (λ n. Promise k t budget (solved_by k p.rounds n p.cells.now)) (sym solves.positions) (said_promised k laws t p.rounds old p.cells.now solves.finals solves.number budget)

  start_cost : said.cost t.start ≡ round k t p.rounds t.start
  start_cost =
      subst (λ n. (solved_by k p.rounds n p.cells.now).cost t.start ≡ round k t p.rounds t.start) (sym solves.positions)
      (said_cost k laws t p.rounds old p.cells.now solves.finals t.start)

  -- the count is the plan's, so the verdict decides
  by_verdict : begin_refusal t p.count p.verdict ≡ verdict_refusal (verdict_of k budget (round k t p.rounds t.start))
  by_verdict =
      let same : eqb (length t.rows) p.count ≡ true = eq-eqb (length t.rows) p.count (sym solves.positions) in
      let judged = solves.judged in
      λ i. cond (same i) (verdict_refusal (judged i)) (Some OtherCount)

  over_or_within : (why : Refusal) (v : C) (b : Bool) → k.leq v budget ≡ b → said.cost t.start ≡ Some v → verdict_refusal (cond b Within Over) ≡ Some why → Unbegun k t budget said why
  over_or_within why v true le is h = let z : ◌≡◌ {A = ℕ} 0 1 = cc in absurd (omega arith)
  over_or_within why v false le is h = let e : why ≡ OverBudget = cc in inl (e, ap refusal_number e, (v, is, le))

  by_value : (why : Refusal) (o : Option C) → said.cost t.start ≡ o → verdict_refusal (verdict_of k budget o) ≡ Some why → Unbegun k t budget said why
  by_value why None is h = let e : why ≡ NeverDone = cc in inr (e, ap refusal_number e, is)
  by_value why (Some v) is h = over_or_within why v (k.leq v budget) refl is h

  pub unbegun : (why : Refusal) → begin_refusal t p.count p.verdict ≡ Some why → Unbegun k t budget said why
  unbegun why h = by_value why (round k t p.rounds t.start) start_cost (sym by_verdict ∙ h)

  only_within : (v : C) (b : Bool) → k.leq v budget ≡ b → said.cost t.start ≡ Some v → verdict_refusal (cond b Within Over) ≡ None → StartWithin k t budget said
  only_within v true le is h = (v, is, le)
  only_within v false le is h = let z : ◌≡◌ {A = ℕ} 0 1 = cc in absurd (omega arith)

  with_value : (o : Option C) → said.cost t.start ≡ o → verdict_refusal (verdict_of k budget o) ≡ None → StartWithin k t budget said
  with_value None is h = let z : ◌≡◌ {A = ℕ} 0 1 = cc in absurd (omega arith)
  with_value (Some v) is h = only_within v (k.leq v budget) refl is h

  pub start_within : begin_refusal t p.count p.verdict ≡ None → StartWithin k t budget said
  start_within h = with_value (round k t p.rounds t.start) start_cost (sym by_verdict ∙ h)

  -- a run in numbers from the plan's start comes where the promise's run comes, with the same log
  pub run_ended : (told told' : List Event) (log log' : List Shown) (closed broken : Type 0) (r' : Progress (ℕ × ℕ)) → begin_refusal t p.count p.verdict ≡ None
      → Attended (on_numbers k) t p.count (plan_move p) (begun (on_numbers k) t p.start) r' told told' (log ++ (Begun (begun (on_numbers k) t p.start) ∷ [])) log' → closed
      → EndsAs k t budget said told told' log log' closed broken (Ended r')
  run_ended told told' log log' closed broken r' fits a done =
      let es = a.events in
      let count = solves.positions in
      let start = solves.starts in
      let come : after_events (on_numbers k) t p.count (plan_move p) (begun (on_numbers k) t p.start) es ≡ numbered k (run_after k t said es) =
      (λ i. after_events (on_numbers k) t (count i) (plan_move p) (begun (on_numbers k) t (start i)) es) ∙ (same_in_numbers k laws t (length t.rows) said.move es (begun k t t.start)).runs
      in
      let noted : answers (on_numbers k) t p.count (plan_move p) (begun (on_numbers k) t p.start) es ≡ answers k t (length t.rows) said.move (begun k t t.start) es =
      (λ i. answers (on_numbers k) t (count i) (plan_move p) (begun (on_numbers k) t (start i)) es) ∙ answers_numbers k laws t (length t.rows) said.move (begun k t t.start) es
      in
      let logged : log' ≡ log ++ run_log k t (length t.rows) said.move (begun k t t.start) es =
      a.log_more ∙ append_assoc log (Begun (begun (on_numbers k) t p.start) ∷ []) _ ∙ (λ i. log ++ (Begun (begun (on_numbers k) t (start i)) ∷ noted i))
      in
      (es, record { within = start_within fits; told_more = a.told_more; log_more = logged }, a.comes ∙ come, done)

  -- what the session hands back, by how it ended; u is the plan that the run held, and q the one given back
  pub serves_ended : (u q : Plan C) (r r' e : Progress (ℕ × ℕ)) (ending : Ending) (told told' : List Event) (log log' : List Shown) (closed broken : Type 0)
      → u ≡ p → q ≡ p → begin_refusal t p.count p.verdict ≡ None → r ≡ begun (on_numbers k) t p.start
      → Attended (on_numbers k) t u.count (plan_move u) r r' told told' (log ++ (Begun r ∷ [])) log' → closed → ending ≡ Ended e → e ≡ r' → Serves k t budget told told' log log' closed broken (record { plan = q; ending = ending })
  serves_ended u q r r' e ending told told' log log' closed broken up qp fits first a done is here =
      let from : Attended (on_numbers k) t p.count (plan_move p) (begun (on_numbers k) t p.start) r' told told' (log ++ (Begun (begun (on_numbers k) t p.start) ∷ [])) log' =
      subst (λ x. Attended (on_numbers k) t p.count (plan_move p) x r' told told' (log ++ (Begun x ∷ [])) log') first
      (subst (λ x. Attended (on_numbers k) t x.count (plan_move x) r r' told told' (log ++ (Begun r ∷ [])) log') up a)
      in
      let ends : EndsAs k t budget said told told' log log' closed broken ending = subst (EndsAs k t budget said told told' log log' closed broken) (sym (is ∙ ap Ended here)) (run_ended told told' log log' closed broken r' fits from done) in
      subst (λ x. Serves k t budget told told' log log' closed broken (record { plan = x; ending = ending })) (sym qp) (record { promise = plan_promised; ending = ends })

  pub serves_cut : (q : Plan C) (ending : Ending) (told told' : List Event) (log log' : List Shown) (closed broken : Type 0) → q ≡ p → begin_refusal t p.count p.verdict ≡ None → ending ≡ Cut → CutShort told told' broken
      → Serves k t budget told told' log log' closed broken (record { plan = q; ending = ending })
  serves_cut q ending told told' log log' closed broken qp fits is cut =
      let ends : EndsAs k t budget said told told' log log' closed broken ending = subst (EndsAs k t budget said told told' log log' closed broken) (sym is) (start_within fits, cut) in
      subst (λ x. Serves k t budget told told' log log' closed broken (record { plan = x; ending = ending })) (sym qp) (record { promise = plan_promised; ending = ends })

  pub serves_unbegun : (q : Plan C) (why : Refusal) (told : List Event) (log : List Shown) (closed broken : Type 0) → q ≡ p → begin_refusal t p.count p.verdict ≡ Some why
      → Serves k t budget told told log log closed broken (record { plan = q; ending = NotBegun why })
  serves_unbegun q why told log closed broken qp refuses =
      subst (λ x. Serves k t budget told told log log closed broken (record { plan = x; ending = NotBegun why })) (sym qp) (record { promise = plan_promised; ending = (unbegun why refuses, refl, refl) })

  -- what solving says of the plan, and of the other list, is so of the plan that is given back
  pub solves_back : (q : Plan C) → q ≡ p → Solves k t bruise energy old q
  solves_back q qp = subst (Solves k t bruise energy old) (sym qp) solves

  pub other_back : (q : Plan C) (two two' : List Cell) → q ≡ p → two' ≡ solved_cells k t p.rounds two → two' ≡ solved_cells k t q.rounds two
  other_back q two two' qp e = e ∙ ap (λ x. solved_cells k t x.rounds two) (sym qp)
