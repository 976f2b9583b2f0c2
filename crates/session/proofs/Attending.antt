-- A run that is told one event more.
use Rattle.std.proofs.Common.{◌≡◌, ℕ, ◌+◌, List, [], ◌∷◌, ◌++◌, length, Option, Result, sym, refl, ap, ◌∙◌, subst, append_assoc, append-nil, length-append}
use Rattle.board.specs.Table.{Table}
use Rattle.cost.specs.Kind.{Kind}
use Rattle.cost.specs.Numbers.{on_numbers}
use Rattle.game.specs.Events.{outcome, after_event, after_events}
use Rattle.game.specs.declared.parts.Event.{Event}
use Rattle.game.specs.declared.parts.Progress.{Progress}
use Rattle.refusal.specs.declared.Refusal.{Refusal}
use Rattle.run.specs.Answers.{answer_of, plan_move}
use Rattle.run.specs.declared.parts.Answer.{Answer}
use Rattle.solve.specs.declared.plan.Plan.{Plan}
use Rattle.session.specs.Attends.{Attended}
use Rattle.session.specs.Notes.{note_of, answers}
use Rattle.session.specs.declared.parts.Note.{Note}
use Rattle.session.specs.declared.parts.Shown.{Shown}
use Rattle.session.specs.declared.parts.Shown.TheVariants.{Answered}

-- so many events
pub record AttendedSome {C : Type 0} (k : Kind C) (t : Table) (n : ℕ) (plan : ℕ → Option ℕ) (r r' : Progress C) (told told' : List Event) (log log' : List Shown) (many : ℕ) : Type 0 where
  pub attended : Attended k t n plan r r' told told' log log'
  pub counted : length attended.events ≡ many

module _ {C : Type 0} (k : Kind C) (t : Table) (n : ℕ) (plan : ℕ → Option ℕ) where
  after_push : (r : Progress C) (es : List Event) (e : Event) → after_events k t n plan r (es ++ (e ∷ [])) ≡ after_event k t n plan (after_events k t n plan r es) e
  after_push r [] e = refl
  after_push r (x ∷ es) e = after_push (after_event k t n plan r x) es e

  answers_push : (r : Progress C) (es : List Event) (e : Event) → answers k t n plan r (es ++ (e ∷ [])) ≡ answers k t n plan r es ++ (Answered (note_of k t n plan (after_events k t n plan r es) e) ∷ [])
  answers_push r [] e = refl
  answers_push r (x ∷ es) e = ap (λ l. Answered (note_of k t n plan r x) ∷ l) (answers_push (after_event k t n plan r x) es e)

  -- before the first event
  pub attended_none : (r : Progress C) (told : List Event) (log : List Shown) → AttendedSome k t n plan r r told told log log 0
  attended_none r told log = record { attended = record { events = []; told_more = sym (append-nil told); comes = refl; log_more = sym (append-nil log) }; counted = refl }

  -- one event more, with its note
  pub attended_more : (r r' r'' : Progress C) (told told' told'' : List Event) (log log' log'' : List Shown) (e : Event) (note : Note) (many : ℕ)
      → AttendedSome k t n plan r r' told told' log log' many → told'' ≡ told' ++ (e ∷ []) → r'' ≡ after_event k t n plan r' e → note ≡ note_of k t n plan r' e → log'' ≡ log' ++ (Answered note ∷ [])
      → AttendedSome k t n plan r r'' told told'' log log'' (many + 1)
  attended_more r r' r'' told told' told'' log log' log'' e note many some et er en el =
      let a = some.attended in
      let es = a.events in
      let longer : length (es ++ (e ∷ [])) ≡ many + 1 = length-append es (e ∷ []) ∙ ap (λ m. m + 1) some.counted in
      record {
        counted = longer;
        attended = record {
          events = es ++ (e ∷ []);
          told_more = et ∙ ap (λ l. l ++ (e ∷ [])) a.told_more ∙ append_assoc told es (e ∷ []);
          comes = er ∙ ap (λ x. after_event k t n plan x e) a.comes ∙ sym (after_push r es e);
          log_more =
              el ∙ (λ i. a.log_more i ++ (Answered ((en ∙ ap (λ x. note_of k t n plan x e) a.comes) i) ∷ []))
              ∙ append_assoc log (answers k t n plan r es) (Answered (note_of k t n plan (after_events k t n plan r es) e) ∷ []) ∙ ap (λ l. log ++ l) (sym (answers_push r es e));
        };
      }

-- an event that a run was told, its answer and its progress afterwards, by the plan of the run
pub told_one : {C : Type 0} (k : Kind C) (t : Table) (p q : Plan C) → p ≡ q → (r r' r'' told-progress : Progress (ℕ × ℕ)) (told told' told'' : List Event) (log log' log₁ log'' : List Shown) (e : Event) (answer : Result Answer Refusal) (many : ℕ)
    → AttendedSome (on_numbers k) t q.count (plan_move q) r r' told told' log log' many → told'' ≡ told' ++ (e ∷ []) → r'' ≡ after_event (on_numbers k) t p.count (plan_move p) r' e
    → answer ≡ answer_of (outcome t p.count (plan_move p) r' e) → told-progress ≡ r'' → log₁ ≡ log' → log'' ≡ log₁ ++ (Answered (record { event = e; answer = answer; progress = told-progress }) ∷ [])
    → AttendedSome (on_numbers k) t q.count (plan_move q) r r'' told told'' log log'' (many + 1)
told_one k t p q same r r' r'' told-progress told told' told'' log log' log₁ log'' e answer many a et er ea ep e₁ el =
    let after : r'' ≡ after_event (on_numbers k) t q.count (plan_move q) r' e = subst (λ x. r'' ≡ after_event (on_numbers k) t x.count (plan_move x) r' e) same er in
    let said : answer ≡ answer_of (outcome t q.count (plan_move q) r' e) = subst (λ x. answer ≡ answer_of (outcome t x.count (plan_move x) r' e)) same ea in
    let here = ep ∙ after in
    attended_more (on_numbers k) t q.count (plan_move q) r r' r'' told told' told'' log log' log'' e _ many a et after (λ i. record { event = e; answer = said i; progress = here i })
    (el ∙ ap (λ l. l ++ (Answered (record { event = e; answer = answer; progress = told-progress }) ∷ [])) e₁)
