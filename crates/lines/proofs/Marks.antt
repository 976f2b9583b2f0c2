-- Words that are none of those asked for.
use Rattle.std.proofs.Common.{◌≡◌, ℕ, false, cond, eqb, List, [], ◌∷◌, get_or, Some, Err, sym, refl, ap, ◌∙◌, codes}
use Rattle.std.specs.Str.{bytes_eq}
use Rattle.std.proofs.lemmas.Slice.Eq.{bytes_eq-Decides}
use Rattle.std.proofs.lemmas.Bool.{both_ways, cond-false, false_from_ne_true}
use Rattle.refusal.specs.declared.Refusal.TheVariants.{UnknownMark}
use Rattle.entries.specs.declared.Rule.{Rule}
use Rattle.sheet_format.specs.Fields.{place_among, one_further, line_fault, at_word, or_refused, read_field}
use Rattle.sheet_format.specs.Lines.{mark, rule_line, rule_named}
use Rattle.sheet_format.specs.Numbers.{is_number}
use Rattle.words.specs.declared.parts.Mark.{Mark}
use Rattle.words.specs.declared.parts.Mark.TheVariants.{Arm, Person, Rests, Moves, Accepts, Rejects}
use Rattle.words.specs.declared.parts.Word.{Word}
use Rattle.words.specs.declared.parts.Word.TheVariants as variants
use denote.Ref.{Bor}
use Rattle.words.specs.Kinds.{mark_word, Says}
use Rattle.lines.specs.Words.{on_value}

not_first : (w v : List ℕ) (vs : List (List ℕ)) → (w ≡ v → ⊥) → place_among w (v ∷ vs) ≡ one_further (place_among w vs)
not_first w v vs h = cond-false (bytes_eq w v) (Some 0) _ (false_from_ne_true (bytes_eq w v) (λ t. h ((bytes_eq-Decides w v).0 t)))

pub unmarked : {A : Type 0} (f : ℕ → A) (place : ℕ) (w u v : List ℕ) → (w ≡ u → ⊥) → (w ≡ v → ⊥) → Err (line_fault UnknownMark place) ≡ on_value f (at_word place (read_field (mark u v) w))
unmarked f place w u v h k =
    sym (ap (λ o. on_value f (at_word place (or_refused UnknownMark o))) (not_first w u (v ∷ []) h ∙ ap one_further (not_first w v [] k)))

-- the mark that a byte is
mark_of : ℕ → Mark
mark_of b = cond (eqb b 97) Arm (cond (eqb b 112) Person (cond (eqb b 114) Rests (cond (eqb b 45) Moves (cond (eqb b 121) Accepts Rejects))))

mark_back : (m : Mark) → mark_of (get_or (mark_word m) 0 0) ≡ m
unfolding mark_of
mark_back Arm = refl
mark_back Person = refl
mark_back Rests = refl
mark_back Moves = refl
mark_back Accepts = refl
mark_back Rejects = refl

pub other_mark : (w : List ℕ) (m k : Mark) → w ≡ mark_word m → (m ≡ k → ⊥) → w ≡ mark_word k → ⊥
other_mark w m k e h f = h (sym (mark_back m) ∙ ap (λ v. mark_of (get_or v 0 0)) (sym e ∙ f) ∙ mark_back k)

no_number : (m : Mark) → is_number (mark_word m) ≡ false
no_number Arm = refl
no_number Person = refl
no_number Rests = refl
no_number Moves = refl
no_number Accepts = refl
no_number Rejects = refl

-- a word that is no mark
pub no_mark : (x : Word) (w : List ℕ) (k : Mark) → Says x w → ((m : Mark) (s : Bor (List ℕ)) → x ≡ variants.Mark m s → ⊥) → w ≡ mark_word k → ⊥
no_mark (variants.Number n s) w k h other e = both_ways _ (ap is_number e ∙ no_number k) h.1
no_mark (variants.Mark m s) w k h other e = other m s refl
no_mark (variants.Name s) w k h other e = h.2 k e

-- a rule line that begins with no rule's name
pub unknown_name : (seen : List Rule) (ws : List (List ℕ)) (w : List ℕ) → w ≡ get_or ws 0 [] → (w ≡ codes "met" → ⊥) → (w ≡ codes "never" → ⊥) → (w ≡ codes "before" → ⊥) → (w ≡ codes "after" → ⊥)
    → Err (line_fault UnknownMark 1) ≡ rule_line seen ws
unknown_name seen [] w e h i j k = refl
unknown_name seen (v ∷ ws) w e h i j k =
    sym (ap (λ o. rule_named o ws) (ap (λ x. place_among x (codes "met" ∷ codes "never" ∷ codes "before" ∷ codes "after" ∷ [])) (sym e) ∙ not_first w _ (codes "never" ∷ codes "before" ∷ codes "after" ∷ []) h ∙ ap one_further (not_first w _ (codes "before" ∷ codes "after" ∷ []) i ∙ ap one_further (not_first w _ (codes "after" ∷ []) j ∙ ap one_further (not_first w _ [] k)))))
