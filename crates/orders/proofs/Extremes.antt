-- Lemmas on total orders, and on the least and the greatest of a list.
use Rattle.std.proofs.Common.{◌≡◌, ℕ, zero, suc, ◌<◌, Bool, true, false, cond, List, [], ◌∷◌, map, length, get_or, ⊎_elim, le_of_suc-le-suc, not-suc-le-zero, arith}
use Rattle.std.proofs.lemmas.Bool.{both_ways, cases_Bool, cond_both}
use Rattle.cost.specs.Laws.{Order}
use Rattle.orders.specs.Extremes.{least, greatest}

pub refuted : (b : Bool) → (b ≡ true → ⊥) → b ≡ false
refuted b h = ⊎_elim (λ (e : b ≡ true). absurd (h e)) (λ (e : b ≡ false). e) (cases_Bool b)

-- an item whose value by f is not above v, and was above it by g
pub record Fallen {V X : Type 0} (leq : V → V → Bool) (f g : X → V) (v : V) : Type 0 where
  pub item : X
  pub under : leq (f item) v ≡ true
  pub fell : leq (g item) (f item) ≡ false

-- a place whose value is as the test says
pub record Place {X : Type 0} (d : X) (xs : List X) (P : X → Type 0) : Type 0 where
  pub index : ℕ
  pub there : index < length xs
  pub fits : P (get_or xs index d)

module _ {V : Type 0} {leq : V → V → Bool} (o : Order leq) where
  pub above : (x y : V) → leq x y ≡ false → leq y x ≡ true
  above x y h = ⊎_elim (λ e. absurd (both_ways (leq x y) h e)) (λ e. e) (o.total x y)

  -- x is above z, and not above y: y is above z
  pub above_left : (x y z : V) → leq x z ≡ false → leq x y ≡ true → leq y z ≡ false
  above_left x y z h e = refuted (leq y z) (λ k. both_ways (leq x z) h (o.transitive x y z e k))

  -- x is above z, and y is not: x is above y
  pub above_right : (x y z : V) → leq x z ≡ false → leq y z ≡ true → leq x y ≡ false
  above_right x y z h e = refuted (leq x y) (λ k. both_ways (leq x z) h (o.transitive x y z k e))

  min_left : (x y : V) → leq (cond (leq x y) x y) x ≡ true
  min_left x y = cond_both (leq x y) x y (λ v. leq v x ≡ true) (λ e. o.reflexive x) (λ e. above x y e)

  min_right : (x y : V) → leq (cond (leq x y) x y) y ≡ true
  min_right x y = cond_both (leq x y) x y (λ v. leq v y ≡ true) (λ e. e) (λ e. o.reflexive y)

  max_left : (x y : V) → leq x (cond (leq x y) y x) ≡ true
  max_left x y = cond_both (leq x y) y x (λ v. leq x v ≡ true) (λ e. e) (λ e. o.reflexive x)

  max_right : (x y : V) → leq y (cond (leq x y) y x) ≡ true
  max_right x y = cond_both (leq x y) y x (λ v. leq y v ≡ true) (λ e. o.reflexive y) (λ e. above x y e)

  module _ {X : Type 0} (d : X) (top : V) (f : X → V) where
    -- the least is not above an item
    pub least_at : (xs : List X) (i : ℕ) → i < length xs → leq (least leq top (map f xs)) (f (get_or xs i d)) ≡ true
    least_at [] i h = absurd (not-suc-le-zero h)
    least_at (x ∷ xs) zero h = min_left (f x) (least leq top (map f xs))
    least_at (x ∷ xs) (suc i) h = o.transitive _ _ _ (min_right (f x) (least leq top (map f xs))) (least_at xs i (le_of_suc-le-suc h))

    -- an item is not above the greatest
    pub greatest_at : (xs : List X) (i : ℕ) → i < length xs → leq (f (get_or xs i d)) (greatest leq top (map f xs)) ≡ true
    greatest_at [] i h = absurd (not-suc-le-zero h)
    greatest_at (x ∷ []) zero h = o.reflexive (f x)
    greatest_at (x ∷ []) (suc i) h = absurd (not-suc-le-zero (le_of_suc-le-suc h))
    greatest_at (x ∷ y ∷ ys) zero h = max_left (f x) (greatest leq top (map f (y ∷ ys)))
    greatest_at (x ∷ y ∷ ys) (suc i) h = o.transitive _ _ _ (greatest_at (y ∷ ys) i (le_of_suc-le-suc h)) (max_right (f x) (greatest leq top (map f (y ∷ ys))))

    -- the least is the value of an item, where it is not the top
    pub least_in : (xs : List X) → leq top (least leq top (map f xs)) ≡ false → Place d xs (λ x. leq (f x) (least leq top (map f xs)) ≡ true)
    least_in [] h = absurd (both_ways _ h (o.reflexive top))
    least_in (x ∷ xs) h = here_or_later (least_in xs) h
      where
        here_or_later : (leq top (least leq top (map f xs)) ≡ false → Place d xs (λ y. leq (f y) (least leq top (map f xs)) ≡ true))
            → leq top (least leq top (map f (x ∷ xs))) ≡ false → Place d (x ∷ xs) (λ y. leq (f y) (least leq top (map f (x ∷ xs))) ≡ true)
        here_or_later later =
            cond_both (leq (f x) (least leq top (map f xs))) (f x) (least leq top (map f xs)) (λ v. leq top v ≡ false → Place d (x ∷ xs) (λ y. leq (f y) v ≡ true))
            (λ e k. record { index = 0; there = omega arith; fits = o.reflexive (f x) })
            (λ e k. let p = later k in record { index = suc p.index; there = omega arith; fits = p.fits })

    -- the greatest is the value of an item, where there is one
    pub greatest_in : (x : X) (xs : List X) → Place d (x ∷ xs) (λ y. leq (greatest leq top (map f (x ∷ xs))) (f y) ≡ true)
    greatest_in x [] = record { index = 0; there = omega arith; fits = o.reflexive (f x) }
    greatest_in x (y ∷ ys) = here_or_later (greatest_in y ys)
      where
        here_or_later : Place d (y ∷ ys) (λ z. leq (greatest leq top (map f (y ∷ ys))) (f z) ≡ true) → Place d (x ∷ y ∷ ys) (λ z. leq (greatest leq top (map f (x ∷ y ∷ ys))) (f z) ≡ true)
        here_or_later p =
            cond_both (leq (f x) (greatest leq top (map f (y ∷ ys)))) (greatest leq top (map f (y ∷ ys))) (f x) (λ v. Place d (x ∷ y ∷ ys) (λ z. leq v (f z) ≡ true))
            (λ e. record { index = suc p.index; there = omega arith; fits = p.fits })
            (λ e. record { index = 0; there = omega arith; fits = o.reflexive (f x) })

  module _ {X : Type 0} (top : V) (f g : X → V) where
    -- where the least fell, an item fell to no more than the least
    pub least_fell : (xs : List X) → leq (least leq top (map g xs)) (least leq top (map f xs)) ≡ false → Fallen leq f g (least leq top (map f xs))
    least_fell [] h = absurd (both_ways _ h (o.reflexive top))
    least_fell (x ∷ xs) h = here_or_later (least_fell xs) h
      where
        here_or_later : (leq (least leq top (map g xs)) (least leq top (map f xs)) ≡ false → Fallen leq f g (least leq top (map f xs)))
            → leq (least leq top (map g (x ∷ xs))) (least leq top (map f (x ∷ xs))) ≡ false → Fallen leq f g (least leq top (map f (x ∷ xs)))
        here_or_later later =
            cond_both (leq (f x) (least leq top (map f xs))) (f x) (least leq top (map f xs)) (λ v. leq (least leq top (map g (x ∷ xs))) v ≡ false → Fallen leq f g v)
            (λ e k. record { item = x; under = o.reflexive (f x); fell = above_left _ _ _ k (min_left (g x) (least leq top (map g xs))) })
            (λ e k. later (above_left _ _ _ k (min_right (g x) (least leq top (map g xs)))))

    -- where the greatest fell, an item fell to no more than the greatest
    pub greatest_fell : (xs : List X) → leq (greatest leq top (map g xs)) (greatest leq top (map f xs)) ≡ false → Fallen leq f g (greatest leq top (map f xs))
    greatest_fell [] h = absurd (both_ways _ h (o.reflexive top))
    greatest_fell (x ∷ []) h = record { item = x; under = o.reflexive (f x); fell = h }
    greatest_fell (x ∷ y ∷ ys) h = here_or_later (greatest_fell (y ∷ ys)) h
      where
        here_or_later : (leq (greatest leq top (map g (y ∷ ys))) (greatest leq top (map f (y ∷ ys))) ≡ false → Fallen leq f g (greatest leq top (map f (y ∷ ys))))
            → leq (greatest leq top (map g (x ∷ y ∷ ys))) (greatest leq top (map f (x ∷ y ∷ ys))) ≡ false → Fallen leq f g (greatest leq top (map f (x ∷ y ∷ ys)))
        here_or_later later =
            cond_both (leq (g x) (greatest leq top (map g (y ∷ ys)))) (greatest leq top (map g (y ∷ ys))) (g x)
            (λ v. leq v (greatest leq top (map f (x ∷ y ∷ ys))) ≡ false → Fallen leq f g (greatest leq top (map f (x ∷ y ∷ ys))))
            (λ e k.
            let p = later (above_right _ _ _ k (max_right (f x) (greatest leq top (map f (y ∷ ys))))) in
            record { item = p.item; under = o.transitive _ _ _ p.under (max_right (f x) (greatest leq top (map f (y ∷ ys)))); fell = p.fell })
            (λ e k. record {
              item = x;
              under = max_left (f x) (greatest leq top (map f (y ∷ ys)));
              fell = above_right _ _ _ k (max_left (f x) (greatest leq top (map f (y ∷ ys))));
            })
