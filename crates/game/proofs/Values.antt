-- The order of values is total, and adding a cost to a value keeps the laws.
use Rattle.std.proofs.Common.{◌≡◌, true, false, ◌⊎◌, Some, None, Option, refl, ap, inl, inr}
use Rattle.cost.specs.Kind.{Kind}
use Rattle.cost.specs.Laws.{Order, CostLaws}
use Rattle.std.proofs.lemmas.Bool.{false≢true, true≢false}
use Rattle.game.specs.Values.{value_leq, value_add, is_cost}

pub cost_of : {C : Type 0} (v : Option C) → is_cost v ≡ true → (x : C) × (v ≡ Some x)
cost_of None e = absurd (false≢true e)
cost_of (Some x) e = (x, refl)

module _ {C : Type 0} (k : Kind C) (laws : CostLaws k) where
  v_reflexive : (x : Option C) → value_leq k x x ≡ true
  unfolding value_leq
  v_reflexive None = refl
  v_reflexive (Some x) = laws.order.reflexive x

  v_transitive : (x y z : Option C) → value_leq k x y ≡ true → value_leq k y z ≡ true → value_leq k x z ≡ true
  unfolding value_leq
  v_transitive x y None a b = refl
  v_transitive x None (Some z) a b = absurd (false≢true b)
  v_transitive None (Some y) (Some z) a b = absurd (false≢true a)
  v_transitive (Some x) (Some y) (Some z) a b = laws.order.transitive x y z a b

  v_antisymmetric : (x y : Option C) → value_leq k x y ≡ true → value_leq k y x ≡ true → x ≡ y
  unfolding value_leq
  v_antisymmetric None None a b = refl
  v_antisymmetric None (Some y) a b = absurd (false≢true a)
  v_antisymmetric (Some x) None a b = absurd (false≢true b)
  v_antisymmetric (Some x) (Some y) a b = ap Some (laws.order.antisymmetric x y a b)

  v_total : (x y : Option C) → (value_leq k x y ≡ true) ⊎ (value_leq k y x ≡ true)
  unfolding value_leq
  v_total x None = inl refl
  v_total None (Some y) = inr refl
  v_total (Some x) (Some y) = laws.order.total x y

  pub values : Order (value_leq k)
  values = record { reflexive = v_reflexive; transitive = v_transitive; antisymmetric = v_antisymmetric; total = v_total }

  pub none_high : (v : Option C) → value_leq k v None ≡ true
  unfolding value_leq
  none_high v = refl

  pub add_keeps : (c : C) (v w : Option C) → value_leq k v w ≡ true → value_leq k (value_add k c v) (value_add k c w) ≡ true
  unfolding value_leq value_add
  add_keeps c v None h = refl
  add_keeps c None (Some y) h = absurd (false≢true h)
  add_keeps c (Some x) (Some y) h = laws.keeps_order c x y h

  pub add_grows : (c : C) (v : Option C) → value_leq k v (value_add k c v) ≡ true
  unfolding value_leq value_add
  add_grows c None = refl
  add_grows c (Some x) = laws.never_falls c x

  pub add_assoc : (a b : C) (v : Option C) → value_add k (k.add a b) v ≡ value_add k a (value_add k b v)
  unfolding value_add
  add_assoc a b None = refl
  add_assoc a b (Some x) = ap Some (laws.associative a b x)

  pub add_zero : (v : Option C) → value_add k k.zero v ≡ v
  unfolding value_add
  add_zero None = refl
  add_zero (Some x) = ap Some (laws.zero_left x)

  pub add_of_zero : (c : C) → value_add k c (Some k.zero) ≡ Some c
  unfolding value_add
  add_of_zero c = ap Some (laws.zero_right c)

  pub zero_low : (v : Option C) → value_leq k (Some k.zero) v ≡ true
  unfolding value_leq
  zero_low None = refl
  zero_low (Some x) = rw (laws.zero_right x) at (laws.never_falls x k.zero)

  -- what is not above a cost is one
  pub cost_below : (v : Option C) (x : C) → value_leq k v (Some x) ≡ true → (y : C) × (v ≡ Some y) × (k.leq y x ≡ true)
  unfolding value_leq
  cost_below None x h = absurd (false≢true h)
  cost_below (Some y) x h = (y, refl, h)

  -- so is what another value is above
  pub cost_strict : (v w : Option C) → value_leq k v w ≡ false → is_cost w ≡ true
  unfolding value_leq
  cost_strict v None h = absurd (true≢false h)
  cost_strict v (Some y) h = refl

  pub cost_lower : (v w : Option C) → value_leq k v w ≡ true → is_cost w ≡ true → is_cost v ≡ true
  unfolding value_leq
  cost_lower v None h e = absurd (false≢true e)
  cost_lower None (Some y) h e = absurd (false≢true h)
  cost_lower (Some x) (Some y) h e = refl

  -- the order of costs, read off their values
  pub leq_costs : (x y : C) → value_leq k (Some x) (Some y) ≡ true → k.leq x y ≡ true
  unfolding value_leq
  leq_costs x y h = h
