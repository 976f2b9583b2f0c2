-- Peak keeps the laws.
use Rattle.std.specs.Prelude.{◌≡◌, ℕ, ◌≤◌, max}
use Rattle.std.proofs.Common.{ap, subst, inl, inr, ⊎_elim, arith}
use Rattle.std.proofs.Math.Bridge.{le_prop}
use Rattle.std.proofs.lemmas.Bool.{leb-true, le-leb, cases_lt}
use Rattle.cost.specs.PeakKind.{peak_kind}
use Rattle.cost.specs.Laws.{CostLaws}
use Rattle.cost.specs.declared.kinds.Peak.{Peak}

with_bound : (n : ℕ) → n ≤ 4294967295 → Peak
with_bound n h = record { most = n; fits = h }

-- two peaks are one where their numbers are
pub peak_same : (x y : Peak) → x.most ≡ y.most → x ≡ y
unfolding with_bound
peak_same x y e = subst (λ m. (h : m ≤ 4294967295) → x ≡ with_bound m h) e (λ h. ap (with_bound x.most) (le_prop x.fits h)) y.fits

-- the number of a sum
pub sum_most : (x y : Peak) → (peak_kind.add x y).most ≡ max x.most y.most
sum_most x y = omega (arith, x.fits, y.fits)

max_assoc : (a b c : ℕ) → max (max a b) c ≡ max a (max b c)
max_assoc a b c = omega arith

pub peak_laws : CostLaws peak_kind
peak_laws = record {
  reads_back = λ x. peak_same _ _ (omega (arith, x.fits));
  order = record {
    reflexive = λ x. le-leb _ _ (omega arith);
    transitive = λ x y z a b. le-leb _ _ (omega (arith, leb-true _ _ a, leb-true _ _ b));
    antisymmetric = λ x y a b. peak_same x y (omega (arith, leb-true _ _ a, leb-true _ _ b));
    total = λ x y. ⊎_elim (λ h. inl (le-leb _ _ (omega (arith, h)))) (λ h. inr (le-leb _ _ h)) (cases_lt x.most y.most);
  };
  associative = λ x y z. peak_same _ _ (rw (sum_most (peak_kind.add x y) z, sum_most x (peak_kind.add y z), sum_most x y, sum_most y z) (max_assoc x.most y.most z.most));
  zero_left = λ x. peak_same _ _ (omega (arith, x.fits));
  zero_right = λ x. peak_same _ _ (omega (arith, x.fits));
  keeps_order = λ c x y a. le-leb _ _ (omega (arith, leb-true _ _ a));
  never_falls = λ c x. le-leb _ _ (omega (arith, x.fits));
}
