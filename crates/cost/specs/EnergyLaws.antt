-- Energy keeps the laws.
use Rattle.std.specs.Prelude.{◌≡◌, ℕ, ◌≤◌}
use Rattle.std.proofs.Common.{ap, subst, inl, inr, ⊎_elim, arith}
use Rattle.std.proofs.Math.Bridge.{le_prop}
use Rattle.std.proofs.lemmas.Bool.{leb-true, le-leb, cases_lt}
use Rattle.cost.specs.EnergyKind.{energy_kind}
use Rattle.cost.specs.Laws.{CostLaws}
use Rattle.cost.specs.declared.kinds.Energy.{Energy}

with_bound : (n : ℕ) → n ≤ 4294967295 → Energy
with_bound n h = record { spent = n; fits = h }

-- two energies are one where their numbers are
pub energy_same : (x y : Energy) → x.spent ≡ y.spent → x ≡ y
unfolding with_bound
energy_same x y e = subst (λ m. (h : m ≤ 4294967295) → x ≡ with_bound m h) e (λ h. ap (with_bound x.spent) (le_prop x.fits h)) y.fits

pub energy_laws : CostLaws energy_kind
energy_laws = record {
  reads_back = λ x. energy_same _ _ (omega (arith, x.fits));
  order = record {
    reflexive = λ x. le-leb _ _ (omega arith);
    transitive = λ x y z a b. le-leb _ _ (omega (arith, leb-true _ _ a, leb-true _ _ b));
    antisymmetric = λ x y a b. energy_same x y (omega (arith, leb-true _ _ a, leb-true _ _ b));
    total = λ x y. ⊎_elim (λ h. inl (le-leb _ _ (omega (arith, h)))) (λ h. inr (le-leb _ _ h)) (cases_lt x.spent y.spent);
  };
  associative = λ x y z. energy_same _ _ (omega arith);
  zero_left = λ x. energy_same _ _ (omega (arith, x.fits));
  zero_right = λ x. energy_same _ _ (omega (arith, x.fits));
  keeps_order = λ c x y a. le-leb _ _ (omega (arith, leb-true _ _ a));
  never_falls = λ c x. le-leb _ _ (omega (arith, x.fits));
}
