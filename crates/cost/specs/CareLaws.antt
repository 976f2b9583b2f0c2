-- Care keeps the laws.
use Rattle.std.specs.Prelude.{◌≡◌, ℕ, ◌+◌, ◌*◌, ◌<◌, ◌≤◌, nat_le}
use Rattle.std.proofs.Common.{subst₂, inl, inr, ⊎_elim, arith}
use Rattle.std.proofs.Math.Bridge.{le_prop}
use Rattle.std.proofs.lemmas.Bool.{cases_lt, cases_order}
use Rattle.std.proofs.lemmas.Bool.Decides.{nat_tests}
use Rattle.cost.specs.CareKind.{care_leq, care_kind}
use Rattle.cost.specs.Laws.{CostLaws}
use Rattle.cost.specs.declared.kinds.Care.{Care}

with_bounds : (b e : ℕ) → (b ≤ 4294967295) × (e ≤ 4294967295) → Care
with_bounds b e h = record { bruise = b; energy = e; fits = h }

-- two cares are one where both numbers are
pub care_same : (x y : Care) → x.bruise ≡ y.bruise → x.energy ≡ y.energy → x ≡ y
unfolding with_bounds
care_same x y p q =
    subst₂ (λ b e. (h : (b ≤ 4294967295) × (e ≤ 4294967295)) → x ≡ with_bounds b e h) p q
    (λ h. λ i. with_bounds x.bruise x.energy (le_prop x.fits.0 h.0 i, le_prop x.fits.1 h.1 i)) y.fits

-- packed into one number, two cares have the order of that number
pub packed_order : (x y : Care) → nat_le (x.bruise * 4294967296 + x.energy) (y.bruise * 4294967296 + y.energy) ≡ care_leq x y
packed_order x y = grind (arith, nat_tests, x.fits.1, y.fits.1)

pub care_laws : CostLaws care_kind
care_laws = record {
  reads_back = λ x. care_same _ _ (omega (arith, x.fits.0)) (omega (arith, x.fits.1));
  order = record {
    reflexive = λ x. grind (arith, nat_tests);
    transitive = λ x y z a b. grind (arith, nat_tests);
    antisymmetric = λ x y a b. care_same x y (grind (arith, nat_tests)) (grind (arith, nat_tests));
    total = λ x y. ⊎_elim (λ (e : x.bruise ≡ y.bruise). ⊎_elim (λ (h : x.energy < y.energy). inl (grind (arith, nat_tests))) (λ (h : y.energy ≤ x.energy). inr (grind (arith, nat_tests))) (cases_lt x.energy y.energy))
        (⊎_elim (λ (h : x.bruise < y.bruise). inl (grind (arith, nat_tests))) (λ (h : y.bruise < x.bruise). inr (grind (arith, nat_tests)))) (cases_order x.bruise y.bruise);
  };
  associative = λ x y z. care_same _ _ (omega arith) (grind (arith, nat_tests));
  zero_left = λ x. care_same _ _ (omega (arith, x.fits.0)) (grind (arith, nat_tests, x.fits.0, x.fits.1));
  zero_right = λ x. care_same _ _ (omega (arith, x.fits.0)) (grind (arith, nat_tests, x.fits.0, x.fits.1));
  keeps_order = λ c x y a. grind (arith, nat_tests);
  never_falls = λ c x. grind (arith, nat_tests);
}
