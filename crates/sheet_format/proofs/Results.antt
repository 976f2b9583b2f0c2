-- Results and options that are known.
use Rattle.std.proofs.Common.{◌≡◌, Bool, true, false, cond, Some, None, Ok, Err, Option, Result, refl, subst}
use Rattle.sheet_format.specs.Fields.{on_ok}

-- of an option's value, of a result's value and of its fault
abbrev OfSome : {A : Type 0} → (A → Type 0) → Option A → Type 0
OfSome P None = ⊥
OfSome P (Some a) = P a

abbrev OfOk : {A E : Type 0} → (A → Type 0) → Result A E → Type 0
OfOk P (Ok a) = P a
OfOk P (Err e) = ⊥

abbrev OfErr : {A E : Type 0} → (E → Type 0) → Result A E → Type 0
OfErr P (Ok a) = ⊥
OfErr P (Err e) = P e

abbrev IsNone : {A : Type 0} → Option A → Type 0
IsNone None = Unit {0}
IsNone (Some a) = ⊥

-- what holds of a value holds of the one that it equals
pub some_along : {A : Type 0} (P : A → Type 0) (a b : A) → Path (Option A) (Some a) (Some b) → P a → P b
some_along P a b e p = subst (OfSome P) e p

pub ok_along : {A E : Type 0} (P : A → Type 0) (a b : A) → Path (Result A E) (Ok a) (Ok b) → P a → P b
ok_along P a b e p = subst (OfOk P) e p

pub err_along : {A E : Type 0} (P : E → Type 0) (a b : E) → Path (Result A E) (Err a) (Err b) → P a → P b
err_along P a b e p = subst (OfErr P) e p

-- cases that differ
pub none_some : {A : Type 0} (a : A) → Path (Option A) None (Some a) → ⊥
none_some a e = subst IsNone e tt

pub err_ok : {A E : Type 0} (e : E) (a : A) → Path (Result A E) (Err e) (Ok a) → ⊥
err_ok e a p = subst (OfErr (λ _. Unit {0})) p tt

pub ok_err : {A E : Type 0} (a : A) (e : E) → Path (Result A E) (Ok a) (Err e) → ⊥
ok_err a e p = subst (OfOk (λ _. Unit {0})) p tt

-- what went on gave a value
pub on_ok_parts : {A B E : Type 0} (r : Result A E) (f : A → Result B E) (b : B) → on_ok r f ≡ Ok b → (a : A) × (r ≡ Ok a) × (f a ≡ Ok b)
on_ok_parts (Ok a) f b e = (a, refl, e)
on_ok_parts (Err x) f b e = absurd (err_ok x b e)

-- a test that was passed, and one that was not met
pub cond_ok : {A E : Type 0} (t : Bool) (r : Result A E) (e : E) (a : A) → cond t r (Err e) ≡ Ok a → (t ≡ true) × (r ≡ Ok a)
cond_ok true r e a h = (refl, h)
cond_ok false r e a h = absurd (err_ok e a h)

pub cond_past : {A E : Type 0} (t : Bool) (r : Result A E) (e : E) (a : A) → cond t (Err e) r ≡ Ok a → (t ≡ false) × (r ≡ Ok a)
cond_past true r e a h = absurd (err_ok e a h)
cond_past false r e a h = (refl, h)
