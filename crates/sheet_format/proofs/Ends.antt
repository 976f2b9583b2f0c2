-- A reading up to the last byte.
use Rattle.std.proofs.Common.{◌≡◌, ℕ, List, [], ◌∷◌, ◌++◌, Ok, Err, Result, sym, refl, ap, ◌∙◌, subst, append-nil}
use Rattle.refusal.specs.declared.Refusal.TheVariants.{EndsEarly, PastTheEnd}
use Rattle.sheet_format.proofs.Readings.{Reads}
use Rattle.sheet_format.proofs.Results.{ok_along, err_along, err_ok, ok_err, on_ok_parts}
use Rattle.sheet_format.proofs.Stays.{Local}
use Rattle.sheet_format.specs.declared.Fault.{Fault}
use Rattle.sheet_format.specs.Fields.{on_ok}
use Rattle.sheet_format.specs.Read.{at_end}
use Rattle.sheet_format.specs.Reading.{Left, left, Reading, fault}

abbrev pub to_the_end : {A : Type 0} → Reading A → List ℕ → Result A Fault
to_the_end r bytes = on_ok (r (left 1 bytes)) (λ x. at_end x.0 x.1.line x.1.bytes)

module _ {A : Type 0} (r : Reading A) (bs : A → List ℕ) (Good : A → Type 0) (reads : Reads r bs Good) where
  pub end_forth : (a : A) → Good a → to_the_end r (bs a) ≡ Ok a
  end_forth a g =
      let p = reads.forth a g 1 [] in
      rw (subst (λ bytes. r (left 1 bytes) ≡ Ok (a, left p.0 [])) (append-nil (bs a)) p.1) refl

  at_last : (a b : A) (k : ℕ) (bytes : List ℕ) → at_end a k bytes ≡ Ok b → (bytes ≡ []) × (a ≡ b)
  at_last a b k [] e = (refl, ok_along (λ c. a ≡ c) a b e refl)
  at_last a b k (x ∷ bytes) e = absurd (err_ok (fault PastTheEnd k 0) b e)

  pub end_back : (bytes : List ℕ) (a : A) → to_the_end r bytes ≡ Ok a → Good a × (bs a ≡ bytes)
  end_back bytes a e =
      let p = on_ok_parts (r (left 1 bytes)) (λ x. at_end x.0 x.1.line x.1.bytes) a e in
      let q = at_last p.0.0 a p.0.1.line p.0.1.bytes p.2 in
      let g = reads.back (left 1 bytes) p.0.0 p.0.1 p.1 in
      subst (λ b. Good b × (bs b ≡ bytes)) q.1 (g.0, sym (g.1 ∙ ap (λ l. bs p.0.0 ++ l) q.0 ∙ append-nil (bs p.0.0)))

-- a refusal stays
past_end : {A : Type 0} (a : A) (k : ℕ) (bytes rest : List ℕ) (f : Fault) → at_end a k bytes ≡ Err f → at_end a k (bytes ++ rest) ≡ Err f
past_end a k [] rest f e = absurd (ok_err a f e)
past_end a k (b ∷ bytes) rest f e = e

pub end_stays : {A : Type 0} (r : Reading A) → Local r → (bytes rest : List ℕ) (f : Fault) → to_the_end r bytes ≡ Err f → (f.refusal ≡ EndsEarly → ⊥) → to_the_end r (bytes ++ rest) ≡ Err f
end_stays {A} r l bytes rest f e n = go (r (left 1 bytes)) refl e
  where
    go : (x : Result (A × Left) Fault) → r (left 1 bytes) ≡ x → on_ok x (λ y. at_end y.0 y.1.line y.1.bytes) ≡ Err f → to_the_end r (bytes ++ rest) ≡ Err f
    go (Ok y) h e = rw (l.goes (left 1 bytes) rest y.0 y.1 h) (past_end y.0 y.1.line y.1.bytes rest f e)
    go (Err d) h e = rw (l.stays (left 1 bytes) rest f (err_along (λ c. r (left 1 bytes) ≡ Err c) d f e h) n) refl
