-- Readings, by the bytes that they take.
use Rattle.std.proofs.Common.{◌≡◌, ℕ, suc, List, [], ◌++◌, Some, None, Ok, Err, Option, Result, sym, refl, ap, ◌∙◌, subst, append_assoc, append-nil}
use Rattle.refusal.specs.declared.Refusal.TheVariants.{EndsEarly}
use Rattle.sheet_format.proofs.Cuts.{line_forth, line_back, words_spaced}
use Rattle.sheet_format.proofs.LineKinds.{Lawful}
use Rattle.sheet_format.proofs.Results.{ok_along, err_ok, on_ok_parts}
use Rattle.sheet_format.specs.declared.LineFault.{LineFault}
use Rattle.sheet_format.specs.Cuts.{first_line, words, line_of}
use Rattle.sheet_format.specs.Reading.{Left, left, Reading, LineReading, fault, done, ◌>>=◌, line_read, line_due, next_line}

-- r reads just the bytes of a good value, whatever stands after them
pub record Reads {A : Type 0} (r : Reading A) (bs : A → List ℕ) (Good : A → Type 0) : Type 0 where
  pub forth : (a : A) → Good a → (k : ℕ) (rest : List ℕ) → (j : ℕ) × (r (left k (bs a ++ rest)) ≡ Ok (a, left j rest))
  pub back : (l : Left) (a : A) (m : Left) → r l ≡ Ok (a, m) → Good a × (l.bytes ≡ bs a ++ m.bytes)

-- the line that is due
line_back_at : {A : Type 0} (f : LineReading A) (ws : A → List (List ℕ)) (Good : A → Type 0) → Lawful f ws Good → (k : ℕ) (bs : List ℕ) (o : Option (List ℕ × List ℕ)) → first_line bs ≡ o → (a : A) (m : Left) → line_due f k o ≡ Ok (a, m) → Good a × (bs ≡ line_of (ws a) ++ m.bytes)
line_back_at f ws Good l k bs None o a m e = absurd (err_ok (fault EndsEarly k 0) (a, m) e)
line_back_at {A} f ws Good l k bs (Some x) o a m e = go (f (words x.0)) refl e
  where
    go : (r : Result A LineFault) → f (words x.0) ≡ r → line_read k x.1 r ≡ Ok (a, m) → Good a × (bs ≡ line_of (ws a) ++ m.bytes)
    go (Ok b) h e =
        let p = l.back (words x.0) b h in
        ok_along (λ y. Good y.0 × (bs ≡ line_of (ws y.0) ++ y.1.bytes)) (b, left (suc k) x.1) (a, m) e (p.0, line_back bs x o ∙ ap (λ us. line_of us ++ x.1) (sym p.1))
    go (Err d) h e = absurd (err_ok (fault d.refusal k d.word) (a, m) e)

pub next_line_reads : {A : Type 0} (f : LineReading A) (ws : A → List (List ℕ)) (Good : A → Type 0) → Lawful f ws Good → Reads (next_line f) (λ a. line_of (ws a)) Good
next_line_reads f ws Good l = record {
  forth = λ a h k rest. (suc k, rw (line_forth (ws a) rest (l.tidy a h), words_spaced (ws a) (l.tidy a h), l.forth a h) refl);
  back = λ b a m e. line_back_at f ws Good l b.line b.bytes (first_line b.bytes) refl a m e;
}

-- nothing more
pub done_reads : {A : Type 0} (a : A) → Reads (done a) (λ b. []) (λ b. b ≡ a)
done_reads a = record {
  forth = λ b e k rest. (k, ap (λ c. Ok (c, left k rest)) (sym e));
  back = λ l b m e. ok_along (λ y. (y.0 ≡ a) × (l.bytes ≡ y.1.bytes)) (a, l) (b, m) e (refl, refl);
}

-- a value that is made of two: of a, and of what is read after it
pub record Made {A B : Type 0} (bs : A → List ℕ) (Good : A → Type 0) (cs : A → B → List ℕ) (Fine : A → B → Type 0) (ds : B → List ℕ) (Whole : B → Type 0) : Type 0 where
  pub part : (b : B) → Whole b → (a : A) × Good a × Fine a b × (ds b ≡ bs a ++ cs a b)
  pub whole : (a : A) (b : B) → Good a → Fine a b → Whole b × (ds b ≡ bs a ++ cs a b)

module _ {A B : Type 0} (r : Reading A) (f : A → Reading B) (bs : A → List ℕ) (Good : A → Type 0) (cs : A → B → List ℕ) (Fine : A → B → Type 0) (ds : B → List ℕ) (Whole : B → Type 0) (first : Reads r bs Good) (then : (a : A) → Good a → Reads (f a) (cs a) (Fine a)) (made : Made bs Good cs Fine ds Whole) where
  bind_forth : (b : B) → Whole b → (k : ℕ) (rest : List ℕ) → (j : ℕ) × ((r >>= f) (left k (ds b ++ rest)) ≡ Ok (b, left j rest))
  bind_forth b w k rest =
      let p = made.part b w in
      let q = first.forth p.0 p.1 k (cs p.0 b ++ rest) in
      let s = (then p.0 p.1).forth b p.2 q.0 rest in
      (s.0, rw (p.3, append_assoc (bs p.0) (cs p.0 b) rest, q.1) s.1)

  bind_back : (l : Left) (b : B) (m : Left) → (r >>= f) l ≡ Ok (b, m) → Whole b × (l.bytes ≡ ds b ++ m.bytes)
  bind_back l b m e =
      let p = on_ok_parts (r l) (λ x. f x.0 x.1) (b, m) e in
      let a = p.0.0 in
      let q = first.back l a p.0.1 p.1 in
      let s = (then a q.0).back p.0.1 b m p.2 in
      let w = made.whole a b q.0 s.0 in
      (w.0, q.1 ∙ ap (λ k. bs a ++ k) s.1 ∙ sym (append_assoc (bs a) (cs a b) m.bytes) ∙ ap (λ k. k ++ m.bytes) (sym w.1))

  -- one reading after another
  pub bind_reads : Reads (r >>= f) ds Whole
  bind_reads = record { forth = bind_forth; back = bind_back }

-- the same bytes in other words
pub reads_as : {A : Type 0} (r : Reading A) (bs cs : A → List ℕ) (Good Fine : A → Type 0) → Reads r bs Good → ((a : A) → Fine a → Good a × (bs a ≡ cs a)) → ((a : A) → Good a → Fine a × (bs a ≡ cs a)) → Reads r cs Fine
reads_as r bs cs Good Fine h there back = record {
  forth = λ a g k rest.
      let p = there a g in
      let q = h.forth a p.0 k rest in
      (q.0, rw (← p.1) q.1);
  back = λ l a m e.
      let q = h.back l a m e in
      let p = back a q.0 in
      (p.0, q.1 ∙ ap (λ x. x ++ m.bytes) p.1);
}

-- a part that the whole shows
pub part_reads : {A B : Type 0} (r : Reading A) (f : A → Reading B) (bs : A → List ℕ) (Good : A → Type 0) (cs : B → List ℕ) (Fine : A → B → Type 0) (g : B → A) → Reads r bs Good → ((a : A) → Good a → Reads (f a) cs (Fine a)) → ((a : A) (b : B) → Good a → Fine a b → g b ≡ a) → Reads (r >>= f) (λ b. bs (g b) ++ cs b) (λ b. Good (g b) × Fine (g b) b)
part_reads r f bs Good cs Fine g first then shows = bind_reads r f bs Good (λ a. cs) Fine (λ b. bs (g b) ++ cs b) (λ b. Good (g b) × Fine (g b) b) first then (record {
  part = λ b w. (g b, w.0, w.1, refl);
  whole = λ a b h k.
      let e = shows a b h k in
      (subst (λ x. Good x × Fine x b) (sym e) (h, k), ap (λ x. bs x ++ cs b) e);
})

-- a value that is made of the one read
pub made_reads : {A B : Type 0} (r : Reading A) (bs : A → List ℕ) (Good : A → Type 0) (h : A → B) (g : B → A) → ((a : A) → g (h a) ≡ a) → Reads r bs Good → Reads (r >>= (λ a. done (h a))) (λ b. bs (g b)) (λ b. Good (g b) × (h (g b) ≡ b))
made_reads r bs Good h g back first = bind_reads r (λ a. done (h a)) bs Good (λ a b. []) (λ a b. b ≡ h a) (λ b. bs (g b)) (λ b. Good (g b) × (h (g b) ≡ b)) first (λ a good. done_reads (h a)) (record {
  part = λ b w. (g b, w.0, sym w.1, sym (append-nil (bs (g b))));
  whole = λ a b good e. subst (λ c. (Good (g c) × (h (g c) ≡ c)) × (bs (g c) ≡ bs a ++ [])) (sym e) ((subst Good (sym (back a)) good, ap h (back a)), ap bs (back a) ∙ sym (append-nil (bs a)));
})
