-- Lines and words are found where they were put.
use Rattle.std.proofs.Common.{◌≡◌, ℕ, ◌<◌, Bool, true, false, cond, eqb, List, [], ◌∷◌, ◌++◌, Some, None, Option, sym, refl, ap, ◌∙◌, append_assoc, append-nil, arith}
use Rattle.std.proofs.ByRecursion.{All-append, All-weaker}
use Rattle.std.proofs.lemmas.Bool.{ne_eqb, eqb-true}
use Rattle.std.specs.List.{flat_map, AllByRecursion}
use Rattle.sheet_format.proofs.Results.{some_along, none_some}
use Rattle.sheet_format.specs.Cuts.{longer, first_line, in_front, words, spaced, line_of}

-- no LF and no space in a word
abbrev pub Clean : List ℕ → Type 0
Clean w = AllByRecursion (λ b. 32 < b) w

-- one word or more, each clean
abbrev pub Tidy : List (List ℕ) → Type 0
Tidy [] = ⊥
Tidy (w ∷ ws) = Clean w × AllByRecursion Clean ws

-- the first line is found
pub first_line_forth : (l rest : List ℕ) → AllByRecursion (λ b. 10 < b) l → first_line (l ++ (10 ∷ rest)) ≡ Some (l, rest)
first_line_forth [] rest h = refl
first_line_forth (b ∷ l) rest h = rw (ne_eqb b 10 (λ e. omega (arith, h.0)), first_line_forth l rest h.1) refl

pub first_line_back : (bs : List ℕ) (x : List ℕ × List ℕ) → first_line bs ≡ Some x → bs ≡ x.0 ++ (10 ∷ x.1)
first_line_back [] x e = absurd (none_some x e)
first_line_back (b ∷ bs) x e = go (eqb b 10) refl (first_line bs) (first_line_back bs) e
  where
    go : (t : Bool) → eqb b 10 ≡ t → (o : Option (List ℕ × List ℕ)) → ((y : List ℕ × List ℕ) → o ≡ Some y → bs ≡ y.0 ++ (10 ∷ y.1)) → cond t (Some ([], bs)) (longer b o) ≡ Some x → b ∷ bs ≡ x.0 ++ (10 ∷ x.1)
    go true t o ih e = some_along (λ y. b ∷ bs ≡ y.0 ++ (10 ∷ y.1)) ([], bs) x e (ap (λ c. c ∷ bs) (eqb-true b 10 t))
    go false t None ih e = absurd (none_some x e)
    go false t (Some y) ih e = some_along (λ y. b ∷ bs ≡ y.0 ++ (10 ∷ y.1)) (b ∷ y.0, y.1) x e (ap (λ l. b ∷ l) (ih y refl))

-- bytes put after a sheet leave its first line
pub first_line_stays : (bs rest : List ℕ) (x : List ℕ × List ℕ) → first_line bs ≡ Some x → first_line (bs ++ rest) ≡ Some (x.0, x.1 ++ rest)
first_line_stays [] rest x e = absurd (none_some x e)
first_line_stays (b ∷ bs) rest x e = go (eqb b 10) (first_line bs) (first_line_stays bs rest) e
  where
    go : (t : Bool) (o : Option (List ℕ × List ℕ)) → ((y : List ℕ × List ℕ) → o ≡ Some y → first_line (bs ++ rest) ≡ Some (y.0, y.1 ++ rest)) → cond t (Some ([], bs)) (longer b o) ≡ Some x → cond t (Some ([], bs ++ rest)) (longer b (first_line (bs ++ rest))) ≡ Some (x.0, x.1 ++ rest)
    go true o ih e = some_along (λ y. Path (Option (List ℕ × List ℕ)) (Some ([], bs ++ rest)) (Some (y.0, y.1 ++ rest))) ([], bs) x e refl
    go false None ih e = absurd (none_some x e)
    go false (Some y) ih e = rw (ih y refl) (some_along (λ z. Path (Option (List ℕ × List ℕ)) (Some (b ∷ y.0, y.1 ++ rest)) (Some (z.0, z.1 ++ rest))) (b ∷ y.0, y.1) x e refl)

-- words with a space between are cut there
words_front : (w l v : List ℕ) (vs : List (List ℕ)) → Clean w → words l ≡ v ∷ vs → words (w ++ l) ≡ (w ++ v) ∷ vs
words_front [] l v vs c e = e
words_front (b ∷ w) l v vs c e = rw (ne_eqb b 32 (λ q. omega (arith, c.0)), words_front w l v vs c.1 e) refl

words_behind : (ws : List (List ℕ)) → AllByRecursion Clean ws → words (flat_map (λ v. 32 ∷ v) ws) ≡ [] ∷ ws
words_behind [] c = refl
words_behind (w ∷ ws) c = ap (λ us. [] ∷ us) (words_front w (flat_map (λ v. 32 ∷ v) ws) [] ws c.0 (words_behind ws c.1) ∙ ap (λ u. u ∷ ws) (append-nil w))

pub words_spaced : (ws : List (List ℕ)) → Tidy ws → words (spaced ws) ≡ ws
words_spaced [] c = absurd c
words_spaced (w ∷ ws) c = words_front w (flat_map (λ v. 32 ∷ v) ws) [] ws c.0 (words_behind ws c.1) ∙ ap (λ u. u ∷ ws) (append-nil w)

-- and a line that was cut is put together again
abbrev Some_word : List (List ℕ) → Type 0
Some_word [] = ⊥
Some_word (w ∷ ws) = Unit {0}

words_some : (l : List ℕ) → Some_word (words l)
words_some [] = tt
words_some (b ∷ l) = go (eqb b 32) (words l) (words_some l)
  where
    go : (t : Bool) (ws : List (List ℕ)) → Some_word ws → Some_word (in_front t b ws)
    go true ws h = tt
    go false [] h = h
    go false (w ∷ ws) h = tt

pub spaced_words : (l : List ℕ) → spaced (words l) ≡ l
spaced_words [] = refl
spaced_words (b ∷ l) = go (eqb b 32) refl (words l) (words_some l) ∙ ap (λ k. b ∷ k) (spaced_words l)
  where
    go : (t : Bool) → eqb b 32 ≡ t → (ws : List (List ℕ)) → Some_word ws → spaced (in_front t b ws) ≡ b ∷ spaced ws
    go true e [] h = absurd h
    go true e (w ∷ ws) h = ap (λ c. c ∷ spaced (w ∷ ws)) (sym (eqb-true b 32 e))
    go false e [] h = absurd h
    go false e (w ∷ ws) h = refl

-- no LF in a line
clean_behind : (ws : List (List ℕ)) → AllByRecursion Clean ws → AllByRecursion (λ b. 10 < b) (flat_map (λ v. 32 ∷ v) ws)
clean_behind [] c = tt
clean_behind (w ∷ ws) c = (omega arith, All-append (λ b. 10 < b) w (flat_map (λ v. 32 ∷ v) ws) (All-weaker (λ b. 32 < b) (λ b. 10 < b) (λ b h. omega arith) w c.0) (clean_behind ws c.1))

clean_line : (ws : List (List ℕ)) → Tidy ws → AllByRecursion (λ b. 10 < b) (spaced ws)
clean_line [] c = absurd c
clean_line (w ∷ ws) c = All-append (λ b. 10 < b) w (flat_map (λ v. 32 ∷ v) ws) (All-weaker (λ b. 32 < b) (λ b. 10 < b) (λ b h. omega arith) w c.0) (clean_behind ws c.1)

-- a line that was written is the first, and its words come back
pub line_forth : (ws : List (List ℕ)) (rest : List ℕ) → Tidy ws → first_line (line_of ws ++ rest) ≡ Some (spaced ws, rest)
line_forth ws rest c = ap first_line (append_assoc (spaced ws) (10 ∷ []) rest) ∙ first_line_forth (spaced ws) rest (clean_line ws c)

pub line_back : (bs : List ℕ) (x : List ℕ × List ℕ) → first_line bs ≡ Some x → bs ≡ line_of (words x.0) ++ x.1
line_back bs x e = first_line_back bs x e ∙ (sym (append_assoc x.0 (10 ∷ []) x.1) ∙ ap (λ l. (l ++ (10 ∷ [])) ++ x.1) (sym (spaced_words x.0)))
