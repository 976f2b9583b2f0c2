-- The lines of a sheet, and the words of a line.
use Rattle.std.specs.Prelude.{ℕ, Bool, true, false, cond, List, [], ◌∷◌, ◌++◌, Some, None, Option, ◌==◌}
use Rattle.std.specs.List.{flat_map}

-- a byte more in front of a line
abbrev pub longer : ℕ → Option (List ℕ × List ℕ) → Option (List ℕ × List ℕ)
longer b None = None
longer b (Some x) = Some (b ∷ x.0, x.1)

-- the first line, without its LF, and what stands after it; none if there is no LF
abbrev pub first_line : List ℕ → Option (List ℕ × List ℕ)
first_line [] = None
first_line (b ∷ bs) = cond (b == 10) (Some ([], bs)) (longer b (first_line bs))

-- a byte in front of words: a space begins a new, empty word, another byte belongs to the first word
abbrev pub in_front : Bool → ℕ → List (List ℕ) → List (List ℕ)
in_front true b ws = [] ∷ ws
in_front false b [] = []
in_front false b (w ∷ ws) = (b ∷ w) ∷ ws

-- a line is cut at every space
abbrev pub words : List ℕ → List (List ℕ)
words [] = [] ∷ []
words (b ∷ bs) = in_front (b == 32) b (words bs)

-- words with a space between
abbrev pub spaced : List (List ℕ) → List ℕ
spaced [] = []
spaced (w ∷ ws) = w ++ flat_map (λ v. 32 ∷ v) ws

-- a line with its LF
abbrev pub line_of : List (List ℕ) → List ℕ
line_of ws = spaced ws ++ (10 ∷ [])
