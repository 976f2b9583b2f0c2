-- The sheets of the worked examples.
use Rattle.std.specs.Prelude.{ℕ, List, [], ◌∷◌, ◌++◌, codes}
use Prim.Native.String.{String}
use Rattle.std.specs.List.{flat_map}

-- the bytes of some lines, each with its LF
abbrev pub lines : List String → List ℕ
lines ls = flat_map (λ l. codes l ++ (10 ∷ [])) ls

-- the arm comes to rest at once, with a bruise, or by way of a person
abbrev pub four_positions : List ℕ
four_positions = lines ("positions 4" ∷ "a - 0" ∷ "p - 0" ∷ "a - 0" ∷ "a r 0" ∷ "moves 5" ∷ "0 1 0 3" ∷ "0 3 2 1" ∷ "1 2 0 0" ∷ "1 3 0 0" ∷ "2 3 0 4" ∷ "states 0" ∷ "arrows 0" ∷ "rules 0" ∷ "start 1" ∷ "0 0 5" ∷ [])

-- two free moves of the arm make a circle, and one of energy 5 leads to rest
abbrev pub circle : List ℕ
circle = lines ("positions 3" ∷ "a - 0" ∷ "a - 0" ∷ "a r 0" ∷ "moves 3" ∷ "0 1 0 0" ∷ "0 2 0 5" ∷ "1 0 0 0" ∷ "states 0" ∷ "arrows 0" ∷ "rules 0" ∷ "start 1" ∷ "0 0 5" ∷ [])

-- a person may stay, or move to rest
abbrev pub may_stay : List ℕ
may_stay = lines ("positions 2" ∷ "p - 0" ∷ "a r 0" ∷ "moves 2" ∷ "0 0 0 0" ∷ "0 1 0 0" ∷ "states 0" ∷ "arrows 0" ∷ "rules 0" ∷ "start 1" ∷ "0 0 0" ∷ [])

-- a person without moves, and a resting position
abbrev pub no_moves : List ℕ
no_moves = lines ("positions 2" ∷ "p - 0" ∷ "a r 0" ∷ "moves 0" ∷ "states 0" ∷ "arrows 0" ∷ "rules 0" ∷ "start 1" ∷ "0 0 0" ∷ [])

-- a resting position of the arm, with a move of energy 9
abbrev pub rest_with_move : List ℕ
rest_with_move = lines ("positions 1" ∷ "a r 0" ∷ "moves 1" ∷ "0 0 0 9" ∷ "states 0" ∷ "arrows 0" ∷ "rules 0" ∷ "start 1" ∷ "0 0 0" ∷ [])

-- a resting position whose label has the sign to be met
abbrev pub met_at_once : List ℕ
met_at_once = lines ("positions 1" ∷ "a r 1" ∷ "moves 0" ∷ "states 0" ∷ "arrows 0" ∷ "rules 1" ∷ "met 0" ∷ "start 1" ∷ "0 0 0" ∷ [])

-- a resting position whose label lacks that sign
abbrev pub never_met : List ℕ
never_met = lines ("positions 1" ∷ "a r 0" ∷ "moves 0" ∷ "states 0" ∷ "arrows 0" ∷ "rules 1" ∷ "met 0" ∷ "start 1" ∷ "0 0 0" ∷ [])

-- that sign is met on coming to rest
abbrev pub met_on_arrival : List ℕ
met_on_arrival = lines ("positions 2" ∷ "a - 0" ∷ "a r 1" ∷ "moves 1" ∷ "0 1 0 2" ∷ "states 0" ∷ "arrows 0" ∷ "rules 1" ∷ "met 0" ∷ "start 1" ∷ "0 0 2" ∷ [])
