-- The number of each refusal.
use Rattle.std.specs.Prelude.{ℕ}
use Rattle.refusal.specs.declared.Refusal.{Refusal}
use Rattle.refusal.specs.declared.Refusal.TheVariants.{EndsEarly, WrongSection, NotANumber, OutOfRange, WordCount, UnknownMark, FromFalls, TooManyMoves, PastTheEnd, ShortTable, TooLong, PersonPays, JoinTooLarge, ShortCells, OverBudget, NeverDone, OtherCount, RunEnded, UnfitEvent, NoSuchMove}

-- as the formats print it
abbrev pub refusal_number : Refusal → ℕ
refusal_number EndsEarly = 1
refusal_number WrongSection = 2
refusal_number NotANumber = 3
refusal_number OutOfRange = 4
refusal_number WordCount = 5
refusal_number UnknownMark = 6
refusal_number FromFalls = 7
refusal_number TooManyMoves = 8
refusal_number PastTheEnd = 9
refusal_number ShortTable = 10
refusal_number TooLong = 11
refusal_number PersonPays = 12
refusal_number JoinTooLarge = 22
refusal_number ShortCells = 30
refusal_number OverBudget = 41
refusal_number NeverDone = 42
refusal_number OtherCount = 50
refusal_number RunEnded = 51
refusal_number UnfitEvent = 52
refusal_number NoSuchMove = 53
