use Rattle.std.proofs.Common.{rules, ◌≡◌, take, IfSome, ℕ, List, [], ◌++◌, Option, Some, None}
use Rattle.std.specs.Option.{option_map}
use Rattle.load.proofs.bytes.read_bytes.Goals as goal

-- what is appended of the front of known bytes
front_read : (m : Option (List ℕ)) (n : ℕ) (new : List ℕ) → IfSome (option_map (take n) m) (λ xs. new ≡ [] ++ xs) → IfSome m (λ xs. new ≡ take n xs)
front_read None n new h = h
front_read (Some xs) n new h = h

pub returns : goal.returns
returns g c = front_read _ 65537 _ (search (rules, c.in_ok-read_to_end.ensures.bytes, c.take.ensures.limit, c.take.ensures.inner, c.new-bytes.ensures.items))
