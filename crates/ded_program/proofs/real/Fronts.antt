-- A front of a list that is shorter than what was asked for is the whole list.
use Rattle.std.proofs.Common.{◌≡◌, ◌<◌, ◌≤◌, ℕ, List, length, take, arith}
use Rattle.std.proofs.lemmas.List.{length-take, take_all}

-- a front of at most `n` members, where more than `n` were asked for, is the whole list
pub whole : (n asked : ℕ) (xs : List ℕ) → n < asked → length (take asked xs) ≤ n → take asked xs ≡ xs
whole n asked xs less short =
    let e : _ = length-take asked xs in take_all asked xs (omega arith)
