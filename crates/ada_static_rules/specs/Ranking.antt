-- Which of several things comes first, where each has a rank: where it starts, of those at one start the number of the rule, and of those of one rule there a last number.
use Rattle.std.specs.Prelude.{ℕ, nat_lt, Bool, ◌||◌, ◌&&◌, ◌==◌, if◌then◌else◌, List, [], ◌∷◌, Option, Some, None}

pub record Rank : Type 0 where
  pub start : ℕ
  pub rule : ℕ
  pub last : ℕ

-- of two numbers the first is smaller, or they are equal and the test holds
abbrev pub is_lower : ℕ → ℕ → Bool → Bool
is_lower a b test = nat_lt a b || ((a == b) && test)

-- one rank stands before another
abbrev pub is_earlier : Rank → Rank → Bool
is_earlier r q = is_lower r.start q.start (is_lower r.rule q.rule (nat_lt r.last q.last))

module _ {A : Type 0} (rank : A → Rank) where
  -- the first of two; of two that are equal in rank the one that is named first
  abbrev pub earlier_of : A → A → A
  earlier_of a b = if is_earlier (rank b) (rank a) then b else a

  -- where there are some
  abbrev pub earlier : Option A → Option A → Option A
  earlier None o = o
  earlier (Some a) None = Some a
  earlier (Some a) (Some b) = Some (earlier_of a b)

  -- the first of a list
  abbrev pub earliest : List A → Option A
  earliest [] = None
  earliest (a ∷ rest) = earlier (Some a) (earliest rest)
