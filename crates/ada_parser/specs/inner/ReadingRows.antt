-- How a row of parts is read in which some parts change what may follow (this project's rule).
use Rattle.std.specs.Prelude.{ℕ, zero, suc, Bool, ◌||◌, List, [], ◌∷◌, length}
use Rattle.ada_expr_parser.specs.readers.Readers.{Reader, pure, refuse, bind, look}

-- Parts, as long as the next token begins one; which tokens do goes by whether a part that turns the row stands before. The number is no less than that of the parts.
abbrev pub row_in : {K A : Type 0} → (Bool → K → Bool) → (A → Bool) → Reader K A → ℕ → Bool → Reader K (List A)
row_in begins turns part zero behind = look (begins behind) refuse (pure [])
row_in begins turns part (suc n) behind =
    look (begins behind) (bind part (λ a. bind (row_in begins turns part n (behind || turns a)) (λ more. pure (a ∷ more)))) (pure [])

abbrev pub row : {K A : Type 0} → (Bool → K → Bool) → (A → Bool) → Reader K A → Bool → Reader K (List A)
row begins turns part behind ts = row_in begins turns part (length ts) behind ts
