-- Strings: how far one goes, whether it is closed, and its content. A quotation mark in a string is written twice (2.6).
use Rattle.std.specs.Prelude.{ℕ, Bool, true, ◌+◌, ◌&&◌, not, List, [], ◌∷◌, ◌==◌, if◌then◌else◌}

-- inside, every byte but the end of the line goes on; behind a mark, only a second mark does
abbrev pub string_goes_on : Bool → ℕ → Bool
string_goes_on inside b = if inside then not (b == 10) else b == 34

-- a mark leaves the inside, and a second mark behind it enters it again
abbrev pub inside_after : Bool → ℕ → Bool
inside_after inside b = if inside then not (b == 34) else true

-- the bytes are those of a string behind its opening mark, with its closing mark or without one
abbrev pub is_string_run : Bool → List ℕ → Bool
is_string_run inside [] = true
is_string_run inside (b ∷ rest) = string_goes_on inside b && is_string_run (inside_after inside b) rest

-- the bytes end inside the string, with no closing mark
abbrev pub ends_inside : Bool → List ℕ → Bool
ends_inside inside [] = inside
ends_inside inside (b ∷ rest) = ends_inside (inside_after inside b) rest

-- what the string says: two marks stand for one, and the closing mark is no part of it
abbrev pub content : Bool → List ℕ → List ℕ
content inside [] = []
content inside (b ∷ rest) =
    if inside && b == 34 then content (inside_after inside b) rest else b ∷ content (inside_after inside b) rest

-- how many bytes from the front on are those of a string: what the code counts, and by proof the longest such front
abbrev pub string_len : Bool → List ℕ → ℕ
string_len inside [] = 0
string_len inside (b ∷ rest) = if string_goes_on inside b then 1 + string_len (inside_after inside b) rest else 0
