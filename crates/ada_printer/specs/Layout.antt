-- What the parts of a printed text have in common (this project's layout): indentation, names, lists with a mark between their members, durations and strings.
use Rattle.std.specs.Prelude.{ℕ, ◌+◌, ◌/◌, ◌%◌, ◌==◌, zero, suc, min, List, [], ◌∷◌, Option, Some, None, codes, decimal, slice_get, unwrap_or, if◌then◌else◌}
use Rattle.ada_tree.specs.declared.naming.NameId.{NameId}
use Rattle.ada_tree.specs.declared.naming.Word.{Word}
use Rattle.ded_io.specs.Written.{◌⧺◌, each_text}

-- the level of what stands inside; levels are counted up to the greatest number of 32 bits and stand still there, which no nesting that is read comes near
abbrev pub deeper : ℕ → ℕ
deeper level = min (level + 1) 4294967295

-- the indentation of a line: three blanks for each level
abbrev pub indent : ℕ → List ℕ
indent zero = []
indent (suc level) = codes "   " ⧺ indent level

-- the texts of a list's members, with a mark between each two
abbrev pub separated : {X : Type 0} → List ℕ → (X → List ℕ) → List X → List ℕ
separated mark text [] = []
separated mark text (x ∷ xs) = text x ⧺ each_text (λ y. mark ⧺ text y) xs

-- a decimal digit
abbrev pub digit : ℕ → ℕ
digit n = 48 + n

-- the decimals of a duration without closing zeros, one at least
abbrev pub decimals : ℕ → ℕ → ℕ → List ℕ
decimals tenths hundredths thousandths =
    if thousandths == 0
    then (if hundredths == 0 then digit tenths ∷ [] else digit tenths ∷ digit hundredths ∷ [])
    else digit tenths ∷ digit hundredths ∷ digit thousandths ∷ []

-- a duration in thousandths of a second: its seconds, a point, and its decimals
abbrev pub duration_text : ℕ → List ℕ
duration_text d = decimal (d / 1000) ⧺ (codes "." ⧺ decimals (d / 100 % 10) (d / 10 % 10) (d % 10))

-- a character in a string literal: a quote is doubled
abbrev pub character_text : ℕ → List ℕ
character_text b = if b == 34 then 34 ∷ 34 ∷ [] else b ∷ []

-- a string literal with this content
abbrev pub string_text : List ℕ → List ℕ
string_text content = codes "\"" ⧺ (each_text character_text content ⧺ codes "\"")

module _ (names : List (List ℕ)) where
  -- a name, in upper case as the names keep it
  abbrev pub name_text : NameId → List ℕ
  name_text id = unwrap_or (slice_get names id.0) []

  -- a name where it stands: the text of the name alone
  abbrev pub word_text : Word → List ℕ
  word_text w = name_text w.name

  -- `A, B, C`
  abbrev pub words_text : List Word → List ℕ
  words_text ws = separated (codes ", ") word_text ws

  -- a name that may be left out, with the blank before it
  abbrev pub later_word : Option Word → List ℕ
  later_word None = []
  later_word (Some w) = codes " " ⧺ word_text w
