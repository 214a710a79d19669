-- What is asked of the names of a program so that rule Duplicate refuses nothing: something of each naming alone, and that no name that is declared
-- for all of main is declared or given to a loop elsewhere (8.3; this project's rule).
use Rattle.std.specs.Prelude.{◌≡◌, ℕ, Bool, true, false, ◌||◌, ◌&&◌, List, [], ◌∷◌, ◌++◌, flat_map}
use Rattle.std.specs.List.{AllByRecursion}
use Rattle.ada_static_rules.specs.RuleDuplicate.{is_predefined, is_among}
use Rattle.ada_decl_rules.specs.declared.duplicates.namings_in_order.Naming.{Naming}
use Rattle.ada_decl_rules.specs.declared.duplicates.namings_in_order.Naming.TheVariants.{Declares, Labels, Once}

-- ---- names

-- the name is none of these
abbrev pub IsFreeOf : List ℕ → ℕ → Type 0
IsFreeOf names y = is_among names y ≡ false

-- none of the one names is one of the others
abbrev pub AreApart : List ℕ → List ℕ → Type 0
AreApart xs ys = AllByRecursion (IsFreeOf xs) ys

-- no two of the names are one
abbrev pub AreDistinct : List ℕ → Type 0
AreDistinct [] = Unit {0}
AreDistinct (x ∷ xs) = IsFreeOf xs x × AreDistinct xs

-- ---- namings

-- a naming is refused behind names that are declared for all of main, and names that are declared or given to loops
abbrev pub is_repeated : List ℕ → List ℕ → Naming → Bool
is_repeated fixed introduced (Declares for_all again w) = is_predefined w.name.0 || again || is_among fixed w.name.0 || (for_all && is_among introduced w.name.0)
is_repeated fixed introduced (Labels w) = is_predefined w.name.0 || is_among fixed w.name.0
is_repeated fixed introduced (Once again w) = again

-- nothing is refused at a naming that stands alone
abbrev pub IsAlone : Naming → Type 0
IsAlone n = is_repeated [] [] n ≡ false

-- the name that is declared for all of main
abbrev pub fixed_name : Naming → List ℕ
fixed_name (Declares true again w) = w.name.0 ∷ []
fixed_name _ = []

-- the name that is declared as a variable of main or in an inner scope, or given to a loop
abbrev pub loose_name : Naming → List ℕ
loose_name (Declares false again w) = w.name.0 ∷ []
loose_name (Labels w) = w.name.0 ∷ []
loose_name _ = []

-- the names that are declared for all of main, the others, and both
abbrev pub fixed_names : List Naming → List ℕ
fixed_names ns = flat_map fixed_name ns

abbrev pub loose_names : List Naming → List ℕ
loose_names ns = flat_map loose_name ns

abbrev pub introduced_names : List Naming → List ℕ
introduced_names ns = flat_map (λ n. fixed_name n ++ loose_name n) ns

-- the naming is fine alone, and what it introduces for less than all of main is none of these names
abbrev pub IsFitIn : List ℕ → Naming → Type 0
IsFitIn fixed n = IsAlone n × AreApart fixed (loose_name n)

-- No naming is refused behind those names.
abbrev pub NoneRepeated : List ℕ → List ℕ → List Naming → Type 0
NoneRepeated fixed introduced [] = Unit {0}
NoneRepeated fixed introduced (n ∷ rest) = (is_repeated fixed introduced n ≡ false) × NoneRepeated (fixed_name n ++ fixed) ((fixed_name n ++ loose_name n) ++ introduced) rest

-- Each naming is fine alone, no two fixed names are one, and no other name is a fixed one.
pub record AreFit (ns : List Naming) : Type 0 where
  pub alone : AllByRecursion IsAlone ns
  pub distinct : AreDistinct (fixed_names ns)
  pub apart : AreApart (fixed_names ns) (loose_names ns)
