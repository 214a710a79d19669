-- What statements and entries declare and name is none of the names that are declared for all of main, and has names of the program alone.
use Rattle.std.proofs.Common.{◌≡◌, ℕ, false, List, [], ◌∷◌, ◌++◌, refl, ap₂}
use Rattle.std.specs.List.{AllByRecursion}
use Rattle.ada_tree.specs.declared.naming.Word.{Word}
use Rattle.ada_tree.specs.PlainStmt.{PBody}
use Rattle.ada_tree.specs.PlainDecl.{PEntry}
use Rattle.ada_tree.specs.Every.{Rules, EveryWord, EveryBody, EveryEntry}
use Rattle.ada_decl_rules.specs.declared.duplicates.namings_in_order.Naming.{Naming}
use Rattle.ada_decl_rules.specs.duplicates.NamingsInOrder.{declared}
use Rattle.normal_laws.specs.structure.once.Apart.{fixed_name, loose_name, fixed_names}
use Rattle.normal_laws.specs.structure.once.Names.{body_names, entries_names}
use Rattle.normal_laws.proofs.structure.once.Holding.{HoldsNamed, declared-hold, body-hold, entries-hold}
use Rattle.normal_laws.proofs.legality.declares_once.Ids.{IsGoodId}
use Rattle.normal_laws.proofs.legality.declares_once.Good.{good_names}

module _ (names : List (List ℕ)) where
  abbrev r : Rules
  r = good_names names

  -- a naming by which no name is fixed, of a good name
  abbrev pub IsInner : Naming → Type 0
  IsInner n = (fixed_name n ≡ []) × AllByRecursion (IsGoodId names) (loose_name n)

  pub inner-fixed : (ns : List Naming) → AllByRecursion IsInner ns → fixed_names ns ≡ []
  inner-fixed [] h = refl
  inner-fixed (n ∷ ns) h = ap₂ (λ (a b : List ℕ). a ++ b) h.0.0 (inner-fixed ns h.1)

  holds : HoldsNamed r IsInner
  holds = record { declares = λ again w h. (refl, (h, tt)); labels = λ w h. (refl, (h, tt)); once = λ again w h. (refl, tt) }

  pub declared-inner : (here : List ℕ) (ws : List Word) → AllByRecursion (EveryWord r) ws → AllByRecursion IsInner (declared false here ws)
  declared-inner here ws h = declared-hold r IsInner holds here ws h

  pub body-inner : (k : ℕ) (b : PBody) → EveryBody r k b → AllByRecursion IsInner (body_names b)
  body-inner k b h = body-hold r IsInner holds k b h

  pub entries-inner : (here : List ℕ) (es : List PEntry) → AllByRecursion (EveryEntry r) es → AllByRecursion IsInner (entries_names here es)
  entries-inner here es h = entries-hold r IsInner holds here es h
