-- What obeys a rule on names in statements and entries obeys it where they declare and name.
use Rattle.std.proofs.Common.{ℕ, Bool, List, [], ◌∷◌}
use Rattle.std.specs.List.{AllByRecursion}
use Rattle.ada_tree.specs.declared.naming.Word.{Word}
use Rattle.ada_tree.specs.PlainStmt.{PBody}
use Rattle.ada_tree.specs.PlainDecl.{PEntry}
use Rattle.ada_tree.specs.Every.{Rules, EveryWord, EveryBody, EveryEntry}
use Rattle.ada_decl_rules.specs.declared.duplicates.namings_in_order.Naming.{Naming}
use Rattle.ada_decl_rules.specs.duplicates.NamingsInOrder.{declared}
use Rattle.normal_laws.specs.structure.once.Names.{body_names, entries_names}
use Rattle.normal_laws.proofs.structure.once.Holding.{HoldsNamed, body-hold, entries-hold}
use Rattle.replay_structure.specs.declares_once.Names.{word_named}

-- names that obey something, where they are declared or named
pub declared-all : (P : Word → Type 0) (f : Bool) (here : List ℕ) (ws : List Word) → AllByRecursion P ws → AllByRecursion (λ (n : Naming). P (word_named n)) (declared f here ws)
declared-all P f here [] h = tt
declared-all P f here (w ∷ ws) h = (h.0, declared-all P f (w.name.0 ∷ here) ws h.1)

module _ (r : Rules) where
  -- what is named obeys the rule
  abbrev pub Obeys : Naming → Type 0
  Obeys n = EveryWord r (word_named n)

  holds : HoldsNamed r Obeys
  holds = record { declares = λ again w h. h; labels = λ w h. h; once = λ again w h. h }

  pub body-obeys : (k : ℕ) (b : PBody) → EveryBody r k b → AllByRecursion Obeys (body_names b)
  body-obeys k b h = body-hold r Obeys holds k b h

  pub entries-obey : (here : List ℕ) (es : List PEntry) → AllByRecursion (EveryEntry r) es → AllByRecursion Obeys (entries_names here es)
  entries-obey here es h = entries-hold r Obeys holds here es h
