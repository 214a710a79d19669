-- The names of a collecting text of a program with abort statements are such as the source can hold.
use Rattle.std.proofs.Common.{ℕ, List, refl, arith}
use Rattle.ada_tree.specs.declared.naming.NameId.{NameId}
use Rattle.ada_tree.specs.Lexical.{IsIdentifier}
use Rattle.task_model.specs.Setting.{Setting}
use Rattle.normal_model.specs.Names.{id_of}
use Rattle.normal_laws.specs.structure.placed.Placeable.{IsName}
use Rattle.replay_structure.specs.placed.Placeable.{IsReplayPlaceable}
use Rattle.collect_model.specs.Names.{added_in}
use Rattle.normal_model.specs.NormalTree.{main_unit}
use Rattle.collect_structure.proofs.placed.Named.{AreAdded, name-stays, name-there, all-added}
use Rattle.collect_model.specs.aborts.Names.{acceptors_text, each_text, taken_text, refused_text}
use Rattle.collect_model.specs.aborts.AbortTeller.{AbortTeller, names_told, told_in}
use Rattle.collect_structure.proofs.aborts.texts.Named.{abort-begins}
use Rattle.collect_structure.proofs.aborts.placed.Texts.{taken-identifier, refused-identifier}

-- What is known of the names of the text beside those of a text without abort statements.
pub record ArePlaces (names : List (List ℕ)) (x : AbortTeller) : Type 0 where
  pub acceptors : IsName names x.acceptors
  pub each : IsName names x.each
  pub taken : (p : ℕ) → IsName names (x.taken p)
  pub refused : (p : ℕ) → IsName names (x.refused p)

module _ (g : Setting) (h : IsReplayPlaceable g) where
  abbrev pub names' : List (List ℕ)
  names' = names_told g.program

  -- the names of the normal form stay
  pub old : (id : NameId) → IsName g.program.names id → IsName names' id
  old = name-stays g h names' (abort-begins g.program)

  pub are-added : AreAdded g names' (added_in names')
  are-added = all-added g h names' (abort-begins g.program)

  there : (t : List ℕ) → IsIdentifier t → IsName names' (id_of names' t)
  there = name-there g h names' (abort-begins g.program)

  pub are-places : ArePlaces names' (told_in (main_unit g))
  are-places = record {
    acceptors = there acceptors_text (refl, omega arith, refl);
    each = there each_text (refl, omega arith, refl);
    taken = λ p. there (taken_text p) (taken-identifier p);
    refused = λ p. there (refused_text p) (refused-identifier p);
  }
