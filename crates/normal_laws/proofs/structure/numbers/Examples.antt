-- A program with an array of tasks meets what is asked; and why no array of tasks may be named DED.
use Rattle.std.specs.Prelude.{◌≡◌, ℕ, true, false, map, [], ◌∷◌, ◌++◌, codes, None, refl}
use Rattle.std.specs.Fmt.{digits}
use Rattle.ada_tree.specs.declared.naming.Span.{Span}
use Rattle.ada_tree.specs.declared.naming.Word.{Word}
use Rattle.ada_tree.specs.NameList.{predefined}
use Rattle.ada_tree.specs.PlainExpr.{EInteger, RGiven}
use Rattle.ada_tree.specs.PlainStmt.{SNull, no_stmt, stmt_then, PBody, body, no_handler}
use Rattle.ada_tree.specs.PlainDecl.{PEntry, OArray, DObject, DTask, DTaskBody, no_decl, decl_then}
use Rattle.ada_tree.specs.PlainProgram.{PProgram}
use Rattle.ada_static_rules.specs.Refusals.{types_in}
use Rattle.syn_event.specs.declared.numbering.TaskInfo.{TaskInfo}
use Rattle.syn_event.specs.declared.numbering.EntryInfo.{EntryInfo}
use Rattle.syn_event.specs.Numbering.{Numbering}
use Rattle.syn_event.specs.AllNumbers.{all_numbers}
use Rattle.normal_model.specs.NormalTree.{normal_tree}
use Rattle.normal_laws.proofs.structure.types.Examples.{original, ordered, own}
use Rattle.normal_laws.specs.structure.units.Laws.{numbers_made}
use Rattle.normal_laws.specs.structure.numbers.Laws.{NoneIsDed, IsMet}
use Rattle.normal_laws.proofs.structure.numbers.Numbered.{normal_has_numbers}

pub none_is_ded : NoneIsDed original
none_is_ded = ((λ e same. cc), tt)

pub is_met : IsMet
is_met = (original, ordered, own, none_is_ded, refl)

-- the numbers of a normal form as any program has them, and as its definition tells them
abbrev counted : PProgram → Numbering
counted p = all_numbers (types_in (normal_tree p (types_in p) (all_numbers (types_in p) p))) (normal_tree p (types_in p) (all_numbers (types_in p) p))

abbrev told : PProgram → Numbering
told p = numbers_made p (types_in p) (all_numbers (types_in p) p)

same : counted original ≡ told original
same = normal_has_numbers original ordered own none_is_ded

-- each member owns an entry
owners : map (λ (x : EntryInfo). x.owner) (counted original).entries ≡ 1 ∷ 2 ∷ []
unfolding digits
owners = refl

-- ---- an array of tasks named DED

abbrev o : Span
o = record { start = 0; end = 0 }

abbrev w : ℕ → Word
w id = record { name = record { 0 = id }; span = o }

abbrev nothing : PBody
nothing = body (stmt_then (SNull o) no_stmt) no_handler

abbrev entry : PEntry
entry = record { name = w 28; family = None; formals = []; span = o }

-- `task type W is entry E; end W; DED : array (1 .. 1) of W;` and the body
abbrev odd : PProgram
odd = record {
  names = predefined ++ codes "P" ∷ codes "W" ∷ codes "DED" ∷ codes "E" ∷ [];
  text_io = false;
  name = w 25;
  decls =
      decl_then (DTask record { name = w 26; of_kind = true; entries = entry ∷ []; priorities = [] } o)
      (decl_then (DObject (w 27 ∷ []) false (OArray (RGiven record { first = EInteger 1 o; last = EInteger 1 o }) record { mark = w 26; bounds = None }) None o)
      (decl_then (DTaskBody (w 26) no_decl nothing o) no_decl));
  body = nothing;
}

-- the member is no added task of the program, and its name in the normal form is DED_DED_1, which counts as added
before : map (λ (x : TaskInfo). x.added) (all_numbers (types_in odd) odd).tasks ≡ false ∷ false ∷ []
before = refl

after : map (λ (x : TaskInfo). x.added) (counted odd).tasks ≡ false ∷ true ∷ []
unfolding digits
after = refl

-- so its entry would count as added too, which by the definition it is not
entries-told : map (λ (x : EntryInfo). x.added) (told odd).entries ≡ false ∷ []
entries-told = refl

entries-counted : map (λ (x : EntryInfo). x.added) (counted odd).entries ≡ true ∷ []
unfolding digits
entries-counted = refl
