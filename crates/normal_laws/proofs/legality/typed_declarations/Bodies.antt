-- The objects and the variables of a copied body meet the static rules 1 and 3 to 12, in scopes that are alike.
use Rattle.std.proofs.Common.{◌≡◌, ℕ, Bool, false, List, [], ◌∷◌, None}
use Rattle.std.specs.List.{AllByRecursion}
use Rattle.common_lemmas.proofs.Lists.{all_joined, all_front, all_back}
use Rattle.ada_tree.specs.PlainStmt.{PBody}
use Rattle.ada_tree.specs.PlainDecl.{OPlain, PDecl, PDecls, no_decl, decl_then, decls_of}
use Rattle.ada_tree.specs.Every.{EveryDecls}
use Rattle.ada_static_rules.specs.Scope.{Scope}
use Rattle.ada_static_rules.specs.Sites.{own_object_sites, own_sites}
use Rattle.ada_static_rules.specs.Declaring.{after_own_object, after_objects}
use Rattle.task_model.specs.Setting.{Setting}
use Rattle.normal_model.specs.Names.{variable_name}
use Rattle.normal_model.specs.Ranges.{word_at}
use Rattle.normal_model.specs.NormalStmts.{unit_variables}
use Rattle.normal_model.specs.NormalTree.{decls_front}
use Rattle.task_laws.proofs.legal.types.StaticParts.{HasSubtype}
use Rattle.task_laws.specs.legal.sites.Met.{IsMet}
use Rattle.normal_laws.specs.structure.checked.Around.{own_rules}
use Rattle.task_laws.specs.legal.alike_scopes.Alike.{Alike}
use Rattle.task_laws.specs.legal.alike_scopes.Old.{IsOldSubind}
use Rattle.task_laws.specs.legal.alike_scopes.Laws.{IsMetBut}
use Rattle.task_laws.proofs.legal.alike_scopes.Mains.{object-right}
use Rattle.normal_laws.proofs.structure.typed.Variables.{AllMetBut}
use Rattle.normal_laws.proofs.structure.typed.Stays.{met-but}
use Rattle.normal_laws.proofs.structure.typed.Declared.{own-stays}
use Rattle.normal_laws.proofs.structure.typed.StaticMet.{NoneIsOut}
use Rattle.normal_laws.proofs.legality.typed_declarations.Subtypes.{AreSubtypes, all-variables}
use Rattle.normal_laws.proofs.legality.typed_declarations.Variables.{variable-met}

-- objects, and others behind them
pub own-front : (a b : PDecls) (d : Scope) → AllMetBut (own_sites d a) → AllMetBut (own_sites (after_objects d a) b) → AllMetBut (own_sites d (decls_front a b))
own-front no_decl b d h k = k
own-front (decl_then x rest) b d h k =
    all_joined IsMetBut (own_object_sites d x) (own_sites (after_own_object d x) (decls_front rest b)) (all_front IsMetBut (own_object_sites d x) (own_sites (after_own_object d x) rest) h)
    (own-front rest b (after_own_object d x) (all_back IsMetBut (own_object_sites d x) (own_sites (after_own_object d x) rest) h) k)

module _ (g : Setting) (own : ℕ → Bool) (c : Scope) (free : NoneIsOut c) (new : (k : ℕ) → own (variable_name g k).0 ≡ false) (good : AreSubtypes g (λ x. HasSubtype c x × IsOldSubind own x)) where
  -- a variable meets the rules, and leaves a scope that is alike
  abbrev IsVariableMet : PDecl → Type 0
  IsVariableMet x = (t : Scope) → Alike own c t → AllMetBut (own_object_sites t x) × Alike own c (after_own_object t x)

  list-met : (xs : List PDecl) → AllByRecursion IsVariableMet xs → (t : Scope) → Alike own c t → AllMetBut (own_sites t (decls_of xs))
  list-met [] h t a = tt
  list-met (x ∷ xs) h t a = let y = h.0 t a in all_joined IsMetBut (own_object_sites t x) (own_sites (after_own_object t x) (decls_of xs)) y.0 (list-met xs h.1 (after_own_object t x) y.1)

  -- The variables of a unit meet the rules in each scope that is alike one in which their subtypes are static.
  pub own-variables-met : (task : ℕ) (b : PBody) (t : Scope) → Alike own c t → AllMetBut (own_sites t (decls_of (unit_variables (record { setting = g; task = task }) b)))
  own-variables-met task b t a =
      list-met (unit_variables (record { setting = g; task = task }) b)
      (all-variables g (λ x. HasSubtype c x × IsOldSubind own x) good IsVariableMet
      (λ s x k h t a. (variable-met own c t a free (word_at s (variable_name g k)) x h.0 h.1, object-right own (word_at s (variable_name g k) ∷ []) false (OPlain x) None s c t a (new k, tt))) task b) t a

-- The objects of a body, which are those of the program's, and the variables behind them.
pub copy-met : (g : Setting) (own : ℕ → Bool) (c d : Scope) → Alike own c d → c.in_main ≡ false → (objects : PDecls) → EveryDecls (own_rules own) objects → AllByRecursion IsMet (own_sites c objects) →
    Alike own (after_objects c objects) (after_objects d objects) → NoneIsOut (after_objects c objects) → ((k : ℕ) → own (variable_name g k).0 ≡ false) →
    AreSubtypes g (λ x. HasSubtype (after_objects c objects) x × IsOldSubind own x) → (task : ℕ) (b : PBody) → AllMetBut (own_sites d (decls_front objects (decls_of (unit_variables (record { setting = g; task = task }) b))))
copy-met g own c d a main objects olds met behind free new good task b =
    own-front objects (decls_of (unit_variables (record { setting = g; task = task }) b)) d (own-stays IsMet met-but own objects c d a main olds met)
    (own-variables-met g own (after_objects c objects) free new good task b (after_objects d objects) behind)
