-- What the names of the language mean in the normal form of a legal program: what they mean before all declarations.
use Rattle.std.proofs.Common.{◌≡◌, ℕ, ◌<◌, [], ◌∷◌, Some, refl, sym, ap, ◌∙◌, true≢false, arith}
use Rattle.common_lemmas.proofs.Numbers.{unequal, lt_true}
use Rattle.ada_tree.specs.declared.naming.NameId.{NameId}
use Rattle.ada_tree.specs.PlainDecl.{PDecls, no_decl, decl_then}
use Rattle.ada_tree.specs.PlainProgram.{PProgram}
use Rattle.ada_tree.specs.Attributes.{false_name}
use Rattle.ada_static_rules.specs.Scope.{Scope, Thing, TypeMark, Literal, AnException, truth_kind, meaning}
use Rattle.ada_static_rules.specs.Declaring.{before_all, first_scope, after_decl}
use Rattle.ada_static_rules.specs.RuleDuplicate.{is_predefined}
use Rattle.normal_model.specs.NormalTree.{decls_front, first_decls}
use Rattle.task_laws.specs.legal.rewritten_types.Rewriting.{DeclareOnce, NamesOnce}
use Rattle.task_laws.proofs.legal.rewritten_types.Fresh.{first-here}
use Rattle.task_laws.proofs.legal.rewritten_types.Refused.{declared_once}
use Rattle.task_laws.proofs.legal.types.GoodScopes.{names-kept}
use Rattle.normal_laws.specs.runs.forms.Normalisable.{made_for}
use Rattle.normal_laws.specs.existence.Laws.{IsLegalOriginal}
use Rattle.normal_laws.proofs.legality.Legal.{normal_meets_types}
use Rattle.normal_laws.proofs.legality.scopes.Later.{decls-kept}
use Rattle.normal_laws.proofs.legality.scopes.Main.{first, tasked, made-means}

-- INTEGER, FALSE and TASKING_ERROR mean what they mean before all declarations
pub record KnowsLanguage (c : Scope) : Type 0 where
  pub integer : meaning c (record { 0 = 0 }) ≡ Some (TypeMark 0)
  pub falses : meaning c (record { 0 = false_name }) ≡ Some (Literal truth_kind)
  pub tasking : meaning c (record { 0 = 9 }) ≡ Some AnException

-- so it is where names mean the same
pub language-same : (c d : Scope) → ((id : NameId) → meaning d id ≡ meaning c id) → KnowsLanguage c → KnowsLanguage d
language-same c d e h = record { integer = e (record { 0 = 0 }) ∙ h.integer; falses = e (record { 0 = false_name }) ∙ h.falses; tasking = e (record { 0 = 9 }) ∙ h.tasking }

module _ (p : PProgram) (legal : IsLegalOriginal p) where
  -- each name of the normal form is declared once
  once : NamesOnce p.name (made_for p).decls
  once = declared_once (made_for p) (normal_meets_types p legal)

  once-front : (ds rest : PDecls) (s : Scope) → DeclareOnce s (decls_front ds rest) → DeclareOnce s ds
  once-front no_decl rest s h = tt
  once-front (decl_then d ds) rest s h = (h.0, once-front ds rest (after_decl s d) h.1)

  first-once : DeclareOnce (first_scope p.name) (first_decls [] p.decls)
  first-once = once-front (first_decls [] p.decls) _ (first_scope p.name) once.1

  -- what a predefined name means before the program it means before its declarations
  begins : (k : ℕ) (x : Thing) → k < 18 → meaning before_all (record { 0 = k }) ≡ Some x → meaning (first_scope p.name) (record { 0 = k }) ≡ Some x
  begins k x l e = names-kept _ (p.name ∷ []) before_all (record { 0 = k }) (unequal p.name.name.0 k (λ q. other q), tt) ∙ e
    where
      other : p.name.name.0 ≡ k → ⊥
      other q = true≢false (sym (lt_true k 18 l) ∙ ap is_predefined (sym q) ∙ once.0.0)

  -- and behind the first ones
  first-keeps : (k : ℕ) (x : Thing) → k < 18 → meaning before_all (record { 0 = k }) ≡ Some x → meaning (first p legal) (record { 0 = k }) ≡ Some x
  first-keeps k x l e = decls-kept (first_decls [] p.decls) (first_scope p.name) (first-here p.name) first-once (record { 0 = k }) x (begins k x l e)

  -- and behind all, so behind the tasks
  tasked-keeps : (k : ℕ) (x : Thing) → k < 18 → meaning before_all (record { 0 = k }) ≡ Some x → meaning (tasked p legal) (record { 0 = k }) ≡ Some x
  tasked-keeps k x l e =
      sym (made-means p legal (record { 0 = k })) ∙ decls-kept (made_for p).decls (first_scope p.name) (first-here p.name) once.1 (record { 0 = k }) x (begins k x l e)

  pub first-language : KnowsLanguage (first p legal)
  first-language = record { integer = first-keeps 0 (TypeMark 0) (omega arith) refl; falses = first-keeps 4 (Literal truth_kind) (omega arith) refl; tasking = first-keeps 9 AnException (omega arith) refl }

  pub tasked-language : KnowsLanguage (tasked p legal)
  tasked-language = record { integer = tasked-keeps 0 (TypeMark 0) (omega arith) refl; falses = tasked-keeps 4 (Literal truth_kind) (omega arith) refl; tasking = tasked-keeps 9 AnException (omega arith) refl }
