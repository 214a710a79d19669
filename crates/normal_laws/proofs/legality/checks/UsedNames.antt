-- What names mean behind declarations of main, for the rules 13 to 23, and which names are used there.
use Rattle.std.proofs.Common.{◌≡◌, ℕ, Bool, true, false, ◌||◌, ◌==◌, List, [], ◌∷◌, Option, Some, None, refl, sym, ap, subst, ◌∙◌}
use Rattle.std.specs.List.{AllByRecursion}
use Rattle.std.proofs.lemmas.Bool.{or_left, or_right, or_from}
use Rattle.ada_tree.specs.declared.naming.NameId.{NameId}
use Rattle.ada_tree.specs.declared.naming.Word.{Word}
use Rattle.ada_tree.specs.PlainDecl.{PDecl}
use Rattle.ada_static_rules.specs.Scope.{Scope}
use Rattle.ada_static_rules.specs.Sites.{with_words}
use Rattle.ada_static_rules.specs.Declaring.{after_decl}
use Rattle.ada_static_rules.specs.RuleDuplicate.{is_predefined, is_among}
use Rattle.syn_event.specs.declared.meanings.Meant.{Meant}
use Rattle.syn_event.specs.declared.meanings.Meant.TheVariants.{MainProcedure, TaskType, TaskOf, Shared, Inner}
use Rattle.syn_event.specs.CheckScope.{CheckScope, meaning}
use Rattle.syn_event.specs.CheckSites.{with_meant, with_declared_object, with_object}
use Rattle.task_laws.specs.legal.rewritten_types.Rewriting.{names_declared, IsUsed, IsUnused}
use Rattle.task_laws.proofs.legal.rewritten_types.Fresh.{other}
use Rattle.normal_laws.proofs.structure.once.FirstDecls.{here-after}
use Rattle.normal_laws.proofs.existence.seen_tasks.Scopes.{is_one_of, meant-out, meant-in}
use Rattle.common_lemmas.proofs.Numbers.{equal_is}
use Rattle.common_lemmas.proofs.Options.{some_same}
use Rattle.normal_laws.proofs.structure.once.TaskNames.{among-words}

-- ---- words

-- what holds of each of some words holds of a name that is one of them
pub one-of-all : (P : NameId → Type 0) (ws : List Word) (id : NameId) → is_one_of ws id ≡ true → AllByRecursion (λ (w : Word). P w.name) ws → P id
one-of-all P [] id e h = cc
one-of-all P (w ∷ ws) id e h = by_test (w.name.0 == id.0) refl e (λ f. one-of-all P ws id f h.1)
  where
    by_test : (b : Bool) → (w.name.0 == id.0) ≡ b → (b || is_one_of ws id) ≡ true → (is_one_of ws id ≡ true → P id) → P id
    by_test true f g rest = subst (λ k. P (record { 0 = k })) (equal_is w.name.0 id.0 f) h.0
    by_test false f g rest = rest g

-- a used name is none of those that are unused
pub unused-out : (s : Scope) (ws : List Word) (id : NameId) → IsUsed s id → AllByRecursion (IsUnused s) ws → is_one_of ws id ≡ false
unused-out s [] id h u = refl
unused-out s (w ∷ ws) id h u = or_from (w.name.0 == id.0) (is_one_of ws id) (other s.here w.name.0 id.0 u.0.0 u.0.1 h) (unused-out s ws id h u.1)

-- ---- used names

words-among : (here : List ℕ) (ws : List Word) (id : NameId) → is_one_of ws id ≡ true → is_among (with_words here ws) id.0 ≡ true
words-among here [] id e = cc
words-among here (w ∷ ws) id e = by_test (w.name.0 == id.0) refl e (words-among (w.name.0 ∷ here) ws id)
  where
    by_test : (b : Bool) → (w.name.0 == id.0) ≡ b → (b || is_one_of ws id) ≡ true → (is_one_of ws id ≡ true → is_among (with_words (w.name.0 ∷ here) ws) id.0 ≡ true) → is_among (with_words (w.name.0 ∷ here) ws) id.0 ≡ true
    by_test true f g rest = among-words (w.name.0 ∷ here) ws id.0 (or_left (w.name.0 == id.0) (is_among here id.0) f)
    by_test false f g rest = rest g

pub declared-used : (d : PDecl) (s : Scope) (id : NameId) → is_one_of (names_declared d) id ≡ true → IsUsed (after_decl s d) id
declared-used d s id e = ap (λ l. is_predefined id.0 || is_among l id.0) (here-after s d) ∙ or_right (is_predefined id.0) (is_among (with_words s.here (names_declared d)) id.0) (words-among s.here (names_declared d) id e)

-- ---- what names mean

-- names of another meaning do not get this one
pub meant-kept : (m k : Meant) (ws : List Word) (c : CheckScope) (id : NameId) → (m ≡ k → ⊥) → meaning (with_meant m c ws) id ≡ Some k → meaning c id ≡ Some k
meant-kept m k ws c id apart e = by_test (is_one_of ws id) refl
  where
    by_test : (b : Bool) → is_one_of ws id ≡ b → meaning c id ≡ Some k
    by_test true f = absurd (apart (some_same (sym (meant-in m ws c id f) ∙ e)))
    by_test false f = sym (meant-out m ws c id f) ∙ e

shared-type : Shared ≡ TaskType → ⊥
shared-type e = cc

task-type : (x : NameId) → TaskOf x ≡ TaskType → ⊥
task-type x e = cc

value-out : (b : Bool) (ws : List Word) (c : CheckScope) (id : NameId) → is_one_of ws id ≡ false → meaning (with_declared_object b c ws) id ≡ meaning c id
value-out true ws c id e = meant-out Shared ws c id e
value-out false ws c id e = refl

value-type : (b : Bool) (ws : List Word) (c : CheckScope) (id : NameId) → meaning (with_declared_object b c ws) id ≡ Some TaskType → meaning c id ≡ Some TaskType
value-type true ws c id e = meant-kept Shared TaskType ws c id shared-type e
value-type false ws c id e = e

-- an object leaves the meanings of other names, and is no task type
pub object-out : (o : Option Meant) (mark : Word) (b : Bool) (ws : List Word) (c : CheckScope) (id : NameId) → is_one_of ws id ≡ false → meaning (with_object c o mark b ws) id ≡ meaning c id
object-out (Some TaskType) mark b ws c id e = meant-out (TaskOf mark.name) ws c id e
object-out (Some MainProcedure) mark b ws c id e = value-out b ws c id e
object-out (Some (TaskOf x)) mark b ws c id e = value-out b ws c id e
object-out (Some Shared) mark b ws c id e = value-out b ws c id e
object-out (Some Inner) mark b ws c id e = value-out b ws c id e
object-out None mark b ws c id e = value-out b ws c id e

pub object-type : (o : Option Meant) (mark : Word) (b : Bool) (ws : List Word) (c : CheckScope) (id : NameId) → meaning (with_object c o mark b ws) id ≡ Some TaskType → meaning c id ≡ Some TaskType
object-type (Some TaskType) mark b ws c id e = meant-kept (TaskOf mark.name) TaskType ws c id (task-type mark.name) e
object-type (Some MainProcedure) mark b ws c id e = value-type b ws c id e
object-type (Some (TaskOf x)) mark b ws c id e = value-type b ws c id e
object-type (Some Shared) mark b ws c id e = value-type b ws c id e
object-type (Some Inner) mark b ws c id e = value-type b ws c id e
object-type None mark b ws c id e = value-type b ws c id e

-- an object of another mark is a shared variable, or none
pub object-value : (o : Option Meant) (mark : Word) (b : Bool) (ws : List Word) (c : CheckScope) → (o ≡ Some TaskType → ⊥) → with_object c o mark b ws ≡ with_declared_object b c ws
object-value (Some TaskType) mark b ws c never = absurd (never refl)
object-value (Some MainProcedure) mark b ws c never = refl
object-value (Some (TaskOf x)) mark b ws c never = refl
object-value (Some Shared) mark b ws c never = refl
object-value (Some Inner) mark b ws c never = refl
object-value None mark b ws c never = refl
