-- The table of types of a normal form and that of its collecting text with abort statements say the same of names that stay.
use Rattle.std.proofs.Common.{◌≡◌, ℕ, Bool, true, false, ◌&&◌, not, List, [], ◌∷◌, refl, sym, ap, subst}
use Rattle.std.proofs.Common.{◌∙◌, arith}
use Rattle.std.specs.List.{AllByRecursion}
use Rattle.common_lemmas.proofs.Lists.{all_joined}
use Rattle.common_lemmas.proofs.Truth.{and_left}
use Rattle.ada_tree.specs.declared.naming.NameId.{NameId}
use Rattle.ada_tree.specs.TypeTable.{TypeTable}
use Rattle.ada_tree.specs.PlainDecl.{PDecl, DNumber, DObject, DEnumeration, DArray, DSubtype, DException, DIntIo}
use Rattle.ada_tree.specs.PlainDecl.{DPragma, DTask, DTaskBody, decls_of}
use Rattle.ada_tree.specs.PlainProgram.{PProgram}
use Rattle.ada_static_rules.specs.Scope.{Scope}
use Rattle.ada_static_rules.specs.Refusals.{types_in}
use Rattle.ada_static_rules.specs.Declaring.{after_decl, after_decls}
use Rattle.ada_static_rules.specs.Declaring.{first_scope}
use Rattle.syn_event.specs.DeclaredTasks.{text_of}
use Rattle.syn_event.specs.Numbering.{Numbering}
use Rattle.task_laws.specs.legal.rewritten_types.Agreement.{Keeps}
use Rattle.task_laws.specs.legal.rewritten_types.Rewriting.{IsAdded}
use Rattle.task_laws.specs.legal.rewritten_types.Laws.{behind}
use Rattle.task_laws.proofs.legal.rewritten_types.Keeping.{keeps-self, keeps-on}
use Rattle.task_laws.proofs.legal.rewritten_types.Adding.{keeps-decl}
use Rattle.normal_model.specs.NormalTree.{first_decls, main_unit, normal_tree}
use Rattle.normal_model.proofs.WalkLemmas.{listed-front}
use Rattle.normal_laws.specs.structure.types.Laws.{setting_of, IsOrdered, AreOwn}
use Rattle.normal_laws.proofs.structure.types.Normal.{front-after}
use Rattle.normal_laws.proofs.structure.types.Variables.{unit-all}
use Rattle.normal_laws.proofs.structure.numbers.Listed.{vars}
use Rattle.collect_model.specs.Names.{flags_text}
use Rattle.collect_model.specs.CollectTree.{main_declared}
use Rattle.collect_structure.specs.Names as collect
use Rattle.collect_structure.specs.Names.{added_id}
use Rattle.collect_structure.proofs.texts.Listed.{all-main}
use Rattle.collect_structure.proofs.legal.Values as plain
use Rattle.collect_model.specs.aborts.Places.{places_in}
use Rattle.collect_model.specs.aborts.AbortTeller.{AbortTeller}
use Rattle.collect_model.specs.aborts.AbortTree.{abort_decl, recorder_body_told, places_declared, abort_tree}
use Rattle.collect_structure.specs.aborts.Names.{is_further, kept_name}
use Rattle.collect_structure.proofs.aborts.texts.Listed.{all-places, abort-tells}
use Rattle.collect_structure.proofs.aborts.texts.Rooted.{told, more, added_of, abort-list}
use Rattle.collect_structure.proofs.aborts.typed.Names.{same-added}
use Rattle.collect_structure.proofs.legal.Values.{keeps-variable, flags-new}
use Rattle.collect_structure.proofs.texts.Rooted.{all-told-behind}

-- ---- declarations that keep the table of types

module _ (old : ℕ → Bool) where
  -- a variable, or what gives no old name a meaning
  abbrev IsQuiet : PDecl → Type 0
  IsQuiet (DObject names false shape init s) = Unit {0}
  IsQuiet d = IsAdded old d

  keeps-quiet : (d : PDecl) (s : Scope) → IsQuiet d → Keeps old s.types (after_decl s d).types
  keeps-quiet (DObject names false shape init p) s h = keeps-variable old s names shape init
  keeps-quiet (DObject names true shape init p) s h = keeps-decl (DObject names true shape init p) s h
  keeps-quiet (DNumber w e p) s h = keeps-decl (DNumber w e p) s h
  keeps-quiet (DEnumeration w ws p) s h = keeps-decl (DEnumeration w ws p) s h
  keeps-quiet (DArray w r x p) s h = keeps-decl (DArray w r x p) s h
  keeps-quiet (DSubtype w x p) s h = keeps-decl (DSubtype w x p) s h
  keeps-quiet (DException ws p) s h = keeps-decl (DException ws p) s h
  keeps-quiet (DIntIo w p) s h = keeps-decl (DIntIo w p) s h
  keeps-quiet (DPragma e p) s h = keeps-decl (DPragma e p) s h
  keeps-quiet (DTask t p) s h = keeps-decl (DTask t p) s h
  keeps-quiet (DTaskBody w objects its p) s h = keeps-decl (DTaskBody w objects its p) s h

  keeps-list : (ds : List PDecl) (s : Scope) → AllByRecursion IsQuiet ds → Keeps old s.types (after_decls s (decls_of ds)).types
  keeps-list [] s h = keeps-self s.types
  keeps-list (d ∷ ds) s h = keeps-on (keeps-quiet d s h.0) (keeps-list ds (after_decl s d) h.1)

-- ---- names

-- what is not kept without aborts does not stay
pub new-shut : (q : PProgram) (n : ℕ) → collect.kept_name q n ≡ false → kept_name q n ≡ false
new-shut q n h = ap (λ b. b && not (is_further (text_of q.names record { 0 = n }))) h

-- and what stays is kept
pub stays-kept : (q : PProgram) (n : ℕ) → kept_name q n ≡ true → collect.kept_name q n ≡ true
stays-kept q n h = and_left (collect.kept_name q n) (not (is_further (text_of q.names record { 0 = n }))) h

-- ---- both tables

module _ (p : PProgram) (types : TypeTable) (numbers : Numbering) (ordered : IsOrdered p) (own : AreOwn p p.decls) where
  abbrev n : PProgram
  n = normal_tree p types numbers

  abbrev stays : ℕ → Bool
  stays = kept_name n

  abbrev root : TypeTable
  root = (behind p.name (first_decls [] p.decls)).types

  abbrev variables : List PDecl
  variables = vars p types numbers

  pub keeps-normal : Keeps stays root (types_in n)
  keeps-normal =
      let k = plain.keeps-normal p types numbers ordered own in
      record {
        grows = k.grows;
        marks = λ id h. k.marks id (stays-kept n id.0 h);
        constants = λ id h. k.constants id (stays-kept n id.0 h);
        literals = k.literals;
        kinds = k.kinds;
      }

  vars-quiet : AllByRecursion (IsQuiet stays) variables
  vars-quiet = unit-all (IsQuiet stays) (main_unit (setting_of p types numbers)) (λ s x k. tt) p.body

  abbrev x : AbortTeller
  x = told p types numbers own

  flags-quiet : stays x.teller.added.flags.0 ≡ false
  flags-quiet = subst (λ (id : NameId). stays id.0 ≡ false) (sym (same-added n flags_text refl)) (new-shut n (added_id n flags_text).0 (flags-new n))

  more-quiet : AllByRecursion (IsQuiet stays) (more p types numbers own)
  more-quiet =
      all_joined (IsQuiet stays) (main_declared x.teller.added p.name.span _ _) (places_declared x p.name.span (places_in n.body))
      (all-main (IsQuiet stays) x.teller.added p.name.span _ _ (tt, (flags-quiet, (tt, (tt, tt)))))
      (all-places (IsQuiet stays) x p.name.span (places_in n.body) (places_in n.body) (omega arith) (λ k low high. (tt, tt)))

  added-quiet : AllByRecursion (IsQuiet stays) (added_of p types numbers own)
  added-quiet =
      all-told-behind p types numbers own x.teller.added (abort_decl x n.names) (abort-tells x n.names) (more p types numbers own) (recorder_body_told x n) (IsQuiet stays)
      (λ t s one. tt) (λ w objects its s. tt) more-quiet vars-quiet tt tt

  pub keeps-text : Keeps stays root (types_in (abort_tree p types numbers))
  keeps-text =
      let added : List PDecl = added_of p types numbers own in
      subst (λ l. Keeps stays root (after_decls (first_scope p.name) l).types) (sym (ap decls_of (abort-list p types numbers own) ∙ listed-front
      (first_decls [] p.decls) added))
      (subst (λ (c : Scope). Keeps stays root c.types) (sym (front-after (first_decls [] p.decls) (decls_of added) (first_scope p.name)))
      (keeps-list stays added (behind p.name (first_decls [] p.decls)) added-quiet))
