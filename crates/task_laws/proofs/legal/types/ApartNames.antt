-- A name from which all differ that main fixes is that of no type.
use Rattle.std.proofs.Common.{◌≡◌, ◌≤◌, ℕ, ℤ, pos, ◌-ℤ◌, length, map, Bool, true, false, ◌==◌, if◌then◌else◌, List, [], ◌∷◌, Option, Some, None, refl, ap, ◌∙◌, arith}
use Rattle.std.specs.List.{AllByRecursion}
use Rattle.std.proofs.lemmas.Bool.{ltb-false, ne_eqb}
use Rattle.ada_tree.specs.declared.naming.NameId.{NameId}
use Rattle.ada_tree.specs.declared.naming.Word.{Word}
use Rattle.ada_tree.specs.declared.static_types.Kind.TheVariants.{Enumeration}
use Rattle.ada_tree.specs.declared.static_types.Mark.{Mark}
use Rattle.ada_tree.specs.TypeTable.{TypeTable}
use Rattle.ada_tree.specs.PlainDecl.{PShape, PInit, PDecl, DNumber, DObject, DEnumeration, DArray, DSubtype, DException, DIntIo, DPragma, DTask, DTaskBody, PDecls, no_decl, decl_then}
use Rattle.ada_static_rules.specs.Scope.{Scope, integer_kind}
use Rattle.ada_static_rules.specs.StaticValue.{is_named, mark_named}
use Rattle.ada_static_rules.specs.ExprTypes.{static_in}
use Rattle.ada_static_rules.specs.RuleDuplicate.{is_predefined}
use Rattle.ada_static_rules.specs.Demand.{Demand, declares, Site}
use Rattle.ada_static_rules.specs.Sites.{decl_sites, decls_sites}
use Rattle.ada_static_rules.specs.Declaring.{predefined_types, first_scope, with_name, with_types, add_kind, declared_object, add_constants, constant_mark, constant_value, with_constants, after_object, in_body, after_decl, after_decls}
use Rattle.task_laws.proofs.legal.rewritten_types.Keeping.{keeps-mark, newly_named}
use Rattle.task_laws.proofs.legal.rewritten_types.Adding.{names-types, keeps-shape, keeps-objects, keeps-decl}
use Rattle.task_laws.proofs.legal.types.TypedValues.{anybody}
use Rattle.common_lemmas.proofs.Lists.{all_back, all_front, found_none}
use Rattle.common_lemmas.proofs.Numbers.{equal_self}

-- a name that is fixed there is another one
abbrev pub FixedDiffers : ℕ → Demand → Type 0
FixedDiffers n (declares true w) = (w.name.0 == n) ≡ false
FixedDiffers n _ = Unit {0}

abbrev pub AllFixedDiffer : ℕ → List Site → Type 0
AllFixedDiffer n xs = AllByRecursion (λ (x : Site). FixedDiffers n x.demand) xs

module _ (n : ℕ) where
  abbrev id : NameId
  id = record { 0 = n }

  abbrev only : ℕ → Bool
  only m = m == n

  constants-marks : (ws : List Word) (m : Option ℕ) (z : Option ℤ) (T : TypeTable) → mark_named (add_constants ws m z T) id ≡ mark_named T id
  constants-marks ws (Some m) (Some z) T = refl
  constants-marks ws (Some m) None T = refl
  constants-marks ws None z T = refl

  object-marks : (s : Scope) (ws : List Word) (constant : Bool) (shape : PShape) (init : Option PInit) → mark_named (after_object s ws constant shape init).types id ≡ mark_named s.types id
  object-marks s ws constant shape init = ap (λ T. mark_named T id) (names-types _ ws (with_types (with_constants s ws init (declared_object s constant shape)) s)) ∙ by_main s.in_main ∙ (keeps-shape {old = anybody} s constant shape).marks id refl
    where
      by_main : (b : Bool) → mark_named (if b then add_constants ws (constant_mark (declared_object s constant shape).thing) (constant_value s (declared_object s constant shape).types (constant_mark (declared_object s constant shape).thing) init) (declared_object s constant shape).types else (declared_object s constant shape).types) id ≡ mark_named (declared_object s constant shape).types id
      by_main true = constants-marks ws (constant_mark (declared_object s constant shape).thing) _ (declared_object s constant shape).types
      by_main false = refl

  decl-marks : (d : PDecl) (s : Scope) → AllFixedDiffer n (decl_sites s d) → mark_named (after_decl s d).types id ≡ mark_named s.types id
  decl-marks (DNumber w e sp) s h = constants-marks (w ∷ []) (Some 0) (static_in s integer_kind e) s.types
  decl-marks (DObject ws constant shape init sp) s h = object-marks s ws constant shape init
  decl-marks (DEnumeration w ws sp) s h =
      ap (λ T. mark_named T id) (names-types _ ws (with_name _ (with_types _ s) w)) ∙ (keeps-mark {old = only} (add_kind s.types (Enumeration (map (λ (x : Word). x.name) ws))) (record { name = Some w.name; kind = length s.types.kinds; first = pos 0; last = pos (length ws) -ℤ pos 1 }) (newly_named only w h.0)).marks id (equal_self n)
  decl-marks (DArray w i x sp) s h = (keeps-decl {old = only} (DArray w i x sp) s h.0).marks id (equal_self n)
  decl-marks (DSubtype w x sp) s h = (keeps-decl {old = only} (DSubtype w x sp) s h.0).marks id (equal_self n)
  decl-marks (DException ws sp) s h = (keeps-decl {old = only} (DException ws sp) s tt).marks id (equal_self n)
  decl-marks (DIntIo w sp) s h = refl
  decl-marks (DPragma e sp) s h = refl
  decl-marks (DTask t sp) s h = refl
  decl-marks (DTaskBody w objects its sp) s h = (keeps-objects {old = anybody} objects (in_body s w) refl).marks id refl

  decls-marks : (ds : PDecls) (s : Scope) → AllFixedDiffer n (decls_sites s ds) → mark_named (after_decls s ds).types id ≡ mark_named s.types id
  decls-marks no_decl s h = refl
  decls-marks (decl_then d rest) s h =
      decls-marks rest (after_decl s d) (all_back _ (decl_sites s d) (decls_sites (after_decl s d) rest) h) ∙ decl-marks d s (all_front _ (decl_sites s d) (decls_sites (after_decl s d) rest) h)

  -- A name that is no predefined one, and that main fixes nowhere, is that of no type.
  pub marks-lack : (name : Word) (ds : PDecls) → is_predefined n ≡ false → AllFixedDiffer n (decls_sites (first_scope name) ds) → mark_named (after_decls (first_scope name) ds).types id ≡ None
  marks-lack name ds u h = decls-marks ds (first_scope name) h ∙ no-mark
    where
      other : (k : ℕ) → k ≤ 3 → (k == n) ≡ false
      other k l = let m : 18 ≤ n = ltb-false n 18 u in ne_eqb k n (λ same. let y : ⊥ = omega (arith, same, l, m) in y)

      no-mark : mark_named predefined_types id ≡ None
      no-mark = found_none (λ (x : Mark). is_named id x.name) predefined_types.marks (other 0 (omega arith), (other 1 (omega arith), (other 2 (omega arith), (other 3 (omega arith), tt))))
