-- Behind declarations that are no tasks and no bodies no single task is seen.
use Rattle.std.proofs.Common.{◌≡◌, ℕ, Bool, true, false, ◌==◌, if◌then◌else◌, List, [], ◌∷◌, Option, Some, None, refl, ap, ◌∙◌}
use Rattle.std.specs.List.{AllByRecursion}
use Rattle.ada_tree.specs.declared.naming.NameId.{NameId}
use Rattle.ada_tree.specs.declared.naming.Word.{Word}
use Rattle.ada_tree.specs.PlainDecl.{PDecl, DNumber, DObject, DEnumeration, DArray, DSubtype, DException, DIntIo, DPragma, DTask, DTaskBody, decls_of}
use Rattle.ada_static_rules.specs.Scope.{Scope, Thing, TypeMark, ConstantObject, Literal, AnException, AnotherUnit, meaning}
use Rattle.ada_static_rules.specs.Declaring.{with_name, with_names, type_of_mark, declared_object, first_scope, made_named_array, made_subtype, after_decl, after_decls}
use Rattle.normal_laws.proofs.structure.numbers.Listed.{IsPlain}
use Rattle.normal_laws.proofs.structure.typed.Scopes.{meaning-more}
use Rattle.task_laws.proofs.legal.alike_scopes.Examples.{meant}
use Rattle.replay_structure.specs.scopes.More.{is_single}
use Rattle.replay_structure.proofs.scopes.More.{declared-single}

-- no name means a single task
abbrev pub SeesNone : Scope → Type 0
SeesNone c = (id : NameId) → is_single (meaning c id) ≡ false

-- ---- names

name-none : (th : Thing) (w : Word) (c : Scope) → is_single (Some th) ≡ false → SeesNone c → SeesNone (with_name th c w)
name-none th w c e h id = ap is_single (meaning-more th c w id) ∙ by_test (w.name.0 == id.0)
  where
    by_test : (b : Bool) → is_single (if b then Some th else meaning c id) ≡ false
    by_test true = e
    by_test false = h id

names-none : (th : Thing) (ws : List Word) (c : Scope) → is_single (Some th) ≡ false → SeesNone c → SeesNone (with_names th c ws)
names-none th [] c e h = h
names-none th (w ∷ ws) c e h = names-none th ws (with_name th c w) e (name-none th w c e h)

type-none : (o : Option ℕ) → is_single (Some (type_of_mark o)) ≡ false
type-none (Some m) = refl
type-none None = refl

-- ---- declarations

decl-none : (d : PDecl) (c : Scope) → IsPlain d → SeesNone c → SeesNone (after_decl c d)
decl-none (DNumber w e s) c q h = name-none (ConstantObject 0) w c refl h
decl-none (DObject ws constant x init s) c q h = names-none (declared_object c constant x).thing ws _ (declared-single c constant x) h
decl-none (DEnumeration w ws s) c q h = names-none (Literal _) ws _ refl (name-none (TypeMark _) w c refl h)
decl-none (DArray w r x s) c q h = name-none _ w c (type-none (made_named_array c w r x).mark) h
decl-none (DSubtype w x s) c q h = name-none _ w c (type-none (made_subtype c w x).mark) h
decl-none (DException ws s) c q h = names-none AnException ws c refl h
decl-none (DIntIo w s) c q h = name-none AnotherUnit w c refl h
decl-none (DPragma e s) c q h = h
decl-none (DTask t s) c q h = absurd q
decl-none (DTaskBody w objects its s) c q h = absurd q

-- So it is behind all of them.
pub decls-none : (xs : List PDecl) → AllByRecursion IsPlain xs → (c : Scope) → SeesNone c → SeesNone (after_decls c (decls_of xs))
decls-none [] q c h = h
decls-none (x ∷ xs) q c h = decls-none xs q.1 (after_decl c x) (decl-none x c q.0 h)

-- before all declarations it is so
pub first-none : (name : Word) → SeesNone (first_scope name)
first-none name id =
    meant (λ x. is_single x ≡ false) (first_scope name).names id refl (refl, (refl, (refl, (refl, (refl, (refl, (refl, (refl, (refl, (refl, (refl, (refl, (refl, (refl, (refl, (refl, (refl, (refl, (refl, tt)))))))))))))))))))
