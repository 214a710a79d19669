-- In each scope of the normal form of a legal program each name means what it means itself: a type, an object or a literal whose mark the table has.
use Rattle.std.proofs.Common.{◌≡◌, ℕ, ◌+◌, Bool, true, false, ◌==◌, List, [], ◌∷◌, map, option_map, Some, refl, sym, ap, subst}
use Rattle.std.specs.List.{AllByRecursion}
use Rattle.common_lemmas.proofs.Numbers.{equal_is}
use Rattle.ada_tree.specs.declared.naming.NameId.{NameId}
use Rattle.ada_tree.specs.declared.naming.Span.{Span}
use Rattle.ada_tree.specs.declared.naming.Word.{Word}
use Rattle.ada_tree.specs.declared.static_types.Mark.{Mark}
use Rattle.ada_tree.specs.TypeTable.{TypeTable}
use Rattle.ada_tree.specs.PlainExpr.{PSubind}
use Rattle.ada_tree.specs.PlainStmt.{PBody}
use Rattle.ada_tree.specs.PlainDecl.{PTask, PDecl, DNumber, DObject, DEnumeration, DArray, DSubtype, DException, DIntIo, DPragma, DTask, DTaskBody, PDecls, no_decl, decl_then, decls_of}
use Rattle.ada_tree.specs.PlainProgram.{PProgram}
use Rattle.ada_static_rules.specs.Scope.{Scope, Range, Thing, SingleTask, EntryPart, meaning}
use Rattle.ada_static_rules.specs.Declaring.{first_scope, task_thing, entry_part, in_body, after_objects, after_decl, after_decls}
use Rattle.task_model.specs.Setting.{Setting}
use Rattle.normal_model.specs.Names.{variable_name}
use Rattle.normal_model.specs.Ranges.{word_at}
use Rattle.normal_model.specs.Variables.{variable_declared}
use Rattle.normal_model.specs.NormalTree.{first_decls}
use Rattle.task_laws.specs.legal.rewritten_types.Agreement.{Keeps, WholeTable}
use Rattle.task_laws.proofs.legal.rewritten_types.Keeping.{keeps-self}
use Rattle.task_laws.proofs.legal.rewritten_types.Adding.{keeps-objects}
use Rattle.task_laws.proofs.legal.rewritten_types.Soundness.{sound-decls, sound-first}
use Rattle.task_laws.proofs.legal.rewritten_types.Owning.{whole-decls, whole-first}
use Rattle.task_laws.proofs.legal.types.GoodScopes.{names-kept}
use Rattle.task_laws.proofs.legal.types.TypedValues.{anybody}
use Rattle.normal_laws.specs.existence.Laws.{IsLegalOriginal}
use Rattle.normal_laws.proofs.structure.numbers.Listed.{IsOneTask}
use Rattle.task_laws.specs.legal.alike_scopes.Alike.{SameScalar, of_values, a_task, SameThing, same_variable, no_values, SameNames}
use Rattle.task_laws.proofs.legal.alike_scopes.Tables.{types-self}
use Rattle.task_laws.proofs.legal.alike_scopes.Marks.{thing-grown}
use Rattle.task_laws.proofs.legal.alike_scopes.Naming.{name-both, tables-kept}
use Rattle.normal_laws.proofs.legality.scopes.Parts.{HasParts, parts-first, parts-decl}
use Rattle.normal_laws.proofs.legality.scopes.Kept.{is_same}
use Rattle.normal_laws.proofs.legality.scopes.Base.{base-same}
use Rattle.normal_laws.proofs.legality.scopes.Main.{g, first, walked}
use Rattle.normal_laws.proofs.legality.variables_marked.Static.{names-fewer}
use Rattle.normal_laws.proofs.legality.variables_marked.Subtypes.{IsKnown}
use Rattle.normal_laws.proofs.legality.variables_marked.Steps.{IsReady, IsBehind, variable-behind, AreKnown}

-- Each name means what it means itself, and each kind of values has a mark.
pub record IsSelf (c : Scope) : Type 0 where
  pub whole : WholeTable c.types
  pub same : SameNames anybody c c

-- so it is with fewer names
pub self-names : (old : ℕ → Bool) (c : Scope) → IsSelf c → SameNames old c c
self-names old c h = names-fewer anybody old (λ n o. refl) c c h.same

-- So it is in front of each of these declarations and behind them.
abbrev pub AlongSelf : Scope → List PDecl → Type 0
AlongSelf c [] = IsSelf c
AlongSelf c (d ∷ ds) = IsSelf c × AlongSelf (after_decl c d) ds

pub self-end : (ds : List PDecl) (c : Scope) → AlongSelf c ds → IsSelf (after_decls c (decls_of ds))
self-end [] c h = h
self-end (d ∷ ds) c h = self-end ds (after_decl c d) h.1

-- ---- tasks and bodies

-- a single task keeps it so
self-task : (t : PTask) (s : Span) (c : Scope) → t.of_kind ≡ false → IsSelf c → IsSelf (after_decl c (DTask t s))
self-task t s c single h = record { whole = h.whole; same = name-both anybody c c th th t.name h.same (subst (λ (x : Thing). SameThing c.types c.types (Some x) (Some x)) (sym is) (no_values (a_task es refl) (a_task es refl))) }
  where
    es : List EntryPart
    es = map (entry_part c) t.entries

    th : Thing
    th = task_thing t.of_kind es

    is : th ≡ SingleTask es
    is = ap (λ b. task_thing b es) single

pub self-tasks : (xs : List PDecl) → AllByRecursion IsOneTask xs → (c : Scope) → IsSelf c → IsSelf (after_decls c (decls_of xs))
self-tasks [] o c h = h
self-tasks (DTask t s ∷ xs) o c h = self-tasks xs o.1 (after_decl c (DTask t s)) (self-task t s c o.0 h)
self-tasks (DTaskBody w objects its s ∷ xs) o c h = absurd o.0
self-tasks (DNumber w e s ∷ xs) o c h = absurd o.0
self-tasks (DObject ws k x i s ∷ xs) o c h = absurd o.0
self-tasks (DEnumeration w ws s ∷ xs) o c h = absurd o.0
self-tasks (DArray w r x s ∷ xs) o c h = absurd o.0
self-tasks (DSubtype w x s ∷ xs) o c h = absurd o.0
self-tasks (DException ws s ∷ xs) o c h = absurd o.0
self-tasks (DIntIo w s ∷ xs) o c h = absurd o.0
self-tasks (DPragma e s ∷ xs) o c h = absurd o.0

-- a body does
pub self-body : (w : Word) (objects : PDecls) (its : PBody) (s : Span) (c : Scope) → IsSelf c → IsSelf (after_decl c (DTaskBody w objects its s))
self-body w objects its s c h = record { whole = whole-decls (decls_of (DTaskBody w objects its s ∷ [])) c h.whole; same = record { types = n.types; things = n.things } }
  where
    keeps : Keeps anybody c.types (after_objects (in_body c w) objects).types
    keeps = keeps-objects objects (in_body c w) refl

    n : SameNames anybody (record c { types = (after_objects (in_body c w) objects).types }) (record c { types = (after_objects (in_body c w) objects).types })
    n = tables-kept anybody c c _ _ h.same keeps keeps

module _ (p : PProgram) (legal : IsLegalOriginal p) where
  abbrev G : Setting
  G = g p legal

  -- ---- the first declarations

  parts-list : (ds : PDecls) (s : Scope) → HasParts s.types → HasParts (after_decls s ds).types
  parts-list no_decl s h = h
  parts-list (decl_then d rest) s h = parts-list rest (after_decl s d) (parts-decl d s h)

  -- Behind the first declarations it is so.
  pub self-first : IsSelf (first p legal)
  self-first = record {
    whole = whole;
    same = base-same anybody (first p legal) (first p legal) record { keeps = keeps-self (first p legal).types; kept = λ id. is_same refl } (walked p legal).clear (sound-decls firsts (first_scope p.name) (sound-first p.name)) whole
        (parts-list firsts (first_scope p.name) parts-first);
  }
    where
      firsts : PDecls
      firsts = first_decls [] p.decls

      whole : WholeTable (first p legal).types
      whole = whole-decls firsts (first_scope p.name) (whole-first p.name)

  -- ---- variables

  -- a variable of the normal form keeps it so
  self-variable : (q : Scope) → IsReady p legal q → IsSelf q → (s : Span) (x : PSubind) (k : ℕ) → IsKnown p legal x → IsSelf (after_decl q (variable_declared G s x k))
  self-variable q r h s x k known = record { whole = whole; same = record { types = types-self anybody T whole; things = λ id o. by_test id ((variable_name G k).0 == id.0) refl } }
    where
      q' : Scope
      q' = after_decl q (variable_declared G s x k)

      T : TypeTable
      T = q'.types

      b : IsBehind p legal q s x k
      b = variable-behind p legal q r s x k known

      whole : WholeTable T
      whole = whole-decls (decls_of (variable_declared G s x k ∷ [])) q h.whole

      range_of : Mark → Range
      range_of m = record { kind = m.kind; first = m.first; last = m.last }

      scalar : SameScalar T T b.seen.place b.seen.place
      scalar = record {
        range = range_of b.seen.mark;
        left = ap (option_map range_of) b.seen.there;
        right = ap (option_map range_of) b.seen.there;
        kind = (b.seen.scalar.0, b.ready.types.kinds b.seen.mark.kind b.seen.scalar.0 b.seen.scalar.1);
      }

      by_test : (id : NameId) (c : Bool) → ((variable_name G k).0 == id.0) ≡ c → SameThing T T (meaning q' id) (meaning q' id)
      by_test id true e =
          subst (λ n. SameThing T T (meaning q' record { 0 = n }) (meaning q' record { 0 = n })) (equal_is (variable_name G k).0 id.0 e) (same_variable b.seen.place b.seen.place b.seen.means b.seen.means (of_values scalar))
      by_test id false e =
          subst (λ o. SameThing T T o o) (sym (names-kept _ (word_at s (variable_name G k) ∷ []) q id (e, tt))) (thing-grown q.types T q.types T b.grows b.grows (meaning q id) (meaning q id) (h.same.things id refl))

  -- So it is along variables.
  pub self-variables : (ds : List PDecl) (j : ℕ) → AreKnown p legal j ds → (q : Scope) → IsReady p legal q → IsSelf q → AlongSelf q ds
  self-variables [] j k q r h = h
  self-variables (d ∷ ds) j k q r h =
      let v = k.0 in
      subst (λ (e : PDecl). AlongSelf q (e ∷ ds)) (sym v.is) (
        h,
        self-variables ds (j + 1) k.1 (after_decl q (variable_declared G v.place v.subtype j)) (variable-behind p legal q r v.place v.subtype j v.fits).ready (self-variable q r h v.place v.subtype j v.fits),
      )
