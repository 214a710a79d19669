-- The tables of a program and of its rewriting keep the table of the declarations that stay.
use Rattle.std.proofs.Common.{◌≡◌, ℕ, ℤ, Bool, true, Some, refl, sym, ◌∙◌, subst}
use Rattle.ada_tree.specs.declared.naming.NameId.{NameId}
use Rattle.ada_tree.specs.declared.static_types.Kind.TheVariants.{Array}
use Rattle.ada_tree.specs.declared.static_types.Mark.{Mark}
use Rattle.ada_tree.specs.declared.static_types.Constant.{Constant}
use Rattle.ada_tree.specs.TypeTable.{TypeTable}
use Rattle.ada_tree.specs.PlainDecl.{PDecls, DTaskBody}
use Rattle.ada_static_rules.specs.Scope.{Scope, kind_at, mark_at}
use Rattle.ada_static_rules.specs.StaticValue.{mark_named, constant_named, is_named}
use Rattle.ada_static_rules.specs.Declaring.{first_scope, in_body, after_decl, after_decls}
use Rattle.task_laws.specs.legal.rewritten_types.Agreement.{HasKind, HasMark, Keeps, HasPart, IsScalar, mark_of_kind, Rooted}
use Rattle.task_laws.specs.legal.rewritten_types.Rewriting.{Behind, behind_none, behind_task, behind_body, behind_instance, Front, front_none, front_stays, front_task, front_object, front_body}
use Rattle.task_laws.specs.legal.rewritten_types.Laws.{RewrittenIsRooted, RootedAgrees}
use Rattle.task_laws.proofs.legal.rewritten_types.Lookups.{find-all, place-all}
use Rattle.task_laws.proofs.legal.rewritten_types.Keeping.{keeps-self, keeps-on}
use Rattle.task_laws.proofs.legal.rewritten_types.Adding.{keeps-objects, keeps-decls}
use Rattle.task_laws.proofs.legal.rewritten_types.Closing.{Close, close-self}
use Rattle.task_laws.proofs.legal.rewritten_types.Moving.{close-decl, hide-task, hide-object}
use Rattle.task_laws.proofs.legal.rewritten_types.Owning.{own-kept, whole-decls, whole-first}
use Rattle.task_laws.proofs.legal.rewritten_types.Soundness.{sound-decls, sound-first}

-- instances change no table
behind-same : {ds es : PDecls} → Behind ds es → (s' : Scope) → (after_decls s' es).types ≡ s'.types
behind-same behind_none s' = refl
behind-same (behind_task b) s' = behind-same b s'
behind-same (behind_body b) s' = behind-same b s'
behind-same (behind_instance {w = w} {s = sp} b) s' = behind-same b _

module _ {old : ℕ → Bool} where
  -- what stands behind the first body keeps the table
  behind-kept : {ds es : PDecls} → Behind ds es → (s : Scope) → Keeps old s.types (after_decls s ds).types
  behind-kept behind_none s = keeps-self s.types
  behind-kept (behind_task b) s = behind-kept b _
  behind-kept (behind_body {w = w} {objects = objects} {its = its} {s = sp} b) s = keeps-on (keeps-objects objects (in_body s w) refl) (behind-kept b (after_decl s (DTaskBody w objects its sp)))
  behind-kept (behind_instance b) s = behind-kept b _

  -- the table of all declarations keeps that of those that stay
  pub front-kept : {s : Scope} {ds es : PDecls} → Front s ds es → (s' : Scope) → Close s s' → Keeps old (after_decls s' es).types (after_decls s ds).types
  front-kept {s} front_none s' close = subst (λ T. Keeps old T s.types) close.types (keeps-self s.types)
  front-kept {s} (front_stays {d = d} first f) s' close = front-kept f (after_decl s' d) (close-decl s s' close d first)
  front-kept {s} (front_task {t = t} {s = sp} free f) s' close = front-kept f s' (hide-task t sp s s' free close)
  front-kept {s} (front_object {names = names} {constant = constant} {shape = shape} {init = init} used mark free f) s' close =
      front-kept f s' (hide-object names constant shape init s s' mark free close)
  front-kept {s} (front_body {w = w} {objects = objects} {its = its} {s = sp} {ds = ds} b) s' close =
      subst (λ T. Keeps old T (after_decls (after_decl s (DTaskBody w objects its sp)) ds).types) (close.types ∙ sym (behind-same b s'))
      (keeps-on (keeps-objects objects (in_body s w) refl) (behind-kept b (after_decl s (DTaskBody w objects its sp))))

pub rewritten_is_rooted : RewrittenIsRooted
rewritten_is_rooted old name ds es added front new = record {
  sound = sound-decls es (first_scope name) (sound-first name);
  whole = whole-decls es (first_scope name) (whole-first name);
  left = front-kept front (first_scope name) (close-self (first_scope name));
  right = keeps-decls added (after_decls (first_scope name) es) new;
}

-- ---- two tables that keep a sound one

module _ (old : ℕ → Bool) (root T U : TypeTable) (r : Rooted old root T U) where
  -- what stands at a place of the root stands there in both
  kinds-alike : (k : ℕ) → HasKind root k → kind_at T k ≡ kind_at U k
  kinds-alike k h = r.left.grows.kind k h.0 h.1 ∙ sym (r.right.grows.kind k h.0 h.1)

  marks-alike : (m : ℕ) → HasMark root m → mark_at T m ≡ mark_at U m
  marks-alike m h = r.left.grows.mark m h.0 h.1 ∙ sym (r.right.grows.mark m h.0 h.1)

  -- an old mark of the first table is one of the root, whose kind the root has
  mark-rooted : (id : NameId) (m : Mark) → old id.0 ≡ true → mark_named T id ≡ Some m → HasKind root m.kind
  mark-rooted id m o e = find-all (λ (x : Mark). HasKind root x.kind) (λ x. is_named id x.name) root.marks m r.sound.marks (sym (r.left.marks id o) ∙ e)

  part-rooted : (id : NameId) (m : Mark) (index : ℕ) (first last : ℤ) (part : ℕ) → old id.0 ≡ true → mark_named T id ≡ Some m →
      kind_at T m.kind ≡ Some (Array index first last part) → HasMark root part
  part-rooted id m index first last part o e f =
      let h : HasKind root m.kind = mark-rooted id m o e in
      place-all (HasPart root) root.kinds m.kind (Array index first last part) r.sound.kinds
      (h.1 ∙ sym (r.left.grows.kind m.kind h.0 h.1) ∙ f)

  constant-rooted : (id : NameId) (c : Constant) → old id.0 ≡ true → constant_named T id ≡ Some c → HasMark root c.mark
  constant-rooted id c o e = find-all (λ (x : Constant). HasMark root x.mark) _ root.constants c r.sound.constants (sym (r.left.constants id o) ∙ e)

  -- the first mark of a kind of values
  own-alike : (k : ℕ) → IsScalar T k → mark_of_kind T k ≡ mark_of_kind U k
  own-alike k h =
      let m = r.whole.own k (h.0, sym (r.left.kinds k) ∙ h.1) in
      own-kept root T r.left.grows k m.0 m.1 ∙ sym (own-kept root U r.right.grows k m.0 m.1)

pub rooted_agrees : RootedAgrees
rooted_agrees old root T U r = record {
  marks = λ id o. r.left.marks id o ∙ sym (r.right.marks id o);
  constants = λ id o. r.left.constants id o ∙ sym (r.right.constants id o);
  literals = λ id. r.left.literals id ∙ sym (r.right.literals id);
  kinds = λ k. r.left.kinds k ∙ sym (r.right.kinds k);
  mark_kinds = λ id m o e. kinds-alike old root T U r m.kind (mark-rooted old root T U r id m o e);
  part_marks = λ id m index first last part o e f. marks-alike old root T U r part (part-rooted old root T U r id m index first last part o e f);
  kind_marks = λ k h. own-alike old root T U r k h;
  integers = r.left.grows.kind 0 _ r.whole.integers;
  truths = r.left.grows.kind 1 _ r.whole.truths;
  constant_marks = λ id c o e. marks-alike old root T U r c.mark (constant-rooted old root T U r id c o e);
}
