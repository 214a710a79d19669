-- No variable of a permit has the name of a constant or a literal of a legal program; so the variables of a permit can be declared behind the first
-- declarations of its normal form, and behind whatever keeps the table.
use Rattle.std.proofs.Common.{◌≡◌, ℕ, ℤ, pos, negsuc, Bool, true, false, nat_eq, ◌||◌, [], codes, is_some, Option, Some, None, refl, sym, ap, ◌∙◌, true≢false}
use Rattle.std.specs.List.{starts_with}
use Rattle.std.specs.Str.{bytes_eq}
use Rattle.std.proofs.lemmas.Bool.{eq-eqb}
use Rattle.common_lemmas.proofs.Truth.{or_left}
use Rattle.ada_tree.specs.declared.naming.NameId.{NameId}
use Rattle.ada_tree.specs.declared.static_types.Kind.TheVariants.{Integer}
use Rattle.ada_tree.specs.TypeTable.{TypeTable}
use Rattle.ada_tree.specs.PlainProgram.{PProgram}
use Rattle.ada_static_rules.specs.Refusals.{types_in}
use Rattle.ada_static_rules.specs.Scope.{Scope, Thing, TypeMark, meaning}
use Rattle.ada_static_rules.specs.StaticValue.{is_named, value_named}
use Rattle.ada_static_rules.specs.Declaring.{first_mark, predefined_types, first_scope}
use Rattle.syn_event.specs.DeclaredTasks.{text_of}
use Rattle.syn_event.specs.RuleReservedName.{has_mark}
use Rattle.task_model.specs.Setting.{Setting}
use Rattle.normal_model.specs.NormalTree.{first_decls, variables_needed}
use Rattle.normal_model.proofs.VariablesLemmas.{Begins}
use Rattle.task_laws.specs.legal.rewritten_types.Agreement.{scalar_only, Grows, Keeps}
use Rattle.task_laws.proofs.legal.rewritten_types.Lookups.{find-grown}
use Rattle.task_laws.proofs.legal.types.MainScopes.{StandsWhole, last-stands, grows-decls}
use Rattle.task_laws.proofs.legal.types.LaterScopes.{valued-means}
use Rattle.task_laws.proofs.legal.types.TypedValues.{anybody}
use Rattle.task_laws.proofs.legal.alike_scopes.Tables.{value-kept}
use Rattle.normal_laws.proofs.structure.types.Names.{names-begin}
use Rattle.normal_laws.proofs.structure.numbers.Named.{text-longer, begins-within}
use Rattle.normal_laws.specs.runs.forms.Normalisable.{made_for}
use Rattle.normal_laws.specs.existence.Laws.{IsLegalOriginal}
use Rattle.normal_laws.specs.legality.scopes.Plain.{plain_name}
use Rattle.normal_laws.proofs.legality.scopes.Names.{plain-free, plain-within}
use Rattle.normal_laws.proofs.legality.scopes.Main.{g, last, first, rules, last-placed}
use Rattle.normal_laws.proofs.legality.scopes.Fixed.{literal-plain}
use Rattle.replay_model.specs.Names.{kind_text, argument_text, index_text, added_id}
use Rattle.replay_structure.specs.typed.Controller.{IsInteger}
use Rattle.replay_structure.specs.scopes.More.{ArePermitsNew, IsReady}
use Rattle.replay_structure.specs.scopes.Names.{old_name}
use Rattle.replay_structure.proofs.scopes.Names.{permits-new, plain-old}
use Rattle.replay_structure.proofs.scopes.Permit.{only}
use Rattle.replay_structure.proofs.legal.names.form_scopes.Language.{first-language}

-- ---- INTEGER

-- where INTEGER is the first mark of a table that begins with the predefined types
pub integer-of : (c : Scope) → Grows predefined_types c.types → meaning c (record { 0 = 0 }) ≡ Some (TypeMark 0) → IsInteger c
integer-of c grows e = record {
  its = record {
    place = 0;
    mark = first_mark 0 0 (negsuc 2147483647) (pos 2147483647);
    means = e;
    there = grows.mark 0 _ refl;
    kind = refl;
    scalar = (Integer, ap scalar_only (grows.kind 0 Integer refl));
    named = find-grown (λ x. is_named (record { 0 = 0 }) x.name) predefined_types.marks c.types.marks grows.mark _ refl;
    first = refl;
  };
  last = refl;
}

-- ---- what stays

module _ (q : PProgram) (old : ℕ → Bool) where
  -- a permit can be declared where INTEGER is what it is, and the table keeps the values of names
  pub ready-on : (c d : Scope) → IsInteger d → ((id : NameId) → Keeps (only id) c.types d.types) → IsReady q old c → IsReady q old d
  ready-on c d integer keeps r = record {
    integer = integer;
    kind = same (added_id q kind_text) ∙ r.kind;
    argument = same (added_id q argument_text) ∙ r.argument;
    index = same (added_id q index_text) ∙ r.index;
  }
    where
      same : (id : NameId) → value_named d.types id ≡ value_named c.types id
      same id = value-kept (only id) c.types d.types (keeps id) id (eq-eqb id.0 id.0 refl)

module _ (p : PProgram) (legal : IsLegalOriginal p) where
  abbrev T : TypeTable
  T = types_in p

  abbrev G : Setting
  G = g p legal

  -- ---- names

  -- a plain name of the program is old in its replay text
  pub plain-is-old : (id : NameId) → plain_name p id.0 ≡ true → old_name (made_for p) id.0 ≡ true
  plain-is-old id o =
      let begins : Begins p.names (made_for p).names = names-begin G (variables_needed G) in
      let t = text_of p.names id in
      plain-old (made_for p) id (begins-within p.names (made_for p).names id.0 begins (plain-within p id.0 o))
      (ap (λ u. starts_with nat_eq u (codes "DED_")) (text-longer p.names (made_for p).names id begins (plain-within p id.0 o))
      ∙ or_left (starts_with nat_eq t (codes "DED_")) (has_mark t || bytes_eq t (codes "DED")) (plain-free p id.0 o))

  -- ---- values

  -- a name with a value is plain
  value-plain : (id : NameId) (v : ℤ) → value_named (first p legal).types id ≡ Some v → plain_name p id.0 ≡ true
  value-plain id v e =
      let stands : StandsWhole T (last p legal) = last-stands p (rules p legal) legal.placed legal.small in
      let there : value_named T id ≡ Some v = value-kept anybody (first p legal).types T (last-placed p legal).beside.keeps id refl ∙ e in
      let m : (x : Thing) × (meaning (last p legal) id ≡ Some x) = valued-means stands.stands.root (last p legal) stands.stands.over id (ap is_some (sym (value-kept anybody stands.stands.root T stands.whole id refl) ∙ there)) in
      literal-plain p legal id m.0 m.1

  -- so a new name has none
  new-value : (id : NameId) → old_name (made_for p) id.0 ≡ false → value_named (first p legal).types id ≡ None
  new-value id n = by_value (value_named (first p legal).types id) refl
    where
      by_value : (o : Option ℤ) → value_named (first p legal).types id ≡ o → o ≡ None
      by_value None e = refl
      by_value (Some v) e = absurd (true≢false (sym (plain-is-old id (value-plain id v e)) ∙ n))

  -- Behind the first declarations of the normal form a permit can be declared.
  pub ready-first : IsReady (made_for p) (old_name (made_for p)) (first p legal)
  ready-first =
      let new : ArePermitsNew (made_for p) (old_name (made_for p)) = permits-new (made_for p) in
      record {
        integer = integer-of (first p legal) (grows-decls (first_decls [] p.decls) (first_scope p.name)) (first-language p legal).integer;
        kind = new-value (added_id (made_for p) kind_text) new.kind;
        argument = new-value (added_id (made_for p) argument_text) new.argument;
        index = new-value (added_id (made_for p) index_text) new.index;
      }
