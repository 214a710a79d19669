-- A static expression of old names is worth the same at every place, and so is a callee whose index stays.
use Rattle.std.proofs.Common.{◌≡◌, ℕ, ◌+◌, ◌-◌, ◌==◌, Bool, true, false, ◌&&◌, if◌then◌else◌, [], Option, Some, None, option_map, refl, ap, slice_get, position}
use Rattle.ada_static_rules.specs.StaticValue.{is_static, keeps_static, mark_named}
use Rattle.ada_tree.specs.Attributes.{attribute_of}
use Rattle.std.specs.Prelude.{is_some, unwrap_or}
use Rattle.ada_tree.specs.declared.naming.NameId.{NameId}
use Rattle.ada_tree.specs.PlainExpr.{PExpr}
use Rattle.ada_tree.specs.PlainStmt.{PCallee}
use Rattle.syn_event.specs.Numbering.{entry_at}
use Rattle.ada_value.specs.Values.{and_then, position_of}
use Rattle.ada_value.specs.Variables.{Variables}
use Rattle.task_model.specs.Setting.{member_named, task_meant, callee_task, entry_of, is_family, is_family_in, family_limits, index_in, member_index}
use Rattle.normal_model.specs.Making.{moving}
use Rattle.task_laws.specs.translation.Translations.{Programs, types_before}
use Rattle.task_laws.specs.translation.OldNames.{OldExpr, old_integer, old_name, old_index, old_attribute, old_attribute_of, old_paren, old_unary, old_binary, OldOption, old_none, old_some}
use Rattle.task_laws.specs.translation.Scopes.{SeeAlike}
use Rattle.task_laws.specs.translation.Fixed.{FixedExpr, fixed_integer, fixed_name, fixed_attribute, fixed_attribute_of, fixed_paren, fixed_unary, fixed_binary}
use Rattle.task_laws.proofs.translation.Fixed.{fixed-before, fixed-worth}
use Rattle.normal_laws.specs.runs.floors.Suited.{AreMade}
use Rattle.common_lemmas.proofs.Truth.{and_both}

module _ (b : Programs) (made : AreMade b) where
  pub static-fixed : {e : PExpr} → OldExpr b e → is_static (types_before b) e ≡ true → FixedExpr b e
  static-fixed (old_integer n s) h = fixed_integer n s
  static-fixed (old_name id s old) h = fixed_name id s old (made.statics id h)
  static-fixed (old_index w e s old k) h = absurd (let n : ⊥ = cc in n)
  static-fixed (old_attribute m w s old) h = fixed_attribute m w s
  static-fixed (old_attribute_of m w e s old k) h =
      fixed_attribute_of m w e s (static-fixed k (and_both (keeps_static (attribute_of w.name) && is_some (mark_named (types_before b) m.name)) (is_static (types_before b) e) h).1)
  static-fixed (old_paren e s k) h = fixed_paren e s (static-fixed k h)
  static-fixed (old_unary op e s k) h = fixed_unary op e s (static-fixed k h)
  static-fixed (old_binary op l r s k j) h =
      let t = and_both (is_static (types_before b) l) (is_static (types_before b) r) h in fixed_binary op l r s (static-fixed k t.0) (static-fixed j t.1)

  stays-static : (e : PExpr) → moving (types_before b) (Some e) ≡ None → is_static (types_before b) e ≡ true
  stays-static e h = go (is_static (types_before b) e) h
    where
      go : (t : Bool) → (if t then None else Some e) ≡ None → t ≡ true
      go true k = refl
      go false k = absurd (let n : ⊥ = cc in n)

  -- the index that moves is the index
  pub moving-is : (o : Option PExpr) (e : PExpr) → moving (types_before b) o ≡ Some e → o ≡ Some e
  moving-is None e h = absurd (let n : ⊥ = cc in n)
  moving-is (Some d) e h = go (is_static (types_before b) d) h
    where
      go : (t : Bool) → (if t then None else Some d) ≡ Some e → Some d ≡ Some e
      go true k = absurd (let n : ⊥ = cc in n)
      go false k = k

  meant-same : (name : NameId) {V W : Variables} → SeeAlike b V W → {o : Option PExpr} → OldOption b o → moving (types_before b) o ≡ None →
      task_meant b.original V name o ≡ task_meant b.original [] name o
  meant-same name see old_none h = refl
  meant-same name {V} see (old_some e old) h =
      ap (λ r. and_then r (λ v. member_named b.original.numbers name (position_of v)))
      (fixed-worth b (types_before b) V (λ id k f. fixed-before b see id k f) (static-fixed old (stays-static e h)))

  -- a callee whose index stays
  pub callee-stays : {V W : Variables} → SeeAlike b V W → (callee : PCallee) → OldOption b callee.index → moving (types_before b) callee.index ≡ None →
      callee_task b.original V callee ≡ callee_task b.original [] callee
  callee-stays see callee old h = meant-same callee.name.name see old h

  -- an accept's index that stays
  pub index-stays : (entry : ℕ) {V W : Variables} → SeeAlike b V W → {o : Option PExpr} → OldOption b o → moving (types_before b) o ≡ None →
      member_index b.original V entry o ≡ member_index b.original [] entry o
  index-stays entry see old_none h = refl
  index-stays entry {V} see (old_some e old) h =
      ap (λ r. and_then r (λ v. index_in (family_limits (entry_at b.original.numbers entry)) (position_of v)))
      (fixed-worth b (types_before b) V (λ id k f. fixed-before b see id k f) (static-fixed old (stays-static e h)))

  -- ---- entries

  pub entry-same : (e : ℕ) → entry_at b.made.numbers e ≡ entry_at b.original.numbers e
  entry-same e = ap (λ es. if e == 0 then None else slice_get es (e - 1)) made.entries

  pub entry-named : (t : ℕ) (name : NameId) → entry_of b.made.numbers t name ≡ entry_of b.original.numbers t name
  entry-named t name = ap (λ es. unwrap_or (option_map (λ k. k + 1) (position (λ info. (info.owner == t) && (info.name.0 == name.0)) es)) 0) made.entries

  pub family-same : (e : ℕ) → is_family b.made.numbers e ≡ is_family b.original.numbers e
  family-same e = ap is_family_in (entry-same e)
