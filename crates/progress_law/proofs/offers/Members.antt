-- A call of an entry that a task has comes to a member that there is (9.5).
use Rattle.std.proofs.Common.{◌≡◌, ℕ, ℤ, pos, negsuc, Bool, true, false, ◌&&◌, if◌then◌else◌, List, [], ◌∷◌, length, Option, Some, None, is_some, Result, Ok, Err, refl, sym, ap, ◌∙◌, subst, true≢false, arith}
use Rattle.std.specs.Prelude.{int_le, ◌==◌}
use Rattle.std.specs.Option.{option_map_or}
use Rattle.std.proofs.lemmas.Bool.{and_parts, and_from, eqb-true}
use Rattle.std.proofs.lemmas.Int.{ints}
use Rattle.ada_tree.specs.declared.naming.NameId.{NameId}
use Rattle.ada_tree.specs.TypeTable.{TypeTable}
use Rattle.ada_tree.specs.PlainExpr.{PExpr, PDrange}
use Rattle.ada_tree.specs.PlainStmt.{PArgs}
use Rattle.ada_tree.specs.PlainDecl.{PEntry}
use Rattle.ada_tree.specs.PlainProgram.{PProgram}
use Rattle.ada_static_rules.specs.StaticValue.{is_integer_value}
use Rattle.ada_static_rules.specs.RuleArgCount.{fits_family}
use Rattle.syn_event.specs.declared.numbering.EntryInfo.{EntryInfo}
use Rattle.syn_event.specs.AllNumbers.{family_extent, first_of, last_index}
use Rattle.syn_event.specs.Numbering.{entry_at}
use Rattle.seq_file.specs.Known.{is_index, fits_entry, is_known_member}
use Rattle.ada_value.specs.declared.values.Raised.{Raised}
use Rattle.ada_value.specs.declared.values.Raised.TheVariants as raised
use Rattle.ada_value.specs.Values.{lies_in, position_of}
use Rattle.ada_value.specs.Variables.{Variables}
use Rattle.ada_value.specs.Evaluating.{evaluated}
use Rattle.task_model.specs.Setting.{entry_of, is_family, is_family_in, family_limits, index_in, member_index, lists_in, lists_of, first_expr}
use Rattle.task_laws.proofs.invariants.Variables.{chain, ok_path, err_ok}
use Rattle.task_laws.specs.legal.types.Typed.{HasLimits}
use Rattle.normal_laws.proofs.structure.entries.Entries.{numbers, g, HasEntry}

-- ---- indices

-- a plain entry has the index 0
plain-fits : (info : EntryInfo) → info.family ≡ false → fits_entry (pos 0) info ≡ true
plain-fits info h = ap (λ (b : Bool). is_index (pos 0) && (if b then int_le info.first (pos 0) && int_le (pos 0) info.last else int_le (pos 0) (pos 0) && int_le (pos 0) (pos 0))) h

-- an index between bounds of 32 bits has 32 bits
between : (first last i : ℤ) → is_integer_value first ≡ true → is_integer_value last ≡ true → int_le first i ≡ true → int_le i last ≡ true → is_index i ≡ true
between first last i f l low high =
    let a : int_le (negsuc 2147483647) first ≡ true = (and_parts (int_le (negsuc 2147483647) first) (int_le first (pos 2147483647)) f).0 in
    let b : int_le last (pos 2147483647) ≡ true = (and_parts (int_le (negsuc 2147483647) last) (int_le last (pos 2147483647)) l).1 in
    let c : int_le (negsuc 2147483647) i ≡ true = grind (arith, ints) in
    let d : int_le i (pos 2147483647) ≡ true = grind (arith, ints) in
    and_from (int_le (negsuc 2147483647) i) (int_le i (pos 2147483647)) c d

family-fits : (info : EntryInfo) (i : ℤ) → info.family ≡ true → is_integer_value info.first ≡ true → is_integer_value info.last ≡ true → int_le info.first i ≡ true → int_le i info.last ≡ true → fits_entry i info ≡ true
family-fits info i h f l low high =
    ap (λ (b : Bool). is_index i && (if b then int_le info.first i && int_le i info.last else int_le (pos 0) i && int_le i (pos 0))) h
    ∙ and_from (is_index i) (int_le info.first i && int_le i info.last) (between info.first info.last i f l low high) (and_from (int_le info.first i) (int_le i info.last) low high)

-- an index of a family lies in its range, where it does not raise
in-range : (info : EntryInfo) (z i : ℤ) → index_in (family_limits (Some info)) z ≡ Ok i → (int_le info.first i ≡ true) × (int_le i info.last ≡ true)
in-range info z i e = by_test (lies_in (family_limits (Some info)) z) refl e
  where
    by_test : (b : Bool) → (int_le info.first z && int_le z info.last) ≡ b → ◌≡◌ {A = Result ℤ Raised} (if b then Ok z else Err raised.Constraint) (Ok i) → (int_le info.first i ≡ true) × (int_le i info.last ≡ true)
    by_test true f q = subst (λ (x : ℤ). (int_le info.first x ≡ true) × (int_le x info.last ≡ true)) (ok_path q) (and_parts (int_le info.first z) (int_le z info.last) f)
    by_test false f q = absurd (err_ok q)

-- ---- members

module _ (p : PProgram) (T : TypeTable) (t : ℕ) (id : NameId) (e : PEntry) (h : HasEntry p T t id e) where
  abbrev number : ℕ
  number = entry_of (numbers p T) t id

  known : (i : ℤ) → fits_entry i h.info ≡ true → is_known_member (numbers p T) number i ≡ true
  known i f = ap (λ (o : Option EntryInfo). option_map_or (fits_entry i) o false) h.at ∙ f

  its-family : h.info.family ≡ is_some e.family
  its-family = sym (ap is_family_in h.at) ∙ h.is_family

  -- the member without index
  plain : e.family ≡ None → is_known_member (numbers p T) number (pos 0) ≡ true
  plain none = known (pos 0) (plain-fits h.info (its-family ∙ ap is_some none))

  -- a member by its index
  indexed : (r : PDrange) → e.family ≡ Some r → HasLimits T r → (z i : ℤ) → index_in (family_limits (entry_at (numbers p T) number)) z ≡ Ok i → is_known_member (numbers p T) number i ≡ true
  indexed r some limits z i q =
      let first : h.info.first ≡ limits.limits.first = h.first ∙ ap (λ (o : Option PDrange). first_of (family_extent T o)) some ∙ ap first_of limits.told in
      let last : h.info.last ≡ limits.limits.last = h.last ∙ ap (λ (o : Option PDrange). last_index (family_extent T o)) some ∙ ap last_index limits.told in
      let lies = in-range h.info z i (sym (ap (λ (o : Option EntryInfo). index_in (family_limits o) z) h.at) ∙ q) in
      known i (family-fits h.info i (its-family ∙ ap is_some some) (ap is_integer_value first ∙ limits.first.fits) (ap is_integer_value last ∙ limits.last.fits) lies.0 lies.1)

  -- ---- by the lists of a call

  module _ (V : Variables) (args : Option PArgs) (fits : (r : PDrange) → e.family ≡ Some r → (n : ℕ) × (fits_family args n ≡ true)) (limits : (r : PDrange) → e.family ≡ Some r → HasLimits T r) where
    abbrev index : Option PExpr
    index = (lists_of (numbers p T) number args).index

    -- of a plain entry no list is an index
    no-index : is_family (numbers p T) number ≡ false → index ≡ None
    no-index q = by_args args
      where
        by_args : (o : Option PArgs) → (lists_of (numbers p T) number o).index ≡ None
        by_args None = refl
        by_args (Some a) = ap (λ (b : Bool). (lists_in b a).index) q

    -- of a family the first list has one
    some-index : is_family (numbers p T) number ≡ true → (n : ℕ) → fits_family args n ≡ true → (x : PExpr) × (index ≡ Some x)
    some-index q n f = by_args args f
      where
        by_list : (a : PArgs) (es : List PExpr) → a.first ≡ es → (length es == 1) ≡ true → (x : PExpr) × (first_expr a.first ≡ Some x)
        by_list a [] same one = let l : 0 ≡ 1 = eqb-true 0 1 one in absurd (omega (arith, l))
        by_list a (x ∷ rest) same one = (x, ap first_expr same)

        by_args : (o : Option PArgs) → fits_family o n ≡ true → (x : PExpr) × ((lists_of (numbers p T) number o).index ≡ Some x)
        by_args None k = absurd (true≢false (sym k))
        by_args (Some a) k =
            let x = by_list a a.first refl (and_parts (length a.first == 1) _ k).0 in
            (x.0, ap (λ (b : Bool). (lists_in b a).index) q ∙ x.1)

    pub member-known : (i : ℤ) → member_index (g p T) V number index ≡ Ok i → is_known_member (numbers p T) number i ≡ true
    member-known i q = by_family e.family refl
      where
        by_family : (o : Option PDrange) → e.family ≡ o → is_known_member (numbers p T) number i ≡ true
        by_family None none =
            let same : pos 0 ≡ i = ok_path (sym (ap (member_index (g p T) V number) (no-index (h.is_family ∙ ap is_some none))) ∙ q) in
            subst (λ (z : ℤ). is_known_member (numbers p T) number z ≡ true) same (plain none)
        by_family (Some r) some =
            let fit = fits r some in
            let x = some-index (h.is_family ∙ ap is_some some) fit.0 fit.1 in
            let c = chain (evaluated T V x.0) (λ v. index_in (family_limits (entry_at (numbers p T) number)) (position_of v)) i (sym (ap (member_index (g p T) V number) x.1) ∙ q) in
            indexed r some (limits r some) (position_of c.value) i c.rest
