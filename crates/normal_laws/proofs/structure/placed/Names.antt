-- The names of a normal form are such as the source can hold.
use Rattle.std.proofs.Common.{◌≡◌, ℕ, zero, suc, ◌<◌, ◌≤◌, ◌^◌, ℤ, Bool, true, false, nat_le, List, [], ◌∷◌, length, take, Option, Some, None, IfSome, IsSomeAnd, slice_get, get_or, position, unwrap_or, refl, sym, ap, subst, ◌∙◌, arith}
use Rattle.std.specs.List.{AllByRecursion}
use Rattle.std.specs.Str.{bytes_eq}
use Rattle.std.proofs.lemmas.Bool.{leb-true, leb-false}
use Rattle.std.proofs.lemmas.List.Quantifiers.{position-Some}
use Rattle.std.proofs.lemmas.Option.{slice_get_within, slice_get-get_or}
use Rattle.std.proofs.lemmas.Slice.Eq.{bytes_eq-Decides}
use Rattle.ada_tree.specs.declared.naming.NameId.{NameId}
use Rattle.ada_tree.specs.NameList.{predefined, AreNames}
use Rattle.ada_tree.specs.Lexical.{is_word, IsIdentifier}
use Rattle.syn_event.specs.declared.numbering.TaskInfo.{TaskInfo}
use Rattle.syn_event.specs.DeclaredTasks.{text_of}
use Rattle.task_model.specs.Setting.{Setting}
use Rattle.normal_model.specs.Names.{name_of_member, member_texts, variable_text, with_members, with_variables, normal_names, id_of, variable_name, member_name, task_name}
use Rattle.normal_model.specs.NormalTree.{variables_needed}
use Rattle.normal_model.proofs.VariablesLemmas.{Begins, begins-refl, begins-trans}
use Rattle.normal_laws.proofs.structure.types.Names.{interned-begins, fold-begins, variables-begin, names-begin, variable-there}
use Rattle.task_laws.proofs.legal.rewritten_values.Saying.{place-within}
use Rattle.normal_laws.specs.structure.placed.Placeable.{IsName, HasNames, IsShortIndex, IsTask, IsPlaceable}
use Rattle.ada_tree.specs.declared.static_types.Kind.{Kind}
use Rattle.ada_tree.specs.declared.static_types.Kind.TheVariants.{Integer, Truth, Enumeration, Array}
use Rattle.normal_laws.proofs.structure.placed.Made.{AreNamed}
use Rattle.normal_laws.proofs.structure.placed.Texts.{variable-identifier, member-identifier}
use Rattle.common_lemmas.proofs.Lists.{holds_at}

-- ---- names that stay

pub begins-name : (names names' : List (List ℕ)) → Begins names names' → (id : NameId) → IsName names id → IsName names' id
begins-name names names' b id h = go (slice_get names id.0) refl h
  where
    go : (o : Option (List ℕ)) → slice_get names id.0 ≡ o → IsSomeAnd o IsIdentifier → IsName names' id
    go None e i = absurd i
    go (Some t) e i =
        let l : id.0 < length names = slice_get_within names id.0 t e in
        let same : slice_get names' id.0 ≡ Some t = ap (λ xs. slice_get xs id.0) b.joined ∙ place-within names b.more id.0 l ∙ e in
        subst (λ o. IsSomeAnd o IsIdentifier) (sym same) i

-- ---- the first names

first-there : (xs ys : List (List ℕ)) (n k : ℕ) (t : List ℕ) → take n xs ≡ ys → slice_get ys k ≡ Some t → slice_get xs k ≡ Some t
first-there xs ys n k t e h = go xs n k (ap (λ zs. slice_get zs k) e ∙ h)
  where
    go : (zs : List (List ℕ)) (m j : ℕ) → slice_get (take m zs) j ≡ Some t → slice_get zs j ≡ Some t
    go zs zero j i = cc
    go [] (suc m) j i = i
    go (z ∷ zs) (suc m) zero i = i
    go (z ∷ zs) (suc m) (suc j) i = go zs m j i

-- the predefined names and the attributes are identifiers
predefined-named : AllByRecursion IsIdentifier predefined
predefined-named = ((refl, omega arith, refl), ((refl, omega arith, refl), ((refl, omega arith, refl), ((refl, omega arith, refl), ((refl, omega arith, refl), ((refl, omega arith, refl), ((refl, omega arith, refl), ((refl, omega arith, refl), ((refl, omega arith, refl), ((refl, omega arith, refl), ((refl, omega arith, refl), ((refl, omega arith, refl), ((refl, omega arith, refl), ((refl, omega arith, refl), ((refl, omega arith, refl), ((refl, omega arith, refl), ((refl, omega arith, refl), ((refl, omega arith, refl), ((refl, omega arith, refl), ((refl, omega arith, refl), ((refl, omega arith, refl), ((refl, omega arith, refl), ((refl, omega arith, refl), ((refl, omega arith, refl), ((refl, omega arith, refl), tt)))))))))))))))))))))))))

pub first-named : (names : List (List ℕ)) → AreNames names → (k : ℕ) → k < 25 → IsName names (record { 0 = k })
first-named names are k l =
    let t : List ℕ = get_or predefined k [] in
    let e : slice_get predefined k ≡ Some t = slice_get-get_or predefined k [] l in
    let f : slice_get names k ≡ Some t = first-there names predefined (length predefined) k t are.begins e in
    subst (λ o. IsSomeAnd o IsIdentifier) (sym f) (holds_at IsIdentifier predefined k t e predefined-named)

-- ---- variables

-- fewer variables have the first names of more
pub variables-more : (ts : List (List ℕ)) (n m : ℕ) → n ≤ m → Begins (with_variables ts n) (with_variables ts m)
variables-more ts n zero l = let e : n ≡ zero = omega (arith, l) in subst (λ k. Begins (with_variables ts n) (with_variables ts k)) e (begins-refl (with_variables ts n))
variables-more ts n (suc m) l = by_test (nat_le n m) refl (λ k. variables-more ts n m k)
  where
    by_test : (b : Bool) → nat_le n m ≡ b → (n ≤ m → Begins (with_variables ts n) (with_variables ts m)) → Begins (with_variables ts n) (with_variables ts (suc m))
    by_test true e more = begins-trans (more (leb-true n m e)) (interned-begins (with_variables ts m) (variable_text m))
    by_test false e more =
        let f : m < n = leb-false n m e in
        let q : n ≡ suc m = omega (arith, f, l) in
        subst (λ k. Begins (with_variables ts n) (with_variables ts k)) q (begins-refl (with_variables ts n))

-- a text that is searched is found where it stands, else the first name is taken
pub searched : (ts : List (List ℕ)) (t : List ℕ) → IsName ts (record { 0 = 0 }) → IsIdentifier t → IsName ts (id_of ts t)
searched ts t first h = go (position (bytes_eq t) ts) refl
  where
    go : (o : Option ℕ) → position (bytes_eq t) ts ≡ o → IsName ts (record { 0 = unwrap_or o 0 })
    go None e = first
    go (Some k) e =
        let found = position-Some (bytes_eq t) ts k [] e in
        let same : t ≡ get_or ts k [] = (bytes_eq-Decides t (get_or ts k [])).0 found.1 in
        let there : slice_get ts k ≡ Some t = slice_get-get_or ts k [] found.0 ∙ ap Some (sym same) in
        subst (λ o. IsSomeAnd o IsIdentifier) (sym there) h

module _ (g : Setting) where
  abbrev count : ℕ
  count = variables_needed g

  abbrev pub made_names : List (List ℕ)
  made_names = normal_names g count

  pub variable-named : count < 2 ^ 64 → (k : ℕ) → k < count → IsName made_names (variable_name g k)
  variable-named few k l =
      begins-name (normal_names g (suc k)) made_names (variables-more (with_members g) (suc k) count (omega (arith, l))) (variable_name g k)
      (subst (λ o. IsSomeAnd o IsIdentifier) (sym (variable-there g k).0) (variable-identifier k (omega (arith, l, few))))

  -- ---- tasks

  pub old-named : (id : NameId) → IsName g.program.names id → IsName made_names id
  old-named id h = begins-name g.program.names made_names (names-begin g count) id h

  pub task-named : IsName g.program.names (record { 0 = 0 }) → (info : TaskInfo) → IsTask g.program.names info → IsName made_names (task_name g info)
  task-named first info t = go info.member t.index
    where
      here : IsName g.program.names info.name
      here = subst (λ o. IsSomeAnd o IsIdentifier) (sym t.there) t.identifier

      text-is : text_of g.program.names info.name ≡ t.text
      text-is = ap (λ o. unwrap_or o []) t.there

      word-is : is_word t.text ≡ true
      word-is = t.identifier.0

      go : (o : Option ℤ) → IfSome o IsShortIndex → IsName made_names (member_name g info.name o)
      go None i = old-named info.name here
      go (Some z) i =
          begins-name (with_members g) made_names (variables-begin (with_members g) count) (member_name g info.name (Some z))
          (searched (with_members g) (name_of_member (text_of g.program.names info.name) z)
          (begins-name g.program.names (with_members g) (fold-begins (member_texts g.program.names g.numbers.tasks) g.program.names) (record { 0 = 0 }) first)
          (subst (λ x. IsIdentifier (name_of_member x z)) (sym text-is) (member-identifier t.text z word-is t.short i)))

-- ---- all names

all-of : {A : Type 0} (P Q : A → Type 0) → ((x : A) → P x → Q x) → (xs : List A) → AllByRecursion P xs → AllByRecursion Q xs
all-of P Q f [] h = tt
all-of P Q f (x ∷ xs) h = (f x h.0, all-of P Q f xs h.1)

module _ (g : Setting) (h : IsPlaceable g) where
  kind-kept : (k : Kind) → HasNames g.program.names k → HasNames (made_names g) k
  kind-kept (Enumeration ids) i = all-of (IsName g.program.names) (IsName (made_names g)) (old-named g) ids i
  kind-kept Integer i = tt
  kind-kept Truth i = tt
  kind-kept (Array index first last part) i = tt

  pub are-named : AreNamed g (made_names g)
  are-named = record {
    first = λ k l. old-named g (record { 0 = k }) (first-named g.program.names h.names k l);
    tasks = all-of (IsTask g.program.names) (λ info. IsName (made_names g) (task_name g info)) (task-named g (first-named g.program.names h.names 0 (omega arith))) g.numbers.tasks h.tasks;
    variables = variable-named g h.room.few;
    kinds = all-of (HasNames g.program.names) (HasNames (made_names g)) kind-kept g.types.kinds h.kinds;
    indices = h.room.indices;
  }
