-- The names that a normal form adds go behind the program's, and those of variables begin with DED_.
use Rattle.std.proofs.Common.{◌≡◌, ℕ, zero, suc, ◌<◌, Bool, true, false, not, ◌&&◌, ◌||◌, nat_lt, if◌then◌else◌, List, [], ◌∷◌, ◌++◌, length, find, position, slice_get, unwrap_or, codes, nat_eq, cond, Some, None, refl, sym, ap, ◌∙◌, true≢false, add-one}
use Rattle.std.specs.List.{list_any, position_or_len, fold, starts_with}
use Rattle.std.specs.Str.{bytes_eq}
use Rattle.std.proofs.lemmas.Bool.{or_right, lt-ltb, ltb-true}
use Rattle.std.proofs.lemmas.Option.{slice_get_within}
use Rattle.std.proofs.lemmas.List.Folds.{find_at}
use Rattle.std.proofs.lemmas.Slice.Eq.{bytes_eq-Decides}
use Rattle.ada_tree.specs.NameList.{interned}
use Rattle.ada_tree.specs.PlainProgram.{PProgram}
use Rattle.syn_event.specs.DeclaredTasks.{text_of}
use Rattle.task_model.specs.Setting.{Setting}
use Rattle.normal_model.specs.Names.{variable_text, member_texts, with_members, with_variables, normal_names, id_of, variable_name}
use Rattle.normal_model.proofs.VariablesLemmas.{Begins, begins-refl, begins-more, begins-trans}
use Rattle.task_laws.proofs.legal.rewritten_values.Saying.{place-within}
use Rattle.normal_laws.specs.structure.types.Own.{own_name}
use Rattle.normal_laws.specs.structure.types.Laws.{AddedNamesAreNew}

-- ---- the names begin with the program's

pub interned-begins : (ts : List (List ℕ)) (t : List ℕ) → Begins ts (interned ts t)
interned-begins ts t = by_test (list_any (bytes_eq t) ts)
  where
    by_test : (b : Bool) → Begins ts (if b then ts else ts ++ t ∷ [])
    by_test true = begins-refl ts
    by_test false = begins-more ts (t ∷ [])

pub fold-begins : (new ts : List (List ℕ)) → Begins ts (fold interned ts new)
fold-begins [] ts = begins-refl ts
fold-begins (t ∷ new) ts = begins-trans (interned-begins ts t) (fold-begins new (interned ts t))

pub variables-begin : (ts : List (List ℕ)) (n : ℕ) → Begins ts (with_variables ts n)
variables-begin ts zero = begins-refl ts
variables-begin ts (suc n) = begins-trans (variables-begin ts n) (interned-begins (with_variables ts n) (variable_text n))

pub names-begin : (g : Setting) (n : ℕ) → Begins g.program.names (normal_names g n)
names-begin g n = begins-trans (fold-begins (member_texts g.program.names g.numbers.tasks) g.program.names) (variables-begin (with_members g) n)

-- ---- the place of a text

-- something passes
record IsFound {A : Type 0} (p : A → Bool) (xs : List A) : Type 0 where
  one : A
  found : find p xs ≡ Some one
  passes : p one ≡ true

any-found : {A : Type 0} (p : A → Bool) (xs : List A) → list_any p xs ≡ true → IsFound p xs
any-found p [] e = absurd (true≢false (sym e))
any-found {A = A} p (x ∷ xs) e = by_test (p x) refl e (any-found p xs)
  where
    by_test : (b : Bool) → p x ≡ b → (b || list_any p xs) ≡ true → (list_any p xs ≡ true → IsFound p xs) → IsFound p (x ∷ xs)
    by_test true f g rest = record { one = x; found = ap (λ b. if b then Some x else find p xs) f; passes = f }
    by_test false f g rest = let r = rest g in record { one = r.one; found = ap (λ b. if b then Some x else find p xs) f ∙ r.found; passes = r.passes }

-- the last that passes is among those that do
any-last : {A : Type 0} (p : A → Bool) (xs : List A) (y : A) → p y ≡ true → list_any p (xs ++ y ∷ []) ≡ true
any-last p [] y e = ap (λ b. b || false) e
any-last p (x ∷ xs) y e = or_right (p x) (list_any p (xs ++ y ∷ [])) (any-last p xs y e)

pub interned-has : (ts : List (List ℕ)) (t : List ℕ) → list_any (bytes_eq t) (interned ts t) ≡ true
interned-has ts t = by_test (list_any (bytes_eq t) ts) refl
  where
    by_test : (b : Bool) → list_any (bytes_eq t) ts ≡ b → list_any (bytes_eq t) (if b then ts else ts ++ t ∷ []) ≡ true
    by_test true e = e
    by_test false e = any-last (bytes_eq t) ts t ((bytes_eq-Decides t t).1 refl)

-- the place of a text has that text
pub record IsPlace (ts : List (List ℕ)) (t : List ℕ) : Type 0 where
  pub at : ℕ
  pub position_is : position (bytes_eq t) ts ≡ Some at
  pub there : slice_get ts at ≡ Some t

pub text-place : (ts : List (List ℕ)) (t : List ℕ) → list_any (bytes_eq t) ts ≡ true → IsPlace ts t
text-place ts t e =
    let f = any-found (bytes_eq t) ts e in
    let there = sym (find_at (bytes_eq t) ts) ∙ f.found in
    let within = slice_get_within ts (position_or_len (bytes_eq t) ts) f.one there in
    record {
      at = position_or_len (bytes_eq t) ts;
      position_is = ap (λ b. cond b (Some (position_or_len (bytes_eq t) ts)) None) (lt-ltb _ _ within);
      there = there ∙ ap Some (sym ((bytes_eq-Decides t f.one).0 f.passes));
    }

-- ---- no variable has a name of the program's own

own-not : (p : PProgram) (more : List (List ℕ)) (n k : ℕ) → slice_get (p.names ++ more) n ≡ Some (variable_text k) → own_name p n ≡ false
own-not p more n k e = by_test (nat_lt n (length p.names)) refl
  where
    by_test : (b : Bool) → nat_lt n (length p.names) ≡ b → (b && not (starts_with nat_eq (text_of p.names record { 0 = n }) (codes "DED_"))) ≡ false
    by_test false f = refl
    by_test true f = ap (λ o. not (starts_with nat_eq (unwrap_or o []) (codes "DED_"))) (sym (place-within p.names more n (ltb-true n (length p.names) f)) ∙ e)

pub added_names_are_new : AddedNamesAreNew
added_names_are_new g k =
    let begins = names-begin g (suc k) in
    let place = text-place (normal_names g (suc k)) (variable_text k) (interned-has (normal_names g k) (variable_text k)) in
    ap (λ n. own_name g.program (id_of (normal_names g n) (variable_text k)).0) (add-one k)
    ∙ ap (λ o. own_name g.program (unwrap_or o 0)) place.position_is
    ∙ own-not g.program begins.more place.at k (ap (λ l. slice_get l place.at) (sym begins.joined) ∙ place.there)

-- where the name of a variable stands among the names of its number
pub variable-there : (g : Setting) (k : ℕ) → (slice_get (normal_names g (suc k)) (variable_name g k).0 ≡ Some (variable_text k)) × ((variable_name g k).0 < length (normal_names g (suc k)))
variable-there g k =
    let place = text-place (normal_names g (suc k)) (variable_text k) (interned-has (normal_names g k) (variable_text k)) in
    let e : (variable_name g k).0 ≡ place.at = ap (λ n. (id_of (normal_names g n) (variable_text k)).0) (add-one k) ∙ ap (λ o. unwrap_or o 0) place.position_is in
    let there : slice_get (normal_names g (suc k)) (variable_name g k).0 ≡ Some (variable_text k) = ap (slice_get (normal_names g (suc k))) e ∙ place.there in
    (there, slice_get_within (normal_names g (suc k)) (variable_name g k).0 (variable_text k) there)
