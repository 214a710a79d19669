-- Lists of names and of declarations of main among which others are put: what is fixed and what is named, by what was before.
use Rattle.std.proofs.Common.{◌≡◌, ℕ, Bool, true, false, if◌then◌else◌, List, [], ◌∷◌, ◌++◌, flat_map, refl, sym, ap, ap₂, ◌∙◌, true≢false}
use Rattle.std.specs.List.{AllByRecursion, list_any}
use Rattle.std.proofs.lemmas.Bool.{or_from, or_parts}
use Rattle.std.proofs.lemmas.List.{append_assoc, append-nil}
use Rattle.common_lemmas.proofs.Lists.{all_front, all_back}
use Rattle.ada_tree.specs.declared.naming.Word.{Word}
use Rattle.ada_tree.specs.PlainDecl.{PDecl, DNumber, DObject, DEnumeration, DArray, DSubtype, DException, DIntIo, DPragma, DTask, DTaskBody}
use Rattle.ada_static_rules.specs.Sites.{with_words}
use Rattle.ada_decl_rules.specs.duplicates.NamedSoFar.{object_words}
use Rattle.ada_decl_rules.specs.duplicates.NamingsInOrder.{declared}
use Rattle.ada_decl_rules.specs.declared.duplicates.namings_in_order.Naming.{Naming}
use Rattle.ada_decl_rules.specs.declared.duplicates.namings_in_order.Naming.TheVariants.{Once}
use Rattle.ada_decl_rules.proofs.duplicates.Noting.{declared_append}
use Rattle.task_laws.specs.legal.rewritten_types.Rewriting.{names_declared}
use Rattle.normal_laws.proofs.structure.numbers.Listed.{IsPlain}
use Rattle.replay_model.specs.ReplayTree.{is_added_object}
use Rattle.replay_structure.proofs.declares_once.Grown.{IsGood, IsGrown, grown-words, IsSame, same-joined, same-then, declared-same}
use Rattle.replay_structure.proofs.declares_once.Plain.{plain_names, instance_behind, plains_names, words-joined}
use Rattle.collect_model.specs.CollectTree.{behind_own, is_int_io}

-- ---- declarations that are put among those of main

-- the others stand in front of them and behind them
pub record IsSplit (names : List (List ℕ)) (xs : List PDecl) : Type 0 where
  pub front : List PDecl
  pub back : List PDecl
  pub whole : xs ≡ front ++ back
  pub put : (ds : List PDecl) → behind_own names ds xs ≡ front ++ (ds ++ back)

pub split : (names : List (List ℕ)) (xs : List PDecl) → IsSplit names xs
split names [] = record { front = []; back = []; whole = refl; put = λ ds. sym (append-nil ds) }
split names (x ∷ xs) = by_test (is_added_object names x) refl (split names xs)
  where
    by_test : (b : Bool) → is_added_object names x ≡ b → IsSplit names xs → IsSplit names (x ∷ xs)
    by_test true e h = record { front = []; back = x ∷ xs; whole = refl; put = λ ds. ap (λ c. if c then ds ++ x ∷ xs else x ∷ behind_own names ds xs) e }
    by_test false e h = record {
      front = x ∷ h.front;
      back = h.back;
      whole = ap (λ (l : List PDecl). x ∷ l) h.whole;
      put = λ ds. ap (λ c. if c then ds ++ x ∷ xs else x ∷ behind_own names ds xs) e ∙ ap (λ (l : List PDecl). x ∷ l) (h.put ds);
    }

-- an instance of INTEGER_IO stands behind all of these
abbrev pub instances : Bool → List PDecl → Bool
instances b [] = b
instances b (d ∷ ds) = instances (instance_behind b d) ds

pub plains-append : (here : List ℕ) (b : Bool) (xs ys : List PDecl) →
    plains_names here b (xs ++ ys) ≡ plains_names here b xs ++ plains_names (with_words here (flat_map names_declared xs)) (instances b xs) ys
plains-append here b [] ys = refl
plains-append here b (x ∷ xs) ys =
    ap (λ (l : List Naming). plain_names here b x ++ l)
    (plains-append (with_words here (names_declared x)) (instance_behind b x) xs ys
    ∙ ap (λ (l : List ℕ). plains_names (with_words here (names_declared x)) (instance_behind b x) xs ++ plains_names l (instances (instance_behind b x) xs) ys)
    (sym (words-joined here (names_declared x) (flat_map names_declared xs))))
    ∙ sym
    (append_assoc (plain_names here b x) (plains_names (with_words here (names_declared x)) (instance_behind b x) xs)
    (plains_names (with_words here (flat_map names_declared (x ∷ xs))) (instances b (x ∷ xs)) ys))

-- where none declares an instance, it is as before, and what they name does not hang on one
same-instance : (b : Bool) (d : PDecl) → is_int_io d ≡ false → instance_behind b d ≡ b
same-instance b (DNumber w e s) h = refl
same-instance b (DObject ws c x i s) h = refl
same-instance b (DEnumeration w ws s) h = refl
same-instance b (DArray w r x s) h = refl
same-instance b (DSubtype w x s) h = refl
same-instance b (DException ws s) h = refl
same-instance b (DIntIo w s) h = absurd (true≢false h)
same-instance b (DPragma e s) h = refl
same-instance b (DTask t s) h = refl
same-instance b (DTaskBody w objects its s) h = refl

pub none-instances : (b : Bool) (ds : List PDecl) → list_any is_int_io ds ≡ false → instances b ds ≡ b
none-instances b [] h = refl
none-instances b (d ∷ ds) h = let r = or_parts (is_int_io d) (list_any is_int_io ds) h in none-instances (instance_behind b d) ds r.1 ∙ same-instance b d r.0

plain-any : (here : List ℕ) (a b : Bool) (d : PDecl) → is_int_io d ≡ false → plain_names here a d ≡ plain_names here b d
plain-any here a b (DNumber w e s) h = refl
plain-any here a b (DObject ws c x i s) h = refl
plain-any here a b (DEnumeration w ws s) h = refl
plain-any here a b (DArray w r x s) h = refl
plain-any here a b (DSubtype w x s) h = refl
plain-any here a b (DException ws s) h = refl
plain-any here a b (DIntIo w s) h = absurd (true≢false h)
plain-any here a b (DPragma e s) h = refl
plain-any here a b (DTask t s) h = refl
plain-any here a b (DTaskBody w objects its s) h = refl

pub plains-any : (here : List ℕ) (a b : Bool) (ds : List PDecl) → list_any is_int_io ds ≡ false → plains_names here a ds ≡ plains_names here b ds
plains-any here a b [] h = refl
plains-any here a b (d ∷ ds) h =
    let r = or_parts (is_int_io d) (list_any is_int_io ds) h in
    ap₂ (λ (k l : List Naming). k ++ l) (plain-any here a b d r.0)
    (ap (λ c. plains_names (with_words here (names_declared d)) c ds) (same-instance a d r.0)
    ∙ plains-any (with_words here (names_declared d)) a b ds r.1
    ∙ ap (λ c. plains_names (with_words here (names_declared d)) c ds) (sym (same-instance b d r.0)))

pub any-parts : (f : PDecl → Bool) (xs ys : List PDecl) → list_any f (xs ++ ys) ≡ false → (list_any f xs ≡ false) × (list_any f ys ≡ false)
any-parts f [] ys h = (refl, h)
any-parts f (x ∷ xs) ys h =
    let r = or_parts (f x) (list_any f (xs ++ ys)) h in
    let q = any-parts f xs ys r.1 in
    (or_from (f x) (list_any f xs) r.0 q.0, q.1)

-- ---- behind more names

module _ (F X' : List ℕ) where
  abbrev Fine : Naming → Type 0
  Fine = IsGood F X'

  plain-same : (here more : List ℕ) (inst : Bool) → IsGrown F X' here more → (d : PDecl) → IsPlain d → AllByRecursion Fine (plain_names here inst d) →
      IsSame F X' (plain_names here inst d) (plain_names more inst d)
  plain-same here more inst g (DTask t sp) p h = absurd p
  plain-same here more inst g (DTaskBody w objects its sp) p h = absurd p
  plain-same here more inst g (DNumber w e sp) p h = declared-same F X' true here more g (w ∷ []) h
  plain-same here more inst g (DObject ws c x i sp) p h = declared-same F X' c here more g ws h
  plain-same here more inst g (DEnumeration w ws sp) p h = declared-same F X' true here more g (w ∷ ws) h
  plain-same here more inst g (DArray w r x sp) p h = declared-same F X' true here more g (w ∷ []) h
  plain-same here more inst g (DSubtype w x sp) p h = declared-same F X' true here more g (w ∷ []) h
  plain-same here more inst g (DException ws sp) p h = declared-same F X' true here more g ws h
  plain-same here more inst g (DIntIo w sp) p h =
      same-then F X' (Once inst w) (Once inst w) (declared true here (w ∷ [])) (declared true more (w ∷ [])) h.0.0 refl (declared-same F X' true here more g (w ∷ []) h.1)
  plain-same here more inst g (DPragma e sp) p h = record { fit = tt; fixed = refl }

  pub plains-same : (here more : List ℕ) (inst : Bool) → IsGrown F X' here more → (ds : List PDecl) → AllByRecursion IsPlain ds → AllByRecursion Fine (plains_names here inst ds) →
      IsSame F X' (plains_names here inst ds) (plains_names more inst ds)
  plains-same here more inst g [] p h = record { fit = tt; fixed = refl }
  plains-same here more inst g (d ∷ ds) p h =
      let later : List Naming = plains_names (with_words here (names_declared d)) (instance_behind inst d) ds in
      same-joined F X' (plain_names here inst d) (plain_names more inst d) later _ (plain-same here more inst g d p.0 (all_front Fine (plain_names here inst d) later h))
      (plains-same (with_words here (names_declared d)) (with_words more (names_declared d)) (instance_behind inst d) (grown-words F X' here more g (names_declared d)) ds p.1
      (all_back Fine (plain_names here inst d) later h))

-- ---- variables

-- an object that is no constant
abbrev pub IsVariable : PDecl → Type 0
IsVariable (DObject ws false x i s) = Unit {0}
IsVariable d = ⊥

pub variables-plain : (ds : List PDecl) → AllByRecursion IsVariable ds → AllByRecursion IsPlain ds
variables-plain [] h = tt
variables-plain (DObject ws false x i s ∷ ds) h = (tt, variables-plain ds h.1)
variables-plain (d ∷ ds) h = absurd h.0

-- an instance stands behind them where one stands before
pub variables-instances : (b : Bool) (ds : List PDecl) → AllByRecursion IsVariable ds → instances b ds ≡ b
variables-instances b [] h = refl
variables-instances b (DObject ws false x i s ∷ ds) h = variables-instances b ds h.1
variables-instances b (d ∷ ds) h = absurd h.0

-- they declare their words, and name nothing else
pub variables-words : (ds : List PDecl) → AllByRecursion IsVariable ds → flat_map names_declared ds ≡ flat_map object_words ds
variables-words [] h = refl
variables-words (DObject ws false x i s ∷ ds) h = ap (λ (l : List Word). ws ++ l) (variables-words ds h.1)
variables-words (d ∷ ds) h = absurd h.0

pub variables-names : (here : List ℕ) (b : Bool) (ds : List PDecl) → AllByRecursion IsVariable ds → plains_names here b ds ≡ declared false here (flat_map object_words ds)
variables-names here b [] h = refl
variables-names here b (DObject ws false x i s ∷ ds) h =
    ap (λ (l : List Naming). declared false here ws ++ l) (variables-names (with_words here ws) b ds h.1) ∙ sym (declared_append false here ws (flat_map object_words ds))
variables-names here b (d ∷ ds) h = absurd h.0
