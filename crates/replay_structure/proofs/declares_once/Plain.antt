-- What the declarations of main that are no tasks and no bodies declare, and how this grows where the variables of a permit stand among them.
use Rattle.std.proofs.Common.{◌≡◌, ℕ, Bool, true, false, ◌||◌, ◌&&◌, if◌then◌else◌, List, [], ◌∷◌, ◌++◌, flat_map, Some, refl, sym, ap, ap₂, ◌∙◌, subst}
use Rattle.std.specs.List.{AllByRecursion}
use Rattle.std.proofs.lemmas.List.{append_assoc, map-append}
use Rattle.std.proofs.lemmas.Grind.{flat_map-append}
use Rattle.ada_tree.specs.declared.naming.Span.{Span}
use Rattle.ada_tree.specs.declared.naming.Word.{Word}
use Rattle.ada_tree.specs.PlainDecl.{PShape, PInit, PTask, PDecl, DNumber, DObject, DEnumeration, DArray, DSubtype, DException, DIntIo, DPragma, DTask, DTaskBody, decls_of}
use Rattle.ada_static_rules.specs.RuleDuplicate.{is_predefined}
use Rattle.ada_static_rules.specs.Scope.{Scope, integer_kind}
use Rattle.ada_static_rules.specs.Declaring.{declared_object, after_decl, after_decls}
use Rattle.ada_static_rules.specs.Sites.{with_words, decl_sites, decls_sites}
use Rattle.task_laws.specs.legal.rewritten_types.Rewriting.{names_declared}
use Rattle.replay_model.specs.ReplayTree.{is_added_object, behind_own}
use Rattle.normal_laws.proofs.structure.numbers.Listed.{IsPlain}
use Rattle.ada_decl_rules.specs.duplicates.NamingsInOrder.{namings_of, declared}
use Rattle.ada_decl_rules.specs.declared.duplicates.namings_in_order.Naming.{Naming}
use Rattle.ada_decl_rules.specs.declared.duplicates.namings_in_order.Naming.TheVariants.{Once}
use Rattle.ada_decl_rules.proofs.duplicates.Noting.{quiet_static, namings_append, quiet_none, declared_append}
use Rattle.ada_decl_rules.proofs.duplicates.Behind.{with_names_is, still_in_main, array_is, instance_is, names_are, number_is, object_is, subtype_is}
use Rattle.common_lemmas.proofs.Lists.{all_front, all_back, all_joined}
use Rattle.normal_laws.specs.structure.once.Apart.{IsFreeOf, AreApart, AreDistinct, fixed_names, IsFitIn}
use Rattle.normal_laws.proofs.structure.once.Once.{free-front, free-back, free-both, apart-turned}
use Rattle.normal_laws.proofs.structure.once.TaskTypes.{HasTypes, types-after, no-task}
use Rattle.normal_laws.proofs.structure.once.FirstDecls.{here-after}
use Rattle.normal_laws.proofs.legality.declares_once.DeclaredNames.{word_ids, words-free, free-words}
use Rattle.replay_structure.proofs.declares_once.Grown.{declared-loose, IsGood, IsGrown, grown-words, IsSame, same-joined, same-then, good-fit, declared-same, declared-clear, declared-new}
use Rattle.common_lemmas.proofs.Truth.{or_false}
use Rattle.normal_laws.proofs.structure.once.Whole.{plain-kinds}

-- ---- by their text

-- what a declaration of main names behind names, where an instance of INTEGER_IO stands before or not
abbrev pub plain_names : List ℕ → Bool → PDecl → List Naming
plain_names here inst (DObject ws c x i s) = declared c here ws
plain_names here inst (DIntIo w s) = Once inst w ∷ declared true here (w ∷ [])
plain_names here inst d = declared true here (names_declared d)

-- an instance stands behind it
abbrev pub instance_behind : Bool → PDecl → Bool
instance_behind inst (DIntIo w s) = true
instance_behind inst _ = inst

abbrev pub plains_names : List ℕ → Bool → List PDecl → List Naming
plains_names here inst [] = []
plains_names here inst (d ∷ ds) = plain_names here inst d ++ plains_names (with_words here (names_declared d)) (instance_behind inst d) ds

-- a place of main, behind no task type
pub record IsOpen (s : Scope) : Type 0 where
  pub main : s.in_main ≡ true
  pub types : HasTypes [] s

open-after : (s : Scope) (d : PDecl) → IsPlain d → IsOpen s → IsOpen (after_decl s d)
open-after s d h o = record { main = still_in_main s d ∙ o.main; types = subst (λ (l : List PTask). HasTypes l (after_decl s d)) (plain-kinds d h) (types-after [] d s o.types) }

plain-is : (s : Scope) (d : PDecl) → IsPlain d → IsOpen s → namings_of (decl_sites s d) ≡ plain_names s.here s.has_instance d
plain-is s (DTask t sp) h o = absurd h
plain-is s (DTaskBody w objects its sp) h o = absurd h
plain-is s (DNumber w e sp) h o = number_is s w e sp
plain-is s (DObject ws c x i sp) h o =
    object_is s ws c x i (declared_object s c x) ∙ ap₂ (λ (a b : Bool). declared (a && (c || b)) s.here ws) o.main (no-task [] s c x o.types refl) ∙ ap (λ (a : Bool). declared a s.here ws) (or_false c)
plain-is s (DEnumeration w ws sp) h o = names_are true s (w ∷ ws)
plain-is s (DArray w r x sp) h o = array_is s w r x sp
plain-is s (DSubtype w x sp) h o = subtype_is s w x sp
plain-is s (DException ws sp) h o = names_are true s ws
plain-is s (DIntIo w sp) h o = instance_is s w sp
plain-is s (DPragma e sp) h o = quiet_static s (Some integer_kind) e

instance-after : (s : Scope) (d : PDecl) → (after_decl s d).has_instance ≡ instance_behind s.has_instance d
instance-after s (DNumber w e sp) = refl
instance-after s (DObject ws c x i sp) = ap (λ (t : Scope). t.has_instance) (with_names_is _ _ ws)
instance-after s (DEnumeration w ws sp) = ap (λ (t : Scope). t.has_instance) (with_names_is _ _ ws)
instance-after s (DArray w r x sp) = refl
instance-after s (DSubtype w x sp) = refl
instance-after s (DException ws sp) = ap (λ (t : Scope). t.has_instance) (with_names_is _ _ ws)
instance-after s (DIntIo w sp) = refl
instance-after s (DPragma e sp) = refl
instance-after s (DTask t sp) = refl
instance-after s (DTaskBody w objects its sp) = refl

pub plains-are : (ds : List PDecl) (s : Scope) → AllByRecursion IsPlain ds → IsOpen s → namings_of (decls_sites s (decls_of ds)) ≡ plains_names s.here s.has_instance ds
plains-are [] s h o = quiet_none
plains-are (d ∷ ds) s h o =
    namings_append (decl_sites s d) (decls_sites (after_decl s d) (decls_of ds))
    ∙ ap₂ (λ (a b : List Naming). a ++ b) (plain-is s d h.0 o)
    (plains-are ds (after_decl s d) h.1 (open-after s d h.0 o) ∙ ap₂ (λ (l : List ℕ) (b : Bool). plains_names l b ds) (here-after s d) (instance-after s d))

-- ---- words

pub words-joined : (here : List ℕ) (xs ys : List Word) → with_words here (xs ++ ys) ≡ with_words (with_words here xs) ys
words-joined here [] ys = refl
words-joined here (x ∷ xs) ys = words-joined (x.name.0 ∷ here) xs ys

pub here-behind : (ds : List PDecl) (s : Scope) → (after_decls s (decls_of ds)).here ≡ with_words s.here (flat_map names_declared ds)
here-behind [] s = refl
here-behind (d ∷ ds) s = here-behind ds (after_decl s d) ∙ ap (λ (l : List ℕ). with_words l (flat_map names_declared ds)) (here-after s d) ∙ sym (words-joined s.here (names_declared d) (flat_map names_declared ds))

-- names that are apart from those before and from those of words
pub apart-words : (X here : List ℕ) (ws : List Word) → AreApart here X → AreApart X (word_ids ws) → AreApart (with_words here ws) X
apart-words X here ws h k = each X h (apart-turned X (word_ids ws) k)
  where
    each : (xs : List ℕ) → AreApart here xs → AreApart (word_ids ws) xs → AreApart (with_words here ws) xs
    each [] h k = tt
    each (x ∷ xs) h k = (free-words here ws x h.0 k.0, each xs h.1 k.1)

-- Where one declaration is put among others, its words stand between those of the others.
pub record IsPut (before after new : List Word) : Type 0 where
  pub front : List Word
  pub back : List Word
  pub before_is : before ≡ front ++ back
  pub after_is : after ≡ front ++ (new ++ back)

pub words-put : (f : PDecl → List Word) (names : List (List ℕ)) (d : PDecl) (xs : List PDecl) → IsPut (flat_map f xs) (flat_map f (behind_own names d xs)) (f d)
words-put f names d [] = record { front = []; back = []; before_is = refl; after_is = refl }
words-put f names d (x ∷ xs) = by_test (is_added_object names x) (words-put f names d xs)
  where
    by_test : (b : Bool) → IsPut (flat_map f xs) (flat_map f (behind_own names d xs)) (f d) → IsPut (flat_map f (x ∷ xs)) (flat_map f (if b then d ∷ x ∷ xs else x ∷ behind_own names d xs)) (f d)
    by_test true h = record { front = []; back = f x ++ flat_map f xs; before_is = refl; after_is = refl }
    by_test false h = record {
      front = f x ++ h.front;
      back = h.back;
      before_is = ap (λ (l : List Word). f x ++ l) h.before_is ∙ sym (append_assoc (f x) h.front h.back);
      after_is = ap (λ (l : List Word). f x ++ l) h.after_is ∙ sym (append_assoc (f x) h.front (f d ++ h.back));
    }

-- a name that is free of the words of all, and of the new ones
put-free : (before after new : List Word) → IsPut before after new → (x : ℕ) → IsFreeOf (word_ids new) x → IsFreeOf (word_ids before) x → IsFreeOf (word_ids after) x
put-free before after new p x n h =
    let both : IsFreeOf (word_ids p.front ++ word_ids p.back) x = subst (λ (l : List ℕ). IsFreeOf l x) (ap word_ids p.before_is ∙ map-append (λ (w : Word). w.name.0) p.front p.back) h in
    subst (λ (l : List ℕ). IsFreeOf l x) (sym (ap word_ids p.after_is ∙ map-append (λ (w : Word). w.name.0) p.front (new ++ p.back) ∙ ap (λ (l : List ℕ). word_ids p.front ++ l) (map-append (λ (w : Word). w.name.0) new p.back)))
    (free-both (word_ids p.front) (word_ids new ++ word_ids p.back) x (free-front (word_ids p.front) (word_ids p.back) x both) (free-both (word_ids new) (word_ids p.back) x n (free-back (word_ids p.front) (word_ids p.back) x both)))

pub put-here : (here : List ℕ) (before after new : List Word) → IsPut before after new → (x : ℕ) → IsFreeOf (word_ids new) x → IsFreeOf (with_words here before) x → IsFreeOf (with_words here after) x
put-here here before after new p x n h = let r = words-free here before x h in free-words here after x r.0 (put-free before after new p x n r.1)

-- ---- the variables of a permit

-- New words, which are no predefined or fixed names, and all among the new names.
pub record AreFresh (F X : List ℕ) (new : List Word) : Type 0 where
  pub fresh : AllByRecursion (λ (w : Word). (is_predefined w.name.0 ≡ false) × IsFreeOf F w.name.0) new
  pub distinct : AreDistinct (word_ids new)
  pub apart : (here : List ℕ) → AreApart here X → AreApart here (word_ids new)
  pub clear : (x : ℕ) → IsFreeOf X x → IsFreeOf (word_ids new) x

module _ (F X : List ℕ) (new : List Word) (are : AreFresh F X new) where
  abbrev Good : Naming → Type 0
  Good = IsGood F X

  abbrev Same : List Naming → List Naming → Type 0
  Same = IsSame F X

  new-fit : (here : List ℕ) → AreApart here X → AllByRecursion (IsFitIn F) (declared false here new)
  new-fit here a = declared-new F X here new are.fresh (are.apart here a) are.distinct

  -- behind them
  grown-new : (here : List ℕ) → IsGrown F X here (with_words here new)
  grown-new here x c h = free-words here new x h (are.clear x c)

  -- new variables in front
  same-new : (here : List ℕ) → AreApart here X → (A B : List Naming) → Same A B → Same A (declared false here new ++ B)
  same-new here a A B h = record {
    fit = all_joined (IsFitIn F) (declared false here new) B (new-fit here a) h.fit;
    fixed = flat_map-append _ (declared false here new) B ∙ ap (λ (l : List ℕ). l ++ fixed_names B) (declared-loose here new) ∙ h.fixed;
  }

  -- ---- in a body

  pub put-same : (before after : List Word) → IsPut before after new → AllByRecursion Good (declared false [] before) → Same (declared false [] before) (declared false [] after)
  put-same before after p g = subst (λ (l : List Word). Same (declared false [] l) (declared false [] after)) (sym p.before_is) (subst (λ (l : List Word). Same (declared false [] (p.front ++ p.back)) (declared false [] l)) (sym p.after_is) joined)
    where
      front : List ℕ
      front = with_words [] p.front

      split : AllByRecursion Good (declared false [] p.front ++ declared false front p.back)
      split = subst (AllByRecursion Good) (ap (declared false []) p.before_is ∙ declared_append false [] p.front p.back) g

      first : AllByRecursion Good (declared false [] p.front)
      first = all_front Good (declared false [] p.front) (declared false front p.back) split

      later : Same (declared false front p.back) (declared false front new ++ declared false (with_words front new) p.back)
      later =
          same-new front (apart-words X [] p.front (nothing X) (declared-clear F X false [] p.front first)) (declared false front p.back) (declared false (with_words front new) p.back)
          (declared-same F X false front (with_words front new) (grown-new front) p.back (all_back Good (declared false [] p.front) (declared false front p.back) split))
        where
          nothing : (xs : List ℕ) → AreApart [] xs
          nothing [] = tt
          nothing (x ∷ xs) = (refl, nothing xs)

      joined : Same (declared false [] (p.front ++ p.back)) (declared false [] (p.front ++ (new ++ p.back)))
      joined =
          subst (λ (l : List Naming). Same l (declared false [] (p.front ++ (new ++ p.back)))) (sym (declared_append false [] p.front p.back))
          (subst (λ (l : List Naming). Same (declared false [] p.front ++ declared false front p.back) l)
          (sym (declared_append false [] p.front (new ++ p.back) ∙ ap (λ (l : List Naming). declared false [] p.front ++ l) (declared_append false front new p.back)))
          (same-joined F X (declared false [] p.front) (declared false [] p.front) _ _ record { fit = good-fit F X (declared false [] p.front) first; fixed = refl } later))

  -- ---- among the declarations of main

  plain-same : (here more : List ℕ) (inst : Bool) → IsGrown F X here more → (d : PDecl) → IsPlain d → AllByRecursion Good (plain_names here inst d) → Same (plain_names here inst d) (plain_names more inst d)
  plain-same here more inst g (DTask t sp) p h = absurd p
  plain-same here more inst g (DTaskBody w objects its sp) p h = absurd p
  plain-same here more inst g (DNumber w e sp) p h = declared-same F X true here more g (w ∷ []) h
  plain-same here more inst g (DObject ws c x i sp) p h = declared-same F X c here more g ws h
  plain-same here more inst g (DEnumeration w ws sp) p h = declared-same F X true here more g (w ∷ ws) h
  plain-same here more inst g (DArray w r x sp) p h = declared-same F X true here more g (w ∷ []) h
  plain-same here more inst g (DSubtype w x sp) p h = declared-same F X true here more g (w ∷ []) h
  plain-same here more inst g (DException ws sp) p h = declared-same F X true here more g ws h
  plain-same here more inst g (DIntIo w sp) p h =
      same-then F X (Once inst w) (Once inst w) (declared true here (w ∷ [])) (declared true more (w ∷ [])) h.0.0 refl (declared-same F X true here more g (w ∷ []) h.1)
  plain-same here more inst g (DPragma e sp) p h = record { fit = tt; fixed = refl }

  plains-same : (here more : List ℕ) (inst : Bool) → IsGrown F X here more → (ds : List PDecl) → AllByRecursion IsPlain ds → AllByRecursion Good (plains_names here inst ds) → Same (plains_names here inst ds) (plains_names more inst ds)
  plains-same here more inst g [] p h = record { fit = tt; fixed = refl }
  plains-same here more inst g (d ∷ ds) p h =
      let later : List Naming = plains_names (with_words here (names_declared d)) (instance_behind inst d) ds in
      same-joined F X (plain_names here inst d) (plain_names more inst d) later _ (plain-same here more inst g d p.0 (all_front Good (plain_names here inst d) later h))
      (plains-same (with_words here (names_declared d)) (with_words more (names_declared d)) (instance_behind inst d) (grown-words F X here more g (names_declared d)) ds p.1 (all_back Good (plain_names here inst d) later h))

  plain-clear : (here : List ℕ) (inst : Bool) (d : PDecl) → IsPlain d → AllByRecursion Good (plain_names here inst d) → AreApart X (word_ids (names_declared d))
  plain-clear here inst (DTask t sp) p h = absurd p
  plain-clear here inst (DTaskBody w objects its sp) p h = absurd p
  plain-clear here inst (DNumber w e sp) p h = declared-clear F X true here (w ∷ []) h
  plain-clear here inst (DObject ws c x i sp) p h = declared-clear F X c here ws h
  plain-clear here inst (DEnumeration w ws sp) p h = declared-clear F X true here (w ∷ ws) h
  plain-clear here inst (DArray w r x sp) p h = declared-clear F X true here (w ∷ []) h
  plain-clear here inst (DSubtype w x sp) p h = declared-clear F X true here (w ∷ []) h
  plain-clear here inst (DException ws sp) p h = declared-clear F X true here ws h
  plain-clear here inst (DIntIo w sp) p h = declared-clear F X true here (w ∷ []) h.1
  plain-clear here inst (DPragma e sp) p h = tt

  -- behind them all
  pub plains-clear : (here : List ℕ) (inst : Bool) (ds : List PDecl) → AllByRecursion IsPlain ds → AllByRecursion Good (plains_names here inst ds) → AreApart here X → AreApart (with_words here (flat_map names_declared ds)) X
  plains-clear here inst [] p h a = a
  plains-clear here inst (d ∷ ds) p h a =
      let later : List Naming = plains_names (with_words here (names_declared d)) (instance_behind inst d) ds in
      subst (λ (l : List ℕ). AreApart l X) (sym (words-joined here (names_declared d) (flat_map names_declared ds)))
      (plains-clear (with_words here (names_declared d)) (instance_behind inst d) ds p.1 (all_back Good (plain_names here inst d) later h)
      (apart-words X here (names_declared d) a (plain-clear here inst d p.0 (all_front Good (plain_names here inst d) later h))))

  module _ (names : List (List ℕ)) (x : PShape) (i : PInit) (s : Span) where
    abbrev permit : PDecl
    permit = DObject new false x (Some i) s

    pub plains-put : (here : List ℕ) (inst : Bool) (ds : List PDecl) → AllByRecursion IsPlain ds → AreApart here X → AllByRecursion Good (plains_names here inst ds) →
        Same (plains_names here inst ds) (plains_names here inst (behind_own names permit ds))
    plains-put here inst [] p a h = same-new here a [] [] record { fit = tt; fixed = refl }
    plains-put here inst (d ∷ ds) p a h = by_test (is_added_object names d) (λ q. plains-put (with_words here (names_declared d)) (instance_behind inst d) ds p.1 q (all_back Good (plain_names here inst d) later h))
      where
        later : List Naming
        later = plains_names (with_words here (names_declared d)) (instance_behind inst d) ds

        by_test : (b : Bool) →
            (AreApart (with_words here (names_declared d)) X → Same later (plains_names (with_words here (names_declared d)) (instance_behind inst d) (behind_own names permit ds))) →
            Same (plains_names here inst (d ∷ ds)) (plains_names here inst (if b then permit ∷ d ∷ ds else d ∷ behind_own names permit ds))
        by_test true k = same-new here a (plains_names here inst (d ∷ ds)) (plains_names (with_words here new) inst (d ∷ ds)) (plains-same here (with_words here new) inst (grown-new here) (d ∷ ds) p h)
        by_test false k =
            same-joined F X (plain_names here inst d) (plain_names here inst d) later _
            record { fit = good-fit F X (plain_names here inst d) (all_front Good (plain_names here inst d) later h); fixed = refl }
            (k (apart-words X here (names_declared d) a (plain-clear here inst d p.0 (all_front Good (plain_names here inst d) later h))))
