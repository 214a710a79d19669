-- The objects of a body in a collecting text of a program with abort statements, with DED_G, DED_W and the variables of the places among them: the scopes behind them in both texts, and their places.
use Rattle.std.proofs.Common.{Bool, List, [], ap, false, if◌then◌else◌, length, refl, subst, sym, take, true, ℕ, ◌++◌, ◌∙◌, ◌∷◌, ◌≡◌, ◌≤◌}
use Rattle.std.specs.List.{AllByRecursion}
use Rattle.common_lemmas.proofs.Lists.{all_back, all_front, all_joined}
use Rattle.ada_tree.specs.NameList.{predefined}
use Rattle.ada_tree.specs.PlainDecl.{PDecl, decl_then, decls_of, no_decl}
use Rattle.ada_tree.specs.PlainProgram.{PProgram}
use Rattle.ada_tree.specs.TypeTable.{TypeTable}
use Rattle.ada_tree.specs.declared.naming.Span.{Span}
use Rattle.ada_static_rules.specs.Declaring.{after_decls, after_objects, after_own_object}
use Rattle.ada_static_rules.specs.Scope.{Scope}
use Rattle.ada_static_rules.specs.Sites.{own_object_sites, own_sites}
use Rattle.task_model.specs.Setting.{Setting}
use Rattle.task_laws.proofs.legal.rewritten_types.Adding.{keeps-objects}
use Rattle.task_laws.specs.legal.alike_scopes.Laws.{IsMetBut}
use Rattle.normal_model.specs.NormalTree.{main_unit}
use Rattle.normal_laws.proofs.structure.typed.Variables.{AllMetBut}
use Rattle.replay_model.specs.ReplayTree.{is_added_object}
use Rattle.replay_structure.specs.scopes.Form.{HasOldInit, IsOwnObject}
use Rattle.collect_model.specs.CollectTree.{behind_own, unit_declared}
use Rattle.collect_model.specs.Names.{added_in, collect_names, recorder_text}
use Rattle.collect_model.specs.declared.AddedNames.{AddedNames}
use Rattle.collect_structure.proofs.scopes.Inner.{IsInner, IsUnit, inner-step, objects-told as plain-told, unit-kept, own-apart, object-site}
use Rattle.collect_structure.proofs.scopes.Language.{own-means}
use Rattle.collect_structure.specs.Names as collect
use Rattle.collect_structure.specs.scopes.Form.{AreNamesNew, DeclaresNew}
use Rattle.collect_model.specs.aborts.AbortTeller.{AbortTeller, told_in}
use Rattle.collect_model.specs.aborts.AbortTree.{places_declared}
use Rattle.collect_model.specs.aborts.Places.{most_places}
use Rattle.collect_structure.proofs.aborts.scopes.Main.{behind, behind-grown, behind-has, behind-knows, behind-main, behind-means, behind-unit, recorder-apart}
use Rattle.collect_structure.proofs.aborts.scopes.Places.{AreValueless, EachPlace, HasPlaces, Stay, each-place, places-on, valueless-kept}
use Rattle.collect_structure.proofs.aborts.typed.Declared.{own-places-behind}
use Rattle.collect_structure.proofs.aborts.typed.Language.{unit-met}
use Rattle.collect_structure.proofs.aborts.typed.Names.{told-teller}
use Rattle.collect_structure.proofs.aborts.typed.Typed.{telling_by}
use Rattle.collect_structure.specs.aborts.scopes.Text.{main_told}
use Rattle.collect_structure.specs.aborts.typed.Told.{AreNewPlaces}

-- ---- lists of objects

pub objects-joined : (ys zs : List PDecl) (d : Scope) → after_objects d (decls_of (ys ++ zs)) ≡ after_objects (after_objects d (decls_of ys)) (decls_of zs)
objects-joined [] zs d = refl
objects-joined (y ∷ ys) zs d = objects-joined ys zs (after_own_object d y)

sites-joined : (ys zs : List PDecl) (d : Scope) → AllMetBut (own_sites d (decls_of ys)) → AllMetBut (own_sites (after_objects d (decls_of ys)) (decls_of zs)) →
    AllMetBut (own_sites d (decls_of (ys ++ zs)))
sites-joined [] zs d h k = k
sites-joined (y ∷ ys) zs d h k =
    all_joined IsMetBut (own_object_sites d y) (own_sites (after_own_object d y) (decls_of (ys ++ zs)))
    (all_front IsMetBut (own_object_sites d y) (own_sites (after_own_object d y) (decls_of ys)) h)
    (sites-joined ys zs (after_own_object d y) (all_back IsMetBut (own_object_sites d y) (own_sites (after_own_object d y) (decls_of ys)) h) k)

-- What main is told is what it is told by the same names without aborts.
pub main-told-is : (g : Setting) → told_in (main_unit g) ≡ main_told g
main-told-is g = ap (telling_by (told_in (main_unit g))) (told-teller g 0)

module _ (g : Setting) (old : ℕ → Bool) (new : AreNamesNew g old) (fresh : EachPlace g (λ id. old id.0 ≡ false)) where
  abbrev q : PProgram
  q = g.program

  abbrev x : AbortTeller
  x = main_told g

  abbrev most : ℕ
  most = most_places q

  abbrev n : AddedNames
  n = added_in (collect_names q)

  -- what a unit declares more
  abbrev pub added : Span → ℕ → List PDecl
  added s k = unit_declared n s ++ places_declared x s k

  -- ---- what is known between the objects

  -- In front of DED_G: what is known in a text without aborts, and that no variable of a place has a value.
  pub record IsWithin (c d : Scope) : Type 0 where
    pub plain : IsInner g old new c d
    pub valueless : AreValueless g d.types

  -- Behind the variables of the places they are seen too.
  pub record IsPlaced (k : ℕ) (c d : Scope) : Type 0 where
    pub plain : IsUnit g old new c d
    pub places : HasPlaces g k d

  own-stays : (y : PDecl) (d : Scope) → d.in_main ≡ false → IsOwnObject old y → EachPlace g (Stay g d (after_own_object d y))
  own-stays y d main o =
      each-place g (λ id. old id.0 ≡ false) (Stay g d (after_own_object d y)) (λ id e. (own-means id y d (own-apart g old new id e y o), keeps-objects (decl_then y no_decl) d main)) fresh

  within-step : (y : PDecl) (c d : Scope) → IsOwnObject old y → DeclaresNew y → IsWithin c d → IsWithin (after_own_object c y) (after_own_object d y)
  within-step y c d o m i = record {
    plain = inner-step g old new y c d o m i.plain;
    valueless = valueless-kept g d.types (after_own_object d y).types (λ p j. (keeps-objects (decl_then y no_decl) d i.plain.right, keeps-objects (decl_then y no_decl) d i.plain.right)) i.valueless;
  }

  placed-step : (k : ℕ) → k ≤ most → (y : PDecl) (c d : Scope) → IsOwnObject old y → DeclaresNew y → IsPlaced k c d → IsPlaced k (after_own_object c y) (after_own_object d y)
  placed-step k le y c d o m i = record { plain = unit-kept g old new y c d o m i.plain; places = places-on g k le d (after_own_object d y) (own-stays y d i.plain.right o) i.places }

  -- ---- what a unit declares more

  module _ (distinct : (types : TypeTable) → AreValueless g types → AreNewPlaces x most types) (s : Span) (k : ℕ) (le : k ≤ most) where
    module _ (c d : Scope) (i : IsWithin c d) where
      -- behind DED_W
      abbrev middle : Scope
      middle = after_objects d (decls_of (unit_declared n s))

      unit : IsUnit g old new c middle
      unit = plain-told g old new s [] c d tt tt i.plain

      valueless : AreValueless g middle.types
      valueless =
          valueless-kept g d.types middle.types
          (λ p j. (keeps-objects (decls_of (unit_declared n s)) d i.plain.right, keeps-objects (decls_of (unit_declared n s)) d i.plain.right)) i.valueless

      apart : AreNewPlaces x most middle.types
      apart = distinct middle.types valueless

      abbrev next : Scope
      next = behind g s k le middle unit.language apart

      placed : IsPlaced k c next
      placed = record {
        plain = record {
          left = unit.left;
          right = behind-main g s k le middle unit.language apart ∙ unit.right;
          grown = behind-grown g s k le middle unit.language apart old fresh c unit.grown;
          language = behind-knows g s k le middle unit.language apart;
          recorder = behind-means g s k le middle unit.language apart (collect.added_id q recorder_text) (recorder-apart g) ∙ unit.recorder;
          variables = behind-unit g s k le middle unit.language apart unit.variables;
        };
        places = behind-has g s k le middle unit.language apart valueless;
      }

      placed-there : IsPlaced k c (after_objects d (decls_of (added s k)))
      placed-there = subst (IsPlaced k c) (sym (own-places-behind x most s middle unit.language apart k le)) placed

    -- ---- the scope behind all objects

    objects-kept : (xs : List PDecl) (c d : Scope) → AllByRecursion (IsOwnObject old) xs → AllByRecursion DeclaresNew xs → IsPlaced k c d →
        IsPlaced k (after_objects c (decls_of xs)) (after_objects d (decls_of xs))
    objects-kept [] c d o m i = i
    objects-kept (y ∷ xs) c d o m i = objects-kept xs (after_own_object c y) (after_own_object d y) o.1 m.1 (placed-step k le y c d o.0 m.0 i)

    pub objects-told : (xs : List PDecl) (c d : Scope) → AllByRecursion (IsOwnObject old) xs → AllByRecursion DeclaresNew xs → IsWithin c d →
        IsPlaced k (after_objects c (decls_of xs)) (after_objects d (decls_of (behind_own q.names (added s k) xs)))
    objects-told [] c d o m i = placed-there c d i
    objects-told (y ∷ xs) c d o m i = by_test (is_added_object q.names y) (objects-told xs (after_own_object c y) (after_own_object d y) o.1 m.1 (within-step y c d o.0 m.0 i))
      where
        by_test : (b : Bool) → IsPlaced k (after_objects (after_own_object c y) (decls_of xs)) (after_objects (after_own_object d y) (decls_of (behind_own q.names (added s k) xs))) →
            IsPlaced k (after_objects c (decls_of (y ∷ xs))) (after_objects d (decls_of (if b then (added s k) ++ y ∷ xs else y ∷ behind_own q.names (added s k) xs)))
        by_test true later =
            subst (IsPlaced k (after_objects c (decls_of (y ∷ xs)))) (sym (objects-joined (added s k) (y ∷ xs) d))
            (objects-kept (y ∷ xs) c (after_objects d (decls_of (added s k))) o m (placed-there c d i))
        by_test false later = later

    -- ---- places

    objects-stay : (xs : List PDecl) (c d : Scope) → AllByRecursion (IsOwnObject old) xs → AllByRecursion (HasOldInit old) xs → AllByRecursion DeclaresNew xs →
        IsPlaced k c d → AllMetBut (own_sites c (decls_of xs)) → AllMetBut (own_sites d (decls_of xs))
    objects-stay [] c d o i m u h = tt
    objects-stay (y ∷ xs) c d o i m u h =
        all_joined IsMetBut (own_object_sites d y) _
        (object-site g old new y c d u.plain.left u.plain.right u.plain.grown o.0 i.0 (all_front IsMetBut (own_object_sites c y) (own_sites (after_own_object c y) (decls_of xs)) h))
        (objects-stay xs (after_own_object c y) (after_own_object d y) o.1 i.1 m.1 (placed-step k le y c d o.0 m.0 u)
        (all_back IsMetBut (own_object_sites c y) (own_sites (after_own_object c y) (decls_of xs)) h))

    module _ (begins : take (length predefined) q.names ≡ predefined) where
      -- what a unit declares more
      added-met : (c d : Scope) → IsWithin c d → AllMetBut (own_sites d (decls_of (added s k)))
      added-met c d i =
          subst
          (λ (y : AbortTeller).
          AreNewPlaces y most (after_decls d (decls_of (unit_declared y.teller.added s))).types →
          AllMetBut (own_sites d (decls_of (unit_declared y.teller.added s ++ places_declared y s k))))
          (main-told-is g) (unit-met g 0 begins s d i.plain.language most k le) (apart c d i)

      pub objects-met : (xs : List PDecl) (c d : Scope) → AllByRecursion (IsOwnObject old) xs → AllByRecursion (HasOldInit old) xs → AllByRecursion DeclaresNew xs → IsWithin c d →
          AllMetBut (own_sites c (decls_of xs)) → AllMetBut (own_sites d (decls_of (behind_own q.names (added s k) xs)))
      objects-met [] c d o i m u h = added-met c d u
      objects-met (y ∷ xs) c d o i m u h =
          by_test (is_added_object q.names y)
          (all_joined IsMetBut (own_object_sites d y) _
          (object-site g old new y c d u.plain.left u.plain.right u.plain.grown o.0 i.0 (all_front IsMetBut (own_object_sites c y) (own_sites (after_own_object c y) (decls_of xs)) h))
          (objects-met xs (after_own_object c y) (after_own_object d y) o.1 i.1 m.1 (within-step y c d o.0 m.0 u)
          (all_back IsMetBut (own_object_sites c y) (own_sites (after_own_object c y) (decls_of xs)) h)))
        where
          by_test : (b : Bool) → AllMetBut (own_sites d (decls_of (y ∷ behind_own q.names (added s k) xs))) →
              AllMetBut (own_sites d (decls_of (if b then (added s k) ++ y ∷ xs else y ∷ behind_own q.names (added s k) xs)))
          by_test true later = sites-joined (added s k) (y ∷ xs) d (added-met c d u) (objects-stay (y ∷ xs) c (after_objects d (decls_of (added s k))) o i m (placed-there c d u) h)
          by_test false later = later
