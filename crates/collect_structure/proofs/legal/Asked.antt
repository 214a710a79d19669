-- The statements of a unit of a normal form are as its collecting text asks, where they are as a replay text asks, what they declare has no static
-- value, and no index of an accept is hidden.
use Rattle.std.proofs.Common.{Bool, IfSome, List, None, Option, Some, [], ap, ap₂, false, is_none, is_some, not, refl, subst, true, ℕ, ℤ, ◌&&◌, ◌+◌, ◌∷◌, ◌≡◌}
use Rattle.common_lemmas.proofs.Lists.{all_back, all_front}
use Rattle.common_lemmas.proofs.Truth.{both_true}
use Rattle.ada_tree.specs.Every.{EveryBody, EveryExpr}
use Rattle.ada_tree.specs.PlainExpr.{EAttribute, EAttributeOf, EBinary, EIndex, EInteger, EName, EParen, EUnary, PExpr}
use Rattle.ada_tree.specs.PlainProgram.{PProgram}
use Rattle.ada_tree.specs.PlainStmt.{LFor, LWhile, PBody, PHead, PScheme}
use Rattle.ada_tree.specs.TypeTable.{TypeTable}
use Rattle.ada_tree.specs.declared.naming.Word.{Word}
use Rattle.ada_static_rules.specs.Declaring.{inner_scope, with_formals}
use Rattle.ada_static_rules.specs.Demand.{Site, labels}
use Rattle.ada_static_rules.specs.Refusals.{types_in}
use Rattle.ada_static_rules.specs.Scope.{Scope, entry_named, meaning}
use Rattle.ada_static_rules.specs.Sites.{accept_index_sites, all_names, body_sites, callee_sites, condition_sites, formal_mark_sites, formals_sites, handler_names_sites, head_sites, if_there, loop_scope, names_sites, scheme_sites, site, stmt_sites}
use Rattle.ada_static_rules.specs.StaticValue.{value_named}
use Rattle.task_laws.proofs.legal.asked.Placed.{placed_asked}
use Rattle.task_laws.proofs.legal.asked.Together.{both_asked}
use Rattle.task_laws.proofs.legal.asked.Typed.{typed_asked}
use Rattle.task_laws.specs.legal.alike_scopes.Laws.{IsMetBut}
use Rattle.task_laws.specs.legal.alike_scopes.Old.{IsOldExpr}
use Rattle.task_laws.specs.legal.asked.Asked.{AskedBody, Asks}
use Rattle.task_laws.specs.legal.asked.Kinds.{both, place_asks, type_asks}
use Rattle.normal_laws.proofs.structure.typed.Stays.{old-expr}
use Rattle.normal_laws.proofs.structure.typed.Variables.{AllMetBut}
use Rattle.normal_laws.specs.structure.checked.Around.{own_rules}
use Rattle.replay_structure.proofs.scopes.Weaker.{AsksLess, asked_less}
use Rattle.replay_structure.specs.typed.ScopeOf.{AreInner, IsInnerScheme, IsSingle, form_asks}
use Rattle.collect_structure.proofs.legal.Indices.{index_asks}
use Rattle.collect_structure.specs.scopes.Inner.{AllFree, DeclaresFree, inner_told}
use Rattle.collect_structure.specs.typed.Told.{told_asks, unhidden}
use Rattle.replay_structure.specs.legal.names.form_units.Inner.{inner_name}

-- names that are old and not inner
unhidden-expr : (old inner : ℕ → Bool) (e : PExpr) → IsOldExpr old e → IsOldExpr (λ n. not (inner n)) e → IsOldExpr (unhidden old inner) e
unhidden-expr old inner (EInteger n s) h k = tt
unhidden-expr old inner (EName id s) h k = both_true (old id.0) (not (inner id.0)) h k
unhidden-expr old inner (EIndex w e s) h k = (both_true (old w.name.0) (not (inner w.name.0)) h.0 k.0, unhidden-expr old inner e h.1 k.1)
unhidden-expr old inner (EAttribute m w s) h k = both_true (old m.name.0) (not (inner m.name.0)) h k
unhidden-expr old inner (EAttributeOf m w e s) h k = (both_true (old m.name.0) (not (inner m.name.0)) h.0 k.0, unhidden-expr old inner e h.1 k.1)
unhidden-expr old inner (EParen e s) h k = unhidden-expr old inner e h k
unhidden-expr old inner (EUnary op e s) h k = unhidden-expr old inner e h k
unhidden-expr old inner (EBinary op l r s) h k = (unhidden-expr old inner l h.0 k.0, unhidden-expr old inner r h.1 k.1)

module _ (p : PProgram) (old older : ℕ → Bool) where
  abbrev T : TypeTable
  T = types_in p

  abbrev Free : Site → Type 0
  Free x = DeclaresFree T x.demand

  abbrev C : Type 0
  C = (Prim.Unit {0} × (Prim.Unit {0} × Scope)) × (Scope × Prim.Unit {0})

  abbrev a : Asks C
  a = both (both (place_asks (own_rules old)) (form_asks older (inner_name p))) (both (type_asks Free) (index_asks p))

  abbrev b : Asks (Prim.Unit {0} × Scope)
  b = told_asks old (inner_told p)

  abbrev R : C → Prim.Unit {0} × Scope → Type 0
  R c d = (c.0.1.1 ≡ d.1) × (c.1.0 ≡ d.1)

  -- ---- what is declared

  word-told : (w : Word) → inner_name p w.name.0 ≡ true → value_named T w.name ≡ None → inner_told p w.name.0 ≡ true
  word-told w i f = ap₂ (λ (x : Bool) (o : Option ℤ). x && is_none o) i f

  words-told : (ws : List Word) (s : Scope) → AreInner (inner_name p) ws → AllFree T (names_sites false s ws) → AreInner (inner_told p) ws
  words-told [] s i f = tt
  words-told (w ∷ ws) s i f = (word-told w i.0 f.0, words-told ws _ i.1 f.1)

  scheme-told : (c : Scope) (x : Option PScheme) → IfSome x (IsInnerScheme (inner_name p)) → AllFree T (if_there (scheme_sites c) x) → IfSome x (IsInnerScheme (inner_told p))
  scheme-told c None i f = tt
  scheme-told c (Some (LWhile e)) i f = tt
  scheme-told c (Some (LFor w backwards x)) i f = word-told w i f.0

  formals-told : (c : Scope) (h : PHead) → AreInner (inner_name p) (all_names h.formals) → AllFree T (head_sites c h) → AreInner (inner_told p) (all_names h.formals)
  formals-told c h i f =
      words-told (all_names h.formals) (inner_scope c) i
      (all_front Free (names_sites false (inner_scope c) (all_names h.formals)) (formal_mark_sites c h.formals)
      (all_back Free (if_there (accept_index_sites c (entry_named c.own h.entry.name)) h.index) (formals_sites c h.formals) f.1))

  -- ---- indices

  index-told : (k : ℕ) (o : Option PExpr) → IfSome o (EveryExpr (own_rules old) k) → IfSome o (IsOldExpr (λ n. not (inner_told p n))) → IfSome o (IsOldExpr (unhidden old (inner_told p)))
  index-told k None h i = tt
  index-told k (Some e) h i = unhidden-expr old (inner_told p) e (old-expr old k e h) i

  -- ---- one by one

  less : AsksLess a b R
  less = record {
    outer = λ c d k s r h. (h.0.0, tt);
    many = λ n h. (h.0.0, tt);
    duration = λ n h. (h.0.0, tt);
    plain = λ c d k x r h. (h.0.0, subst (λ s. AllMetBut (stmt_sites s x)) r.0 h.0.1.1);
    callee = λ c d k x r h. (h.0.0, subst (λ s. AllMetBut (callee_sites s x) × IsSingle (meaning s x.name.name)) r.0 h.0.1.1);
    call = λ c d k x r h. (h.0.0, subst (λ s. (type_asks IsMetBut).call s k x) r.0 h.0.1.1);
    aborts = λ c d k xs r h. (h.0.0, tt);
    condition = λ c d k e r h. (h.0.0, subst (λ s. AllMetBut (condition_sites s e)) r.0 h.0.1.1);
    selector = λ c d k e xs others s r h. (h.0.0, subst (λ t. (type_asks IsMetBut).selector t k e xs others s) r.0 h.0.1.1);
    choices = λ c d k e xs r h. (h.0.0, subst (λ s. (type_asks IsMetBut).choices s k e xs) r.0 h.0.1.1);
    loop = λ c d k w x r h. (
      h.0.0,
      (
        subst (λ s. (type_asks IsMetBut).loop s k w x) r.0 h.0.1.1.0,
        scheme-told c.1.0 x h.0.1.1.1 (all_back Free (if_there (λ y. site c.1.0 (labels y) ∷ []) w) (if_there (scheme_sites c.1.0) x) h.1.0),
      ),
    );
    head = λ c d k x r h. (
      (
        h.0.0,
        (
          subst (λ (s : Scope). AllMetBut (head_sites s x)) r.0 h.0.1.1.0,
          subst (λ (s : Scope). is_some (entry_named s.own x.entry.name) ≡ true) r.0 h.0.1.1.1,
          formals-told c.1.0 x h.0.1.1.2 h.1.0,
        ),
      ),
      index-told (k + 1) x.index h.0.0.1.1 h.1.1,
    );
    wait = λ c d k x others s r h. (tt, (tt, h.0.1.1.1));
    delay = λ c d k e s r h. (h.0.0, tt);
    handlers = λ hs h. (h.0.0, tt);
    handler = λ c d k names ws r h. (h.0.0, subst (λ s. AllMetBut (handler_names_sites s names ws)) r.0 h.0.1.1);
    accepting = λ c d h r. (ap (λ (s : Scope). with_formals (inner_scope s) h.formals) r.0, ap (λ (s : Scope). with_formals (inner_scope s) h.formals) r.1);
    looping = λ c d w x r. (ap (λ (s : Scope). loop_scope s x) r.0, ap (λ (s : Scope). loop_scope s x) r.1);
    handling = λ c d r. r;
  }

  -- So the statements are as asked, where their names are old ones.
  pub told-asked : (c : Scope) (its : PBody) → EveryBody (own_rules old) 1 its → AskedBody (form_asks older (inner_name p)) (tt, c) 1 its →
      AllFree T (body_sites c its) → AskedBody (index_asks p) tt 1 its → AskedBody (told_asks old (inner_told p)) (tt, c) 1 its
  told-asked c its every asked free indices =
      asked_less a b R less ((tt, (tt, c)), (c, tt)) (tt, c) 1 its (refl, refl)
      (both_asked (both (place_asks (own_rules old)) (form_asks older (inner_name p))) (both (type_asks Free) (index_asks p)) (tt, (tt, c)) (c, tt) 1 its
      (both_asked (place_asks (own_rules old)) (form_asks older (inner_name p)) tt (tt, c) 1 its (placed_asked (own_rules old) 1 its every) asked)
      (both_asked (type_asks Free) (index_asks p) c tt 1 its (typed_asked Free c 1 its free) indices))
