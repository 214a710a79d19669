-- INTEGER, and the names of the variables of a permit, stay what they are behind declarations of other names; so a permit can be declared behind each of them.
use Rattle.std.proofs.Common.{◌≡◌, ℕ, Bool, false, List, [], ◌∷◌, None, refl, ◌∙◌}
use Rattle.std.specs.List.{AllByRecursion}
use Rattle.std.proofs.lemmas.Bool.{eq-eqb}
use Rattle.ada_tree.specs.declared.naming.NameId.{NameId}
use Rattle.ada_tree.specs.PlainDecl.{PDecl, decls_of}
use Rattle.ada_tree.specs.PlainProgram.{PProgram}
use Rattle.ada_static_rules.specs.Scope.{Scope, meaning}
use Rattle.ada_static_rules.specs.StaticValue.{value_named}
use Rattle.ada_static_rules.specs.Declaring.{after_own_object, after_decl, after_decls}
use Rattle.task_model.specs.Setting.{Setting}
use Rattle.task_laws.specs.legal.rewritten_types.Agreement.{Keeps}
use Rattle.task_laws.specs.legal.rewritten_types.Rewriting.{IsAdded}
use Rattle.task_laws.proofs.legal.rewritten_types.Adding.{keeps-objects}
use Rattle.task_laws.specs.legal.alike_scopes.Alike.{SameNames}
use Rattle.task_laws.proofs.legal.alike_scopes.Tables.{value-kept}
use Rattle.task_laws.proofs.legal.alike_scopes.Inner.{own-object-main}
use Rattle.replay_model.specs.Names.{kind_text, argument_text, index_text, added_id}
use Rattle.replay_structure.specs.typed.Controller.{IsInteger}
use Rattle.replay_structure.specs.scopes.More.{ArePermitsNew, IsReady}
use Rattle.replay_structure.specs.scopes.Form.{IsOwnObject, IsVariableOf, ReadyAlong, MainAlong, AreNamesApart}
use Rattle.replay_structure.proofs.scopes.Permit.{only, objects-means, IsApart, decls-means, decls-keep}
use Rattle.replay_structure.proofs.scopes.Main.{variables-apart}

-- INTEGER
abbrev pub integer_id : NameId
integer_id = record { 0 = 0 }

pub integer-step : (d d' : Scope) → meaning d' integer_id ≡ meaning d integer_id → Keeps (only integer_id) d.types d'.types → IsInteger d → IsInteger d'
integer-step d d' e k int = record {
  its = record {
    place = int.its.place;
    mark = int.its.mark;
    means = e ∙ int.its.means;
    there = k.grows.mark int.its.place int.its.mark int.its.there;
    kind = int.its.kind;
    scalar = (int.its.scalar.0, k.kinds int.its.mark.kind ∙ int.its.scalar.1);
    named = k.marks integer_id refl ∙ int.its.named;
    first = int.its.first;
  };
  last = int.last;
}

-- behind declarations of main
pub integer-decls : (xs : List PDecl) (d : Scope) → AllByRecursion (IsApart integer_id) xs → IsInteger d → IsInteger (after_decls d (decls_of xs))
integer-decls xs d h int = integer-step d (after_decls d (decls_of xs)) (decls-means integer_id xs d h) (decls-keep integer_id xs d h) int

-- the values of names
value-step : (id : NameId) (d d' : Scope) → Keeps (only id) d.types d'.types → value_named d.types id ≡ None → value_named d'.types id ≡ None
value-step id d d' k e = value-kept (only id) d.types d'.types k id (eq-eqb id.0 id.0 refl) ∙ e

module _ (q : PProgram) (old : ℕ → Bool) (new : ArePermitsNew q old) where
  -- ---- in a body

  ready-object : (x : PDecl) (c : Scope) → c.in_main ≡ false → IsOwnObject old x → IsAdded (only integer_id) x → IsReady q old c → IsReady q old (after_own_object c x)
  ready-object x c main o n r =
      let c' = after_own_object c x in
      record {
        integer = integer-step c c' (objects-means integer_id (x ∷ []) c (n, tt)) (keeps-objects (decls_of (x ∷ [])) c main) r.integer;
        kind = value-step (added_id q kind_text) c c' (keeps-objects (decls_of (x ∷ [])) c main) r.kind;
        argument = value-step (added_id q argument_text) c c' (keeps-objects (decls_of (x ∷ [])) c main) r.argument;
        index = value-step (added_id q index_text) c c' (keeps-objects (decls_of (x ∷ [])) c main) r.index;
      }

  -- A permit can be declared behind each object of a body, where it can in front of them and none is named INTEGER.
  pub ready-objects : (xs : List PDecl) (c : Scope) → c.in_main ≡ false → AllByRecursion (IsOwnObject old) xs → AllByRecursion (IsAdded (only integer_id)) xs → IsReady q old c → ReadyAlong q old c xs
  ready-objects [] c main o n r = r
  ready-objects (x ∷ xs) c main o n r = (r, ready-objects xs (after_own_object c x) (own-object-main old x c ∙ main) o.1 n.1 (ready-object x c main o.0 n.0 r))

-- ---- in main

module _ (g : Setting) (old inner : ℕ → Bool) (names : AreNamesApart g old inner) where
  abbrev q' : PProgram
  q' = g.program

  ready-decls : (xs : List PDecl) (c : Scope) → AllByRecursion (IsVariableOf old) xs → AllByRecursion (IsApart integer_id) xs → IsReady q' old c → IsReady q' old (after_decls c (decls_of xs))
  ready-decls xs c o n r =
      let c' = after_decls c (decls_of xs) in
      record {
        integer = integer-decls xs c n r.integer;
        kind = value-step (added_id q' kind_text) c c' (decls-keep (added_id q' kind_text) xs c (variables-apart g old inner names (added_id q' kind_text) names.permits.kind xs o)) r.kind;
        argument = value-step (added_id q' argument_text) c c' (decls-keep (added_id q' argument_text) xs c (variables-apart g old inner names (added_id q' argument_text) names.permits.argument xs o)) r.argument;
        index = value-step (added_id q' index_text) c c' (decls-keep (added_id q' index_text) xs c (variables-apart g old inner names (added_id q' index_text) names.permits.index xs o)) r.index;
      }

  -- old names mean what they themselves do in front of each of these declarations and behind them
  abbrev pub MainSelf : Scope → List PDecl → Type 0
  MainSelf c [] = SameNames old c c
  MainSelf c (x ∷ xs) = SameNames old c c × MainSelf (after_decl c x) xs

  -- A permit can be declared behind each variable of main, where it can in front of them and none is named INTEGER.
  pub ready-main : (xs : List PDecl) (c : Scope) → AllByRecursion (IsVariableOf old) xs → AllByRecursion (IsApart integer_id) xs → MainSelf c xs → IsReady q' old c → MainAlong q' old c xs
  ready-main [] c o n s r = (s, r)
  ready-main (x ∷ xs) c o n s r = (s.0, r, ready-main xs (after_decl c x) o.1 n.1 s.1 (ready-decls (x ∷ []) c (o.0, tt) (n.0, tt) r))
