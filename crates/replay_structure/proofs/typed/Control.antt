-- The body of the idle task meets the static rules 1 and 3 to 12; and what the controller's is met by: INTEGER, accepts, and formals of mode out.
use Rattle.std.proofs.Common.{◌≡◌, ℕ, ◌==◌, pos, negsuc, Bool, true, false, not, ◌&&◌, ◌||◌, if◌then◌else◌, List, [], ◌∷◌, ◌++◌, Option, Some, None, option_map, is_some, refl, sym, ap, ap₂, subst, ◌∙◌}
use Rattle.std.specs.List.{AllByRecursion}
use Rattle.std.proofs.lemmas.Bool.{eq-eqb, or_left, or_right}
use Rattle.common_lemmas.proofs.Lists.{all_joined}
use Rattle.ada_tree.specs.declared.naming.NameId.{NameId}
use Rattle.ada_tree.specs.declared.naming.Span.{Span}
use Rattle.ada_tree.specs.declared.naming.Word.{Word}
use Rattle.ada_tree.specs.declared.statements.ParMode.TheVariants.{Give}
use Rattle.ada_tree.specs.declared.static_types.Mark.{Mark}
use Rattle.ada_tree.specs.PlainExpr.{PExpr}
use Rattle.ada_tree.specs.PlainStmt.{PFormal, PHead, PTarget}
use Rattle.ada_tree.specs.PlainDecl.{no_decl}
use Rattle.ada_tree.specs.PlainProgram.{PProgram}
use Rattle.ada_static_rules.specs.Scope.{Scope, Range, FormalPart, Family, single, family, unclear, Thing, Parameter, ScalarMark, Reading, AsScalar, integer_kind, kind_at, marking, meaning, reading, reading_of, reading_of_mark, range_of_mark, entry_named, is_entry_somewhere}
use Rattle.ada_static_rules.specs.ExprTypes.{kind_of}
use Rattle.ada_static_rules.specs.Declaring.{formal_thing, with_formals, inner_scope, in_body, own_entries, after_objects}
use Rattle.ada_static_rules.specs.Demand.{MarkUse, scalar_only, stands_as_mark, must_be_of}
use Rattle.ada_static_rules.specs.Sites.{site, if_there, expr_sites, expr_of, formals_sites, accept_index_sites, head_sites, target_sites, decl_sites}
use Rattle.ada_static_rules.specs.RuleMismatch.{is_allowed, target_kind}
use Rattle.ada_static_rules.specs.RuleNotVariable.{whole_written, is_array, is_variable}
use Rattle.ada_static_rules.specs.RuleArrayUse.{whole_array}
use Rattle.ada_static_rules.specs.RuleArgCount.{at_place, fits_accept, are_same, written_formals, wrong_accept}
use Rattle.task_laws.proofs.legal.types.GoodScopes.{IsIn, names-new}
use Rattle.normal_model.specs.Ranges.{word_at}
use Rattle.replay_model.specs.Names.{kind_text, argument_text, index_text, idle_text, rest_text, added_id, added_word}
use Rattle.replay_model.specs.Controlling.{permit_formals, idle_body}
use Rattle.task_laws.specs.legal.alike_scopes.Laws.{IsMetBut}
use Rattle.normal_laws.specs.structure.typed.ScopeOf.{MeansInteger}
use Rattle.normal_laws.proofs.structure.typed.Places.{met-declares, met-of, met-writes, met-accepts, gives-met}
use Rattle.normal_laws.proofs.structure.typed.Variables.{AllMetBut, of-kind}
use Rattle.normal_laws.proofs.structure.typed.Literals.{integer-marked}
use Rattle.replay_structure.specs.typed.ScopeOf.{HasLists, permit_parts}
use Rattle.replay_structure.specs.typed.Controller.{IsInteger, IsIdler}
use Rattle.replay_structure.proofs.typed.Calls.{listed}
use Rattle.task_laws.proofs.legal.alike_scopes.Marks.{scalar-reading}

-- ---- INTEGER

-- its name as a mark, wherever a scalar one may stand
pub integer-mark : (d : Scope) → MeansInteger d → (allowed : MarkUse) (s : Span) → IsMetBut (site d (stands_as_mark allowed (word_at s record { 0 = 0 })))
integer-mark d int allowed s = record {
  known = ap (λ o. if is_some o then [] else s ∷ []) int.means;
  matched = ap (λ m. if is_allowed allowed m then [] else s ∷ []) (integer-marked d int) ∙ scalar-allowed allowed;
  static = refl;
  ranged = refl;
  variable = refl;
  readable = refl;
  counted = refl;
  chosen = refl;
  arrays = refl;
  texts = refl;
  exceptions = refl;
}
  where
    scalar-allowed : (a : MarkUse) → (if is_allowed a (ScalarMark int.place integer_kind) then [] else s ∷ []) ≡ []
    scalar-allowed a = refl

-- its values
abbrev pub all_values : Range
all_values = record { kind = integer_kind; first = negsuc 2147483647; last = pos 2147483647 }

pub integer-range : (d : Scope) (int : IsInteger d) → range_of_mark d.types int.its.place ≡ Some all_values
integer-range d int =
    ap (option_map (λ (m : Mark). record { kind = m.kind; first = m.first; last = m.last })) int.its.there
    ∙ ap (λ k. Some (record { kind = k; first = int.its.mark.first; last = int.its.mark.last })) int.its.kind
    ∙ ap₂ (λ a b. Some (record { kind = integer_kind; first = a; last = b })) int.its.first int.last

-- ---- accepts

-- an accept of an own entry with these members and formals
pub listed-accept : (d : Scope) (h : PHead) (members : Family) (formals : List FormalPart) → HasLists (entry_named d.own h.entry.name) members formals →
    fits_accept members h.index ≡ true → are_same (written_formals h.formals) formals ≡ true → AllMetBut (if_there (accept_index_sites d (Some (listed members formals))) h.index) → AllMetBut (formals_sites d h.formals) →
    AllMetBut (head_sites d h)
listed-accept d h members formals l f e i j = (
  met-accepts d h (ap (λ o. if is_some o || is_entry_somewhere d h.entry.name then [] else h.entry.span ∷ []) l.is)
      (ap (λ o. wrong_accept o h) l.is
      ∙ ap₂ (λ x y. at_place (not (fits_accept x h.index && are_same (written_formals h.formals) y)) h.entry.span) l.members_are l.formals_are
      ∙ ap₂ (λ a b. at_place (not (a && b)) h.entry.span) f e),
  all_joined IsMetBut (if_there (accept_index_sites d (entry_named d.own h.entry.name)) h.index) (formals_sites d h.formals)
      (subst (λ q. AllMetBut (if_there (accept_index_sites d q) h.index)) (sym l.is)
      (subst (λ x. AllMetBut (if_there (accept_index_sites d (Some (record { name = l.its.name; family = x; formals = l.its.formals }))) h.index)) (sym l.members_are) (nameless h.index i))) j,
)
  where
    by_members : (x : Family) (y : PExpr) → AllMetBut (accept_index_sites d (Some (listed x formals)) y) → AllMetBut (accept_index_sites d (Some (record { name = l.its.name; family = x; formals = l.its.formals })) y)
    by_members single y m = m
    by_members (family range) y m = m
    by_members unclear y m = m

    nameless : (o : Option PExpr) → AllMetBut (if_there (accept_index_sites d (Some (listed members formals))) o) → AllMetBut (if_there (accept_index_sites d (Some (record { name = l.its.name; family = members; formals = l.its.formals }))) o)
    nameless None m = tt
    nameless (Some y) m = by_members members y m

-- ---- what is assigned to formals of mode out

-- the name means a formal of mode out of INTEGER
pub record IsOutNumber (d : Scope) (id : NameId) : Type 0 where
  pub place : ℕ
  pub means : meaning d id ≡ Some (Parameter Give place)
  pub read : reading d id ≡ AsScalar integer_kind

pub out-assigned : (d : Scope) (id : NameId) (s : Span) (e : PExpr) → IsOutNumber d id → AllMetBut (expr_sites d e) → kind_of d e ≡ Some integer_kind →
    AllMetBut (target_sites d (record { name = word_at s id; index = None }) ++ expr_of d (target_kind d (record { name = word_at s id; index = None })) e)
out-assigned d id s e v m k =
    all_joined IsMetBut (target_sites d target) (expr_of d (target_kind d target) e) (
      met-writes d target record {
        known = ap (λ o. if is_some o then [] else s ∷ []) v.means;
        matched = refl;
        variable = ap₂ (λ r o. whole_written (is_array r) (is_variable o) s) v.read v.means;
        counted = refl;
        arrays = ap (λ r. whole_array r s) v.read;
      },
      tt,
    )
    (subst (λ j. AllMetBut (expr_of d j e)) (sym its-kind) (all_joined IsMetBut (expr_sites d e) (site d (must_be_of e (Some integer_kind)) ∷ []) m (met-of d e (Some integer_kind) (of-kind d e integer_kind k), tt)))
  where
    target : PTarget
    target = record { name = word_at s id; index = None }

    kind_read : Reading → Option ℕ
    kind_read (AsScalar j) = Some j
    kind_read _ = None

    its-kind : target_kind d target ≡ Some integer_kind
    its-kind = ap kind_read v.read

module _ (q : PProgram) where
  -- ---- the formals of GO

  abbrev pub formals : Span → List PFormal
  formals s = permit_formals q s

  abbrev pub words : Span → List Word
  words s = added_word q s kind_text ∷ added_word q s argument_text ∷ added_word q s index_text ∷ []

  pub same-names : (s : Span) → are_same (written_formals (formals s)) (permit_parts q) ≡ true
  same-names s =
      all-three ((added_id q kind_text).0 == (added_id q kind_text).0) ((added_id q argument_text).0 == (added_id q argument_text).0) ((added_id q index_text).0 == (added_id q index_text).0)
      (eq-eqb (added_id q kind_text).0 (added_id q kind_text).0 refl) (eq-eqb (added_id q argument_text).0 (added_id q argument_text).0 refl) (eq-eqb (added_id q index_text).0 (added_id q index_text).0 refl)
    where
      all-three : (a b c : Bool) → a ≡ true → b ≡ true → c ≡ true → (a && true && true && (b && true && true && (c && true && true && true))) ≡ true
      all-three true true true e f h = refl
      all-three true true false e f h = cc
      all-three true false c e f h = cc
      all-three false b c e f h = cc

  module _ (d : Scope) (int : MeansInteger d) (s : Span) where
    pub formals-met : AllMetBut (formals_sites d (formals s))
    formals-met = (met-declares _ false _, (met-declares _ false _, (met-declares _ false _, (integer-mark d int scalar_only s, tt))))

    abbrev pub behind : Scope
    behind = with_formals (inner_scope d) (formals s)

    abbrev its : Thing
    its = formal_thing Give (marking d record { 0 = 0 })

    its-is : its ≡ Parameter Give int.place
    its-is = ap (formal_thing Give) (integer-marked d int)

    pub out-number : (id : NameId) → IsIn (words s) id → IsOutNumber behind id
    out-number id i =
        let means : meaning behind id ≡ Some (Parameter Give int.place) = names-new its (words s) (inner_scope d) id i ∙ ap Some its-is in
        record {
          place = int.place;
          means = means;
          read = ap (reading_of behind.types) means ∙ ap (reading_of_mark d.types) int.there ∙ scalar-reading int.mark.kind (kind_at d.types int.mark.kind) int.scalar.0 int.scalar.1 ∙ ap AsScalar int.kind;
        }

    pub kind-in : IsIn (words s) (added_id q kind_text)
    kind-in = or_left ((added_id q kind_text).0 == (added_id q kind_text).0) _ (eq-eqb (added_id q kind_text).0 (added_id q kind_text).0 refl)

    pub argument-in : IsIn (words s) (added_id q argument_text)
    argument-in =
        or_right ((added_id q kind_text).0 == (added_id q argument_text).0) _
        (or_left ((added_id q argument_text).0 == (added_id q argument_text).0) _ (eq-eqb (added_id q argument_text).0 (added_id q argument_text).0 refl))

    pub index-in : IsIn (words s) (added_id q index_text)
    index-in =
        or_right ((added_id q kind_text).0 == (added_id q index_text).0) _
        (or_right ((added_id q argument_text).0 == (added_id q index_text).0) _
        (or_left ((added_id q index_text).0 == (added_id q index_text).0) _ (eq-eqb (added_id q index_text).0 (added_id q index_text).0 refl)))

  -- The body of the idle task meets the rules.
  pub idle-met : (d : Scope) → IsIdler q d → (s : Span) → AllMetBut (decl_sites d (idle_body q s))
  idle-met d idle s =
      let within : Scope = inner_scope (after_objects (in_body d (added_word q s idle_text)) no_decl) in
      let h : PHead = record { entry = added_word q s rest_text; index = None; formals = []; span = s } in
      let own : HasLists (entry_named within.own (added_id q rest_text)) single [] = subst (λ l. HasLists (entry_named l (added_id q rest_text)) single []) (sym (ap own_entries idle.seen.means)) idle.rest in (
        gives-met d (added_word q s idle_text) idle.seen.entries idle.seen.means,
        listed-accept within h single [] own refl refl tt tt,
      )
