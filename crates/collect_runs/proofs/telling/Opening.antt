-- An accept body opens: the acceptor tells that the call has been accepted, and then both are in the body.
use Rattle.std.proofs.Common.{◌≡◌, ◌≤◌, arith, ℕ, suc, ℤ, pos, Bool, cond, List, [], ◌∷◌, ◌++◌, Some, None, Ok, refl, sym, ap, subst, ◌∙◌}
use Rattle.common_lemmas.proofs.Numbers.{equal_self}
use Rattle.ada_tree.specs.declared.naming.Span.{Span}
use Rattle.ada_tree.specs.PlainExpr.{EName}
use Rattle.ada_tree.specs.PlainStmt.{PHead, PStmts, no_stmt, stmt_then, PMaybe, absent, present}
use Rattle.ada_static_rules.specs.StaticValue.{is_integer_value}
use Rattle.ada_value.specs.declared.values.Value.{Value}
use Rattle.ada_value.specs.declared.values.Value.TheVariants.{Number}
use Rattle.ada_value.specs.Variables.{Object, Variables, object_named}
use Rattle.ada_value.specs.Evaluating.{name_value}
use Rattle.ada_value.specs.Values.{lower_bound}
use Rattle.task_model.specs.declared.parameters.FormalParameter.{FormalParameter}
use Rattle.task_model.specs.Setting.{entry_of, member_index, parameters_of}
use Rattle.task_model.specs.Frames.{Around, Opened, PFrame, control, settled}
use Rattle.task_model.specs.Tasks.{Task, stmts_or_none}
use Rattle.task_model.specs.Calls.{opened_object, opened_objects}
use Rattle.task_model.specs.Stands.{stepped}
use Rattle.task_laws.specs.translation.Translations.{Programs, Rewriting, Translation, types_before, types_after}
use Rattle.task_laws.specs.translation.Scopes.{AgreeOnTypes}
use Rattle.task_laws.specs.translation.OldTexts.{only_names, OldFormals}
use Rattle.task_laws.specs.translation.Images.{ImageMaybe, image_absent, image_present}
use Rattle.task_laws.specs.translation.Controls.{frame, task_in, Under, on_floor, in_block, in_handler, in_endless, in_while, in_count, behind, Alike, alike}
use Rattle.task_laws.proofs.statements.Blocks.{tasks_leave_blocks}
use Rattle.task_laws.proofs.translation.Locals.{of_settle}
use Rattle.task_laws.proofs.translation.Evaluating.{single-known}
use Rattle.normal_model.specs.Making.{one}
use Rattle.normal_laws.specs.runs.floors.Meetings.{AreNamed, none_named, named_then, AreValues, no_value, value_then}
use Rattle.normal_laws.specs.runs.floors.NormalFloors.{AreOpen, none_open, open_then}
use Rattle.normal_laws.specs.runs.floors.Preludes.{reaches_here, reaches_by, Added}
use Rattle.normal_laws.proofs.runs.floors.Extending.{fronts}
use Rattle.normal_laws.proofs.runs.floors.Meetings.{formals-named, formals-same}
use Rattle.run_laws.specs.collecting.Notes.{HasBegun}
use Rattle.collect_model.specs.Teller.{Teller}
use Rattle.collect_model.specs.Noting.{has_begun}
use Rattle.collect_model.specs.Serving.{begin_note, finish_note, body_watched, accept_body as body_told}
use Rattle.collect_runs.specs.translation.Rows.{Telling}
use Rattle.collect_runs.specs.translation.Floors.{HasVariables, caller_parameter, OpenAccept, accept_body, body_over, over_floors, below_at}
use Rattle.collect_runs.proofs.translation.Rows.{are-images}
use Rattle.collect_runs.proofs.translation.Floors.{floor-row, up, variables-open, variables-at}
use Rattle.collect_runs.specs.telling.Texts.{Texts, form, text, teller, unit_rows, unit_translation, IsInteger, CanTell, TellsMember, IsHeadAlike}
use Rattle.collect_runs.specs.telling.Forms.{Form}
use Rattle.collect_runs.specs.telling.Meetings.{ComesTo, IsBased, IsNoting}
use Rattle.collect_runs.proofs.telling.Noting.{later, hearing, notes}
use Rattle.collect_runs.proofs.telling.Pairs.{laws, comes}
use Rattle.collect_runs.proofs.telling.Ending.{Ahead, ahead-heard, own-heard}

-- ---- formals that open

module _ (b : Programs) (types : AgreeOnTypes b) where
  pub opened-known : {fs : List FormalParameter} → AreNamed b fs → {vs : List Value} → AreValues b vs → AreOpen b fs (opened_objects (types_before b) fs vs)
  opened-known none_named h = none_open
  opened-known (named_then f fs old free k) no_value =
      open_then f _ fs _ old (single-known b types f.name f.limits None (lower_bound (types_before b) f.limits) free (types.values_known f.limits.kind f.limits.first)) (opened-known k no_value)
  opened-known (named_then f fs old free k) (value_then v vs known h) = open_then f _ fs _ old (single-known b types f.name f.limits None v free known) (opened-known k h)

  pub opened-same : (fs : List FormalParameter) (vs : List Value) → opened_objects (types_before b) fs vs ≡ opened_objects (types_after b) fs vs
  opened-same [] vs = refl
  opened-same (f ∷ fs) [] =
      ap (λ v. opened_object f v ∷ opened_objects (types_before b) fs []) (types.values f.limits.kind f.limits.first)
      ∙ ap (λ os. opened_object f (lower_bound (types_after b) f.limits) ∷ os) (opened-same fs [])
  opened-same (f ∷ fs) (v ∷ vs) = ap (λ os. opened_object f v ∷ os) (opened-same fs vs)

-- the statements of an accept body that has begun stay, though they be over
pub opened-settled : (l : PStmts) (c : ℕ) (fs : List FormalParameter) (o : List PFrame) (V : Variables) → settled (control l (Opened c fs None) o V) ≡ control l (Opened c fs None) o V
opened-settled no_stmt c fs [] V = refl
opened-settled no_stmt c fs (part ∷ parts) V = refl
opened-settled (stmt_then s l) c fs o V = refl

module _ (x : Texts) (can : CanTell x) (f : Form x) (t : ℕ) where
  abbrev y : Translation
  y = unit_translation x t

  abbrev Y : Rewriting
  Y = unit_rows x t

  abbrev X : Teller
  X = teller x t

  abbrev b : Programs
  b = x.programs

  abbrev Below : ℕ → Around → List PFrame → Variables → Around → List PFrame → Variables → Type 0
  Below k = below_at (unit_rows x t) (teller x t) k

  -- no variables are added by the collecting text as by a normal form
  no_variables : Added x.programs (form x)
  no_variables = record { count = 0; bounds = λ k. record { kind = 0; first = pos 0; last = pos 0 }; new = λ k l. absurd (none k l); apart = λ j k l m e. absurd (none j l) }
    where
      none : (k : ℕ) → suc k ≤ 0 → ⊥
      none k l = omega (arith, l)

  -- only so many accept bodies are open
  lowered : {q q' : Around} {o o' : List PFrame} {V V' : Variables} → Under y q o V q' o' V' → (k : ℕ) × Under (over_floors Y X (Below k)) q o V q' o' V'
  lowered (on_floor h) = (h.0, on_floor h.1)
  lowered (in_block hs hs' r r' h im v) = let l = lowered v in (l.0, in_block hs hs' r r' h im l.1)
  lowered (in_handler e r r' im v) = let l = lowered v in (l.0, in_handler e r r' im l.1)
  lowered (in_endless name l l' r r' h im v) = let m = lowered v in (m.0, in_endless name l l' r r' h im m.1)
  lowered (in_while name e l l' r r' old h im v) = let m = lowered v in (m.0, in_while name e l l' r r' old h im m.1)
  lowered (in_count name backwards last l l' r r' o old known h im v) = let m = lowered v in (m.0, in_count name backwards last l l' r r' o old known h im m.1)

  module _ (k caller : ℕ) (fs : List FormalParameter) (place place' : Around) (outer outer' : List PFrame) (i : List ℤ) (w : List ℕ) (row row' : PStmts) (im : Telling (only_names x.programs) (teller x t) row row') (s : Span) where
    abbrev cs : List FormalParameter
    cs = caller_parameter x.main.added (text x).types ∷ fs

    -- the accept body that both have opened
    abbrev accept-of : (own : Object) → own.name ≡ x.main.added.caller → (bs : List Object) (U U' : Variables) → AreOpen x.programs fs bs → Below k place outer U place' outer' U' → OpenAccept Y x.main.added (Below k)
    accept-of own named bs U U' opened g = record {
      span = s;
      place = place;
      place' = place';
      outer = outer;
      outer' = outer';
      vars = U;
      vars' = U';
      below = g;
      row = row;
      row' = row';
      rows = im;
      caller = caller;
      formals = fs;
      objects = bs;
      are_open = opened;
      own = own;
      named = named;
    }

    -- what is left of the image's accept body behind its first note
    abbrev left_of : PMaybe → PStmts
    left_of absent = one (finish_note X s)
    left_of (present l) = stmt_then (body_watched X s l) (one (finish_note X s))

    -- as the image has told that the rendezvous has begun both are in the accept body, or at its end
    begun : (own : Object) → own.name ≡ x.main.added.caller → {m m' : PMaybe} → ImageMaybe Y m m' → {W W' : Variables} → Ahead x can f t k caller fs place place' outer outer' W W' →
        f.IsSo t (task_in (form x) t i w (control (stmts_or_none m) (Opened caller fs None) (frame row place ∷ outer) W)) →
        ComesTo (IsBased f t (task_in (form x) t i w (control (stmts_or_none m) (Opened caller fs None) (frame row place ∷ outer) W)))
        (task_in (text x) t i w (settled (control (left_of m') (Opened caller cs None) (frame row' place' ∷ outer') (own ∷ W'))))
    begun own named image_absent (fronts bs U U' opened g) is =
        comes x can t f _ _ (record { own = is; alike = alike t i w _ _ (behind _ _ (k, body_over (accept-of own named bs U U' opened g))); left = refl })
    begun own named (image_present l l' img) (fronts bs U U' opened g) is =
        let κ : Task = task_in (text x) t i w (control (stmt_then (body_watched X s l') (one (finish_note X s))) (Opened caller cs None) (frame row' place' ∷ outer') (own ∷ (bs ++ U'))) in
        later (reaches_by κ (stepped κ) refl refl (reaches_here (stepped κ)))
        (comes x can t f _ _ (record {
          own = is;
          alike = subst (λ c. Alike y (task_in (form x) t i w c) (stepped κ)) (opened-settled l caller fs (frame row place ∷ outer) (bs ++ U))
              (of_settle y (laws x can t) t i w (up Y (are-images (only_names b) X) can.types X k
              (floor-row Y (are-images (only_names b) X) can.types X (Below k) l l' img (accept_body (accept-of own named bs U U' opened g)))));
          left = (tasks_leave_blocks κ refl).stepped;
        }))

  module _ (i : List ℤ) (w : List ℕ) (h : PHead) (s : Span) (row row' : PStmts) (im : Telling (only_names x.programs) (teller x t) row row') {q q' : Around} {o o' : List PFrame} {V W : Variables} (v : Under y q o V q' o' W)
      (old : OldFormals x.programs h.formals) (alike' : IsHeadAlike x t h V W) (z : ℤ) (worth : member_index (form x) V (entry_of (form x).numbers t h.entry.name) h.index ≡ Ok z) (c : ℕ) (fits : IsInteger c)
      (vs : List Value) (known : AreValues x.programs vs) {m m' : PMaybe} (img : ImageMaybe Y m m') where
    abbrev fs : List FormalParameter
    fs = parameters_of (form x).types h.formals

    abbrev own : Object
    own = opened_object (caller_parameter x.main.added (text x).types) (Number (pos c))

    -- the acceptor in its accept body, and its image in its own, by its formals and these as variables
    abbrev σ : Task
    σ = task_in (form x) t i w (control (stmts_or_none m) (Opened c fs None) (frame row q ∷ o) (opened_objects (form x).types fs vs ++ V))

    abbrev κ : List FormalParameter → List Object → Task
    κ gs os = task_in (text x) t i w (control (body_told X s h m') (Opened c (caller_parameter x.main.added (text x).types ∷ gs) None) (frame row' q' ∷ o') (own ∷ (os ++ W)))

    -- the member is told where the formals are variables in front
    abbrev Member : List Object → Type 0
    Member os = TellsMember (text x).types (own ∷ (os ++ W)) (x.main.member (entry_of x.main.numbers t h.entry.name) s h.index) z

    same-formals : parameters_of (form x).types h.formals ≡ parameters_of (text x).types h.formals
    same-formals = formals-same Y (are-images (only_names b) X) can.types no_variables old

    told : Member (opened_objects (text x).types (parameters_of (text x).types h.formals) vs)
    told = alike'.told z worth own refl vs s

    member-here : Member (opened_objects (form x).types fs vs)
    member-here = subst Member (sym (opened-same b can.types fs vs)) (subst (λ gs. Member (opened_objects (text x).types gs vs)) (sym same-formals) told)

    abbrev fits_integer : ℕ → Bool
    fits_integer n = is_integer_value (pos n)

    abbrev e : ℕ
    e = entry_of (form x).numbers t h.entry.name

    level : (k : ℕ) × Under (over_floors Y X (Below k)) q o V q' o' W
    level = lowered v

    abbrev k : ℕ
    k = suc level.0

    are-open : AreOpen x.programs fs (opened_objects (form x).types fs vs)
    are-open = opened-known b can.types (formals-named Y (are-images (only_names b) X) can.types no_variables old) known

    variables : HasVariables x.main.added (own ∷ (opened_objects (form x).types fs vs ++ W))
    variables = variables-open Y X can.names (accept-of k c fs q q' o o' i w row row' im s own refl (opened_objects (form x).types fs vs) V W are-open level.1) (variables-at Y X can.names k q q' o o' V W level.1)

    -- the first note of the accept body, in front of these statements
    note-tells : f.IsSo t σ → (rest : PStmts) →
        ((d : Bool) → ComesTo (IsBased f t σ) (task_in (text x) t i w (settled (control rest (Opened c (caller_parameter x.main.added (text x).types ∷ fs) None) (frame row' q' ∷ o') (own ∷ hearing x d (opened_objects (form x).types fs vs ++ W)))))) →
        IsNoting f (HasBegun c e z) (λ d. IsBased f t σ)
        (task_in (text x) t i w (control (stmt_then (begin_note X s h) rest) (Opened c (caller_parameter x.main.added (text x).types ∷ fs) None) (frame row' q' ∷ o') (own ∷ (opened_objects (form x).types fs vs ++ W))))
    note-tells is rest more =
        notes x can t (own ∷ (opened_objects (form x).types fs vs ++ W)) s has_begun (EName x.main.added.caller s) (entry_of x.main.numbers t h.entry.name) (x.main.member (entry_of x.main.numbers t h.entry.name) s h.index) t c z refl
        (ap fits_integer alike'.number ∙ alike'.entry_fits) (f.fits t σ is)
        (record {
          subject = ap (λ d. Ok (name_value (text x).types (cond d (Some own) (object_named (opened_objects (form x).types fs vs ++ W) x.main.added.caller)) x.main.added.caller)) (equal_self x.main.added.caller.0);
          subject_fits = fits;
          index = member-here;
        })
        variables i w rest (Opened c (caller_parameter x.main.added (text x).types ∷ fs) None) (frame row' q' ∷ o') f (HasBegun c e z) t (λ d. IsBased f t σ)
        (λ u. ap (λ n. record { kind = has_begun; subject = c; argument = n; index = u; owner = t }) (sym alike'.number)) refl
        (λ d. subst (λ U. ComesTo (IsBased f t σ) (task_in (text x) t i w (settled (control rest (Opened c (caller_parameter x.main.added (text x).types ∷ fs) None) (frame row' q' ∷ o') U))))
        (sym (own-heard x can f t k c fs q q' o o' d own (opened_objects (form x).types fs vs ++ W) refl)) (more d))

    ahead : (d : Bool) → Ahead x can f t k c fs q q' o o' (opened_objects (form x).types fs vs ++ V) (hearing x d (opened_objects (form x).types fs vs ++ W))
    ahead d = ahead-heard x can f t k c fs q q' o o' d (fronts (opened_objects (form x).types fs vs) V W are-open level.1)

    tells-here : f.IsSo t σ → IsNoting f (HasBegun c e z) (λ d. IsBased f t σ) (κ fs (opened_objects (form x).types fs vs))
    tells-here is =
        subst (λ l. IsNoting f (HasBegun c e z) (λ d. IsBased f t σ) (task_in (text x) t i w (control l (Opened c (caller_parameter x.main.added (text x).types ∷ fs) None) (frame row' q' ∷ o') (own ∷ (opened_objects (form x).types fs vs ++ W)))))
        (sym (told-is m')) (note-tells is (left_of k c fs q q' o o' i w row row' im s m') (λ d. begun k c fs q q' o o' i w row row' im s own refl img (ahead d) is))
      where
        told-is : (n : PMaybe) → body_told X s h n ≡ stmt_then (begin_note X s h) (left_of k c fs q q' o o' i w row row' im s n)
        told-is absent = refl
        told-is (present l) = refl

    -- So the image tells that the call has been accepted.
    pub opening-tells : f.IsSo t σ → IsNoting f (HasBegun c e z) (λ d. IsBased f t σ) (κ (parameters_of (text x).types h.formals) (opened_objects (text x).types (parameters_of (text x).types h.formals) vs))
    opening-tells is =
        subst (λ gs. IsNoting f (HasBegun c e z) (λ d. IsBased f t σ) (κ gs (opened_objects (text x).types gs vs))) same-formals
        (subst (λ os. IsNoting f (HasBegun c e z) (λ d. IsBased f t σ) (κ fs os)) (opened-same b can.types fs vs) (tells-here is))
