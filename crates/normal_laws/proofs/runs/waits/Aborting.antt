-- Abort statements: both tasks stand at an abort of the same task, and the names that are left stand in images of their own.
use Rattle.std.proofs.Common.{◌≡◌, ℕ, ◌+◌, ◌≤◌, ℤ, List, [], ◌∷◌, ◌++◌, length, Option, Some, None, Result, Ok, Err, refl, sym, ap, subst, ◌∙◌, arith, length-append}
use Rattle.std.specs.Prelude.{unwrap_or, is_ok}
use Rattle.std.proofs.lemmas.List.{append_assoc, length-map, append-nil}
use Rattle.ada_tree.specs.declared.naming.Span.{Span}
use Rattle.ada_tree.specs.declared.naming.Word.{Word}
use Rattle.ada_tree.specs.PlainExpr.{PExpr, PSubind}
use Rattle.ada_tree.specs.PlainDecl.{PDecl}
use Rattle.ada_tree.specs.PlainStmt.{PCallee, SAbort, PStmts, stmt_then}
use Rattle.syn_event.specs.Numbering.{task_named}
use Rattle.event_machine.specs.Offers.{Aborts}
use Rattle.ada_value.specs.declared.values.Raised.{Raised}
use Rattle.ada_value.specs.Values.{lies_in}
use Rattle.ada_value.specs.Variables.{Variables}
use Rattle.task_model.specs.Setting.{Setting, member_named, callee_task}
use Rattle.task_model.specs.Frames.{Around, PFrame, control, in_front}
use Rattle.task_model.specs.Tasks.{Task}
use Rattle.task_model.specs.Stands.{At, name_stand}
use Rattle.task_model.specs.Rendezvous.{names_left}
use Rattle.normal_model.specs.Ranges.{subtype_of_range, array_range}
use Rattle.normal_model.specs.Making.{kept_before, kept_subtypes, kept_if, moving}
use Rattle.normal_model.specs.Members.{callee_kept, chosen}
use Rattle.normal_model.specs.Aborts.{abort_of, callee_aborted, callees_aborted, abort_subtypes}
use Rattle.normal_model.specs.Variables.{variables_declared, more_variables}
use Rattle.normal_model.specs.Walk.{image_of}
use Rattle.normal_model.specs.NormalStmts.{normal_rewriter}
use Rattle.normal_model.proofs.WalkLemmas.{in_front-joined}
use Rattle.task_laws.specs.translation.Translations.{Programs, Translation, types_after}
use Rattle.task_laws.specs.translation.OldNames.{OldOption}
use Rattle.task_laws.specs.translation.OldTexts.{OldCallees, old_no_callee, old_callee, old_abort}
use Rattle.task_laws.specs.translation.Images.{something_there}
use Rattle.task_laws.specs.translation.Controls.{task_in, Under, are_around}
use Rattle.task_laws.specs.translation.Floors.{IsTranslation}
use Rattle.task_laws.proofs.translation.Locals.{go-there}
use Rattle.normal_laws.specs.runs.floors.Suited.{declared_limits, AreMade, IsCallee, Rewritten, rewritten_unit, asked_of}
use Rattle.normal_laws.specs.runs.floors.NormalLists.{Begin, behind_stmt, Normal, normal_then, normal_lists}
use Rattle.normal_laws.specs.runs.floors.NormalFloors.{normal}
use Rattle.normal_laws.specs.runs.floors.Preludes.{Added, AreThere, due_before, old_no_due}
use Rattle.normal_laws.specs.runs.floors.Declared.{AreDeclared, HaveSubtypes, subtype_then, dues_of}
use Rattle.normal_laws.specs.runs.floors.inner.Met.{AbortMet, at_raise, at_abort, Comes}
use Rattle.normal_laws.proofs.runs.floors.Rows.{normal-images}
use Rattle.normal_laws.proofs.runs.floors.Floors.{normal-translates}
use Rattle.normal_laws.proofs.runs.floors.Declared.{begun-subtypes, subtypes-fit, kept-length}
use Rattle.normal_laws.specs.runs.callees.inner.Callees.{MeetsCallee, meets_task, meets_raise, chosen_with, the_chosen}
use Rattle.normal_laws.proofs.runs.callees.Choosing.{callee-comes}
use Rattle.normal_model.proofs.Declared.{declared_length, declared_joined}

module _ (w : Rewritten) (made : AreMade w.programs) (added : Added w.programs w.programs.original) (declared : AreDeclared w added) (m : ℕ) (i : List ℤ) (out : List ℕ)
    (p p' : Around) (o o' : List PFrame) (V : Variables) where
  abbrev x : Translation
  x = normal (normal_lists w) added

  abbrev laws : IsTranslation x
  laws = normal-translates (normal_lists w) (normal-images w) made.types added

  abbrev b : Programs
  b = w.programs

  abbrev g : Setting
  g = w.programs.original

  abbrev h : Setting
  h = w.programs.made

  module _ (c : PCallee) (cs : List PCallee) (s : Span) (old : OldOption b c.index) (asked : IsCallee b c) (rest : OldCallees (asked_of w) cs) (vars : List PDecl)
      (begins : Begin (behind_stmt w (SAbort (c ∷ cs) s) vars) w.vars) (q q' : PStmts) (im : Normal w q q') where
    abbrev n : ℕ
    n = length vars

    abbrev mv : Option PExpr
    mv = moving g.types c.index

    abbrev subtype : PSubind
    subtype = subtype_of_range g.types s (array_range g.program c.name.name)

    abbrev first : List PSubind
    first = kept_subtypes (callee_kept g s c)

    -- the variables behind those of the first name
    abbrev vars1 : List PDecl
    vars1 = vars ++ variables_declared g s first n

    length-first : length first ≡ length (callee_kept g s c)
    length-first = length-map (callee_kept g s c) (λ k. k.subtype)

    length-vars : length vars1 ≡ n + length (callee_kept g s c)
    length-vars = length-append vars (variables_declared g s first n) ∙ ap (λ k. n + k) (declared_length g s first n ∙ length-first)

    -- they are those of the names that are left, where these begin behind the first
    vars-split : more_variables (rewritten_unit w) s (abort_subtypes g s (c ∷ cs)) vars ≡ more_variables (rewritten_unit w) s (abort_subtypes g s cs) vars1
    vars-split =
        ap (λ l. vars ++ l) (declared_joined g s first (abort_subtypes g s cs) n) ∙ sym (append_assoc vars (variables_declared g s first n) (variables_declared g s (abort_subtypes g s cs) (n + length first)))
        ∙ ap (λ k. vars1 ++ variables_declared g s (abort_subtypes g s cs) k) (ap (λ k. n + k) length-first ∙ sym length-vars)

    -- the names that are left stand in an image of their own
    names-image : {ds : List PCallee} → OldCallees (asked_of w) ds → ds ≡ cs → Normal w (names_left ds s q) (in_front (callees_aborted g s ds (n + length (callee_kept g s c))) q')
    names-image old_no_callee e = im
    names-image (old_callee d ds oldd askd more) e =
        subst (λ k. Normal w (stmt_then (SAbort (d ∷ ds) s) q) (in_front (callees_aborted g s (d ∷ ds) k) q')) length-vars
        (normal_then vars1 (SAbort (d ∷ ds) s) q q' (old_abort (d ∷ ds) s (old_callee d ds oldd askd more))
        (subst (λ l. Begin (more_variables (rewritten_unit w) s (abort_subtypes g s l) vars1) w.vars) (sym e) (subst (λ l. Begin l w.vars) vars-split begins)) im)

    first-subtypes : HaveSubtypes b added first n
    first-subtypes =
        begun-subtypes w added declared s first vars
        (let e : w.vars ≡ (vars1 ++ variables_declared g s (abort_subtypes g s cs) (length vars1)) ++ begins.0 = begins.1 ∙ ap (λ l. l ++ begins.0) vars-split in
        (variables_declared g s (abort_subtypes g s cs) (length vars1) ++ begins.0, e ∙ append_assoc vars1 (variables_declared g s (abort_subtypes g s cs) (length vars1)) begins.0))

    one-bound : (mv : Option PExpr) → HaveSubtypes b added (kept_subtypes (kept_if subtype mv)) n → (e : PExpr) → mv ≡ Some e → added.bounds n ≡ declared_limits (types_after b) subtype
    one-bound None a e f = cc
    one-bound (Some d) (subtype_then y ys k1 l1 eq more) e f = eq

    bound : (e : PExpr) → mv ≡ Some e → (z : ℤ) → lies_in (added.bounds n) z ≡ is_ok (member_named g.numbers c.name.name z)
    bound e f z = ap (λ l. lies_in l z) (one-bound mv first-subtypes e f) ∙ asked.range e f s z

    kept-due : (mv : Option PExpr) → kept_before g s (kept_if subtype mv) n ≡ due_before g s (dues_of mv ++ []) n
    kept-due None = refl
    kept-due (Some d) = refl

    -- what stands behind the abort of the first name
    abbrev behind : PStmts
    behind = in_front (callees_aborted g s cs (n + length (callee_kept g s c))) q'

    abbrev left : Task
    left = task_in g m i out (control (stmt_then (SAbort (c ∷ cs) s) q) p o V)

    abbrev right : PStmts → Variables → Task
    right r W = task_in h m i out (control r p' o' W)

    abort-met : (t : ℕ) (v : Word) (W : Variables) → callee_task g V c ≡ Ok t → unwrap_or (task_named h.numbers v.name) 0 ≡ t → Under x p o V p' o' W → AbortMet x left (right (in_front (abort_of s v) behind) W)
    abort-met t v W e f u = record {
      task = t;
      stands = ap name_stand e;
      stands_too = ap (λ k. At (Aborts k)) f;
      around = are_around m i out (stmt_then (SAbort (c ∷ cs) s) q) (in_front (abort_of s v) behind) u;
      passes = go-there x laws m i out (stmt_then (SAbort (c ∷ cs) s) q) (in_front (abort_of s v) behind) (names_left cs s q) behind (names-image rest refl) u;
    }

    pub abort-comes : (W : Variables) → Under x p o V p' o' W → AreThere added W → Comes x left (right (in_front (image_of (normal_rewriter (rewritten_unit w)) (SAbort (c ∷ cs) s) vars) q') W)
    abort-comes W u still =
        subst (λ a. Comes x left (right a W)) (sym row)
        (go (callee-comes x laws made added m i out p p' o o' s c (abort_of s) (λ v. something_there _ _) behind asked old mv refl n bound [] old_no_due fit V W u still))
      where
        fit : n + length (dues_of mv ++ []) ≤ added.count
        fit =
            let a1 : n + length first ≤ added.count = subtypes-fit b added first-subtypes in
            let a2 : length (callee_kept g s c) ≡ length (dues_of mv) = kept-length subtype mv in
            let a3 : length (dues_of mv ++ []) ≡ length (dues_of mv) = ap length (append-nil (dues_of mv)) in
            let a4 : length first ≡ length (callee_kept g s c) = length-first in
            omega arith

        from : PStmts
        from = in_front (due_before g s (dues_of mv ++ []) n) (in_front (chosen g s c n (abort_of s)) behind)

        row : in_front (image_of (normal_rewriter (rewritten_unit w)) (SAbort (c ∷ cs) s) vars) q' ≡ in_front (due_before g s (dues_of mv ++ []) n) (in_front (chosen g s c n (abort_of s)) behind)
        row = in_front-joined (callee_aborted g s c n) (callees_aborted g s cs (n + length (callee_kept g s c))) q'
            ∙ in_front-joined (kept_before g s (callee_kept g s c) n) (chosen g s c n (abort_of s)) behind
            ∙ ap (λ a. in_front a (in_front (chosen g s c n (abort_of s)) behind)) (kept-due mv)

        raised-name : (a : Raised) (r : Result ℕ Raised) → chosen_with the_chosen r (Ok []) ≡ Err a → r ≡ Err a
        raised-name a (Ok t) e = cc
        raised-name a (Err y) e = cc

        go : {k : ℕ} → MeetsCallee x added m i out p o V p' o' (right (in_front (due_before g s (dues_of mv ++ []) n) (in_front (chosen g s c n (abort_of s)) behind)) W) c (abort_of s) behind k [] →
            Comes x left (right (in_front (due_before g s (dues_of mv ++ []) n) (in_front (chosen g s c n (abort_of s)) behind)) W)
        go (meets_task t v ws W1 of_task meant name due hold u1 still1 reach) = record {
          reached = _;
          reach = reach;
          meets = at_abort (abort-met t v W1 of_task (ap (λ k. unwrap_or (task_named h.numbers k) 0) name ∙ ap (λ k. unwrap_or k 0) (asked.named t meant)) u1);
        }
        go (meets_raise a r W1 e u1 reach steps stop) =
            record { reached = _; reach = reach; meets = at_raise a (ap name_stand (raised-name a (callee_task g V c) e)) (are_around m i out (stmt_then (SAbort (c ∷ cs) s) q) r u1) steps stop }
