-- What is true of a unit's track on the way, and what the whole walk makes of a body.
use Rattle.std.proofs.Common.{◌≡◌, ◌≤◌, ℕ, List, [], Vec, length, map, max, Result, Ok, Err, IfOk, OnOk, refl, sym, ap, ◌∙◌, arith}
use Rattle.std.specs.declared.alloc.Global.{Global}
use Rattle.std.proofs.lemmas.List.{length-map}
use Rattle.ada_tree.specs.declared.declarations.Decl.{Decl}
use Rattle.ada_tree.specs.declared.statements.Body.{Body}
use Rattle.ada_tree.specs.declared.statements.Handler.{Handler}
use Rattle.ada_tree.specs.declared.statements.Stmt.{Stmt}
use Rattle.ada_tree.specs.PlainStmt.{PBody, body, handlers_of, plain_body, plain_handler, seen}
use Rattle.ada_tree.specs.PlainDecl.{PDecl, plain_decl}
use Rattle.ada_stmt_copy.specs.expressions.Parts.{OkWith}
use Rattle.task_model.specs.Setting.{Setting}
use Rattle.tree_rewriting.specs.walking.Rules.{walk_of}
use Rattle.normal_model.specs.RewrittenUnit.{RewrittenUnit}
use Rattle.normal_model.specs.NormalStmts.{normal_body, normal_rewriter, unit_variables}
use Rattle.normal_model.specs.Walk.{after_body, inside_body}
use Rattle.normal_lookups.specs.declared.meanings.array_members.Members.{Members}
use Rattle.normal_lookups.specs.meanings.Meant.{AreMeanings}
use Rattle.normal_walk.specs.declared.variables.track.Track.{Track}
use Rattle.normal_walk.specs.variables.Track.{Enters, IsTrack}
use Rattle.normal_walk.specs.Begun.{Begins}
use Rattle.normal_walk.specs.inner.Walking.{FitsUnit, normal_rule}
use Rattle.common_lemmas.proofs.Numbers.{most_of_three}

-- the walk of the rule is the rewriter of the unit
pub rule_walks : (u : RewrittenUnit) → walk_of (normal_rule u) ≡ normal_rewriter u
rule_walks u = refl

-- as many variables as declarations
pub variables_counted : (ds : List Decl) → length (map plain_decl ds) ≡ length ds
variables_counted ds = length-map ds plain_decl

-- a track fits behind a statement or an alternative
pub fits_more : (g : Setting) (members : Members) (begun : ℕ) (old new : Track) (variables : List PDecl) → FitsUnit g members begun old → Enters g variables old new → FitsUnit g members begun new
fits_more g members begun old new variables f h = record {
  track = h.track;
  members_are = f.members_are;
  count = most_of_three begun (length old.names.variables.items) (length new.names.variables.items) (length old.decls.items) (length new.decls.items) h.longer f.count h.count;
}

-- the names and members of a track that fits
pub meant : (g : Setting) (members : Members) (begun : ℕ) (t : Track) → FitsUnit g members begun t → AreMeanings g t.names members
meant g members begun t f = record { names_are = f.track.names; members_are = f.members_are }

-- a unit's track fits at its start
pub fits_begun : (g : Setting) (members : Members) (t : Track) → Begins g members t → FitsUnit g members (length t.names.variables.items) t
fits_begun g members t h = record {
  track = record { names = h.names_are; enough = none_less (length t.decls.items) (length t.names.variables.items) (ap length h.none) };
  members_are = h.members_are;
  count = none_more (length t.decls.items) (length t.names.variables.items) (ap length h.none);
}
  where
    none_less : (n m : ℕ) → n ≡ 0 → n ≤ m
    none_less n m e = omega arith

    none_more : (n m : ℕ) → n ≡ 0 → m ≡ max m n
    none_more n m e = omega arith

-- ---- results

-- ---- the whole body

-- a body that was gone through from no variables on is the unit's in normal form
pub body_walked : (u : RewrittenUnit) (new old its : PBody) (vars : List PDecl) → new ≡ inside_body (walk_of (normal_rule u)) old vars → old ≡ its → vars ≡ [] → new ≡ normal_body u its
body_walked u new old its vars h same none = h ∙ ap (λ b. inside_body (walk_of (normal_rule u)) b vars) same ∙ ap (inside_body (walk_of (normal_rule u)) its) none

-- and the variables are the unit's
pub variables_walked : (u : RewrittenUnit) (new : List PDecl) (old its : PBody) (vars : List PDecl) → new ≡ after_body (walk_of (normal_rule u)) old vars → old ≡ its → vars ≡ [] → new ≡ unit_variables u its
variables_walked u new old its vars h same none = h ∙ ap (λ b. after_body (walk_of (normal_rule u)) b vars) same ∙ ap (after_body (walk_of (normal_rule u)) its) none

-- the body that was put together is the one that was taken apart
pub body_kept : {D M : Type 0} (done : Result D M) (kept : Result (Vec Stmt Global) M) (result : Result Body M) (list : Vec Stmt Global) (handlers : Vec Handler Global) (its : PBody) →
    its ≡ body (seen list.items) (handlers_of (map plain_handler handlers.items)) →
    IfOk kept (λ made. OkWith done (λ _. made.items ≡ list.items)) →
    IfOk result (λ made. OkWith kept (λ k. plain_body made ≡ body (seen k.items) (handlers_of (map plain_handler handlers.items)))) →
    IfOk result (λ made. OkWith done (λ _. plain_body made ≡ its))
body_kept done kept (Err e) list handlers its whole keeps makes = makes
body_kept done (Err e) (Ok b) list handlers its whole keeps makes = absurd makes
body_kept (Err e) (Ok k) (Ok b) list handlers its whole keeps makes = absurd keeps
body_kept (Ok d) (Ok k) (Ok b) list handlers its whole keeps makes = makes ∙ ap (λ l. body (seen l) (handlers_of (map plain_handler handlers.items))) keeps ∙ sym whole

-- what became of the body, where it was kept
pub body_done : {D M : Type 0} (u : RewrittenUnit) (old its : PBody) (vars : List PDecl) (done : Result D M) (result : Result Body M) (new : PBody) → IfOk result (λ made. OkWith done (λ _. plain_body made ≡ new)) → OnOk done (new ≡ inside_body (walk_of (normal_rule u)) old vars) → old ≡ its → vars ≡ [] → IfOk result (λ made. plain_body made ≡ normal_body u its)
body_done u old its vars done (Err e) new keeps h same none = keeps
body_done u old its vars (Err e) (Ok b) new keeps h same none = absurd keeps
body_done u old its vars (Ok d) (Ok b) new keeps h same none = keeps ∙ body_walked u new old its vars h same none

-- the variables then
pub variables_done : {D M : Type 0} (u : RewrittenUnit) (behind : List PDecl) (old its : PBody) (vars : List PDecl) (done : Result D M) (result : Result Body M) (new : PBody) → IfOk result (λ made. OkWith done (λ _. plain_body made ≡ new)) → OnOk done (behind ≡ after_body (walk_of (normal_rule u)) old vars) → old ≡ its → vars ≡ [] → OnOk result (behind ≡ unit_variables u its)
variables_done u behind old its vars done (Err e) new keeps h same none = keeps
variables_done u behind old its vars (Err e) (Ok b) new keeps h same none = absurd keeps
variables_done u behind old its vars (Ok d) (Ok b) new keeps h same none = variables_walked u behind old its vars h same none

-- the names then
pub track_done : {D M : Type 0} (g : Setting) (members : Members) (begun : ℕ) (t : Track) (done : Result D M) (result : Result Body M) (new : PBody) → IfOk result (λ made. OkWith done (λ _. plain_body made ≡ new)) → OnOk done (FitsUnit g members begun t) → OnOk result (IsTrack g t)
track_done g members begun t done (Err e) new keeps h = keeps
track_done g members begun t (Err e) (Ok b) new keeps h = absurd keeps
track_done g members begun t (Ok d) (Ok b) new keeps h = h.track

-- how many there are then
pub count_done : {D M : Type 0} (g : Setting) (members : Members) (begun first : ℕ) (t : Track) (done : Result D M) (result : Result Body M) (new : PBody) → IfOk result (λ made. OkWith done (λ _. plain_body made ≡ new)) → OnOk done (FitsUnit g members begun t) → begun ≡ first → OnOk result (length t.names.variables.items ≡ max first (length t.decls.items))
count_done g members begun first t done (Err e) new keeps h same = keeps
count_done g members begun first t (Err e) (Ok b) new keeps h same = absurd keeps
count_done g members begun first t (Ok d) (Ok b) new keeps h same = h.count ∙ ap (λ n. max n (length t.decls.items)) same

pub ruleset walking = (variables_counted, fits_more, meant, fits_begun)
