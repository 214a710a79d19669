-- The lemmas on frames at what the code calls: the others are a list whose inner ones come last, and the last of it is taken.
use Rattle.std.proofs.Common.{arith, ◌≡◌, ℕ, ◌+◌, ◌<◌, true, false, List, [], ◌∷◌, ◌++◌, length, get_or, Option, Some, None, option_map, refl, sym, ap, ◌∙◌, subst, true≢false, reverse, drop}
use Rattle.std.specs.Prelude.{IfSome}
use Rattle.std.specs.Borrow.{Bor}
use Rattle.std.proofs.lemmas.List.{drop_more}
use Rattle.ada_tree.specs.declared.naming.Word.{Word}
use Rattle.ada_tree.specs.declared.statements.Stmt.{Stmt}
use Rattle.ada_tree.specs.declared.statements.Handler.{Handler, out-Handler}
use Rattle.ada_tree.specs.PlainStmt.{PStmts, no_stmt, seen}
use Rattle.ada_value.specs.declared.values.Raised.{Raised}
use Rattle.task_model.specs.declared.parameters.FormalParameter.{FormalParameter}
use Rattle.task_model.specs.Frames as model
use Rattle.task_model.specs.Frames.{PFrame, is_for, handler_for}
use Rattle.task_state.specs.declared.frames.frame.Place.{Place}
use Rattle.task_state.specs.declared.frames.frame.Place.TheVariants as stands
use Rattle.task_state.specs.declared.frames.frame.Turns.{Turns}
use Rattle.task_state.specs.declared.frames.frame.Frame.{Frame}
use Rattle.task_state.specs.declared.frames.landing.Landing.{Landing}
use Rattle.task_state.specs.frames.Stack.{Stack, control_on, with_part, passed}
use Rattle.task_state.specs.frames.Seen.{seen_handlers, on_parts, all_parts, parts_of, stack_of, IsUnit, IsGrounded, is_over}
use Rattle.task_state.specs.frames.inner.Catching.{caught_in, holds_exits, is_exited, parameters_in}
use Rattle.task_state.specs.frames.Moves.{Settles, IsRaisedTo, IsLeftWith, IsExitedTo, IsPushed, Closes, LeavesLoop}
use Rattle.task_state.proofs.frames.StackLemmas.{popped, two_pushed, settled_pops, raise_beyond, exit_held, exit_left, exit_passes}
use Rattle.task_state.proofs.frames.MovesLemmas.{is_pushed, closes}
use Rattle.task_state.proofs.frames.HandlerLemmas.{handler_taken, handler_passed}

-- ---- settling

pub settle_below : (top below : Frame) (outer inner : List Frame) (new : Stack) → outer ≡ inner ++ below ∷ [] → is_over top.rest.now top.place ≡ true →
    Settles (stack_of below (reverse inner)) new → Settles (stack_of top (reverse outer)) new
settle_below top below outer inner new items over settles =
    subst
    (λ fs. Settles (on_parts (seen top.rest.now) top.place (parts_of fs)) new)
    (sym (popped outer inner below items))
    (settled_pops top.rest.now top.place (stack_of below (reverse inner)) new over settles)

-- ---- one frame more

pub push_settles : (frame top below : Frame) (old mid outer : List Frame) (new : Stack) → mid ≡ old → outer ≡ mid ++ below ∷ [] →
    ((fs : List Frame) → stack_of below fs ≡ passed (stack_of top fs)) → Settles (stack_of frame (reverse outer)) new →
    Settles (on_parts (seen frame.rest.now) frame.place (all_parts (passed (stack_of top (reverse old))))) new
push_settles frame top below old mid outer new same items passes settles =
    subst
    (λ parts. Settles (on_parts (seen frame.rest.now) frame.place parts) new)
    (ap parts_of (popped outer mid below items ∙ ap (λ fs. below ∷ reverse fs) same) ∙ ap all_parts (passes (reverse old)))
    settles

pub pushed_from : (stmts : PStmts) (place : model.Around) (held old new : Stack) → old ≡ held → Settles (with_part record { rest = stmts; place = place } (all_parts (passed old))) new → IsPushed stmts place held new
pushed_from stmts place held old new same settles = subst (λ s. IsPushed stmts place s new) same (is_pushed stmts place old new settles)

-- ---- exceptions

pub raise_below : (x : Raised) (frame below : Frame) (outer inner : List Frame) (p n : ℕ) (s : Stack) → outer ≡ inner ++ below ∷ [] → p ≡ parameters_in frame.place →
    ((fs : List Frame) → ◌≡◌ {A = Option Stack} None (option_map (λ part. with_part part (parts_of fs)) (caught_in x frame.place))) →
    IsRaisedTo x n (stack_of below (reverse inner)) s → IsRaisedTo x (p + n) (stack_of frame (reverse outer)) s
raise_below x frame below outer inner p n s items count beyond lands =
    subst
    (λ m. IsRaisedTo x (m + n) (stack_of frame (reverse outer)) s)
    (sym count)
    (subst
    (λ fs. IsRaisedTo x (parameters_in frame.place + n) (on_parts (seen frame.rest.now) frame.place (parts_of fs)) s)
    (sym (popped outer inner below items))
    (raise_beyond x (seen frame.rest.now) frame.place below (reverse inner) n s (beyond (below ∷ reverse inner)) lands))

-- where no frame is around, the frame is the unit's body
pub grounded_alone : (place : Place) (outer : List Frame) → outer ≡ [] → IsGrounded place (reverse outer) → IsUnit place
grounded_alone place outer none grounded = subst (λ fs. IsGrounded place (reverse fs)) none grounded

pub unit_grounded : (old new : Place) (fs : List Frame) → IsUnit new → IsGrounded old fs → IsGrounded new fs
unit_grounded old new [] unit grounded = unit
unit_grounded old new (f ∷ fs) unit grounded = grounded

pub opened_grounded : (place : Place) (caller : ℕ) (formals : Bor (List FormalParameter)) (before after : Option Raised) (fs : List Frame) → place ≡ stands.Opened caller formals before →
    IsGrounded place fs → IsGrounded (stands.Opened caller formals after) fs
opened_grounded place caller formals before after [] is grounded = absurd (subst IsUnit is grounded)
opened_grounded place caller formals before after (f ∷ fs) is grounded = grounded

-- a fact that hangs on nothing in the option
if_some : {T : Type 0} (o : Option T) (P : Type 0) → P → IfSome o (λ x. P)
if_some (Some x) P p = p
if_some None P p = tt

pub block_grounded : (place : Place) (handlers : Bor (List Handler)) (o : Option Frame) (fs : List Frame) → place ≡ stands.Block handlers → IsGrounded place fs → IfSome o (λ f. IsGrounded f.place fs)
block_grounded place handlers o [] is grounded = absurd (subst IsUnit is grounded)
block_grounded place handlers o (f ∷ fs) is grounded = if_some o (IsGrounded f.place fs) grounded

-- ---- exits

pub exit_at_end : (w : Option Word) (frame end : Frame) (fs : List Frame) → end.rest.now ≡ [] → end.place ≡ frame.place → holds_exits frame.place ≡ true → IsExitedTo w 0 (stack_of frame fs) (stack_of end fs)
exit_at_end w frame end fs rest place holds vars =
    ap (λ s. control_on s vars) (ap (λ stmts. on_parts (seen stmts) end.place (parts_of fs)) rest ∙ ap (λ p. on_parts no_stmt p (parts_of fs)) place) ∙
    exit_held w (seen frame.rest.now) frame.place (parts_of fs) holds vars

pub exit_behind : (w : Option Word) (frame below : Frame) (outer inner left : List Frame) (p : ℕ) (beyond : Landing) → outer ≡ inner ++ below ∷ [] → p ≡ parameters_in frame.place → is_exited w frame.place ≡ true →
    beyond ≡ record { frame = below; gone = 0 } → left ≡ inner → IsExitedTo w (p + beyond.gone) (stack_of frame (reverse outer)) (stack_of beyond.frame (reverse left))
exit_behind w frame below outer inner left p beyond items count exited is same =
    let at_loop : IsExitedTo w (parameters_in frame.place) (stack_of frame (below ∷ reverse inner)) (stack_of below (reverse inner)) =
    exit_left w (seen frame.rest.now) frame.place (stack_of below (reverse inner)) exited in
    let none : p + 0 ≡ parameters_in frame.place = omega (arith, count) in
    let first : IsExitedTo w (p + 0) (stack_of frame (reverse outer)) (stack_of below (reverse inner)) =
    subst
    (λ fs. IsExitedTo w (p + 0) (stack_of frame fs) (stack_of below (reverse inner)))
    (sym (popped outer inner below items))
    (subst (λ m. IsExitedTo w m (stack_of frame (below ∷ reverse inner)) (stack_of below (reverse inner))) (sym none) at_loop) in
    let second : IsExitedTo w (p + beyond.gone) (stack_of frame (reverse outer)) (stack_of beyond.frame (reverse inner)) =
    subst (λ (b : Landing). IsExitedTo w (p + b.gone) (stack_of frame (reverse outer)) (stack_of b.frame (reverse inner))) (sym is) first in
    subst (λ fs. IsExitedTo w (p + beyond.gone) (stack_of frame (reverse outer)) (stack_of beyond.frame (reverse fs))) (sym same) second

pub exit_below : (w : Option Word) (frame below : Frame) (outer inner left kept : List Frame) (p : ℕ) (beyond landing : Landing) → outer ≡ inner ++ below ∷ [] → p ≡ parameters_in frame.place → holds_exits frame.place ≡ false → is_exited w frame.place ≡ false →
    beyond ≡ landing → left ≡ kept → IsExitedTo w landing.gone (stack_of below (reverse inner)) (stack_of landing.frame (reverse kept)) →
    IsExitedTo w (p + beyond.gone) (stack_of frame (reverse outer)) (stack_of beyond.frame (reverse left))
exit_below w frame below outer inner left kept p beyond landing items count holds exited is same lands =
    let passing : IsExitedTo w (parameters_in frame.place + landing.gone) (stack_of frame (below ∷ reverse inner)) (stack_of landing.frame (reverse kept)) =
    exit_passes w (seen frame.rest.now) frame.place (stack_of below (reverse inner)) landing.gone (stack_of landing.frame (reverse kept)) holds exited lands in
    let first : IsExitedTo w (p + landing.gone) (stack_of frame (reverse outer)) (stack_of landing.frame (reverse kept)) =
    subst
    (λ fs. IsExitedTo w (p + landing.gone) (stack_of frame fs) (stack_of landing.frame (reverse kept)))
    (sym (popped outer inner below items))
    (subst (λ m. IsExitedTo w (m + landing.gone) (stack_of frame (below ∷ reverse inner)) (stack_of landing.frame (reverse kept))) (sym count) passing) in
    let second : IsExitedTo w (p + beyond.gone) (stack_of frame (reverse outer)) (stack_of beyond.frame (reverse kept)) =
    subst (λ (b : Landing). IsExitedTo w (p + b.gone) (stack_of frame (reverse outer)) (stack_of b.frame (reverse kept))) (sym is) first in
    subst (λ fs. IsExitedTo w (p + beyond.gone) (stack_of frame (reverse outer)) (stack_of beyond.frame (reverse fs))) (sym same) second

-- ---- handlers of a list

pub taken_at : (x : Raised) (hs : List Handler) (i : ℕ) (h : Handler) (names : List Word) (stmts : List Stmt) → i < length hs → h ≡ get_or hs i h → stmts ≡ (out-Handler h).stmts.items → names ≡ (out-Handler h).names.items →
    is_for x names ≡ true → handler_for x (seen_handlers hs) ≡ handler_for x (seen_handlers (drop i hs)) → Some (seen stmts) ≡ handler_for x (seen_handlers hs)
taken_at x hs i h names stmts lt is stmts_is names_is taken invariant =
    ap (λ xs. Some (seen xs)) stmts_is ∙
    handler_taken x h (drop (i + 1) hs) (ap (is_for x) (sym names_is) ∙ taken) ∙
    ap (λ g. handler_for x (seen_handlers (g ∷ drop (i + 1) hs))) is ∙
    ap (λ gs. handler_for x (seen_handlers gs)) (sym (drop_more hs i h lt)) ∙
    sym invariant

pub passed_at : (x : Raised) (hs : List Handler) (i : ℕ) (h : Handler) (names : List Word) → i < length hs → h ≡ get_or hs i h → names ≡ (out-Handler h).names.items →
    is_for x names ≡ false → handler_for x (seen_handlers hs) ≡ handler_for x (seen_handlers (drop i hs)) → handler_for x (seen_handlers hs) ≡ handler_for x (seen_handlers (drop (i + 1) hs))
passed_at x hs i h names lt is names_is passes invariant =
    invariant ∙
    ap (λ gs. handler_for x (seen_handlers gs)) (drop_more hs i h lt) ∙
    ap (λ g. handler_for x (seen_handlers (g ∷ drop (i + 1) hs))) (sym is) ∙
    handler_passed x h (drop (i + 1) hs) (ap (is_for x) (sym names_is) ∙ passes)

-- ---- accept bodies

pub two_grounded : (place top : Place) (f g : Frame) (old same mid new : List Frame) → same ≡ old → mid ≡ same ++ f ∷ [] → new ≡ mid ++ g ∷ [] → f.place ≡ top → IsGrounded top (reverse old) → IsGrounded place (reverse new)
two_grounded place top f g old same mid new kept first second is grounded =
    subst
    (λ fs. IsGrounded place fs)
    (sym (two_pushed same mid new f g first second))
    (subst (λ fs. IsGrounded f.place (reverse fs)) (sym kept) (subst (λ p. IsGrounded p (reverse old)) (sym is) grounded))

pub closes_from : (top below : Frame) (caller : ℕ) (formals : Bor (List FormalParameter)) (pending : Option Raised) (outer inner : List Frame) (held landed new : Stack) (count gone : ℕ) →
    top.place ≡ stands.Opened caller formals pending → outer ≡ inner ++ below ∷ [] → stack_of top (reverse outer) ≡ held → count ≡ length formals.now →
    IsLeftWith pending gone (stack_of below (reverse inner)) landed → Settles landed new → Closes (count + gone) held new
closes_from top below caller formals pending outer inner held landed new count gone is items view counted left settles =
    subst
    (λ n. Closes (n + gone) held new)
    (sym counted)
    (subst
    (λ s. Closes (length formals.now + gone) s new)
    (ap (λ p. on_parts (seen top.rest.now) p (all_parts (stack_of below (reverse inner)))) (sym is) ∙ ap (λ fs. on_parts (seen top.rest.now) top.place (parts_of fs)) (sym (popped outer inner below items)) ∙ view)
    (closes caller formals.now pending gone (seen top.rest.now) (stack_of below (reverse inner)) landed new left settles))

-- a frame at its end that is no accept body closes none
nothing_closed : (rest : List Stmt) (place : Place) (parts : List PFrame) → is_over rest place ≡ false →
    ((caller : ℕ) (formals : Bor (List FormalParameter)) (pending : Option Raised) → place ≡ stands.Opened caller formals pending → ⊥) →
    Closes 0 (on_parts (seen rest) place parts) (on_parts (seen rest) place parts)
nothing_closed [] stands.Inside parts h other over t = absurd (true≢false h)
nothing_closed [] (stands.OwnBody handlers taken) parts h other over t = refl
nothing_closed [] (stands.Block handlers) parts h other over t = refl
nothing_closed [] (stands.Handling x) parts h other over t = refl
nothing_closed [] (stands.Loop name turns stmts) parts h other over t = refl
nothing_closed [] (stands.Opened caller formals pending) parts h other over t = absurd (other caller formals pending refl)
nothing_closed (s ∷ rest) stands.Inside [] h other over t = absurd (cc)
nothing_closed (s ∷ rest) stands.Inside (p ∷ ps) h other over t = absurd (cc)
nothing_closed (s ∷ rest) (stands.OwnBody handlers taken) parts h other over t = absurd (cc)
nothing_closed (s ∷ rest) (stands.Block handlers) parts h other over t = absurd (cc)
nothing_closed (s ∷ rest) (stands.Handling x) parts h other over t = absurd (cc)
nothing_closed (s ∷ rest) (stands.Loop name turns stmts) parts h other over t = absurd (cc)
nothing_closed (s ∷ rest) (stands.Opened caller formals pending) parts h other over t = absurd (other caller formals pending refl)

pub closes_nothing : (top : Frame) (outer : List Frame) (held : Stack) → stack_of top (reverse outer) ≡ held → is_over top.rest.now top.place ≡ false →
    ((caller : ℕ) (formals : Bor (List FormalParameter)) (pending : Option Raised) → top.place ≡ stands.Opened caller formals pending → ⊥) → Closes 0 held held
closes_nothing top outer held view h other = subst (λ s. Closes 0 s s) view (nothing_closed top.rest.now top.place (parts_of (reverse outer)) h other)

-- ---- loops

-- a frame at its end that is no loop
no_loop : (rest : List Stmt) (place : Place) (parts : List PFrame) (name : Option Word) (turns : model.Turns) (stmts : PStmts) → is_over rest place ≡ false →
    ((own : Option Word) (way : Turns) (turn : Bor (List Stmt)) → place ≡ stands.Loop own way turn → ⊥) →
    (on_parts (seen rest) place parts).top.rest ≡ no_stmt → (on_parts (seen rest) place parts).top.place ≡ model.Loop name turns stmts → ⊥
no_loop [] stands.Inside parts name turns stmts h other over at = true≢false h
no_loop [] (stands.OwnBody handlers taken) parts name turns stmts h other over at = cc
no_loop [] (stands.Block handlers) parts name turns stmts h other over at = cc
no_loop [] (stands.Handling x) parts name turns stmts h other over at = cc
no_loop [] (stands.Loop own way turn) parts name turns stmts h other over at = other own way turn refl
no_loop [] (stands.Opened caller formals pending) parts name turns stmts h other over at = cc
no_loop (s ∷ rest) stands.Inside [] name turns stmts h other over at = cc
no_loop (s ∷ rest) stands.Inside (p ∷ ps) name turns stmts h other over at = cc
no_loop (s ∷ rest) (stands.OwnBody handlers taken) parts name turns stmts h other over at = cc
no_loop (s ∷ rest) (stands.Block handlers) parts name turns stmts h other over at = cc
no_loop (s ∷ rest) (stands.Handling x) parts name turns stmts h other over at = cc
no_loop (s ∷ rest) (stands.Loop own way turn) parts name turns stmts h other over at = cc
no_loop (s ∷ rest) (stands.Opened caller formals pending) parts name turns stmts h other over at = cc

pub leaves_nothing : (top : Frame) (outer : List Frame) (held : Stack) → stack_of top (reverse outer) ≡ held → is_over top.rest.now top.place ≡ false →
    ((own : Option Word) (way : Turns) (turn : Bor (List Stmt)) → top.place ≡ stands.Loop own way turn → ⊥) → LeavesLoop 0 held held
leaves_nothing top outer held view h other =
    subst (λ s. LeavesLoop 0 s s) view (λ name turns stmts over at t. absurd (no_loop top.rest.now top.place (parts_of (reverse outer)) name turns stmts h other over at))
