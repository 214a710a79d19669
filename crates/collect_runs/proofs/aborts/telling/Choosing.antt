-- Accepts and selective waits: the image waits for the same in its try. Which alternatives are open in both, and which delay has passed.
use Rattle.std.proofs.Common.{◌≡◌, ◌==◌, ◌≤◌, ◌<◌, ◌+◌, ℕ, ℤ, Bool, true, false, ◌||◌, if◌then◌else◌, List, [], ◌∷◌, Option, Some, None, Result, Ok, Err, refl, sym, ap, subst, ◌∙◌, true≢false, arith}
use Rattle.std.specs.List.{list_any}
use Rattle.std.proofs.lemmas.Bool.{eqb-true}
use Rattle.common_lemmas.proofs.Numbers.{unequal_above}
use Rattle.event_machine.specs.declared.Choice.TheVariants as choice
use Rattle.ada_tree.specs.declared.naming.Span.{Span}
use Rattle.ada_tree.specs.Every.{alts_count}
use Rattle.ada_tree.specs.PlainExpr.{PExpr}
use Rattle.ada_tree.specs.PlainStmt.{PHead, PStmt, SExit, SIf, PStmts, no_stmt, stmt_then, PMaybe, absent, accepting, alternative, AAccept, ADelay, ATerminate, PAlts, no_alt, alt_then}
use Rattle.ada_value.specs.declared.values.Raised.{Raised}
use Rattle.ada_value.specs.Values.{and_then, is_true_value, checked, truth_limits}
use Rattle.ada_value.specs.Variables.{Variables}
use Rattle.task_model.specs.Setting.{entry_of, member_index}
use Rattle.task_model.specs.Frames.{Endless, Around, Block, Loop, PFrame, control, in_front}
use Rattle.task_model.specs.Tasks.{Task, vars_of, stmts_or_none}
use Rattle.task_model.specs.Waits.{Open, Accepts, Delays, Terminates, guard_holds, accept_opened, kind_opened, opened_if, alternatives_open, accept_choice, is_shorter, delay_choice, terminate_choice, accepts_member, delay_here, delay_stmts}
use Rattle.task_laws.specs.translation.OldNames.{OldOption, old_none, old_some}
use Rattle.task_laws.specs.translation.OldTexts.{only_names, OldFormals, OldHead, OldAlts, old_no_alt, old_alt, old_accepts, old_delays, old_terminates}
use Rattle.task_laws.specs.translation.Scopes.{SeeAlike}
use Rattle.task_laws.specs.translation.Images.{ImageMaybe}
use Rattle.task_laws.specs.translation.Controls.{frame, task_in, Under, are_around}
use Rattle.task_laws.proofs.translation.Results.{Both, both_ok, both_err, both_then}
use Rattle.task_laws.proofs.translation.Frames.{sees-alike}
use Rattle.task_laws.proofs.translation.Locals.{values-alike}
use Rattle.normal_model.specs.Making.{one}
use Rattle.normal_model.specs.Walk.{Rewriter, after_stmts, after_accept, after_alts, inside_alts}
use Rattle.collect_model.specs.Noting.{has_delay, own_note}
use Rattle.collect_model.specs.Calling.{part_is}
use Rattle.collect_model.specs.Serving.{head_telling}
use Rattle.collect_runs.specs.telling.Texts.{IsInteger, IsHeadAlike, HasHead, has_first, has_later}
use Rattle.collect_runs.proofs.telling.Choosing.{delays_at, AreSame, same_none, same_then}
use Rattle.collect_model.specs.aborts.AbortTeller.{AbortTeller}
use Rattle.collect_model.specs.aborts.AbortStmts.{abort_rewriter}
use Rattle.collect_model.specs.aborts.Serving.{begins, accept_told}
use Rattle.collect_model.specs.aborts.Waiting.{part_unless_refused, alternatives_told, is_taken, branches}
use Rattle.collect_runs.specs.aborts.translation.Rows.{Telling, telling_rows}
use Rattle.collect_runs.specs.aborts.translation.Floors.{OpenPlace, innermost, ends_service, IsBranch, this_branch, later_branch, Behind, behind_wait}
use Rattle.collect_runs.proofs.aborts.translation.Counting.{at-most, grows_stmts, grows_accept, grows_alts}
use Rattle.collect_runs.proofs.aborts.translation.Rows.{rows, maybe-rows, are-images}
use Rattle.collect_runs.specs.aborts.telling.Texts.{Texts, plain, form, text, teller, unit_translation, CanTell}
use Rattle.collect_runs.proofs.aborts.telling.Going.{IsDelayed, this_delay, later_delay}
use Rattle.collect_runs.proofs.aborts.telling.Moving.{laws}

-- an alternative in front of others
opened-same : {S : Open → Open → Type 0} (a b : Result Bool Raised) → a ≡ b → {one one' : Result Open Raised} {rest rest' : Result (List Open) Raised} →
    Both S one one' → Both (AreSame S) rest rest' →
    Both (AreSame S) (and_then a (λ c. opened_if c one rest)) (and_then b (λ c. opened_if c one' rest'))
opened-same {S} a b e {one} {one'} {rest} {rest'} h more = subst
    (λ d. Both (AreSame S) (and_then a (λ c. opened_if c one rest)) (and_then d (λ c. opened_if c one' rest'))) e (go a)
  where
    go : (d : Result Bool Raised) → Both (AreSame S) (and_then d (λ c. opened_if c one rest)) (and_then d (λ c. opened_if c one' rest'))
    go (Ok true) = both_then h (λ o o' s. both_then more (λ os os' ss. both_ok (o ∷ os) (o' ∷ os') (same_then o o' os os' s ss)))
    go (Ok false) = more
    go (Err z) = both_err z

module _ (x : Texts) (can : CanTell x) (t : ℕ) (ps : List OpenPlace) (n : ℕ) where
  abbrev X : AbortTeller
  X = teller x t

  abbrev Row : PStmts → PStmts → Type 0
  Row r r' = Telling (only_names x.programs) (teller x t) (innermost ps) (x.places t) r r'

  joined : {a a' d d' : PStmts} → Row a a' → Row d d' → Row (in_front a d) (in_front a' d')
  joined k j = (are-images (only_names x.programs) (teller x t) (innermost ps) (x.places t)).joined _ _ _ _ k j

  abbrev walk : Rewriter ℕ
  walk = abort_rewriter (teller x t)

  -- ---- alternatives with their parts rewritten

  -- The places in the accept bodies come behind that of the wait.
  pub data AltsTold : PAlts → PAlts → Type 0 where
    alts_none : AltsTold no_alt no_alt
    alts_accept : (g : Option PExpr) (h : PHead) (m m' : PMaybe) (l l' : PStmts) (s : Span) (rest rest' : PAlts) → OldOption x.programs g →
        OldHead x.programs h →
        ImageMaybe (telling_rows (only_names x.programs) (teller x t) n (x.places t)) m m' →
        Telling (only_names x.programs) (teller x t) (innermost ps) (x.places t) l l' →
        AltsTold rest rest' → AltsTold (alt_then (alternative g (AAccept (accepting h m) l) s) rest)
        (alt_then (alternative g (AAccept (accepting h m') l') s) rest')
    alts_delay : (g : Option PExpr) (d : ℕ) (l l' : PStmts) (s : Span) (rest rest' : PAlts) → OldOption x.programs g →
        Telling (only_names x.programs) (teller x t) (innermost ps) (x.places t) l l' →
        AltsTold rest rest' → AltsTold (alt_then (alternative g (ADelay d l) s) rest) (alt_then (alternative g (ADelay d l') s) rest')
    alts_terminate : (g : Option PExpr) (s : Span) (rest rest' : PAlts) → OldOption x.programs g → AltsTold rest rest' →
        AltsTold (alt_then (alternative g ATerminate s) rest) (alt_then (alternative g ATerminate s) rest')

  pub alts-told : innermost ps ≤ n → {alts : PAlts} → OldAlts (only_names x.programs) alts → (k : ℕ) → n ≤ k →
      after_alts (abort_rewriter (teller x t)) alts k ≤ x.places t →
      AltsTold alts (inside_alts (abort_rewriter (teller x t)) alts k)
  alts-told le old_no_alt k from to = alts_none
  alts-told le (old_alt g _ s rest old (old_accepts h m l oh ask om ol) more) k from to =
      let mid = after_accept walk (accepting h m) k in
      let up = at-most from (grows_accept X (accepting h m) k) in
      let all = at-most (grows_alts X rest (after_stmts walk l mid)) to in
      alts_accept g h m _ l _ s rest _ old oh (maybe-rows (only_names x.programs) X n (x.places t) om k from (at-most (grows_stmts X l mid) all))
      (rows (only_names x.programs) X (innermost ps) (x.places t) ol mid (at-most le up) all)
      (alts-told le more (after_stmts walk l mid) (at-most up (grows_stmts X l mid)) to)
  alts-told le (old_alt g _ s rest old (old_delays d l ol) more) k from to =
      alts_delay g d l _ s rest _ old
      (rows (only_names x.programs) X (innermost ps) (x.places t) ol k (at-most le from) (at-most (grows_alts X rest (after_stmts walk l k)) to))
      (alts-told le more (after_stmts walk l k) (at-most from (grows_stmts X l k)) to)
  alts-told le (old_alt g _ s rest old old_terminates more) k from to = alts_terminate g s rest _ old (alts-told le more k from to)

  -- ---- delay alternatives

  -- The k-th delay alternative stands here among alternatives with m delays before them, which are numbered from j on: its statements, and its number in the
  -- image, which keeps that behind the note.
  pub record DelayFound (alts alts' : PAlts) (j m k : ℕ) : Type 0 where
    pub above : m < k
    pub upto : k ≤ m + alts_count alts
    pub span : Span
    pub number : ℕ
    pub few : number < j + alts_count alts
    pub first : j ≤ number
    pub stmts : PStmts
    pub stmts' : PStmts
    pub here : delay_stmts alts m k ≡ stmts
    pub there : delay_stmts (alternatives_told (teller x t) n alts' j (m + 1)) m k ≡ stmt_then (own_note (teller x t).teller span has_delay k)
        (part_is (teller x t).teller span number)
    pub delayed : IsDelayed alts' j number span stmts'
    pub row : Telling (only_names x.programs) (teller x t) (innermost ps) (x.places t) stmts stmts'

  module _ (σ : Task) (k : ℕ) where
    abbrev delay_of : Result Open Raised → Bool
    delay_of (Ok z) = delays_at k z
    delay_of (Err z) = false

    abbrev pub delay_among : Result (List Open) Raised → Bool
    delay_among (Ok os) = list_any (delays_at k) os
    delay_among (Err z) = false

    -- where a delay of this number is among open alternatives it is the first, which is open, or it is among the others
    search : (G : Type 0) (r : Result Bool Raised) (one : Result Open Raised) (rest : Result (List Open) Raised) →
        delay_among (and_then r (λ b. opened_if b one rest)) ≡ true →
        (delay_among rest ≡ true → G) → (delay_of one ≡ true → G) → G
    search G (Ok false) one rest h more first = more h
    search G (Ok true) (Ok o) (Ok os) h more first = go (delays_at k o) refl h
      where
        go : (c : Bool) → delays_at k o ≡ c → (c || list_any (delays_at k) os) ≡ true → G
        go true e j = first e
        go false e j = more j
    search G (Ok true) (Ok o) (Err z) h more first = absurd (true≢false (sym h))
    search G (Ok true) (Err z) rest h more first = absurd (true≢false (sym h))
    search G (Err z) one rest h more first = absurd (true≢false (sym h))

    -- an accept is no delay
    accept-no-delay : (r : Result ℤ Raised) (e : ℕ) (h : PHead) (l d : PStmts) → delay_of (and_then r (λ i. Ok (Accepts e i h l d))) ≡ true → ⊥
    accept-no-delay (Ok i) e h l d q = true≢false (sym q)
    accept-no-delay (Err z) e h l d q = true≢false (sym q)

    pub found-delay : {alts alts' : PAlts} → AltsTold alts alts' → (j m : ℕ) → delay_among (alternatives_open σ alts m) ≡ true → DelayFound alts alts' j m k
    found-delay alts_none j m h = absurd (true≢false (sym h))
    found-delay (alts_accept g hd u u' l l' s rest rest' old of im row more) j m h =
        search (DelayFound (alt_then (alternative g (AAccept (accepting hd u) l) s) rest)
        (alt_then (alternative g (AAccept (accepting hd u') l') s) rest') j m k)
        (guard_holds σ g) (kind_opened σ (AAccept (accepting hd u) l) m) (alternatives_open σ rest m) h
        (λ q. let d = found-delay more (j + 1) m q in
        record {
          above = d.above;
          upto = omega (arith, d.upto);
          span = d.span;
          number = d.number;
          few = omega (arith, d.few);
          first = omega (arith, d.first);
          stmts = d.stmts;
          stmts' = d.stmts';
          here = d.here;
          there = d.there;
          delayed = later_delay _ rest' j d.number d.span d.stmts' d.delayed;
          row = d.row;
        })
        (λ q. absurd (accept-no-delay (member_index σ.setting (vars_of σ) (entry_of σ.setting.numbers σ.number hd.entry.name) hd.index)
        (entry_of σ.setting.numbers σ.number hd.entry.name) hd (stmts_or_none u) l q))
    found-delay (alts_delay g d l l' s rest rest' old row more) j m h =
        search (DelayFound (alt_then (alternative g (ADelay d l) s) rest) (alt_then (alternative g (ADelay d l') s) rest') j m k)
        (guard_holds σ g) (Ok (Delays (m + 1) d l)) (alternatives_open σ rest (m + 1)) h
        (λ q. let e = found-delay more (j + 1) (m + 1) q in
        let other : (k == m + 1) ≡ false = unequal_above k (m + 1) e.above in
        record {
          above = omega (arith, e.above);
          upto = omega (arith, e.upto);
          span = e.span;
          number = e.number;
          few = omega (arith, e.few);
          first = omega (arith, e.first);
          stmts = e.stmts;
          stmts' = e.stmts';
          here = ap (λ c. delay_here (Some l) c (delay_stmts rest (m + 1) k)) other ∙ e.here;
          there = ap (λ c. delay_here (Some (stmt_then (own_note X.teller s has_delay (m + 1)) (part_is X.teller s j))) c
              (delay_stmts (alternatives_told X n rest' (j + 1) (m + 1 + 1)) (m + 1) k)) other ∙ e.there;
          delayed = later_delay _ rest' j e.number e.span e.stmts' e.delayed;
          row = e.row;
        })
        (λ q. let same : k ≡ m + 1 = eqb-true k (m + 1) q in
        record {
          above = omega (arith, same);
          upto = omega (arith, same);
          span = s;
          number = j;
          few = omega arith;
          first = omega arith;
          stmts = l;
          stmts' = l';
          here = ap (λ c. delay_here (Some l) c (delay_stmts rest (m + 1) k)) q;
          there = ap (λ c. delay_here (Some (stmt_then (own_note X.teller s has_delay (m + 1)) (part_is X.teller s j))) c
              (delay_stmts (alternatives_told X n rest' (j + 1) (m + 1 + 1)) (m + 1) k)) q
              ∙ ap (λ a. stmt_then (own_note X.teller s has_delay a) (part_is X.teller s j)) (sym same);
          delayed = this_delay g d l' s rest' j;
          row = row;
        })
    found-delay (alts_terminate g s rest rest' old more) j m h =
        search (DelayFound (alt_then (alternative g ATerminate s) rest) (alt_then (alternative g ATerminate s) rest') j m k)
        (guard_holds σ g) (Ok Terminates) (alternatives_open σ rest m) h
        (λ q. let d = found-delay more (j + 1) m q in
        record {
          above = d.above;
          upto = omega (arith, d.upto);
          span = d.span;
          number = d.number;
          few = omega (arith, d.few);
          first = omega (arith, d.first);
          stmts = d.stmts;
          stmts' = d.stmts';
          here = d.here;
          there = d.there;
          delayed = later_delay _ rest' j d.number d.span d.stmts' d.delayed;
          row = d.row;
        })
        (λ q. absurd (true≢false (sym q)))

  -- ---- a wait and its image

  -- A statement with this row behind it, and what stands in its try: with this condition of the loop's exit, and these statements behind the loop.
  module _ (i : List ℤ) (w : List ℕ) (st st' : PStmt) (r r' : PStmts) (q q' : Around) (o o' : List PFrame) (V W : Variables)
      (v : Under (unit_translation x t ps) q o V q' o' W)
      (s0 : Span) (test : PExpr) (after turn : PStmts) where
    abbrev pub waiter : Task
    waiter = task_in (form x) t i w (control (stmt_then st r) q o V)

    abbrev pub image : Task
    image = task_in (text x) t i w
        (control (one st') (Block (ends_service (teller x t) s0 n)) (frame (one (SExit None (Some test) s0)) (Loop None Endless turn) ∷ frame after q' ∷ o') W)

    -- What is open in both. Behind an accept body the image goes on in its block.
    pub data OpenSame : Open → Open → Type 0 where
      same_accept : (z : ℤ) (h : PHead) (m m' : PMaybe) (l inner row' : PStmts) (s : Span) → OldFormals x.programs h.formals →
          ImageMaybe (telling_rows (only_names x.programs) (teller x t) n (x.places t)) m m' →
          ((U : Variables) → SeeAlike x.programs V U → IsHeadAlike (plain x) t h V U) →
          member_index (form x) V (entry_of (form x).numbers t h.entry.name) h.index ≡ Ok z → Behind (teller x t) s0 n inner test after row' →
          Telling (only_names x.programs) (teller x t) (innermost ps) (x.places t) (in_front l r) row' →
          OpenSame (Accepts (entry_of (form x).numbers t h.entry.name) z h (stmts_or_none m) l)
          (Accepts (entry_of (form x).numbers t h.entry.name) z (head_telling (teller x t).teller h) (begins (teller x t) s n h m') inner)
      same_delay : (k d : ℕ) (l l' : PStmts) → OpenSame (Delays k d l) (Delays k d l')
      same_terminate : OpenSame Terminates Terminates

    pub accept-same : (h : PHead) (m m' : PMaybe) (l inner row' : PStmts) (s : Span) → OldFormals x.programs h.formals →
        ImageMaybe (telling_rows (only_names x.programs) (teller x t) n (x.places t)) m m' → Behind (teller x t) s0 n inner test after row' →
        Telling (only_names x.programs) (teller x t) (innermost ps) (x.places t) (in_front l r) row' →
        ((U : Variables) → SeeAlike x.programs V U → IsHeadAlike (plain x) t h V U) →
        Both OpenSame (accept_opened waiter (accepting h m) l) (accept_opened image (accept_told (teller x t) s n (accepting h m')) inner)
    accept-same h m m' l inner row' s old img beh row heads = go (member_index (form x) V (entry_of (form x).numbers t h.entry.name) h.index) refl
      where
        a : IsHeadAlike (plain x) t h V W
        a = heads W (sees-alike (unit_translation x t ps) (laws x can t ps) v)

        go : (z : Result ℤ Raised) → member_index (form x) V (entry_of (form x).numbers t h.entry.name) h.index ≡ z →
            Both OpenSame (and_then (member_index (form x) V (entry_of (form x).numbers t h.entry.name) h.index)
            (λ j. Ok (Accepts (entry_of (form x).numbers t h.entry.name) j h (stmts_or_none m) l)))
            (and_then (member_index (text x) W (entry_of (text x).numbers t h.entry.name) h.index)
            (λ j. Ok (Accepts (entry_of (text x).numbers t h.entry.name) j (head_telling X.teller h) (begins X s n h m') inner)))
        go (Ok z) e =
            subst (λ u. Both OpenSame (and_then u (λ j. Ok (Accepts (entry_of (form x).numbers t h.entry.name) j h (stmts_or_none m) l)))
            (and_then (member_index (text x) W (entry_of (text x).numbers t h.entry.name) h.index)
            (λ j. Ok (Accepts (entry_of (text x).numbers t h.entry.name) j (head_telling X.teller h) (begins X s n h m') inner)))) (sym e)
            (subst (λ u. Both OpenSame (Ok (Accepts (entry_of (form x).numbers t h.entry.name) z h (stmts_or_none m) l))
            (and_then u (λ j. Ok (Accepts (entry_of (text x).numbers t h.entry.name) j (head_telling X.teller h) (begins X s n h m') inner))))
            (sym (a.index ∙ e))
            (subst (λ u. Both OpenSame (Ok (Accepts (entry_of (form x).numbers t h.entry.name) z h (stmts_or_none m) l))
            (Ok (Accepts u z (head_telling X.teller h) (begins X s n h m') inner))) (sym a.entry)
            (both_ok (Accepts (entry_of (form x).numbers t h.entry.name) z h (stmts_or_none m) l)
            (Accepts (entry_of (form x).numbers t h.entry.name) z (head_telling X.teller h) (begins X s n h m') inner)
            (same_accept z h m m' l inner row' s old img heads e beh row))))
        go (Err z) e =
            subst (λ u. Both OpenSame (and_then u (λ j. Ok (Accepts (entry_of (form x).numbers t h.entry.name) j h (stmts_or_none m) l)))
            (and_then (member_index (text x) W (entry_of (text x).numbers t h.entry.name) h.index)
            (λ j. Ok (Accepts (entry_of (text x).numbers t h.entry.name) j (head_telling X.teller h) (begins X s n h m') inner)))) (sym e)
            (subst (λ u. Both OpenSame (Err z)
            (and_then u (λ j. Ok (Accepts (entry_of (text x).numbers t h.entry.name) j (head_telling X.teller h) (begins X s n h m') inner))))
            (sym (a.index ∙ e)) (both_err z))

    -- a guard holds alike
    guard-same : {g : Option PExpr} → OldOption x.programs g → guard_holds waiter g ≡ guard_holds image g
    guard-same old_none = refl
    guard-same (old_some e old) =
        ap (λ u. and_then u (λ z. and_then (checked truth_limits z) (λ c. Ok (is_true_value c))))
        (values-alike (unit_translation x t ps) (laws x can t ps) waiter (task_in (text x) t i w (control no_stmt q' o' W))
        (are_around t i w (stmt_then st r) no_stmt v) e old)

    pub accept-alike : (a b : Open) → OpenSame a b → accept_choice a ≡ accept_choice b
    accept-alike _ _ (same_accept z h m m' l inner row' s old img a e beh row) = refl
    accept-alike _ _ (same_delay k d l l') = refl
    accept-alike _ _ same_terminate = refl

    pub shorter-alike : (d : ℕ) (a b : Open) → OpenSame a b → is_shorter d a ≡ is_shorter d b
    shorter-alike d _ _ (same_accept z h m m' l inner row' s old img a e beh row) = refl
    shorter-alike d _ _ (same_delay k c l l') = refl
    shorter-alike d _ _ same_terminate = refl

    pub delay-alike : (all all' : List Open) → ((d : ℕ) → list_any (is_shorter d) all ≡ list_any (is_shorter d) all') → (a b : Open) → OpenSame a b →
        delay_choice all a ≡ delay_choice all' b
    delay-alike all all' g _ _ (same_accept z h m m' l inner row' s old img a e beh row) = refl
    delay-alike all all' g _ _ (same_delay k d l l') = ap (λ (c : Bool). if c then None else Some (choice.Delay k)) (g d)
    delay-alike all all' g _ _ same_terminate = refl

    pub close-alike : (a b : Open) → OpenSame a b → terminate_choice a ≡ terminate_choice b
    close-alike _ _ (same_accept z h m m' l inner row' s old img a e beh row) = refl
    close-alike _ _ (same_delay k d l l') = refl
    close-alike _ _ same_terminate = refl

    pub member-alike : (e : ℕ) (z : ℤ) (a b : Open) → OpenSame a b → accepts_member e z a ≡ accepts_member e z b
    member-alike e z _ _ (same_accept n1 h m m' l inner row' s old img a g beh row) = refl
    member-alike e z _ _ (same_delay k d l l') = refl
    member-alike e z _ _ same_terminate = refl

  -- of a selective wait, whose alternatives are these and its else part this
  module _ (i : List ℤ) (w : List ℕ) (st st' : PStmt) (r r' : PStmts) (im : Telling (only_names x.programs) (teller x t) (innermost ps) (x.places t) r r')
      (q q' : Around) (o o' : List PFrame)
      (V W : Variables) (v : Under (unit_translation x t ps) q o V q' o' W) (s0 : Span) (turn : PStmts) (all : PAlts) (otherwise : PMaybe) where
    abbrev behind : PStmts
    behind = stmt_then (SIf (branches (teller x t) s0 n all otherwise 1) absent s0) r'

    -- the task and its image
    abbrev σ : Task
    σ = waiter i w st st' r r' q q' o o' V W v s0 (is_taken (teller x t) s0) behind turn

    abbrev κ : Task
    κ = image i w st st' r r' q q' o o' V W v s0 (is_taken (teller x t) s0) behind turn

    abbrev Same : Open → Open → Type 0
    Same a b = OpenSame i w st st' r r' q q' o o' V W v s0 (is_taken (teller x t) s0) behind turn a b

    pub alternatives-same : {alts alts' : PAlts} → AltsTold alts alts' →
        ((h : PHead) → HasHead h alts → OldHead x.programs h → (U : Variables) → SeeAlike x.programs V U → IsHeadAlike (plain x) t h V U) → (j k : ℕ) →
        ((j' : ℕ) (z : Span) (l' : PStmts) → IsBranch alts' j j' z l' → IsBranch all 1 j' z l') → ((j' : ℕ) → j' < j + alts_count alts → IsInteger j') →
        Both (AreSame Same) (alternatives_open (waiter i w st st' r r' q q' o o' V W v s0 (is_taken (teller x t) s0) behind turn) alts k)
        (alternatives_open (image i w st st' r r' q q' o o' V W v s0 (is_taken (teller x t) s0) behind turn)
        (alternatives_told (teller x t) n alts' j (k + 1)) k)
    alternatives-same alts_none heads j k branch fits = both_ok [] [] same_none
    alternatives-same (alts_accept g h m m' l l' s rest rest' old of img row more) heads j k branch fits =
        opened-same (guard_holds σ g) (guard_holds κ g) (guard-same i w st st' r r' q q' o o' V W v s0 (is_taken X s0) behind turn old)
        (accept-same i w st st' r r' q q' o o' V W v s0 (is_taken X s0) behind turn h m m' l (one (part_unless_refused X s n j))
        (in_front l' r') s of.formals img
        (behind_wait all otherwise j s l' r' (fits j (omega arith)) (branch j s l' (this_branch g (accepting h m') l' s rest' j))) (joined row im)
        (heads h (has_first g m l s rest) of))
        (alternatives-same more (λ h1 at. heads h1 (has_later g (AAccept (accepting h m) l) s rest at)) (j + 1) k
        (λ j' z l1 b. branch j' z l1 (later_branch _ rest' j j' z l1 b))
        (λ j' le. fits j' (omega (arith, le))))
    alternatives-same (alts_delay g d l l' s rest rest' old row more) heads j k branch fits =
        opened-same (guard_holds σ g) (guard_holds κ g) (guard-same i w st st' r r' q q' o o' V W v s0 (is_taken X s0) behind turn old)
        (both_ok (Delays (k + 1) d l) (Delays (k + 1) d (stmt_then (own_note X.teller s has_delay (k + 1)) (part_is X.teller s j)))
        (same_delay (k + 1) d l (stmt_then (own_note X.teller s has_delay (k + 1)) (part_is X.teller s j))))
        (alternatives-same more (λ h1 at. heads h1 (has_later g (ADelay d l) s rest at)) (j + 1) (k + 1)
        (λ j' z l1 b. branch j' z l1 (later_branch _ rest' j j' z l1 b))
        (λ j' le. fits j' (omega (arith, le))))
    alternatives-same (alts_terminate g s rest rest' old more) heads j k branch fits =
        opened-same (guard_holds σ g) (guard_holds κ g) (guard-same i w st st' r r' q q' o o' V W v s0 (is_taken X s0) behind turn old)
        (both_ok Terminates Terminates same_terminate)
        (alternatives-same more (λ h1 at. heads h1 (has_later g ATerminate s rest at)) (j + 1) k
        (λ j' z l1 b. branch j' z l1 (later_branch _ rest' j j' z l1 b))
        (λ j' le. fits j' (omega (arith, le))))
