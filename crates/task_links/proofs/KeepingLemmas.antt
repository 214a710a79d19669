-- Maps in which the first that comes for a key is kept: what they have after one more.
use Rattle.std.specs.Prelude.{◌≡◌, ◌==◌, ◌<◌, ◌+◌, ℕ, ℤ, pos, suc, nat_eq, nat_lt, Bool, true, false, cond, if◌then◌else◌, ◌&&◌, List, [], ◌∷◌, ◌++◌, length, take, find, position, Option, Some, None, option_map, is_some, refl}
use Rattle.std.proofs.Common.{sym, ap, ◌∙◌, get_or, arith}
use Rattle.std.specs.Cmp.{IsEquivalence}
use Rattle.std.specs.Ordering.{int_eq}
use Rattle.std.proofs.lemmas.Cmp.{nat_eq_equiv, int_eq_equiv, on_equiv, and_equiv}
use Rattle.std.specs.HashMap.{HashMap, get}
use Rattle.std.specs.Map.{lookup}
use Rattle.std.proofs.lemmas.List.{take_more, length-take-le}
use Rattle.ada_tree.specs.declared.naming.NameId.{NameId}
use Rattle.ada_tree.specs.declared.static_types.Kind.{Kind}
use Rattle.ada_tree.specs.declared.static_types.Mark.{Mark}
use Rattle.ada_tree.specs.declared.static_types.Constant.{Constant}
use Rattle.ada_tree.specs.TypeTable.{TypeTable}
use Rattle.ada_static_rules.specs.StaticValue.{first_of_two, is_named, position_in}
use Rattle.ada_value.specs.declared.values.Value.{Value}
use Rattle.ada_value.specs.Values.{placed, word}
use Rattle.ada_value.specs.declared.values.Value.TheVariants.{Place}
use Rattle.ada_value.specs.Evaluating.{constant_value, literal_value}
use Rattle.syn_event.specs.declared.numbering.TaskInfo.{TaskInfo}
use Rattle.syn_event.specs.declared.numbering.EntryInfo.{EntryInfo}
use Rattle.task_model.specs.Setting.{is_member}
use Rattle.task_links.specs.inner.Keys.{entry_eq, member_eq}
use Rattle.common_lemmas.proofs.Numbers.{zero_more}
use Rattle.ada_static_rules.proofs.found_twice.FirstOfTwo.{find_push, first_of_three, first_or_none, position_more}

-- ---- the first of two

pub map_first : {A B : Type 0} (f : A → B) (a b : Option A) → option_map f (first_of_two a b) ≡ first_of_two (option_map f a) (option_map f b)
map_first f None b = refl
map_first f (Some x) b = refl

pub map_if : {A B : Type 0} (f : A → B) (x : A) (b : Bool) → option_map f (if b then Some x else None) ≡ (if b then Some (f x) else None)
map_if f x true = refl
map_if f x false = refl

-- what is kept behind one more: `done` was found so far, and `all` is found now
pub more : {A : Type 0} (start so_far grown done all here : Option A) → so_far ≡ first_of_two start done → grown ≡ first_of_two so_far here → all ≡ first_of_two done here → grown ≡ first_of_two start all
more start so_far grown done all here kept grows longer =
    grows ∙ ap (λ o. first_of_two o here) kept ∙ first_of_three start done here ∙ ap (first_of_two start) (sym longer)

-- ---- what is found in a list that is one longer

pub find_more : {X : Type 0} (p : X → Bool) (xs : List X) (i : ℕ) (d : X) → i < length xs → find p (take (i + 1) xs) ≡ first_of_two (find p (take i xs)) (if p (get_or xs i d) then Some (get_or xs i d) else None)
find_more p xs i d h = ap (find p) (take_more xs i d h) ∙ find_push p (take i xs) (get_or xs i d)

-- the same, where something is made of what is found
pub made_more : {X A : Type 0} (f : X → A) (p : X → Bool) (xs : List X) (i : ℕ) (d : X) → i < length xs → option_map f (find p (take (i + 1) xs)) ≡ first_of_two (option_map f (find p (take i xs))) (if p (get_or xs i d) then Some (f (get_or xs i d)) else None)
made_more f p xs i d h =
    ap (option_map f) (find_more p xs i d h)
    ∙ map_first f (find p (take i xs)) (if p (get_or xs i d) then Some (get_or xs i d) else None)
    ∙ ap (first_of_two (option_map f (find p (take i xs)))) (map_if f (get_or xs i d) (p (get_or xs i d)))

pub made_push : {X A : Type 0} (f : X → A) (p : X → Bool) (xs : List X) (y : X) → option_map f (find p (xs ++ y ∷ [])) ≡ first_of_two (option_map f (find p xs)) (if p y then Some (f y) else None)
made_push f p xs y =
    ap (option_map f) (find_push p xs y)
    ∙ map_first f (find p xs) (if p y then Some y else None)
    ∙ ap (first_of_two (option_map f (find p xs))) (map_if f y (p y))

abbrev place_in : ℕ → ℕ → Option ℕ
place_in place count = if nat_lt place count then Some place else None

-- the same, where something is made of the place
pub placed_more : {X A : Type 0} (f : ℕ → A) (p : X → Bool) (xs : List X) (i : ℕ) (d : X) → i < length xs → option_map f (position p (take (i + 1) xs)) ≡ first_of_two (option_map f (position p (take i xs))) (if p (get_or xs i d) then Some (f i) else None)
placed_more f p xs i d h =
    ap (option_map f) (position_more p xs i d h)
    ∙ map_first f (position p (take i xs)) (if p (get_or xs i d) then Some i else None)
    ∙ ap (first_of_two (option_map f (position p (take i xs)))) (map_if f i (p (get_or xs i d)))

-- ---- the literals of one kind more

abbrev literal_at : NameId → Kind → ℕ → Option Value
literal_at id kind k = option_map (λ n. placed (word k) (pos n)) (position_in id kind)

no_more : (k : ℕ) → k ≡ k + 0
no_more k = omega arith

one_behind : (k n : ℕ) → suc k + n ≡ k + suc n
one_behind k n = omega arith

literal_push : (kinds : List Kind) (k : ℕ) (kind : Kind) (id : NameId) → literal_value (kinds ++ kind ∷ []) k id ≡ first_of_two (literal_value kinds k id) (literal_at id kind (k + length kinds))
literal_push [] k kind id = first_or_none (literal_at id kind k) ∙ ap (literal_at id kind) (no_more k)
literal_push (first ∷ kinds) k kind id =
    ap (first_of_two (literal_at id first k)) (literal_push kinds (suc k) kind id)
    ∙ sym (first_of_three (literal_at id first k) (literal_value kinds (suc k) id) (literal_at id kind (suc k + length kinds)))
    ∙ ap (λ n. first_of_two (first_of_two (literal_at id first k) (literal_value kinds (suc k) id)) (literal_at id kind n)) (one_behind k (length kinds))

pub literal_of : (place kind : ℕ) (names more_names : List NameId) (whole : Kind) (id : NameId) (start grown : Option Value) → kind ≡ word place → more_names ≡ names → ((position (λ n. n.0 == id.0) names) ≡ position_in id whole)
    → grown ≡ first_of_two start (option_map (λ n. placed kind (pos n)) (position (λ n. n.0 == id.0) more_names)) → grown ≡ first_of_two start (literal_at id whole place)
literal_of place kind names more_names whole id start grown at same is h =
    h
    ∙ ap (λ k. first_of_two start (option_map (λ n. placed k (pos n)) (position (λ n. n.0 == id.0) more_names))) at
    ∙ ap (λ l. first_of_two start (option_map (λ n. placed (word place) (pos n)) (position (λ n. n.0 == id.0) l))) same
    ∙ ap (λ o. first_of_two start (option_map (λ n. placed (word place) (pos n)) o)) is

pub literals_more : (kinds : List Kind) (i : ℕ) (kind : Kind) (id : NameId) → i < length kinds → kind ≡ get_or kinds i kind → literal_value (take (i + 1) kinds) 0 id ≡ first_of_two (literal_value (take i kinds) 0 id) (literal_at id kind i)
literals_more kinds i kind id h is =
    ap (λ l. literal_value l 0 id) (take_more kinds i kind h)
    ∙ literal_push (take i kinds) 0 (get_or kinds i kind) id
    ∙ ap (λ n. first_of_two (literal_value (take i kinds) 0 id) (literal_at id (get_or kinds i kind) n)) (zero_more (length (take i kinds)) ∙ length-take-le i kinds (omega (arith, h)))
    ∙ ap (λ k. first_of_two (literal_value (take i kinds) 0 id) (literal_at id k i)) (sym is)

-- ---- keys of any sort

pub lookup_same : {K X : Type 0} (e : K → K → Bool) → IsEquivalence e → (k q : K) → e k q ≡ true → (es : List (K × X)) → lookup (e k) es ≡ lookup (e q) es
lookup_same e laws k q h [] = refl
lookup_same e laws k q h (x ∷ es) =
    ap (λ b. cond b (Some x.1) (lookup (e k) es)) (laws.congr k q x.0 h) ∙ ap (cond (e q x.0) (Some x.1)) (lookup_same e laws k q h es)

is_none_not : {X : Type 0} (here : Option X) → here ≡ None → is_some here ≡ true → ⊥
is_none_not here e h = cc

is_some_not : {X : Type 0} (here : Option X) (x : X) → here ≡ Some x → is_some here ≡ false → ⊥
is_some_not here x e h = cc

pub kept_test : {X : Type 0} (b : Bool) (here there : Option X) (v : X) → (b ≡ true → here ≡ there) → is_some here ≡ true → there ≡ first_of_two there (if b then Some v else None)
kept_test false here there v same h = sym (first_or_none there)
kept_test true here (Some x) v same h = refl
kept_test true here None v same h = absurd (is_none_not here (same refl) h)

put_test : {X : Type 0} (b : Bool) (here there grown : Option X) (v : X) → (b ≡ true → here ≡ there) → is_some here ≡ false → grown ≡ cond b (Some v) there → grown ≡ first_of_two there (if b then Some v else None)
put_test false here there grown v same h e = e ∙ sym (first_or_none there)
put_test true here (Some x) grown v same h e = absurd (is_some_not here x (same refl) h)
put_test true here None grown v same h e = e

-- a key for which something is kept already
pub kept : {K X S : Type 0} (e : K → K → Bool) → IsEquivalence e → (m : HashMap K X S) (key q : K) (v : X) → is_some (get e m key) ≡ true → get e m q ≡ first_of_two (get e m q) (if e key q then Some v else None)
kept e laws m key q v h = kept_test (e key q) (get e m key) (get e m q) v (λ t. lookup_same e laws key q t m.entries) h

-- a key that is new
pub put : {K X S : Type 0} (e : K → K → Bool) → IsEquivalence e → (m grown : HashMap K X S) (key q : K) (v : X) → is_some (get e m key) ≡ false → get e grown q ≡ cond (e key q) (Some v) (get e m q)
    → get e grown q ≡ first_of_two (get e m q) (if e key q then Some v else None)
put e laws m grown key q v h updates = put_test (e key q) (get e m key) (get e m q) (get e grown q) v (λ t. lookup_same e laws key q t m.entries) h updates

-- ---- one turn of each loop

pub constant_step : {S : Type 0} (types : TypeTable) (start so_far grown : HashMap ℕ Value S) (constants : List Constant) (i : ℕ) (d : Constant) (v : Value) → i < length constants → v ≡ constant_value types (get_or constants i d)
    → ((id : NameId) → get nat_eq so_far id.0 ≡ first_of_two (get nat_eq start id.0) (option_map (constant_value types) (find (λ c. c.name.0 == id.0) (take i constants))))
    → ((q : ℕ) → get nat_eq grown q ≡ first_of_two (get nat_eq so_far q) (if (get_or constants i d).name.0 == q then Some v else None))
    → (id : NameId) → get nat_eq grown id.0 ≡ first_of_two (get nat_eq start id.0) (option_map (constant_value types) (find (λ c. c.name.0 == id.0) (take (i + 1) constants)))
constant_step types start so_far grown constants i d v h is before grows id =
    let p = λ (x : Constant). x.name.0 == id.0 in
    let made = constant_value types in
    more (get nat_eq start id.0) (get nat_eq so_far id.0) (get nat_eq grown id.0)
    (option_map made (find p (take i constants))) (option_map made (find p (take (i + 1) constants))) (if p (get_or constants i d) then Some (made (get_or constants i d)) else None)
    (before id) (grows id.0 ∙ ap (λ w. first_of_two (get nat_eq so_far id.0) (if p (get_or constants i d) then Some w else None)) is) (made_more made p constants i d h)

pub literal_step : {S : Type 0} (kind : ℕ) (start so_far grown : HashMap ℕ Value S) (names : List NameId) (i place : ℕ) (d : NameId) → i < length names → place ≡ word i
    → ((id : NameId) → get nat_eq so_far id.0 ≡ first_of_two (get nat_eq start id.0) (option_map (λ n. placed kind (pos n)) (position (λ n. n.0 == id.0) (take i names))))
    → ((q : ℕ) → get nat_eq grown q ≡ first_of_two (get nat_eq so_far q) (if (get_or names i d).0 == q then Some (Place kind place) else None))
    → (id : NameId) → get nat_eq grown id.0 ≡ first_of_two (get nat_eq start id.0) (option_map (λ n. placed kind (pos n)) (position (λ n. n.0 == id.0) (take (i + 1) names)))
literal_step kind start so_far grown names i place d h is before grows id =
    let p = λ (x : NameId). x.0 == id.0 in
    let made = λ (n : ℕ). placed kind (pos n) in
    more (get nat_eq start id.0) (get nat_eq so_far id.0) (get nat_eq grown id.0)
    (option_map made (position p (take i names))) (option_map made (position p (take (i + 1) names))) (if p (get_or names i d) then Some (made i) else None)
    (before id) (grows id.0 ∙ ap (λ w. first_of_two (get nat_eq so_far id.0) (if p (get_or names i d) then Some (Place kind w) else None)) is) (placed_more made p names i d h)

pub mark_step : {S : Type 0} (start so_far grown : HashMap ℕ Mark S) (marks : List Mark) (i : ℕ) (d : Mark) → i < length marks
    → ((id : NameId) → get nat_eq so_far id.0 ≡ first_of_two (get nat_eq start id.0) (find (λ m. is_named id m.name) (take i marks)))
    → ((id : NameId) → get nat_eq grown id.0 ≡ first_of_two (get nat_eq so_far id.0) (if is_named id (get_or marks i d).name then Some (get_or marks i d) else None))
    → (id : NameId) → get nat_eq grown id.0 ≡ first_of_two (get nat_eq start id.0) (find (λ m. is_named id m.name) (take (i + 1) marks))
mark_step start so_far grown marks i d h before grows id =
    let p = λ (x : Mark). is_named id x.name in
    more (get nat_eq start id.0) (get nat_eq so_far id.0) (get nat_eq grown id.0) (find p (take i marks)) (find p (take (i + 1) marks)) (if p (get_or marks i d) then Some (get_or marks i d) else None)
    (before id) (grows id) (find_more p marks i d h)

pub first_step : {S : Type 0} (start so_far grown : HashMap ℕ Mark S) (marks : List Mark) (i : ℕ) (d : Mark) → i < length marks
    → ((k : ℕ) → get nat_eq so_far k ≡ first_of_two (get nat_eq start k) (find (λ m. m.kind == k) (take i marks)))
    → ((k : ℕ) → get nat_eq grown k ≡ first_of_two (get nat_eq so_far k) (if (get_or marks i d).kind == k then Some (get_or marks i d) else None))
    → (k : ℕ) → get nat_eq grown k ≡ first_of_two (get nat_eq start k) (find (λ m. m.kind == k) (take (i + 1) marks))
first_step start so_far grown marks i d h before grows k =
    let p = λ (x : Mark). x.kind == k in
    more (get nat_eq start k) (get nat_eq so_far k) (get nat_eq grown k) (find p (take i marks)) (find p (take (i + 1) marks)) (if p (get_or marks i d) then Some (get_or marks i d) else None)
    (before k) (grows k) (find_more p marks i d h)

pub task_step : {S : Type 0} (start so_far grown : HashMap ℕ ℕ S) (tasks : List TaskInfo) (i number : ℕ) (d : TaskInfo) → i < length tasks → number ≡ i
    → ((q : ℕ) → get nat_eq so_far q ≡ first_of_two (get nat_eq start q) (position (λ info. info.name.0 == q) (take i tasks)))
    → ((q : ℕ) → get nat_eq grown q ≡ first_of_two (get nat_eq so_far q) (if (get_or tasks i d).name.0 == q then Some number else None))
    → (q : ℕ) → get nat_eq grown q ≡ first_of_two (get nat_eq start q) (position (λ info. info.name.0 == q) (take (i + 1) tasks))
task_step start so_far grown tasks i number d h is before grows q =
    let p = λ (x : TaskInfo). x.name.0 == q in
    more (get nat_eq start q) (get nat_eq so_far q) (get nat_eq grown q) (position p (take i tasks)) (position p (take (i + 1) tasks)) (if p (get_or tasks i d) then Some i else None)
    (before q) (grows q ∙ ap (λ n. first_of_two (get nat_eq so_far q) (if p (get_or tasks i d) then Some n else None)) is) (position_more p tasks i d h)

pub member_step : {S : Type 0} (start so_far grown : HashMap (ℕ × ℤ) ℕ S) (tasks : List TaskInfo) (i number : ℕ) (d : TaskInfo) → i < length tasks → number ≡ i
    → ((q : ℕ × ℤ) → get member_eq so_far q ≡ first_of_two (get member_eq start q) (position (λ info. (info.name.0 == q.0) && is_member q.1 info.member) (take i tasks)))
    → ((q : ℕ × ℤ) → get member_eq grown q ≡ first_of_two (get member_eq so_far q) (if ((get_or tasks i d).name.0 == q.0) && is_member q.1 (get_or tasks i d).member then Some number else None))
    → (q : ℕ × ℤ) → get member_eq grown q ≡ first_of_two (get member_eq start q) (position (λ info. (info.name.0 == q.0) && is_member q.1 info.member) (take (i + 1) tasks))
member_step start so_far grown tasks i number d h is before grows q =
    let p = λ (x : TaskInfo). (x.name.0 == q.0) && is_member q.1 x.member in
    more (get member_eq start q) (get member_eq so_far q) (get member_eq grown q) (position p (take i tasks)) (position p (take (i + 1) tasks)) (if p (get_or tasks i d) then Some i else None)
    (before q) (grows q ∙ ap (λ n. first_of_two (get member_eq so_far q) (if p (get_or tasks i d) then Some n else None)) is) (position_more p tasks i d h)

pub entry_step : {S : Type 0} (start so_far grown : HashMap (ℕ × ℕ) ℕ S) (entries : List EntryInfo) (i number : ℕ) (d : EntryInfo) → i < length entries → number ≡ i + 1
    → ((q : ℕ × ℕ) → get entry_eq so_far q ≡ first_of_two (get entry_eq start q) (option_map (λ k. k + 1) (position (λ info. (info.owner == q.0) && (info.name.0 == q.1)) (take i entries))))
    → ((q : ℕ × ℕ) → get entry_eq grown q ≡ first_of_two (get entry_eq so_far q) (if ((get_or entries i d).owner == q.0) && ((get_or entries i d).name.0 == q.1) then Some number else None))
    → (q : ℕ × ℕ) → get entry_eq grown q ≡ first_of_two (get entry_eq start q) (option_map (λ k. k + 1) (position (λ info. (info.owner == q.0) && (info.name.0 == q.1)) (take (i + 1) entries)))
entry_step start so_far grown entries i number d h is before grows q =
    let p = λ (x : EntryInfo). (x.owner == q.0) && (x.name.0 == q.1) in
    let next = λ (k : ℕ). k + 1 in
    more (get entry_eq start q) (get entry_eq so_far q) (get entry_eq grown q) (option_map next (position p (take i entries))) (option_map next (position p (take (i + 1) entries))) (if p (get_or entries i d) then Some (next i) else None)
    (before q) (grows q ∙ ap (λ n. first_of_two (get entry_eq so_far q) (if p (get_or entries i d) then Some n else None)) is) (placed_more next p entries i d h)

-- ---- the members

pub entry_equiv : IsEquivalence entry_eq
entry_equiv = and_equiv (on_equiv (λ t. t.0) nat_eq_equiv) (on_equiv (λ t. t.1) nat_eq_equiv)

pub member_equiv : IsEquivalence member_eq
member_equiv = and_equiv (on_equiv (λ t. t.0) nat_eq_equiv) (on_equiv (λ t. t.1) int_eq_equiv)

-- what is no member is kept for no index
pub none_kept : (g : Option ℕ) (b : Bool) (n : ℕ) → g ≡ first_of_two g (if b && false then Some n else None)
none_kept g true n = sym (first_or_none g)
none_kept g false n = sym (first_or_none g)

-- a member is kept for its index
pub same_index : (g : Option ℕ) (b : Bool) (n : ℕ) (j i : ℤ) → first_of_two g (if b && int_eq j i then Some n else None) ≡ first_of_two g (if b && int_eq i j then Some n else None)
same_index g b n j i = ap (λ t. first_of_two g (if b && t then Some n else None)) (int_eq_equiv.symm j i)

pub ruleset keeping = (first_or_none, first_of_three)
