-- A whole that is built of parts is what it would be of what the parts are known to be.
use Rattle.std.proofs.Common.{◌≡◌, Result, Ok, Err, IfOk, ◌∙◌}
use Rattle.ada_stmt_copy.specs.expressions.Parts.{OkWith}

pub two :
    {A B M E X Y W : Type 0} (f : A → X) (g : B → Y) (k : M → W) (whole : X → Y → W) (x : X) (y : Y) (w : W) →
    (r : Result M E) (a : Result A E) (b : Result B E) →
    IfOk r (λ m. OkWith a (λ u. OkWith b (λ v. k m ≡ whole (f u) (g v)))) →
    IfOk a (λ u. f u ≡ x) →
    IfOk b (λ v. g v ≡ y) →
    whole x y ≡ w →
    IfOk r (λ m. k m ≡ w)
two f g k whole x y w (Err e) a b h p q z = tt
two f g k whole x y w (Ok m) (Err e) b h p q z = absurd h
two f g k whole x y w (Ok m) (Ok u) (Err e) h p q z = absurd h
two f g k whole x y w (Ok m) (Ok u) (Ok v) h p q z = h ∙ ((λ i. whole (p i) (q i)) ∙ z)

pub three :
    {A B C M E X Y Z W : Type 0} (f : A → X) (g : B → Y) (h : C → Z) (k : M → W) (whole : X → Y → Z → W) (x : X) (y : Y) (z : Z) (w : W) →
    (r : Result M E) (a : Result A E) (b : Result B E) (c : Result C E) →
    IfOk r (λ m. OkWith a (λ u. OkWith b (λ v. OkWith c (λ t. k m ≡ whole (f u) (g v) (h t))))) →
    IfOk a (λ u. f u ≡ x) →
    IfOk b (λ v. g v ≡ y) →
    IfOk c (λ t. h t ≡ z) →
    whole x y z ≡ w →
    IfOk r (λ m. k m ≡ w)
three f g h k whole x y z w (Err e) a b c d p q s l = tt
three f g h k whole x y z w (Ok m) (Err e) b c d p q s l = absurd d
three f g h k whole x y z w (Ok m) (Ok u) (Err e) c d p q s l = absurd d
three f g h k whole x y z w (Ok m) (Ok u) (Ok v) (Err e) d p q s l = absurd d
three f g h k whole x y z w (Ok m) (Ok u) (Ok v) (Ok t) d p q s l = d ∙ ((λ i. whole (p i) (q i) (s i)) ∙ l)
