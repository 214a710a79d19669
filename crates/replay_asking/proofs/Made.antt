-- What is made of parts that come as results, seen plainly, where what the parts are is known.
use Rattle.std.proofs.Common.{◌≡◌, Result, Ok, Err, IfOk, ap, ◌∙◌}
use Rattle.ada_tree.specs.declared.shortage.Memory.{Memory}
use Rattle.ada_stmt_copy.specs.expressions.Parts.{OkWith}

pub made-of_one :
    {A C P R : Type 0} (va : A → P) (vc : C → R) (f : P → R) (r : Result C Memory) (a : Result A Memory) (p : P) →
    IfOk r (λ m. OkWith a (λ x. vc m ≡ f (va x))) →
    IfOk a (λ x. va x ≡ p) →
    IfOk r (λ m. vc m ≡ f p)
made-of_one va vc f (Err e) a p made is = tt
made-of_one va vc f (Ok m) (Err e) p made is = absurd made
made-of_one va vc f (Ok m) (Ok x) p made is = made ∙ ap f is

pub made-of_two :
    {A B C P Q R : Type 0} (va : A → P) (vb : B → Q) (vc : C → R) (f : P → Q → R) (r : Result C Memory) (a : Result A Memory) (b : Result B Memory) (p : P) (q : Q) →
    IfOk r (λ m. OkWith a (λ x. OkWith b (λ y. vc m ≡ f (va x) (vb y)))) →
    IfOk a (λ x. va x ≡ p) →
    IfOk b (λ y. vb y ≡ q) →
    IfOk r (λ m. vc m ≡ f p q)
made-of_two va vb vc f (Err e) a b p q made is_a is_b = tt
made-of_two va vb vc f (Ok m) (Err e) b p q made is_a is_b = absurd made
made-of_two va vb vc f (Ok m) (Ok x) (Err e) p q made is_a is_b = absurd made
made-of_two va vb vc f (Ok m) (Ok x) (Ok y) p q made is_a is_b = made ∙ (λ i. f (is_a i) (is_b i))
