-- Words that ask for LOAD have at most a hundred producers.
use Rattle.std.proofs.Common.{◌≡◌, ◌≤◌, ℕ, Bool, true, false, nat_le, List, [], ◌∷◌, length, Option, Some, None, option_map, refl, codes, sym, subst}
use Rattle.std.specs.Prelude.{◌&&◌, option_and_then, if◌then◌else◌, ⊤, bytes_eq}
use Rattle.std.proofs.lemmas.Bool.{leb-true}
use Rattle.debug_outcome.specs.words.Words.{Asked, AsksPrint, AsksCheck, AsksRun, AsksJudge, AsksReplay, AsksRequire, AsksMigrate, AsksVariants, AsksContinue, AsksCollect, AsksCollectRun, AsksLoad, asked_by, asks_of_one, asks_of_two, asks_of_three, asks_of_four, asks_of_six, begins_well, choice_source, count_of, digits_value, inputs_of, number_of, producers_of, up_to}

-- what is asked for has at most so many producers, where it has any
abbrev IsFew : Option Asked → Type 0
IsFew (Some (AsksLoad n)) = n ≤ 100
IsFew _ = ⊤

few_if : (b : Bool) (x y : Option Asked) → IsFew x → IsFew y → IsFew (if b then x else y)
few_if true x y h k = h
few_if false x y h k = k

few_and : {A : Type 0} (f : A → Option Asked) (o : Option A) → ((a : A) → IsFew (f a)) → IsFew (option_and_then f o)
few_and f (Some a) h = h a
few_and f None h = tt

few_map : {A : Type 0} (f : A → Asked) (o : Option A) → ((a : A) → IsFew (Some (f a))) → IsFew (option_map f o)
few_map f (Some a) h = h a
few_map f None h = tt

few_up_to : (n : ℕ) (b : Bool) → nat_le n 100 ≡ b → IsFew (option_map AsksLoad (if b then Some n else None))
few_up_to n true e = leb-true n 100 e
few_up_to n false e = tt

few_value : (b : Bool) (o : Option ℕ) → IsFew (option_map AsksLoad (if b then option_and_then (up_to 100) o else None))
few_value true (Some n) = few_up_to n (nat_le n 100) refl
few_value true None = tt
few_value false o = tt

few_load : (word : List ℕ) → IsFew (option_map AsksLoad (producers_of word))
few_load word = few_value (begins_well word && nat_le (length word) 3) (digits_value 0 word)

few_of_one : (command file : List ℕ) → IsFew (asks_of_one command file)
few_of_one command file =
    few_if (bytes_eq command (codes "print")) _ _ tt
    (few_if (bytes_eq command (codes "check")) _ _ tt
    (few_if (bytes_eq command (codes "collect")) _ _ tt (few_if (bytes_eq command (codes "load")) _ _ (few_load file) tt)))

few_of_four : (command file inputs other number : List ℕ) → IsFew (asks_of_four command file inputs other number)
few_of_four command file inputs other number =
    few_if (bytes_eq command (codes "run")) _ _
    (few_and (λ source. option_map (AsksRun file (inputs_of inputs) source) (number_of number)) (choice_source other)
    (λ source. few_map (AsksRun file (inputs_of inputs) source) (number_of number) (λ n. tt)))
    (few_if (bytes_eq command (codes "judge")) _ _ (few_map (AsksJudge file (inputs_of inputs) other) (number_of number) (λ n. tt))
    (few_if (bytes_eq command (codes "variants")) _ _ (few_map (AsksVariants file (inputs_of inputs) other) (number_of number) (λ n. tt))
    (few_if (bytes_eq command (codes "collect-run")) _ _
    (few_and (λ source. option_map (AsksCollectRun file (inputs_of inputs) source) (number_of number)) (choice_source other)
    (λ source. few_map (AsksCollectRun file (inputs_of inputs) source) (number_of number) (λ n. tt)))
    tt)))

few_of_six : (command file inputs sequence choices count number : List ℕ) → IsFew (asks_of_six command file inputs sequence choices count number)
few_of_six command file inputs sequence choices count number =
    few_if (bytes_eq command (codes "continue")) _ _
    (few_and (λ source. option_and_then (λ most. option_map (AsksContinue file (inputs_of inputs) sequence source most) (number_of number)) (count_of count)) (choice_source choices)
    (λ source. few_and (λ most. option_map (AsksContinue file (inputs_of inputs) sequence source most) (number_of number)) (count_of count)
    (λ most. few_map (AsksContinue file (inputs_of inputs) sequence source most) (number_of number) (λ n. tt))))
    tt

few_asked : (words : List (List ℕ)) → IsFew (asked_by words)
few_asked [] = tt
few_asked (command ∷ []) = tt
few_asked (command ∷ file ∷ []) = few_of_one command file
few_asked (command ∷ file ∷ sequence ∷ []) = few_if (bytes_eq command (codes "replay")) _ _ tt (few_if (bytes_eq command (codes "migrate")) _ _ tt tt)
few_asked (command ∷ file ∷ sequence ∷ constraints ∷ []) = few_if (bytes_eq command (codes "require")) _ _ tt tt
few_asked (command ∷ file ∷ inputs ∷ other ∷ number ∷ []) = few_of_four command file inputs other number
few_asked (command ∷ a ∷ b ∷ c ∷ d ∷ e ∷ []) = tt
few_asked (command ∷ file ∷ inputs ∷ sequence ∷ choices ∷ count ∷ number ∷ []) = few_of_six command file inputs sequence choices count number
few_asked (command ∷ a ∷ b ∷ c ∷ d ∷ e ∷ f ∷ g ∷ rest) = tt

pub few_producers : (words : List (List ℕ)) (n : ℕ) → Some (AsksLoad n) ≡ asked_by words → n ≤ 100
few_producers words n e = subst IsFew (sym e) (few_asked words)
