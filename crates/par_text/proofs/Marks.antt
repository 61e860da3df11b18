-- Lists of tokens with their depths.
use Rattle.std.proofs.Common.{◌≡◌, ℕ, Bool, true, false, cond, leb, List, [], ◌∷◌, ◌++◌, length, Ok, Err, refl, sym, ap, ◌∙◌, append_assoc}
use Rattle.std.proofs.lemmas.List.{map-append}
use Rattle.par_text.specs.declared.stop.Stop.TheVariants.{TooDeep}
use Rattle.par_text.specs.Rule.{Token}
use Rattle.par_text.specs.Form.{Marked, token_of, tokens_of}
use Rattle.par_text.specs.Reading.{Answer, ◌>>=◌}
use Rattle.par_text.specs.Text.{Shallow}

pub tokens_of-append : (ms ns : List Marked) → tokens_of (ms ++ ns) ≡ tokens_of ms ++ tokens_of ns
tokens_of-append ms ns = map-append token_of ms ns

pub Shallow-append : (most : ℕ) (ms ns : List Marked) → Shallow most ms → Shallow most ns → Shallow most (ms ++ ns)
Shallow-append most [] ns a b = b
Shallow-append most (m ∷ ms) ns a b = (a.0, Shallow-append most ms ns a.1 b)

-- what reading a form gives, by its marks: its value, or a stop at the first token that is too deep
abbrev pub judge : {X : Type 0} → ℕ → X → List Marked → List Token → Answer X
judge most x [] rest = Ok (x, rest)
judge most x (m ∷ ms) rest = cond (leb m.depth most) (judge most x ms rest) (Err (TooDeep, length (m.token ∷ (tokens_of ms ++ rest))))

pub judge-as : {A X : Type 0} (most : ℕ) (f : A → X) (x : A) (ms : List Marked) (rest : List Token) → (judge most x ms rest >>= λ y. Ok (f y.0, y.1)) ≡ judge most (f x) ms rest
judge-as most f x [] rest = refl
judge-as {A} {X} most f x (m ∷ ms) rest = turn (leb m.depth most) (judge-as most f x ms rest)
  where
    turn : (b : Bool) → (judge most x ms rest >>= λ y. Ok (f y.0, y.1)) ≡ judge most (f x) ms rest → (cond b (judge most x ms rest) (Err (TooDeep, length (m.token ∷ (tokens_of ms ++ rest)))) >>= λ y. Ok (f y.0, y.1)) ≡ cond b (judge most (f x) ms rest) (Err (TooDeep, length (m.token ∷ (tokens_of ms ++ rest))))
    turn true e = e
    turn false e = refl

-- one form read, and then another
pub judge-append : {A X : Type 0} (most : ℕ) (x : A) (y : X) (go_on : A × List Token → Answer X) (ms ns : List Marked) (rest : List Token)
    → go_on (x, tokens_of ns ++ rest) ≡ judge most y ns rest
    → (judge most x ms (tokens_of ns ++ rest) >>= go_on) ≡ judge most y (ms ++ ns) rest
judge-append most x y go_on [] ns rest h = h
judge-append {A} {X} most x y go_on (m ∷ ms) ns rest h = turn (leb m.depth most) (judge-append most x y go_on ms ns rest h)
  where
    same : length (m.token ∷ (tokens_of ms ++ (tokens_of ns ++ rest))) ≡ length (m.token ∷ (tokens_of (ms ++ ns) ++ rest))
    same = ap (λ (ts : List Token). length (m.token ∷ ts)) (sym (append_assoc (tokens_of ms) (tokens_of ns) rest) ∙ ap (λ (ts : List Token). ts ++ rest) (sym (tokens_of-append ms ns)))

    turn : (b : Bool) → (judge most x ms (tokens_of ns ++ rest) >>= go_on) ≡ judge most y (ms ++ ns) rest → (cond b (judge most x ms (tokens_of ns ++ rest)) (Err (TooDeep, length (m.token ∷ (tokens_of ms ++ (tokens_of ns ++ rest))))) >>= go_on) ≡ cond b (judge most y (ms ++ ns) rest) (Err (TooDeep, length (m.token ∷ (tokens_of (ms ++ ns) ++ rest))))
    turn true e = e
    turn false e = ap (λ (n : ℕ). Err (TooDeep, n)) same
