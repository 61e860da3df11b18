-- A repetition read by a loop: what was read, and what is still read.
use Rattle.std.proofs.Common.{◌≡◌, ℕ, zero, suc, ◌-◌, ◌+◌, ◌≤◌, ◌<◌, Bool, true, false, cond, List, [], ◌∷◌, ◌++◌, length, Ok, Err, refl, sym, ap, ◌∙◌, arith}
use Rattle.std.proofs.lemmas.List.{length-map}
use Rattle.par_text.specs.declared.kind.Kind.{Kind}
use Rattle.par_text.specs.Rule.{Token}
use Rattle.par_text.specs.Reading.{Answer, Reader, ◌>>=◌, next, read_many}
use Rattle.par_lex.specs.declared.lexeme.Lexeme.{Lexeme}
use Rattle.par_parse.specs.declared.parse_error.ParseError.{ParseError}
use Rattle.par_parse.specs.declared.parse_error.ParseError.TheVariants.{Memory, Stopped}
use Rattle.par_lex.specs.Words.{words, word_of}
use Rattle.par_parse.specs.Gives.{Fails}

-- as many tokens as the code sees
pub length-words : (text : List ℕ) (ts : List Lexeme) → length (words text ts) ≡ length ts
unfolding words
length-words text ts = length-map ts (word_of text)

-- values in front of others
abbrev pub put : {A X : Type 0} → (A → X → X) → List A → X → X
put f [] x = x
put f (n ∷ ns) x = f n (put f ns x)

put-append : {A X : Type 0} (f : A → X → X) (ns : List A) (n : A) (x : X) → put f (ns ++ n ∷ []) x ≡ put f ns (f n x)
put-append f [] n x = refl
put-append f (m ∷ ns) n x = ap (λ y. f m y) (put-append f ns n x)

unfoldable pub with_front : {A X : Type 0} → (A → X → X) → List A → Answer X → Answer X
with_front f front answer = answer >>= λ x. Ok (put f front x.0, x.1)

with_front-step : {A X : Type 0} (f : A → X → X) (front : List A) (n : A) (answer : Answer X) → with_front f front (answer >>= λ xs. Ok (f n xs.0, xs.1)) ≡ with_front f (front ++ n ∷ []) answer
unfolding with_front
with_front-step f front n (Ok x) = ap (λ y. Ok (y, x.1)) (sym (put-append f front n x.0))
with_front-step f front n (Err e) = refl

module _ {A X : Type 0} (ks : Kind → Bool) (f : A → X → X) (z : X) (a : Reader A) (front : List A) (ts : List Token) (total : Answer X) where
  turn : (turns i : ℕ) → i < turns → ks (next ts) ≡ true → read_many ks f z a (turns - i) ts ≡ (a ts >>= λ x. read_many ks f z a (turns - (i + 1)) x.1 >>= λ xs. Ok (f x.0 xs.0, xs.1))
  turn turns i lt b =
      let k : turns - i ≡ suc (turns - (i + 1)) = omega arith in
      ap (λ (n : ℕ). read_many ks f z a n ts) k
      ∙ ap (λ (c : Bool). cond c (a ts >>= λ x. read_many ks f z a (turns - (i + 1)) x.1 >>= λ xs. Ok (f x.0 xs.0, xs.1)) (Ok (z, ts))) b

  pub goes_on : (turns i : ℕ) (n : A) (after : List Token) → i < turns → ks (next ts) ≡ true → a ts ≡ Ok (n, after)
      → with_front f front (read_many ks f z a (turns - i) ts) ≡ total → with_front f (front ++ n ∷ []) (read_many ks f z a (turns - (i + 1)) after) ≡ total
  goes_on turns i n after lt b h so_far =
      sym (with_front-step f front n (read_many ks f z a (turns - (i + 1)) after))
      ∙ sym (ap (λ (ans : Answer X). with_front f front ans) (turn turns i lt b ∙ ap (λ (ans : Answer A). ans >>= λ x. read_many ks f z a (turns - (i + 1)) x.1 >>= λ xs. Ok (f x.0 xs.0, xs.1)) h))
      ∙ so_far

  pub stops : (n : ℕ) → ks (next ts) ≡ false → with_front f front (read_many ks f z a n ts) ≡ total → total ≡ Ok (put f front z, ts)
  unfolding with_front
  stops n b so_far = sym so_far ∙ ap (λ (ans : Answer X). with_front f front ans) (none n)
    where
      none : (n : ℕ) → read_many ks f z a n ts ≡ Ok (z, ts)
      none zero = refl
      none (suc n) = ap (λ (c : Bool). cond c (a ts >>= λ x. read_many ks f z a n x.1 >>= λ xs. Ok (f x.0 xs.0, xs.1)) (Ok (z, ts))) b

  pub ends : (turns i : ℕ) → turns ≤ i → with_front f front (read_many ks f z a (turns - i) ts) ≡ total → total ≡ Ok (put f front z, ts)
  unfolding with_front
  ends turns i le so_far =
      let k : turns - i ≡ 0 = omega arith in
      sym so_far ∙ ap (λ (n : ℕ). with_front f front (read_many ks f z a n ts)) k

  pub fails : (turns i : ℕ) (e : ParseError) → i < turns → ks (next ts) ≡ true → Fails e (a ts)
      → with_front f front (read_many ks f z a (turns - i) ts) ≡ total → Fails e total
  unfolding with_front
  fails turns i Memory lt b h so_far = tt
  fails turns i (Stopped stop left) lt b h so_far =
      sym so_far
      ∙ ap (λ (ans : Answer X). with_front f front ans) (turn turns i lt b ∙ ap (λ (ans : Answer A). ans >>= λ x. read_many ks f z a (turns - (i + 1)) x.1 >>= λ xs. Ok (f x.0 xs.0, xs.1)) h)

  pub starts : (items : List A) (turns : ℕ) → items ≡ [] → turns ≡ length ts → read_many ks f z a (length ts) ts ≡ total → with_front f items (read_many ks f z a (turns - 0) ts) ≡ total
  unfolding with_front
  starts items turns none count is =
      let k : turns - 0 ≡ length ts = omega arith in
      ap (λ (l : List A). with_front f l (read_many ks f z a (turns - 0) ts)) none
      ∙ ap (λ (n : ℕ). with_front f [] (read_many ks f z a n ts)) k
      ∙ ap (λ (ans : Answer X). with_front f [] ans) is
      ∙ bare total
    where
      bare : (answer : Answer X) → with_front f [] answer ≡ answer
      bare (Ok x) = refl
      bare (Err e) = refl

-- a repetition behind a first value
module _ {A X : Type 0} (ks : Kind → Bool) (f : A → X → X) (z : X) (a : Reader A) (first : A) (ts : List Token) (total : Answer X) where
  pub starts_with : (items : List A) (turns : ℕ) → items ≡ first ∷ [] → turns ≡ length ts → (read_many ks f z a (length ts) ts >>= λ x. Ok (f first x.0, x.1)) ≡ total → with_front f items (read_many ks f z a (turns - 0) ts) ≡ total
  unfolding with_front
  starts_with items turns one count is =
      let k : turns - 0 ≡ length ts = omega arith in
      ap (λ (l : List A). with_front f l (read_many ks f z a (turns - 0) ts)) one
      ∙ ap (λ (n : ℕ). with_front f (first ∷ []) (read_many ks f z a n ts)) k
      ∙ is
