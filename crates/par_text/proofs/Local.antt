-- What reading answers depends on the tokens that it takes and on the kind of one more.
use Rattle.std.proofs.Common.{◌≡◌, ℕ, zero, suc, ◌<◌, ◌≤◌, Bool, true, false, cond, List, [], ◌∷◌, ◌++◌, length, Ok, Err, refl, sym, ap, ◌∙◌, subst, arith, append_assoc, length-append}
use Rattle.std.specs.Prelude.{◌&&◌, ◌||◌, not}
use Rattle.par_text.specs.declared.kind.Kind.{Kind}
use Rattle.par_text.specs.declared.kind.Kind.TheVariants.{End}
use Rattle.par_text.specs.declared.stop.Stop.{Stop}
use Rattle.par_text.specs.declared.stop.Stop.TheVariants.{Expected, TooDeep}
use Rattle.par_text.specs.Kinds.{is}
use Rattle.par_text.specs.Rule.{Token, Nonterminal, TreeOf, Rule, nothing, token, mapped, pair, either, many, nest, within}
use Rattle.par_text.specs.Reading.{Answer, Reader, next, ◌>>=◌, read_token, opened, read_open, read_pair, read_nest, read_as, read_many, read_by}
use Rattle.par_text.proofs.Lookahead.{can_be_empty, empty_inner, fine}
use Rattle.par_text.proofs.KindLemmas.{both_true}

-- both lists end, or both go on with a token of one kind
abbrev pub SameNext : List Token → List Token → Type 0
SameNext [] [] = Unit {0}
SameNext [] (u ∷ us) = ⊥
SameNext (t ∷ ts) [] = ⊥
SameNext (t ∷ ts) (u ∷ us) = t.kind ≡ u.kind

pub SameNext-self : (ts : List Token) → SameNext ts ts
SameNext-self [] = tt
SameNext-self (t ∷ ts) = refl

pub SameNext-append : (us r s : List Token) → SameNext r s → SameNext (us ++ r) (us ++ s)
SameNext-append [] r s h = h
SameNext-append (u ∷ us) r s h = refl

pub next-same : (r s : List Token) → SameNext r s → next s ≡ next r
next-same [] [] h = refl
next-same [] (u ∷ us) h = absurd h
next-same (t ∷ ts) [] h = absurd h
next-same (t ∷ ts) (u ∷ us) h = sym h

-- a reader's answer to ts, with what it took: at least one token, unless it may take none
pub record Took {X : Type 0} (e : Bool) (rd : Reader X) (ts : List Token) (x : X) (rest : List Token) : Type 0 where
  pub front : List Token
  pub split : ts ≡ front ++ rest
  pub some : e ≡ false → 0 < length front
  pub again : (other : List Token) → SameNext rest other → rd (front ++ other) ≡ Ok (x, other)

pub record Stuck {X : Type 0} (rd : Reader X) (ts : List Token) (s : Stop) (left : ℕ) : Type 0 where
  pub front : List Token
  pub rest : List Token
  pub split : ts ≡ front ++ rest
  pub count : length rest ≡ left
  pub again : (other : List Token) → SameNext rest other → rd (front ++ other) ≡ Err (s, length other)

abbrev pub LocalAt : {X : Type 0} → Bool → Reader X → List Token → Answer X → Type 0
LocalAt e rd ts (Ok x) = Took e rd ts x.0 x.1
LocalAt e rd ts (Err f) = Stuck rd ts f.0 f.1

abbrev pub IsLocal : {X : Type 0} → Bool → Reader X → Type 0
IsLocal e rd = (ts : List Token) → LocalAt e rd ts (rd ts)

token_local : (k : Kind) → IsLocal false (read_token k)
token_local k [] = record { front = []; rest = []; split = refl; count = refl; again = again }
  where
    again : (other : List Token) → SameNext [] other → read_token k other ≡ Err (Expected, length other)
    again [] h = refl
    again (u ∷ us) h = absurd h
token_local k (t ∷ ts) = turn (is k t.kind) refl
  where
    turn : (b : Bool) → is k t.kind ≡ b → LocalAt false (read_token k) (t ∷ ts) (cond b (Ok (t, ts)) (Err (Expected, length (t ∷ ts))))
    turn true e = record {
      front = t ∷ [];
      split = refl;
      some = λ _. omega arith;
      again = λ other h. ap (λ (b : Bool). cond b (Ok (t, other)) (Err (Expected, length (t ∷ other)))) e;
    }
    turn false e = record { front = []; rest = t ∷ ts; split = refl; count = refl; again = again }
      where
        again : (other : List Token) → SameNext (t ∷ ts) other → read_token k other ≡ Err (Expected, length other)
        again [] h = absurd h
        again (u ∷ us) h = ap (λ (b : Bool). cond b (Ok (u, us)) (Err (Expected, length (u ∷ us)))) (ap (λ (j : Kind). is k j) (sym h) ∙ e)

open_local : (n : ℕ) (k : Kind) → IsLocal false (read_open n k)
open_local n k [] = record { front = []; rest = []; split = refl; count = refl; again = again }
  where
    again : (other : List Token) → SameNext [] other → read_open n k other ≡ Err (Expected, length other)
    again [] h = refl
    again (u ∷ us) h = absurd h
open_local n k (t ∷ ts) = turn n (is k t.kind) refl
  where
    turn : (n : ℕ) (b : Bool) → is k t.kind ≡ b → LocalAt false (read_open n k) (t ∷ ts) (cond b (opened n (t ∷ ts) ts) (Err (Expected, length (t ∷ ts))))
    turn (suc n) true e = record {
      front = t ∷ [];
      split = refl;
      some = λ _. omega arith;
      again = λ other h. ap (λ (b : Bool). cond b (Ok (n, other)) (Err (Expected, length (t ∷ other)))) e;
    }
    turn zero true e = record { front = []; rest = t ∷ ts; split = refl; count = refl; again = again }
      where
        again : (other : List Token) → SameNext (t ∷ ts) other → read_open zero k other ≡ Err (TooDeep, length other)
        again [] h = absurd h
        again (u ∷ us) h = ap (λ (b : Bool). cond b (Err (TooDeep, length (u ∷ us))) (Err (Expected, length (u ∷ us)))) (ap (λ (j : Kind). is k j) (sym h) ∙ e)
    turn n false e = record { front = []; rest = t ∷ ts; split = refl; count = refl; again = again }
      where
        again : (other : List Token) → SameNext (t ∷ ts) other → read_open n k other ≡ Err (Expected, length other)
        again [] h = absurd h
        again (u ∷ us) h = ap (λ (b : Bool). cond b (opened n (u ∷ us) us) (Err (Expected, length (u ∷ us)))) (ap (λ (j : Kind). is k j) (sym h) ∙ e)

-- one reader, and then another that the first one's value picks
bind_local : {A X : Type 0} (e d : Bool) (ra : Reader A) (go_on : A → Reader X) → IsLocal e ra → ((x : A) → IsLocal d (go_on x)) → IsLocal (e && d) (λ ts. ra ts >>= λ x. go_on x.0 x.1)
bind_local {A} {X} e d ra go_on la lb ts = first (ra ts) (la ts)
  where
    both : Reader X
    both ts' = ra ts' >>= λ x. go_on x.0 x.1

    nonempty : (e : Bool) (us vs : List Token) → (e ≡ false → 0 < length us) → (d ≡ false → 0 < length vs) → (e && d) ≡ false → 0 < length (us ++ vs)
    nonempty false us vs h g i = let f : 0 < length us = h refl in omega (arith, length-append us vs)
    nonempty true us vs h g i = let f : 0 < length vs = g i in omega (arith, length-append us vs)

    second : (x : A) (r1 : List Token) (took : Took e ra ts x r1) (ans : Answer X) → LocalAt d (go_on x) r1 ans → LocalAt (e && d) (λ ts'. ra ts' >>= λ x. go_on x.0 x.1) ts ans
    second x r1 took (Ok y) l = record {
      front = took.front ++ l.front;
      split = took.split ∙ ap (λ (r : List Token). took.front ++ r) l.split ∙ sym (append_assoc took.front l.front y.1);
      some = nonempty e took.front l.front took.some l.some;
      again = λ other h.
          ap (λ (us : List Token). ra us >>= λ x. go_on x.0 x.1) (append_assoc took.front l.front other)
          ∙ ap (λ (ans : Answer A). ans >>= λ x. go_on x.0 x.1) (took.again (l.front ++ other) (subst (λ (r : List Token). SameNext r (l.front ++ other)) (sym l.split) (SameNext-append l.front y.1 other h)))
          ∙ l.again other h;
    }
    second x r1 took (Err f) l = record {
      front = took.front ++ l.front;
      rest = l.rest;
      split = took.split ∙ ap (λ (r : List Token). took.front ++ r) l.split ∙ sym (append_assoc took.front l.front l.rest);
      count = l.count;
      again = λ other h.
          ap (λ (us : List Token). ra us >>= λ x. go_on x.0 x.1) (append_assoc took.front l.front other)
          ∙ ap (λ (ans : Answer A). ans >>= λ x. go_on x.0 x.1) (took.again (l.front ++ other) (subst (λ (r : List Token). SameNext r (l.front ++ other)) (sym l.split) (SameNext-append l.front l.rest other h)))
          ∙ l.again other h;
    }

    first : (ans : Answer A) → LocalAt e ra ts ans → LocalAt (e && d) (λ ts'. ra ts' >>= λ x. go_on x.0 x.1) ts (ans >>= λ x. go_on x.0 x.1)
    first (Ok x) took = second x.0 x.1 took (go_on x.0 x.1) (lb x.0 x.1)
    first (Err f) l = record {
      front = l.front;
      rest = l.rest;
      split = l.split;
      count = l.count;
      again = λ other h. ap (λ (ans : Answer A). ans >>= λ x. go_on x.0 x.1) (l.again other h);
    }

ok_local : {X : Type 0} (x : X) → IsLocal true (λ ts. Ok (x, ts))
ok_local x ts = record { front = []; split = refl; some = λ e. cc; again = λ other h. refl }

weaken : {X : Type 0} (e d : Bool) (rd : Reader X) → (d ≡ false → e ≡ false) → IsLocal e rd → IsLocal d rd
weaken {X} e d rd h l ts = turn (rd ts) (l ts)
  where
    turn : (ans : Answer X) → LocalAt e rd ts ans → LocalAt d rd ts ans
    turn (Ok x) took = record { front = took.front; split = took.split; some = λ i. took.some (h i); again = took.again }
    turn (Err f) s = s

and_true : (e : Bool) → e ≡ false → (e && true) ≡ false
and_true true i = cc
and_true false i = refl

pair_local : {A B X : Type 0} (e d : Bool) (f : A → B → X) (ra : Reader A) (rb : Reader B) → IsLocal e ra → IsLocal d rb → IsLocal (e && d) (read_pair f ra rb)
pair_local e d f ra rb la lb =
    bind_local e d ra (λ x ts. rb ts >>= λ y. Ok (f x y.0, y.1)) la
    (λ x. weaken (d && true) d (λ ts. rb ts >>= λ y. Ok (f x y.0, y.1)) (and_true d) (bind_local d true rb (λ y ts. Ok (f x y, ts)) lb (λ y. ok_local (f x y))))

as_local : {A X : Type 0} (e : Bool) (f : A → X) (ra : Reader A) → IsLocal e ra → IsLocal e (read_as f ra)
as_local e f ra la = weaken (e && true) e (read_as f ra) (and_true e) (bind_local e true ra (λ x ts. Ok (f x, ts)) la (λ x. ok_local (f x)))

nest_local : {X : Type 0} (d : Bool) (n : ℕ) (k : Kind) (ra : Reader X) → IsLocal d ra → IsLocal false (read_nest n k ra)
nest_local d n k ra la = bind_local false d (read_open n k) (λ m. ra) (open_local n k) (λ m. la)

either_local : {X : Type 0} (e d : Bool) (ks : Kind → Bool) (ra rb : Reader X) → IsLocal e ra → IsLocal d rb → IsLocal (e || d) (λ ts. cond (ks (next ts)) (ra ts) (rb ts))
either_local {X} e d ks ra rb la lb ts = turn (ks (next ts)) refl
  where
    rd : Reader X
    rd ts' = cond (ks (next ts')) (ra ts') (rb ts')

    kept : (front rest other : List Token) → ts ≡ front ++ rest → SameNext rest other → ks (next (front ++ other)) ≡ ks (next ts)
    kept front rest other split h = ap ks (next-same (front ++ rest) (front ++ other) (SameNext-append front rest other h) ∙ ap next (sym split))

    left_none : (e d : Bool) → (e || d) ≡ false → e ≡ false
    left_none true d i = i
    left_none false d i = refl

    right_none : (e d : Bool) → (e || d) ≡ false → d ≡ false
    right_none true d i = cc
    right_none false d i = i

    first : ks (next ts) ≡ true → (ans : Answer X) → LocalAt e ra ts ans → LocalAt (e || d) (λ ts'. cond (ks (next ts')) (ra ts') (rb ts')) ts ans
    first b (Ok x) l = record {
      front = l.front;
      split = l.split;
      some = λ i. l.some (left_none e d i);
      again = λ other h. ap (λ (b : Bool). cond b (ra (l.front ++ other)) (rb (l.front ++ other))) (kept l.front x.1 other l.split h ∙ b) ∙ l.again other h;
    }
    first b (Err f) l = record {
      front = l.front;
      rest = l.rest;
      split = l.split;
      count = l.count;
      again = λ other h. ap (λ (b : Bool). cond b (ra (l.front ++ other)) (rb (l.front ++ other))) (kept l.front l.rest other l.split h ∙ b) ∙ l.again other h;
    }

    second : ks (next ts) ≡ false → (ans : Answer X) → LocalAt d rb ts ans → LocalAt (e || d) (λ ts'. cond (ks (next ts')) (ra ts') (rb ts')) ts ans
    second b (Ok x) l = record {
      front = l.front;
      split = l.split;
      some = λ i. l.some (right_none e d i);
      again = λ other h. ap (λ (b : Bool). cond b (ra (l.front ++ other)) (rb (l.front ++ other))) (kept l.front x.1 other l.split h ∙ b) ∙ l.again other h;
    }
    second b (Err f) l = record {
      front = l.front;
      rest = l.rest;
      split = l.split;
      count = l.count;
      again = λ other h. ap (λ (b : Bool). cond b (ra (l.front ++ other)) (rb (l.front ++ other))) (kept l.front l.rest other l.split h ∙ b) ∙ l.again other h;
    }

    turn : (b : Bool) → ks (next ts) ≡ b → LocalAt (e || d) (λ ts'. cond (ks (next ts')) (ra ts') (rb ts')) ts (cond b (ra ts) (rb ts))
    turn true b = first b (ra ts) (la ts)
    turn false b = second b (rb ts) (lb ts)

-- a repetition answers the same with any count of turns that is at least the count of tokens
module _ {A X : Type 0} (ks : Kind → Bool) (f : A → X → X) (z : X) (ra : Reader A) (no_end : ks End ≡ false) (la : IsLocal false ra) where
  abbrev many_at : ℕ → Reader X
  many_at n ts = read_many ks f z ra n ts

  record ManyTook (ts : List Token) (x : X) (rest : List Token) : Type 0 where
    front : List Token
    split : ts ≡ front ++ rest
    again : (other : List Token) → SameNext rest other → (m : ℕ) → length (front ++ other) ≤ m → many_at m (front ++ other) ≡ Ok (x, other)

  record ManyStuck (ts : List Token) (s : Stop) (left : ℕ) : Type 0 where
    front : List Token
    rest : List Token
    split : ts ≡ front ++ rest
    count : length rest ≡ left
    again : (other : List Token) → SameNext rest other → (m : ℕ) → length (front ++ other) ≤ m → many_at m (front ++ other) ≡ Err (s, length other)

  abbrev ManyLocalAt : List Token → Answer X → Type 0
  ManyLocalAt ts (Ok x) = ManyTook ts x.0 x.1
  ManyLocalAt ts (Err g) = ManyStuck ts g.0 g.1

  -- no turn is made
  no_turn : (ts : List Token) → ks (next ts) ≡ false → ManyTook ts z ts
  no_turn ts b = record { front = []; split = refl; again = again }
    where
      again : (other : List Token) → SameNext ts other → (m : ℕ) → length other ≤ m → many_at m other ≡ Ok (z, other)
      again other h zero le = refl
      again other h (suc m) le = ap (λ (b : Bool). cond b (ra other >>= λ x. many_at m x.1 >>= λ xs. Ok (f x.0 xs.0, xs.1)) (Ok (z, other))) (ap ks (next-same ts other h) ∙ b)

  -- a turn is made on a list that begins with a token that passes
  made : (us : List Token) (m : ℕ) → ks (next us) ≡ true → length us ≤ m → (ans : Answer X) → ((i : ℕ) → length us ≤ suc i → (ra us >>= λ x. many_at i x.1 >>= λ xs. Ok (f x.0 xs.0, xs.1)) ≡ ans) → many_at m us ≡ ans
  made [] m b le ans h = absurd (never (sym no_end ∙ b))
    where
      never : false ≡ true → ⊥
      never e = cc
  made (u ∷ us) zero b le ans h = absurd (omega arith)
  made (u ∷ us) (suc m) b le ans h = ap (λ (b : Bool). cond b (ra (u ∷ us) >>= λ x. many_at m x.1 >>= λ xs. Ok (f x.0 xs.0, xs.1)) (Ok (z, u ∷ us))) b ∙ h m le

  -- a turn, and then the others
  turns : (ts : List Token) → ks (next ts) ≡ true → (x : A) (r : List Token) → Took false ra ts x r → (i : ℕ) (ans : Answer X) → ManyLocalAt r ans → ManyLocalAt ts (ans >>= λ xs. Ok (f x xs.0, xs.1))
  turns ts b x r took i (Ok y) l = record { front = took.front ++ l.front; split = split; again = again }
    where
      split : ts ≡ (took.front ++ l.front) ++ y.1
      split = took.split ∙ ap (λ (us : List Token). took.front ++ us) l.split ∙ sym (append_assoc took.front l.front y.1)

      again : (other : List Token) → SameNext y.1 other → (m : ℕ) → length ((took.front ++ l.front) ++ other) ≤ m → many_at m ((took.front ++ l.front) ++ other) ≡ Ok (f x y.0, other)
      again other h m le = made ((took.front ++ l.front) ++ other) m pass le (Ok (f x y.0, other)) rest_of
        where
          pass : ks (next ((took.front ++ l.front) ++ other)) ≡ true
          pass = ap ks (next-same ((took.front ++ l.front) ++ y.1) ((took.front ++ l.front) ++ other) (SameNext-append (took.front ++ l.front) y.1 other h) ∙ ap next (sym split)) ∙ b

          rest_of : (i : ℕ) → length ((took.front ++ l.front) ++ other) ≤ suc i → (ra ((took.front ++ l.front) ++ other) >>= λ x. many_at i x.1 >>= λ xs. Ok (f x.0 xs.0, xs.1)) ≡ Ok (f x y.0, other)
          rest_of i le =
              let some : 0 < length took.front = took.some refl in
              let le2 : length (l.front ++ other) ≤ i = omega (arith, length-append (took.front ++ l.front) other, length-append took.front l.front, length-append l.front other) in
              ap (λ (us : List Token). ra us >>= λ x. many_at i x.1 >>= λ xs. Ok (f x.0 xs.0, xs.1)) (append_assoc took.front l.front other)
              ∙ ap (λ (ans : Answer A). ans >>= λ x. many_at i x.1 >>= λ xs. Ok (f x.0 xs.0, xs.1)) (took.again (l.front ++ other) (subst (λ (r : List Token). SameNext r (l.front ++ other)) (sym l.split) (SameNext-append l.front y.1 other h)))
              ∙ ap (λ (ans : Answer X). ans >>= λ xs. Ok (f x xs.0, xs.1)) (l.again other h i le2)
  turns ts b x r took i (Err g) l = record { front = took.front ++ l.front; rest = l.rest; split = split; count = l.count; again = again }
    where
      split : ts ≡ (took.front ++ l.front) ++ l.rest
      split = took.split ∙ ap (λ (us : List Token). took.front ++ us) l.split ∙ sym (append_assoc took.front l.front l.rest)

      again : (other : List Token) → SameNext l.rest other → (m : ℕ) → length ((took.front ++ l.front) ++ other) ≤ m → many_at m ((took.front ++ l.front) ++ other) ≡ Err (g.0, length other)
      again other h m le = made ((took.front ++ l.front) ++ other) m pass le (Err (g.0, length other)) rest_of
        where
          pass : ks (next ((took.front ++ l.front) ++ other)) ≡ true
          pass = ap ks (next-same ((took.front ++ l.front) ++ l.rest) ((took.front ++ l.front) ++ other) (SameNext-append (took.front ++ l.front) l.rest other h) ∙ ap next (sym split)) ∙ b

          rest_of : (i : ℕ) → length ((took.front ++ l.front) ++ other) ≤ suc i → (ra ((took.front ++ l.front) ++ other) >>= λ x. many_at i x.1 >>= λ xs. Ok (f x.0 xs.0, xs.1)) ≡ Err (g.0, length other)
          rest_of i le =
              let some : 0 < length took.front = took.some refl in
              let le2 : length (l.front ++ other) ≤ i = omega (arith, length-append (took.front ++ l.front) other, length-append took.front l.front, length-append l.front other) in
              ap (λ (us : List Token). ra us >>= λ x. many_at i x.1 >>= λ xs. Ok (f x.0 xs.0, xs.1)) (append_assoc took.front l.front other)
              ∙ ap (λ (ans : Answer A). ans >>= λ x. many_at i x.1 >>= λ xs. Ok (f x.0 xs.0, xs.1)) (took.again (l.front ++ other) (subst (λ (r : List Token). SameNext r (l.front ++ other)) (sym l.split) (SameNext-append l.front l.rest other h)))
              ∙ ap (λ (ans : Answer X). ans >>= λ xs. Ok (f x xs.0, xs.1)) (l.again other h i le2)

  -- the first turn stops
  halts : (ts : List Token) → ks (next ts) ≡ true → (s : Stop) (left : ℕ) → Stuck ra ts s left → ManyStuck ts s left
  halts ts b s left l = record { front = l.front; rest = l.rest; split = l.split; count = l.count; again = again }
    where
      again : (other : List Token) → SameNext l.rest other → (m : ℕ) → length (l.front ++ other) ≤ m → many_at m (l.front ++ other) ≡ Err (s, length other)
      again other h m le = made (l.front ++ other) m pass le (Err (s, length other)) (λ i le2. ap (λ (ans : Answer A). ans >>= λ x. many_at i x.1 >>= λ xs. Ok (f x.0 xs.0, xs.1)) (l.again other h))
        where
          pass : ks (next (l.front ++ other)) ≡ true
          pass = ap ks (next-same (l.front ++ l.rest) (l.front ++ other) (SameNext-append l.front l.rest other h) ∙ ap next (sym l.split)) ∙ b

  many_turn : (n : ℕ) → ((ts : List Token) → length ts ≤ n → ManyLocalAt ts (many_at n ts)) → (ts : List Token) → length ts ≤ suc n → ks (next ts) ≡ true → (ans : Answer A) → LocalAt false ra ts ans → ManyLocalAt ts (ans >>= λ x. many_at n x.1 >>= λ xs. Ok (f x.0 xs.0, xs.1))
  many_turn n others ts le b (Ok x) took =
      let some : 0 < length took.front = took.some refl in
      let shorter : length x.1 ≤ n = omega (arith, ap length took.split, length-append took.front x.1) in
      turns ts b x.0 x.1 took n (many_at n x.1) (others x.1 shorter)
  many_turn n others ts le b (Err g) l = halts ts b g.0 g.1 l

  many_local : (n : ℕ) (ts : List Token) → length ts ≤ n → ManyLocalAt ts (many_at n ts)
  many_local zero [] le = no_turn [] no_end
  many_local zero (t ∷ ts) le = absurd (omega arith)
  many_local (suc n) ts le = turn (ks (next ts)) refl (many_local n)
    where
      turn : (b : Bool) → ks (next ts) ≡ b → ((ts : List Token) → length ts ≤ n → ManyLocalAt ts (many_at n ts)) → ManyLocalAt ts (cond b (ra ts >>= λ x. many_at n x.1 >>= λ xs. Ok (f x.0 xs.0, xs.1)) (Ok (z, ts)))
      turn true b others = many_turn n others ts le b (ra ts) (la ts)
      turn false b others = no_turn ts b

  repeated_local : IsLocal true (λ ts. many_at (length ts) ts)
  repeated_local ts = turn (many_at (length ts) ts) (many_local (length ts) ts (omega arith))
    where
      turn : (ans : Answer X) → ManyLocalAt ts ans → LocalAt true (λ ts. many_at (length ts) ts) ts ans
      turn (Ok x) l = record { front = l.front; split = l.split; some = λ e. absurd (never e); again = λ other h. l.again other h (length (l.front ++ other)) (omega arith) }
        where
          never : true ≡ false → ⊥
          never e = cc
      turn (Err g) l = record { front = l.front; rest = l.rest; split = l.split; count = l.count; again = λ other h. l.again other h (length (l.front ++ other)) (omega arith) }

not_true : (b : Bool) → not b ≡ true → b ≡ false
not_true true e = cc
not_true false e = refl

module _ (n : ℕ) (inner : (s : Nonterminal) → Reader (TreeOf s)) (inner_local : (s : Nonterminal) → IsLocal (empty_inner s) (inner s)) where
  pub read_local : {X : Type 0} (inside : Bool) (r : Rule X) → fine inside r ≡ true → IsLocal (can_be_empty r) (read_by n inner r)
  read_local inside (nothing x) ok = ok_local x
  read_local inside (token k) ok = token_local k
  read_local inside (mapped f a) ok = as_local (can_be_empty a) f (read_by n inner a) (read_local inside a ok)
  read_local inside (pair f a b) ok =
      let (oka, okr) = both_true _ _ ok in
      let (okb, okc) = both_true _ _ okr in
      pair_local (can_be_empty a) (can_be_empty b) f (read_by n inner a) (read_by n inner b) (read_local inside a oka) (read_local inside b okb)
  read_local inside (either ks a b) ok =
      let (oka, okr) = both_true _ _ ok in
      let (okb, okc) = both_true _ _ okr in
      either_local (can_be_empty a) (can_be_empty b) ks (read_by n inner a) (read_by n inner b) (read_local inside a oka) (read_local inside b okb)
  read_local inside (many ks f z a) ok =
      let (oka, okr) = both_true _ _ ok in
      let (oke, okf) = both_true _ _ okr in
      let (okd, okg) = both_true _ _ okf in
      repeated_local ks f z (read_by n inner a) (not_true _ okd) (weaken (can_be_empty a) false (read_by n inner a) (λ e. not_true _ oke) (read_local inside a oka))
  read_local inside (nest k a) ok =
      nest_local (can_be_empty a) n k (read_by n inner a) (read_local true a (both_true _ _ ok).1)
  read_local inside (within s f) ok = as_local (empty_inner s) f (inner s) (inner_local s)
