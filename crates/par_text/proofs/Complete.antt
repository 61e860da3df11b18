-- Reading the tokens of a form gives its value, or the first of its tokens that is too deep.
use Rattle.std.proofs.Common.{◌≡◌, ℕ, zero, suc, ◌+◌, ◌<◌, ◌≤◌, Bool, true, false, cond, List, [], ◌∷◌, ◌++◌, length, Ok, Err, inl, inr, refl, sym, ap, ◌∙◌, subst, arith, append_assoc, length-append}
use Rattle.std.specs.Prelude.{◌&&◌, ◌||◌, not}
use Rattle.std.specs.List.{flat_map}
use Rattle.std.proofs.lemmas.Bool.{le-leb, lt-leb}
use Rattle.par_text.specs.declared.kind.Kind.{Kind}
use Rattle.par_text.specs.declared.stop.Stop.TheVariants.{Expected, TooDeep}
use Rattle.par_text.specs.Kinds.{holds_of_all, kinds}
use Rattle.par_text.specs.Rule.{Token, Nonterminal, TreeOf, Rule, nothing, token, mapped, pair, either, many, nest, within}
use Rattle.par_text.specs.Form.{Marked, Form, OfKind, tokens_of, spelling, meaning, gather}
use Rattle.par_text.specs.Reading.{Answer, Reader, next, ◌>>=◌, read_token, opened, read_pair, read_nest, read_as, read_many, read_by}
use Rattle.par_text.proofs.Lookahead.{can_be_empty, empty_inner, begins, begins_inner, may_follow, follows_inner, implies, none_of, both_of, fine}
use Rattle.par_text.proofs.KindLemmas.{both_true, is-self, of_each}
use Rattle.par_text.proofs.Marks.{tokens_of-append, judge, judge-as, judge-append}
use Rattle.par_text.proofs.Exact.{depth_of}

-- a list begins with a kind that p passes, or is empty where e says that it may be
abbrev pub BeginsBy : (Kind → Bool) → Bool → List Token → Type 0
BeginsBy p e [] = e ≡ true
BeginsBy p e (t ∷ ts) = p t.kind ≡ true

or_left : (a b : Bool) → a ≡ true → (a || b) ≡ true
or_left true b h = refl
or_left false b h = cc

or_right : (a b : Bool) → b ≡ true → (a || b) ≡ true
or_right true b h = refl
or_right false b h = h

and_true : (a b : Bool) → a ≡ true → b ≡ true → (a && b) ≡ true
and_true true b h g = g
and_true false b h g = cc

-- p implies q at a kind
pub implied : (p q : Kind → Bool) → holds_of_all (implies p q) kinds ≡ true → (k : Kind) → p k ≡ true → q k ≡ true
implied p q h k e = go (p k) (q k) e (of_each (implies p q) h k)
  where
    go : (a b : Bool) → a ≡ true → (not a || b) ≡ true → b ≡ true
    go true b e h = h
    go false b e h = cc

not_is : (b : Bool) → not b ≡ true → b ≡ false
not_is true e = cc
not_is false e = refl

module _ (Inner : Nonterminal → Type 0) (spell : ℕ → (s : Nonterminal) → Inner s → List Marked) (inner_begins : (depth : ℕ) (s : Nonterminal) (d : Inner s) → BeginsBy (begins_inner s) (empty_inner s) (tokens_of (spell depth s d))) where
  append_begins : (p q : Kind → Bool) (e g : Bool) (ts us : List Token) → BeginsBy p e ts → BeginsBy q g us → BeginsBy (λ k. p k || (e && q k)) (e && g) (ts ++ us)
  append_begins p q e g [] [] h i = and_true e g h i
  append_begins p q e g [] (u ∷ us) h i = or_right (p u.kind) (e && q u.kind) (and_true e (q u.kind) h i)
  append_begins p q e g (t ∷ ts) us h i = or_left (p t.kind) (e && q t.kind) h

  either_left : (p q : Kind → Bool) (e g : Bool) (ts : List Token) → BeginsBy p e ts → BeginsBy (λ k. p k || q k) (e || g) ts
  either_left p q e g [] h = or_left e g h
  either_left p q e g (t ∷ ts) h = or_left (p t.kind) (q t.kind) h

  either_right : (p q : Kind → Bool) (e g : Bool) (ts : List Token) → BeginsBy q g ts → BeginsBy (λ k. p k || q k) (e || g) ts
  either_right p q e g [] h = or_right e g h
  either_right p q e g (t ∷ ts) h = or_right (p t.kind) (q t.kind) h

  many_begins : (p : Kind → Bool) (e : Bool) (ts us : List Token) → BeginsBy p e ts → BeginsBy p true us → BeginsBy p true (ts ++ us)
  many_begins p e [] us h i = i
  many_begins p e (t ∷ ts) us h i = h

  flat_begins : {D : Type 0} (p : Kind → Bool) (e : Bool) (sa : D → List Marked) → ((d : D) → BeginsBy p e (tokens_of (sa d))) → (ds : List D) → BeginsBy p true (tokens_of (flat_map sa ds))
  flat_begins p e sa h [] = refl
  flat_begins p e sa h (d ∷ ds) = subst (λ (ts : List Token). BeginsBy p true ts) (sym (tokens_of-append (sa d) (flat_map sa ds))) (many_begins p e (tokens_of (sa d)) (tokens_of (flat_map sa ds)) (h d) (flat_begins p e sa h ds))

  pub form_begins : {X : Type 0} (depth : ℕ) (r : Rule X) (d : Form Inner r) → BeginsBy (begins r) (can_be_empty r) (tokens_of (spelling Inner spell depth r d))
  form_begins depth (nothing x) d = refl
  form_begins depth (token k) d = is-self k d.0.kind d.1
  form_begins depth (mapped f a) d = form_begins depth a d
  form_begins depth (pair f a b) d =
      subst (λ (ts : List Token). BeginsBy (begins (pair f a b)) (can_be_empty (pair f a b)) ts) (sym (tokens_of-append (spelling Inner spell depth a d.0) (spelling Inner spell depth b d.1)))
      (append_begins (begins a) (begins b) (can_be_empty a) (can_be_empty b) (tokens_of (spelling Inner spell depth a d.0)) (tokens_of (spelling Inner spell depth b d.1)) (form_begins depth a d.0) (form_begins depth b d.1))
  form_begins depth (either ks a b) (inl d) = either_left (begins a) (begins b) (can_be_empty a) (can_be_empty b) (tokens_of (spelling Inner spell depth a d)) (form_begins depth a d)
  form_begins depth (either ks a b) (inr d) = either_right (begins a) (begins b) (can_be_empty a) (can_be_empty b) (tokens_of (spelling Inner spell depth b d)) (form_begins depth b d)
  form_begins depth (many ks f z a) ds = flat_begins (begins a) (can_be_empty a) (spelling Inner spell depth a) (form_begins depth a) ds
  form_begins depth (nest k a) d = is-self k d.0.0.kind d.0.1
  form_begins depth (within s f) d = inner_begins depth s d

-- reading each form, where what follows may follow, is judged by its marks
abbrev pub CompleteBy : {D X : Type 0} → (D → List Marked) → (D → X) → (Kind → Bool) → ℕ → Reader X → Type 0
CompleteBy {D} s m follows most rd =
    (d : D) (rest : List Token) → follows (next rest) ≡ true → rd (tokens_of (s d) ++ rest) ≡ judge most (m d) (s d) rest

-- what follows a form in a list
next_of : (p q : Kind → Bool) (e : Bool) (ts rest : List Token) → BeginsBy p e ts → ((k : Kind) → p k ≡ true → q k ≡ true) → (e ≡ true → q (next rest) ≡ true) → q (next (ts ++ rest)) ≡ true
next_of p q e [] rest h i g = g h
next_of p q e (t ∷ ts) rest h i g = i t.kind h

as_complete : {A X D : Type 0} (sa : D → List Marked) (ma : D → A) (follows : Kind → Bool) (most : ℕ) (f : A → X) (ra : Reader A) → CompleteBy sa ma follows most ra → CompleteBy sa (λ d. f (ma d)) follows most (read_as f ra)
as_complete {A} sa ma follows most f ra ca d rest h = ap (λ (ans : Answer A). ans >>= λ x. Ok (f x.0, x.1)) (ca d rest h) ∙ judge-as most f (ma d) (sa d) rest

-- one mark that is not too deep
judge_one : {X : Type 0} (most : ℕ) (m : Marked) (x : X) (ms : List Marked) (rest : List Token) → m.depth ≤ most → judge most x ms rest ≡ judge most x (m ∷ ms) rest
judge_one most m x ms rest le = ap (λ (b : Bool). cond b (judge most x ms rest) (Err (TooDeep, length (m.token ∷ (tokens_of ms ++ rest))))) (sym (le-leb m.depth most le))

token_complete : (most depth : ℕ) (k : Kind) (follows : Kind → Bool) → depth ≤ most → CompleteBy {D = OfKind k} (λ d. record { token = d.0; depth = depth } ∷ []) (λ d. d.0) follows most (read_token k)
token_complete most depth k follows le d rest h =
    ap (λ (b : Bool). cond b (Ok (d.0, rest)) (Err (Expected, length (d.0 ∷ rest)))) (is-self k d.0.kind d.1)
    ∙ judge_one most (record { token = d.0; depth = depth }) d.0 [] rest le

module _ {A B X DA DB : Type 0} (most : ℕ) (sa : DA → List Marked) (ma : DA → A) (sb : DB → List Marked) (mb : DB → B) (f : A → B → X) (ra : Reader A) (rb : Reader B) (fa fb : Kind → Bool) (ca : CompleteBy sa ma fa most ra) (cb : CompleteBy sb mb fb most rb) where
  pair_complete : (d : DA × DB) (rest : List Token) → fa (next (tokens_of (sb d.1) ++ rest)) ≡ true → fb (next rest) ≡ true → read_pair f ra rb (tokens_of (sa d.0 ++ sb d.1) ++ rest) ≡ judge most (f (ma d.0) (mb d.1)) (sa d.0 ++ sb d.1) rest
  pair_complete d rest h g =
      ap (λ (ts : List Token). read_pair f ra rb ts) (ap (λ (ts : List Token). ts ++ rest) (tokens_of-append (sa d.0) (sb d.1)) ∙ append_assoc (tokens_of (sa d.0)) (tokens_of (sb d.1)) rest)
      ∙ ap (λ (ans : Answer A). ans >>= λ x. rb x.1 >>= λ y. Ok (f x.0 y.0, y.1)) (ca d.0 (tokens_of (sb d.1) ++ rest) h)
      ∙ judge-append most (ma d.0) (f (ma d.0) (mb d.1)) (λ x. rb x.1 >>= λ y. Ok (f x.0 y.0, y.1)) (sa d.0) (sb d.1) rest (as_complete sb mb fb most (λ y. f (ma d.0) y) rb cb d.1 rest g)

module _ {A X D : Type 0} (most : ℕ) (sa : D → List Marked) (ma : D → A) (p : Kind → Bool) (ks : Kind → Bool) (f : A → X → X) (z : X) (ra : Reader A) (fa : Kind → Bool) (starts : (d : D) → BeginsBy p false (tokens_of (sa d))) (passes : (k : Kind) → p k ≡ true → (ks k ≡ true) × (fa k ≡ true)) (ca : CompleteBy sa ma fa most ra) where
  abbrev all_tokens : List D → List Token
  all_tokens ds = tokens_of (flat_map sa ds)

  all_begin : (ds : List D) → BeginsBy p true (all_tokens ds)
  all_begin [] = refl
  all_begin (d ∷ ds) = subst (λ (ts : List Token). BeginsBy p true ts) (sym (tokens_of-append (sa d) (flat_map sa ds))) (joined (tokens_of (sa d)) (starts d))
    where
      joined : (ts : List Token) → BeginsBy p false ts → BeginsBy p true (ts ++ all_tokens ds)
      joined [] h = cc
      joined (t ∷ ts) h = h

  stops : (n : ℕ) (rest : List Token) → ks (next rest) ≡ false → read_many ks f z ra n rest ≡ Ok (z, rest)
  stops zero rest h = refl
  stops (suc n) rest h = ap (λ (b : Bool). cond b (ra rest >>= λ x. read_many ks f z ra n x.1 >>= λ xs. Ok (f x.0 xs.0, xs.1)) (Ok (z, rest))) h

  goes : (n : ℕ) (ts : List Token) → ks (next ts) ≡ true → read_many ks f z ra (suc n) ts ≡ (ra ts >>= λ x. read_many ks f z ra n x.1 >>= λ xs. Ok (f x.0 xs.0, xs.1))
  goes n ts h = ap (λ (b : Bool). cond b (ra ts >>= λ x. read_many ks f z ra n x.1 >>= λ xs. Ok (f x.0 xs.0, xs.1)) (Ok (z, ts))) h

  first_passes : (ts rest : List Token) → BeginsBy p false ts → ks (next (ts ++ rest)) ≡ true
  first_passes [] rest h = cc
  first_passes (t ∷ ts) rest h = (passes t.kind h).0

  some_tokens : (ts : List Token) → BeginsBy p false ts → 0 < length ts
  some_tokens [] h = cc
  some_tokens (t ∷ ts) h = omega arith

  many_complete : (n : ℕ) (ds : List D) (rest : List Token) → ks (next rest) ≡ false → fa (next rest) ≡ true → length (all_tokens ds ++ rest) ≤ n → read_many ks f z ra n (all_tokens ds ++ rest) ≡ judge most (gather ma f z ds) (flat_map sa ds) rest
  many_complete n [] rest h g le = stops n rest h
  many_complete zero (d ∷ ds) rest h g le =
      let some : 0 < length (tokens_of (sa d)) = some_tokens (tokens_of (sa d)) (starts d) in
      absurd (omega (arith, length-append (all_tokens (d ∷ ds)) rest, ap length (tokens_of-append (sa d) (flat_map sa ds)), length-append (tokens_of (sa d)) (all_tokens ds)))
  many_complete (suc n) (d ∷ ds) rest h g le =
      let some : 0 < length (tokens_of (sa d)) = some_tokens (tokens_of (sa d)) (starts d) in
      let split : all_tokens (d ∷ ds) ++ rest ≡ tokens_of (sa d) ++ (all_tokens ds ++ rest) = ap (λ (ts : List Token). ts ++ rest) (tokens_of-append (sa d) (flat_map sa ds)) ∙ append_assoc (tokens_of (sa d)) (all_tokens ds) rest in
      let shorter : length (all_tokens ds ++ rest) ≤ n = omega (arith, ap length split, length-append (tokens_of (sa d)) (all_tokens ds ++ rest)) in
      let follows : fa (next (all_tokens ds ++ rest)) ≡ true = next_of p fa true (all_tokens ds) rest (all_begin ds) (λ k e. (passes k e).1) (λ e. g) in
      ap (λ (ts : List Token). read_many ks f z ra (suc n) ts) split
      ∙ goes n (tokens_of (sa d) ++ (all_tokens ds ++ rest)) (first_passes (tokens_of (sa d)) (all_tokens ds ++ rest) (starts d))
      ∙ ap (λ (ans : Answer A). ans >>= λ x. read_many ks f z ra n x.1 >>= λ xs. Ok (f x.0 xs.0, xs.1)) (ca d (all_tokens ds ++ rest) follows)
      ∙ judge-append most (ma d) (f (ma d) (gather ma f z ds)) (λ x. read_many ks f z ra n x.1 >>= λ xs. Ok (f x.0 xs.0, xs.1)) (sa d) (flat_map sa ds) rest
      (ap (λ (ans : Answer X). ans >>= λ xs. Ok (f (ma d) xs.0, xs.1)) (many_complete n ds rest h g shorter) ∙ judge-as most (λ (xs : X). f (ma d) xs) (gather ma f z ds) (flat_map sa ds) rest)

module _ {X D : Type 0} (most depth n : ℕ) (room : depth + n ≡ most) (k : Kind) (sa : D → List Marked) (ma : D → X) (ra : Reader X) (fa : Kind → Bool) (ca : 0 < n → CompleteBy sa ma fa most ra) where
  opened_complete : (m : ℕ) → n ≡ m → (t : Token) (d : D) (rest : List Token) → fa (next rest) ≡ true → (opened m (t ∷ (tokens_of (sa d) ++ rest)) (tokens_of (sa d) ++ rest) >>= λ i. ra i.1) ≡ judge most (ma d) (record { token = t; depth = depth + 1 } ∷ sa d) rest
  opened_complete zero e t d rest h = ap (λ (b : Bool). cond b (judge most (ma d) (sa d) rest) (Err (TooDeep, length (t ∷ (tokens_of (sa d) ++ rest))))) (sym (lt-leb (depth + 1) most (omega arith)))
  opened_complete (suc m) e t d rest h = ca (omega arith) d rest h ∙ judge_one most (record { token = t; depth = depth + 1 }) (ma d) (sa d) rest (omega arith)

  nest_complete : (d : OfKind k × D) (rest : List Token) → fa (next rest) ≡ true → read_nest n k ra (tokens_of (record { token = d.0.0; depth = depth + 1 } ∷ sa d.1) ++ rest) ≡ judge most (ma d.1) (record { token = d.0.0; depth = depth + 1 } ∷ sa d.1) rest
  nest_complete d rest h =
      ap (λ (b : Bool). cond b (opened n (d.0.0 ∷ (tokens_of (sa d.1) ++ rest)) (tokens_of (sa d.1) ++ rest)) (Err (Expected, length (d.0.0 ∷ (tokens_of (sa d.1) ++ rest)))) >>= λ i. ra i.1) (is-self k d.0.0.kind d.0.1)
      ∙ opened_complete n refl d.0.0 d.1 rest h

module _ (Inner : Nonterminal → Type 0) (spell : ℕ → (s : Nonterminal) → Inner s → List Marked) (mean : (s : Nonterminal) → Inner s → TreeOf s) (inner_begins : (depth : ℕ) (s : Nonterminal) (d : Inner s) → BeginsBy (begins_inner s) (empty_inner s) (tokens_of (spell depth s d))) (most depth n : ℕ) (room : depth + n ≡ most) (inner : (s : Nonterminal) → Reader (TreeOf s)) (inner_complete : 0 < n → (s : Nonterminal) → CompleteBy (spell (depth + 1) s) (mean s) (follows_inner s) most (inner s)) where
  shallow_enough : (inside : Bool) → (inside ≡ true → 0 < n) → depth_of depth inside ≤ most
  shallow_enough true h = let lt : 0 < n = h refl in omega arith
  shallow_enough false h = omega arith

  abbrev RuleComplete : {X : Type 0} → Bool → Rule X → Type 0
  RuleComplete inside r = CompleteBy (spelling Inner spell (depth_of depth inside) r) (meaning Inner mean r) (may_follow r) most (read_by n inner r)

  nest_case : {X : Type 0} (inside : Bool) (k : Kind) (a : Rule X) → (not inside) ≡ true → (0 < n → RuleComplete true a) → RuleComplete inside (nest k a)
  nest_case true k a ok ih = absurd (never ok)
    where
      never : false ≡ true → ⊥
      never e = cc
  nest_case false k a ok ih = nest_complete most depth n room k (spelling Inner spell (depth + 1) a) (meaning Inner mean a) (read_by n inner a) (may_follow a) ih

  within_case : {X : Type 0} (inside : Bool) (s : Nonterminal) (f : TreeOf s → X) → inside ≡ true → (inside ≡ true → 0 < n) → RuleComplete inside (within s f)
  within_case false s f ok h = absurd (never ok)
    where
      never : false ≡ true → ⊥
      never e = cc
  within_case true s f ok h = as_complete (spell (depth + 1) s) (mean s) (follows_inner s) most f (inner s) (inner_complete (h refl) s)

  follow_left : (e : Bool) (p q : Bool) → (q && (not e || p)) ≡ true → e ≡ true → p ≡ true
  follow_left e p true h i = go e h i
    where
      go : (e : Bool) → (not e || p) ≡ true → e ≡ true → p ≡ true
      go true h i = h
      go false h i = cc
  follow_left e p false h i = cc

  pair_case : {A B X : Type 0} (inside : Bool) (f : A → B → X) (a : Rule A) (b : Rule B) → holds_of_all (implies (begins b) (may_follow a)) kinds ≡ true → RuleComplete inside a → RuleComplete inside b → RuleComplete inside (pair f a b)
  pair_case inside f a b ok ca cb d rest h =
      pair_complete most (spelling Inner spell (depth_of depth inside) a) (meaning Inner mean a) (spelling Inner spell (depth_of depth inside) b) (meaning Inner mean b) f (read_by n inner a) (read_by n inner b) (may_follow a) (may_follow b) ca cb d rest
      (next_of (begins b) (may_follow a) (can_be_empty b) (tokens_of (spelling Inner spell (depth_of depth inside) b d.1)) rest (form_begins Inner spell inner_begins (depth_of depth inside) b d.1) (implied (begins b) (may_follow a) ok)
      (follow_left (can_be_empty b) (may_follow a (next rest)) (may_follow b (next rest)) h))
      (both_true _ _ h).0

  either_case : {X : Type 0} (inside : Bool) (ks : Kind → Bool) (a b : Rule X) → not (can_be_empty a) ≡ true → holds_of_all (implies (begins a) ks) kinds ≡ true → holds_of_all (implies (begins b) (none_of ks)) kinds ≡ true → RuleComplete inside a → RuleComplete inside b → RuleComplete inside (either ks a b)
  either_case inside ks a b full oka okb ca cb (inl d) rest h =
      ap (λ (c : Bool). cond c (read_by n inner a (tokens_of (spelling Inner spell (depth_of depth inside) a d) ++ rest)) (read_by n inner b (tokens_of (spelling Inner spell (depth_of depth inside) a d) ++ rest)))
      (next_of (begins a) ks (can_be_empty a) (tokens_of (spelling Inner spell (depth_of depth inside) a d)) rest (form_begins Inner spell inner_begins (depth_of depth inside) a d) (implied (begins a) ks oka) (λ e. absurd (never (can_be_empty a) full e)))
      ∙ ca d rest (both_true _ _ h).0
    where
      never : (e : Bool) → not e ≡ true → e ≡ true → ⊥
      never true h i = cc
      never false h i = cc
  either_case inside ks a b full oka okb ca cb (inr d) rest h =
      ap (λ (c : Bool). cond c (read_by n inner a (tokens_of (spelling Inner spell (depth_of depth inside) b d) ++ rest)) (read_by n inner b (tokens_of (spelling Inner spell (depth_of depth inside) b d) ++ rest)))
      (not_is _ (next_of (begins b) (none_of ks) (can_be_empty b) (tokens_of (spelling Inner spell (depth_of depth inside) b d)) rest (form_begins Inner spell inner_begins (depth_of depth inside) b d) (implied (begins b) (none_of ks) okb) (follow_left (can_be_empty b) (none_of ks (next rest)) (may_follow b (next rest)) (both_true _ _ h).1)))
      ∙ cb d rest (both_true _ _ (both_true _ _ h).1).0

  many_case : {A X : Type 0} (inside : Bool) (ks : Kind → Bool) (f : A → X → X) (z : X) (a : Rule A) → not (can_be_empty a) ≡ true → holds_of_all (implies (begins a) (both_of ks (may_follow a))) kinds ≡ true → RuleComplete inside a → RuleComplete inside (many ks f z a)
  many_case inside ks f z a full ok ca ds rest h =
      many_complete most (spelling Inner spell (depth_of depth inside) a) (meaning Inner mean a) (begins a) ks f z (read_by n inner a) (may_follow a)
      (λ d. full_begins (tokens_of (spelling Inner spell (depth_of depth inside) a d)) (form_begins Inner spell inner_begins (depth_of depth inside) a d))
      (λ k e. both_true _ _ (implied (begins a) (both_of ks (may_follow a)) ok k e))
      ca _ ds rest (not_is _ (both_true _ _ h).0) (both_true _ _ h).1 (omega arith)
    where
      full_begins : (ts : List Token) → BeginsBy (begins a) (can_be_empty a) ts → BeginsBy (begins a) false ts
      full_begins [] e = sym (not_is (can_be_empty a) full) ∙ e
      full_begins (t ∷ ts) e = e

  pub read_complete : {X : Type 0} (inside : Bool) → (inside ≡ true → 0 < n) → (r : Rule X) → fine inside r ≡ true → RuleComplete inside r
  read_complete inside h (nothing x) ok = λ d rest e. refl
  read_complete inside h (token k) ok = token_complete most (depth_of depth inside) k (λ i. true) (shallow_enough inside h)
  read_complete inside h (mapped f a) ok =
      as_complete (spelling Inner spell (depth_of depth inside) a) (meaning Inner mean a) (may_follow a) most f (read_by n inner a) (read_complete inside h a ok)
  read_complete inside h (pair f a b) ok =
      let (oka, okr) = both_true _ _ ok in
      let (okb, okc) = both_true _ _ okr in
      pair_case inside f a b okc (read_complete inside h a oka) (read_complete inside h b okb)
  read_complete inside h (either ks a b) ok =
      let (oka, okr) = both_true _ _ ok in
      let (okb, okc) = both_true _ _ okr in
      let (oke, okd) = both_true _ _ okc in
      let (okf, okg) = both_true _ _ okd in
      either_case inside ks a b oke okf okg (read_complete inside h a oka) (read_complete inside h b okb)
  read_complete inside h (many ks f z a) ok =
      let (oka, okr) = both_true _ _ ok in
      let (oke, okc) = both_true _ _ okr in
      let (okd, okg) = both_true _ _ okc in
      many_case inside ks f z a oke okg (read_complete inside h a oka)
  read_complete inside h (nest k a) ok = nest_case inside k a (both_true _ _ ok).0 (λ lt. read_complete true (λ _. lt) a (both_true _ _ ok).1)
  read_complete inside h (within s f) ok = within_case inside s f ok h
