-- What reading answers is so: at a value the tokens taken are those of a form, and at a stop some form
-- goes on after the tokens taken.
use Rattle.std.proofs.Common.{◌≡◌, ℕ, zero, suc, ◌+◌, ◌<◌, ◌≤◌, Bool, true, false, cond, List, [], ◌∷◌, ◌++◌, length, Ok, Err, ◌⊎◌, inl, inr, refl, sym, ap, ◌∙◌, subst, arith, append_assoc}
use Rattle.std.specs.Prelude.{not, pos}
use Rattle.std.specs.List.{flat_map}
use Rattle.par_text.specs.declared.kind.Kind.{Kind}
use Rattle.par_text.specs.declared.stop.Stop.{Stop}
use Rattle.par_text.specs.declared.stop.Stop.TheVariants.{Expected, TooDeep}
use Rattle.par_text.specs.Kinds.{is}
use Rattle.par_text.specs.Rule.{Token, Nonterminal, TreeOf, Rule, nothing, token, mapped, pair, either, many, nest, within}
use Rattle.par_text.specs.Form.{Marked, Form, OfKind, tokens_of, spelling, meaning, gather}
use Rattle.par_text.specs.Reading.{Answer, Reader, next, ◌>>=◌, read_token, opened, read_pair, read_nest, read_as, read_many, read_by}
use Rattle.par_text.specs.Text.{Shallow}
use Rattle.par_text.proofs.Lookahead.{fine}
use Rattle.par_text.proofs.KindLemmas.{both_true, same_from_is}
use Rattle.par_text.proofs.Marks.{tokens_of-append, Shallow-append}

-- what is left of a form, and of the tokens, where reading stops
abbrev pub AtStop : ℕ → Stop → List Marked → List Token → Type 0
AtStop most Expected ns rest = Unit {0}
AtStop most TooDeep [] rest = ⊥
AtStop most TooDeep (m ∷ ns) [] = ⊥
AtStop most TooDeep (m ∷ ns) (t ∷ rest) = (m.token ≡ t) × (most < m.depth)

-- a form spelled sp goes on after the tokens of ts that were taken
pub record Reached (most : ℕ) (sp : List Marked) (ts : List Token) (s : Stop) (left : ℕ) : Type 0 where
  pub front : List Marked
  pub back : List Marked
  pub rest : List Token
  pub spelled : sp ≡ front ++ back
  pub split : ts ≡ tokens_of front ++ rest
  pub shallow : Shallow most front
  pub count : length rest ≡ left
  pub stop : AtStop most s back rest

pub record Found {D X : Type 0} (spell : D → List Marked) (mean : D → X) (most : ℕ) (ts : List Token) (x : X) (rest : List Token) : Type 0 where
  pub form : D
  pub split : ts ≡ tokens_of (spell form) ++ rest
  pub means : mean form ≡ x
  pub shallow : Shallow most (spell form)

abbrev pub ExactAt : {D X : Type 0} → (D → List Marked) → (D → X) → ℕ → List Token → Answer X → Type 0
ExactAt spell mean most ts (Ok x) = Found spell mean most ts x.0 x.1
ExactAt {D} spell mean most ts (Err f) = (d : D) × Reached most (spell d) ts f.0 f.1

abbrev pub IsExact : {D X : Type 0} → (D → List Marked) → (D → X) → ℕ → Reader X → Type 0
IsExact spell mean most rd = (ts : List Token) → ExactAt spell mean most ts (rd ts)

-- a longer form goes on after the same tokens
AtStop-append : (most : ℕ) (s : Stop) (ns os : List Marked) (rest : List Token) → AtStop most s ns rest → AtStop most s (ns ++ os) rest
AtStop-append most Expected ns os rest h = tt
AtStop-append most TooDeep [] os rest h = absurd h
AtStop-append most TooDeep (m ∷ ns) os [] h = h
AtStop-append most TooDeep (m ∷ ns) os (t ∷ rest) h = h

longer : (most : ℕ) (sp os : List Marked) (ts : List Token) (s : Stop) (left : ℕ) → Reached most sp ts s left → Reached most (sp ++ os) ts s left
longer most sp os ts s left r = record {
  front = r.front;
  back = r.back ++ os;
  rest = r.rest;
  spelled = ap (λ (ms : List Marked). ms ++ os) r.spelled ∙ append_assoc r.front r.back os;
  split = r.split;
  shallow = r.shallow;
  count = r.count;
  stop = AtStop-append most s r.back os r.rest r.stop;
}

-- behind a form that was read
later : (most : ℕ) (sp os : List Marked) (ts r : List Token) (s : Stop) (left : ℕ) → ts ≡ tokens_of sp ++ r → Shallow most sp → Reached most os r s left → Reached most (sp ++ os) ts s left
later most sp os ts r s left split shallow reached = record {
  front = sp ++ reached.front;
  back = reached.back;
  rest = reached.rest;
  spelled = ap (λ (ms : List Marked). sp ++ ms) reached.spelled ∙ sym (append_assoc sp reached.front reached.back);
  split = split ∙ ap (λ (us : List Token). tokens_of sp ++ us) reached.split ∙ sym (append_assoc (tokens_of sp) (tokens_of reached.front) reached.rest) ∙ ap (λ (us : List Token). us ++ reached.rest) (sym (tokens_of-append sp reached.front));
  shallow = Shallow-append most sp reached.front shallow reached.shallow;
  count = reached.count;
  stop = reached.stop;
}

-- nothing of the form is taken yet
at_once : (most : ℕ) (sp : List Marked) (ts : List Token) → Reached most sp ts Expected (length ts)
at_once most sp ts = record { front = []; back = sp; rest = ts; spelled = refl; split = refl; shallow = tt; count = refl; stop = tt }

joined : (sp os : List Marked) (ts r q : List Token) → ts ≡ tokens_of sp ++ r → r ≡ tokens_of os ++ q → ts ≡ tokens_of (sp ++ os) ++ q
joined sp os ts r q h g =
    h ∙ ap (λ (us : List Token). tokens_of sp ++ us) g ∙ sym (append_assoc (tokens_of sp) (tokens_of os) q) ∙ ap (λ (us : List Token). us ++ q) (sym (tokens_of-append sp os))

-- some token of a kind
abbrev pub sample : (k : Kind) → OfKind k
sample k = (record { kind = k; bytes = 97 ∷ []; value = pos 0; at = 0; len = 1; line = 1 }, refl)

token_exact : (most depth : ℕ) (k : Kind) → depth ≤ most → IsExact {D = OfKind k} (λ d. record { token = d.0; depth = depth } ∷ []) (λ d. d.0) most (read_token k)
token_exact most depth k le [] = (sample k, at_once most _ [])
token_exact most depth k le (t ∷ ts) = turn (is k t.kind) refl
  where
    turn : (b : Bool) → is k t.kind ≡ b → ExactAt {D = OfKind k} (λ d. record { token = d.0; depth = depth } ∷ []) (λ d. d.0) most (t ∷ ts) (cond b (Ok (t, ts)) (Err (Expected, length (t ∷ ts))))
    turn true e = record { form = (t, same_from_is k t.kind e); split = refl; means = refl; shallow = (le, tt) }
    turn false e = (sample k, at_once most _ (t ∷ ts))

module _ {A B X DA DB : Type 0} (most : ℕ) (sa : DA → List Marked) (ma : DA → A) (sb : DB → List Marked) (mb : DB → B) (f : A → B → X) (ra : Reader A) (rb : Reader B) (some : DB) (ea : IsExact sa ma most ra) (eb : IsExact sb mb most rb) where
  abbrev pair_spell : DA × DB → List Marked
  pair_spell d = sa d.0 ++ sb d.1

  abbrev pair_mean : DA × DB → X
  pair_mean d = f (ma d.0) (mb d.1)

  second : (ts : List Token) (x : A) (r : List Token) → Found sa ma most ts x r → (ans : Answer B) → ExactAt sb mb most r ans → ExactAt pair_spell pair_mean most ts (ans >>= λ y. Ok (f x y.0, y.1))
  second ts x r found (Ok y) l = record {
    form = (found.form, l.form);
    split = joined (sa found.form) (sb l.form) ts r y.1 found.split l.split;
    means = ap (λ (a : A). f a (mb l.form)) found.means ∙ ap (λ (b : B). f x b) l.means;
    shallow = Shallow-append most (sa found.form) (sb l.form) found.shallow l.shallow;
  }
  second ts x r found (Err g) l = ((found.form, l.0), later most (sa found.form) (sb l.0) ts r g.0 g.1 found.split found.shallow l.1)

  first : (ts : List Token) (ans : Answer A) → ExactAt sa ma most ts ans → ExactAt pair_spell pair_mean most ts (ans >>= λ x. rb x.1 >>= λ y. Ok (f x.0 y.0, y.1))
  first ts (Ok x) l = second ts x.0 x.1 l (rb x.1) (eb x.1)
  first ts (Err g) l = ((l.0, some), longer most (sa l.0) (sb some) ts g.0 g.1 l.1)

  pair_exact : IsExact pair_spell pair_mean most (read_pair f ra rb)
  pair_exact ts = first ts (ra ts) (ea ts)

as_exact : {A X DA : Type 0} (most : ℕ) (sa : DA → List Marked) (ma : DA → A) (f : A → X) (ra : Reader A) → IsExact sa ma most ra → IsExact sa (λ d. f (ma d)) most (read_as f ra)
as_exact {A} {X} most sa ma f ra ea ts = turn (ra ts) (ea ts)
  where
    turn : (ans : Answer A) → ExactAt sa ma most ts ans → ExactAt sa (λ d. f (ma d)) most ts (ans >>= λ x. Ok (f x.0, x.1))
    turn (Ok x) l = record { form = l.form; split = l.split; means = ap f l.means; shallow = l.shallow }
    turn (Err g) l = l

module _ {X D : Type 0} (most : ℕ) (s : D → List Marked) (m : D → X) where
  left_exact : {DA : Type 0} (sa : DA → List Marked) (ma : DA → X) (to : DA → D) → ((d : DA) → s (to d) ≡ sa d) → ((d : DA) → m (to d) ≡ ma d) → (ts : List Token) (ans : Answer X) → ExactAt sa ma most ts ans → ExactAt s m most ts ans
  left_exact sa ma to es em ts (Ok x) l = record {
    form = to l.form;
    split = l.split ∙ ap (λ (ms : List Marked). tokens_of ms ++ x.1) (sym (es l.form));
    means = em l.form ∙ l.means;
    shallow = subst (λ (ms : List Marked). Shallow most ms) (sym (es l.form)) l.shallow;
  }
  left_exact sa ma to es em ts (Err g) l = (to l.0, subst (λ (ms : List Marked). Reached most ms ts g.0 g.1) (sym (es l.0)) l.1)

module _ {A X D : Type 0} (most : ℕ) (sa : D → List Marked) (ma : D → A) (ks : Kind → Bool) (f : A → X → X) (z : X) (ra : Reader A) (ea : IsExact sa ma most ra) where
  abbrev many_spell : List D → List Marked
  many_spell ds = flat_map sa ds

  abbrev many_mean : List D → X
  many_mean ds = gather ma f z ds

  none_read : (ts : List Token) → Found many_spell many_mean most ts z ts
  none_read ts = record { form = []; split = refl; means = refl; shallow = tt }

  others : (ts : List Token) (x : A) (r : List Token) → Found sa ma most ts x r → (ans : Answer X) → ExactAt many_spell many_mean most r ans → ExactAt many_spell many_mean most ts (ans >>= λ xs. Ok (f x xs.0, xs.1))
  others ts x r found (Ok y) l = record {
    form = found.form ∷ l.form;
    split = joined (sa found.form) (many_spell l.form) ts r y.1 found.split l.split;
    means = ap (λ (a : A). f a (many_mean l.form)) found.means ∙ ap (λ (b : X). f x b) l.means;
    shallow = Shallow-append most (sa found.form) (many_spell l.form) found.shallow l.shallow;
  }
  others ts x r found (Err g) l = (found.form ∷ l.0, later most (sa found.form) (many_spell l.0) ts r g.0 g.1 found.split found.shallow l.1)

  one_more : (n : ℕ) → IsExact many_spell many_mean most (read_many ks f z ra n) → (ts : List Token) (ans : Answer A) → ExactAt sa ma most ts ans → ExactAt many_spell many_mean most ts (ans >>= λ x. read_many ks f z ra n x.1 >>= λ xs. Ok (f x.0 xs.0, xs.1))
  one_more n ih ts (Ok x) l = others ts x.0 x.1 l (read_many ks f z ra n x.1) (ih x.1)
  one_more n ih ts (Err g) l = (l.0 ∷ [], longer most (sa l.0) [] ts g.0 g.1 l.1)

  many_exact : (n : ℕ) → IsExact many_spell many_mean most (read_many ks f z ra n)
  many_exact zero ts = none_read ts
  many_exact (suc n) ts = turn (ks (next ts)) (many_exact n)
    where
      turn : (b : Bool) → IsExact many_spell many_mean most (read_many ks f z ra n) → ExactAt many_spell many_mean most ts (cond b (ra ts >>= λ x. read_many ks f z ra n x.1 >>= λ xs. Ok (f x.0 xs.0, xs.1)) (Ok (z, ts)))
      turn true ih = one_more n ih ts (ra ts) (ea ts)
      turn false ih = none_read ts

module _ {X D : Type 0} (most depth n : ℕ) (room : depth + n ≡ most) (k : Kind) (sa : D → List Marked) (ma : D → X) (ra : Reader X) (some : D) (ea : 0 < n → IsExact sa ma most ra) where
  abbrev nest_spell : OfKind k × D → List Marked
  nest_spell d = record { token = d.0.0; depth = depth + 1 } ∷ sa d.1

  abbrev nest_mean : OfKind k × D → X
  nest_mean d = ma d.1

  inside_exact : depth + 1 ≤ most → (t : Token) (e : t.kind ≡ k) (ts : List Token) (ans : Answer X) → ExactAt sa ma most ts ans → ExactAt nest_spell nest_mean most (t ∷ ts) ans
  inside_exact le t e ts (Ok x) l = record { form = ((t, e), l.form); split = ap (λ (us : List Token). t ∷ us) l.split; means = l.means; shallow = (le, l.shallow) }
  inside_exact le t e ts (Err g) l = (((t, e), l.0), later most (record { token = t; depth = depth + 1 } ∷ []) (sa l.0) (t ∷ ts) ts g.0 g.1 refl (le, tt) l.1)

  opened_exact : (m : ℕ) → n ≡ m → (t : Token) → t.kind ≡ k → (ts : List Token) → ExactAt nest_spell nest_mean most (t ∷ ts) (opened m (t ∷ ts) ts >>= λ i. ra i.1)
  opened_exact zero e t h ts = (
    ((t, h), some),
    record {
      front = [];
      back = nest_spell ((t, h), some);
      rest = t ∷ ts;
      spelled = refl;
      split = refl;
      shallow = tt;
      count = refl;
      stop = (refl, omega arith);
    },
  )
  opened_exact (suc m) e t h ts = inside_exact (omega arith) t h ts (ra ts) (ea (omega arith) ts)

  nest_exact : IsExact nest_spell nest_mean most (read_nest n k ra)
  nest_exact [] = ((sample k, some), at_once most _ [])
  nest_exact (t ∷ ts) = turn (is k t.kind) refl
    where
      turn : (b : Bool) → is k t.kind ≡ b → ExactAt nest_spell nest_mean most (t ∷ ts) (cond b (opened n (t ∷ ts) ts) (Err (Expected, length (t ∷ ts))) >>= λ i. ra i.1)
      turn true e = opened_exact n refl t (same_from_is k t.kind e) ts
      turn false e = ((sample k, some), at_once most _ (t ∷ ts))

-- inside a construct one more is open
abbrev pub depth_of : ℕ → Bool → ℕ
depth_of depth true = depth + 1
depth_of depth false = depth

module _ (Inner : Nonterminal → Type 0) (spell : ℕ → (s : Nonterminal) → Inner s → List Marked) (mean : (s : Nonterminal) → Inner s → TreeOf s) (some : (s : Nonterminal) → Inner s) where
  -- some form of a rule
  some_form : {X : Type 0} (r : Rule X) → Form Inner r
  some_form (nothing x) = tt
  some_form (token k) = sample k
  some_form (mapped f a) = some_form a
  some_form (pair f a b) = (some_form a, some_form b)
  some_form (either ks a b) = inr (some_form b)
  some_form (many ks f z a) = []
  some_form (nest k a) = (sample k, some_form a)
  some_form (within s f) = some s

  module _ (most depth n : ℕ) (room : depth + n ≡ most) (inner : (s : Nonterminal) → Reader (TreeOf s)) (inner_exact : 0 < n → (s : Nonterminal) → IsExact (spell (depth + 1) s) (mean s) most (inner s)) where
    deep_enough : (inside : Bool) → (inside ≡ true → 0 < n) → depth_of depth inside ≤ most
    deep_enough true h = let lt : 0 < n = h refl in omega arith
    deep_enough false h = omega arith

    abbrev RuleExact : {X : Type 0} → Bool → Rule X → Type 0
    RuleExact inside r = IsExact (spelling Inner spell (depth_of depth inside) r) (meaning Inner mean r) most (read_by n inner r)

    nest_case : {X : Type 0} (inside : Bool) (k : Kind) (a : Rule X) → (not inside) ≡ true → (0 < n → RuleExact true a) → RuleExact inside (nest k a)
    nest_case true k a ok ih = absurd (never ok)
      where
        never : false ≡ true → ⊥
        never e = cc
    nest_case false k a ok ih = nest_exact most depth n room k (spelling Inner spell (depth + 1) a) (meaning Inner mean a) (read_by n inner a) (some_form a) ih

    within_case : {X : Type 0} (inside : Bool) (s : Nonterminal) (f : TreeOf s → X) → inside ≡ true → (inside ≡ true → 0 < n) → RuleExact inside (within s f)
    within_case false s f ok h = absurd (never ok)
      where
        never : false ≡ true → ⊥
        never e = cc
    within_case true s f ok h = as_exact most (spell (depth + 1) s) (mean s) f (inner s) (inner_exact (h refl) s)

    either_case : {X : Type 0} (inside : Bool) (ks : Kind → Bool) (a b : Rule X) → RuleExact inside a → RuleExact inside b → RuleExact inside (either ks a b)
    either_case {X} inside ks a b ea eb ts = turn (ks (next ts))
      where
        s : Form Inner a ⊎ Form Inner b → List Marked
        s d = spelling Inner spell (depth_of depth inside) (either ks a b) d

        turn : (c : Bool) → ExactAt (spelling Inner spell (depth_of depth inside) (either ks a b)) (meaning Inner mean (either ks a b)) most ts (cond c (read_by n inner a ts) (read_by n inner b ts))
        turn true = left_exact most (spelling Inner spell (depth_of depth inside) (either ks a b)) (meaning Inner mean (either ks a b)) (spelling Inner spell (depth_of depth inside) a) (meaning Inner mean a) (λ d. inl d) (λ d. refl) (λ d. refl) ts (read_by n inner a ts) (ea ts)
        turn false = left_exact most (spelling Inner spell (depth_of depth inside) (either ks a b)) (meaning Inner mean (either ks a b)) (spelling Inner spell (depth_of depth inside) b) (meaning Inner mean b) (λ d. inr d) (λ d. refl) (λ d. refl) ts (read_by n inner b ts) (eb ts)

    pub read_exact : {X : Type 0} (inside : Bool) → (inside ≡ true → 0 < n) → (r : Rule X) → fine inside r ≡ true → RuleExact inside r
    read_exact inside h (nothing x) ok = λ ts. record { form = tt; split = refl; means = refl; shallow = tt }
    read_exact inside h (token k) ok = token_exact most (depth_of depth inside) k (deep_enough inside h)
    read_exact inside h (mapped f a) ok =
        as_exact most (spelling Inner spell (depth_of depth inside) a) (meaning Inner mean a) f (read_by n inner a) (read_exact inside h a ok)
    read_exact inside h (pair f a b) ok =
        let (oka, okr) = both_true _ _ ok in
        let (okb, okc) = both_true _ _ okr in
        pair_exact most (spelling Inner spell (depth_of depth inside) a) (meaning Inner mean a) (spelling Inner spell (depth_of depth inside) b) (meaning Inner mean b) f (read_by n inner a) (read_by n inner b) (some_form b) (read_exact inside h a oka) (read_exact inside h b okb)
    read_exact inside h (either ks a b) ok =
        let (oka, okr) = both_true _ _ ok in
        let (okb, okc) = both_true _ _ okr in
        either_case inside ks a b (read_exact inside h a oka) (read_exact inside h b okb)
    read_exact inside h (many ks f z a) ok = λ ts.
        many_exact most (spelling Inner spell (depth_of depth inside) a) (meaning Inner mean a) ks f z (read_by n inner a) (read_exact inside h a (both_true _ _ ok).0) (length ts) ts
    read_exact inside h (nest k a) ok = nest_case inside k a (both_true _ _ ok).0 (λ lt. read_exact true (λ _. lt) a (both_true _ _ ok).1)
    read_exact inside h (within s f) ok = within_case inside s f ok h
