-- Each statement moves what a thread holds as its environments say.
use Rattle.std.specs.Prelude.{◌≡◌, ℕ, ◌+◌, ◌*◌, ◌-◌, ◌/◌, ◌%◌, ◌≤◌, ◌&&◌, if◌then◌else◌, nat_le, nat_eq, Bool, true, false, List, [], ◌∷◌, ◌++◌, length, take, drop, slice_set, replicate, ℤ, pos, negsuc, neg_ℤ, ◌+ℤ◌, Option, Some, None, refl}
use Rattle.std.specs.Str.{bytes_eq}
use Rattle.std.specs.List.{list_all}
use Rattle.std.proofs.Common.{sym, ◌∙◌, ap, arith, subst, length-append}
use Rattle.std.proofs.lemmas.List.{length-take, length-drop, length-set, length-replicate}
use Rattle.std.proofs.lemmas.Int.{ints}
use borrow.Author.Tests.{leb-true, eqb-true}
use Rattle.depth_first_run.specs.Passed.Actions as actions
use Rattle.depth_first_run.specs.Passed.Runs.{tree_for}
use Rattle.depth_first_run.specs.Passed.Tree.{Name, Expr}
use Rattle.depth_first_run.specs.Passed.Environment as environments
use Rattle.depth_first_run.specs.Passed.Environment.{Environment, Entry, block_entry, lent_entry, with_entry, regained, opened, is_released, after_gives}
use Rattle.depth_first_run.specs.Passed.Ownership.{IsHeld}
use Rattle.depth_first_run.specs.Stores
use Rattle.depth_first_run.specs.Stores.{Store, block_of, block_words, held_words, hold_block, drop_block, without, with_block, write_block}
use Rattle.depth_first_run.specs.Values.{value}
use Rattle.depth_first_run.specs.States.{Setting, State, with_action, unless_faulted, next_action, holdings}
use Rattle.depth_first_run.specs.Run.{on_store, put_in_place, put_number, put_value, run_tree_unless, run_tree_before, alloc_words, free_block, cut_block, rejoin_block, split_in_place, split_block}
use Rattle.depth_first_run.proofs.Words.{cut_words, joined_words, without_words, with_words, replaced_words}
use Rattle.ownership_laws.specs.Counts.{hit, count, held_in, seen_in, lent_in, block_in, held_entry, seen_entry, lent_entry_of}
use Rattle.ownership_laws.proofs.Counting.{by_names, hit_same, hit_other, count_with, count_without, count_replaced, held_block, found_front, found_marked, held_without, held_regained, unseen_none, bytes_swap}
use Rattle.ownership_laws.proofs.Environments.{Follows, Like, like_marked, like_opened, follows_same, seen_like, lent_like, block_like, held_at_most_one, held_parts, held_opened, lent_seen}
use Rattle.ownership_laws.proofs.Tame.{held_with_block, held_with_lent, lent_with_lent}
use Rattle.language_limits.specs.declared.TheConstants.{LONGEST_BLOCK}
use Rattle.ownership_laws.specs.Holdings.{AreShort}
use Rattle.ownership_laws.proofs.Short.{short_with, short_block, short_without, short_replaced, short_cut, short_rejoin}
use Rattle.ownership_laws.proofs.Sizes.{weigh, size, weigh_same, weigh_other, size_with, size_without, size_replaced, size_one, size_none}
use Rattle.ownership_laws.proofs.Moves.{Exact, exact_same, exact_trans, exact_act, exact_quiet, Moved, Way, stopped, went, Ran, ran_fault, moved_same, moved_trans, ran_settled, tree_went, unless_stopped, unless_running}

-- the thread agrees with an environment on the names that pass
unfoldable pub Agrees : (Name → Bool) → Environment → Stores.Store → Type 0
Agrees named env s = (x : Name) → named x ≡ true → count s.blocks x ≡ held_in env x

-- an unseen name is another than a visible one
pub differs : (env : Environment) (b x : Name) → seen_in env b ≡ 0 → seen_in env x ≡ 1 → bytes_eq b x ≡ false
differs env b x p q = by_names (λ (b : Name) (x : Name). seen_in env b ≡ 0 → seen_in env x ≡ 1 → bytes_eq b x ≡ false) b x (λ y p q. absurd (omega (arith, p, q))) (λ d p q. d) p q

-- names that do not meet
pub weigh_unless : (a b : Name) (n : ℕ) → hit a b ≡ 0 → weigh a b n ≡ 0
weigh_unless a b n = by_names (λ (a : Name) (b : Name). hit a b ≡ 0 → weigh a b n ≡ 0) a b (λ x z. let o = hit_same x in absurd (omega (arith, o, z))) (λ d z. weigh_other a b n d)

pub went_ran : (env after : Environment) (s t : State) → Exact s t → Moved env after s t → Ran env after s t
went_ran env after s t e m = record { exact = e; way = went m }

-- a store with the same blocks
pub ran_integers : (env after : Environment) (st : Store) (s : State) → s.faulted ≡ false → st.blocks ≡ s.store.blocks → ((x : Name) → held_in after x ≡ held_in env x) → Ran env after s (record s { store = st })
ran_integers env after st s f b h = went_ran env after s (record s { store = st })
    (exact_quiet s (record s { store = st }) refl (ap (λ hs. held_words hs + Stores.stored_words s.callers) b))
    (record {
      running = f;
      callers = refl;
      counts = λ x. let a : count st.blocks x ≡ count s.store.blocks x = ap (λ hs. count hs x) b in let e = h x in omega (arith, a, e);
      sizes = λ x v w. ap (λ hs. size hs x) b;
      short = λ k. subst AreShort (sym b) k;
    })

ran_putting_at : (env : Environment) (line : ℕ) (b : Name) (v : ℤ) (o : Option ℕ) (s : State) → s.faulted ≡ false → Ran env env s (put_in_place line b v o s)
ran_putting_at env line b v None s f = ran_fault env env _ line s
ran_putting_at env line b v (Some i) s f =
    let xs : List ℤ = slice_set (block_of s.store.blocks b) i v in
    let l = length-set (block_of s.store.blocks b) i v in
    let t : State = put_in_place line b v (Some i) s in
    let w = replaced_words s.store.blocks b xs l in
    went_ran env env s t (exact_quiet s t refl (omega (arith, w)))
    (record {
      running = f;
      callers = refl;
      counts = λ x. let a = count_replaced s.store.blocks b xs x in omega (arith, a);
      sizes = λ x p q. size_replaced s.store.blocks b xs x l;
      short = λ k. let few = short_block s.store.blocks b k in short_replaced s.store.blocks b xs k (omega (arith, few, l));
    })

pub ran_putting_value : (env : Environment) (line : ℕ) (b : Name) (e : Expr) (i : ℤ) (s : State) → s.faulted ≡ false → Ran env env s (put_value line b e i s)
ran_putting_value env line b e i s f = ran_settled env env line (value s.store e) (put_number line b i) s (λ v. ran_putting_at env line b v _ s f)

went_delaying : (t : Bool) (c : Setting) (words : ℕ) (env : Environment) (s : State) → s.faulted ≡ false → Exact s (run_tree_unless t c words s) × Moved env env s (run_tree_unless t c words s)
went_delaying true c words env s f = (exact_same s, moved_same env s f)
went_delaying false c words env s f = tree_went c (tree_for c.quota words) env s f

pub ran_allocating : (c : Setting) (env : Environment) (line : ℕ) (b : Name) (o : Option ℕ) (s : State) → s.faulted ≡ false → seen_in env b ≡ 0
    → ((n : ℕ) → o ≡ Some n → n ≤ LONGEST_BLOCK) → Ran env (with_entry env (block_entry b line)) s (alloc_words c line b o s)
unfolding run_tree_before with_action
ran_allocating c env line b None s f u within = ran_fault env (with_entry env (block_entry b line)) _ line s
ran_allocating c env line b (Some n) s f u within =
    let after : Environment = with_entry env (block_entry b line) in
    let t : State = run_tree_unless (nat_le (block_words n) c.quota) c (block_words n) s in
    let d = went_delaying (nat_le (block_words n) c.quota) c (block_words n) env s f in
    let r : State = alloc_words c line b (Some n) s in
    let xs : List ℤ = replicate n (pos 0) in
    let w = with_words t.store.blocks b xs in
    let l : block_words (length xs) ≡ block_words n = ap block_words (length-replicate n (pos 0)) in
    let more : holdings r ≡ holdings t + block_words n = omega (arith, w, l) in
    went_ran env after s r
    (exact_trans s t r d.0 (exact_act t r (next_action actions.allocates (block_words n) t ∷ []) (pos (block_words n)) refl (alone (block_words n)) (rises (holdings r) (holdings t) (block_words n) more)))
    (moved_trans env env after s t r (follows_same env) (λ x s. falls x s) (held_at_most_one env) d.1
    (record {
      running = (d.1).running;
      callers = refl;
      counts = λ x. let a = count_with t.store.blocks b xs x in let h = held_with_block env b line x u in omega (arith, a, h);
      sizes = λ x v h. let a = size_with t.store.blocks b xs x in let z = weigh_other b x (length xs) (differs env b x u v) in omega (arith, a, z);
      short = λ k. let few = within n refl in let long = length-replicate n (pos 0) in short_with t.store.blocks b xs k (omega (arith, few, long));
    }))
  where
    alone : (n : ℕ) → (pos n +ℤ pos 0) ≡ pos n
    alone n = omega (arith, ints)

    rises : (r t n : ℕ) → r ≡ t + n → pos r ≡ pos t +ℤ pos n
    rises r t n e = omega (arith, ints, e)

    falls : (x : Name) → seen_in env x ≡ 1 → held_in (with_entry env (block_entry b line)) x ≤ held_in env x
    falls x v = let e = found_front held_entry 0 env (block_entry b line ∷ []) x v in omega (arith, e)

pub ran_freeing : (env : Environment) (b : Name) (s : State) → s.faulted ≡ false → held_in env b ≡ 1 → count s.store.blocks b ≡ 1 → Ran env (environments.without env b) s (free_block b s)
unfolding with_action
ran_freeing env b s f h e =
    let n : ℕ = block_words (length (block_of s.store.blocks b)) in
    let t : State = free_block b s in
    let w = without_words s.store.blocks b in
    let less : holdings t + n ≡ holdings s = omega (arith, w) in
    went_ran env (environments.without env b) s t
    (exact_act s t (next_action actions.releases n s ∷ []) (neg_ℤ (pos n)) refl (alone (neg_ℤ (pos n))) (falls (holdings t) n (holdings s) less))
    (record {
      running = f;
      callers = refl;
      counts = λ x. let a = count_without s.store.blocks b x (omega (arith, e)) in let d = held_without env b x h in omega (arith, a, d);
      sizes = λ x v k. let a = size_without s.store.blocks b x in
          let d = held_without env b x h in let m = held_at_most_one env x in
          let z = weigh_unless b x (length (block_of s.store.blocks b)) (omega (arith, d, m, k)) in omega (arith, a, z);
      short = λ p. short_without s.store.blocks b p;
    })
  where
    alone : (z : ℤ) → (z +ℤ pos 0) ≡ z
    alone z = omega (arith, ints)

    falls : (t n s : ℕ) → t + n ≡ s → pos t ≡ pos s +ℤ neg_ℤ (pos n)
    falls t n s e = omega (arith, ints, e)

-- ---- a `split`

-- whole pieces and the rest have the words of the whole
pub whole_words : (n m q : ℕ) → n ≡ 16 * q → block_words (n + m) ≡ block_words n + block_words m
whole_words n m q e =
    let a = cut_words (n + m) n q e (omega arith) in let b = joined_words n m in
    let d : block_words (n + m - n) ≡ block_words m = ap block_words (back n m) in omega (arith, a, b, d)
  where
    back : (n m : ℕ) → n + m - n ≡ m
    back n m = omega arith

-- inside: the block is gone and its two parts are held
pub inner_held : (env : Environment) (b l r : Name) (line : ℕ) (x : Name) → IsHeld env b → seen_in env l ≡ 0 → seen_in (with_entry env (lent_entry l line)) r ≡ 0 → seen_in env b ≡ 1
    → held_in (opened env b l r line) x + hit b x ≡ held_in env x + (hit l x + hit r x)
inner_held env b l r line x h sl sr sb =
    let one : Environment = with_entry env (lent_entry l line) in
    let two : Environment = with_entry one (lent_entry r line) in
    let a = held_with_lent env l line x sl in let c = held_with_lent one r line x sr in
    let hb : held_in two b ≡ 1 =
    found_front held_entry 0 one (lent_entry r line ∷ []) b (found_front seen_entry 0 env (lent_entry l line ∷ []) b sb ∙ sb)
    ∙ found_front held_entry 0 env (lent_entry l line ∷ []) b sb ∙ (held_block env b h).0 in
    let d = held_without two b x hb in omega (arith, a, c, d)

inner_lent : (env : Environment) (b l r : Name) (line : ℕ) (x : Name) → seen_in env l ≡ 0 → seen_in (with_entry env (lent_entry l line)) r ≡ 0
    → lent_in (opened env b l r line) x ≡ lent_in env x + (hit l x + hit r x)
inner_lent env b l r line x sl sr =
    let one : Environment = with_entry env (lent_entry l line) in
    let two : Environment = with_entry one (lent_entry r line) in
    let a = lent_with_lent env l line x sl in let c = lent_with_lent one r line x sr in
    let d : lent_in (opened env b l r line) x ≡ lent_in two x = lent_like two (opened env b l r line) x (like_marked two b false) in omega (arith, a, c, d)

inner_seen : (env : Environment) (b l r : Name) (line : ℕ) (x : Name) → seen_in env x ≡ 1 → seen_in (opened env b l r line) x ≡ 1
inner_seen env b l r line x s =
    let one : Environment = with_entry env (lent_entry l line) in
    let two : Environment = with_entry one (lent_entry r line) in
    seen_like two (opened env b l r line) x (like_marked two b false)
    ∙ found_front seen_entry 0 one (lent_entry r line ∷ []) x (found_front seen_entry 0 env (lent_entry l line ∷ []) x s ∙ s)
    ∙ found_front seen_entry 0 env (lent_entry l line ∷ []) x s ∙ s

-- what a `split` needs of its names and its environments
pub record SplitEnds (env end : Environment) (b l r : Name) (line : ℕ) : Type 0 where
  pub held : IsHeld env b
  pub seen : seen_in env b ≡ 1
  pub left_new : seen_in env l ≡ 0
  pub right_new : seen_in env r ≡ 0
  pub right_newer : seen_in (with_entry env (lent_entry l line)) r ≡ 0
  pub two : bytes_eq l r ≡ false
  pub follows : Follows (opened env b l r line) end
  pub released : list_all is_released (drop (length env) end) ≡ true
  pub lents : (x : Name) → lent_in (opened env b l r line) x ≡ 1 → held_in end x ≡ held_in (opened env b l r line) x
  pub falls : (x : Name) → seen_in (opened env b l r line) x ≡ 1 → held_in end x ≤ held_in (opened env b l r line) x

lent_is_seen : (env : Environment) (x : Name) → lent_in env x ≡ 1 → seen_in env x ≡ 1
lent_is_seen env x h = lent_seen env x h

-- numbers that a `split` stands on
record Split (env end : Environment) (b l r : Name) (line : ℕ) : Type 0 where
  inside : (x : Name) → held_in (opened env b l r line) x + hit b x ≡ held_in env x + (hit l x + hit r x)
  end_left : held_in end l ≡ 1
  end_right : held_in end r ≡ 1
  in_left : held_in (opened env b l r line) l ≡ 1
  in_right : held_in (opened env b l r line) r ≡ 1
  seen_left : seen_in (opened env b l r line) l ≡ 1
  seen_right : seen_in (opened env b l r line) r ≡ 1
  in_block : held_in (opened env b l r line) b ≡ 0
  end_block : held_in end b ≡ 0
  behind : (x : Name) → held_in (regained (take (length env) end) b) x + (hit l x + hit r x) ≡ held_in end x + hit b x
  same : (x : Name) → seen_in env x ≡ 1 → bytes_eq b x ≡ false → held_in (regained (take (length env) end) b) x ≡ held_in end x

split_numbers : (env end : Environment) (b l r : Name) (line : ℕ) → SplitEnds env end b l r line → Split env end b l r line
split_numbers env end b l r line k =
    let inner : Environment = opened env b l r line in
    let front : Environment = take (length env) end in
    let like : Like env front = like_opened env end b l r line k.follows in
    let inside : (x : Name) → held_in inner x + hit b x ≡ held_in env x + (hit l x + hit r x) = λ x. inner_held env b l r line x k.held k.left_new k.right_newer k.seen in
    let lb : hit l b ≡ 0 = hit_other l b (differs env l b k.left_new k.seen) in
    let rb : hit r b ≡ 0 = hit_other r b (differs env r b k.right_new k.seen) in
    let bl : hit b l ≡ 0 = swap l b lb in let br : hit b r ≡ 0 = swap r b rb in
    let lr : hit l r ≡ 0 = hit_other l r k.two in let rl : hit r l ≡ 0 = swap l r lr in
    let ll = hit_same l in let rr = hit_same r in let bb = hit_same b in
    let zl : held_in env l ≡ 0 = unseen_none held_entry 0 env l k.left_new in
    let zr : held_in env r ≡ 0 = unseen_none held_entry 0 env r k.right_new in
    let yl : lent_in env l ≡ 0 = unseen_none lent_entry_of 0 env l k.left_new in
    let yr : lent_in env r ≡ 0 = unseen_none lent_entry_of 0 env r k.right_new in
    let hb = (held_block env b k.held).0 in
    let il = inside l in let ir = inside r in let ib = inside b in
    let in_left : held_in inner l ≡ 1 = omega (arith, il, zl, ll, rl, bl) in
    let in_right : held_in inner r ≡ 1 = omega (arith, ir, zr, rr, lr, br) in
    let in_block : held_in inner b ≡ 0 = omega (arith, ib, hb, bb, lb, rb) in
    let tl = inner_lent env b l r line l k.left_new k.right_newer in
    let tr = inner_lent env b l r line r k.left_new k.right_newer in
    let lent_left : lent_in inner l ≡ 1 = omega (arith, tl, yl, ll, rl) in
    let lent_right : lent_in inner r ≡ 1 = omega (arith, tr, yr, rr, lr) in
    let el : held_in end l ≡ 1 = k.lents l lent_left ∙ in_left in
    let er : held_in end r ≡ 1 = k.lents r lent_right ∙ in_right in
    let f = k.falls b (inner_seen env b l r line b k.seen) in
    let eb : held_in end b ≡ 0 = omega (arith, f, in_block) in
    let fb : held_in front b ≡ 0 = sym (held_parts (length env) end b (seen_like env front b like ∙ k.seen)) ∙ eb in
    let kb : block_in front b ≡ 1 = block_like env front b like ∙ (held_block env b k.held).1 in
    record {
      inside = inside;
      end_left = el;
      end_right = er;
      in_left = in_left;
      in_right = in_right;
      seen_left = lent_is_seen inner l lent_left;
      seen_right = lent_is_seen inner r lent_right;
      in_block = in_block;
      end_block = eb;
      behind = λ x.
          let a = held_regained front b x fb kb in
          let o = held_opened env end b l r line x k.follows k.released k.left_new k.right_new k.two el er in omega (arith, a, o);
      same = λ x s d. found_marked held_entry 0 true front b x d ∙ sym (held_parts (length env) end x (seen_like env front x like ∙ s));
    }
  where
    swap : (a c : Name) → hit a c ≡ 0 → hit c a ≡ 0
    swap a c = by_names (λ (a : Name) (c : Name). hit a c ≡ 0 → hit c a ≡ 0) a c (λ x z. z) (λ d z. hit_other c a (bytes_swap a c d))

-- a cut
pub cut_count : (b l r : Name) (at : ℕ) (s : Store) (x : Name) → count s.blocks b ≡ 1 → count (cut_block b l r at s).blocks x + hit b x ≡ count s.blocks x + (hit l x + hit r x)
cut_count b l r at s x e =
    let xs : List ℤ = block_of s.blocks b in
    let t : Store = drop_block b s in
    let d = count_without s.blocks b x (omega (arith, e)) in
    let w = count_with t.blocks l (take at xs) x in
    let v = count_with (hold_block l (take at xs) t).blocks r (drop at xs) x in omega (arith, d, w, v)

cut_size : (b l r : Name) (at : ℕ) (s : Store) (x : Name)
    → size (cut_block b l r at s).blocks x + weigh b x (length (block_of s.blocks b)) ≡ size s.blocks x + (weigh l x (length (take at (block_of s.blocks b))) + weigh r x (length (drop at (block_of s.blocks b))))
cut_size b l r at s x =
    let xs : List ℤ = block_of s.blocks b in
    let t : Store = drop_block b s in
    let d = size_without s.blocks b x in
    let w = size_with t.blocks l (take at xs) x in
    let v = size_with (hold_block l (take at xs) t).blocks r (drop at xs) x in omega (arith, d, w, v)

taken_length : (at : ℕ) (xs : List ℤ) → at ≤ length xs → length (take at xs) ≡ at
taken_length at xs le = let t = length-take at xs in omega (arith, t, le)

dropped_length : (at : ℕ) (xs : List ℤ) → length (drop at xs) ≡ length xs - at
dropped_length at xs = length-drop at xs

pub cut_exact : (b l r : Name) (at q : ℕ) (s : Store) → at ≡ 16 * q → at ≤ length (block_of s.blocks b) → held_words (cut_block b l r at s).blocks ≡ held_words s.blocks
cut_exact b l r at q s whole le =
    let xs : List ℤ = block_of s.blocks b in
    let t : Store = drop_block b s in
    let d = without_words s.blocks b in
    let w = with_words t.blocks l (take at xs) in
    let v = with_words (hold_block l (take at xs) t).blocks r (drop at xs) in
    let lt : block_words (length (take at xs)) ≡ block_words at = ap block_words (taken_length at xs le) in
    let ld : block_words (length (drop at xs)) ≡ block_words (length xs - at) = ap block_words (dropped_length at xs) in
    let c = whole_words at (length xs - at) q whole in
    let n : block_words (at + (length xs - at)) ≡ block_words (length xs) = ap block_words (sum at (length xs) le) in omega (arith, d, w, v, lt, ld, c, n)
  where
    sum : (a n : ℕ) → a ≤ n → a + (n - a) ≡ n
    sum a n le = omega (arith, le)

pub rejoin_exact : (b l r : Name) (q : ℕ) (s : Store) → length (block_of s.blocks l) ≡ 16 * q → held_words (rejoin_block b l r s).blocks ≡ held_words s.blocks
rejoin_exact b l r q s whole =
    let xs : List ℤ = block_of s.blocks l in
    let t : Store = drop_block l s in
    let ys : List ℤ = block_of t.blocks r in
    let d = without_words s.blocks l in
    let e = without_words t.blocks r in
    let w = with_words (drop_block r t).blocks b (xs ++ ys) in
    let n : block_words (length (xs ++ ys)) ≡ block_words (length xs + length ys) = ap block_words (length-append xs ys) in
    let j = whole_words (length xs) (length ys) q whole in omega (arith, d, e, w, n, j)

rejoin_count : (b l r : Name) (s : Store) (x : Name) → count s.blocks l ≡ 1 → count s.blocks r ≡ 1 → hit l r ≡ 0 → count (rejoin_block b l r s).blocks x + (hit l x + hit r x) ≡ count s.blocks x + hit b x
rejoin_count b l r s x cl cr lr =
    let xs : List ℤ = block_of s.blocks l in
    let t : Store = drop_block l s in
    let ys : List ℤ = block_of t.blocks r in
    let d = count_without s.blocks l x (omega (arith, cl)) in
    let dr = count_without s.blocks l r (omega (arith, cl)) in
    let e = count_without t.blocks r x (omega (arith, dr, cr, lr)) in
    let w = count_with (drop_block r t).blocks b (xs ++ ys) x in omega (arith, d, e, w)

rejoin_size : (b l r : Name) (s : Store) (x : Name)
    → size (rejoin_block b l r s).blocks x + (weigh l x (length (block_of s.blocks l)) + weigh r x (length (block_of (drop_block l s).blocks r)))
    ≡ size s.blocks x + weigh b x (length (block_of s.blocks l) + length (block_of (drop_block l s).blocks r))
rejoin_size b l r s x =
    let xs : List ℤ = block_of s.blocks l in
    let t : Store = drop_block l s in
    let ys : List ℤ = block_of t.blocks r in
    let d = size_without s.blocks l x in
    let e = size_without t.blocks r x in
    let w = size_with (drop_block r t).blocks b (xs ++ ys) x in
    let n : weigh b x (length (xs ++ ys)) ≡ weigh b x (length xs + length ys) = ap (weigh b x) (length-append xs ys) in omega (arith, d, e, w, n)

-- behind the body of a `split` its two parts are there
pub parts_left : (env end : Environment) (b l r : Name) (line at : ℕ) (s v : State) → SplitEnds env end b l r line → count s.store.blocks b ≡ 1 → count s.store.blocks l ≡ 0 → count s.store.blocks r ≡ 0
    → Moved (opened env b l r line) end (on_store (cut_block b l r at) s) v → (count v.store.blocks l ≡ 1) × (count v.store.blocks r ≡ 1)
parts_left env end b l r line at s v ends cb cl cr m =
    let k = split_numbers env end b l r line ends in
    let lr : hit l r ≡ 0 = hit_other l r ends.two in
    let rl : hit r l ≡ 0 = hit_other r l (bytes_swap l r ends.two) in
    let bl : hit b l ≡ 0 = hit_other b l (bytes_swap l b (differs env l b ends.left_new ends.seen)) in
    let br : hit b r ≡ 0 = hit_other b r (bytes_swap r b (differs env r b ends.right_new ends.seen)) in
    let ll = hit_same l in let rr = hit_same r in
    let ul = cut_count b l r at s.store l cb in let ur = cut_count b l r at s.store r cb in
    let ml = m.counts l in let mr = m.counts r in
    let il = k.in_left in let ir = k.in_right in let el = k.end_left in let er = k.end_right in
    (omega (arith, ul, ml, il, el, cl, ll, rl, bl), omega (arith, ur, mr, ir, er, cr, rr, lr, br))

-- the block is not held there, and its left part is as long as it was
pub left_stays : (env end : Environment) (b l r : Name) (line at : ℕ) (s v : State) → SplitEnds env end b l r line → at ≤ length (block_of s.store.blocks b)
    → count s.store.blocks b ≡ 1 → count s.store.blocks l ≡ 0 → count s.store.blocks r ≡ 0
    → Moved (opened env b l r line) end (on_store (cut_block b l r at) s) v → (count v.store.blocks b ≡ 0) × (length (block_of v.store.blocks l) ≡ at)
left_stays env end b l r line at s v ends le cb cl cr m =
    let k = split_numbers env end b l r line ends in
    let bs : List ℤ = block_of s.store.blocks b in
    let lb : hit l b ≡ 0 = hit_other l b (differs env l b ends.left_new ends.seen) in
    let rb : hit r b ≡ 0 = hit_other r b (differs env r b ends.right_new ends.seen) in
    let bb = hit_same b in
    let ub = cut_count b l r at s.store b cb in let mb = m.counts b in
    let ib = k.in_block in let eb = k.end_block in
    let vl : count v.store.blocks l ≡ 1 = (parts_left env end b l r line at s v ends cb cl cr m).0 in
    let zl = size_none s.store.blocks l cl in
    let sl = cut_size b l r at s.store l in
    let wll = weigh_same l (length (take at bs)) in let wrl = weigh_other r l (length (drop at bs)) (bytes_swap l r ends.two) in
    let wbl = weigh_other b l (length bs) (bytes_swap l b (differs env l b ends.left_new ends.seen)) in
    let one_l = size_one v.store.blocks l (omega (arith, vl)) in
    let kept_l = m.sizes l k.seen_left k.end_left in
    let tl = taken_length at bs le in
    (omega (arith, ub, mb, ib, eb, cb, bb, lb, rb), omega (arith, one_l, kept_l, sl, wll, wrl, wbl, zl, tl))

-- and so is its right part
pub right_stays : (env end : Environment) (b l r : Name) (line at : ℕ) (s v : State) → SplitEnds env end b l r line → count s.store.blocks r ≡ 0
    → Moved (opened env b l r line) end (on_store (cut_block b l r at) s) v → size v.store.blocks r ≡ length (block_of s.store.blocks b) - at
right_stays env end b l r line at s v ends cr m =
    let k = split_numbers env end b l r line ends in
    let bs : List ℤ = block_of s.store.blocks b in
    let zr = size_none s.store.blocks r cr in
    let sr = cut_size b l r at s.store r in
    let wrr = weigh_same r (length (drop at bs)) in let wlr = weigh_other l r (length (take at bs)) ends.two in
    let wbr = weigh_other b r (length bs) (bytes_swap r b (differs env r b ends.right_new ends.seen)) in
    let kept = m.sizes r k.seen_right k.end_right in
    let td = dropped_length at bs in omega (arith, zr, sr, wrr, wlr, wbr, kept, td)

-- so both together are as long as the block
pub parts_length : (env end : Environment) (b l r : Name) (line at : ℕ) (s v : State) → SplitEnds env end b l r line → at ≤ length (block_of s.store.blocks b)
    → count s.store.blocks b ≡ 1 → count s.store.blocks l ≡ 0 → count s.store.blocks r ≡ 0
    → Moved (opened env b l r line) end (on_store (cut_block b l r at) s) v
    → length (block_of v.store.blocks l) + length (block_of v.store.blocks r) ≡ length (block_of s.store.blocks b)
parts_length env end b l r line at s v ends le cb cl cr m =
    let left = (left_stays env end b l r line at s v ends le cb cl cr m).1 in
    let right = right_stays env end b l r line at s v ends cr m in
    let there = (parts_left env end b l r line at s v ends cb cl cr m).1 in
    let one = size_one v.store.blocks r (omega (arith, there)) in omega (arith, left, right, one, le)

cut_moved : (env end : Environment) (b l r : Name) (line : ℕ) (body : State → State) (at q : ℕ) (s : State) → SplitEnds env end b l r line → at ≡ 16 * q → at ≤ length (block_of s.store.blocks b)
    → s.faulted ≡ false → count s.store.blocks b ≡ 1 → count s.store.blocks l ≡ 0 → count s.store.blocks r ≡ 0
    → (v : State) → Moved (opened env b l r line) end (on_store (cut_block b l r at) s) v
    → (held_words (rejoin_block b l r v.store).blocks ≡ held_words v.store.blocks) × Moved env (regained (take (length env) end) b) s (on_store (rejoin_block b l r) v)
cut_moved env end b l r line body at q s ends whole le f cb cl cr v m =
    let k = split_numbers env end b l r line ends in
    let u : State = on_store (cut_block b l r at) s in
    let bs : List ℤ = block_of s.store.blocks b in
    let lr : hit l r ≡ 0 = hit_other l r ends.two in
    let left = left_stays env end b l r line at s v ends le cb cl cr m in
    let two = parts_left env end b l r line at s v ends cb cl cr m in
    let vl : count v.store.blocks l ≡ 1 = two.0 in
    let vr : count v.store.blocks r ≡ 1 = two.1 in
    let vb : count v.store.blocks b ≡ 0 = left.0 in
    let xs : List ℤ = block_of v.store.blocks l in
    let t : Store = drop_block l v.store in
    let ys : List ℤ = block_of t.blocks r in
    let lx : length xs ≡ at = left.1 in
    -- the right part is as long as it was
    let right = right_stays env end b l r line at s v ends cr m in
    let dr = count_without v.store.blocks l r (omega (arith, vl)) in
    let one_r = size_one t.blocks r (omega (arith, dr, vr, lr)) in
    let without_r = size_without v.store.blocks l r in
    let wxr = weigh_other l r (length xs) ends.two in
    let ly : length ys ≡ length bs - at = omega (arith, one_r, without_r, wxr, right) in (
      rejoin_exact b l r q v.store (lx ∙ whole),
      record {
        running = m.running;
        callers = m.callers;
        counts = λ x.
            let a = cut_count b l r at s.store x cb in let c = m.counts x in let d = rejoin_count b l r v.store x vl vr lr in
            let i = k.inside x in let e = k.behind x in omega (arith, a, c, d, i, e);
        sizes = λ x w h.
            let d = rejoin_size b l r v.store x in
            let xl = weigh_other l x (length xs) (differs env l x ends.left_new w) in
            let xr = weigh_other r x (length ys) (differs env r x ends.right_new w) in
            by_names (λ (b' : Name) (x' : Name). b' ≡ b → x' ≡ x → size (rejoin_block b l r v.store).blocks x ≡ size s.store.blocks x) b x
            (λ y p p'.
            let e : b ≡ x = sym p ∙ p' in
            let db = rejoin_size b l r v.store b in
            let bl0 = weigh_other l b (length xs) (differs env l b ends.left_new ends.seen) in
            let br0 = weigh_other r b (length ys) (differs env r b ends.right_new ends.seen) in
            let bb0 = weigh_same b (length xs + length ys) in
            let z = size_none v.store.blocks b vb in
            let o = size_one s.store.blocks b (omega (arith, cb)) in
            let final : size (rejoin_block b l r v.store).blocks b ≡ size s.store.blocks b = omega (arith, db, bl0, br0, bb0, z, o, lx, ly, le) in
            subst (λ (n : Name). size (rejoin_block b l r v.store).blocks n ≡ size s.store.blocks n) e final)
            (λ nb p p'.
            let xb = weigh_other b x (length xs + length ys) nb in
            let kept = m.sizes x (inner_seen env b l r line x w) (sym (k.same x w nb) ∙ h) in
            let c = cut_size b l r at s.store x in
            let cb0 = weigh_other b x (length bs) nb in
            let cl0 = weigh_other l x (length (take at bs)) (differs env l x ends.left_new w) in
            let cr0 = weigh_other r x (length (drop at bs)) (differs env r x ends.right_new w) in
            omega (arith, d, xl, xr, xb, kept, c, cb0, cl0, cr0)) refl refl;
        short = λ p. let few = short_block s.store.blocks b p in short_rejoin b l r v.store (m.short (short_cut b l r at s.store p)) (omega (arith, lx, ly, le, few));
      },
    )

ran_cut : (env end : Environment) (b l r : Name) (line : ℕ) (body : State → State) (at q : ℕ) (s : State) → SplitEnds env end b l r line → at ≡ 16 * q → at ≤ length (block_of s.store.blocks b)
    → s.faulted ≡ false → count s.store.blocks b ≡ 1 → count s.store.blocks l ≡ 0 → count s.store.blocks r ≡ 0
    → ((t : State) → t.faulted ≡ false → t.label ≡ s.label → t.turns ≡ s.turns → ((x : Name) → count t.store.blocks x + hit b x ≡ count s.store.blocks x + (hit l x + hit r x)) → Ran (opened env b l r line) end t (body t))
    → Ran env (regained (take (length env) end) b) s (split_in_place line b l r body (Some at) s)
ran_cut env end b l r line body at q s ends whole le f cb cl cr k =
    let inner : Environment = opened env b l r line in
    let after : Environment = regained (take (length env) end) b in
    let g : State → State = on_store (rejoin_block b l r) in
    let u : State = on_store (cut_block b l r at) s in
    let v : State = body u in
    let ran : Ran inner end u v = k u f refl refl (λ x. cut_count b l r at s.store x cb) in
    let cut : Exact s u = exact_quiet s u refl (let c = cut_exact b l r at q s.store whole le in omega (arith, c)) in
    by v ran.way (exact_trans s u v cut ran.exact)
  where
    by : (v : State) → Way (opened env b l r line) end (on_store (cut_block b l r at) s) v → Exact s v
        → Ran env (regained (take (length env) end) b) s (unless_faulted (on_store (rejoin_block b l r)) v)
    by v (stopped p) e = subst (λ w. Ran env (regained (take (length env) end) b) s w) (sym (unless_stopped (on_store (rejoin_block b l r)) v p.faulted)) (record { exact = e; way = stopped p })
    by v (went m) e =
        let r2 = cut_moved env end b l r line body at q s ends whole le f cb cl cr v m in
        let w : State = on_store (rejoin_block b l r) v in
        let same = r2.0 in
        subst (λ w. Ran env (regained (take (length env) end) b) s w) (sym (unless_running (on_store (rejoin_block b l r)) v m.running))
        (went_ran env (regained (take (length env) end) b) s w (exact_trans s v w e (exact_quiet v w refl (omega (arith, same)))) r2.1)

pub ran_splitting : (env end : Environment) (b l r : Name) (line : ℕ) (body : State → State) (at : ℤ) (s : State) → SplitEnds env end b l r line
    → s.faulted ≡ false → count s.store.blocks b ≡ 1 → count s.store.blocks l ≡ 0 → count s.store.blocks r ≡ 0
    → ((t : State) → t.faulted ≡ false → t.label ≡ s.label → t.turns ≡ s.turns → ((x : Name) → count t.store.blocks x + hit b x ≡ count s.store.blocks x + (hit l x + hit r x)) → Ran (opened env b l r line) end t (body t))
    → Ran env (regained (take (length env) end) b) s (split_block line b l r body at s)
ran_splitting env end b l r line body (negsuc n) s ends f cb cl cr k = ran_fault env (regained (take (length env) end) b) _ line s
ran_splitting env end b l r line body (pos n) s ends f cb cl cr k = by (nat_le n (length (block_of s.store.blocks b))) refl (nat_eq (n % 16) 0) refl
  where
    by : (x : Bool) → nat_le n (length (block_of s.store.blocks b)) ≡ x → (y : Bool) → nat_eq (n % 16) 0 ≡ y
        → Ran env (regained (take (length env) end) b) s (split_in_place line b l r body (if x && y then Some n else None) s)
    by true le true whole =
        let rest = eqb-true (n % 16) 0 whole in
        ran_cut env end b l r line body n (n / 16) s ends (omega (arith, rest)) (leb-true n (length (block_of s.store.blocks b)) le) f cb cl cr k
    by true le false whole = ran_fault env (regained (take (length env) end) b) _ line s
    by false le y whole = ran_fault env (regained (take (length env) end) b) _ line s
