-- Two parts of runs side by side, from s to s' and from t to t': a fault ended both, or both go on with the same store.
use Rattle.std.specs.Prelude.{◌≡◌, ℕ, zero, suc, ◌+◌, ◌<◌, nat_lt, Bool, true, false, List, [], ◌∷◌, ◌++◌, ℤ, pos, neg_ℤ, ◌+ℤ◌, Ok, Err, refl}
use Rattle.std.specs.Int.{int_max}
use Rattle.std.proofs.Common.{sym, ◌∙◌, ap, arith, subst, append-nil, append_assoc}
use Rattle.std.proofs.lemmas.Bool.{ltb-true}
use Rattle.std.proofs.lemmas.Int.{ints, clamps}
use Rattle.dag_order.specs.declared.fault.FaultKind.{FaultKind}
use Rattle.dag_order.specs.declared.fault.FaultKind.TheVariants as faults
use Rattle.depth_first_list.specs.Actions as actions
use Rattle.depth_first_list.specs.Actions.{Deed, weight_of}
use Rattle.depth_first_run.specs.Stores.{Store, nothing, held_words, stored_words}
use Rattle.depth_first_run.specs.Values.{Outcome, is_true}
use Rattle.depth_first_run.specs.States.{State, Item, failed, with_item, with_action, with_fault, unless_faulted, with_number, with_turns, with_turn, under_limit, with_depth, next_action, holdings}
use Rattle.depth_first_run.specs.Run.{branch, branch_on}
use Rattle.depth_first_run.proofs.Keeping.{Keeps, unless_faulted_keeps}
use Rattle.ownership_laws.proofs.Moves.{live, live_more, unless_stopped, unless_running}
use Rattle.loop_laws.specs.Outcomes.{marks_of, added, is_limit, KeepsLimits, ComesBack}
use Rattle.loop_laws.proofs.Lists.{limits_front, limits_back, top, Alike, alike_append, live_both, added_is, added_more}

-- ---- the relation

-- a fault ended both: what each gave back beyond the other is what its callers held beyond the other's
pub record Stopped (s s' t t' : State) : Type 0 where
  pub left : s'.faulted ≡ true
  pub right : t'.faulted ≡ true
  pub left_store : s'.store ≡ nothing
  pub right_store : t'.store ≡ nothing
  pub left_callers : s'.callers ≡ []
  pub right_callers : t'.callers ≡ []
  pub rises : (pos (stored_words s.callers) +ℤ live (added s s')) ≡ (pos (stored_words t.callers) +ℤ live (added t t'))

-- both go on
pub record Went (s s' t t' : State) : Type 0 where
  pub left : s'.faulted ≡ false
  pub right : t'.faulted ≡ false
  pub store : s'.store ≡ t'.store
  pub left_back : ComesBack s s'
  pub right_back : ComesBack t t'
  pub rises : live (added s s') ≡ live (added t t')

pub data Way (s s' t t' : State) : Type 0 where
  stopped : Stopped s s' t t' → Way s s' t t'
  went : Went s s' t t' → Way s s' t t'

pub record Like (s s' t t' : State) : Type 0 where
  pub alike : Alike (added s s') (added t t')
  pub way : Way s s' t t'

-- where neither meets a limit
abbrev pub Same : State → State → State → State → Type 0
Same s s' t t' = KeepsLimits (added s s') → KeepsLimits (added t t') → Like s s' t t'

-- both begin with the same store
pub record Begins (s t : State) : Type 0 where
  pub store : s.store ≡ t.store
  pub left : s.faulted ≡ false
  pub right : t.faulted ≡ false

pub begins_on : (s s' t t' : State) → Went s s' t t' → Begins s' t'
begins_on s s' t t' m = record { store = m.store; left = m.left; right = m.right }

-- a beginning with other turns and another store, and the same calls and items
pub like_from : (s t : State) (a b : Store) (m n : ℕ) (s' t' : State)
    → Same (record s { store = a; turns = m }) s' (record t { store = b; turns = n }) t' → Same s s' t t'
like_from s t a b m n s' t' k = λ kl kr. let p = k kl kr in record { alike = record { told = p.alike.told; highest = p.alike.highest }; way = by p.way }
  where
    back : (s : State) (a : Store) (m : ℕ) (s' : State) → ComesBack (record s { store = a; turns = m }) s' → ComesBack s s'
    back s a m s' c = record { label = c.label; callers = c.callers; calls = c.calls }

    by : Way (record s { store = a; turns = m }) s' (record t { store = b; turns = n }) t' → Way s s' t t'
    by (stopped p) = stopped (record {
      left = p.left;
      right = p.right;
      left_store = p.left_store;
      right_store = p.right_store;
      left_callers = p.left_callers;
      right_callers = p.right_callers;
      rises = p.rises;
    })
    by (went p) = went (record {
      left = p.left;
      right = p.right;
      store = p.store;
      left_back = back s a m s' p.left_back;
      right_back = back t b n t' p.right_back;
      rises = p.rises;
    })

-- ---- one part behind the other

comes_back : (s t u : State) → ComesBack s t → ComesBack t u → ComesBack s u
comes_back s t u p q = record { label = q.label ∙ p.label; callers = q.callers ∙ p.callers; calls = q.calls ∙ p.calls }

-- what follows where both went on
pub then_stopped : (s s' s'' t t' t'' : State) → added s s'' ≡ added s s' ++ added s' s'' → added t t'' ≡ added t t' ++ added t' t''
    → Went s s' t t' → Stopped s' s'' t' t'' → Stopped s s'' t t''
then_stopped s s' s'' t t' t'' l r m p = record {
  left = p.left;
  right = p.right;
  left_store = p.left_store;
  right_store = p.right_store;
  left_callers = p.left_callers;
  right_callers = p.right_callers;
  rises = plain (stored_words s.callers) (stored_words s'.callers) (stored_words t.callers) (stored_words t'.callers)
      (live (added s s')) (live (added s' s'')) (live (added s s'')) (live (added t t')) (live (added t' t'')) (live (added t t''))
      (ap stored_words m.left_back.callers) (ap stored_words m.right_back.callers)
      (ap live l ∙ live_more (added s s') (added s' s'')) (ap live r ∙ live_more (added t t') (added t' t'')) m.rises p.rises;
}
  where
    plain : (s s' t t' : ℕ) (a b c x y z : ℤ) → s' ≡ s → t' ≡ t → c ≡ a +ℤ b → z ≡ x +ℤ y → a ≡ x → (pos s' +ℤ b) ≡ (pos t' +ℤ y)
        → (pos s +ℤ c) ≡ (pos t +ℤ z)
    plain s s' t t' a b c x y z p q e f g h = omega (arith, ints, p, q)

then_way : (s s' s'' t t' t'' : State) → added s s'' ≡ added s s' ++ added s' s'' → added t t'' ≡ added t t' ++ added t' t''
    → Went s s' t t' → Way s' s'' t' t'' → Way s s'' t t''
then_way s s' s'' t t' t'' l r m (stopped p) = stopped (then_stopped s s' s'' t t' t'' l r m p)
then_way s s' s'' t t' t'' l r m (went p) = went (record {
  left = p.left;
  right = p.right;
  store = p.store;
  left_back = comes_back s s' s'' m.left_back p.left_back;
  right_back = comes_back t t' t'' m.right_back p.right_back;
  rises = ap live l ∙ live_both (added s s') (added s' s'') (added t t') (added t' t'') m.rises p.rises ∙ sym (ap live r);
})

pub then_alike : (s s' s'' t t' t'' : State) → added s s'' ≡ added s s' ++ added s' s'' → added t t'' ≡ added t t' ++ added t' t''
    → Alike (added s s') (added t t') → live (added s s') ≡ live (added t t') → Alike (added s' s'') (added t' t'') → Alike (added s s'') (added t t'')
then_alike s s' s'' t t' t'' l r a e k =
    let both : Alike (added s s' ++ added s' s'') (added t t' ++ added t' t'') =
    alike_append (added s s') (added s' s'') (added t t') (added t' t'') a e k in
    record { told = ap marks_of l ∙ both.told ∙ sym (ap marks_of r); highest = ap top l ∙ both.highest ∙ sym (ap top r) }

then_like : (s s' s'' t t' t'' : State) → added s s'' ≡ added s s' ++ added s' s'' → added t t'' ≡ added t t' ++ added t' t''
    → Alike (added s s') (added t t') → Went s s' t t' → Like s' s'' t' t'' → Like s s'' t t''
then_like s s' s'' t t' t'' l r a m k = record {
  alike = then_alike s s' s'' t t' t'' l r a m.rises k.alike;
  way = then_way s s' s'' t t' t'' l r m k.way;
}

-- What follows does nothing in a thread that a fault ended.
pub same_then : (f g : State → State) (s s' t t' : State) → (s'.faulted ≡ true → f s' ≡ s') → (t'.faulted ≡ true → g t' ≡ t')
    → Keeps s s' → Keeps s' (f s') → Keeps t t' → Keeps t' (g t')
    → Same s s' t t' → (Begins s' t' → Same s' (f s') t' (g t')) → Same s (f s') t (g t')
same_then f g s s' t t' fs gs k1 k2 k3 k4 p q = λ kl kr.
    let l = added_more s s' (f s') k1 k2 in
    let r = added_more t t' (g t') k3 k4 in
    let kl' : KeepsLimits (added s s' ++ added s' (f s')) = subst KeepsLimits l kl in
    let kr' : KeepsLimits (added t t' ++ added t' (g t')) = subst KeepsLimits r kr in
    let first : Like s s' t t' =
    p (limits_front (added s s') (added s' (f s')) kl') (limits_front (added t t') (added t' (g t')) kr') in
    by first.way first l r (limits_back (added s s') (added s' (f s')) kl') (limits_back (added t t') (added t' (g t')) kr')
  where
    by : Way s s' t t' → Like s s' t t' → added s (f s') ≡ added s s' ++ added s' (f s') → added t (g t') ≡ added t t' ++ added t' (g t')
        → KeepsLimits (added s' (f s')) → KeepsLimits (added t' (g t')) → Like s (f s') t (g t')
    by (stopped m) first l r kl kr =
        subst (λ u. Like s u t (g t')) (sym (fs m.left)) (subst (λ u. Like s s' t u) (sym (gs m.right)) first)
    by (went m) first l r kl kr =
        then_like s s' (f s') t t' (g t') l r first.alike m (q (begins_on s s' t t' m) kl kr)

pub same_at : (s s' u t t' v : State) → u ≡ s' → v ≡ t' → Same s s' t t' → Same s u t v
same_at s s' u t t' v e f p = subst (λ w. Same s w t v) (sym e) (subst (λ w. Same s s' t w) (sym f) p)

pub same_unless : (f g : State → State) (s s' t t' : State) → Keeps s s' → Keeps s' (f s') → Keeps t t' → Keeps t' (g t')
    → Same s s' t t' → (Begins s' t' → Same s' (f s') t' (g t')) → Same s (unless_faulted f s') t (unless_faulted g t')
same_unless f g s s' t t' k1 k2 k3 k4 p q =
    same_then (unless_faulted f) (unless_faulted g) s s' t t' (unless_stopped f s') (unless_stopped g t')
    k1 (unless_faulted_keeps f s' k2) k3 (unless_faulted_keeps g t' k4) p
    (λ b. same_at s' (f s') (unless_faulted f s') t' (g t') (unless_faulted g t') (unless_running f s' b.left) (unless_running g t' b.right) (q b))

-- ---- single changes

-- the items are told the same, and both go on
pub went_by : (s s' t t' : State) (xs ys : List Item) → s'.items ≡ s.items ++ xs → t'.items ≡ t.items ++ ys → Alike xs ys → live xs ≡ live ys
    → s'.faulted ≡ false → t'.faulted ≡ false → s'.store ≡ t'.store → ComesBack s s' → ComesBack t t' → Same s s' t t'
went_by s s' t t' xs ys i j a e l r st c d = λ kl kr.
    let is = added_is s s' xs i in let js = added_is t t' ys j in
    record {
      alike = record { told = ap marks_of is ∙ a.told ∙ sym (ap marks_of js); highest = ap top is ∙ a.highest ∙ sym (ap top js) };
      way = went (record { left = l; right = r; store = st; left_back = c; right_back = d; rises = ap live is ∙ e ∙ sym (ap live js) });
    }

-- a change of the store alone
pub same_storing : (s t : State) (a b : Store) → Begins s t → a ≡ b → Same s (record s { store = a }) t (record t { store = b })
same_storing s t a b p e =
    went_by s (record s { store = a }) t (record t { store = b }) [] [] (sym (append-nil s.items)) (sym (append-nil t.items))
    (record { told = refl; highest = refl }) refl p.left p.right e
    (record { label = refl; callers = refl; calls = refl }) (record { label = refl; callers = refl; calls = refl })

pub same_unchanged : (s t : State) → Begins s t → Same s s t t
same_unchanged s t p = same_storing s t s.store t.store p p.store

-- one item more that both have
pub same_noting : (item : Item) (s t : State) → Begins s t → Same s (with_item item s) t (with_item item t)
same_noting item s t p =
    went_by s (with_item item s) t (with_item item t) (item ∷ []) (item ∷ []) refl refl (record { told = refl; highest = refl }) refl p.left p.right p.store
    (record { label = refl; callers = refl; calls = refl }) (record { label = refl; callers = refl; calls = refl })

-- an action, and then a change of the store
pub same_acting : (deed : Deed) (m n : ℕ) (s t : State) (a b : Store) → Begins s t → m ≡ n → a ≡ b
    → Same s (record (with_action deed m s) { store = a }) t (record (with_action deed n t) { store = b })
unfolding with_action
same_acting deed m n s t a b p w e =
    went_by s (record (with_action deed m s) { store = a }) t (record (with_action deed n t) { store = b })
    (next_action deed m s ∷ []) (next_action deed n t ∷ []) refl refl
    (record { told = refl; highest = ap (λ k. int_max (pos 0) (weight_of deed k +ℤ pos 0)) w })
    (ap (λ k. weight_of deed k +ℤ pos 0) w) p.left p.right e
    (record { label = refl; callers = refl; calls = refl }) (record { label = refl; callers = refl; calls = refl })

-- a fault of both
pub fault_items : FaultKind → ℕ → State → List Item
fault_items kind line s = next_action actions.faults (holdings s) s ∷ failed (record { kind = kind; line = line }) ∷ []

pub fault_adds : (kind : FaultKind) (line : ℕ) (s : State) → added s (with_fault kind line s) ≡ fault_items kind line s
unfolding with_fault with_action fault_items
fault_adds kind line s =
    added_is s (with_fault kind line s) (next_action actions.faults (holdings s) s ∷ failed (record { kind = kind; line = line }) ∷ [])
    (append_assoc s.items (next_action actions.faults (holdings s) s ∷ []) (failed (record { kind = kind; line = line }) ∷ []))

fault_rise : (s t : State) (a b : ℤ) → s.store ≡ t.store → a ≡ neg_ℤ (pos (holdings s)) +ℤ pos 0 → b ≡ neg_ℤ (pos (holdings t)) +ℤ pos 0
    → (pos (stored_words s.callers) +ℤ a) ≡ (pos (stored_words t.callers) +ℤ b)
fault_rise s t a b e p q = plain (held_words s.store.blocks) (stored_words s.callers) (held_words t.store.blocks) (stored_words t.callers) a b (ap (λ (st : Store). held_words st.blocks) e) p q
  where
    plain : (h m k n : ℕ) (a b : ℤ) → h ≡ k → a ≡ neg_ℤ (pos (h + m)) +ℤ pos 0 → b ≡ neg_ℤ (pos (k + n)) +ℤ pos 0 → (pos m +ℤ a) ≡ (pos n +ℤ b)
    plain h m k n a b e p q = omega (arith, ints, e)

pub fault_alike : (kind : FaultKind) (line : ℕ) (s t : State) → Alike (added s (with_fault kind line s)) (added t (with_fault kind line t))
unfolding fault_items
fault_alike kind line s t =
    let l = fault_adds kind line s in let r = fault_adds kind line t in
    record {
      told = ap marks_of l ∙ sym (ap marks_of r);
      highest = ap top l ∙ none (holdings s) ∙ sym (none (holdings t)) ∙ sym (ap top r);
    }
  where
    none : (n : ℕ) → int_max (pos 0) (neg_ℤ (pos n) +ℤ pos 0) ≡ pos 0
    none n = omega (arith, ints, clamps)

pub fault_stops : (kind : FaultKind) (line : ℕ) (s t : State) → s.store ≡ t.store → Stopped s (with_fault kind line s) t (with_fault kind line t)
unfolding with_fault with_action fault_items
fault_stops kind line s t e =
    let l = fault_adds kind line s in let r = fault_adds kind line t in
    record {
      left = refl;
      right = refl;
      left_store = refl;
      right_store = refl;
      left_callers = refl;
      right_callers = refl;
      rises = fault_rise s t (live (added s (with_fault kind line s))) (live (added t (with_fault kind line t))) e (ap live l) (ap live r);
    }

pub same_fault : (kind : FaultKind) (line : ℕ) (s t : State) → s.store ≡ t.store → Same s (with_fault kind line s) t (with_fault kind line t)
same_fault kind line s t e = λ kl kr. record { alike = fault_alike kind line s t; way = stopped (fault_stops kind line s t e) }

-- no thread that keeps the limits faults by one
pub no_limit : (kind : FaultKind) (line : ℕ) (s : State) → is_limit kind ≡ true → KeepsLimits (added s (with_fault kind line s)) → ⊥
unfolding fault_items
no_limit kind line s is k = let both = subst KeepsLimits (fault_adds kind line s) k in let no = both.0 in cc

-- ---- the combinators

settled : (line : ℕ) (o : Outcome) (f g : ℤ → State → State) (s t : State) → Begins s t
    → ((v : ℤ) → Same s (f v s) t (g v t)) → Same s (with_number line o f s) t (with_number line o g t)
unfolding with_number
settled line (Ok v) f g s t b k = k v
settled line (Err kind) f g s t b k = same_fault kind line s t b.store

pub same_number : (line : ℕ) (o o' : Outcome) (f g : ℤ → State → State) (s t : State) → Begins s t → o ≡ o'
    → ((v : ℤ) → Same s (f v s) t (g v t)) → Same s (with_number line o f s) t (with_number line o' g t)
same_number line o o' f g s t b e k = subst (λ p. Same s (with_number line o f s) t (with_number line p g t)) e (settled line o f g s t b k)

-- what is shown of both only where neither meets a limit
abbrev pub Unlimited : (State → State → Type 0) → State → State → State → State → Type 0
Unlimited P s s' t t' = KeepsLimits (added s s') → KeepsLimits (added t t') → P s' t'

turning : (P : State → State → Type 0) (m n line line' : ℕ) (f g : State → State) (s t : State) → m ≡ s.turns → n ≡ t.turns
    → ((left right : ℕ) → s.turns ≡ suc left → Unlimited P s (f (record s { turns = left })) t (g (record t { turns = right })))
    → Unlimited P s (with_turns m line f s) t (with_turns n line' g t)
turning P zero n line line' f g s t p q k = λ kl kr. absurd (no_limit faults.Turns line s refl kl)
turning P (suc m) zero line line' f g s t p q k = λ kl kr. absurd (no_limit faults.Turns line' t refl kr)
turning P (suc m) (suc n) line line' f g s t p q k = k m n (sym p)

pub unlimited_turn : (P : State → State → Type 0) (line line' : ℕ) (f g : State → State) (s t : State)
    → ((left right : ℕ) → s.turns ≡ suc left → Unlimited P s (f (record s { turns = left })) t (g (record t { turns = right })))
    → Unlimited P s (with_turn line f s) t (with_turn line' g t)
unfolding with_turn
unlimited_turn P line line' f g s t k = turning P s.turns t.turns line line' f g s t refl refl k

limiting : (P : State → State → Type 0) (a b : Bool) (line line' : ℕ) (f g : State → State) (s t : State) → (a ≡ true → Unlimited P s (f s) t (g t))
    → Unlimited P s (under_limit a line f s) t (under_limit b line' g t)
limiting P false b line line' f g s t k = λ kl kr. absurd (no_limit faults.Depth line s refl kl)
limiting P true false line line' f g s t k = λ kl kr. absurd (no_limit faults.Depth line' t refl kr)
limiting P true true line line' f g s t k = k refl

pub unlimited_depth : (P : State → State → Type 0) (m n most line line' : ℕ) (f g : State → State) (s t : State) → (m < most → Unlimited P s (f s) t (g t))
    → Unlimited P s (with_depth m most line f s) t (with_depth n most line' g t)
unfolding with_depth
unlimited_depth P m n most line line' f g s t k = limiting P (nat_lt m most) (nat_lt n most) line line' f g s t (λ is. k (ltb-true m most is))

branching : (b : Bool) (f g f' g' : State → State) (s t : State) → Same s (f s) t (f' t) → Same s (g s) t (g' t) → Same s (branch f g b s) t (branch f' g' b t)
branching true f g f' g' s t p q = p
branching false f g f' g' s t p q = q

pub same_branch : (v : ℤ) (f g f' g' : State → State) (s t : State) → Same s (f s) t (f' t) → Same s (g s) t (g' t)
    → Same s (branch_on f g v s) t (branch_on f' g' v t)
same_branch v f g f' g' s t p q = branching (is_true v) f g f' g' s t p q
