-- The calls on parts, one after another: the state that they reach, and what the parts have become.
use Rattle.std.specs.Prelude.{◌≡◌, ℕ, Bool, true, false, List, [], ◌∷◌, ◌++◌, map, ℤ, refl}
use Rattle.std.proofs.Common.{sym, ◌∙◌, ap, append-nil}
use Rattle.par_tree.specs.Tree.{Name, call_stmt, integer, lend}
use Rattle.depth_first_run.specs.Stores.{Store, block_of}
use Rattle.depth_first_run.specs.States.{Setting, State, unless_faulted}
use Rattle.depth_first_run.specs.Run.{on_store}
use Rattle.loop_laws.specs.PlainLoop.{constant}
use Rattle.loop_laws.proofs.Faulting.{Tells, quiet_tells, tells_same, tells_trans, statement_told}
use Rattle.loop_laws.proofs.Bodies.{skipped_none, skipped_all}
use Rattle.loop_laws.proofs.PlainLoops.{taken_up, taken_up_items}
use Rattle.loop_laws.specs.PartsLoop.{hold_again, call_on, add_call_on, behind_part, add_calls_on, sum_calls_on}

-- a state, and what the parts so far have become
pub record Reached : Type 0 where
  pub state : State
  pub become : List ℤ

abbrev pub reached : List ℤ → State → Reached
reached before s = record { state = s; become = before }

-- what comes behind a part, unless a fault ended it
abbrev pub onward_if : Bool → Name → (List ℤ → State → Reached) → List ℤ → State → Reached
onward_if true b others before s = reached before s
onward_if false b others before s = others (before ++ block_of s.store.blocks b) s

unfoldable pub onward : Name → (List ℤ → State → Reached) → List ℤ → State → Reached
onward b others before s = onward_if s.faulted b others before s

-- what comes behind parts, unless a fault ended them
abbrev pub next_if : Bool → (List ℤ → State → Reached) → Reached → Reached
next_if true others r = r
next_if false others r = others r.become r.state

unfoldable pub next : (List ℤ → State → Reached) → Reached → Reached
next others r = next_if r.state.faulted others r

-- the end of the loop
abbrev pub finish : Name → Reached → State
finish b r = unless_faulted (on_store (hold_again b r.become)) r.state

pub onward_faulted : (b : Name) (others : List ℤ → State → Reached) (before : List ℤ) (s : State) → s.faulted ≡ true → onward b others before s ≡ reached before s
unfolding onward
onward_faulted b others before s e = ap (λ t. onward_if t b others before s) e

pub onward_goes : (b : Name) (others : List ℤ → State → Reached) (before : List ℤ) (s : State) → s.faulted ≡ false
    → onward b others before s ≡ others (before ++ block_of s.store.blocks b) s
unfolding onward
onward_goes b others before s e = ap (λ t. onward_if t b others before s) e

pub next_faulted : (others : List ℤ → State → Reached) (r : Reached) → r.state.faulted ≡ true → next others r ≡ r
unfolding next
next_faulted others r e = ap (λ t. next_if t others r) e

pub next_goes : (others : List ℤ → State → Reached) (r : Reached) → r.state.faulted ≡ false → next others r ≡ others r.become r.state
unfolding next
next_goes others r e = ap (λ t. next_if t others r) e

pub on_store_told : (g : Store → Store) (s : State) → Tells s (on_store g s)
on_store_told g s = quiet_tells s (on_store g s) [] refl refl (sym (append-nil s.items))

-- what comes behind parts tells of them, and then of itself
next_if_told : (others : List ℤ → State → Reached) (r : Reached) → Tells r.state (others r.become r.state).state → (t : Bool) → Tells r.state (next_if t others r).state
next_if_told others r told true = tells_same r.state
next_if_told others r told false = told

pub next_told : (others : List ℤ → State → Reached) (r : Reached) → Tells r.state (others r.become r.state).state → Tells r.state (next others r).state
unfolding next
next_told others r told = next_if_told others r told r.state.faulted

onward_if_state : (b : Name) (before : List ℤ) (s : State) (t : Bool) → (onward_if t b reached before s).state ≡ s
onward_if_state b before s true = refl
onward_if_state b before s false = refl

-- behind the last part
pub onward_state : (b : Name) (before : List ℤ) (s : State) → (onward b reached before s).state ≡ s
unfolding onward
onward_state b before s = onward_if_state b before s s.faulted

module _ (c : Setting) (line : ℕ) (f x b : Name) (vs : List ℤ) where
  -- the call on a part, where the sum begins or goes on
  abbrev pub part_done : Bool → List ℤ → State → State
  part_done first part s = taken_up x first s.store (call_on c line f x b vs part s)

  unfoldable pub through : Bool → List (List ℤ) → List ℤ → State → Reached
  through first [] before s = reached before s
  through first (part ∷ parts) before s = onward b (through false parts) before (part_done first part s)

  -- the loop ends with what the calls reach
  pub added_through : (parts : List (List ℤ)) (before : List ℤ) (s : State) → s.faulted ≡ false
      → add_calls_on c line f x b vs parts before s ≡ finish b (through false parts before s)
  unfolding add_calls_on through taken_up
  added_through [] before s e = sym (skipped_none (on_store (hold_again b before)) s e)
  added_through (part ∷ parts) before s e =
      by (add_call_on c line f x b vs part s) (State.faulted (add_call_on c line f x b vs part s)) refl (added_through parts)
    where
      by : (u : State) (t : Bool) → u.faulted ≡ t
          → ((m : List ℤ) (w : State) → w.faulted ≡ false → add_calls_on c line f x b vs parts m w ≡ finish b (through false parts m w))
          → unless_faulted (behind_part b before (add_calls_on c line f x b vs parts)) u ≡ finish b (onward b (through false parts) before u)
      by u true is rec =
          skipped_all (behind_part b before (add_calls_on c line f x b vs parts)) u is
          ∙ sym (skipped_all (on_store (hold_again b before)) u is)
          ∙ ap (λ (r : Reached). finish b r) (sym (onward_faulted b (through false parts) before u is))
      by u false is rec =
          skipped_none (behind_part b before (add_calls_on c line f x b vs parts)) u is
          ∙ rec (before ++ block_of u.store.blocks b) u is
          ∙ ap (λ (r : Reached). finish b r) (sym (onward_goes b (through false parts) before u is))

  pub sum_through : (part : List ℤ) (parts : List (List ℤ)) (s : State)
      → sum_calls_on c line f x b vs (part ∷ parts) s ≡ finish b (through true (part ∷ parts) [] s)
  unfolding through taken_up
  sum_through part parts s = by (call_on c line f x b vs part s) (State.faulted (call_on c line f x b vs part s)) refl
    where
      by : (u : State) (t : Bool) → u.faulted ≡ t
          → unless_faulted (behind_part b [] (add_calls_on c line f x b vs parts)) u ≡ finish b (onward b (through false parts) [] u)
      by u true is =
          skipped_all (behind_part b [] (add_calls_on c line f x b vs parts)) u is
          ∙ sym (skipped_all (on_store (hold_again b [])) u is)
          ∙ ap (λ (r : Reached). finish b r) (sym (onward_faulted b (through false parts) [] u is))
      by u false is =
          skipped_none (behind_part b [] (add_calls_on c line f x b vs parts)) u is
          ∙ added_through parts (block_of u.store.blocks b) u is
          ∙ ap (λ (r : Reached). finish b r) (sym (onward_goes b (through false parts) [] u is))

  -- one part, and parts in two
  pub through_one : (first : Bool) (part before : List ℤ) (s : State)
      → through first (part ∷ []) before s ≡ onward b reached before (part_done first part s)
  unfolding through
  through_one first part before s = refl

  pub through_more : (parts others : List (List ℤ)) (before : List ℤ) (s : State) → s.faulted ≡ false
      → through false (parts ++ others) before s ≡ next (through false others) (through false parts before s)
  unfolding through
  through_more [] others before s e = sym (next_goes (through false others) (reached before s) e)
  through_more (part ∷ parts) others before s e =
      by (part_done false part s) (State.faulted (part_done false part s)) refl (through_more parts others)
    where
      by : (u : State) (t : Bool) → u.faulted ≡ t
          → ((m : List ℤ) (w : State) → w.faulted ≡ false → through false (parts ++ others) m w ≡ next (through false others) (through false parts m w))
          → onward b (through false (parts ++ others)) before u ≡ next (through false others) (onward b (through false parts) before u)
      by u true is rec =
          onward_faulted b (through false (parts ++ others)) before u is
          ∙ sym (next_faulted (through false others) (reached before u) is)
          ∙ ap (λ (r : Reached). next (through false others) r) (sym (onward_faulted b (through false parts) before u is))
      by u false is rec =
          onward_goes b (through false (parts ++ others)) before u is
          ∙ rec (before ++ block_of u.store.blocks b) u is
          ∙ ap (λ (r : Reached). next (through false others) r) (sym (onward_goes b (through false parts) before u is))

  pub through_both : (first : Bool) (part : List ℤ) (parts others : List (List ℤ)) (before : List ℤ) (s : State)
      → through first ((part ∷ parts) ++ others) before s ≡ next (through false others) (through first (part ∷ parts) before s)
  unfolding through
  through_both first part parts others before s = by (part_done first part s) (State.faulted (part_done first part s)) refl
    where
      by : (u : State) (t : Bool) → u.faulted ≡ t
          → onward b (through false (parts ++ others)) before u ≡ next (through false others) (onward b (through false parts) before u)
      by u true is =
          onward_faulted b (through false (parts ++ others)) before u is
          ∙ sym (next_faulted (through false others) (reached before u) is)
          ∙ ap (λ (r : Reached). next (through false others) r) (sym (onward_faulted b (through false parts) before u is))
      by u false is =
          onward_goes b (through false (parts ++ others)) before u is
          ∙ through_more parts others (before ++ block_of u.store.blocks b) u is
          ∙ ap (λ (r : Reached). next (through false others) r) (sym (onward_goes b (through false parts) before u is))

  -- ---- what they tell

  pub call_on_told : (part : List ℤ) (s : State) → Tells s (call_on c line f x b vs part s)
  call_on_told part s =
      tells_trans s (on_store (hold_again b part) s) (call_on c line f x b vs part s) (on_store_told (hold_again b part) s)
      (statement_told c line (call_stmt (integer x) f (lend b ∷ map constant vs)) (on_store (hold_again b part) s))

  pub part_told : (first : Bool) (part : List ℤ) (s : State) → Tells s (part_done first part s)
  part_told first part s =
      let u : State = call_on c line f x b vs part s in
      let same = taken_up_items x first s.store u in
      tells_trans s u (part_done first part s) (call_on_told part s)
      (quiet_tells u (part_done first part s) [] refl same.1 (same.0 ∙ sym (append-nil u.items)))

  onward_told : (others : List ℤ → State → Reached) (before : List ℤ) (s u : State) → Tells s u → ((m : List ℤ) (w : State) → Tells w (others m w).state)
      → (t : Bool) → Tells s (onward_if t b others before u).state
  onward_told others before s u told rec true = told
  onward_told others before s u told rec false =
      let m : List ℤ = before ++ block_of u.store.blocks b in
      tells_trans s u (others m u).state told (rec m u)

  pub through_told : (first : Bool) (parts : List (List ℤ)) (before : List ℤ) (s : State) → Tells s (through first parts before s).state
  unfolding through onward
  through_told first [] before s = tells_same s
  through_told first (part ∷ parts) before s =
      let u : State = part_done first part s in
      onward_told (through false parts) before s u (part_told first part s) (λ m w. through_told false parts m w) u.faulted
