-- A step of a thread over slots is a step of the depth-first run.
use Rattle.std.proofs.Common.{inl, inr, ◌≡◌, ℕ, zero, suc, ◌+◌, ◌<◌, ◌≤◌, Bool, true, false, List, [], ◌∷◌, length, set, ℤ, pos, negsuc, Option, Some}
use Rattle.std.proofs.Common.{None, Ok, Err, refl, sym, ap, ◌∙◌, subst, arith, rules, append-nil}
use Rattle.std.specs.Prelude.{◌⊎◌, nat_le, slice_set}
use Rattle.std.proofs.lemmas.Bool.{cases_eq}
use Rattle.flat_expressions.specs.Passed.Tree
use Rattle.flat_expressions.specs.Passed.Tree.{Name, Func, Stmt, let_stmt, assign_stmt, put_stmt, alloc_stmt, free_stmt, if_stmt, while_stmt}
use Rattle.flat_expressions.specs.Passed.Tree.{call_stmt, print_stmt, par_stmt, split_stmt, done, step}
use Rattle.thread_stack.specs.Passed.Stores.{Store, with_integer, write_block}
use Rattle.thread_stack.specs.Passed.Values.{Outcome, value, is_true, place_in}
use Rattle.thread_stack.specs.Passed.States.{Setting, State, began, with_item, with_number, with_fault}
use Rattle.thread_stack.specs.Passed.Run.{set_integer, put_in_place, put_number, put_value}
use Rattle.thread_stack.specs.Passed.Middle as middles
use Rattle.thread_stack.specs.Passed.Middle.{does, statements, Middle, middle, before_all, step_with_number, step_branch, step_if, step_turn, step_round}
use Rattle.thread_stack.specs.Passed.Middle.{step_while, step_statement, step_first, step_frame}
use Rattle.thread_stack.specs.Passed.Names.{name_at, slot_names, IsSlot}
use Rattle.thread_stack.specs.Passed.Reading.{IsExpr}
use Rattle.thread_stack.specs.Passed.Table as tables
use Rattle.thread_stack.specs.Passed.Table.{Kind, let_node, assign_node, put_node, alloc_node, free_node, if_node, while_node, call_node, print_node}
use Rattle.thread_stack.specs.Passed.Table.{both_node, split_node, Table}
use Rattle.thread_stack.specs.Passed.Programs.{IsStmt, function_names}
use Rattle.flat_expressions.specs.Passed.Rows.{Entry, entry_at, blocks_at, items_at, with_integer_at, with_blocks_at}
use Rattle.flat_expressions.specs.Passed.Agreement.{ShowsStore}
use Rattle.flat_expressions.proofs.Passed.Rows.{same_entry, other_entry, one_block}
use Rattle.flat_expressions.proofs.Passed.Agreement.{row_length, items_are, shows_integer, shows_write}
use Rattle.thread_stack.specs.declared.frame.Frame.{Frame}
use Rattle.thread_stack.specs.declared.frame.Frame.TheVariants.{Statements, Again, Tree as DummyTree, Answers, Rejoins, AnswersMain, Allocates, Joins}
use Rattle.thread_stack.specs.declared.list_of.ListOf.{ListOf}
use Rattle.thread_stack.specs.declared.list_of.ListOf.TheVariants.{Then, Other, Round}
use Rattle.thread_stack.specs.Lists.{kind_at, kind_of_node, numbers_from}
use Rattle.thread_stack.specs.Frames.{IsNode, AreStatements, AreFrames}
use Rattle.thread_stack.proofs.Lists.{FirstOf, no_statements, first_statement}
use Rattle.flat_expressions.specs.Acts.{left_in, written_in}
use Rattle.flat_expressions.specs.Values.{value_in, set_by, put_with, put_by}
use Rattle.flat_expressions.proofs.Shown.{value_shown}
use Rattle.flat_statements.specs.Flat.{Came, goes_to, meets, stops}
use Rattle.flat_statements.specs.Threads.{Standing, standing, rest_of, row_step, arm_step, if_step, turn_step, round_step, while_step, kind_step}
use Rattle.flat_statements.specs.Threads.{list_step, thread_step}
use Rattle.flat_statements.specs.Runs.{IsInState, IsStepOf}
use Rattle.flat_statements.proofs.Reaching.{next_numbers, then_numbers, other_numbers, round_numbers}

-- ---- rows

kept_blocks : (row : List Entry) (s : ℕ) (v : ℤ) (b : ℕ) → s < length row → blocks_at (with_integer_at row s v) b ≡ blocks_at row b
kept_blocks row s v b within = by (cases_eq b s)
  where
    new : Entry
    new = record (entry_at row s) { integer = v }

    by : (b ≡ s) ⊎ (b ≡ s → ⊥) → blocks_at (set row s new) b ≡ blocks_at row b
    by (inl e) = subst (λ (j : ℕ). blocks_at (set row s new) j ≡ blocks_at row j) (sym e) (ap Entry.blocks (same_entry row s new within))
    by (inr differ) = ap Entry.blocks (other_entry row s b new differ)

single_blocks : (row : List Entry) (s : ℕ) (items : List ℤ) → s < length row → ((b : ℕ) → length (blocks_at row b) ≤ 1) → (b : ℕ)
    → length (blocks_at (with_blocks_at row s (items ∷ [])) b) ≤ 1
single_blocks row s items within single b = by (cases_eq b s)
  where
    new : Entry
    new = record (entry_at row s) { blocks = items ∷ [] }

    one : length (blocks_at (set row s new) s) ≡ 1
    one = ap (λ (x : Entry). length x.blocks) (same_entry row s new within)

    by : (b ≡ s) ⊎ (b ≡ s → ⊥) → length (blocks_at (set row s new) b) ≤ 1
    by (inl e) = subst (λ (j : ℕ). length (blocks_at (set row s new) j) ≤ 1) (sym e) (omega (arith, one))
    by (inr differ) =
        subst (λ (n : ℕ). n ≤ 1) (sym (ap (λ (x : Entry). length x.blocks) (other_entry row s b new differ))) (single b)

place_within : (items : List ℤ) (i : ℤ) (j : ℕ) → place_in items i ≡ Some j → j < length items
place_within items (negsuc m) j e = let never : ⊥ = cc in absurd never
place_within items (pos m) j e = cases (nat_le (length items) m) refl
  where
    cases : (b : Bool) → nat_le (length items) m ≡ b → j < length items
    cases true is =
        let one : None ≡ Some j = rw is at e in
        let never : ⊥ = cc in absurd never
    cases false is =
        let one : Some m ≡ Some j = rw is at e in
        let same : m ≡ j = cc in
        let less : m < length items = search rules in
        subst (λ (n : ℕ). n < length items) same less

module _ (c : Setting) (t : Table) (g : Func) (gs : List Func) where
  -- a statement of this line leads from s to m
  abbrev Comes : ℕ → State → Middle → Came Standing → Type 0
  Comes line s m (goes_to after) =
      AreFrames c.program t (g ∷ gs) after.frames m.frames × IsInState (slot_names g) after.row after.turns m.state
      × (m.state ≡ record s { store = m.state.store; turns = m.state.turns })
  Comes line s m (meets kind) = m.state ≡ with_fault kind line s
  Comes line s m stops = Unit {0}

  number_is : (row : List Entry) (store : Store) (e : tables.Expr) (x : Tree.Expr) → ShowsStore (slot_names g) row store → IsExpr (slot_names g) e x
      → value_in row e ≡ value store x
  number_is row store e x shows h = value_shown (slot_names g) row store shows e h.1 ∙ ap (value store) h.0

  -- what is left of a list is the frame of what is left
  rest_frames : (list : ListOf) (next : ℕ) (ns : List ℕ) (b : Tree.Body) (xs : List Frame) (fs : List middles.Frame) → numbers_from t list next ≡ ns
      → AreStatements c.program t (slot_names g) ns b → AreFrames c.program t (g ∷ gs) xs fs
      → AreFrames c.program t (g ∷ gs) (rest_of ns list next xs) (before_all b fs)
  rest_frames list next [] b xs fs e h frames =
      subst (λ (a : Tree.Body). AreFrames c.program t (g ∷ gs) xs (before_all a fs)) (sym (no_statements c.program t (slot_names g) b h)) frames
  rest_frames list next (n ∷ ns) done xs fs e h frames = absurd h.1
  rest_frames list next (n ∷ ns) (step line stmt rest) xs fs e h frames =
      ((step line stmt rest, refl, subst (λ (ms : List ℕ). AreStatements c.program t (slot_names g) ms (step line stmt rest)) (sym e) h), frames)

  module _ (xs : List Frame) (fs : List middles.Frame) (row : List Entry) (left : ℕ) (s : State) (line n : ℕ)
      (frames : AreFrames c.program t (g ∷ gs) xs fs) (here : IsInState (slot_names g) row left s) where
    within : (b : ℕ) → b < length (slot_names g) → b < length row
    within b low = let long = row_length (slot_names g) row s.store here.shows in omega (arith, low, long)

    -- ---- assignments

    set_comes : (b : ℕ) (x : Name) → IsSlot (slot_names g) b x → (o : Outcome)
        → Comes line s (middle fs (with_number line o (set_integer x) s)) (row_step xs left (left_in b row o))
    unfolding with_number
    set_comes b x slot (Err kind) = refl
    set_comes b x slot (Ok v) = (
      frames,
      record {
        shows = subst (λ (y : Name). ShowsStore (slot_names g) (with_integer_at row b v) (with_integer y v s.store)) slot.reads
            (shows_integer (slot_names g) row s.store here.shows b slot.below v);
        turns = here.turns;
        going = here.going;
        single = λ j. subst (λ (bs : List (List ℤ)). length bs ≤ 1) (sym (kept_blocks row b v j (within b slot.below))) (here.single j);
      },
      refl,
    )

    assigned : (b : ℕ) (x : Name) (e : tables.Expr) (y : Tree.Expr) → IsSlot (slot_names g) b x → IsExpr (slot_names g) e y
        → Comes line s (middle fs (with_number line (value s.store y) (set_integer x) s)) (row_step xs left (set_by b e row))
    assigned b x e y slot h =
        subst (λ (o : Outcome). Comes line s (middle fs (with_number line o (set_integer x) s)) (row_step xs left (set_by b e row)))
        (number_is row s.store e y here.shows h) (set_comes b x slot (value_in row e))

    -- ---- writes

    write_comes : (b : ℕ) → b < length (slot_names g) → (v : ℤ) (i : ℤ) (place : Option ℕ) → place_in (items_at row b) i ≡ place
        → Comes line s (middle fs (put_in_place line (name_at (slot_names g) b) v place s)) (row_step xs left (written_in b row v place))
    write_comes b low v i None e = refl
    write_comes b low v i (Some j) e = (
      frames,
      record {
        shows = subst (λ (zs : List ℤ). ShowsStore names (with_blocks_at row b (new ∷ [])) (write_block (name_at names b) (slice_set zs j v) s.store))
            (items_are names row s.store here.shows b low)
            (shows_write names row s.store here.shows b low (items_at row b) new
            (one_block row b j (place_within (items_at row b) i j e) (here.single b)));
        turns = here.turns;
        going = here.going;
        single = single_blocks row b new (within b low) here.single;
      },
      refl,
    )
      where
        names : List Name
        names = slot_names g

        new : List ℤ
        new = slice_set (items_at row b) j v

    put_comes : (b : ℕ) (x : Name) → IsSlot (slot_names g) b x → (y : Tree.Expr) (i o : Outcome) → o ≡ value s.store y
        → Comes line s (middle fs (with_number line i (put_value line x y) s)) (row_step xs left (put_with b row i o))
    unfolding with_number
    put_comes b x slot y (Err kind) o e = refl
    put_comes b x slot y (Ok i) o e =
        subst (λ (z : Outcome). Comes line s (middle fs (with_number line z (put_number line x i) s)) (row_step xs left (put_with b row (Ok i) o))) e
        (second o)
      where
        second : (o : Outcome) → Comes line s (middle fs (with_number line o (put_number line x i) s)) (row_step xs left (put_with b row (Ok i) o))
        second (Err kind) = refl
        second (Ok v) =
            subst (λ (z : Name). Comes line s (middle fs (put_number line z i v s)) (row_step xs left (put_with b row (Ok i) (Ok v)))) slot.reads
            (subst (λ (zs : List ℤ). Comes line s (middle fs (put_in_place line (name_at (slot_names g) b) v (place_in zs i) s))
            (row_step xs left (put_with b row (Ok i) (Ok v))))
            (items_are (slot_names g) row s.store here.shows b slot.below)
            (write_comes b slot.below v i (place_in (items_at row b) i) refl))

    put_done : (b : ℕ) (x : Name) (e f : tables.Expr) (y z : Tree.Expr) → IsSlot (slot_names g) b x → IsExpr (slot_names g) e y → IsExpr (slot_names g) f z
        → Comes line s (middle fs (with_number line (value s.store y) (put_value line x z) s)) (row_step xs left (put_by b e f row))
    put_done b x e f y z slot he hf =
        subst (λ (i : Outcome). Comes line s (middle fs (with_number line i (put_value line x z) s)) (row_step xs left (put_by b e f row)))
        (number_is row s.store e y here.shows he)
        (put_comes b x slot z (value_in row e) (value_in row f) (number_is row s.store f z here.shows hf))

    -- ---- arms

    if_comes : (e : tables.Expr) (a b : List ℕ) (p q : Tree.Body) → kind_at t n ≡ Some (if_node e a b) → AreStatements c.program t (slot_names g) a p
        → AreStatements c.program t (slot_names g) b q → (o : Outcome)
        → Comes line s (step_with_number line o (step_if p q) fs s) (if_step n a b xs row left o)
    if_comes e a b p q is first second (Err kind) = refl
    if_comes e a b p q is first second (Ok v) = arm (is_true v)
      where
        arm : (holds : Bool) → Comes line s (step_branch holds p q fs s) (arm_step n a b xs row left holds)
        arm true = (rest_frames (Then n) 0 a p xs fs (then_numbers t n e a b is) first frames, here, refl)
        arm false = (rest_frames (Other n) 0 b q xs fs (other_numbers t n e a b is) second frames, here, refl)

    -- ---- rounds

    while_comes : (e : tables.Expr) (a : List ℕ) (y : Tree.Expr) (p : Tree.Body) → kind_at t n ≡ Some (while_node e a)
        → AreStatements c.program t (slot_names g) (n ∷ []) (step line (while_stmt y p) done) → AreStatements c.program t (slot_names g) a p → (o : Outcome)
        → Comes line s (step_with_number line o (step_while line y p) fs s) (while_step n a xs row left o)
    while_comes e a y p is again body (Err kind) = refl
    while_comes e a y p is again body (Ok v) = round (is_true v)
      where
        turn : (turns : ℕ)
            → Comes line s (step_turn turns line (before_all p (before_all (step line (while_stmt y p) done) fs)) fs s) (turn_step n a xs row turns)
        turn zero = refl
        turn (suc less) = (
          rest_frames (Round n) 0 a p (Again n ∷ xs) (does (statements (step line (while_stmt y p) done)) ∷ fs) (round_numbers t n e a is) body
              ((step line (while_stmt y p) done, refl, again), frames),
          record { shows = here.shows; turns = refl; going = here.going; single = here.single },
          refl,
        )

        turns_same : Comes line s (step_turn s.turns line (before_all p (before_all (step line (while_stmt y p) done) fs)) fs s) (turn_step n a xs row left)
        turns_same =
            subst (λ (m : ℕ). Comes line s (step_turn s.turns line (before_all p (before_all (step line (while_stmt y p) done) fs)) fs s)
            (turn_step n a xs row m)) (sym here.turns) (turn s.turns)

        round : (holds : Bool) → Comes line s (step_round holds line y p fs s) (round_step n a xs row left holds)
        round true = turns_same
        round false = (frames, here, refl)

    -- ---- any statement

    kind_comes : (stmt : Stmt) (kind : Kind) → IsNode c.program t (slot_names g) n line stmt → kind_at t n ≡ Some kind
        → IsStmt t.nodes (function_names c.program) (slot_names g) stmt (n + 1) kind
        → Comes line s (step_statement c line stmt fs s) (kind_step n xs row left (Some kind))
    kind_comes (let_stmt x y) (let_node b e) node is h = assigned b x e y h.0 h.1
    kind_comes (let_stmt x y) kind node is h = absurd h
    kind_comes (assign_stmt x y) (assign_node b e) node is h = assigned b x e y h.0 h.1
    kind_comes (assign_stmt x y) kind node is h = absurd h
    kind_comes (put_stmt x y z) (put_node b e f) node is h = put_done b x e f y z h.0 h.1 h.2
    kind_comes (put_stmt x y z) kind node is h = absurd h
    kind_comes (if_stmt y p q) (if_node e a b) node is h =
        subst (λ (o : Outcome). Comes line s (step_with_number line o (step_if p q) fs s) (if_step n a b xs row left (value_in row e)))
        (number_is row s.store e y here.shows h.0) (if_comes e a b p q is (n + 1, h.1) (n + 1, h.2) (value_in row e))
    kind_comes (if_stmt y p q) kind node is h = absurd h
    kind_comes (while_stmt y p) (while_node e a) node is h =
        subst (λ (o : Outcome). Comes line s (step_with_number line o (step_while line y p) fs s) (while_step n a xs row left (value_in row e)))
        (number_is row s.store e y here.shows h.0)
        (while_comes e a y p is (0, (omega arith, (node.node, node.there, node.on_line, node.is), tt)) (n + 1, h.1) (value_in row e))
    kind_comes (while_stmt y p) kind node is h = absurd h
    kind_comes (alloc_stmt x y) (alloc_node b e) node is h = tt
    kind_comes (alloc_stmt x y) kind node is h = absurd h
    kind_comes (free_stmt x) (free_node b) node is h = tt
    kind_comes (free_stmt x) kind node is h = absurd h
    kind_comes (call_stmt to x args) (call_node target func from) node is h = tt
    kind_comes (call_stmt to x args) kind node is h = absurd h
    kind_comes (print_stmt y) (print_node e) node is h = tt
    kind_comes (print_stmt y) kind node is h = absurd h
    kind_comes (par_stmt p q) (both_node a b blocks assigned) node is h = tt
    kind_comes (par_stmt p q) kind node is h = absurd h
    kind_comes (split_stmt x y l r p) (split_node b e i j a) node is h = tt
    kind_comes (split_stmt x y l r p) kind node is h = absurd h

    node_comes : (stmt : Stmt) → IsNode c.program t (slot_names g) n line stmt
        → Comes line s (step_statement c line stmt fs s) (kind_step n xs row left (kind_at t n))
    node_comes stmt node =
        let is : kind_at t n ≡ Some node.node.kind = ap kind_of_node node.there in
        subst (λ (kind : Option Kind). Comes line s (step_statement c line stmt fs s) (kind_step n xs row left kind)) (sym is)
        (kind_comes stmt node.node.kind node is node.is)

  -- ---- the next frame

  marked : (line : ℕ) (s : State) (m : Middle) (came : Came Standing) → Comes line (with_item (began line) s) m came → IsStepOf c t (g ∷ gs) s m came
  marked line s m (goes_to after) h = (began line ∷ [], h.0, h.1, h.2, refl)
  marked line s m (meets kind) h = (line, h)
  marked line s m stops h = tt

  module _ (fs : List middles.Frame) (row : List Entry) (left : ℕ) (s : State) (here : IsInState (slot_names g) row left s) where
    first_comes : (n : ℕ) (ns : List ℕ) (b : Tree.Body) (xs : List Frame) → (first : FirstOf c.program t (slot_names g) n ns b)
        → AreFrames c.program t (g ∷ gs) xs (before_all first.rest fs)
        → IsStepOf c t (g ∷ gs) s (step_frame c (does (statements b)) fs s) (kind_step n xs row left (kind_at t n))
    first_comes n ns b xs first frames =
        subst (λ (a : Tree.Body). IsStepOf c t (g ∷ gs) s (step_frame c (does (statements a)) fs s) (kind_step n xs row left (kind_at t n))) (sym first.is)
        (subst (λ (faulted : Bool). IsStepOf c t (g ∷ gs) s (step_first faulted c first.line first.stmt first.rest fs s) (kind_step n xs row left
        (kind_at t n))) (sym here.going)
        (marked first.line s (step_statement c first.line first.stmt (before_all first.rest fs) (with_item (began first.line) s))
        (kind_step n xs row left (kind_at t n))
        (node_comes xs (before_all first.rest fs) row left (with_item (began first.line) s) first.line n frames
        (record { shows = here.shows; turns = here.turns; going = here.going; single = here.single }) first.stmt first.node)))

    list_comes : (list : ListOf) (next : ℕ) (ns : List ℕ) (b : Tree.Body) (xs : List Frame) → numbers_from t list next ≡ ns
        → AreStatements c.program t (slot_names g) ns b → AreFrames c.program t (g ∷ gs) xs fs
        → IsStepOf c t (g ∷ gs) s (step_frame c (does (statements b)) fs s) (list_step t ns list next xs row left)
    list_comes list next [] b xs e h frames =
        subst (λ (a : Tree.Body). IsStepOf c t (g ∷ gs) s (step_frame c (does (statements a)) fs s) (goes_to (standing xs row left)))
        (sym (no_statements c.program t (slot_names g) b h))
        ([], frames, here, (λ i. record s { items = sym (append-nil s.items) i }), refl)
    list_comes list next (n ∷ ns) b xs e h frames =
        let first = first_statement c.program t (slot_names g) n ns b h in
        first_comes n ns b (rest_of ns list (next + 1) xs) first
        (rest_frames list (next + 1) ns first.rest xs fs (next_numbers t list next n ns e) first.later frames)

    again_comes : (n : ℕ) (b : Tree.Body) (xs : List Frame) → AreStatements c.program t (slot_names g) (n ∷ []) b → AreFrames c.program t (g ∷ gs) xs fs
        → IsStepOf c t (g ∷ gs) s (step_frame c (does (statements b)) fs s) (kind_step n xs row left (kind_at t n))
    again_comes n b xs h frames =
        let first = first_statement c.program t (slot_names g) n [] b h in
        first_comes n [] b xs first
        (subst (λ (a : Tree.Body). AreFrames c.program t (g ∷ gs) xs (before_all a fs)) (sym (no_statements c.program t (slot_names g) first.rest first.later))
        frames)

  frames_come : (xs : List Frame) (f : middles.Frame) (fs : List middles.Frame) (row : List Entry) (left : ℕ) (s : State)
      → AreFrames c.program t (g ∷ gs) xs (f ∷ fs) → IsInState (slot_names g) row left s
      → IsStepOf c t (g ∷ gs) s (step_frame c f fs s) (thread_step t (standing xs row left))
  frames_come [] f fs row left s h here = absurd h
  frames_come (Statements list next ∷ xs) f fs row left s h here =
      subst (λ (x : middles.Frame). IsStepOf c t (g ∷ gs) s (step_frame c x fs s) (thread_step t (standing (Statements list next ∷ xs) row left)))
      (sym h.0.1) (list_comes fs row left s here list next (numbers_from t list next) h.0.0 xs refl h.0.2 h.1)
  frames_come (Again n ∷ xs) f fs row left s h here =
      subst (λ (x : middles.Frame). IsStepOf c t (g ∷ gs) s (step_frame c x fs s) (thread_step t (standing (Again n ∷ xs) row left))) (sym h.0.1)
      (again_comes fs row left s here n h.0.0 xs h.0.2 h.1)
  frames_come (DummyTree shape ∷ xs) f fs row left s h here = tt
  frames_come (Answers n caller ∷ xs) f fs row left s h here = tt
  frames_come (Rejoins n ∷ xs) f fs row left s h here = tt
  frames_come (AnswersMain ∷ xs) f fs row left s h here = tt
  frames_come (Allocates slot len ∷ xs) f fs row left s h here = tt
  frames_come (Joins branch ∷ xs) f fs row left s h here = tt

-- each step of a thread over slots is the step of the depth-first run
pub steps_of_the_run : (c : Setting) (t : Table) (g : Func) (gs : List Func) (s : Standing) (f : middles.Frame) (fs : List middles.Frame) (at : State)
    → AreFrames c.program t (g ∷ gs) s.frames (f ∷ fs) → IsInState (slot_names g) s.row s.turns at
    → IsStepOf c t (g ∷ gs) at (step_frame c f fs at) (thread_step t s)
steps_of_the_run c t g gs s f fs at frames here = frames_come c t g gs s.frames f fs s.row s.turns at frames here
