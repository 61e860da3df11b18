-- The steps of a thread leave the row as long as it was, with as many words.
use Rattle.std.proofs.Common.{◌≡◌, ℕ, zero, suc, ◌+◌, ◌<◌, ◌≤◌, Bool, true, false, List, [], ◌∷◌, length, set, ℤ}
use Rattle.std.proofs.Common.{pos, negsuc, Option, Some, None, Result, Ok, Err, refl, sym, ap, ◌∙◌, subst, arith, rules, length-set}
use Rattle.std.specs.Prelude.{nat_le, slice_set}
use Rattle.thread_state.specs.Passed.FaultKind.{FaultKind}
use Rattle.thread_state.specs.Passed.Stores.{block_words}
use Rattle.thread_state.specs.Passed.Values.{Outcome, is_true, place_in}
use Rattle.thread_state.specs.Passed.Table.{Kind, let_node, assign_node, put_node, alloc_node, free_node, if_node, while_node, call_node, print_node}
use Rattle.thread_state.specs.Passed.Table.{both_node, split_node, Table}
use Rattle.thread_state.specs.Passed.Rows.{Entry, entry_at, blocks_at, items_at, with_blocks_at, words_of, row_words}
use Rattle.thread_state.proofs.Passed.Rows.{one_block}
use Rattle.flat_statements.specs.Passed.Frame.{Frame}
use Rattle.flat_statements.specs.Passed.FrameVariants.{Statements, Again, Tree, Answers, Rejoins, AnswersMain, Allocates, Joins}
use Rattle.flat_statements.specs.Passed.ListOf.{ListOf}
use Rattle.flat_statements.specs.Passed.Lists.{kind_at, numbers_from}
use Rattle.flat_statements.specs.Passed.Acts.{left_in, written_in}
use Rattle.flat_statements.specs.Passed.Values.{value_in, set_by, put_with, put_by}
use Rattle.flat_statements.specs.Flat.{Came, goes_to, meets, stops}
use Rattle.flat_statements.specs.Threads.{Standing, rest_of, row_step, arm_step, if_step, turn_step, round_step, while_step, kind_step}
use Rattle.flat_statements.specs.Threads.{list_step, frame_step, frames_step}
use Rattle.flat_statements.specs.Follows.{Steps, stays, onward}
use Rattle.flat_threads.specs.Ways.{HasSingleBlocks, RowStays}

-- ---- one slot of a row has another entry

words_set : (row : List Entry) (s : ℕ) (e : Entry) → words_of e.blocks ≡ words_of (blocks_at row s) → row_words (set row s e) ≡ row_words row
words_set [] s e same = refl
words_set (x ∷ row) zero e same = ap (λ (n : ℕ). n + row_words row) same
words_set (x ∷ row) (suc s) e same = ap (λ (n : ℕ). words_of x.blocks + n) (words_set row s e same)

single_set : (row : List Entry) (s : ℕ) (e : Entry) → length e.blocks ≤ 1 → HasSingleBlocks row → HasSingleBlocks (set row s e)
single_set [] s e one all n = all n
single_set (x ∷ row) zero e one all zero = one
single_set (x ∷ row) zero e one all (suc n) = all (suc n)
single_set (x ∷ row) (suc s) e one all zero = all zero
single_set (x ∷ row) (suc s) e one all (suc n) = single_set row s e one (λ m. all (suc m)) n

set_stays : (row : List Entry) (s : ℕ) (e : Entry) → words_of e.blocks ≡ words_of (blocks_at row s) → length e.blocks ≤ 1 → HasSingleBlocks row
    → RowStays row (set row s e)
set_stays row s e same one all = record { long = length-set row s e; words = words_set row s e same; single = single_set row s e one all }

same_row : (row : List Entry) → HasSingleBlocks row → RowStays row row
same_row row all = record { long = refl; words = refl; single = all }

-- ---- an assignment and a write

-- what a row is after an act, if it has not met a fault
abbrev StaysIf : List Entry → Result (List Entry) FaultKind → Type 0
StaysIf row (Ok new) = RowStays row new
StaysIf row (Err kind) = Unit {0}

left_stays : (s : ℕ) (row : List Entry) → HasSingleBlocks row → (o : Outcome) → StaysIf row (left_in s row o)
left_stays s row all (Ok v) = set_stays row s (record (entry_at row s) { integer = v }) refl (all s) all
left_stays s row all (Err kind) = tt

place_within : (items : List ℤ) (i : ℤ) (j : ℕ) → place_in items i ≡ Some j → j < length items
place_within items (negsuc m) j e = let never : ⊥ = cc in absurd never
place_within items (pos m) j e = cases (nat_le (length items) m) refl
  where
    cases : (b : Bool) → nat_le (length items) m ≡ b → j < length items
    cases true is =
        let one : None ≡ Some j = rw is at e in
        let never : ⊥ = cc in absurd never
    cases false is =
        let one : Some m ≡ Some j = rw is at e in
        let same : m ≡ j = cc in
        let less : m < length items = search rules in
        subst (λ (n : ℕ). n < length items) same less

-- a block of as many numbers in place of another
block_stays : (b : ℕ) (row : List Entry) (items : List ℤ) → length items ≡ length (items_at row b) → blocks_at row b ≡ items_at row b ∷ []
    → HasSingleBlocks row → RowStays row (with_blocks_at row b (items ∷ []))
block_stays b row items long is all =
    let words : block_words (length items) + 0 ≡ words_of (blocks_at row b) =
    ap (λ (n : ℕ). block_words n + 0) long ∙ ap words_of (sym is) in
    set_stays row b (record (entry_at row b) { blocks = items ∷ [] }) words (omega arith) all

written_stays : (b : ℕ) (row : List Entry) (v i : ℤ) → HasSingleBlocks row → (o : Option ℕ) → place_in (items_at row b) i ≡ o
    → StaysIf row (written_in b row v o)
written_stays b row v i all None e = tt
written_stays b row v i all (Some j) e =
    block_stays b row (slice_set (items_at row b) j v) (length-set (items_at row b) j v)
    (one_block row b j (place_within (items_at row b) i j e) (all b)) all

put_stays : (b : ℕ) (row : List Entry) → HasSingleBlocks row → (o w : Outcome) → StaysIf row (put_with b row o w)
put_stays b row all (Ok i) (Ok v) = written_stays b row v i all (place_in (items_at row b) i) refl
put_stays b row all (Ok i) (Err kind) = tt
put_stays b row all (Err kind) w = tt

-- ---- the steps of a thread

abbrev StaysAfter : List Entry → Came Standing → Type 0
StaysAfter row (goes_to v) = RowStays row v.row
StaysAfter row (meets kind) = Unit {0}
StaysAfter row stops = Unit {0}

module _ (t : Table) (row : List Entry) (all : HasSingleBlocks row) (turns : ℕ) where
  row_stays : (xs : List Frame) (r : Result (List Entry) FaultKind) → StaysIf row r → StaysAfter row (row_step xs turns r)
  row_stays xs (Ok new) h = h
  row_stays xs (Err kind) h = tt

  arm_stays : (n : ℕ) (a b : List ℕ) (xs : List Frame) (holds : Bool) → StaysAfter row (arm_step n a b xs row turns holds)
  arm_stays n a b xs true = same_row row all
  arm_stays n a b xs false = same_row row all

  if_stays : (n : ℕ) (a b : List ℕ) (xs : List Frame) (o : Outcome) → StaysAfter row (if_step n a b xs row turns o)
  if_stays n a b xs (Ok v) = arm_stays n a b xs (is_true v)
  if_stays n a b xs (Err kind) = tt

  turn_stays : (n : ℕ) (a : List ℕ) (xs : List Frame) (left : ℕ) → StaysAfter row (turn_step n a xs row left)
  turn_stays n a xs zero = tt
  turn_stays n a xs (suc left) = same_row row all

  round_stays : (n : ℕ) (a : List ℕ) (xs : List Frame) (holds : Bool) → StaysAfter row (round_step n a xs row turns holds)
  round_stays n a xs true = turn_stays n a xs turns
  round_stays n a xs false = same_row row all

  while_stays : (n : ℕ) (a : List ℕ) (xs : List Frame) (o : Outcome) → StaysAfter row (while_step n a xs row turns o)
  while_stays n a xs (Ok v) = round_stays n a xs (is_true v)
  while_stays n a xs (Err kind) = tt

  kind_stays : (n : ℕ) (xs : List Frame) (kind : Option Kind) → StaysAfter row (kind_step n xs row turns kind)
  kind_stays n xs None = tt
  kind_stays n xs (Some (let_node s e)) = row_stays xs (set_by s e row) (left_stays s row all (value_in row e))
  kind_stays n xs (Some (assign_node s e)) = row_stays xs (set_by s e row) (left_stays s row all (value_in row e))
  kind_stays n xs (Some (put_node b i e)) = row_stays xs (put_by b i e row) (put_stays b row all (value_in row i) (value_in row e))
  kind_stays n xs (Some (alloc_node s e)) = tt
  kind_stays n xs (Some (free_node s)) = tt
  kind_stays n xs (Some (if_node e a b)) = if_stays n a b xs (value_in row e)
  kind_stays n xs (Some (while_node e a)) = while_stays n a xs (value_in row e)
  kind_stays n xs (Some (call_node to func from)) = tt
  kind_stays n xs (Some (print_node e)) = tt
  kind_stays n xs (Some (both_node a b blocks assigned)) = tt
  kind_stays n xs (Some (split_node s e l r a)) = tt

  list_stays : (ns : List ℕ) (list : ListOf) (next : ℕ) (xs : List Frame) → StaysAfter row (list_step t ns list next xs row turns)
  list_stays [] list next xs = same_row row all
  list_stays (n ∷ ns) list next xs = kind_stays n (rest_of ns list (next + 1) xs) (kind_at t n)

  frame_stays : (x : Frame) (xs : List Frame) → StaysAfter row (frame_step t x xs row turns)
  frame_stays (Statements list next) xs = list_stays (numbers_from t list next) list next xs
  frame_stays (Again n) xs = kind_stays n xs (kind_at t n)
  frame_stays (Tree shape) xs = tt
  frame_stays (Answers n caller) xs = tt
  frame_stays (Rejoins n) xs = tt
  frame_stays AnswersMain xs = tt
  frame_stays (Allocates slot len) xs = tt
  frame_stays (Joins branch) xs = tt

  frames_stay : (xs : List Frame) → StaysAfter row (frames_step t xs row turns)
  frames_stay [] = tt
  frames_stay (x ∷ xs) = frame_stays x xs

both_stay : (one two three : List Entry) → RowStays one two → RowStays two three → RowStays one three
both_stay one two three h k = record { long = k.long ∙ h.long; words = k.words ∙ h.words; single = k.single }

way_stays : (t : Table) {s u : Standing} → Steps t s u → HasSingleBlocks s.row → RowStays s.row u.row
way_stays t {s} stays all = same_row s.row all
way_stays t {s} {u} (onward v first rest) all =
    let one = subst (λ (come : Came Standing). StaysAfter s.row come) first (frames_stay t s.row all s.turns s.frames) in
    both_stay s.row v.row u.row one (way_stays t rest one.single)

pub rows_stay : (t : Table) (s u : Standing) → Steps t s u → HasSingleBlocks s.row → RowStays s.row u.row
rows_stay t s u way all = way_stays t way all
