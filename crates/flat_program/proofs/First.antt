-- The first place of a list is that of its first statement.
use Rattle.std.proofs.Common.{◌≡◌, ℕ, zero, suc, ◌*◌, List, [], ◌∷◌, Option, Some, None, slice_get, refl, sym, ap, ◌∙◌, subst}
use Rattle.node_table.specs.Table.{Kind, let_node, assign_node, put_node, alloc_node, free_node, if_node, while_node, call_node, print_node}
use Rattle.node_table.specs.Table.{both_node, split_node, Table}
use Rattle.thread_stack.specs.declared.frame.Frame.{Frame}
use Rattle.thread_stack.specs.declared.frame.Frame.TheVariants.{Statements}
use Rattle.thread_stack.specs.declared.list_of.ListOf.{ListOf}
use Rattle.thread_stack.specs.Lists.{kind_at, numbers_of}
use Rattle.flat_run.specs.Passed.Acts.{Act}
use Rattle.flat_code.specs.Passed.Flat.{Flat, doing, unless, rounds, jumps, leaves, FlatCode, frames_at}
use Rattle.flat_code.specs.Passed.Codes.{HasActs, HasAct, IsListCode, IsNodeCode, IsKindCode, IsWholeCode, StatementCode}
use Rattle.flat_code.specs.declared.instruction.Instruction.{Instruction}
use Rattle.flat_code.specs.declared.instruction.Instruction.TheVariants as instructions
use Rattle.flat_code.specs.declared.place.Place.{Place}
use Rattle.flat_code.specs.Shown.{flat_shown, instruction_shown}
use Rattle.flat_program.specs.declared.flat_list.FlatList.{FlatList}
use Rattle.flat_program.specs.Entries.{BeginsWith, IsJump, entry_of_node}
use Rattle.flat_program.proofs.Starts.{mark_at, same_reversed}

abbrev IsNoJump : Flat → Type 0
IsNoJump (doing a) = Unit {0}
IsNoJump (unless test other) = Unit {0}
IsNoJump (rounds test body after) = Unit {0}
IsNoJump (jumps place) = ⊥
IsNoJump leaves = Unit {0}

-- there is something else at a place
abbrev HasNoJump : FlatCode → ℕ → Type 0
HasNoJump f place = (what : Flat) × (slice_get f.places place ≡ Some what) × IsNoJump what

module _ (f : FlatCode) (k size place : ℕ) (here : List Frame) where
  acts_no_jump : (code : List Act) (after : ℕ) → HasAct code → HasActs f here place code after → HasNoJump f place
  acts_no_jump [] after some h = absurd some
  acts_no_jump (a ∷ rest) after some h = (doing a, h.0.is, tt)

  test_no_jump : (code : List Act) (at : ℕ) (what : Flat) → IsNoJump what → HasActs f here place code at → slice_get f.places at ≡ Some what → HasNoJump f place
  test_no_jump [] at what fine h is = subst (λ (n : ℕ). HasNoJump f n) (sym h) (what, is, fine)
  test_no_jump (a ∷ rest) at what fine h is = (doing a, h.0.is, tt)

  kind_no_jump : (P : StatementCode) (n : ℕ) (xs : List Frame) (after : ℕ) (kind : Option Kind) → IsKindCode f k size P n here xs place after kind
      → HasNoJump f place
  kind_no_jump P n xs after None h = absurd h
  kind_no_jump P n xs after (Some (let_node s e)) h = acts_no_jump h.code after h.some h.there
  kind_no_jump P n xs after (Some (assign_node s e)) h = acts_no_jump h.code after h.some h.there
  kind_no_jump P n xs after (Some (put_node b i e)) h = acts_no_jump h.code after h.some h.there
  kind_no_jump P n xs after (Some (alloc_node s e)) h = (leaves, h.there.is, tt)
  kind_no_jump P n xs after (Some (free_node s)) h = (leaves, h.there.is, tt)
  kind_no_jump P n xs after (Some (if_node e a b)) h = test_no_jump h.before.code h.at (unless h.test h.other) tt h.before.there h.jumps_by.is
  kind_no_jump P n xs after (Some (while_node e a)) h =
      let t = h.test in test_no_jump t.before.code t.at (rounds t.test h.body after) tt t.before.there t.jumps_by.is
  kind_no_jump P n xs after (Some (call_node to func from)) h = (leaves, h.there.is, tt)
  kind_no_jump P n xs after (Some (print_node e)) h = (leaves, h.there.is, tt)
  kind_no_jump P n xs after (Some (both_node a b blocks assigned)) h = (leaves, h.there.is, tt)
  kind_no_jump P n xs after (Some (split_node s e l r a)) h = (leaves, h.there.is, tt)

node_no_jump : (t : Table) (f : FlatCode) (k size depth place n : ℕ) (here xs : List Frame) (after : ℕ) → IsNodeCode t f k size depth place n here xs after
    → HasNoJump f place
node_no_jump t f k size zero place n here xs after h = absurd h
node_no_jump t f k size (suc depth) place n here xs after h =
    kind_no_jump f k size place here (IsNodeCode t f k size depth) n xs after (kind_at t n) h

list_first : (t : Table) (f : FlatCode) (k size depth : ℕ) (ns : List ℕ) (list : ListOf) (after n : ℕ) → slice_get ns 0 ≡ Some n
    → IsListCode f (IsNodeCode t f k size depth) ns list 0 [] 0 after → (frames_at f 0 ≡ Statements list 0 ∷ []) × HasNoJump f 0
list_first t f k size depth [] list after n e h = let never : ⊥ = cc in absurd never
list_first t f k size depth (m ∷ ns) list after n e h = (h.0, node_no_jump t f k size depth 0 m (Statements list 0 ∷ []) _ h.1.0 h.1.1)

shown_no_jump : (what : Instruction) (flat : Flat) → instruction_shown what ≡ flat → IsNoJump flat → IsJump what → ⊥
shown_no_jump (instructions.Act a) flat e fine jump = jump
shown_no_jump (instructions.Write b i a) flat e fine jump = jump
shown_no_jump (instructions.Unless test other) flat e fine jump = jump
shown_no_jump (instructions.Round test body after) flat e fine jump = jump
shown_no_jump (instructions.Jump place) flat e fine jump = subst IsNoJump (sym e) fine
shown_no_jump instructions.Leave flat e fine jump = jump

some_same : {A : Type 0} (x y : A) → Some x ≡ Some y → x ≡ y
some_same x y e = cc

pub begins_with : (t : Table) (l : FlatList) (k : ℕ) (list : ListOf) (n : ℕ) → IsWholeCode t (flat_shown l.places.items) k l.size list 0
    → slice_get (numbers_of t list) 0 ≡ Some n → BeginsWith t l (n * 2)
begins_with t l k list n whole first =
    let h = list_first t (flat_shown l.places.items) k l.size whole.depth (numbers_of t list) list whole.behind n first whole.code in
    go l.places.items refl h
  where
    go : (ps : List Place) → l.places.items ≡ ps → (frames_at (flat_shown l.places.items) 0 ≡ Statements list 0 ∷ []) × HasNoJump (flat_shown l.places.items) 0
        → BeginsWith t l (n * 2)
    go [] e h =
        let is = subst (λ (ps : List Place). slice_get (flat_shown ps).places 0 ≡ Some h.1.0) e h.1.1 in
        let never : ⊥ = cc in absurd never
    go (p ∷ ps) e h =
        let is = subst (λ (qs : List Place). slice_get (flat_shown qs).places 0 ≡ Some h.1.0) e h.1.1 in
        let marks = subst (λ (qs : List Place). frames_at (flat_shown qs) 0 ≡ Statements list 0 ∷ []) e h.0 in
        record {
          here = p;
          frame = Statements list 0;
          there = subst (λ (qs : List Place). slice_get qs 0 ≡ Some p) (sym e) refl;
          no_jump = shown_no_jump p.what h.1.0 (some_same (instruction_shown p.what) h.1.0 is) h.1.2;
          mark = same_reversed p.mark.items (Statements list 0 ∷ []) (sym (mark_at (p ∷ ps) 0 p refl) ∙ marks);
          entry_is = ap entry_of_node first;
        }
