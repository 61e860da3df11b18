-- The list of a block is the front of its pieces' words: how long it is, and what each call does to it.
use Rattle.std.proofs.Common.{Vec, vec_len, vec_capacity, ◌≡◌, ℕ, ◌+◌, ◌-◌, ◌*◌, ◌/◌, ◌%◌, ◌<◌, ◌≤◌, ◌++◌, List, length, take, drop, set, slice_get, Some, Box, ap, sym, ◌∙◌, arith, replicate, ℤ, pos, suc, [], ◌∷◌, get_or, refl, append_assoc, length-append, drop-cons, Result, Ok, Err, IsErr, OnOk}
use Rattle.std.specs.Vec.{with_item}
use Rattle.std.specs.declared.alloc.Global.{Global}
use Rattle.std.proofs.lemmas.List.{take_more, set-append_right, length-take-le, take-take, drop-take, take_all, take-append-drop, length-drop, take-replicate}
use Rattle.std.proofs.lemmas.Option.{get_or_from_slice_get}
use Rattle.std.proofs.lemmas.List.Concat.{flat_map-append}
use Rattle.std.proofs.Math.Seq.{take-set-lt, take-append-add}
use Rattle.block_arena.specs.declared.size.TheConstants.{MOST_PIECES}
use Rattle.block_arena.specs.declared.piece.Piece.{Piece}
use Rattle.block_arena.specs.Size.{pieces_for}
use Rattle.block_arena.specs.Content.{Content, zeros, left_of, right_of, joined, IsCut, CanJoin}
use Rattle.block_arena.specs.Pieces.{words_in, contents, block_in}
use Rattle.block_arena.proofs.Lists.{slice_get-take}
use Rattle.block_arena.proofs.Contents.{Pieces, length-contents, slice_get-contents, set-contents, take-contents, drop-contents}

-- the pieces for `len` words have at least as many
pub covers : (pieces : Pieces) (len : ℕ) → length pieces ≡ pieces_for len → len ≤ length (contents pieces)
covers pieces len exact = omega (arith, length-contents pieces)

pub length-front : (pieces : Pieces) (len : ℕ) → length pieces ≡ pieces_for len →
    length (take len (contents pieces)) ≡ len
length-front pieces len exact = length-take-le len (contents pieces) (covers pieces len exact)

same_content : (items more : List ℤ) (room other : ℕ) → items ≡ more → room ≡ other →
    (let content : Content = record { items = items; room = room } in content) ≡ record { items = more; room = other }
same_content items more room other e f = cc

-- what a block of these pieces shows of its length and its room
pub shown-length : (pieces : Vec (Box Piece Global) Global) (len : ℕ) (block : Content) → block_in pieces len ≡ block →
    vec_len pieces ≡ pieces_for len → length block.items ≡ len
shown-length pieces len block shown exact =
    ap (λ (seen : Content). length seen.items) (sym shown)
    ∙ length-front pieces.items len (sym pieces.ok.0 ∙ exact)

pub shown-room : (pieces : Vec (Box Piece Global) Global) (len : ℕ) (block : Content) → block_in pieces len ≡ block →
    block.room ≡ vec_capacity pieces
shown-room pieces len block shown = ap (λ (seen : Content). seen.room) (sym shown)

pub slice_get-front : (pieces : Pieces) (len i : ℕ) (piece : Box Piece Global) →
    slice_get pieces (i / 16) ≡ Some piece → i < len →
    slice_get (take len (contents pieces)) i ≡ slice_get (words_in piece) (i % 16)
slice_get-front pieces len i piece at below =
    slice_get-take len (contents pieces) i below
    ∙ slice_get-contents pieces (i / 16) (i % 16) i piece at (omega arith) (omega arith)

pub set-front : (pieces : Pieces) (len i : ℕ) (before after : Box Piece Global) (value : ℤ) →
    slice_get pieces (i / 16) ≡ Some before → words_in after ≡ set (words_in before) (i % 16) value → i < len →
    take len (contents (set pieces (i / 16) after)) ≡ set (take len (contents pieces)) i value
set-front pieces len i before after value at written below =
    ap (take len) (set-contents pieces (i / 16) (i % 16) i before after value at written (omega arith) (omega arith))
    ∙ take-set-lt len (contents pieces) i value below

-- what a block of these pieces shows where a piece is read or written
pub shown-get : (pieces : Vec (Box Piece Global) Global) (len i : ℕ) (block : Content) (piece : Box Piece Global) →
    block_in pieces len ≡ block → slice_get pieces.items (i / 16) ≡ Some piece → i < len →
    slice_get block.items i ≡ slice_get (words_in piece) (i % 16)
shown-get pieces len i block piece shown at below =
    ap (λ (seen : Content). slice_get seen.items i) (sym shown) ∙ slice_get-front pieces.items len i piece at below

pub shown-set : (pieces : Vec (Box Piece Global) Global) (len i : ℕ) (block : Content) (before after : Box Piece Global)
    (value : ℤ) → block_in pieces len ≡ block → slice_get pieces.items (i / 16) ≡ Some before →
    words_in after ≡ set (words_in before) (i % 16) value → i < len →
    block_in (with_item pieces (i / 16) after) len ≡ record block { items = set block.items i value }
shown-set pieces len i block before after value shown at written below =
    rw (← shown) (ap (λ (items : List ℤ). record { items = items; room = vec_capacity pieces })
    (set-front pieces.items len i before after value at written below))

-- what a block of cleared pieces shows
pub shown-zeros : (pieces : Vec (Box Piece Global) Global) (words count room : ℕ) →
    contents pieces.items ≡ replicate count (pos 0) → words ≤ count → vec_capacity pieces ≡ room →
    block_in pieces words ≡ zeros words room
shown-zeros pieces words count room clear enough capacity =
    same_content _ _ _ _ (ap (take words) clear ∙ take-replicate words count (pos 0) enough) capacity

-- the pieces before a cut hold what stands before it
pub take-front : (pieces : Pieces) (len at : ℕ) → at % 16 ≡ 0 → at ≤ len →
    take at (contents (take (at / 16) pieces)) ≡ take at (take len (contents pieces))
take-front pieces len at whole within =
    let place : at ≡ 16 * (at / 16) = omega arith in
    ap (take at) (sym (take-contents pieces (at / 16) at place))
    ∙ take-take at at (contents pieces) (omega arith)
    ∙ sym (take-take at len (contents pieces) within)

-- the pieces after a cut hold what stands after it
pub drop-front : (pieces : Pieces) (len at : ℕ) → at % 16 ≡ 0 → at ≤ len →
    take (len - at) (contents (drop (at / 16) pieces)) ≡ drop at (take len (contents pieces))
drop-front pieces len at whole within =
    let place : at ≡ 16 * (at / 16) = omega arith in
    let both : at + (len - at) ≡ len = omega arith in
    ap (take (len - at)) (sym (drop-contents pieces (at / 16) at place))
    ∙ sym (drop-take at (len - at) (contents pieces))
    ∙ ap (λ n. drop at (take n (contents pieces))) both

-- whole pieces and others after them hold one list after the other
pub append-front : (left right : Pieces) (len more : ℕ) → length left ≡ pieces_for len → len % 16 ≡ 0 →
    take (len + more) (contents (left ++ right)) ≡ take len (contents left) ++ take more (contents right)
append-front left right len more exact whole =
    let all : length (contents left) ≡ len = omega (arith, length-contents left) in
    let front : take len (contents left) ≡ contents left = take_all len (contents left) (omega arith) in
    rw (flat_map-append words_in left right, front, ← all)
    (take-append-add (contents left) (contents right) more)

-- what the blocks of a cut show: the pieces before the place, and those from it on
pub shown-left : (pieces kept : Vec (Box Piece Global) Global) (len at : ℕ) (block : Content) →
    block_in pieces len ≡ block → kept.items ≡ take (at / 16) pieces.items → vec_capacity kept ≡ vec_capacity pieces →
    at % 16 ≡ 0 → at ≤ len → block_in kept at ≡ left_of block at
shown-left pieces kept len at block shown items room whole within =
    rw (← shown) (same_content _ _ _ _
    (ap (λ front. take at (contents front)) items ∙ take-front pieces.items len at whole within) room)

pub shown-right : (pieces moved : Vec (Box Piece Global) Global) (len at room : ℕ) (block : Content) →
    block_in pieces len ≡ block → moved.items ≡ drop (at / 16) pieces.items → vec_capacity moved ≡ room →
    at % 16 ≡ 0 → at ≤ len → block_in moved (len - at) ≡ right_of block at room
shown-right pieces moved len at room block shown items capacity whole within =
    rw (← shown) (same_content _ _ _ _
    (ap (λ back. take (len - at) (contents back)) items ∙ drop-front pieces.items len at whole within) capacity)

-- what the block of two blocks' pieces shows
pub shown-joined : (left right all : Vec (Box Piece Global) Global) (len more : ℕ) (before after : Content) →
    block_in left len ≡ before → block_in right more ≡ after → all.items ≡ left.items ++ right.items →
    vec_capacity all ≡ vec_capacity left → vec_len left ≡ pieces_for len → len % 16 ≡ 0 →
    block_in all (len + more) ≡ joined before after
shown-joined left right all len more before after shown shows items room exact whole =
    rw (← shown, ← shows) (same_content _ _ _ _
    (ap (λ both. take (len + more) (contents both)) items
    ∙ append-front left.items right.items len more (sym left.ok.0 ∙ exact) whole) room)

-- the parts of a block can be joined again, to the block
pub CanJoin-cut : (block : Content) (at room : ℕ) → IsCut block at → pieces_for (length block.items) ≤ block.room →
    pieces_for (length block.items) ≤ MOST_PIECES → CanJoin (left_of block at) (right_of block at room)
CanJoin-cut block at room cut fits greatest =
    let front = length-take-le at block.items cut.within in
    let back = length-drop at block.items in
    let between = cut.between in
    let within = cut.within in
    record {
      whole = rw front cut.between;
      room = rw (front, back) (omega arith);
      fits = rw (front, back) (omega arith);
    }

pub joined-cut : (block : Content) (at room : ℕ) → joined (left_of block at) (right_of block at room) ≡ block
joined-cut block at room =
    ap (λ (items : List ℤ). record { items = items; room = block.room }) (take-append-drop at block.items)

pub rejoins : (block left right : Content) (at room : ℕ) → left ≡ left_of block at → right ≡ right_of block at room →
    IsCut block at → pieces_for (length block.items) ≤ block.room → pieces_for (length block.items) ≤ MOST_PIECES →
    CanJoin left right × (joined left right ≡ block)
rejoins block left right at room is_left is_right cut fits greatest =
    rw (is_left, is_right) (CanJoin-cut block at room cut fits greatest, joined-cut block at room)

-- the numbers of two blocks' pieces, in a list with any room
pub shown-appended : (left right : Vec (Box Piece Global) Global) (all : Pieces) (len more : ℕ) (before after : Content) →
    block_in left len ≡ before → block_in right more ≡ after → all ≡ left.items ++ right.items →
    vec_len left ≡ pieces_for len → len % 16 ≡ 0 → take (len + more) (contents all) ≡ before.items ++ after.items
shown-appended left right all len more before after shown shows items exact whole =
    rw (← shown, ← shows) (ap (λ both. take (len + more) (contents both)) items
    ∙ append-front left.items right.items len more (sym left.ok.0 ∙ exact) whole)

-- the last number of the front of a list is written
pub set_seam : (before behind : List ℤ) (n : ℕ) (old value : ℤ) → length before ≡ n →
    set (before ++ old ∷ behind) n value ≡ before ++ value ∷ behind
set_seam before behind n old value long =
    let none : n - n ≡ 0 = omega arith in
    set-append_right before (old ∷ behind) n n value long (omega arith)
    ∙ ap (λ k. before ++ set (old ∷ behind) k value) none

-- the numbers of a list are written over another from a place on: the first i, and then one more
pub written_more : (before from : List ℤ) (first i : ℕ) (value : ℤ) → slice_get from i ≡ Some value →
    i < length from → first + i < length before →
    set (take first before ++ take i from ++ drop (first + i) before) (first + i) value
    ≡ take first before ++ take (i + 1) from ++ drop (first + (i + 1)) before
written_more before from first i value at within room =
    let front = take first before in
    let long : length (front ++ take i from) ≡ first + i =
    length-append front (take i from) ∙ omega (arith, length-take-le first before (omega arith), length-take-le i from (omega arith)) in
    let next : suc (first + i) ≡ first + (i + 1) = omega arith in
    let more : take (i + 1) from ≡ take i from ++ value ∷ [] =
    take_more from i value within ∙ ap (λ v. take i from ++ v ∷ []) (get_or_from_slice_get from i value value at) in
    ap (λ rest. set (front ++ take i from ++ rest) (first + i) value) (drop-cons before (first + i) value room)
    ∙ set_seam (front ++ take i from) (drop (suc (first + i)) before) (first + i) (get_or before (first + i) value) value long
    ∙ sym (append_assoc (front ++ take i from) (value ∷ []) (drop (suc (first + i)) before))
    ∙ ap (λ xs. xs ++ drop (suc (first + i)) before) (append_assoc front (take i from) (value ∷ []))
    ∙ ap (λ xs. front ++ xs ++ drop (suc (first + i)) before) (sym more)
    ∙ ap (λ n. front ++ take (i + 1) from ++ drop n before) next

-- a call that can't be refused is done
pub done : {E : Type 0} (r : Result (Unit {0}) E) (P : Type 0) → ¬ IsErr r → OnOk r P → P
done (Ok v) P never p = p
done (Err e) P never p = absurd (never refl)
