-- The words of pieces: how many they are, and what reading, writing, cutting and joining does to them.
use Rattle.std.proofs.Common.{◌≡◌, ℕ, ◌+◌, ◌-◌, ◌*◌, ◌<◌, ◌≤◌, zero, suc, List, [], ◌∷◌, ◌++◌, length, take, drop, set, slice_get, Some, Box, refl, ap, sym, ◌∙◌, arith, length-append, replicate, pos}
use Rattle.std.specs.declared.alloc.Global.{Global}
use Rattle.std.proofs.lemmas.List.{set-append_left, set-append_right, take_more_set, replicate-append-replicate, append-nil}
use Rattle.std.proofs.lemmas.List.Concat.{flat_map-append}
use Rattle.std.proofs.Math.Seq.{take-nil, drop-nil, take-append-add, drop-append-add}
use Rattle.block_arena.specs.declared.piece.Piece.{Piece}
use Rattle.block_arena.specs.Pieces.{words_in, contents}
use Rattle.block_arena.proofs.Lists.{slice_get-append_left, slice_get-append_right}

-- pieces in one order
abbrev pub Pieces : Type 0
Pieces = List (Box Piece Global)

-- each piece has 16 words
pub length-words_in : (piece : Box Piece Global) → length (words_in piece) ≡ 16
length-words_in piece = piece.value.whole

pub length-contents : (pieces : Pieces) → length (contents pieces) ≡ 16 * length pieces
length-contents [] = refl
length-contents (piece ∷ pieces) =
    let first = length-words_in piece in
    let others = length-contents pieces in
    let both = length-append (words_in piece) (contents pieces) in
    omega arith

-- word j of piece k is word 16 * k + j
pub slice_get-contents : (pieces : Pieces) (k j n : ℕ) (piece : Box Piece Global) → slice_get pieces k ≡ Some piece →
    j < 16 → n ≡ 16 * k + j → slice_get (contents pieces) n ≡ slice_get (words_in piece) j
slice_get-contents [] k j n piece at short e = cc
slice_get-contents (first ∷ pieces) zero j n piece at short e =
    let same : first ≡ piece = cc in
    let place : n ≡ j = omega arith in
    let within : n < length (words_in first) = omega (arith, length-words_in first) in
    slice_get-append_left (words_in first) (contents pieces) n within ∙ rw (same, place) refl
slice_get-contents (first ∷ pieces) (suc k) j n piece at short e =
    slice_get-append_right (words_in first) (contents pieces) (16 * k + j) n (omega (arith, length-words_in first))
    ∙ slice_get-contents pieces k j (16 * k + j) piece at short refl

-- writing word j of piece k writes word 16 * k + j
pub set-contents : (pieces : Pieces) (k j n : ℕ) (before after : Box Piece Global) (value : _) →
    slice_get pieces k ≡ Some before → words_in after ≡ set (words_in before) j value →
    j < 16 → n ≡ 16 * k + j → contents (set pieces k after) ≡ set (contents pieces) n value
set-contents [] k j n before after value at written short e = cc
set-contents (first ∷ pieces) zero j n before after value at written short e =
    let same : first ≡ before = cc in
    let place : n ≡ j = omega arith in
    let within : n < length (words_in first) = omega (arith, length-words_in first) in
    rw (set-append_left (words_in first) (contents pieces) n value within, written, same, place) refl
set-contents (first ∷ pieces) (suc k) j n before after value at written short e =
    let past : 16 ≤ n = omega arith in
    let rest = set-contents pieces k j (n - 16) before after value at written short (omega arith) in
    ap (λ others. words_in first ++ others) rest
    ∙ sym (set-append_right (words_in first) (contents pieces) 16 n value (length-words_in first) past)

-- the first k pieces have the first 16 * k words
pub take-contents : (pieces : Pieces) (k n : ℕ) → n ≡ 16 * k → take n (contents pieces) ≡ contents (take k pieces)
take-contents pieces zero n e = let none : n ≡ 0 = omega arith in rw none refl
take-contents [] (suc k) n e = take-nil n
take-contents (first ∷ pieces) (suc k) n e =
    let past : n ≡ length (words_in first) + 16 * k = omega (arith, length-words_in first) in
    rw (past, take-append-add (words_in first) (contents pieces) (16 * k))
    (ap (λ others. words_in first ++ others) (take-contents pieces k (16 * k) refl))

-- the pieces after the first k have the words after the first 16 * k
pub drop-contents : (pieces : Pieces) (k n : ℕ) → n ≡ 16 * k → drop n (contents pieces) ≡ contents (drop k pieces)
drop-contents pieces zero n e = let none : n ≡ 0 = omega arith in rw none refl
drop-contents [] (suc k) n e = drop-nil n
drop-contents (first ∷ pieces) (suc k) n e =
    let past : n ≡ length (words_in first) + 16 * k = omega (arith, length-words_in first) in
    rw (past, drop-append-add (words_in first) (contents pieces) (16 * k)) (drop-contents pieces k (16 * k) refl)

-- one more piece of zeros
pub zeros-more : (pieces : Pieces) (i : ℕ) (piece : Box Piece Global) → i < length pieces →
    contents (take i pieces) ≡ replicate (16 * i) (pos 0) → words_in piece ≡ replicate 16 (pos 0) →
    contents (take (i + 1) (set pieces i piece)) ≡ replicate (16 * (i + 1)) (pos 0)
zeros-more pieces i piece within before clear =
    let more : 16 * i + 16 ≡ 16 * (i + 1) = omega arith in
    ap contents (take_more_set pieces i piece within)
    ∙ flat_map-append words_in (take i pieces) (piece ∷ [])
    ∙ rw (before, append-nil, clear) (replicate-append-replicate (16 * i) 16 (pos 0) ∙ ap (λ n. replicate n (pos 0)) more)

-- a new piece of zeros behind others
pub zeros-pushed : (pieces : Pieces) (n : ℕ) (piece : Box Piece Global) → contents pieces ≡ replicate (16 * n) (pos 0) →
    words_in piece ≡ replicate 16 (pos 0) → contents (pieces ++ piece ∷ []) ≡ replicate (16 * (n + 1)) (pos 0)
zeros-pushed pieces n piece before clear =
    let more : 16 * n + 16 ≡ 16 * (n + 1) = omega arith in
    flat_map-append words_in pieces (piece ∷ [])
    ∙ rw (before, append-nil, clear) (replicate-append-replicate (16 * n) 16 (pos 0) ∙ ap (λ k. replicate k (pos 0)) more)
