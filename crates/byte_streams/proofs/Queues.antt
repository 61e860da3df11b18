-- A part of some bytes that was copied to the front of a buffer is what they give.
use Rattle.std.proofs.Common.{◌≡◌, ℕ, ◌+◌, List, ◌++◌, length, take, drop, sym, ◌∙◌}
use Rattle.std.proofs.lemmas.List.{take_at, take-append-drop, drop-drop}

pub part_given :
    (bytes part behind : List ℕ) (given n : ℕ) → part ≡ take n (drop given bytes) → length part ≡ n →
    drop given bytes ≡ take n (part ++ behind) ++ drop (given + n) bytes
part_given bytes part behind given n is full =
    let front : take n (part ++ behind) ≡ part = take_at part behind n full in
    let rest : drop n (drop given bytes) ≡ drop (given + n) bytes = drop-drop n given bytes in
    sym (take-append-drop n (drop given bytes)) ∙ cc
