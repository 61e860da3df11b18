-- The texts that stand for a loop: its call, and its helper, the function that this call calls.
use Rattle.std.specs.Prelude.{ℕ, zero, suc, ◌+◌, ◌-◌, ◌==◌, Bool, List, [], ◌∷◌, length, map, take, drop, codes}
use Rattle.std.specs.List.{flat_map, filter}
use Rattle.std.specs.Fmt.{decimal}
use Rattle.canonical_text.specs.Canonical.{◌⊕◌, behind_comma}
use Rattle.par_lex.specs.declared.lexeme.Lexeme.{Lexeme}
use Rattle.loop_expand.specs.Loops.{Range, numbers, parts, Loop}

-- the bytes of a text from a place on up to before another
abbrev pub between : List ℕ → ℕ → ℕ → List ℕ
between text from to = take (to - from) (drop from text)

-- the bytes of a token
abbrev pub bytes_of : List ℕ → Lexeme → List ℕ
bytes_of text t = take t.len (drop t.at text)

-- the place behind a token
abbrev pub place_behind : Lexeme → ℕ
place_behind t = t.at + t.len

-- `__sumJ`
abbrev pub sum_name : ℕ → List ℕ
sum_name j = codes "__sum" ⊕ decimal j

-- the tokens of a run, joined by one space
abbrev pub spaced : List ℕ → Lexeme → List ℕ
spaced text t = codes " " ⊕ bytes_of text t

abbrev pub run_text : List ℕ → List Lexeme → List ℕ
run_text text [] = []
run_text text (t ∷ ts) = bytes_of text t ⊕ flat_map (spaced text) ts

-- `(E1), (E2) - (E1)`
abbrev pub numbers_arguments : List ℕ → List ℕ → List ℕ
numbers_arguments low high = codes "(" ⊕ low ⊕ codes "), (" ⊕ high ⊕ codes ") - (" ⊕ low ⊕ codes ")"

-- the first arguments of a call, or the first one
abbrev pub range_text : List ℕ → Range → List ℕ
range_text text (numbers low high) = numbers_arguments (run_text text low) (run_text text high)
range_text text (parts block most) = codes "use " ⊕ bytes_of text block

-- `, C1, .., Ck`
abbrev pub others_text : List ℕ → List (List Lexeme) → List ℕ
others_text text others = flat_map behind_comma (map (run_text text) others)

-- `call X = __sumJ(`
abbrev pub callee_text : List ℕ → ℕ → Lexeme → List ℕ
callee_text text j target = codes "call " ⊕ bytes_of text target ⊕ codes " = " ⊕ sum_name j ⊕ codes "("

-- `call X = __sumJ(A);`
abbrev pub call_text : List ℕ → ℕ → Loop → List ℕ
call_text text j l = callee_text text j l.target ⊕ range_text text l.range ⊕ others_text text l.others ⊕ codes ");"

abbrev pub is_line_feed : ℕ → Bool
is_line_feed c = c == 10

-- the line feeds that stand in a loop
abbrev pub line_feeds : List ℕ → Loop → List ℕ
line_feeds text l = filter is_line_feed (between text l.opening.at (place_behind l.closing))

-- `, c1, .., ck`
abbrev pub more_names : ℕ → List ℕ
more_names zero = []
more_names (suc k) = more_names k ⊕ codes ", c" ⊕ decimal (suc k)

-- The helper of a loop over numbers: a function that goes from one number over n of them.
abbrev pub numbers_helper : List ℕ → List ℕ → List ℕ → List ℕ
numbers_helper sum f more =
    codes "fn " ⊕ sum ⊕ codes "(lo, n" ⊕ more ⊕ codes ") { let s = 0; if n == 1 { call s = " ⊕ f ⊕ codes "(lo" ⊕ more ⊕
    codes "); } else { if n > 1 { let h = n / 2; let t = 0; par { call s = " ⊕ sum ⊕ codes "(lo, h" ⊕ more ⊕
    codes "); } and { call t = " ⊕ sum ⊕ codes "(lo + h, n - h" ⊕ more ⊕ codes "); } s = s + t; } } return s; }"

-- The helper of a loop over the parts of a block.
abbrev pub parts_helper : List ℕ → List ℕ → List ℕ → List ℕ → List ℕ
parts_helper sum f most more =
    codes "fn " ⊕ sum ⊕ codes "(use b" ⊕ more ⊕ codes ") { let n = len(b); let s = 0; if n <= " ⊕ most ⊕ codes " { call s = " ⊕ f ⊕
    codes "(use b" ⊕ more ⊕ codes "); } else { let h = (n / 2 + 15) / 16 * 16; let t = 0; split b at h into l, r { par { call s = " ⊕ sum ⊕
    codes "(use l" ⊕ more ⊕ codes "); } and { call t = " ⊕ sum ⊕ codes "(use r" ⊕ more ⊕ codes "); } } s = s + t; } return s; }"

abbrev pub range_helper : List ℕ → Range → List ℕ → List ℕ → List ℕ → List ℕ
range_helper text (numbers low high) sum f more = numbers_helper sum f more
range_helper text (parts block most) sum f more = parts_helper sum f (bytes_of text most) more

-- the helper of loop J
abbrev pub helper_text : List ℕ → ℕ → Loop → List ℕ
helper_text text j l = range_helper text l.range (sum_name j) (bytes_of text l.function) (more_names (length l.others))
