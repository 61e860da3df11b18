-- A text grows by what belongs to the next number.
use Rattle.std.proofs.Common.{◌≡◌, ℕ, ◌+◌, ◌-◌, ◌≤◌, zero-add, List, [], ◌∷◌, ◌++◌, append_assoc, map, ap, sym, ◌∙◌, arith}
use Rattle.std.specs.Prelude.{codes}
use Rattle.std.specs.List.{flat_map, range_with_len}
use Rattle.std.proofs.lemmas.Grind.{flat_map-append}
use Rattle.std.proofs.lemmas.List.{flat_map_more, map-id}
use Rattle.std.proofs.lemmas.List.FromFn.{map-range_with_len_more}
use Rattle.made_source.specs.MadeSource.{line, text_of, call_line, main_lines}

-- the line of one number more
pub one_line :
    (f : ℕ → List ℕ) (old text text' : List ℕ) (a n i : ℕ) → a + n ≡ i → text ≡ old ++ text_of (map f (range_with_len a n)) →
    text' ≡ text ++ line (f i) → text' ≡ old ++ text_of (map f (range_with_len a (n + 1)))
one_line f old text text' a n i is before after =
    after
    ∙ ap (λ (t : List ℕ). t ++ line (f i)) before
    ∙ flat_map_more line old (map f (range_with_len a n)) (f i)
    ∙ ap (λ (l : List (List ℕ)). old ++ text_of l) (sym (map-range_with_len_more f a n i is))

-- the same where the numbers are told by their end
pub one_line_to :
    (f : ℕ → List ℕ) (old text text' : List ℕ) (a i : ℕ) → a ≤ i → text ≡ old ++ text_of (map f (range_with_len a (i - a))) →
    text' ≡ text ++ line (f i) → text' ≡ old ++ text_of (map f (range_with_len a (i + 1 - a)))
one_line_to f old text text' a i from before after =
    let count : (i - a) + 1 ≡ i + 1 - a = omega arith in
    one_line f old text text' a (i - a) i (omega arith) before after
    ∙ ap (λ (n : ℕ). old ++ text_of (map f (range_with_len a n))) count

next_number : (i : ℕ) → range_with_len 0 (i + 1) ≡ range_with_len 0 i ++ i ∷ []
next_number i =
    sym (map-id (range_with_len 0 (i + 1)))
    ∙ map-range_with_len_more (λ (n : ℕ). n) 0 i i (zero-add i)
    ∙ ap (λ (l : List ℕ). l ++ i ∷ []) (map-id (range_with_len 0 i))

-- the lines of one number more
pub some_lines :
    (f : ℕ → List (List ℕ)) (old text text' : List ℕ) (i : ℕ) → text ≡ old ++ text_of (flat_map f (range_with_len 0 i)) →
    text' ≡ text ++ text_of (f i) → text' ≡ old ++ text_of (flat_map f (range_with_len 0 (i + 1)))
some_lines f old text text' i before after =
    let lines : List (List ℕ) = flat_map f (range_with_len 0 i) in
    after
    ∙ ap (λ (t : List ℕ). t ++ text_of (f i)) before
    ∙ append_assoc old (text_of lines) (text_of (f i))
    ∙ ap (λ (t : List ℕ). old ++ t) (sym (flat_map-append line lines (f i)))
    ∙ ap (λ (l : List (List ℕ)). old ++ text_of l) (flat_map_more f [] (range_with_len 0 i) i ∙ ap (flat_map f) (sym (next_number i)))

-- `main` is written: its head, the calls, and its last line
pub main_written :
    (old text text' text'' functions : List ℕ) → text ≡ old ++ line (codes "fn main() {") →
    text' ≡ text ++ text_of (map call_line functions) → text'' ≡ text' ++ line (codes "}") → text'' ≡ old ++ text_of (main_lines functions)
unfolding main_lines
main_written old text text' text'' functions head calls last =
    let written : List ℕ = text_of (map call_line functions) in
    last
    ∙ ap (λ (t : List ℕ). t ++ line (codes "}")) (calls ∙ ap (λ (t : List ℕ). t ++ written) head)
    ∙ append_assoc (old ++ line (codes "fn main() {")) written (line (codes "}"))
    ∙ ap (λ (t : List ℕ). (old ++ line (codes "fn main() {")) ++ t) (sym (flat_map-append line (map call_line functions) (codes "}" ∷ [])))
    ∙ append_assoc old (line (codes "fn main() {")) (text_of (map call_line functions ++ codes "}" ∷ []))
