-- The expansion of a text, or why it has none.
use Rattle.std.specs.Prelude.{◌≡◌, ◌⊎◌, ℕ, ◌+◌, ◌<◌, ◌≤◌, List, [], ◌∷◌, map, drop, length, Result, Ok, Err, IsTrue, codes}
use Rattle.canonical_text.specs.Canonical.{◌⊕◌}
use Rattle.par_text.specs.declared.kind.Kind.TheVariants.{Name}
use Rattle.par_text.specs.Rule.{Token}
use Rattle.par_text.specs.Lexing.{Lexed, text_tokens}
use Rattle.par_lex.specs.declared.lexeme.Lexeme.{Lexeme}
use Rattle.loop_expand.specs.declared.expand_fail.ExpandFail.{ExpandFail}
use Rattle.loop_expand.specs.declared.expand_fail.ExpandFail.TheVariants.{Refused, BadLoop, NameTaken, OutOfMemory}
use Rattle.loop_expand.specs.Loops.{Loop, BeginsLoop, begins_call, AreLoops}
use Rattle.loop_expand.specs.Texts.{between, bytes_of, place_behind, sum_name, call_text, line_feeds, helper_text}

-- The text from a place on, with other bytes in place of each of these loops, which are numbered from J on.
abbrev pub with_others : (ℕ → Loop → List ℕ) → List ℕ → ℕ → ℕ → List Loop → List ℕ
with_others put text from j [] = drop from text
with_others put text from j (l ∷ ls) =
    between text from l.opening.at ⊕ put j l ⊕ with_others put text (place_behind l.closing) (j + 1) ls

-- the bytes of a loop
abbrev pub loop_bytes : List ℕ → ℕ → Loop → List ℕ
loop_bytes text j l = between text l.opening.at (place_behind l.closing)

-- Loops stand one behind the other, from a place on and up to another.
abbrev pub Apart : ℕ → List Loop → ℕ → Type 0
Apart from [] to = from ≤ to
Apart from (l ∷ ls) to = (from ≤ l.opening.at) × (l.opening.at ≤ place_behind l.closing) × Apart (place_behind l.closing) ls to

-- the bytes that stand in place of loop J: its call, and the line feeds that stood in it
abbrev pub replacement : List ℕ → ℕ → Loop → List ℕ
replacement text j l = call_text text j l ⊕ line_feeds text l

-- The text, where each loop is replaced.
abbrev pub replaced : List ℕ → List Loop → List ℕ
replaced text ls = with_others (replacement text) text 0 0 ls

-- the helpers of these loops, numbered from J on, each on a line
abbrev pub helper_lines : List ℕ → ℕ → List Loop → List ℕ
helper_lines text j [] = []
helper_lines text j (l ∷ ls) = helper_text text j l ⊕ codes "\n" ⊕ helper_lines text (j + 1) ls

-- Where a text has loops, one line feed and their helpers follow it.
abbrev pub helpers : List ℕ → List Loop → List ℕ
helpers text [] = []
helpers text (l ∷ ls) = codes "\n" ⊕ helper_lines text 0 (l ∷ ls)

abbrev pub expansion : List ℕ → List Loop → List ℕ
expansion text ls = replaced text ls ⊕ helpers text ls

-- The tokens begin with `par call`.
abbrev pub StartsCall : List Lexeme → Type 0
StartsCall ts = IsTrue (begins_call ts)

-- The tokens begin with `par call`, and with no loop.
abbrev pub IsBad : List Lexeme → Type 0
IsBad ts = StartsCall ts × ((l : Loop) → ¬ (BeginsLoop l ts))

-- The first token is a name that the helper of one of so many loops has.
abbrev pub IsTaken : List ℕ → ℕ → List Lexeme → Type 0
IsTaken text count [] = ⊥
IsTaken text count (t ∷ ts) = (t.kind ≡ Name) × (j : ℕ) × (j < count) × (bytes_of text t ≡ sum_name j)

-- The first token from which on this holds stands at this place.
abbrev pub FirstAt : (List Lexeme → Type 0) → List Lexeme → ℕ → Type 0
FirstAt P [] at = ⊥
FirstAt P (t ∷ ts) at = (P (t ∷ ts) × (at ≡ t.at)) ⊎ ((¬ (P (t ∷ ts))) × FirstAt P ts at)

-- It holds from no token on.
abbrev pub Nowhere : (List Lexeme → Type 0) → List Lexeme → Type 0
Nowhere P [] = Unit {0}
Nowhere P (t ∷ ts) = (¬ (P (t ∷ ts))) × Nowhere P ts

-- What tokens of a text come to: the bytes of the expansion, where each `par call` begins a loop and no name is that of
-- a helper; the first `par call` that begins no loop; or else the first such name.
abbrev pub TokensExpand : List ℕ → List Lexeme → Result (List ℕ) ExpandFail → Type 0
TokensExpand text ts (Ok bytes) = (ls : List Loop) × AreLoops ts ls × Nowhere (IsTaken text (length ls)) ts × (bytes ≡ expansion text ls)
TokensExpand text ts (Err (BadLoop at)) = FirstAt IsBad ts at
TokensExpand text ts (Err (NameTaken at)) = (ls : List Loop) × AreLoops ts ls × FirstAt (IsTaken text (length ls)) ts at
TokensExpand text ts (Err (Refused e)) = ⊥
TokensExpand text ts (Err OutOfMemory) = ⊥

-- a token of a text by its kind, its value and its place
abbrev pub lexeme_of : Token → Lexeme
lexeme_of t = record { kind = t.kind; value = t.value; at = t.at; len = t.len; line = t.line }

abbrev pub LexedExpand : List ℕ → Lexed → Result (List ℕ) ExpandFail → Type 0
LexedExpand text (Ok ts) answer = TokensExpand text (map lexeme_of ts) answer
LexedExpand text (Err e) answer = answer ≡ Err (Refused e)

-- What a text comes to: that of its tokens, or the refusal of bytes that have no tokens.
abbrev pub Expands : List ℕ → Result (List ℕ) ExpandFail → Type 0
Expands text answer = LexedExpand text (text_tokens text) answer
