-- Reading loops from tokens, from the left.
use Rattle.std.specs.Prelude.{ℕ, zero, suc, Bool, List, [], ◌∷◌, length, take, drop, Option, Some, None, Result, Ok, Err, if◌then◌else◌}
use Rattle.par_text.specs.declared.kind.Kind.{Kind}
use Rattle.par_text.specs.declared.kind.Kind.TheVariants.{Name, Number, LeftParen, RightParen, Comma, Semicolon, Assign, Par, Call, Into, Use, At}
use Rattle.par_text.specs.Kinds.{is}
use Rattle.par_lex.specs.declared.lexeme.Lexeme.{Lexeme}
use Rattle.loop_expand.specs.Runs.{is_plain, is_inner, closer}
use Rattle.loop_expand.specs.Loops.{Range, numbers, parts, Loop, is_size, next_is, begins_call}

-- the value and the tokens behind it, where there is one
abbrev pub Answer : Type 0 → Type 0
Answer X = Option (X × List Lexeme)

infixl 10 ◌>>=◌
abbrev pub ◌>>=◌ : {A B : Type 0} → Answer A → (A × List Lexeme → Answer B) → Answer B
(Some x) >>= f = f x
None >>= f = None

-- What a token does to a run in which brackets are open: the run goes on, with these brackets open; it has ended before
-- the token; or there is none. A bracket that is open is told by the one that closes it, the innermost first.
pub data Turn : Type 0 where
  goes_on : List Kind → Turn
  ends : Turn
  breaks : Turn

-- the kinds that pass
abbrev pub passes : List Kind → Kind → Bool
passes [] k = is_plain k
passes (c ∷ cs) k = is_inner k

abbrev pub closed : List Kind → Kind → Turn
closed [] k = ends
closed (c ∷ cs) k = if is c k then goes_on cs else breaks

abbrev pub opened : Option Kind → List Kind → Kind → Turn
opened (Some c) cs k = goes_on (c ∷ cs)
opened None cs k = closed cs k

abbrev pub turn : List Kind → Kind → Turn
turn cs k = if passes cs k then goes_on cs else opened (closer k) cs k

abbrev pub one_more : Option ℕ → Option ℕ
one_more (Some n) = Some (suc n)
one_more None = None

abbrev pub behind_turn : Turn → (List Kind → Option ℕ) → Option ℕ
behind_turn (goes_on cs) rest = one_more (rest cs)
behind_turn ends rest = Some 0
behind_turn breaks rest = None

abbrev pub at_end : List Kind → Option ℕ
at_end [] = Some 0
at_end (c ∷ cs) = None

-- how many tokens the run has that stands first, where these brackets are open
unfoldable pub scan : List Lexeme → List Kind → Option ℕ
scan [] cs = at_end cs
scan (t ∷ ts) cs = behind_turn (turn cs t.kind) (scan ts)

abbrev pub cut_run : Option ℕ → List Lexeme → Answer (List Lexeme)
cut_run None ts = None
cut_run (Some zero) ts = None
cut_run (Some (suc n)) ts = Some (take (suc n) ts, drop (suc n) ts)

-- the run that stands first
unfoldable pub read_run : List Lexeme → Answer (List Lexeme)
read_run ts = cut_run (scan ts []) ts

-- one token of a kind
abbrev pub read_one : Kind → List Lexeme → Answer Lexeme
read_one k [] = None
read_one k (t ∷ ts) = if is k t.kind then Some (t, ts) else None

-- a number that is a size
abbrev pub read_size : List Lexeme → Answer Lexeme
read_size ts = read_one Number ts >>= λ n. if is_size n.0.value then Some n else None

-- `E1 into E2`
unfoldable pub read_numbers : List Lexeme → Answer Range
read_numbers ts = read_run ts >>= λ low. read_one Into low.1 >>= λ i. read_run i.1 >>= λ high. Some (numbers low.0 high.0, high.1)

-- `use B at G`
unfoldable pub read_parts : List Lexeme → Answer Range
read_parts ts = read_one Use ts >>= λ u. read_one Name u.1 >>= λ b. read_one At b.1 >>= λ a. read_size a.1 >>= λ n. Some (parts b.0 n.0, n.1)

unfoldable pub read_range : List Lexeme → Answer Range
read_range ts = if next_is Use ts then read_parts ts else read_numbers ts

-- a comma and a run
unfoldable pub read_other : List Lexeme → Answer (List Lexeme)
read_other ts = read_one Comma ts >>= λ c. read_run c.1

-- at most so many times
unfoldable pub read_others : ℕ → List Lexeme → Answer (List (List Lexeme))
read_others zero ts = Some ([], ts)
read_others (suc n) ts =
    if next_is Comma ts then (read_other ts >>= λ r. read_others n r.1 >>= λ rs. Some (r.0 ∷ rs.0, rs.1)) else Some ([], ts)

-- `par call X = F (`
pub record Head : Type 0 where
  pub opening : Lexeme
  pub target : Lexeme
  pub function : Lexeme

-- `par call X =`
unfoldable pub read_target : List Lexeme → Answer (Lexeme × Lexeme)
read_target ts =
    read_one Par ts >>= λ p. read_one Call p.1 >>= λ c. read_one Name c.1 >>= λ x. read_one Assign x.1 >>= λ e. Some ((p.0, x.0), e.1)

unfoldable pub read_head : List Lexeme → Answer Head
read_head ts =
    read_target ts >>= λ x. read_one Name x.1 >>= λ f. read_one LeftParen f.1 >>= λ o.
    Some (record { opening = x.0.0; target = x.0.1; function = f.0 }, o.1)

-- `) ;`
unfoldable pub read_closing : List Lexeme → Answer Lexeme
read_closing ts = read_one RightParen ts >>= λ z. read_one Semicolon z.1

abbrev pub whole : Head → Range → List (List Lexeme) → Lexeme → Loop
whole h r rs z = record { opening = h.opening; target = h.target; function = h.function; range = r; others = rs; closing = z }

-- the loop that stands first
unfoldable pub read_loop : List Lexeme → Answer Loop
read_loop ts =
    read_head ts >>= λ h. read_range h.1 >>= λ r. read_others (length r.1) r.1 >>= λ rs. read_closing rs.1 >>= λ z.
    Some (whole h.0 r.0 rs.0 z.0, z.1)

-- a loop in front of those behind it, or the place of what is none
abbrev pub with_loop : Answer Loop → ℕ → Result (List Loop) ℕ → Result (List Loop) ℕ
with_loop None at rest = Err at
with_loop (Some l) at (Ok ls) = Ok (l.0 ∷ ls)
with_loop (Some l) at (Err e) = Err e

-- all loops, or the place of the first `par call` that begins none
unfoldable pub loops_of : List Lexeme → Result (List Loop) ℕ
loops_of [] = Ok []
loops_of (t ∷ ts) = if begins_call (t ∷ ts) then with_loop (read_loop (t ∷ ts)) t.at (loops_of ts) else loops_of ts
