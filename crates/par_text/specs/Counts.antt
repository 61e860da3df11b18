-- How many functions there are, and how many names a function declares.
use Rattle.std.specs.Prelude.{ℕ, ◌+◌, Bool, false, ◌&&◌, ◌||◌, not, nat_lt, if◌then◌else◌, List, [], ◌∷◌, Option, Some, None}
use Rattle.language_limits.specs.declared.TheConstants.{MOST_FUNCTIONS, MOST_NAMES}
use Rattle.par_text.specs.declared.kind.Kind.{Kind}
use Rattle.par_text.specs.declared.kind.Kind.TheVariants as k
use Rattle.par_text.specs.Kinds.{is}
use Rattle.par_text.specs.Rule.{Token}

-- What stands before a token: how many functions have begun, how many names the last one has declared,
-- whether its parameters are not closed yet, and the kinds of the three tokens before, the last one
-- first.
pub record Before : Type 0 where
  pub functions : ℕ
  pub names : ℕ
  pub in_header : Bool
  pub last : Kind
  pub second : Kind
  pub third : Kind

abbrev pub at_start : Before
at_start = record { functions = 0; names = 0; in_header = false; last = k.End; second = k.End; third = k.End }

-- A name is declared as a parameter, by `let` or `alloc`, as one of the two of `split .. into`, and by
-- `call own`.
abbrev pub is_declared : Before → Bool
is_declared b =
    (b.in_header && not (is k.Fn b.last))
    || (is k.Let b.last || (is k.Alloc b.last || (is k.Into b.last ||
    ((is k.Comma b.last && is k.Into b.third) || (is k.Own b.last && is k.Call b.second)))))

abbrev pub names_after : Before → Kind → ℕ
names_after b j = if is k.Fn j then 0 else (if is k.Name j && is_declared b then b.names + 1 else b.names)

abbrev pub functions_after : Before → Kind → ℕ
functions_after b j = if is k.Fn j then b.functions + 1 else b.functions

abbrev pub in_header_after : Before → Kind → Bool
in_header_after b j = is k.Fn j || (b.in_header && not (is k.RightParen j))

abbrev pub after : Before → Kind → Before
after b j = record {
  functions = functions_after b j;
  names = names_after b j;
  in_header = in_header_after b j;
  last = j;
  second = b.last;
  third = b.second;
}

abbrev pub most_functions : ℕ
most_functions = MOST_FUNCTIONS

abbrev pub most_names : ℕ
most_names = MOST_NAMES

abbrev pub is_too_many : Before → Bool
is_too_many b = nat_lt most_functions b.functions || nat_lt most_names b.names

-- the place among the tokens of the first that is one function or one declared name too many
unfoldable pub crowded_from : ℕ → Before → List Token → Option ℕ
crowded_from i b [] = None
crowded_from i b (t ∷ ts) = if is_too_many (after b t.kind) then Some i else crowded_from (i + 1) (after b t.kind) ts

abbrev pub crowded : List Token → Option ℕ
crowded ts = crowded_from 0 at_start ts
