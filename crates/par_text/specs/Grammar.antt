-- The grammar of the language, and the tree that each form means. Parentheses leave no trace.
use Rattle.std.specs.Prelude.{ℕ, Bool, false, ◌||◌, not, List, [], ◌∷◌, Option, Some, None}
use Rattle.par_tree.specs.Tree.{Name, ChainOp, plus, minus, times, over, modulo, Comparison, equal, unequal, below, at_most, above, at_least, Expr, num, var, get, len_of, neg, chain, cmp, Links, last, link, unused, integer, block, Arg, value, lend, give, Stmt, let_stmt, assign_stmt, put_stmt, alloc_stmt, free_stmt, if_stmt, while_stmt, call_stmt, print_stmt, par_stmt, split_stmt, Body, done, step, Param, by_value, lent, owned, RetValue, gives, hands, Ret, Func, Program}
use Rattle.par_text.specs.declared.kind.Kind.{Kind}
use Rattle.par_text.specs.declared.kind.Kind.TheVariants as k
use Rattle.par_text.specs.Kinds.{is}
use Rattle.par_text.specs.Rule.{Token, Nonterminal, expression, factor, statements, TreeOf, Rule, nothing, token, mapped, pair, either, many, nest, within}

-- a rule and then another, of which only the second has a meaning
infixr 6 ◌⊳◌
abbrev pub ◌⊳◌ : {A X : Type 0} → Rule A → Rule X → Rule X
a ⊳ b = pair (λ _ x. x) a b

-- a rule and then another, of which only the first has a meaning
infixl 5 ◌⊲◌
abbrev pub ◌⊲◌ : {A X : Type 0} → Rule X → Rule A → Rule X
a ⊲ b = pair (λ x _. x) a b

-- a rule and then another, with both meanings
abbrev pub two : {A B : Type 0} → Rule A → Rule B → Rule (A × B)
two a b = pair (λ x y. (x, y)) a b

abbrev pub name_of : Token → Name
name_of t = t.bytes

unfoldable pub name : Rule Name
name = mapped name_of (token k.Name)

-- one kind or more
abbrev pub one_of : List Kind → Kind → Bool
one_of [] j = false
one_of (i ∷ is_) j = is i j || one_of is_ j

-- expressions

abbrev pub named : Name → Option Expr → Expr
named x None = var x
named b (Some i) = get b i

-- "[" expr "]", or nothing
unfoldable pub index_rule : Rule (Option Expr)
index_rule = either (is k.LeftBracket) (nest k.LeftBracket (within expression (λ e. Some e) ⊲ token k.RightBracket)) (nothing None)

-- factor = NAME | NAME "[" expr "]" | "len" "(" NAME ")" | "(" expr ")" | "-" factor | NUMBER
unfoldable pub extent_rule : Rule Expr
extent_rule = token k.Len ⊳ nest k.LeftParen (mapped len_of name ⊲ token k.RightParen)

unfoldable pub group_rule : Rule Expr
group_rule = nest k.LeftParen (within expression (λ e. e) ⊲ token k.RightParen)

unfoldable pub sign_rule : Rule Expr
sign_rule = nest k.Minus (within factor neg)

abbrev pub number_of : Token → Expr
number_of t = num t.value

unfoldable pub number_rule : Rule Expr
number_rule = mapped number_of (token k.Number)

unfoldable pub factor_rule : Rule Expr
factor_rule =
    either (is k.Name) (pair named name index_rule)
    (either (is k.Len) extent_rule
    (either (is k.LeftParen) group_rule
    (either (is k.Minus) sign_rule
    number_rule)))

-- an operand alone is no chain
abbrev pub chained : Expr → Links → Expr
chained e last = e
chained e (link op f rest) = chain e (link op f rest)

abbrev pub linked : ChainOp × Expr → Links → Links
linked l rest = link l.0 l.1 rest

-- term = factor { ( "*" | "/" | "%" ) factor }
abbrev pub is_term_operator : Kind → Bool
is_term_operator = one_of (k.Star ∷ k.Slash ∷ k.Percent ∷ [])

unfoldable pub term_operator : Rule ChainOp
term_operator =
    either (is k.Star) (mapped (λ _. times) (token k.Star))
    (either (is k.Slash) (mapped (λ _. over) (token k.Slash))
    (mapped (λ _. modulo) (token k.Percent)))

unfoldable pub term_link : Rule (ChainOp × Expr)
term_link = two term_operator factor_rule

unfoldable pub term_links : Rule Links
term_links = many is_term_operator linked last term_link

unfoldable pub term_rule : Rule Expr
term_rule = pair chained factor_rule term_links

-- sum = term { ( "+" | "-" ) term }
abbrev pub is_sum_operator : Kind → Bool
is_sum_operator = one_of (k.Plus ∷ k.Minus ∷ [])

unfoldable pub sum_operator : Rule ChainOp
sum_operator = either (is k.Plus) (mapped (λ _. plus) (token k.Plus)) (mapped (λ _. minus) (token k.Minus))

unfoldable pub sum_link : Rule (ChainOp × Expr)
sum_link = two sum_operator term_rule

unfoldable pub sum_links : Rule Links
sum_links = many is_sum_operator linked last sum_link

unfoldable pub sum_rule : Rule Expr
sum_rule = pair chained term_rule sum_links

-- expr = sum [ ( "==" | "!=" | "<" | "<=" | ">" | ">=" ) sum ]
abbrev pub is_comparison : Kind → Bool
is_comparison = one_of (k.EqualEqual ∷ k.NotEqual ∷ k.Less ∷ k.LessEqual ∷ k.Greater ∷ k.GreaterEqual ∷ [])

unfoldable pub comparison : Rule Comparison
comparison =
    either (is k.EqualEqual) (mapped (λ _. equal) (token k.EqualEqual))
    (either (is k.NotEqual) (mapped (λ _. unequal) (token k.NotEqual))
    (either (is k.Less) (mapped (λ _. below) (token k.Less))
    (either (is k.LessEqual) (mapped (λ _. at_most) (token k.LessEqual))
    (either (is k.Greater) (mapped (λ _. above) (token k.Greater))
    (mapped (λ _. at_least) (token k.GreaterEqual))))))

abbrev pub compared : Expr → Option (Comparison × Expr) → Expr
compared e None = e
compared e (Some c) = cmp c.0 e c.1

unfoldable pub compared_rule : Rule (Option (Comparison × Expr))
compared_rule = either is_comparison (pair (λ c e. Some (c, e)) comparison sum_rule) (nothing None)

unfoldable pub expr_rule : Rule Expr
expr_rule = pair compared sum_rule compared_rule

-- statements

-- body = "{" { stmt } "}"
unfoldable pub body_rule : Rule Body
body_rule = nest k.LeftBrace (within statements (λ b. b) ⊲ token k.RightBrace)

-- A statement and its line, which is that of its first token.
abbrev pub behind : {X : Type 0} → Kind → (X → Stmt) → Rule X → Rule (ℕ × Stmt)
behind j f r = pair (λ t x. (t.line, f x)) (token j) r

-- NAME "=" expr ";"
unfoldable pub named_value : Rule (Name × Expr)
named_value = two name (token k.Assign ⊳ expr_rule ⊲ token k.Semicolon)

abbrev pub declared : Name × Expr → Stmt
declared v = let_stmt v.0 v.1

-- "let" NAME "=" expr ";"
unfoldable pub let_rule : Rule (ℕ × Stmt)
let_rule = behind k.Let declared named_value

abbrev pub allocated : Name × Expr → Stmt
allocated v = alloc_stmt v.0 v.1

-- "alloc" NAME "=" expr ";"
unfoldable pub alloc_rule : Rule (ℕ × Stmt)
alloc_rule = behind k.Alloc allocated named_value

-- "free" NAME ";"
unfoldable pub free_rule : Rule (ℕ × Stmt)
free_rule = behind k.Free free_stmt (name ⊲ token k.Semicolon)

-- "print" expr ";"
unfoldable pub print_rule : Rule (ℕ × Stmt)
print_rule = behind k.Print print_stmt (expr_rule ⊲ token k.Semicolon)

abbrev pub written : Name → Option Expr × Expr → Stmt
written x (None, e) = assign_stmt x e
written b (Some i, e) = put_stmt b i e

-- [ "[" expr "]" ] "=" expr ";"
unfoldable pub written_value : Rule (Option Expr × Expr)
written_value = two index_rule (token k.Assign ⊳ expr_rule ⊲ token k.Semicolon)

-- NAME "=" expr ";" | NAME "[" expr "]" "=" expr ";"
unfoldable pub write_rule : Rule (ℕ × Stmt)
write_rule = pair (λ t v. (t.line, written t.bytes v)) (token k.Name) written_value

-- [ "else" body ]
unfoldable pub else_rule : Rule Body
else_rule = either (is k.Else) (token k.Else ⊳ body_rule) (nothing done)

abbrev pub chosen : Expr × (Body × Body) → Stmt
chosen v = if_stmt v.0 v.1.0 v.1.1

-- "if" expr body [ "else" body ]
unfoldable pub if_rule : Rule (ℕ × Stmt)
if_rule = behind k.If chosen (two expr_rule (two body_rule else_rule))

abbrev pub repeated : Expr × Body → Stmt
repeated v = while_stmt v.0 v.1

-- "while" expr body
unfoldable pub while_rule : Rule (ℕ × Stmt)
while_rule = behind k.While repeated (two expr_rule body_rule)

-- arg = expr | "use" NAME | "own" NAME
unfoldable pub arg_rule : Rule Arg
arg_rule =
    either (is k.Use) (token k.Use ⊳ mapped lend name)
    (either (is k.Own) (token k.Own ⊳ mapped give name)
    (within expression value))

abbrev pub listed : {A : Type 0} → A → List A → List A
listed x xs = x ∷ xs

unfoldable pub next_arg : Rule Arg
next_arg = token k.Comma ⊳ arg_rule

unfoldable pub more_args : Rule (List Arg)
more_args = many (is k.Comma) listed [] next_arg

-- [ arg { "," arg } ]
unfoldable pub arg_list : Rule (List Arg)
arg_list = either (λ j. not (is k.RightParen j)) (pair listed arg_rule more_args) (nothing [])

unfoldable pub args_rule : Rule (List Arg)
args_rule = nest k.LeftParen (arg_list ⊲ token k.RightParen)

abbrev pub answering : Name → Option Name × List Arg → Stmt
answering f (None, xs) = call_stmt unused f xs
answering x (Some f, xs) = call_stmt (integer x) f xs

-- [ "=" NAME ]
unfoldable pub callee_rule : Rule (Option Name)
callee_rule = either (is k.Assign) (token k.Assign ⊳ mapped (λ x. Some x) name) (nothing None)

-- "own" NAME "=" NAME "(" [ arg { "," arg } ] ")"
unfoldable pub owning_call : Rule Stmt
owning_call = token k.Own ⊳ pair (λ x c. call_stmt (block x) c.0 c.1) name (token k.Assign ⊳ two name args_rule)

-- [ NAME "=" ] NAME "(" [ arg { "," arg } ] ")"
unfoldable pub plain_call : Rule Stmt
plain_call = pair answering name (two callee_rule args_rule)

unfoldable pub any_call : Rule Stmt
any_call = either (is k.Own) owning_call plain_call

-- "call" [ NAME "=" | "own" NAME "=" ] NAME "(" [ arg { "," arg } ] ")" ";"
unfoldable pub call_rule : Rule (ℕ × Stmt)
call_rule = behind k.Call (λ s. s) (any_call ⊲ token k.Semicolon)

abbrev pub forked : Body × Body → Stmt
forked v = par_stmt v.0 v.1

-- "par" body "and" body
unfoldable pub par_rule : Rule (ℕ × Stmt)
par_rule = behind k.Par forked (two body_rule (token k.And ⊳ body_rule))

-- NAME "," NAME
unfoldable pub parts_rule : Rule (Name × Name)
parts_rule = two name (token k.Comma ⊳ name)

abbrev pub parted : Name × (Expr × ((Name × Name) × Body)) → Stmt
parted v = split_stmt v.0 v.1.0 v.1.1.0.0 v.1.1.0.1 v.1.1.1

-- "split" NAME "at" expr "into" NAME "," NAME body
unfoldable pub split_rule : Rule (ℕ × Stmt)
split_rule = behind k.Split parted (two name (token k.At ⊳ two expr_rule (token k.Into ⊳ two parts_rule body_rule)))

-- stmt
unfoldable pub stmt_rule : Rule (ℕ × Stmt)
stmt_rule =
    either (is k.Let) let_rule
    (either (is k.Alloc) alloc_rule
    (either (is k.Free) free_rule
    (either (is k.If) if_rule
    (either (is k.While) while_rule
    (either (is k.Call) call_rule
    (either (is k.Print) print_rule
    (either (is k.Par) par_rule
    (either (is k.Split) split_rule
    write_rule))))))))

abbrev pub begins_statement : Kind → Bool
begins_statement =
    one_of (k.Let ∷ k.Alloc ∷ k.Free ∷ k.If ∷ k.While ∷ k.Call ∷ k.Print ∷ k.Par ∷ k.Split ∷ k.Name ∷ [])

abbrev pub stepped : ℕ × Stmt → Body → Body
stepped s rest = step s.0 s.1 rest

-- { stmt }
unfoldable pub stmts_rule : Rule Body
stmts_rule = many begins_statement stepped done stmt_rule

-- functions

abbrev pub param_of : Name → Param
param_of x = record { name = x; kind = by_value }

abbrev pub lent_param : Name → Param
lent_param x = record { name = x; kind = lent }

abbrev pub owned_param : Name → Param
owned_param x = record { name = x; kind = owned }

-- param = NAME | "use" NAME | "own" NAME
unfoldable pub param_rule : Rule Param
param_rule =
    either (is k.Use) (token k.Use ⊳ mapped lent_param name)
    (either (is k.Own) (token k.Own ⊳ mapped owned_param name)
    (mapped param_of name))

unfoldable pub next_param : Rule Param
next_param = token k.Comma ⊳ param_rule

unfoldable pub more_params : Rule (List Param)
more_params = many (is k.Comma) listed [] next_param

-- [ param { "," param } ]
unfoldable pub param_list : Rule (List Param)
param_list = either (λ j. not (is k.RightParen j)) (pair listed param_rule more_params) (nothing [])

unfoldable pub params_rule : Rule (List Param)
params_rule = nest k.LeftParen (param_list ⊲ token k.RightParen)

-- expr | "own" NAME
unfoldable pub ret_value : Rule RetValue
ret_value = either (is k.Own) (token k.Own ⊳ mapped hands name) (within expression gives)

abbrev pub returned : Token → RetValue → Option Ret
returned t v = Some record { line = t.line; value = v }

-- [ "return" ( expr | "own" NAME ) ";" ]
unfoldable pub ret_rule : Rule (Option Ret)
ret_rule = either (is k.Return) (pair returned (token k.Return) (ret_value ⊲ token k.Semicolon)) (nothing None)

unfoldable pub func_body : Rule (Body × Option Ret)
func_body = nest k.LeftBrace (two (within statements (λ b. b)) ret_rule ⊲ token k.RightBrace)

abbrev pub func_of : Token → Name × (List Param × (Body × Option Ret)) → Func
func_of t f = record { name = f.0; params = f.1.0; body = f.1.1.0; ret = f.1.1.1; line = t.line }

-- func = "fn" NAME "(" [ param { "," param } ] ")" "{" { stmt } [ "return" .. ";" ] "}"
unfoldable pub func_rule : Rule Func
func_rule = pair func_of (token k.Fn) (two name (two params_rule func_body))

unfoldable pub more_funcs : Rule (List Func)
more_funcs = many (is k.Fn) listed [] func_rule

-- program = func { func }
unfoldable pub program_rule : Rule Program
program_rule = pair listed func_rule more_funcs

-- the rules of the nonterminals that stand inside themselves
abbrev pub rule : (s : Nonterminal) → Rule (TreeOf s)
rule expression = expr_rule
rule factor = factor_rule
rule statements = stmts_rule
