-- The tree of a program as plain data, which all definitions about programs speak of. A list that
-- leads back to its owner has a type of its own beside it, so that a definition recurses on both.
use Rattle.std.specs.Prelude.{ℕ, ℤ, List, Option}

-- a name is its bytes
abbrev pub Name : Type 0
Name = List ℕ

-- an operator of a chain
pub data ChainOp : Type 0 where
  plus : ChainOp
  minus : ChainOp
  times : ChainOp
  over : ChainOp
  modulo : ChainOp

-- a comparison
pub data Comparison : Type 0 where
  equal : Comparison
  unequal : Comparison
  below : Comparison
  at_most : Comparison
  above : Comparison
  at_least : Comparison

-- an expression, and the operators and operands of a chain behind its first operand
mutual
  pub data Expr : Type 0 where
    num : ℤ → Expr
    var : Name → Expr
    get : Name → Expr → Expr
    len_of : Name → Expr
    neg : Expr → Expr
    chain : Expr → Links → Expr
    cmp : Comparison → Expr → Expr → Expr

  pub data Links : Type 0 where
    last : Links
    link : ChainOp → Expr → Links → Links

-- where the answer of a call goes: nowhere, to an integer, to a new owned block
pub data Target : Type 0 where
  unused : Target
  integer : Name → Target
  block : Name → Target

-- an argument: an integer, a block that is lent, a block that is given
pub data Arg : Type 0 where
  value : Expr → Arg
  lend : Name → Arg
  give : Name → Arg

-- A statement, and a list of statements with their lines: `step line statement rest`. Each is named as in the Rust type; `put_stmt b i e`
-- is `b[i] = e`, and in `split_stmt b e l r body` the block b is cut at e into l and r.
mutual
  pub data Stmt : Type 0 where
    let_stmt : Name → Expr → Stmt
    assign_stmt : Name → Expr → Stmt
    put_stmt : Name → Expr → Expr → Stmt
    alloc_stmt : Name → Expr → Stmt
    free_stmt : Name → Stmt
    if_stmt : Expr → Body → Body → Stmt
    while_stmt : Expr → Body → Stmt
    call_stmt : Target → Name → List Arg → Stmt
    print_stmt : Expr → Stmt
    par_stmt : Body → Body → Stmt
    split_stmt : Name → Expr → Name → Name → Body → Stmt

  pub data Body : Type 0 where
    done : Body
    step : ℕ → Stmt → Body → Body

-- what a parameter takes: an integer, a block that is lent, a block that is given
pub data ParamKind : Type 0 where
  by_value : ParamKind
  lent : ParamKind
  owned : ParamKind

pub record Param : Type 0 where
  pub name : Name
  pub kind : ParamKind

-- what a `return` gives back: an integer, or a block
pub data RetValue : Type 0 where
  gives : Expr → RetValue
  hands : Name → RetValue

pub record Ret : Type 0 where
  pub line : ℕ
  pub value : RetValue

-- a function, with the line of its `fn`
pub record Func : Type 0 where
  pub name : Name
  pub params : List Param
  pub body : Body
  pub ret : Option Ret
  pub line : ℕ

-- a program is its functions, in the order of the text
abbrev pub Program : Type 0
Program = List Func
