-- A node table as plain data, whatever memory holds it. Each word is named as in the Rust type; slots stand in place of names, and numbers
-- of nodes in place of lists of statements.
use Rattle.std.specs.Prelude.{ℕ, ℤ, List, Option}
use Rattle.par_tree.specs.Tree.{ChainOp, Comparison}

-- an expression over slots, and the links of a chain
mutual
  pub data Expr : Type 0 where
    num : ℤ → Expr
    var : ℕ → Expr
    get : ℕ → Expr → Expr
    len_of : ℕ → Expr
    neg : Expr → Expr
    chain : Expr → Links → Expr
    cmp : Comparison → Expr → Expr → Expr

  pub data Links : Type 0 where
    last : Links
    link : ChainOp → Expr → Links → Links

-- where the answer of a call goes: nowhere, to the integer of a slot, to a slot as a new owned block
pub data Target : Type 0 where
  unused : Target
  integer : ℕ → Target
  block : ℕ → Target

-- an argument: an integer, the block of a slot that is lent, the block of a slot that is given
pub data Arg : Type 0 where
  value : Expr → Arg
  lend : ℕ → Arg
  give : ℕ → Arg

-- what a `return` gives back: an integer, or the block of a slot
pub data RetValue : Type 0 where
  gives : Expr → RetValue
  hands : ℕ → RetValue

pub record Ret : Type 0 where
  pub line : ℕ
  pub value : RetValue

-- What a statement does, with the numbers of those inside it. In `call_node t f args` the function is that of number f; in
-- `both_node a b blocks assigned` the slots are those of the first branch.
pub data Kind : Type 0 where
  let_node : ℕ → Expr → Kind
  assign_node : ℕ → Expr → Kind
  put_node : ℕ → Expr → Expr → Kind
  alloc_node : ℕ → Expr → Kind
  free_node : ℕ → Kind
  if_node : Expr → List ℕ → List ℕ → Kind
  while_node : Expr → List ℕ → Kind
  call_node : Target → ℕ → List Arg → Kind
  print_node : Expr → Kind
  both_node : List ℕ → List ℕ → List ℕ → List ℕ → Kind
  split_node : ℕ → Expr → ℕ → ℕ → List ℕ → Kind

pub record Node : Type 0 where
  pub line : ℕ
  pub kind : Kind

-- a function: how many slots its frame has, the slots of its parameters, the numbers of its statements, and its `return`
pub record Function : Type 0 where
  pub slots : ℕ
  pub params : List ℕ
  pub body : List ℕ
  pub ret : Option Ret

-- the nodes by number, the functions by number, and the number of `main`
pub record Table : Type 0 where
  pub nodes : List Node
  pub funcs : List Function
  pub main : ℕ
