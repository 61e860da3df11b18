-- What is known of the statements of a text.
use Rattle.std.proofs.Common.{◌≡◌, ℕ, zero, suc, ◌+◌, List}
use Rattle.std.specs.Prelude.{Option, Some, None}
use Rattle.par_tree.specs.Tree.{Expr, unused, integer, block, Arg, Stmt, Body, done, step}
use Rattle.par_text.specs.declared.kind.Kind.{Kind}
use Rattle.par_text.specs.Rule.{Nonterminal, TreeOf, Rule, expression, factor, statements}
use Rattle.par_text.specs.Text.{Nested, nested_spelling, nested_meaning}
use Rattle.par_text.specs.Grammar.{expr_rule, body_rule, behind, named_value, let_rule, alloc_rule, free_rule, print_rule, written, written_value, write_rule, else_rule, if_rule, while_rule, arg_rule, next_arg, more_args, arg_list, args_rule, answering, callee_rule, owning_call, plain_call, any_call, call_rule, par_rule, parts_rule, split_rule, stmt_rule, stmts_rule}
use Rattle.canonical_text.specs.declared.place.Place.TheVariants.{Expression, Factor}
use Rattle.canonical_text.proofs.Leaves.{IsName}
use Rattle.canonical_text.proofs.Places.{Claim}
use Rattle.canonical_text.proofs.Sound.{Sound, Tells, tells_anything, tells_nothing, tells_token, tells_mapped, tells_weaker, tells_pair, tells_then, tells_before, tells_either, tells_many, tells_nest, tells_within}
use Rattle.canonical_text.proofs.Expressions.{Inside, IndexClaim, tells_name, tells_index, tells_factor, tells_expression}
use Rattle.canonical_text.proofs.Statements.{BodyClaim, StmtClaim, declare_claim, allocate_claim, release_claim, print_claim, assign_claim, store_claim, repeat_claim, ElseClaim, choose_claim, both_claim, split_claim, ArgClaim, ArgsClaim, value_claim, lend_claim, give_claim, call_claim, done_claim, step_claim}

abbrev StepClaim : ℕ → ℕ → ℕ × Stmt → Type 0
StepClaim most n s = StmtClaim most n s.1

abbrev pub InnerClaim : ℕ → (s : Nonterminal) → ℕ → TreeOf s → Type 0
InnerClaim most expression n e = Claim most Expression n e
InnerClaim most factor n e = Claim most Factor n e
InnerClaim most statements n b = BodyClaim most n b

-- what is known of the forms of the nonterminals
abbrev pub Known : ℕ → ℕ → Type 0
Known most size = (s : Nonterminal) (depth n : ℕ) → depth + n ≡ most → (d : Nested size s) → Sound most (nested_spelling size depth s d) → InnerClaim most s n (nested_meaning size s d)

written_claim : {most n : ℕ} (x : List ℕ) (v : Option Expr × Expr) → IsName x → IndexClaim most n v.0 × Claim most Expression n v.1 → StmtClaim most n (written x v)
written_claim x (None, e) h c = assign_claim x e h c.1
written_claim x (Some i, e) h c = store_claim x i e h c.0 c.1

else_claim : {most n : ℕ} (b : Body) → Inside n (λ m. BodyClaim most m b) → ElseClaim most n b
else_claim done h = tt
else_claim (step l s rest) h = h

abbrev MaybeName : Option (List ℕ) → Type 0
MaybeName None = Unit {0}
MaybeName (Some x) = IsName x

answering_claim : {most n : ℕ} (x : List ℕ) (v : Option (List ℕ) × List Arg) → IsName x → MaybeName v.0 × Inside n (λ m. ArgsClaim most m v.1) → StmtClaim most n (answering x v)
answering_claim x (None, xs) h c = call_claim unused x xs tt h c.1
answering_claim x (Some f, xs) h c = call_claim (integer x) f xs h c.0 c.1

module _ {most size : ℕ} (known : Known most size) where
  pub tells_arg : (depth n : ℕ) → depth + n ≡ most → Tells most size depth arg_rule (ArgClaim most n)
  unfolding arg_rule
  tells_arg depth n room =
      tells_either (tells_then (tells_mapped (λ x h. lend_claim x h) tells_name))
      (tells_either (tells_then (tells_mapped (λ x h. give_claim x h) tells_name))
      (tells_within (λ e c. value_claim e c) (known expression depth n room)))

  tells_more_args : (depth n : ℕ) → depth + n ≡ most → Tells most size depth more_args (ArgsClaim most n)
  unfolding more_args next_arg
  tells_more_args depth n room = tells_many tt (λ x xs h g. (h, g)) (tells_then (tells_arg depth n room))

  tells_arg_list : (depth n : ℕ) → depth + n ≡ most → Tells most size depth arg_list (ArgsClaim most n)
  unfolding arg_list
  tells_arg_list depth n room = tells_either (tells_pair (λ x xs h g. (h, g)) (tells_arg depth n room) (tells_more_args depth n room)) (tells_nothing tt)

  module _ (depth n : ℕ) (room : depth + n ≡ most) where
    tells_value : Tells most size depth expr_rule (Claim most Expression n)
    tells_value = tells_expression (known expression) (known factor) depth n room

    tells_named_value : Tells most size depth named_value (λ v. IsName v.0 × Claim most Expression n v.1)
    unfolding named_value
    tells_named_value = tells_pair (λ x e h c. (h, c)) tells_name (tells_before (tells_then tells_value))

    tells_body : Tells most size depth body_rule (λ b. Inside n (λ m. BodyClaim most m b))
    unfolding body_rule
    tells_body = tells_nest n room (λ m is e. tells_before (tells_within (λ b h. record { room = m; is = is; holds = h }) (known statements (depth + 1) m e)))

    tells_behind : {X : Type 0} {j : Kind} {f : X → Stmt} {r : Rule X} {P : X → Type 0} → ((x : X) → P x → StmtClaim most n (f x)) → Tells most size depth r P → Tells most size depth (behind j f r) (StepClaim most n)
    tells_behind h p = tells_pair {P = λ t. Unit {0}} (λ t x g q. h x q) tells_anything p

    tells_let : Tells most size depth let_rule (StepClaim most n)
    unfolding let_rule
    tells_let = tells_behind (λ v h. declare_claim v.0 v.1 h.0 h.1) tells_named_value

    tells_alloc : Tells most size depth alloc_rule (StepClaim most n)
    unfolding alloc_rule
    tells_alloc = tells_behind (λ v h. allocate_claim v.0 v.1 h.0 h.1) tells_named_value

    tells_free : Tells most size depth free_rule (StepClaim most n)
    unfolding free_rule
    tells_free = tells_behind (λ x h. release_claim x h) (tells_before tells_name)

    tells_print : Tells most size depth print_rule (StepClaim most n)
    unfolding print_rule
    tells_print = tells_behind (λ e c. print_claim e c) (tells_before tells_value)

    tells_write : Tells most size depth write_rule (StepClaim most n)
    unfolding write_rule written_value
    tells_write =
        tells_pair (λ t v h g. written_claim t.bytes v h.0 g) tells_token
        (tells_pair (λ o e i c. (i, c)) (tells_index (known expression) (known factor) depth n room) (tells_before (tells_then tells_value)))

    tells_else : Tells most size depth else_rule (ElseClaim most n)
    unfolding else_rule
    tells_else = tells_either (tells_weaker else_claim (tells_then tells_body)) (tells_nothing tt)

    tells_if : Tells most size depth if_rule (StepClaim most n)
    unfolding if_rule
    tells_if =
        tells_behind {P = λ v. Claim most Expression n v.0 × (Inside n (λ m. BodyClaim most m v.1.0) × ElseClaim most n v.1.1)} (λ v h. choose_claim v.0 v.1.0 v.1.1 h.0 h.1.0 h.1.1)
        (tells_pair (λ x y h g. (h, g)) tells_value (tells_pair (λ x y h g. (h, g)) tells_body tells_else))

    tells_while : Tells most size depth while_rule (StepClaim most n)
    unfolding while_rule
    tells_while =
        tells_behind {P = λ v. Claim most Expression n v.0 × Inside n (λ m. BodyClaim most m v.1)} (λ v h. repeat_claim v.0 v.1 h.0 h.1) (tells_pair (λ x y h g. (h, g)) tells_value tells_body)

    tells_par : Tells most size depth par_rule (StepClaim most n)
    unfolding par_rule
    tells_par =
        tells_behind {P = λ v. Inside n (λ m. BodyClaim most m v.0) × Inside n (λ m. BodyClaim most m v.1)} (λ v h. both_claim v.0 v.1 h.0 h.1)
        (tells_pair (λ x y h g. (h, g)) tells_body (tells_then tells_body))

    tells_parts : Tells most size depth parts_rule (λ v. IsName v.0 × IsName v.1)
    unfolding parts_rule
    tells_parts = tells_pair (λ x y h g. (h, g)) tells_name (tells_then tells_name)

    tells_split : Tells most size depth split_rule (StepClaim most n)
    unfolding split_rule
    tells_split =
        tells_behind {P = λ v. IsName v.0 × (Claim most Expression n v.1.0 × ((IsName v.1.1.0.0 × IsName v.1.1.0.1) × Inside n (λ m. BodyClaim most m v.1.1.1)))}
        (λ v h. split_claim v.0 v.1.0 v.1.1.0.0 v.1.1.0.1 v.1.1.1 h.0 h.1.0 h.1.1.0.0 h.1.1.0.1 h.1.1.1)
        (tells_pair (λ x y h g. (h, g)) tells_name (tells_then (tells_pair (λ x y h g. (h, g)) tells_value (tells_then (tells_pair (λ x y h g. (h, g)) tells_parts tells_body)))))

    tells_args : Tells most size depth args_rule (λ xs. Inside n (λ m. ArgsClaim most m xs))
    unfolding args_rule
    tells_args = tells_nest n room (λ m is e. tells_before (tells_weaker (λ xs h. record { room = m; is = is; holds = h }) (tells_arg_list (depth + 1) m e)))

    tells_callee : Tells most size depth callee_rule MaybeName
    unfolding callee_rule
    tells_callee = tells_either (tells_then (tells_mapped (λ x h. h) tells_name)) (tells_nothing tt)

    tells_any_call : Tells most size depth any_call (StmtClaim most n)
    unfolding any_call owning_call plain_call
    tells_any_call =
        tells_either
        (tells_then (tells_pair {Q = λ c. IsName c.0 × Inside n (λ m. ArgsClaim most m c.1)} (λ x c h g. call_claim (block x) c.0 c.1 h g.0 g.1) tells_name (tells_then (tells_pair (λ x y h g. (h, g)) tells_name tells_args))))
        (tells_pair answering_claim tells_name (tells_pair (λ x y h g. (h, g)) tells_callee tells_args))

    tells_call : Tells most size depth call_rule (StepClaim most n)
    unfolding call_rule
    tells_call = tells_behind (λ s h. h) (tells_before tells_any_call)

    tells_stmt : Tells most size depth stmt_rule (StepClaim most n)
    unfolding stmt_rule
    tells_stmt =
        tells_either tells_let (tells_either tells_alloc (tells_either tells_free (tells_either tells_if (tells_either tells_while (tells_either tells_call (tells_either tells_print (tells_either tells_par (tells_either tells_split tells_write))))))))

    tells_stmts : Tells most size depth stmts_rule (BodyClaim most n)
    unfolding stmts_rule
    tells_stmts = tells_many done_claim step_claim tells_stmt

-- the forms of the nonterminals, however deep
pub known_all : (most size : ℕ) → Known most size
known_all most zero s depth n room d h = absurd d
known_all most (suc size) expression depth n room d h = (tells_expression (known_all most size expression) (known_all most size factor) depth n room).tells d h
known_all most (suc size) factor depth n room d h = (tells_factor (known_all most size expression) (known_all most size factor) depth n room).tells d h
known_all most (suc size) statements depth n room d h = (tells_stmts (known_all most size) depth n room).tells d h
