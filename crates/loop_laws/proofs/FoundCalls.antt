-- Each `call` among the tokens of a program begins the call of a statement of it.
use Rattle.std.proofs.Common.{◌≡◌, ℕ, zero, suc, ◌+◌, Bool, true, false, List, [], ◌∷◌, ◌++◌, ◌⊎◌, inl, inr, refl, sym, ap, ◌∙◌, subst, append_assoc}
use Rattle.std.proofs.lemmas.List.{append-nil}
use Rattle.par_tree.specs.Tree.{Stmt, Program}
use Rattle.par_text.specs.declared.kind.Kind.{Kind}
use Rattle.par_text.specs.declared.kind.Kind.TheVariants as k
use Rattle.par_text.specs.Kinds.{is}
use Rattle.par_text.specs.Rule.{Token, Nonterminal, expression, factor, statements, TreeOf, Rule, token, pair, either, many, nest, within}
use Rattle.par_text.specs.Form.{Form, tokens_of}
use Rattle.par_text.specs.Text.{Nested, nested_spelling, nested_meaning, IsProgram}
use Rattle.par_text.specs.Grammar.{rule, ◌⊳◌, ◌⊲◌, name, index_rule, extent_rule, group_rule, sign_rule, number_rule, factor_rule, term_operator, term_link, term_links, term_rule, sum_operator, sum_link, sum_links, sum_rule, comparison, compared_rule, expr_rule, body_rule, named_value, let_rule, alloc_rule, free_rule, print_rule, written_value, write_rule, else_rule, if_rule, while_rule, arg_rule, next_arg, more_args, arg_list, args_rule, callee_rule, owning_call, plain_call, any_call, call_rule, par_rule, parts_rule, split_rule, stmt_rule, stmts_rule, param_rule, next_param, more_params, param_list, params_rule, ret_value, ret_rule, func_body, func_rule, more_funcs, program_rule}
use Rattle.par_text.proofs.Marks.{tokens_of-append}
use Rattle.canonical_text.proofs.Written.{spells, means_of}
use Rattle.loop_laws.specs.LoopCalls.{OfSome, OfSomeInside, OfSomeStatement}
use Rattle.loop_laws.proofs.Without.{false_true, Without, without_middle, is_without, AreWithout, spells_without, nested_without, InFirst, InSecond, head_same, tail_same, in_one}

abbrev pub is_expression : Nonterminal → Bool
is_expression expression = true
is_expression factor = true
is_expression statements = false

expressions_without_calls : (s : Nonterminal) → is_expression s ≡ true → is_without k.Call is_expression (rule s) ≡ true
unfolding name index_rule extent_rule group_rule sign_rule number_rule factor_rule term_operator term_link term_links term_rule sum_operator sum_link sum_links sum_rule comparison compared_rule expr_rule
expressions_without_calls expression h = refl
expressions_without_calls factor h = refl
expressions_without_calls statements h = cc

no_calls : (size : ℕ) → AreWithout k.Call is_expression size
no_calls size = nested_without k.Call is_expression expressions_without_calls size

-- What is asked of the call that begins before all these tokens: it holds of the statement of each form of a call that
-- stands first among them, with its `;` behind it.
abbrev pub HoldsOfCalls : List Token → (Stmt → Type 0) → Type 0
HoldsOfCalls all Q =
    (size depth : ℕ) (d : Form (Nested size) any_call) (closing : Token) (behind : List Token) → closing.kind ≡ k.Semicolon
    → tokens_of (spells size depth any_call d) ++ closing ∷ behind ≡ all → Q (means_of size any_call d)

module _ (all : List Token) (Q : Stmt → Type 0) (holds : HoldsOfCalls all Q) where
  -- what holds of the meaning of a form where one of its tokens is a `call`, and all those behind it are these
  record Finds {X : Type 0} (size : ℕ) (r : Rule X) (P : X → Type 0) : Type 0 where
    finds : (depth : ℕ) (d : Form (Nested size) r) (front behind : List Token) (t : Token) (more : List Token) → tokens_of (spells size depth r d) ≡ front ++ t ∷ behind → behind ++ more ≡ all → is k.Call t.kind ≡ true → P (means_of size r d)

  abbrev Never : {X : Type 0} → X → Type 0
  Never x = ⊥

  module _ {size : ℕ} where
    find_none : {X : Type 0} {r : Rule X} {P : X → Type 0} → is_without k.Call is_expression r ≡ true → Finds size r P
    find_none {r = r} e = record {
      finds = λ depth d front behind t more is_ rest call.
          absurd (false_true (is k.Call t.kind) (without_middle k.Call front t behind (subst (Without k.Call) is_ (spells_without k.Call is_expression size (no_calls size) r e depth d))) call);
    }

    find_pair : {A B X : Type 0} {a : Rule A} {b : Rule B} {P : A → Type 0} {O : B → Type 0} {R : X → Type 0} {f : A → B → X} → ((x : A) (y : B) → P x → R (f x y)) → ((x : A) (y : B) → O y → R (f x y))
        → Finds size a P → Finds size b O → Finds size (pair f a b) R
    find_pair {A} {B} {X} {a} {b} {P} {O} {R} {f} h g p q = record { finds = found }
      where
        found : (depth : ℕ) (d : Form (Nested size) (pair f a b)) (front behind : List Token) (t : Token) (more : List Token) → tokens_of (spells size depth (pair f a b) d) ≡ front ++ t ∷ behind → behind ++ more ≡ all → is k.Call t.kind ≡ true → R (means_of size (pair f a b) d)
        found depth d front behind t more is_ rest call = by_part (in_one first second front behind t (sym (tokens_of-append (spells size depth a d.0) (spells size depth b d.1)) ∙ is_))
          where
            first : List Token
            first = tokens_of (spells size depth a d.0)

            second : List Token
            second = tokens_of (spells size depth b d.1)

            by_part : InFirst first second front behind t ⊎ InSecond first second front behind t → R (f (means_of size a d.0) (means_of size b d.1))
            by_part (inl i) = h _ _ (p.finds depth d.0 front i.rest t (second ++ more) i.here (sym (append_assoc i.rest second more) ∙ ap (λ us. us ++ more) (sym i.more) ∙ rest) call)
            by_part (inr i) = g _ _ (q.finds depth d.1 i.rest behind t more i.here rest call)

    find_either : {X : Type 0} {ks : Kind → Bool} {a b : Rule X} {P : X → Type 0} → Finds size a P → Finds size b P → Finds size (either ks a b) P
    find_either {X} {ks} {a} {b} {P} p q = record { finds = found }
      where
        found : (depth : ℕ) (d : Form (Nested size) (either ks a b)) (front behind : List Token) (t : Token) (more : List Token) → tokens_of (spells size depth (either ks a b) d) ≡ front ++ t ∷ behind → behind ++ more ≡ all → is k.Call t.kind ≡ true → P (means_of size (either ks a b) d)
        found depth (inl d) front behind t more is_ rest call = p.finds depth d front behind t more is_ rest call
        found depth (inr d) front behind t more is_ rest call = q.finds depth d front behind t more is_ rest call

    find_many : {A X : Type 0} {ks : Kind → Bool} {f : A → X → X} {z : X} {a : Rule A} {P : A → Type 0} {R : X → Type 0} → ((x : A) (y : X) → P x → R (f x y)) → ((x : A) (y : X) → R y → R (f x y)) → Finds size a P → Finds size (many ks f z a) R
    find_many {A} {X} {ks} {f} {z} {a} {P} {R} h g p = record { finds = found }
      where
        none : (front behind : List Token) (t : Token) → [] ≡ front ++ t ∷ behind → ⊥
        none [] behind t e = cc
        none (u ∷ front) behind t e = cc

        found : (depth : ℕ) (ds : List (Form (Nested size) a)) (front behind : List Token) (t : Token) (more : List Token) → tokens_of (spells size depth (many ks f z a) ds) ≡ front ++ t ∷ behind → behind ++ more ≡ all → is k.Call t.kind ≡ true → R (means_of size (many ks f z a) ds)
        found depth [] front behind t more is_ rest call = absurd (none front behind t is_)
        found depth (d ∷ ds) front behind t more is_ rest call =
            by_part (λ i. found depth ds i.rest behind t more i.here rest call) (in_one first second front behind t (sym (tokens_of-append (spells size depth a d) (spells size depth (many ks f z a) ds)) ∙ is_))
          where
            first : List Token
            first = tokens_of (spells size depth a d)

            second : List Token
            second = tokens_of (spells size depth (many ks f z a) ds)

            by_part : (InSecond first second front behind t → R (means_of size (many ks f z a) ds)) → InFirst first second front behind t ⊎ InSecond first second front behind t → R (f (means_of size a d) (means_of size (many ks f z a) ds))
            by_part later (inl i) = h _ _ (p.finds depth d front i.rest t (second ++ more) i.here (sym (append_assoc i.rest second more) ∙ ap (λ us. us ++ more) (sym i.more) ∙ rest) call)
            by_part later (inr i) = g _ _ (later i)

    find_nest : {X : Type 0} {j : Kind} {a : Rule X} {P : X → Type 0} → is k.Call j ≡ false → Finds size a P → Finds size (nest j a) P
    find_nest {X} {j} {a} {P} other p = record { finds = found }
      where
        found : (depth : ℕ) (d : Form (Nested size) (nest j a)) (front behind : List Token) (t : Token) (more : List Token) → tokens_of (spells size depth (nest j a) d) ≡ front ++ t ∷ behind → behind ++ more ≡ all → is k.Call t.kind ≡ true → P (means_of size (nest j a) d)
        found depth d [] behind t more is_ rest call =
            absurd (false_true (is k.Call j) other (ap (λ i. is k.Call i) (sym d.0.1) ∙ ap (λ (u : Token). is k.Call u.kind) (head_same d.0.0 t (tokens_of (spells size (depth + 1) a d.1)) behind is_) ∙ call))
        found depth d (u ∷ front) behind t more is_ rest call = p.finds (depth + 1) d.1 front behind t more (tail_same d.0.0 u (tokens_of (spells size (depth + 1) a d.1)) (front ++ t ∷ behind) is_) rest call

    find_within : {X : Type 0} {s : Nonterminal} {P : TreeOf s → Type 0} {R : X → Type 0} {f : TreeOf s → X} → ((x : TreeOf s) → P x → R (f x))
        → ((depth : ℕ) (d : Nested size s) (front behind : List Token) (t : Token) (more : List Token) → tokens_of (nested_spelling size depth s d) ≡ front ++ t ∷ behind → behind ++ more ≡ all → is k.Call t.kind ≡ true → P (nested_meaning size s d))
        → Finds size (within s f) R
    find_within h p = record { finds = λ depth d front behind t more is_ rest call. h _ (p depth d front behind t more is_ rest call) }

    find_before : {A X : Type 0} {a : Rule X} {b : Rule A} {P : X → Type 0} → is_without k.Call is_expression b ≡ true → Finds size a P → Finds size (a ⊲ b) P
    find_before e p = find_pair {O = Never} (λ x y h. h) (λ x y h. absurd h) p (find_none e)

    find_then : {A X : Type 0} {a : Rule A} {b : Rule X} {P : X → Type 0} → is_without k.Call is_expression a ≡ true → Finds size b P → Finds size (a ⊳ b) P
    find_then e p = find_pair {P = Never} (λ x y h. absurd h) (λ x y h. h) (find_none e) p

    -- the call itself
    find_call : Finds size call_rule (λ s. Q s.1)
    unfolding name index_rule extent_rule group_rule sign_rule number_rule factor_rule term_operator term_link term_links term_rule sum_operator sum_link sum_links sum_rule comparison compared_rule expr_rule arg_rule next_arg more_args arg_list args_rule callee_rule owning_call plain_call any_call call_rule
    find_call = record { finds = found }
      where
        found : (depth : ℕ) (d : Form (Nested size) call_rule) (front behind : List Token) (t : Token) (more : List Token) → tokens_of (spells size depth call_rule d) ≡ front ++ t ∷ behind → behind ++ more ≡ all → is k.Call t.kind ≡ true → Q (means_of size call_rule d).1
        found depth d [] behind t more is_ rest call =
            holds size depth d.1.0 d.1.1.0 more d.1.1.1
            (sym (append_assoc (tokens_of (spells size depth any_call d.1.0)) (d.1.1.0 ∷ []) more)
            ∙ ap (λ us. us ++ more) (sym (tokens_of-append (spells size depth any_call d.1.0) (record { token = d.1.1.0; depth = depth } ∷ [])))
            ∙ ap (λ us. us ++ more) (tail_same d.0.0 t (tokens_of (spells size depth (any_call ⊲ token k.Semicolon) d.1)) behind is_)
            ∙ rest)
        found depth d (u ∷ front) behind t more is_ rest call =
            absurd (false_true (is k.Call t.kind)
            (without_middle k.Call front t behind (subst (Without k.Call) (tail_same d.0.0 u (tokens_of (spells size depth (any_call ⊲ token k.Semicolon) d.1)) (front ++ t ∷ behind) is_)
            (spells_without k.Call is_expression size (no_calls size) (any_call ⊲ token k.Semicolon) refl depth d.1)))
            call)

  abbrev OfStmt : ℕ × Stmt → Type 0
  OfStmt s = Q s.1 ⊎ OfSomeInside Q s.1

  abbrev FindsBody : ℕ → Type 0
  FindsBody size =
      (depth : ℕ) (d : Nested size statements) (front behind : List Token) (t : Token) (more : List Token) → tokens_of (nested_spelling size depth statements d) ≡ front ++ t ∷ behind → behind ++ more ≡ all → is k.Call t.kind ≡ true
      → OfSome Q (nested_meaning size statements d)

  module _ {size : ℕ} (known : FindsBody size) where
    find_body : Finds size body_rule (OfSome Q)
    unfolding body_rule
    find_body = find_nest refl (find_before refl (find_within {s = statements} (λ x h. h) known))

    find_if : Finds size if_rule OfStmt
    unfolding if_rule else_rule name index_rule extent_rule group_rule sign_rule number_rule factor_rule term_operator term_link term_links term_rule sum_operator sum_link sum_links sum_rule comparison compared_rule expr_rule
    find_if =
        find_pair {P = Never} {O = λ v. OfSome Q v.1.0 ⊎ OfSome Q v.1.1} (λ x y h. absurd h) (λ x y h. inr h) (find_none refl)
        (find_pair {P = Never} {O = λ v. OfSome Q v.0 ⊎ OfSome Q v.1} (λ x y h. absurd h) (λ x y h. h) (find_none refl)
        (find_pair {P = OfSome Q} {O = OfSome Q} (λ x y h. inl h) (λ x y h. inr h) find_body (find_either (find_then refl find_body) (find_none refl))))

    find_while : Finds size while_rule OfStmt
    unfolding while_rule name index_rule extent_rule group_rule sign_rule number_rule factor_rule term_operator term_link term_links term_rule sum_operator sum_link sum_links sum_rule comparison compared_rule expr_rule
    find_while =
        find_pair {P = Never} {O = λ v. OfSome Q v.1} (λ x y h. absurd h) (λ x y h. inr h) (find_none refl)
        (find_pair {P = Never} {O = OfSome Q} (λ x y h. absurd h) (λ x y h. h) (find_none refl) find_body)

    find_par : Finds size par_rule OfStmt
    unfolding par_rule
    find_par =
        find_pair {P = Never} {O = λ v. OfSome Q v.0 ⊎ OfSome Q v.1} (λ x y h. absurd h) (λ x y h. inr h) (find_none refl)
        (find_pair {P = OfSome Q} {O = OfSome Q} (λ x y h. inl h) (λ x y h. inr h) find_body (find_then refl find_body))

    find_split : Finds size split_rule OfStmt
    unfolding split_rule parts_rule name index_rule extent_rule group_rule sign_rule number_rule factor_rule term_operator term_link term_links term_rule sum_operator sum_link sum_links sum_rule comparison compared_rule expr_rule
    find_split =
        find_pair {P = Never} {O = λ v. OfSome Q v.1.1.1} (λ x y h. absurd h) (λ x y h. inr h) (find_none refl)
        (find_pair {P = Never} {O = λ v. OfSome Q v.1.1} (λ x y h. absurd h) (λ x y h. h) (find_none refl)
        (find_then refl (find_pair {P = Never} {O = λ v. OfSome Q v.1} (λ x y h. absurd h) (λ x y h. h) (find_none refl)
        (find_then refl (find_pair {P = Never} {O = OfSome Q} (λ x y h. absurd h) (λ x y h. h) (find_none refl) find_body)))))

    find_stmt : Finds size stmt_rule OfStmt
    unfolding stmt_rule let_rule alloc_rule free_rule print_rule write_rule named_value written_value name index_rule extent_rule group_rule sign_rule number_rule factor_rule term_operator term_link term_links term_rule sum_operator sum_link sum_links sum_rule comparison compared_rule expr_rule
    find_stmt =
        find_either (find_none refl) (find_either (find_none refl) (find_either (find_none refl)
        (find_either find_if (find_either find_while
        (find_either (record { finds = λ depth d front behind t more is_ rest call. inl (find_call.finds depth d front behind t more is_ rest call) })
        (find_either (find_none refl) (find_either find_par (find_either find_split (find_none refl)))))))))

    find_stmts : Finds size stmts_rule (OfSome Q)
    unfolding stmts_rule
    find_stmts = find_many {P = OfStmt} (λ x y h. inl h) (λ x y h. inr h) find_stmt

  find_nested : (size : ℕ) → FindsBody size
  find_nested zero depth d front behind t more is_ rest call = absurd d
  find_nested (suc size) depth d front behind t more is_ rest call = (find_stmts (find_nested size)).finds depth d front behind t more is_ rest call

  find_func : {size : ℕ} → Finds size func_rule (λ f. OfSome Q f.body)
  unfolding func_rule func_body params_rule param_list more_params next_param param_rule ret_rule ret_value name
  find_func {size} =
      find_pair {P = Never} {O = λ v. OfSome Q v.1.1.0} (λ x y h. absurd h) (λ x y h. h) (find_none refl)
      (find_pair {P = Never} {O = λ v. OfSome Q v.1.0} (λ x y h. absurd h) (λ x y h. h) (find_none refl)
      (find_pair {P = Never} {O = λ v. OfSome Q v.0} (λ x y h. absurd h) (λ x y h. h) (find_none refl)
      (find_nest refl (find_before refl (find_pair {P = OfSome Q} {O = Never} (λ x y h. h) (λ x y h. absurd h) (find_within {s = statements} (λ x h. h) (find_nested size)) (find_none refl))))))

  find_program : {size : ℕ} → Finds size program_rule (OfSomeStatement Q)
  unfolding program_rule more_funcs
  find_program =
      find_pair {P = λ f. OfSome Q f.body} {O = OfSomeStatement Q} (λ x y h. inl h) (λ x y h. inr h) find_func
      (find_many {P = λ f. OfSome Q f.body} (λ x y h. inl h) (λ x y h. inr h) find_func)

  pub found_in_program : (most : ℕ) (front : List Token) (t : Token) (p : Program) → is k.Call t.kind ≡ true → IsProgram most (front ++ t ∷ all) p → OfSomeStatement Q p
  found_in_program most front t p call is_ =
      subst (OfSomeStatement Q) is_.means (find_program.finds 0 is_.form front all t [] is_.spelled (append-nil all) call)
