-- Each call statement of a program stands among its tokens as a `call`, the form of a call, and a `;`.
use Rattle.std.proofs.Common.{◌≡◌, ℕ, zero, suc, ◌+◌, Bool, List, [], ◌∷◌, ◌++◌, inl, inr, sym, ap, ◌∙◌, subst, append_assoc}
use Rattle.std.specs.Prelude.{Option, Some, None}
use Rattle.std.proofs.lemmas.List.{append-nil}
use Rattle.par_tree.specs.Tree.{Name, Expr, Arg, Stmt, Program}
use Rattle.par_text.specs.declared.kind.Kind.{Kind}
use Rattle.par_text.specs.declared.kind.Kind.TheVariants as k
use Rattle.par_text.specs.Rule.{Token, Nonterminal, statements, TreeOf, Rule, pair, either, many, nest, within}
use Rattle.par_text.specs.Form.{Form, tokens_of}
use Rattle.par_text.specs.Text.{Nested, nested_spelling, nested_meaning, program_spelling, IsProgram}
use Rattle.par_text.specs.Grammar.{◌⊳◌, ◌⊲◌, two, name, callee_rule, args_rule, answering, owning_call, plain_call, body_rule, behind, let_rule, alloc_rule, free_rule, print_rule, written, write_rule, else_rule, if_rule, while_rule, any_call, call_rule, par_rule, split_rule, stmt_rule, stmts_rule, func_body, func_rule, more_funcs, program_rule}
use Rattle.par_text.proofs.Marks.{tokens_of-append}
use Rattle.canonical_text.proofs.Written.{spells, means_of}
use Rattle.loop_laws.specs.LoopCalls.{Calls, OfEach, OfEachInside, OfEachStatement}

-- What holds of the statement of each form of a call that stands among all these tokens, behind a `call` and before a `;`.
abbrev pub HoldsOfEach : List Token → (Stmt → Type 0) → Type 0
HoldsOfEach all Q =
    (size depth : ℕ) (front : List Token) (t : Token) (d : Form (Nested size) any_call) (closing : Token) (behind : List Token) → t.kind ≡ k.Call → closing.kind ≡ k.Semicolon
    → front ++ t ∷ (tokens_of (spells size depth any_call d) ++ closing ∷ behind) ≡ all → Q (means_of size any_call d)

module _ (all : List Token) (f : Name) (R : Stmt → Type 0) (holds : HoldsOfEach all (λ s. Calls f s → R s)) where
  abbrev Q : Stmt → Type 0
  Q s = Calls f s → R s

  -- what holds of the meaning of a form that stands among all the tokens
  record Tells {X : Type 0} (size : ℕ) (r : Rule X) (P : X → Type 0) : Type 0 where
    tells : (depth : ℕ) (d : Form (Nested size) r) (front behind : List Token) → front ++ (tokens_of (spells size depth r d) ++ behind) ≡ all → P (means_of size r d)

  abbrev Any : {X : Type 0} → X → Type 0
  Any x = Unit {0}

  cut_two : (front a b behind : List Token) → front ++ ((a ++ b) ++ behind) ≡ front ++ (a ++ (b ++ behind))
  cut_two front a b behind = ap (λ ts. front ++ ts) (append_assoc a b behind)

  module _ {size : ℕ} where
    tells_any : {X : Type 0} {r : Rule X} → Tells size r Any
    tells_any = record { tells = λ depth d front behind e. tt }

    tells_all : {X : Type 0} {r : Rule X} {P : X → Type 0} → ((d : Form (Nested size) r) → P (means_of size r d)) → Tells size r P
    tells_all h = record { tells = λ depth d front behind e. h d }

    tells_pair : {A B X : Type 0} {a : Rule A} {b : Rule B} {P : A → Type 0} {O : B → Type 0} {S : X → Type 0} {g : A → B → X} → ((x : A) (y : B) → P x → O y → S (g x y)) → Tells size a P → Tells size b O → Tells size (pair g a b) S
    tells_pair {a = a} {b = b} h p q = record {
      tells = λ depth d front behind e.
          let first : List Token = tokens_of (spells size depth a d.0) in
          let second : List Token = tokens_of (spells size depth b d.1) in
          let parts : front ++ (first ++ (second ++ behind)) ≡ all = sym (ap (λ ts. front ++ (ts ++ behind)) (tokens_of-append (spells size depth a d.0) (spells size depth b d.1)) ∙ cut_two front first second behind) ∙ e in
          h _ _ (p.tells depth d.0 front (second ++ behind) parts) (q.tells depth d.1 (front ++ first) behind (append_assoc front first (second ++ behind) ∙ parts));
    }

    tells_then : {A X : Type 0} {a : Rule A} {b : Rule X} {P : X → Type 0} → Tells size b P → Tells size (a ⊳ b) P
    tells_then q = tells_pair {P = Any} (λ x y p h. h) tells_any q

    tells_before : {A X : Type 0} {a : Rule X} {b : Rule A} {P : X → Type 0} → Tells size a P → Tells size (a ⊲ b) P
    tells_before p = tells_pair {O = Any} (λ x y h q. h) p tells_any

    tells_either : {X : Type 0} {ks : Kind → Bool} {a b : Rule X} {P : X → Type 0} → Tells size a P → Tells size b P → Tells size (either ks a b) P
    tells_either {X} {ks} {a} {b} {P} p q = record { tells = tells }
      where
        tells : (depth : ℕ) (d : Form (Nested size) (either ks a b)) (front behind : List Token) → front ++ (tokens_of (spells size depth (either ks a b) d) ++ behind) ≡ all → P (means_of size (either ks a b) d)
        tells depth (inl d) front behind e = p.tells depth d front behind e
        tells depth (inr d) front behind e = q.tells depth d front behind e

    tells_many : {A X : Type 0} {ks : Kind → Bool} {g : A → X → X} {z : X} {a : Rule A} {P : A → Type 0} {S : X → Type 0} → S z → ((x : A) (y : X) → P x → S y → S (g x y)) → Tells size a P → Tells size (many ks g z a) S
    tells_many {A} {X} {ks} {g} {z} {a} {P} {S} none h p = record { tells = tells }
      where
        tells : (depth : ℕ) (ds : List (Form (Nested size) a)) (front behind : List Token) → front ++ (tokens_of (spells size depth (many ks g z a) ds) ++ behind) ≡ all → S (means_of size (many ks g z a) ds)
        tells depth [] front behind e = none
        tells depth (d ∷ ds) front behind e =
            let first : List Token = tokens_of (spells size depth a d) in
            let second : List Token = tokens_of (spells size depth (many ks g z a) ds) in
            let parts : front ++ (first ++ (second ++ behind)) ≡ all = sym (ap (λ ts. front ++ (ts ++ behind)) (tokens_of-append (spells size depth a d) (spells size depth (many ks g z a) ds)) ∙ cut_two front first second behind) ∙ e in
            h _ _ (p.tells depth d front (second ++ behind) parts) (tells depth ds (front ++ first) behind (append_assoc front first (second ++ behind) ∙ parts))

    tells_nest : {X : Type 0} {j : Kind} {a : Rule X} {P : X → Type 0} → Tells size a P → Tells size (nest j a) P
    tells_nest {a = a} p = record { tells = λ depth d front behind e. p.tells (depth + 1) d.1 (front ++ d.0.0 ∷ []) behind (append_assoc front (d.0.0 ∷ []) (tokens_of (spells size (depth + 1) a d.1) ++ behind) ∙ e) }

    tells_within : {X : Type 0} {s : Nonterminal} {P : TreeOf s → Type 0} {S : X → Type 0} {g : TreeOf s → X} → ((x : TreeOf s) → P x → S (g x))
        → ((depth : ℕ) (d : Nested size s) (front behind : List Token) → front ++ (tokens_of (nested_spelling size depth s d) ++ behind) ≡ all → P (nested_meaning size s d)) → Tells size (within s g) S
    tells_within h p = record { tells = λ depth d front behind e. h _ (p depth d front behind e) }

  abbrev OfStmt : ℕ × Stmt → Type 0
  OfStmt s = Q s.1 × OfEachInside Q s.1

  abbrev TellsBody : ℕ → Type 0
  TellsBody size = (depth : ℕ) (d : Nested size statements) (front behind : List Token) → front ++ (tokens_of (nested_spelling size depth statements d) ++ behind) ≡ all → OfEach Q (nested_meaning size statements d)

  written_quiet : (x : Name) (v : Option Expr × Expr) → Q (written x v) × OfEachInside Q (written x v)
  written_quiet x (None, e) = ((λ h. absurd h), tt)
  written_quiet x (Some i, e) = ((λ h. absurd h), tt)

  -- any call, as a statement without lists
  call_inside : (size : ℕ) (d : Form (Nested size) any_call) → OfEachInside Q (means_of size any_call d)
  unfolding any_call owning_call plain_call
  call_inside size (inl d) = tt
  call_inside size (inr d) = by_answer (means_of size name d.0) (means_of size (two callee_rule args_rule) d.1)
    where
      by_answer : (x : Name) (v : Option Name × List Arg) → OfEachInside Q (answering x v)
      by_answer x (None, xs) = tt
      by_answer x (Some g, xs) = tt

  module _ {size : ℕ} (known : TellsBody size) where
    tells_body : Tells size body_rule (OfEach Q)
    unfolding body_rule
    tells_body = tells_nest (tells_before (tells_within {s = statements} (λ x h. h) known))

    tells_call : Tells size call_rule OfStmt
    unfolding call_rule
    tells_call = record {
      tells = λ depth d front behind e. (
        holds size depth front d.0.0 d.1.0 d.1.1.0 behind d.0.1 d.1.1.1
            (ap (λ ts. front ++ d.0.0 ∷ ts) (sym (append_assoc (tokens_of (spells size depth any_call d.1.0)) (d.1.1.0 ∷ []) behind) ∙ ap (λ ts. ts ++ behind) (sym (tokens_of-append (spells size depth any_call d.1.0) (record { token = d.1.1.0; depth = depth } ∷ [])))) ∙ e),
        call_inside size d.1.0,
      );
    }

    tells_if : Tells size if_rule OfStmt
    unfolding if_rule else_rule
    tells_if =
        tells_pair {P = Any} {O = λ v. OfEach Q v.1.0 × OfEach Q v.1.1} (λ t v p h. ((λ c. absurd c), h)) tells_any
        (tells_pair {P = Any} {O = λ v. OfEach Q v.0 × OfEach Q v.1} (λ x y p h. h) tells_any
        (tells_pair {P = OfEach Q} {O = OfEach Q} (λ x y p h. (p, h)) tells_body (tells_either (tells_then tells_body) (tells_all (λ d. tt)))))

    tells_while : Tells size while_rule OfStmt
    unfolding while_rule
    tells_while =
        tells_pair {P = Any} {O = λ v. OfEach Q v.1} (λ t v p h. ((λ c. absurd c), h)) tells_any
        (tells_pair {P = Any} {O = OfEach Q} (λ x y p h. h) tells_any tells_body)

    tells_par : Tells size par_rule OfStmt
    unfolding par_rule
    tells_par =
        tells_pair {P = Any} {O = λ v. OfEach Q v.0 × OfEach Q v.1} (λ t v p h. ((λ c. absurd c), h)) tells_any
        (tells_pair {P = OfEach Q} {O = OfEach Q} (λ x y p h. (p, h)) tells_body (tells_then tells_body))

    tells_split : Tells size split_rule OfStmt
    unfolding split_rule
    tells_split =
        tells_pair {P = Any} {O = λ v. OfEach Q v.1.1.1} (λ t v p h. ((λ c. absurd c), h)) tells_any
        (tells_pair {P = Any} {O = λ v. OfEach Q v.1.1} (λ x y p h. h) tells_any
        (tells_then (tells_pair {P = Any} {O = λ v. OfEach Q v.1} (λ x y p h. h) tells_any
        (tells_then (tells_pair {P = Any} {O = OfEach Q} (λ x y p h. h) tells_any tells_body)))))

    tells_stmt : Tells size stmt_rule OfStmt
    unfolding stmt_rule let_rule alloc_rule free_rule print_rule write_rule
    tells_stmt =
        tells_either (tells_all (λ d. ((λ c. absurd c), tt))) (tells_either (tells_all (λ d. ((λ c. absurd c), tt))) (tells_either (tells_all (λ d. ((λ c. absurd c), tt)))
        (tells_either tells_if (tells_either tells_while (tells_either tells_call
        (tells_either (tells_all (λ d. ((λ c. absurd c), tt))) (tells_either tells_par (tells_either tells_split
        (tells_pair {P = Any} {O = Any} (λ t v p h. written_quiet t.bytes v) tells_any tells_any)))))))))

    tells_stmts : Tells size stmts_rule (OfEach Q)
    unfolding stmts_rule
    tells_stmts = tells_many {P = OfStmt} tt (λ s rest p h. (p, h)) tells_stmt

  nested_tells : (size : ℕ) → TellsBody size
  nested_tells zero depth d front behind e = absurd d
  nested_tells (suc size) depth d front behind e = (tells_stmts (nested_tells size)).tells depth d front behind e

  tells_func : {size : ℕ} → Tells size func_rule (λ g. OfEach Q g.body)
  unfolding func_rule func_body
  tells_func {size} =
      tells_pair {P = Any} {O = λ v. OfEach Q v.1.1.0} (λ t v p h. h) tells_any
      (tells_pair {P = Any} {O = λ v. OfEach Q v.1.0} (λ x y p h. h) tells_any
      (tells_pair {P = Any} {O = λ v. OfEach Q v.0} (λ x y p h. h) tells_any
      (tells_nest (tells_before (tells_pair {P = OfEach Q} {O = Any} (λ x y p h. p) (tells_within {s = statements} (λ x h. h) (nested_tells size)) tells_any)))))

  tells_program : {size : ℕ} → Tells size program_rule (OfEachStatement Q)
  unfolding program_rule more_funcs
  tells_program =
      tells_pair {P = λ g. OfEach Q g.body} {O = OfEachStatement Q} (λ x y p h. (p, h)) tells_func (tells_many {P = λ g. OfEach Q g.body} tt (λ x y p h. (p, h)) tells_func)

  pub each_in_program : (most : ℕ) (p : Program) → IsProgram most all p → OfEachStatement Q p
  each_in_program most p is_ = subst (OfEachStatement Q) is_.means (tells_program.tells 0 is_.form [] [] (append-nil (tokens_of (program_spelling is_.size is_.form)) ∙ is_.spelled))
