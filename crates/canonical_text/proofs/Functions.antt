-- The canonical text of the functions of a text is read as them, but for lines.
use Rattle.std.proofs.Common.{◌≡◌, ℕ, ◌+◌, true, false, List, [], ◌∷◌, ◌++◌, map, refl, sym, ap, ◌∙◌, subst, append_assoc}
use Rattle.std.specs.Prelude.{Option, Some, None, codes}
use Rattle.std.specs.List.{flat_map}
use Rattle.par_tree.specs.Tree.{Expr, Body, Param, RetValue, gives, hands, Ret, Func, Program}
use Rattle.par_text.specs.Rule.{expression, statements}
use Rattle.par_text.specs.Grammar.{listed, param_of, lent_param, owned_param, param_rule, next_param, more_params, param_list, params_rule, ret_value, returned, ret_rule, func_body, func_of, func_rule, more_funcs, program_rule}
use Rattle.canonical_text.specs.declared.place.Place.TheVariants.{Expression}
use Rattle.canonical_text.specs.Canonical.{behind_comma, with_commas, line_end, deeper, braces, body_text, param_text, ret_value_text, ret_text, func_text, canonical}
use Rattle.canonical_text.specs.Lines.{body_without_lines, ret_without_lines, func_without_lines, without_lines}
use Rattle.canonical_text.proofs.Lexemes.{gap-space, gap-newline}
use Rattle.canonical_text.proofs.Written.{Opens}
use Rattle.canonical_text.proofs.Claims.{Fits, Always, mapped_fits, pair_fits, then_fits, before_fits, first_fits, second_fits, nothing_fits, none_fits, more_fits, same_fits, gaps_fit, gaps_fit_behind, nest_fits, within_fits}
use Rattle.canonical_text.proofs.Leaves.{IsName, name_fits}
use Rattle.canonical_text.proofs.Symbols.{opens-LeftParen, opens-LeftBrace, reads-Fn, reads-Return, reads-Use, reads-Own, reads-Comma, reads-Semicolon, reads-RightParen, reads-RightBrace}
use Rattle.canonical_text.proofs.Places.{Claim, in_place}
use Rattle.canonical_text.proofs.Sound.{Tells, tells_anything, tells_nothing, tells_mapped, tells_weaker, tells_pair, tells_then, tells_before, tells_either, tells_many, tells_nest, tells_within}
use Rattle.canonical_text.proofs.Expressions.{Inside, space, tells_name}
use Rattle.canonical_text.proofs.Statements.{SameBody, BodyClaim}
use Rattle.canonical_text.proofs.Meanings.{Known}

-- parameters, inside the parentheses

pub record ParamClaim (most n : ℕ) (p : Param) : Type 0 where
  pub reads : Fits most true n param_rule (λ y. y ≡ p) (param_text p)

abbrev pub ParamsClaim : ℕ → ℕ → List Param → Type 0
ParamsClaim most n [] = Unit {0}
ParamsClaim most n (p ∷ ps) = ParamClaim most n p × ParamsClaim most n ps

plain_claim : {most n : ℕ} (x : List ℕ) → IsName x → ParamClaim most n (param_of x)
unfolding param_rule
plain_claim x h = record { reads = second_fits (second_fits (mapped_fits param_of (λ y q. ap (λ v. param_of v) q) (name_fits x h))) }

lent_claim : {most n : ℕ} (x : List ℕ) → IsName x → ParamClaim most n (lent_param x)
unfolding param_rule
lent_claim x h = record { reads = first_fits (then_fits (λ rest d. (refl, refl)) reads-Use (gaps_fit space (gap-space, tt) (mapped_fits lent_param (λ y q. ap (λ v. lent_param v) q) (name_fits x h)))) }

owned_claim : {most n : ℕ} (x : List ℕ) → IsName x → ParamClaim most n (owned_param x)
unfolding param_rule
owned_claim x h = record { reads = second_fits (first_fits (then_fits (λ rest d. (refl, refl)) reads-Own (gaps_fit space (gap-space, tt) (mapped_fits owned_param (λ y q. ap (λ v. owned_param v) q) (name_fits x h))))) }

commas_open : (us : List (List ℕ)) → Opens (flat_map behind_comma us)
commas_open [] = λ rest h. h
commas_open (u ∷ us) = λ rest h. (refl, refl)

more_params_fit : {most n : ℕ} (ps : List Param) → ParamsClaim most n ps → Fits most true n more_params (λ y. y ≡ ps) (flat_map behind_comma (map param_text ps))
unfolding more_params next_param
more_params_fit [] h = none_fits refl
more_params_fit (p ∷ ps) h =
    more_fits (commas_open (map param_text ps)) (λ x y e q. ap (λ z. x ∷ z) q ∙ ap (λ z. z ∷ ps) e) (then_fits (λ rest d. (refl, refl)) reads-Comma (gaps_fit space (gap-space, tt) h.0.reads)) (more_params_fit ps h.1)

param_list_fits : {most n : ℕ} (ps : List Param) → ParamsClaim most n ps → Fits most true n param_list (λ y. y ≡ ps) (with_commas (map param_text ps))
unfolding param_list
param_list_fits [] h = second_fits (nothing_fits refl)
param_list_fits (p ∷ ps) h = first_fits (pair_fits listed (commas_open (map param_text ps)) (λ x y e q. ap (λ z. x ∷ z) q ∙ ap (λ z. z ∷ ps) e) h.0.reads (more_params_fit ps h.1))

abbrev parenthesised_params : List Param → List ℕ
parenthesised_params ps = 40 ∷ (with_commas (map param_text ps) ++ 41 ∷ [])

params_fit : {most n : ℕ} (ps : List Param) → Inside n (λ m. ParamsClaim most m ps) → Fits most false n params_rule (λ y. y ≡ ps) (parenthesised_params ps)
unfolding params_rule
params_fit {most} ps inside =
    subst (λ (i : ℕ). Fits most false i params_rule (λ y. y ≡ ps) (parenthesised_params ps)) (sym inside.is)
    (nest_fits opens-LeftParen.lexeme opens-LeftParen.form opens-LeftParen.whole opens-LeftParen.allowed (before_fits (λ rest d. (refl, refl)) (param_list_fits ps inside.holds) reads-RightParen))

-- the end of a function, inside its braces

pub record RetValueClaim (most n : ℕ) (v : RetValue) : Type 0 where
  pub reads : Fits most true n ret_value (λ y. y ≡ v) (ret_value_text v)

gives_claim : {most n : ℕ} (e : Expr) → Claim most Expression n e → RetValueClaim most n (gives e)
unfolding ret_value
gives_claim e c = record { reads = second_fits (within_fits {s = expression} gives (λ y q. ap (λ v. gives v) q) (in_place Expression e c)) }

hands_claim : {most n : ℕ} (x : List ℕ) → IsName x → RetValueClaim most n (hands x)
unfolding ret_value
hands_claim x h = record { reads = first_fits (then_fits (λ rest d. (refl, refl)) reads-Own (gaps_fit space (gap-space, tt) (mapped_fits hands (λ y q. ap (λ v. hands v) q) (name_fits x h)))) }

abbrev pub RetClaim : ℕ → ℕ → Option Ret → Type 0
RetClaim most n None = Unit {0}
RetClaim most n (Some r) = RetValueClaim most n r.value

abbrev SameRet : Option Ret → Option Ret → Type 0
SameRet r y = ret_without_lines y ≡ ret_without_lines r

ret_fits : {most n : ℕ} (r : Option Ret) → RetClaim most n r → Fits most true n ret_rule (SameRet r) (ret_text (deeper []) r)
unfolding ret_rule
ret_fits None h = second_fits (nothing_fits refl)
ret_fits (Some r) h =
    same_fits (ap (λ z. deeper [] ++ (codes "return " ++ z)) (append_assoc (ret_value_text r.value) (codes ";") line_end))
    (gaps_fit (deeper []) (gap-space, (gap-space, tt))
    (gaps_fit_behind line_end (gap-newline, tt) (λ rest d. (refl, refl))
    (first_fits (pair_fits {Q = λ y. y ≡ r.value} returned (λ rest d. (refl, refl)) (λ t v p q. ap (λ z. Some (record { line = 0; value = z })) q) reads-Return
    (gaps_fit space (gap-space, tt) (before_fits (λ rest d. (refl, refl)) h.reads reads-Semicolon))))))

ret_opens : (r : Option Ret) → Opens (ret_text (deeper []) r)
ret_opens None = λ rest h. h
ret_opens (Some r) = λ rest h. (refl, refl)

abbrev SameEnd : Body × Option Ret → Body × Option Ret → Type 0
SameEnd v y = SameBody v.0 y.0 × SameRet v.1 y.1

pub record EndClaim (most n : ℕ) (v : Body × Option Ret) : Type 0 where
  pub body : BodyClaim most n v.0
  pub ret : RetClaim most n v.1

abbrev block_text : Body × Option Ret → List ℕ
block_text v = braces [] (body_text (deeper []) v.0 ++ ret_text (deeper []) v.1)

block_fits : {most n : ℕ} (v : Body × Option Ret) → Inside n (λ m. EndClaim most m v) → Fits most false n func_body (SameEnd v) (block_text v)
unfolding func_body
block_fits {most} v inside =
    subst (λ (i : ℕ). Fits most false i func_body (SameEnd v) (block_text v)) (sym inside.is)
    (nest_fits opens-LeftBrace.lexeme opens-LeftBrace.form opens-LeftBrace.whole opens-LeftBrace.allowed
    (before_fits (λ rest d. (refl, refl))
    (pair_fits {P = SameBody v.0} {Q = SameRet v.1} (λ x y. (x, y)) (ret_opens v.1) (λ x y p q. (p, q))
    (gaps_fit line_end (gap-newline, tt) (within_fits {s = statements} (λ y. y) (λ y h. h) (inside.holds.body.reads (deeper []) (gap-space, (gap-space, tt)))))
    (ret_fits v.1 inside.holds.ret))
    reads-RightBrace))

-- functions

pub record FuncClaim (most n : ℕ) (f : Func) : Type 0 where
  pub named : IsName f.name
  pub params : Inside n (λ m. ParamsClaim most m f.params)
  pub ends : Inside n (λ m. EndClaim most m (f.body, f.ret))

abbrev SameFunc : Func → Func → Type 0
SameFunc f y = func_without_lines y ≡ func_without_lines f

-- a function up to its last brace
abbrev open_text : Func → List ℕ
open_text f = codes "fn" ++ ((space ++ f.name) ++ (parenthesised_params f.params ++ (space ++ block_text (f.body, f.ret))))

func_fits : {most n : ℕ} (f : Func) → FuncClaim most n f → Fits most false n func_rule (SameFunc f) (open_text f)
unfolding func_rule
func_fits f c =
    pair_fits {P = Always} {Q = λ v. (v.0 ≡ f.name) × ((v.1.0 ≡ f.params) × SameEnd (f.body, f.ret) v.1.1)} func_of (λ rest d. (refl, refl))
    (λ t v p q.
    ap (λ z. record { name = z; params = v.1.0; body = body_without_lines v.1.1.0; ret = ret_without_lines v.1.1.1; line = 0 }) q.0
    ∙ ap (λ z. record { name = f.name; params = z; body = body_without_lines v.1.1.0; ret = ret_without_lines v.1.1.1; line = 0 }) q.1.0
    ∙ ap (λ z. record { name = f.name; params = f.params; body = z; ret = ret_without_lines v.1.1.1; line = 0 }) q.1.1.0
    ∙ ap (λ z. record { name = f.name; params = f.params; body = body_without_lines f.body; ret = z; line = 0 }) q.1.1.1)
    reads-Fn
    (pair_fits {Q = λ v. (v.0 ≡ f.params) × SameEnd (f.body, f.ret) v.1} (λ x y. (x, y)) (λ rest d. (refl, refl)) (λ x y p q. (p, q)) (gaps_fit space (gap-space, tt) (name_fits f.name c.named))
    (pair_fits {P = λ y. y ≡ f.params} {Q = SameEnd (f.body, f.ret)} (λ x y. (x, y)) (λ rest d. (refl, refl)) (λ x y p q. (p, q)) (params_fit f.params c.params) (gaps_fit space (gap-space, tt) (block_fits (f.body, f.ret) c.ends))))

-- a function with what stands behind its last brace
abbrev with_end : Func → List ℕ → List ℕ
with_end f t = codes "fn " ++ (f.name ++ (codes "(" ++ (with_commas (map param_text f.params) ++ (codes ") " ++ (block_text (f.body, f.ret) ++ t)))))

opened : (f : Func) (t : List ℕ) → open_text f ++ t ≡ with_end f t
opened f t =
    ap (λ z. codes "fn " ++ z)
    (append_assoc f.name (parenthesised_params f.params ++ (space ++ block_text (f.body, f.ret))) t
    ∙ ap (λ z. f.name ++ z)
    (append_assoc (parenthesised_params f.params) (space ++ block_text (f.body, f.ret)) t
    ∙ ap (λ z. 40 ∷ z) (append_assoc (with_commas (map param_text f.params)) (41 ∷ []) (space ++ (block_text (f.body, f.ret) ++ t)))))

ended : (f : Func) (t u : List ℕ) → with_end f t ++ u ≡ with_end f (t ++ u)
ended f t u =
    ap (λ z. codes "fn " ++ z)
    (append_assoc f.name (codes "(" ++ (with_commas (map param_text f.params) ++ (codes ") " ++ (block_text (f.body, f.ret) ++ t)))) u
    ∙ ap (λ z. f.name ++ (codes "(" ++ z))
    (append_assoc (with_commas (map param_text f.params)) (codes ") " ++ (block_text (f.body, f.ret) ++ t)) u
    ∙ ap (λ z. with_commas (map param_text f.params) ++ (codes ") " ++ z)) (append_assoc (block_text (f.body, f.ret)) t u)))

func_then : (f : Func) (u : List ℕ) → open_text f ++ (line_end ++ u) ≡ func_text f ++ u
func_then f u = opened f (line_end ++ u) ∙ sym (ended f line_end u)

-- programs

abbrev pub ProgramClaim : ℕ → ℕ → Program → Type 0
ProgramClaim most n [] = Unit {0}
ProgramClaim most n (f ∷ fs) = FuncClaim most n f × ProgramClaim most n fs

abbrev pub SameProgram : Program → Program → Type 0
SameProgram p y = without_lines y ≡ without_lines p

more_funcs_fit : {most n : ℕ} (fs : List Func) → ProgramClaim most n fs → Fits most false n more_funcs (SameProgram fs) (line_end ++ canonical fs)
unfolding more_funcs
more_funcs_fit [] h = gaps_fit line_end (gap-newline, tt) (none_fits refl)
more_funcs_fit (f ∷ fs) h =
    gaps_fit line_end (gap-newline, tt)
    (same_fits (func_then f (canonical fs))
    (more_fits {P = SameFunc f} {Q = SameProgram fs} (λ rest d. (refl, refl)) (λ x y p q. ap (λ z. z ∷ without_lines y) p ∙ ap (λ z. func_without_lines f ∷ z) q) (func_fits f h.0) (more_funcs_fit fs h.1)))

pub program_fits : {most n : ℕ} (f : Func) (fs : List Func) → ProgramClaim most n (f ∷ fs) → Fits most false n program_rule (SameProgram (f ∷ fs)) (canonical (f ∷ fs))
unfolding program_rule
program_fits f fs h =
    same_fits (func_then f (canonical fs))
    (pair_fits {P = SameFunc f} {Q = SameProgram fs} listed (λ rest d. (refl, refl)) (λ x y p q. ap (λ z. z ∷ without_lines y) p ∙ ap (λ z. func_without_lines f ∷ z) q) (func_fits f h.0) (more_funcs_fit fs h.1))

-- what the form of a text means

module _ {most size : ℕ} (known : Known most size) where
  tells_param : (depth n : ℕ) → depth + n ≡ most → Tells most size depth param_rule (ParamClaim most n)
  unfolding param_rule
  tells_param depth n room =
      tells_either (tells_then (tells_mapped (λ x h. lent_claim x h) tells_name))
      (tells_either (tells_then (tells_mapped (λ x h. owned_claim x h) tells_name)) (tells_mapped (λ x h. plain_claim x h) tells_name))

  tells_param_list : (depth n : ℕ) → depth + n ≡ most → Tells most size depth param_list (ParamsClaim most n)
  unfolding param_list more_params next_param
  tells_param_list depth n room = tells_either (tells_pair {Q = ParamsClaim most n} (λ x xs h g. (h, g)) (tells_param depth n room) (tells_many tt (λ x xs h g. (h, g)) (tells_then (tells_param depth n room)))) (tells_nothing tt)

  tells_ret_value : (depth n : ℕ) → depth + n ≡ most → Tells most size depth ret_value (RetValueClaim most n)
  unfolding ret_value
  tells_ret_value depth n room = tells_either (tells_then (tells_mapped (λ x h. hands_claim x h) tells_name)) (tells_within (λ e c. gives_claim e c) (known expression depth n room))

  tells_ret : (depth n : ℕ) → depth + n ≡ most → Tells most size depth ret_rule (RetClaim most n)
  unfolding ret_rule
  tells_ret depth n room = tells_either (tells_pair {P = λ t. Unit {0}} {Q = RetValueClaim most n} (λ t v p q. q) tells_anything (tells_before (tells_ret_value depth n room))) (tells_nothing tt)

  module _ (depth n : ℕ) (room : depth + n ≡ most) where
    tells_params : Tells most size depth params_rule (λ ps. Inside n (λ m. ParamsClaim most m ps))
    unfolding params_rule
    tells_params = tells_nest n room (λ m is e. tells_before (tells_weaker (λ ps h. record { room = m; is = is; holds = h }) (tells_param_list (depth + 1) m e)))

    tells_block : Tells most size depth func_body (λ v. Inside n (λ m. EndClaim most m v))
    unfolding func_body
    tells_block =
        tells_nest n room (λ m is e.
        tells_before (tells_pair {P = λ b. BodyClaim most m b} {Q = λ r. RetClaim most m r} (λ b r h g. record { room = m; is = is; holds = record { body = h; ret = g } }) (tells_within (λ b h. h) (known statements (depth + 1) m e)) (tells_ret (depth + 1) m e)))

    tells_func : Tells most size depth func_rule (FuncClaim most n)
    unfolding func_rule
    tells_func =
        tells_pair {P = λ t. Unit {0}} {Q = λ v. IsName v.0 × (Inside n (λ m. ParamsClaim most m v.1.0) × Inside n (λ m. EndClaim most m v.1.1))}
        (λ t v p q. record { named = q.0; params = q.1.0; ends = q.1.1 }) tells_anything
        (tells_pair (λ x y h g. (h, g)) tells_name (tells_pair (λ x y h g. (h, g)) tells_params tells_block))

    tells_more_funcs : Tells most size depth more_funcs (ProgramClaim most n)
    unfolding more_funcs
    tells_more_funcs = tells_many tt (λ f fs h g. (h, g)) tells_func

    pub tells_program : Tells most size depth program_rule (ProgramClaim most n)
    unfolding program_rule
    tells_program = tells_pair (λ f fs h g. (h, g)) tells_func tells_more_funcs
