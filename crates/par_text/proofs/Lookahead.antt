-- Which kinds begin a rule, which may follow it, and the checks that one token ahead picks the form.
use Rattle.std.proofs.Common.{Bool, true, false}
use Rattle.std.specs.Prelude.{◌&&◌, ◌||◌, not, [], ◌∷◌}
use Rattle.par_text.specs.declared.kind.Kind.{Kind}
use Rattle.par_text.specs.declared.kind.Kind.TheVariants as k
use Rattle.par_text.specs.Kinds.{is, holds_of_all, kinds}
use Rattle.par_text.specs.Rule.{Nonterminal, expression, factor, statements, Rule, nothing, token, mapped, pair, either, many, nest, within}
use Rattle.par_text.specs.Grammar.{one_of, begins_statement}

-- a nonterminal's table: the kinds that begin it, those that may follow it, whether it may be empty
abbrev pub begins_inner : Nonterminal → Kind → Bool
begins_inner expression = one_of (k.Name ∷ k.Len ∷ k.LeftParen ∷ k.Minus ∷ k.Number ∷ [])
begins_inner factor = one_of (k.Name ∷ k.Len ∷ k.LeftParen ∷ k.Minus ∷ k.Number ∷ [])
begins_inner statements = begins_statement

abbrev pub follows_inner : Nonterminal → Kind → Bool
follows_inner expression j =
    not (one_of (k.LeftBracket ∷ k.Star ∷ k.Slash ∷ k.Percent ∷ k.Plus ∷ k.Minus ∷ k.EqualEqual ∷ k.NotEqual ∷ k.Less ∷ k.LessEqual ∷ k.Greater ∷ k.GreaterEqual ∷ []) j)
follows_inner factor j = not (is k.LeftBracket j)
follows_inner statements j = not (begins_statement j) && not (is k.Else j)

abbrev pub empty_inner : Nonterminal → Bool
empty_inner expression = false
empty_inner factor = false
empty_inner statements = true

abbrev pub can_be_empty : {X : Type 0} → Rule X → Bool
can_be_empty (nothing x) = true
can_be_empty (token j) = false
can_be_empty (mapped f a) = can_be_empty a
can_be_empty (pair f a b) = can_be_empty a && can_be_empty b
can_be_empty (either ks a b) = can_be_empty a || can_be_empty b
can_be_empty (many ks f z a) = true
can_be_empty (nest j a) = false
can_be_empty (within s f) = empty_inner s

abbrev pub begins : {X : Type 0} → Rule X → Kind → Bool
begins (nothing x) i = false
begins (token j) i = is j i
begins (mapped f a) i = begins a i
begins (pair f a b) i = begins a i || (can_be_empty a && begins b i)
begins (either ks a b) i = begins a i || begins b i
begins (many ks f z a) i = begins a i
begins (nest j a) i = is j i
begins (within s f) i = begins_inner s i

abbrev pub may_follow : {X : Type 0} → Rule X → Kind → Bool
may_follow (nothing x) i = true
may_follow (token j) i = true
may_follow (mapped f a) i = may_follow a i
may_follow (pair f a b) i = may_follow b i && (not (can_be_empty b) || may_follow a i)
may_follow (either ks a b) i = may_follow a i && (may_follow b i && (not (can_be_empty b) || not (ks i)))
may_follow (many ks f z a) i = not (ks i) && may_follow a i
may_follow (nest j a) i = may_follow a i
may_follow (within s f) i = follows_inner s i

-- where p holds of a kind, q holds
abbrev pub implies : (Kind → Bool) → (Kind → Bool) → Kind → Bool
implies p q i = not (p i) || q i

abbrev pub none_of : (Kind → Bool) → Kind → Bool
none_of p i = not (p i)

abbrev pub both_of : (Kind → Bool) → (Kind → Bool) → Kind → Bool
both_of p q i = p i && q i

-- One token ahead picks the form. Inside a construct stand nonterminals and no further construct.
abbrev pub fine : {X : Type 0} → Bool → Rule X → Bool
fine inside (nothing x) = true
fine inside (token j) = true
fine inside (mapped f a) = fine inside a
fine inside (pair f a b) = fine inside a && (fine inside b && holds_of_all (implies (begins b) (may_follow a)) kinds)
fine inside (either ks a b) =
    fine inside a && (fine inside b && (not (can_be_empty a) && (holds_of_all (implies (begins a) ks) kinds && holds_of_all (implies (begins b) (none_of ks)) kinds)))
fine inside (many ks f z a) =
    fine inside a && (not (can_be_empty a) && (not (ks k.End) && holds_of_all (implies (begins a) (both_of ks (may_follow a))) kinds))
fine inside (nest j a) = not inside && fine true a
fine inside (within s f) = inside
