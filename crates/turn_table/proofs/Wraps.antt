-- Values in slots and out of them.
use Rattle.std.proofs.Common.{◌≡◌, ℕ, zero, suc, ◌+◌, ◌<◌, Bool, false, set, get_or-set_other, Option, Some, None, option_to_list, List, [], ◌∷◌, ◌++◌, map, reverse, take, get_or, refl, sym, ap, ◌∙◌, subst, arith, append_assoc, append-nil}
use Rattle.std.proofs.lemmas.List.{reverse-append, take_more}
use Rattle.std.proofs.lemmas.List.Concat.{flat_map-append}
use mathlib.Core.Option.{some}
use mathlib.Core.Logic.{dite}
use native.Mathlib.Decide.{ℕ_discrete}
use lib.ListN.{get_elem?}
use Rattle.turn_table.specs.Values.{present}
use Rattle.turn_table.proofs.Hands.{at_within, read_at}

-- a slot is emptied: it and those before it are empty, and those behind it are as they were
set_false : (fs : List Bool) (i : ℕ) → get_or (set fs i false) i false ≡ false
set_false [] i = refl
set_false (x ∷ xs) zero = refl
set_false (x ∷ xs) (suc i) = set_false xs i

pub emptied : (fs : List Bool) (i k : ℕ) → k < i + 1 → ((j : ℕ) → j < i → get_or fs j false ≡ false) → get_or (set fs i false) k false ≡ false
emptied fs i k near before = dite (ℕ_discrete k i) (λ e. subst (λ (j : ℕ). get_or (set fs i false) j false ≡ false) (sym e) (set_false fs i))
    (λ n. get_or-set_other fs i k false false n ∙ before k (omega arith))

module _ {V : Type 0} where
  pub present-some : (xs : List V) → present (map Some xs) ≡ xs
  present-some [] = refl
  present-some (x ∷ xs) = ap (λ (ys : List V). x ∷ ys) (present-some xs)

  reverse_one : (x : Option V) → reverse (option_to_list x) ≡ option_to_list x
  reverse_one None = refl
  reverse_one (Some v) = refl

  -- the last slot's value goes to the values that are kept in reverse
  pub kept_last : (old new : List (Option V)) (x : Option V) (values later : List V) (all : List V) → old ≡ new ++ x ∷ [] → later ≡ values ++ option_to_list x → present old ++ reverse values ≡ all → present new ++ reverse later ≡ all
  kept_last old new x values later all e l h =
      ap (λ (ys : List V). present new ++ reverse ys) l ∙ ap (λ (ys : List V). present new ++ ys) (reverse-append values (option_to_list x) ∙ ap (λ (ys : List V). ys ++ reverse values) (reverse_one x))
      ∙ sym (append_assoc (present new) (option_to_list x) (reverse values)) ∙ ap (λ (ys : List V). ys ++ reverse values) (ap (λ (ys : List V). present new ++ ys) (sym (append-nil (option_to_list x))) ∙ sym (flat_map-append option_to_list new (x ∷ [])) ∙ sym (ap present e)) ∙ h

  -- the next slot's value goes behind those before it
  pub kept_next : (slots : List (Option V)) (i : ℕ) (x : Option V) → get_elem? slots i ≡ some x → present (take (i + 1) slots) ≡ present (take i slots) ++ option_to_list x
  kept_next slots i x at = ap present (take_more slots i x (at_within slots i x at) ∙ ap (λ (y : Option V). take i slots ++ y ∷ []) (read_at slots i x x at))
      ∙ flat_map-append option_to_list (take i slots) (x ∷ []) ∙ ap (λ (ys : List V). present (take i slots) ++ ys) (append-nil (option_to_list x))
