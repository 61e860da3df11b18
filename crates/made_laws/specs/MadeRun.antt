-- What a made program prints.
use Rattle.std.specs.Prelude.{ℕ, ◌≤◌, ℤ, pos, ◌+ℤ◌, List, [], ◌∷◌}
use Rattle.std.specs.List.{flat_map, range_with_len}
use Rattle.depth_first_run.specs.States.{Setting}
use Rattle.made_laws.specs.MadeProgram.{function_count}

-- each branch of group i prints i
abbrev pub twice : ℕ → List ℤ
twice i = pos i ∷ pos i ∷ []

-- the numbers that a made program of n groups prints
abbrev pub made_lines : ℕ → List ℤ
made_lines n = flat_map twice (range_with_len 0 n)

-- the sum of numbers
abbrev pub sum_of_lines : List ℤ → ℤ
sum_of_lines [] = pos 0
sum_of_lines (v ∷ vs) = v +ℤ sum_of_lines vs

-- the limits of a run let `main` call each function of n groups, and each group fork
pub record AllowsGroups (n : ℕ) (c : Setting) : Type 0 where
  pub calls : 2 ≤ c.most_calls
  pub turns : function_count n ≤ c.most_turns
  pub forks : 1 ≤ c.most_forks
