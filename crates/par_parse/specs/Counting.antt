-- The counts of the code, against those of a text.
use Rattle.std.specs.Prelude.{◌≤◌}
use Rattle.par_text.specs.Counts.{Before, most_functions, most_names}
use Rattle.par_parse.specs.declared.before.Before.{Before as Counted}

abbrev pub counts_of : Counted → Before
counts_of b = record {
  functions = b.functions;
  names = b.names;
  in_header = b.in_header;
  last = b.last;
  second = b.second;
  third = b.third;
}

-- no count has passed its limit
abbrev pub AllowsMore : Counted → Type 0
AllowsMore b = (b.functions ≤ most_functions) × (b.names ≤ most_names)
