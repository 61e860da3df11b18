use Rattle.command_line.specs.Arguments.{number_of, values_of}
use Rattle.command_line.proofs.Commands.{sets_in_range, groups_in_range}
use Rattle.dfd_laws.proofs.laws.commands_have_ranges.Goals as goal

pub returns : goal.returns
returns c = λ words command is. record {
  numbers = λ s. sets_in_range command.kind s (values_of s is.items) (number_of command s) (is.sets s);
  groups = groups_in_range words command is;
}
