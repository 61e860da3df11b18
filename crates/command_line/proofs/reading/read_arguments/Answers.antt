use Rattle.std.proofs.Common.{◌∙◌, ap, sym, List, ℕ, ◌∷◌, arith}
use Rattle.command_line.specs.Arguments.{arguments_of}
use Rattle.command_line.specs.declared.setting.Setting.TheVariants.{Quota, Workers, Arena, Steps, Deques}
use Rattle.command_line.proofs.Commands.{a_command, few_steps, no_groups, one_command, in_range}
use Rattle.command_line.proofs.reading.read_arguments.Goals as goal

pub short_number-requires : goal.short_number-requires
short_number-requires c =
    omega (arith, (in_range c.in_ok-kind.kind (arguments_of c.in_ok-first.rest.now) c.in_ok-numbers.numbers Quota c.in_ok-numbers.ensures).1)

pub short_number-requires-2 : goal.short_number-requires-2
short_number-requires-2 c =
    omega (arith, (in_range c.in_ok-kind.kind (arguments_of c.in_ok-first.rest.now) c.in_ok-numbers.numbers Workers c.in_ok-numbers.ensures).1)

pub short_number-requires-3 : goal.short_number-requires-3
short_number-requires-3 c =
    omega (arith, (in_range c.in_ok-kind.kind (arguments_of c.in_ok-first.rest.now) c.in_ok-numbers.numbers Arena c.in_ok-numbers.ensures).1)

pub short_number-requires-4 : goal.short_number-requires-4
short_number-requires-4 c =
    let within = (in_range c.in_ok-kind.kind (arguments_of c.in_ok-first.rest.now) c.in_ok-numbers.numbers Steps c.in_ok-numbers.ensures).1 in
    let few = few_steps c.in_ok-kind.kind in omega (arith, within, few)

pub short_number-requires-5 : goal.short_number-requires-5
short_number-requires-5 c =
    omega (arith, (in_range c.in_ok-kind.kind (arguments_of c.in_ok-first.rest.now) c.in_ok-numbers.numbers Deques c.in_ok-numbers.ensures).1)

pub returns-in_err-groups-clause-exact : goal.returns-in_err-groups-clause-exact
returns-in_err-groups-clause-exact c = rw c.from_residual-in_err-groups.ensures
    (no_groups (arguments_of c.args.arguments.now) (arguments_of c.in_ok-first.rest.now) c.as_bytes.result.now c.in_ok-kind.kind c.in_ok-numbers.numbers
    (ap arguments_of c.in_ok-first.ensures.cases.0
    ∙ ap (λ (b : List ℕ). b ∷ arguments_of c.in_ok-first.rest.now) (sym c.as_bytes.ensures.value))
    c.in_ok-kind.ensures c.in_ok-numbers.ensures (sym c.in_err-groups.ensures))

pub returns-clause-only : goal.returns-clause-only
returns-clause-only c other is =
    one_command (arguments_of c.args.arguments.now) _ other
    (a_command (arguments_of c.args.arguments.now) (arguments_of c.in_ok-first.rest.now) c.as_bytes.result.now _ c.in_ok-numbers.numbers
    (ap arguments_of c.in_ok-first.ensures.cases.0
    ∙ ap (λ (b : List ℕ). b ∷ arguments_of c.in_ok-first.rest.now) (sym c.as_bytes.ensures.value))
    c.in_ok-kind.ensures c.in_ok-numbers.ensures c.short_number.ensures c.short_number-2.ensures c.short_number-3.ensures
    c.short_number-4.ensures c.short_number-5.ensures c.number.ensures (sym c.in_ok-groups.ensures))
    is
