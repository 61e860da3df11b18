-- The item that comes next.
use Rattle.std.proofs.Common.{◌≡◌, ℕ, List, ◌∷◌, ◌++◌, sym, ◌∙◌, subst}
use Rattle.std.specs.Prelude.{codes}
use Rattle.std.specs.List.{flat_map}
use Rattle.command_line.specs.declared.command_kind.CommandKind.{CommandKind}
use Rattle.command_line.specs.declared.numbers.Numbers.{Numbers}
use Rattle.command_line.specs.declared.setting.Setting.{Setting}
use Rattle.command_line.specs.Arguments.{Item, option, plain, spelled}
use Rattle.command_line.specs.Reading.{NoOption, IsNext, MayFit, MoreFit, NoneFit, MoreTell, GoesOn, NoneGoesOn}
use Rattle.command_line.proofs.Items.{first_of_them, one_option, value_not_dashed}
use Rattle.command_line.proofs.Fits.{only_plain}

-- a plain argument is taken
pub plain_taken :
    (kind : CommandKind) (numbers after : Numbers) (arguments rest : List (List ℕ)) (argument : List ℕ) → arguments ≡ argument ∷ rest →
    MoreTell kind numbers argument after → GoesOn kind numbers arguments after rest
plain_taken kind numbers after arguments rest argument are more = record { item = plain argument; written = are; fit = more }

-- what begins with `--` is no plain argument
not_plain :
    (kind : CommandKind) (items more : List Item) (arguments rest : List (List ℕ)) (argument body w : List ℕ) → arguments ≡ argument ∷ rest →
    argument ≡ codes "--" ++ body → arguments ≡ w ∷ flat_map spelled more → ¬ MayFit kind (items ++ plain w ∷ more)
not_plain kind items more arguments rest argument body w are begins e may =
    value_not_dashed w (only_plain kind items more w may).2.0 body (sym (first_of_them _ _ _ _ (sym are ∙ e)) ∙ begins)

-- an argument that begins with `--` and no option
pub no_option :
    (kind : CommandKind) (numbers : Numbers) (arguments rest : List (List ℕ)) (argument body : List ℕ) → arguments ≡ argument ∷ rest →
    argument ≡ codes "--" ++ body → NoOption arguments → NoneGoesOn kind numbers arguments
no_option kind numbers arguments rest argument body are begins none items more (option s v b) fit e may = none s v b (flat_map spelled more) e
no_option kind numbers arguments rest argument body are begins none items more (plain w) fit e may =
    not_plain kind items more arguments rest argument body w are begins e may

-- an option is refused
pub option_refused :
    (kind : CommandKind) (numbers : Numbers) (arguments rest after : List (List ℕ)) (argument body v : List ℕ) (s : Setting) → arguments ≡ argument ∷ rest →
    argument ≡ codes "--" ++ body → IsNext arguments s v after → NoneFit kind numbers s v → NoneGoesOn kind numbers arguments
option_refused kind numbers arguments rest after argument body v s are begins next none items more (option t u d) fit e may =
    let one = one_option t s u v d next.0 (flat_map spelled more) after (sym e ∙ next.1) in
    none items more next.0 fit (subst (λ (x : Item). MayFit kind (items ++ x ∷ more)) one.0 may)
option_refused kind numbers arguments rest after argument body v s are begins next none items more (plain w) fit e may =
    not_plain kind items more arguments rest argument body w are begins e may

-- an option is taken
pub option_taken :
    (kind : CommandKind) (numbers more : Numbers) (arguments after : List (List ℕ)) (v : List ℕ) (s : Setting) → IsNext arguments s v after →
    MoreFit kind numbers s v more → GoesOn kind numbers arguments more after
option_taken kind numbers more arguments after v s next fits = record {
  item = option s v next.0;
  written = next.1;
  fit = λ items fit. fits items next.0 fit;
}
