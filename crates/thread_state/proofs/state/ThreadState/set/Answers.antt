use Rattle.std.proofs.Common.{◌≡◌, ◌∷◌, ◌∙◌, refl, ap, Ok, ℤ, rules, SFits, to_z, of_z, w64}
use Rattle.std.proofs.lemmas.Int.{to_z-of_z}
use Rattle.depth_first_run.specs.States.{with_number}
use Rattle.depth_first_run.specs.Run.{set_integer}
use Rattle.depth_first_run.specs.Values.{value}
use Rattle.node_table.specs.Names.{name_at}
use Rattle.thread_state.specs.Effects.{Faults}
use Rattle.thread_state.proofs.Steps.{own_store, is_set, settled_err, err_exit}
use Rattle.thread_state.proofs.state.ThreadState.set.Goals as goal

pub returns-in_err-value-clause-state : goal.returns-in_err-value-clause-state
returns-in_err-value-clause-state c = λ contexts names line e read s is.
    let shows = own_store contexts names c.args.self.now s c.requires.going is in
    err_exit _ (Faults (names ∷ contexts) line c.args.self.now (λ v. with_number line (value v.store e) (set_integer (name_at names c.args.slot)) v) s)
    c.from_residual.result c.in_err-value.field-0.0 c.from_residual.ensures.1
    (is, settled_err line c.in_err-value.field-0.0 (value s.store e) (set_integer (name_at names c.args.slot)) s (c.in_err-value.ensures names s.store e shows read))

pub returns-clause-state : goal.returns-clause-state
returns-clause-state c = λ contexts names line e read s is.
    let fits : SFits w64 c.in_ok-value.value = search rules in
    let v : ℤ = to_z w64 (of_z w64 c.in_ok-value.value) in
    let shows = own_store contexts names c.args.self.now s c.requires.going is in
    let number : Ok v ≡ value s.store e = ap Ok (to_z-of_z w64 c.in_ok-value.value fits) ∙ c.in_ok-value.ensures names s.store e shows read in
    is_set contexts names c.args.self.now _ s line (name_at names c.args.slot) v e
    (record { label = refl; done = refl; forks = refl; faulted = refl; callers = refl; calls = refl; turns = refl })
    c.requires.going is number (c.set_integer.ensures.store names s.store shows)
