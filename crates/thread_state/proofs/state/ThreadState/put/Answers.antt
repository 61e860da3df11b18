use Rattle.std.proofs.Common.{◌≡◌, ◌∷◌, ◌∙◌, refl, sym, ap, Ok, ℤ, rules, SFits, to_z, of_z, w64}
use Rattle.std.proofs.lemmas.Int.{to_z-of_z}
use Rattle.depth_first_run.specs.Stores.{block_of}
use Rattle.depth_first_run.specs.States.{with_number}
use Rattle.depth_first_run.specs.Run.{put_value, put_number}
use Rattle.depth_first_run.specs.Values.{value, place_in}
use Rattle.node_table.specs.Names.{name_at}
use Rattle.thread_state.specs.Effects.{Faults}
use Rattle.thread_state.proofs.Steps.{own_store, is_put, put_faults, put_is, settled_ok, settled_err, err_exit, at_same}
use Rattle.thread_state.proofs.state.ThreadState.put.Goals as goal

pub returns-in_err-index-clause-state : goal.returns-in_err-index-clause-state
returns-in_err-index-clause-state c = λ contexts names line i e read_i read_e s is.
    let shows = own_store contexts names c.args.self.now s c.requires.going is in
    err_exit _ (Faults (names ∷ contexts) line c.args.self.now (λ v. with_number line (value v.store i) (put_value line (name_at names c.args.slot) e) v) s)
    c.from_residual.result c.in_err-index.field-0.0 c.from_residual.ensures.1
    (is, settled_err line c.in_err-index.field-0.0 (value s.store i) (put_value line (name_at names c.args.slot) e) s (c.in_err-index.ensures names s.store i shows read_i))

pub returns-in_err-value-clause-state : goal.returns-in_err-value-clause-state
returns-in_err-value-clause-state c = λ contexts names line i e read_i read_e s is.
    let shows = own_store contexts names c.args.self.now s c.requires.going is in
    let fits : SFits w64 c.in_ok-index.index = search rules in
    let v : ℤ = to_z w64 (of_z w64 c.in_ok-index.index) in
    let index : Ok v ≡ value s.store i = ap Ok (to_z-of_z w64 c.in_ok-index.index fits) ∙ c.in_ok-index.ensures names s.store i shows read_i in
    err_exit _ (Faults (names ∷ contexts) line c.args.self.now (λ v. with_number line (value v.store i) (put_value line (name_at names c.args.slot) e) v) s)
    c.from_residual-in_err-value.result c.in_err-value.field-0.0 c.from_residual-in_err-value.ensures.1 (
      is,
      settled_ok line v (value s.store i) (put_value line (name_at names c.args.slot) e) s index
          ∙ settled_err line c.in_err-value.field-0.0 (value s.store e) (put_number line (name_at names c.args.slot) v) s (c.in_err-value.ensures names s.store e shows read_e),
    )

pub returns-in-Ok-clause-state : goal.returns-in-Ok-clause-state
returns-in-Ok-clause-state c = λ contexts names line i e read_i read_e s is.
    let shows = own_store contexts names c.args.self.now s c.requires.going is in
    let fits_i : SFits w64 c.in_ok-index.index = search rules in
    let j : ℤ = to_z w64 (of_z w64 c.in_ok-index.index) in
    let index : Ok j ≡ value s.store i = ap Ok (to_z-of_z w64 c.in_ok-index.index fits_i) ∙ c.in_ok-index.ensures names s.store i shows read_i in
    let fits : SFits w64 c.in_ok-value.value = search rules in
    let v : ℤ = to_z w64 (of_z w64 c.in_ok-value.value) in
    let number : Ok v ≡ value s.store e = ap Ok (to_z-of_z w64 c.in_ok-value.value fits) ∙ c.in_ok-value.ensures names s.store e shows read_e in
    let b = name_at names c.args.slot in
    let same = put_is line b j v i e s index number in
    at_same (names ∷ contexts) _ (put_number line b j v s) (with_number line (value s.store i) (put_value line b e) s) (sym same)
    (is_put contexts names c.args.self.now _ s line b v (place_in (block_of s.store.blocks b) j)
    (record { label = refl; done = refl; forks = refl; faulted = refl; callers = refl; calls = refl; turns = refl })
    c.requires.going is (c.in-Ok.ensures.store names s.store shows))

pub returns-in-Err-clause-state : goal.returns-in-Err-clause-state
returns-in-Err-clause-state c = λ contexts names line i e read_i read_e s is.
    let shows = own_store contexts names c.args.self.now s c.requires.going is in
    let fits_i : SFits w64 c.in_ok-index.index = search rules in
    let j : ℤ = to_z w64 (of_z w64 c.in_ok-index.index) in
    let index : Ok j ≡ value s.store i = ap Ok (to_z-of_z w64 c.in_ok-index.index fits_i) ∙ c.in_ok-index.ensures names s.store i shows read_i in
    let fits : SFits w64 c.in_ok-value.value = search rules in
    let v : ℤ = to_z w64 (of_z w64 c.in_ok-value.value) in
    let number : Ok v ≡ value s.store e = ap Ok (to_z-of_z w64 c.in_ok-value.value fits) ∙ c.in_ok-value.ensures names s.store e shows read_e in
    let b = name_at names c.args.slot in
    let same = put_is line b j v i e s index number in
    let faults = put_faults contexts names c.args.self.now _ s line b v (place_in (block_of s.store.blocks b) j) c.in-Err.kind
    (record { label = refl; done = refl; forks = refl; faulted = refl; callers = refl; calls = refl; turns = refl })
    c.requires.going is (c.in-Err.ensures.store names s.store shows) in
    (faults.0, same ∙ faults.1)
