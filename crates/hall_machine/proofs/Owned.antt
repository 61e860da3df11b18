-- The worker of a seat, its deque at the moment, and the books of its periods.
use Rattle.std.proofs.Common.{◌≡◌, ℕ, ◌+◌, ◌≤◌, cond, List, refl, sym, ap, ◌∙◌, arith}
use Rattle.std.proofs.lemmas.Bool.{eq-eqb}
use Rattle.deque_machine.specs.Moments.{one_if_worker}
use Rattle.deque_machine.specs.Machine.{Setting}
use Rattle.hall_machine.specs.Views.{View, in_hall, one_if_in, one_if_its, stands_for}
use Rattle.hall_machine.proofs.First.{is_in}
use Rattle.hall_machine.proofs.Notes.{total_two}
use Rattle.hall_machine.specs.State.{IsIn}
use Rattle.hall_machine.specs.Owned.{SeatsHaveTheirWorkers}

-- ---- workers

-- a seat that is in stands for its worker
stands_one : (views : List View) (seat : ℕ) (v : View) (worker : ℕ) → IsIn views seat v → v.worker ≡ worker → 1 ≤ stands_for worker v
stands_one views seat v worker here same =
    let one : one_if_its worker v ≡ 1 = ap (λ b. cond b (one_if_in v) 0) (eq-eqb worker v.worker (sym same)) ∙ ap (in_hall v.places) here.stays ∙ is_in v.places here.placed in
    let sum : stands_for worker v ≡ one_if_its worker v + one_if_worker worker v.enters = refl in omega (arith, one, sum)

pub seats_have_their_workers : (s : Setting) → SeatsHaveTheirWorkers s
seats_have_their_workers s limits h steps m leads count views a b u v state apart first second same =
    let both = total_two (stands_for u.worker) views a b u v apart first.noted second.noted in
    let one = stands_one views a u u.worker first refl in let two = stands_one views b v u.worker second (sym same) in
    let named = state.crew.named u.worker in let once = state.crew.once u.worker in absurd (omega (arith, both, one, two, named, once))
