-- A fact of a thread that is at its point.
use Rattle.std.proofs.Common.{◌≡◌, ℕ, List, Option, sym, subst}
use Rattle.std.proofs.Math.Logic.{∥∥₁_elim, ∥∥₁_map}
use Rattle.node_table.specs.Table.{Table}
use Rattle.thread_state.specs.Passed.States.{Setting}
use Rattle.thread_state.specs.Settings.{IsSettingOf}
use Rattle.block_arena.specs.declared.record_block.RecordBlock.{RecordBlock}
use Rattle.thread_run.specs.declared.run.ThreadRun.{ThreadRun}
use Rattle.thread_frames.specs.Points.{At, IsThreadAt, IsAtPoint, IsPlaced}
use Rattle.thread_frames.specs.declared.open_child.OpenChild.{OpenChild}
use Rattle.thread_frames.specs.declared.prepared.Prepared.{Prepared}
use Rattle.thread_frames.specs.declared.thread.Thread.{Thread}

-- in the run of some program
pub placed_gives : {P : Type 0} (thread : Thread) → IsProp P → IsPlaced thread
    → ((t : Table) (k : ℕ) (c : Setting) → IsSettingOf t k c → IsThreadAt c t thread → P) → P
placed_gives thread prop placed f =
    ∥∥₁_elim placed prop (λ x. ∥∥₁_elim x.2.of_program prop (λ y. ∥∥₁_elim (x.2.at y.0 y.1) prop (λ a. f x.0 x.1 y.0 y.1 a)))

-- from one point to the next
pub next_point : (t : Table) (k : ℕ) (before after : Thread) → ((c : Setting) → IsSettingOf t k c → IsThreadAt c t before → IsThreadAt c t after)
    → IsAtPoint t k before → IsAtPoint t k after
next_point t k before after f p = record { of_program = p.of_program; at = λ c is. ∥∥₁_map (p.at c is) (f c is) }

-- with another action prepared, or none
pub prepared_as : (c : Setting) (t : Table) (func : Option ℕ) (run : ThreadRun) (children : List OpenChild) (block : Option RecordBlock) (p q : Prepared)
    → p ≡ q → At c t func run children block q → At c t func run children block p
prepared_as c t func run children block p q e a = subst (λ (x : Prepared). At c t func run children block x) (sym e) a

-- with the same parts
pub same_parts : (c : Setting) (t : Table) (f g : Option ℕ) (r u : ThreadRun) (xs ys : List OpenChild) (b d : Option RecordBlock) (p q : Prepared)
    → f ≡ g → r ≡ u → xs ≡ ys → b ≡ d → p ≡ q → At c t g u ys d q → At c t f r xs b p
same_parts c t f g r u xs ys b d p q fg ru xy bd pq a =
    subst (λ (x : Option ℕ). At c t x r xs b p) (sym fg)
    (subst (λ (x : ThreadRun). At c t g x xs b p) (sym ru)
    (subst (λ (x : List OpenChild). At c t g u x b p) (sym xy)
    (subst (λ (x : Option RecordBlock). At c t g u ys x p) (sym bd)
    (subst (λ (x : Prepared). At c t g u ys d x) (sym pq) a))))

-- a thread that is at its point
pub placed_of : (t : Table) (k : ℕ) (thread : Thread) → IsAtPoint t k thread → IsPlaced thread
placed_of t k thread p = ∣ (t, k, p) ∣₁
