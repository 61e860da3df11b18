-- Each thread but the root holds a record, and room for one more deque changes nothing else.
use Rattle.std.proofs.Common.{◌≡◌, ℕ, ◌+◌, ◌≤◌, ◌<◌, List, [], ◌∷◌, map, inl, inr, refl, sym, ap, subst, ◌∙◌}
use Rattle.std.specs.Prelude.{◌/◌}
use Rattle.language_limits.specs.declared.TheConstants.{RECORD_WORDS}
use denote.Struct.Props.{props}
use Rattle.deque_list.specs.Deques.{Deque}
use Rattle.deque_list.specs.DequeLists.{ListView}
use Rattle.list_changes.specs.Shown.{deque_shown}
use Rattle.depth_first_run.specs.States.{Setting}
use Rattle.deque_machine.specs.Moments.{Moment}
use Rattle.deque_machine.specs.Runs.{Pair}
use Rattle.deque_machine.specs.Terms.{Terms}
use Rattle.deque_machine.specs.Lists.{Each}
use Rattle.thread_frames.specs.Passed.Parts as parts
use Rattle.node_table.specs.Table.{Table}
use Rattle.thread_frames.specs.declared.thread.Thread.{Thread}
use Rattle.thread_frames.specs.Points.{IsAtPoint}
use Rattle.thread_frames.specs.Views.{label_of, thread_words}
use Rattle.scheduler_state.specs.Passed.Points.{words_at_end}
use Rattle.thread_frames.specs.Shown.{thread_shown}
use Rattle.scheduler_state.specs.declared.scheduler.Scheduler.{Scheduler}
use Rattle.scheduler_state.specs.Held.{held}
use Rattle.scheduler_state.specs.Moments.{IsSound, CanGoOn, SameTerms, HasRun, terms_of}
use Rattle.thread_frames.proofs.Bounds.{end_within}
use Rattle.ready_machine.specs.Standing.{HasRecord}

few_prop : (a b : ℕ) → IsProp (a < b)
few_prop a b = search props

-- two bounds are known in one way
pub both_prop : (a b x y : ℕ) → IsProp ((a < b) × (x < y))
both_prop a b x y = λ p q i. (few_prop a b p.0 q.0 i, few_prop x y p.1 q.1 i)

has_record : (t : Table) (k : ℕ) (x : Thread) → IsAtPoint t k x → HasRecord (thread_shown x)
has_record t k x point = by_label (label_of x) refl (end_within x ∣ (t, k, point) ∣₁)
  where
    by_label : (label : List ℕ) → label_of x ≡ label → words_at_end (label_of x) ≤ thread_words x → HasRecord (thread_shown x)
    by_label [] is few = inl is
    by_label (ordinal ∷ label) is few = inr (subst (λ l. words_at_end l ≤ thread_words x) is few)

threads_have : (t : Table) (k : ℕ) (items : List Thread) → Each (IsAtPoint t k) items → Each HasRecord (map thread_shown items)
threads_have t k [] all = tt
threads_have t k (x ∷ items) all = (has_record t k x all.0, threads_have t k items all.1)

pub all_have : (t : Table) (k : ℕ) (ds : List (Deque Thread)) → Each (λ d. Each (IsAtPoint t k) (Deque.items d)) ds
    → Each (λ d. Each HasRecord (parts.Deque.threads d)) (map (deque_shown thread_shown) ds)
all_have t k [] all = tt
all_have t k (d ∷ ds) all = (threads_have t k (Deque.items d) all.0, all_have t k ds all.1)

-- another list with the same deques, of which as many are allowed
module _ (s : Scheduler) (list : ListView Thread) (deques : list.deques ≡ s.list.deques) (most : list.most ≡ s.list.most) where
  abbrev later : Scheduler
  later = record s { list = list }

  pub room_held : held later ≡ held s
  room_held = ap (λ ds. record (held s) { deques = ds }) deques

  pub room_terms : SameTerms s later
  room_terms actions = λ i. record (terms_of s actions) { limits = record { capacity = s.pool.capacity; actions = actions; deques = most i } }

  pub room_sound : (t : Table) (k limit : ℕ) → IsSound t k (terms_of s limit) (held s) → IsSound t k (terms_of later limit) (held later)
  room_sound t k limit sound = subst (λ x. IsSound t k x (held later)) (sym (room_terms limit)) (subst (IsSound t k (terms_of s limit)) (sym room_held) sound)

  pub room_points : (t : Table) (k : ℕ) → CanGoOn t k (held s) → CanGoOn t k (held later)
  room_points t k points = subst (CanGoOn t k) (sym room_held) points

  pub room_run : (c : Setting) (terms : Terms) (run : List Pair) (m : Moment) → HasRun c terms (held s) run m → HasRun c terms (held later) run m
  room_run c terms run m at = subst (λ h. HasRun c terms h run m) (sym room_held) at

-- the places in the list stay those that the words of the pool allow
pub most_stays : (before after : Scheduler) → SameTerms before after → before.list.most ≡ 1 + before.pool.capacity / RECORD_WORDS → after.list.most ≡ 1 + after.pool.capacity / RECORD_WORDS
most_stays before after same is =
    ap (λ (x : Terms). x.limits.deques) (same 0) ∙ is ∙ ap (λ n. 1 + n / RECORD_WORDS) (sym (ap (λ (x : Terms). x.limits.capacity) (same 0)))
