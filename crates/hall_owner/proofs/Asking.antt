-- An action whose words do not fit the arena is one that the depth-first list has there, and that its period may do.
use Rattle.std.proofs.Common.{◌≡◌, ℕ, ◌+◌, ◌≤◌, ◌<◌, inl, inr, refl, sym, ap, subst, arith}
use Rattle.std.proofs.Math.Logic.{∥∥₁_map}
use Rattle.std.proofs.lemmas.Bool.{le-leb, lt-leb}
use Rattle.std.specs.Prelude.{cond}
use Rattle.hall_slots.specs.Passed.Play.{taken_by}
use Rattle.depth_first_list.specs.Actions.{Deed, allocates}
use Rattle.depth_first_list.specs.Facts.{words_at}
use Rattle.depth_first_run.specs.Run.{list_of}
use Rattle.hall_actions.specs.Passed.EventParts.{MayDoNext}
use Rattle.hall_actions.specs.Passed.HallNames.{quota_of, HallKey, Next}
use Rattle.hall_slots.specs.Passed.Books.{charge}
use Rattle.thread_frames.specs.Passed.Events.{MayDo}
use Rattle.hall_actions.specs.declared.at_next.AtNext.{AtNext}
use Rattle.hall_owner.specs.Taking.{AsksByTheList}
use Rattle.hall_actions.specs.WithPool.{words_asked_by}
use Rattle.thread_frames.specs.declared.next.Next.TheVariants.{Fork, Join, Alloc, Release, Dummy, Fault, End}

pub asks_nothing : (key : HallKey) (at : AtNext) (next : Next) → words_asked_by next ≡ 0 → AsksByTheList key at next
asks_nothing key at next none live few full = absurd (omega (arith, none, few, full))

charge_fits : (k used words : ℕ) → used ≤ k → MayDo k used allocates words → used + charge k allocates words ≤ k
charge_fits k used words within may = elim may [
  | inl fits ↦ let all = ap (λ b. cond b words 0) (le-leb words k fits.0) in let some = fits.1 in omega (arith, all, some)
  | inr above ↦ let none = ap (λ b. cond b words 0) (lt-leb words k above) in omega (arith, none, within)
]

pub asks_fork : (key : HallKey) (at : AtNext) (worker charged : ℕ) → MayDoNext key worker Fork charged at.top at.running.period → AsksByTheList key at Fork
asks_fork key at worker charged may live few full c of = ∥∥₁_map (may c of) (λ m. (
  m.0,
  subst (λ (d : Deed). 0 < taken_by d (words_at (list_of c) m.0.place)) (sym m.0.deed) (subst (λ w. 0 < w) (sym m.0.words) (omega (arith))),
  m.0.words,
  subst (λ (d : Deed). at.running.period.used + charge c.quota d (words_at (list_of c) m.0.place) ≤ c.quota) (sym m.0.deed) m.1,
  full,
))

pub asks_alloc : (key : HallKey) (at : AtNext) (worker charged words : ℕ) → at.running.period.used ≤ quota_of key
    → MayDoNext key worker (Alloc words) charged at.top at.running.period → AsksByTheList key at (Alloc words)
asks_alloc key at worker charged words within may live few full c of = ∥∥₁_map (may c of) (λ m. (
  m.0,
  subst (λ (d : Deed). 0 < taken_by d (words_at (list_of c) m.0.place)) (sym m.0.deed) (subst (λ w. 0 < w) (sym m.0.words) (omega (arith, few, full))),
  m.0.words,
  subst (λ (d : Deed). at.running.period.used + charge c.quota d (words_at (list_of c) m.0.place) ≤ c.quota) (sym m.0.deed)
      (charge_fits c.quota at.running.period.used (words_at (list_of c) m.0.place) (subst (λ q. at.running.period.used ≤ q) (sym of.quota) within) m.1.0),
  full,
))

-- whichever the action is
pub asks : (key : HallKey) (at : AtNext) (worker charged : ℕ) (next : Next) → at.running.period.used ≤ quota_of key
    → MayDoNext key worker next charged at.top at.running.period → AsksByTheList key at next
asks key at worker charged Fork within may = asks_fork key at worker charged may
asks key at worker charged (Join child) within may = asks_nothing key at (Join child) refl
asks key at worker charged (Alloc words) within may = asks_alloc key at worker charged words within may
asks key at worker charged (Release words) within may = asks_nothing key at (Release words) refl
asks key at worker charged Dummy within may = asks_nothing key at Dummy refl
asks key at worker charged (Fault fault) within may = asks_nothing key at (Fault fault) refl
asks key at worker charged End within may = asks_nothing key at End refl
