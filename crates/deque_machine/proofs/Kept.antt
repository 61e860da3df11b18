-- Each case of the machine keeps a moment lawful, and the opening moment is lawful.
use Rattle.std.proofs.Common.{◌≡◌, ℕ, ◌<◌, List, [], inl, inr, refl, arith}
use Rattle.depth_first_run.specs.Passed.Actions.{Action}
use Rattle.depth_first_run.specs.Passed.Runs.{IsDepthFirst}
use Rattle.depth_first_run.specs.Passed.Facts.{label_at, IsLive}
use Rattle.depth_first_run.proofs.Passed.ThreadLaws.{root_ends}
use Rattle.deque_machine.proofs.Lists.{one_cases}
use Rattle.deque_machine.proofs.Keeping.{no_books_are_lawful}
use Rattle.deque_machine.specs.Moments.{Moment, opening}
use Rattle.deque_machine.specs.Machine.{Setting, Event, May}
use Rattle.deque_machine.specs.LawfulOrder.{IsLawful}
use Rattle.deque_machine.proofs.LiveThreads.{fork_is_done}
use Rattle.deque_machine.proofs.Labels.{middle_of_fork}
use Rattle.deque_machine.proofs.KeptOrder.{kept_order, kept_books}
use Rattle.deque_machine.proofs.KeptPeriods.{kept_births, kept_counts, kept_workers}
use Rattle.deque_machine.proofs.KeptBegun.{kept_begun}
use Rattle.deque_machine.proofs.Lists.{by_end, cons_is_not_nil}

pub kept : (s : Setting) → IsDepthFirst s.quota s.list → (m : Moment) → IsLawful s m → (worker : ℕ) (event : Event) (after : Moment) → May s m worker event after → IsLawful s after
kept s run m lawful worker event after may =
    let books = kept_books s run m lawful.order (lawful.periods).lawful worker event after may in record {
      order = kept_order s run m lawful.order (lawful.periods).lawful worker event after may;
      periods = record {
        lawful = books;
        one_each = kept_counts s run m lawful.order lawful.periods worker event after may;
        births = kept_births s run m lawful.order lawful.periods worker event after may;
      };
      begun = kept_begun s run m lawful.order lawful.periods lawful.begun worker event after books may;
      owners_below = kept_workers s run m lawful.order lawful.periods lawful.owners_below worker event after may;
    }

-- at the start only the root is live
only_root : (k : ℕ) (l : List Action) → IsDepthFirst k l → (t : List ℕ) → IsLive l (λ i. 0) t → t ≡ []
only_root k l run t live = elim (by_end t) [
  | inl root ↦ root
  | inr cut ↦
      let f = fork_is_done k l run (λ i. 0) ((no_books_are_lawful k l).first_actions) t cut.0 [] cut.1 live cut.2 in
      let did : 0 < 0 = f.4 in absurd (omega arith)
]

root_is_live : (k : ℕ) (l : List Action) → IsDepthFirst k l → IsLive l (λ i. 0) []
root_is_live k l run =
    let root = root_ends k l run in record {
      acts = (root.0, omega (arith, root.1), root.2);
      forked = λ f child f_in deed stems. absurd (middle_of_fork (label_at l f) child stems);
      goes_on = λ e e_in mine end. refl;
    }

pub opening_is_lawful : (s : Setting) → IsDepthFirst s.quota s.list → IsLawful s opening
opening_is_lawful s run = record {
  order = record {
    rises = (tt, tt);
    stacked = (tt, tt);
    children_above = (tt, tt);
    waits = tt;
    apart = tt;
    all_placed = λ t live. inl (inl (only_root s.quota s.list run t live));
    all_live = (root_is_live s.quota s.list run, tt);
    wait_once = tt;
    none_empty = ((λ none. cons_is_not_nil [] [] none), tt);
    ids_differ = λ id. elim (one_cases id 0) [ inl here ↦ let one = here.1 in omega arith | inr other ↦ let none = other.1 in omega arith ];
    owns_one = λ w. omega arith;
  };
  periods = record {
    lawful = no_books_are_lawful s.quota s.list;
    one_each = λ w. refl;
    births = record { parents_first = tt; owned_born = tt };
  };
  begun = record { ahead_marked = λ n prefix. tt; unmarked_first = λ w. tt };
  owners_below = λ w some. absurd (omega arith);
}
