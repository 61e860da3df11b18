-- A checker before the first event stands for the opening moment, and when the root has ended.
use Rattle.std.proofs.Common.{◌≡◌, ◌↔◌, ℕ, zero, suc, ◌-◌, ◌<◌, List, [], ◌∷◌, length, map, get_or, replicate, true, false, true≢false, refl, sym, ap, subst, ◌∙◌, arith, pos}
use Rattle.std.specs.Prelude.{Option, None}
use Rattle.std.specs.List.{AllZip}
use Rattle.containers.specs.BoundedList.{entries}
use Rattle.depth_first_list.specs.Actions.{Action}
use Rattle.depth_first_list.specs.Runs.{IsDepthFirst}
use Rattle.depth_first_list.specs.Facts.{label_at, deed_at}
use Rattle.depth_first_list.proofs.ThreadLaws.{root_ends, fork_stands_before, end_is_last}
use Rattle.deque_list.specs.Ids.{deque_id}
use Rattle.deque_machine.specs.Moments.{Moment, opening, deque_of, done_at}
use Rattle.deque_machine.specs.Machine.{Setting, HasEnded}
use Rattle.deque_machine.specs.Play.{Limits}
use Rattle.deque_machine.specs.Runs.{Pair}
use Rattle.deque_machine.proofs.Kept.{opening_is_lawful}
use Rattle.deque_machine.specs.Lists.{Each}
use Rattle.trail_check.specs.Partners.{ArePartners}
use Rattle.serial_journal.specs.Telling.{ShowsAction}
use Rattle.serial_journal.specs.declared.action.Action.{Action as ActionShown}
use Rattle.trail_check.proofs.GrowingLists.{zip_length}
use Rattle.trail_check.specs.declared.terms.Terms.{Terms}
use Rattle.trail_check.specs.declared.checker.Checker.{Checker}
use Rattle.trail_check.specs.Tallies.{IsBlank}
use Rattle.trail_check.specs.Holds.{deque_with}
use Rattle.trail_check.specs.Places.{deque_shown, places_in, IsNextHere, SeatIs}
use Rattle.trail_check.specs.Standing.{StandsFor}
use Rattle.trail_check.specs.Given.{IsGiven}

module _ {X : Type 0} where
  pub all_same : (n : ℕ) (x : X) (i : ℕ) → get_or (replicate n x) i x ≡ x
  all_same zero x i = refl
  all_same (suc n) x zero = refl
  all_same (suc n) x (suc i) = all_same n x i

  pub so_many : (n : ℕ) (x : X) → length (replicate n x) ≡ n
  so_many zero x = refl
  so_many (suc n) x = ap suc (so_many n x)

-- the first action of a list is the root's
root_is_first : (k : ℕ) (l : List Action) → IsDepthFirst k l → (0 < length l) × (label_at l 0 ≡ [])
root_is_first k l run =
    let root = root_ends k l run in let size = root.1 in
    let inside : 0 < length l = omega (arith, size) in (inside, by_label inside (label_at l 0) refl)
  where
    by_label : 0 < length l → (label : List ℕ) → label_at l 0 ≡ label → label_at l 0 ≡ []
    by_label inside [] is = is
    by_label inside (child ∷ below) is = let f = fork_stands_before k l run 0 child [] below inside is in let lt = f.1 in absurd (omega (arith, lt))

-- nothing of the numbers of the machine is lost
pub opens : (s : Setting) (limits : Limits) (actions : List ActionShown) (partners : List (Option ℕ)) (terms : Terms) → IsGiven s limits actions partners terms → (c : Checker)
    → entries c.actions ≡ actions → c.partners.items ≡ partners → c.quota ≡ terms.quota → c.workers ≡ terms.workers → c.arena ≡ terms.arena → c.steps ≡ terms.steps
    → c.most ≡ terms.deques → c.deques.most ≡ terms.deques → c.deques.deques ≡ deque_with (deque_id 0) None (0 ∷ []) ∷ [] → c.seats.items ≡ replicate terms.workers None
    → c.waits.items ≡ replicate (length actions) false → IsBlank (length actions) c.tally → StandsFor s limits [] opening c
opens s limits actions partners terms given c actions_are partners_are quota workers arena steps most list_most deques seats waits blank =
    let size : length s.list ≡ length actions = zip_length (ShowsAction given.births) s.list actions given.shows in
    let root = root_is_first s.quota s.list given.depth_first in record {
      knows = record {
        some = given.some;
        depth_first = given.depth_first;
        births = given.births;
        actions = subst (λ t. AllZip (ShowsAction given.births) s.list t) (sym actions_are) given.shows;
        partners = subst (ArePartners s.list) (sym partners_are) given.are;
        quota = given.quota ∙ sym quota;
        workers = given.workers ∙ sym workers;
        capacity = given.capacity ∙ sym arena;
        steps = given.steps ∙ sym steps;
        most = given.most ∙ sym most;
        list_most = list_most ∙ sym most;
      };
      lawful = opening_is_lawful s given.depth_first;
      reaches = refl;
      places = record {
        deques_are = ap (λ t. deque_of 0 None (t ∷ []) ∷ []) (sym root.1) ∙ ap (map (deque_shown s.list)) (sym deques);
        next = subst (λ t. Each (IsNextHere s.list (done_at opening)) (places_in t)) (sym deques)
            (record { inside = root.0; by = refl; missing = refl; earlier = λ i lt mine. absurd (omega (arith, lt)) }, tt);
        seats_size = ap length seats ∙ so_many terms.workers None ∙ sym given.workers;
        seats_are = λ worker. subst (SeatIs s opening worker) (sym (ap (λ t. get_or t worker None) seats ∙ all_same terms.workers None worker)) refl;
        waits_size = ap length waits ∙ so_many (length actions) false ∙ sym size;
        waits_are = λ place inside. (
          λ bit. absurd (true≢false (sym bit ∙ ap (λ t. get_or t place false) waits ∙ all_same (length actions) false place)),
          λ at. absurd at.1,
        );
      };
      tally = record {
        done_size = ap length blank.done ∙ so_many (length actions) false ∙ sym size;
        done_is = λ place inside. (
          λ bit. absurd (true≢false (sym bit ∙ ap (λ t. get_or t place false) blank.done ∙ all_same (length actions) false place)),
          λ did. absurd (omega (arith, did)),
        );
        actions = blank.actions;
        live = blank.live;
        numbers = record { periods = blank.periods; ahead = blank.ahead; high = ap pos blank.high };
      };
    }

-- the root has ended where the last action is done
module _ (s : Setting) (limits : Limits) (run : List Pair) (m : Moment) (c : Checker) (stands : StandsFor s limits run m c) where
  size : length s.list ≡ length (entries c.actions)
  size = zip_length (ShowsAction (stands.knows).births) s.list (entries c.actions) (stands.knows).actions

  pub some_action : 0 < length (entries c.actions)
  some_action = let root = root_is_first s.quota s.list (stands.knows).depth_first in let inside = root.0 in let n = size in omega (arith, inside, n)

  pub last_done : (last : ℕ) → last ≡ length (entries c.actions) - 1 → (get_or c.tally.done.items last false ≡ true) ↔ HasEnded s m []
  last_done last last_is =
      let root = root_ends s.quota s.list (stands.knows).depth_first in let root_size = root.1 in let n = size in
      let same : root.0 ≡ last = omega (arith, root_size, n, last_is) in
      let inside : last < length s.list = omega (arith, root_size, same) in (
        λ bit. (last, inside, ap (label_at s.list) (sym same) ∙ root.2, ap (deed_at s.list) (sym same) ∙ root.3, ((stands.tally).done_is last inside).0 bit),
        λ has.
            let up = end_is_last s.quota s.list (stands.knows).depth_first has.0 root.0 has.1 (omega (arith, root_size)) (has.2 ∙ sym root.2) root.3 in
            let down = end_is_last s.quota s.list (stands.knows).depth_first root.0 has.0 (omega (arith, root_size)) has.1 (root.2 ∙ sym has.2) has.3 in
            let here : has.0 ≡ last = omega (arith, up, down, same) in
            ((stands.tally).done_is last inside).1 (subst (λ t. 0 < done_at m t) here has.4),
      )
