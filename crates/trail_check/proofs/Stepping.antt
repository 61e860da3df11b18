-- The next action of a worker's top thread.
use Rattle.std.proofs.Common.{◌≡◌, ℕ, ◌<◌, List, [], ◌∷◌, length, get_or, true, false, true≢false, inl, inr, sym, ap, subst, ◌∙◌, arith}
use Rattle.std.specs.Prelude.{Option, None, Some, slice_get, set, is_some}
use Rattle.std.proofs.lemmas.Bool.{cases_lt}
use Rattle.std.proofs.lemmas.Option.{slice_get_past, get_or_from_slice_get, slice_get_cases, same_Some}
use Rattle.containers.specs.BoundedList.{entries}
use Rattle.depth_first_list.specs.Actions.{joins, ends, kind_of, weight_of}
use Rattle.depth_first_list.specs.Facts.{deed_at, words_at, weight_at}
use Rattle.deque_machine.specs.Books.{charge, charge_at}
use Rattle.deque_list.specs.Ids.{IsLive}
use Rattle.deque_list.specs.Deques.{deque_ids}
use Rattle.deque_machine.specs.Moments.{Moment}
use Rattle.deque_machine.specs.Machine.{Setting}
use Rattle.deque_machine.specs.Play.{Limits}
use Rattle.deque_machine.specs.Runs.{Pair}
use Rattle.serial_journal.specs.Telling.{ShowsAction}
use Rattle.serial_journal.specs.declared.action.Action.{Action as ActionShown}
use Rattle.trail_check.proofs.GrowingLists.{zip_length, zip_at}
use Rattle.trail_meaning.specs.declared.trail_kind.TrailKind.TheVariants.{Suspend}
use Rattle.trail_check.specs.Verdicts.{LeadsNowhere}
use Rattle.trail_check.specs.declared.seat.Seat.{Seat}
use Rattle.trail_check.specs.declared.checker.Checker.{Checker}
use Rattle.trail_check.specs.Holds.{Holds, with_these}
use Rattle.trail_check.specs.Standing.{StandsFor}
use Rattle.trail_check.specs.Steps.{told_of, Came, NoAction, IsStep, has_ended_by, Owes, UsedAfter}
use Rattle.trail_check.proofs.CutLists.{some_inside}
use Rattle.trail_check.proofs.Moves.{is_live}
use Rattle.trail_check.proofs.Deeds.{join_deed}
use Rattle.trail_check.proofs.Leaving.{sits, top_next, suspend_came}
use Rattle.trail_check.proofs.Going.{SameList}
use Rattle.trail_check.proofs.Refusing.{refused, ended_by_bits, bits_of_ended, waits_not}

module _ (s : Setting) (limits : Limits) (run : List Pair) (m : Moment) (c : Checker) (stands : StandsFor s limits run m c) where
  -- the list as it was written down
  pub as_long : length s.list ≡ length (entries c.actions)
  as_long = zip_length (ShowsAction (stands.knows).births) s.list (entries c.actions) (stands.knows).actions

  pub shown_at : (place : ℕ) (action : ActionShown) → slice_get (entries c.actions) place ≡ Some action
      → (place < length s.list) × (action.kind ≡ kind_of (deed_at s.list place)) × (action.change ≡ weight_at s.list place)
  shown_at place action is = elim (cases_lt place (length (entries c.actions))) [
    | inr past ↦ absurd (true≢false (sym (ap is_some (sym (slice_get_past (entries c.actions) place past) ∙ is))))
    | inl inside ↦
        let long = as_long in
        let lt : place < length s.list = omega (arith, inside, long) in
        let shows = zip_at (ShowsAction (stands.knows).births) s.list (entries c.actions) place (record { label = []; index = 0; deed = ends; words = 0 }) action (stands.knows).actions lt in
        let same : get_or (entries c.actions) place action ≡ action = get_or_from_slice_get (entries c.actions) place action action is in
        (lt, ap (λ t. t.kind) (sym same) ∙ shows.kind, ap (λ t. t.change) (sym same) ∙ shows.change)
  ]

  pub shown_inside : (place : ℕ) → place < length s.list → ¬ (None ≡ slice_get (entries c.actions) place)
  shown_inside place lt none =
      let long = as_long in
      elim (slice_get_cases (entries c.actions) place).1 [
        | inl some ↦ true≢false (sym (ap is_some (none ∙ some.2)))
        | inr past ↦ let le = past.0 in absurd (omega (arith, lt, long, le))
      ]

  module _ (worker : ℕ) (seat : Seat) (is : get_or c.seats.items worker None ≡ Some seat) where
    pub live_deque : IsLive (deque_ids c.deques.deques) seat.deque
    live_deque = is_live (sits s limits run m c stands worker seat is).hand.holds

    pub top_is : (top : Option ℕ) → ((owner : Option ℕ) (items : List ℕ) → Holds c.deques.deques seat.deque owner items → top ≡ slice_get items 0)
        → top ≡ Some (sits s limits run m c stands worker seat is).place
    top_is top first = first (Some worker) ((sits s limits run m c stands worker seat is).place ∷ (sits s limits run m c stands worker seat is).hand.under)
        (sits s limits run m c stands worker seat is).hand.holds

    -- a step
    module _ (place : ℕ) (top : Some place ≡ Some (sits s limits run m c stands worker seat is).place) (action : ActionShown) (shown : slice_get (entries c.actions) place ≡ Some action) where
      here : place ≡ (sits s limits run m c stands worker seat is).place
      here = same_Some place (sits s limits run m c stands worker seat is).place top

      kind_is : action.kind ≡ kind_of (deed_at s.list (sits s limits run m c stands worker seat is).place)
      kind_is = (shown_at place action shown).1 ∙ ap (λ n. kind_of (deed_at s.list n)) here

      change_is : action.change ≡ weight_of (deed_at s.list (sits s limits run m c stands worker seat is).place) (words_at s.list (sits s limits run m c stands worker seat is).place)
      change_is = (shown_at place action shown).2 ∙ ap (weight_at s.list) here

      pub no_step : UsedAfter c seat.used place action.kind action.change None → NoAction s m worker
      no_step none =
          refused s limits run m c stands worker seat is action.kind kind_is
          (elim (none (deed_at s.list (sits s limits run m c stands worker seat is).place) (words_at s.list (sits s limits run m c stands worker seat is).place) kind_is change_is) [
            | inl open_child ↦ inl (open_child.0, ap (has_ended_by c) (sym here) ∙ open_child.1)
            | inr over ↦ inr over
          ])

      pub one_step : (after : ℕ) → UsedAfter c seat.used place action.kind action.change (Some after)
          → IsStep s m c (record { worker = worker; place = place; kind = action.kind; change = action.change; seat = record { deque = seat.deque; used = after } })
      one_step after used =
          subst (λ n. IsStep s m c (record { worker = worker; place = n; kind = action.kind; change = action.change; seat = record { deque = seat.deque; used = after } })) (sym here)
          (let is_used = used (deed_at s.list (sits s limits run m c stands worker seat is).place) (words_at s.list (sits s limits run m c stands worker seat is).place) kind_is change_is in record {
            seated = some_inside c.seats.items worker seat is;
            hand = (sits s limits run m c stands worker seat is).hand;
            kind = kind_is;
            change = change_is;
            used =
                let had = (sits s limits run m c stands worker seat is).used in
                let quota : charge_at s.quota s.list (sits s limits run m c stands worker seat is).place
                ≡ charge c.quota (deed_at s.list (sits s limits run m c stands worker seat is).place) (words_at s.list (sits s limits run m c stands worker seat is).place) =
                ap (λ q. charge q (deed_at s.list (sits s limits run m c stands worker seat is).place) (words_at s.list (sits s limits run m c stands worker seat is).place)) (stands.knows).quota in
                let sum = is_used.0 in omega (arith, had, quota, sum);
            fits = let fit = is_used.1 in let quota = (stands.knows).quota in omega (arith, fit, quota);
            ended = λ child deed. ended_by_bits s limits run m c stands (sits s limits run m c stands worker seat is).place child (top_next s limits run m c stands worker seat is).inside deed
                (ap (has_ended_by c) (sym here) ∙ is_used.2 (kind_is ∙ ap kind_of deed));
          })

    -- a wait
    module _ (place : ℕ) (top : Some place ≡ Some (sits s limits run m c stands worker seat is).place) where
      at_top : place ≡ (sits s limits run m c stands worker seat is).place
      at_top = same_Some place (sits s limits run m c stands worker seat is).place top

      pub owes_nothing : Owes c place false → LeadsNowhere s limits m (told_of worker Suspend)
      owes_nothing none = waits_not s limits run m c stands worker seat is (λ child deed. by_action child deed)
        where
          by_action : (child : ℕ) → deed_at s.list (sits s limits run m c stands worker seat is).place ≡ joins child → has_ended_by c (sits s limits run m c stands worker seat is).place ≡ true
          by_action child deed = elim (slice_get_cases (entries c.actions) place).1 [
            | inl some ↦ ap (has_ended_by c) (sym at_top)
                ∙ none some.0 some.2 ((shown_at place some.0 some.2).1 ∙ ap (λ n. kind_of (deed_at s.list n)) at_top ∙ ap kind_of deed)
            | inr past ↦
                let long = as_long in let inside = (top_next s limits run m c stands worker seat is).inside in let le = past.0 in
                let same = at_top in absurd (omega (arith, long, inside, le, same))
          ]

      pub owes : Owes c place true → (under : List ℕ) → (sits s limits run m c stands worker seat is).hand.under ≡ under → under ≡ []
          → (d : Checker) → SameList c d → d.tally ≡ c.tally → d.deques.deques ≡ with_these (sits s limits run m c stands worker seat is).hand.holds []
          → d.seats.items ≡ set c.seats.items worker None → d.waits.items ≡ set c.waits.items place true
          → Came s limits run m (told_of worker Suspend) true d
      owes some under under_is alone d same tally deques seats waits =
          let deed = join_deed (deed_at s.list (sits s limits run m c stands worker seat is).place)
          (sym (ap (λ n. kind_of (deed_at s.list n)) at_top) ∙ sym (shown_at place some.0 some.1).1 ∙ some.2) in
          suspend_came s limits run m c stands worker seat is deed.0 deed.1
          (λ has. true≢false (sym (bits_of_ended s limits run m c stands (sits s limits run m c stands worker seat is).place deed.0 (top_next s limits run m c stands worker seat is).inside deed.1 has)
          ∙ ap (has_ended_by c) (sym at_top) ∙ some.3))
          (under_is ∙ alone) d same tally deques seats (waits ∙ ap (λ n. set c.waits.items n true) at_top)

pub got_inside : (c : Checker) (place : ℕ) (action : ActionShown) → slice_get (entries c.actions) place ≡ Some action → place < length (entries c.actions)
got_inside c place action is = elim (cases_lt place (length (entries c.actions))) [
  | inr past ↦ absurd (true≢false (sym (ap is_some (sym (slice_get_past (entries c.actions) place past) ∙ is))))
  | inl inside ↦ inside
]
