-- A list as it was written down has the kinds of its actions.
use Rattle.std.proofs.Common.{◌≡◌, ℕ, suc, ◌+◌, ◌≤◌, ◌<◌, List, [], length, get_or, sym, subst, ap, ◌∙◌, arith}
use Rattle.trail_check.proofs.GrowingLists.{zip_length, zip_at}
use Rattle.depth_first_list.specs.Actions.{Action, kind_of, ends}
use Rattle.depth_first_list.specs.Facts.{deed_at}
use Rattle.serial_journal.specs.Telling.{ShowsAction}
use Rattle.serial_journal.specs.declared.action.Action.{Action as ActionShown}
use Rattle.trail_check.specs.Listed.{AreListed}
use Rattle.trail_check.specs.Pairing.{Pairs, after}
use Rattle.trail_check.specs.Partners.{ArePartners}
use Rattle.trail_check.proofs.Stacks.{Stands}
use Rattle.trail_check.proofs.Standing.{goes_on, all_found}

-- what is known after one place more
pub passes : (l : List Action) (shown given : List ActionShown) → AreListed l shown → given ≡ shown → (i : ℕ) → i < length given → (d : ActionShown) (p q : Pairs)
    → Stands l i p → q ≡ after i ((get_or given i d).kind) p → Stands l (i + 1) q
passes l shown given listed same i inside d p q stands is =
    let long : length l ≡ length shown = zip_length (ShowsAction listed.births) l shown listed.actions in
    let as_long : length given ≡ length shown = ap length same in
    let action = zip_at (ShowsAction listed.births) l shown i (record { label = []; index = 0; deed = ends; words = 0 }) d listed.actions (omega arith) in
    let kind : (get_or given i d).kind ≡ kind_of (deed_at l i) = ap (λ m. (get_or m i d).kind) same ∙ action.kind in
    let next : suc i ≡ i + 1 = omega arith in
    subst (λ m. Stands l m q) next (subst (λ m. Stands l (suc i) m) (sym (is ∙ ap (λ m. after i m p) kind)) (goes_on listed.quota l listed.depth_first i (omega arith) p stands))

-- and after all places
pub all_passed : (l : List Action) (shown given : List ActionShown) → AreListed l shown → given ≡ shown → (i : ℕ) → i ≤ length given → length given ≤ i
    → (p : Pairs) → Stands l i p → ArePartners l p.partners
all_passed l shown given listed same i up down p stands =
    let long : length l ≡ length shown = zip_length (ShowsAction listed.births) l shown listed.actions in
    let as_long : length given ≡ length shown = ap length same in
    let end : i ≡ length l = omega arith in
    all_found l p (subst (λ m. Stands l m p) end stands)
