-- What holds after each front of a good trail.
use Rattle.std.proofs.Common.{◌≡◌, ◌<◌, List, ap, subst, arith}
use Rattle.depth_first_list.specs.Runs.{IsDepthFirst}
use Rattle.deque_machine.specs.Books.{periods_marked}
use Rattle.deque_machine.specs.Moments.{Moment, opening}
use Rattle.deque_machine.specs.Machine.{Setting}
use Rattle.deque_machine.specs.LawfulOrder.{IsLawful}
use Rattle.deque_machine.specs.Runs.{Pair}
use Rattle.deque_machine.specs.Play.{Limits}
use Rattle.deque_machine.proofs.Kept.{opening_is_lawful}
use Rattle.deque_machine.proofs.Reached.{bound_always, ahead_is_marked, marks_never_fall}
use Rattle.trail_meaning.specs.declared.trail_event.TrailEvent.{TrailEvent}
use Rattle.trail_check.specs.Following.{Follows}
use Rattle.trail_check.specs.GoodLaws.{HoldsAt, AcceptedAreBounded}
use Rattle.trail_check.proofs.Steps.{are_run, follows_lawful, one_run, Halves, halves}

module _ (s : Setting) (some : 0 < s.quota) (list : IsDepthFirst s.quota s.list) (limits : Limits) where
  holds_after : (front : List TrailEvent) (run : List Pair) (m : Moment) → Follows s limits opening front run m → HoldsAt s m
  holds_after front run m follows =
      let reached = are_run s some list limits opening front run m follows in
      let lawful : IsLawful s m = follows_lawful s some list limits opening (opening_is_lawful s list) front run m follows in record {
        bounded = λ n prefix. bound_always s some list run m n reached prefix;
        in_order = (lawful.order).rises;
        once = ((lawful.periods).lawful).different;
      }

pub accepted_are_bounded : (s : Setting) → 0 < s.quota → IsDepthFirst s.quota s.list → AcceptedAreBounded s
accepted_are_bounded s some list limits events run last good front back is =
    let cut : Halves s some list limits opening front back last = halves s some list limits opening front back run last (subst (λ t. Follows s limits opening t run last) is good.follows) in record {
      begun = cut.begun;
      moment = cut.moment;
      follows = cut.follows;
      each = holds_after s some list limits front;
      marked = λ begun m n follows prefix.
          let here = ahead_is_marked s some list begun m n (are_run s some list limits opening front begun m follows) prefix in
          let same : periods_marked m.books ≡ periods_marked cut.moment.books =
          ap (λ x. periods_marked x.books) (one_run s some list limits opening (opening_is_lawful s list) front begun cut.begun m cut.moment follows cut.follows).1 in
          let rest = marks_never_fall s some list cut.rest cut.moment last (are_run s some list limits cut.moment back cut.rest last cut.further) in
          omega (arith, here, same, rest);
    }
