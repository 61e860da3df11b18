-- A trail has at most one verdict.
use Rattle.std.proofs.Common.{◌≡◌, ℕ, suc, ◌<◌, List, [], ◌∷◌, ◌++◌, length, refl, sym, ap, subst, ◌∙◌, ℤ, pos}
use Rattle.depth_first_list.specs.Runs.{IsDepthFirst}
use Rattle.deque_machine.specs.Books.{booked, periods_marked}
use Rattle.deque_machine.proofs.Lists.{same_head, same_tail}
use Rattle.deque_machine.specs.Moments.{Moment, opening}
use Rattle.deque_machine.specs.Machine.{Setting, HasEnded}
use Rattle.deque_machine.specs.LawfulOrder.{IsLawful}
use Rattle.deque_machine.specs.Runs.{Pair, high_water_mark}
use Rattle.deque_machine.specs.Play.{Limits}
use Rattle.deque_machine.proofs.Kept.{opening_is_lawful}
use Rattle.trail_meaning.specs.declared.trail_event.TrailEvent.{TrailEvent}
use Rattle.trail_meaning.specs.declared.trail_numbers.TrailNumbers.{TrailNumbers}
use Rattle.trail_check.specs.Following.{Leads, Follows, stays, goes_on}
use Rattle.trail_check.specs.Good.{IsGood}
use Rattle.trail_check.specs.Verdicts.{AreNumbers, LeadsNowhere, TrailVerdict, accepted, bad_event, wrong_numbers, IsVerdict, is_accepted, is_bad, is_unended, is_wrong}
use Rattle.trail_check.specs.GoodLaws.{OneVerdict}
use Rattle.trail_check.proofs.Steps.{one_lead, leads_lawful, one_run}

-- the numbers of a run are one
same_pos : (a b : ℕ) → pos a ≡ pos b → a ≡ b
same_pos a b is = ap size is
  where
    size : ℤ → ℕ
    size (pos n) = n
    size other = 0

one_numbers : (s : Setting) (run run' : List Pair) (last last' : Moment) (a b : TrailNumbers) → run ≡ run' → last ≡ last' → AreNumbers s run last a
    → AreNumbers s run' last' b → a ≡ b
one_numbers s run run' last last' a b same there x y =
    let periods : a.periods ≡ b.periods = x.periods ∙ ap (λ m. length m.books) there ∙ sym y.periods in
    let ahead : a.ahead ≡ b.ahead = x.ahead ∙ ap (λ m. periods_marked m.books) there ∙ sym y.ahead in
    let high : a.high ≡ b.high = same_pos a.high b.high (x.high ∙ ap (high_water_mark s.list) same ∙ sym y.high) in
    λ i. record { periods = periods i; ahead = ahead i; high = high i }

module _ (s : Setting) (some : 0 < s.quota) (list : IsDepthFirst s.quota s.list) (limits : Limits) where
  -- the events of a trail do not go past one that leads nowhere
  no_way_past : (m : Moment) → IsLawful s m → (front back : List TrailEvent) (told : TrailEvent) (begun run : List Pair) (mid last : Moment)
      → Follows s limits m front begun mid → LeadsNowhere s limits mid told → Follows s limits m (front ++ told ∷ back) run last → ⊥
  no_way_past m lawful [] back told begun run mid last (stays a) nowhere (goes_on b next k told' event later rest leads further) = nowhere event next leads
  no_way_past m lawful (first ∷ front) back told begun run mid last (goes_on a next l first' event front' begun' leads rest) nowhere
      (goes_on b next' k first'' event' later' run' leads' rest') =
      let same = one_lead s some list limits m lawful first event event' next next' leads leads' in
      no_way_past next (leads_lawful s some list limits m lawful first event next leads) front back told begun' run' mid last rest nowhere
      (subst (λ x. Follows s limits x (front ++ told ∷ back) run' last) (sym same.1) rest')

  -- and there is one first that leads nowhere
  one_bad : (m : Moment) → IsLawful s m → (front front' back back' : List TrailEvent) (told told' : TrailEvent) (begun begun' : List Pair) (mid mid' : Moment)
      → front ++ told ∷ back ≡ front' ++ told' ∷ back' → Follows s limits m front begun mid → LeadsNowhere s limits mid told
      → Follows s limits m front' begun' mid' → LeadsNowhere s limits mid' told' → length front ≡ length front'
  one_bad m lawful [] [] back back' told told' begun begun' mid mid' is follows nowhere follows' nowhere' = refl
  one_bad m lawful [] (first ∷ front') back back' told told' begun begun' mid mid' is (stays a) nowhere (goes_on b next k first' event later rest leads further) nowhere' =
      absurd (nowhere event next (subst (λ t. Leads s limits m t event next) (sym (same_head told first back (front' ++ told' ∷ back') is)) leads))
  one_bad m lawful (first ∷ front) [] back back' told told' begun begun' mid mid' is (goes_on b next k first' event later rest leads further) nowhere (stays a) nowhere' =
      absurd (nowhere' event next (subst (λ t. Leads s limits m t event next) (same_head first told' (front ++ told ∷ back) back' is) leads))
  one_bad m lawful (first ∷ front) (other ∷ front') back back' told told' begun begun' mid mid' is (goes_on a next k first' event later rest leads further) nowhere
      (goes_on b next' k' other' event' later' rest' leads' further') nowhere' =
      let head = same_head first other (front ++ told ∷ back) (front' ++ told' ∷ back') is in
      let same = one_lead s some list limits m lawful first event event' next next' leads
      (subst (λ t. Leads s limits m t event' next') (sym head) leads') in
      ap suc (one_bad next (leads_lawful s some list limits m lawful first event next leads) front front' back back' told told' rest rest' mid mid'
      (same_tail first other (front ++ told ∷ back) (front' ++ told' ∷ back') is) further nowhere
      (subst (λ x. Follows s limits x front' rest' mid') (sym same.1) further') nowhere')

  module _ (events : List TrailEvent) (numbers : TrailNumbers) where
    no_bad : (run : List Pair) (last : Moment) → Follows s limits opening events run last → (front back : List TrailEvent) (told : TrailEvent) (begun : List Pair) (m : Moment)
        → events ≡ front ++ told ∷ back → Follows s limits opening front begun m → LeadsNowhere s limits m told → ⊥
    no_bad run last follows front back told begun m is there nowhere =
        no_way_past opening (opening_is_lawful s list) front back told begun run m last there nowhere (subst (λ t. Follows s limits opening t run last) is follows)

    one_last : (run run' : List Pair) (last last' : Moment) → Follows s limits opening events run last → Follows s limits opening events run' last' → (run ≡ run') × (last ≡ last')
    one_last run run' last last' a b = one_run s some list limits opening (opening_is_lawful s list) events run run' last last' a b

    not_both : (run run' : List Pair) (last last' : Moment) → IsGood s limits events run last → Follows s limits opening events run' last' → ¬ HasEnded s last' [] → ⊥
    not_both run run' last last' good follows none = none (subst (λ x. HasEnded s x []) (one_last run run' last last' good.follows follows).1 good.ended)

    same_numbers : (run run' : List Pair) (last last' : Moment) (a b : TrailNumbers) → IsGood s limits events run last → IsGood s limits events run' last'
        → AreNumbers s run last a → AreNumbers s run' last' b → a ≡ b
    same_numbers run run' last last' a b good good' x y =
        let same = one_last run run' last last' good.follows good'.follows in one_numbers s run run' last last' a b same.0 same.1 x y

    one_of : (one other : TrailVerdict) → IsVerdict s limits events numbers one → IsVerdict s limits events numbers other → one ≡ other
    one_of one other (is_accepted run last good are) (is_accepted run' last' good' are') =
        ap (λ x. accepted (length (booked x.books))) (one_last run run' last last' good.follows good'.follows).1
    one_of one other (is_accepted run last good are) (is_bad front back told begun m is there nowhere) = absurd (no_bad run last good.follows front back told begun m is there nowhere)
    one_of one other (is_accepted run last good are) (is_unended run' last' follows none) = absurd (not_both run run' last last' good follows none)
    one_of one other (is_accepted run last good are) (is_wrong run' last' right good' are' differ) = absurd (differ (same_numbers run' run last' last right numbers good' good are' are))
    one_of one other (is_bad front back told begun m is there nowhere) (is_accepted run last good are) = absurd (no_bad run last good.follows front back told begun m is there nowhere)
    one_of one other (is_bad front back told begun m is there nowhere) (is_bad front' back' told' begun' m' is' there' nowhere') =
        ap (λ n. bad_event (suc n)) (one_bad opening (opening_is_lawful s list) front front' back back' told told' begun begun' m m' (sym is ∙ is') there nowhere there' nowhere')
    one_of one other (is_bad front back told begun m is there nowhere) (is_unended run last follows none) = absurd (no_bad run last follows front back told begun m is there nowhere)
    one_of one other (is_bad front back told begun m is there nowhere) (is_wrong run last right good are differ) = absurd (no_bad run last good.follows front back told begun m is there nowhere)
    one_of one other (is_unended run last follows none) (is_accepted run' last' good are) = absurd (not_both run' run last' last good follows none)
    one_of one other (is_unended run last follows none) (is_bad front back told begun m is there nowhere) = absurd (no_bad run last follows front back told begun m is there nowhere)
    one_of one other (is_unended run last follows none) (is_unended run' last' follows' none') = refl
    one_of one other (is_unended run last follows none) (is_wrong run' last' right good are differ) = absurd (not_both run' run last' last good follows none)
    one_of one other (is_wrong run last right good are differ) (is_accepted run' last' good' are') = absurd (differ (same_numbers run run' last last' right numbers good good' are are'))
    one_of one other (is_wrong run last right good are differ) (is_bad front back told begun m is there nowhere) = absurd (no_bad run last good.follows front back told begun m is there nowhere)
    one_of one other (is_wrong run last right good are differ) (is_unended run' last' follows none) = absurd (not_both run run' last last' good follows none)
    one_of one other (is_wrong run last right good are differ) (is_wrong run' last' right' good' are' differ') =
        ap wrong_numbers (same_numbers run run' last last' right right' good good' are are')

pub one_verdict : (s : Setting) → 0 < s.quota → IsDepthFirst s.quota s.list → OneVerdict s
one_verdict s some list limits events numbers one other a b = one_of s some list limits events numbers one other a b
