-- The births of the periods come parents first.
use Rattle.std.proofs.Common.{◌≡◌, ℕ, zero, suc, ◌+◌, ◌<◌, ◌≤◌, ◌⊎◌, List, [], ◌∷◌, ◌++◌, length, map, inl, inr, refl, sym, ap, subst, ◌∙◌, arith, append-nil, append_assoc, ◌-◌}
use Rattle.std.specs.Prelude.{Option, None, Some, IsSome, slice_get, option_map}
use Rattle.std.specs.Option.{option_and_then}
use Rattle.std.proofs.lemmas.Bool.{cases_order, cases_lt}
use Rattle.std.proofs.lemmas.Option.{same_Some, none-some, slice_get-map}
use Rattle.open_periods.specs.Passed.ThreadId.{ThreadId}
use Rattle.open_periods.specs.Passed.ActionId.{ActionId}
use Rattle.open_periods.specs.Passed.Birth.{Birth}
use Rattle.open_periods.specs.Passed.LabelOrder.{fork_of}
use Rattle.open_periods.specs.Passed.Births.{birth_of, birth_in, IsBornBefore, ParentComesFirst, ParentsComeFirst, MayFollow}
use Rattle.open_periods.specs.Passed.Actions.{Deed, forks, joins, allocates, releases, dummy, faults, ends, Action}
use Rattle.open_periods.specs.Passed.Facts.{label_at, deed_at}
use Rattle.open_periods.specs.Passed.DepthFirstListRuns.{IsDepthFirst}
use Rattle.open_periods.proofs.Passed.ThreadLaws.{forked_once}
use Rattle.deque_machine.specs.Lists.{Among, times}
use Rattle.deque_machine.specs.Books.{Book, booked}
use Rattle.deque_machine.proofs.Lists.{same_tail, times_among, among_left, among_right, among_here}
use Rattle.deque_machine.proofs.Keeping.{booked_append, times_append}
use Rattle.deque_machine.specs.LawfulOrder.{IsLawful, ParentsFirst}
use Rattle.deque_machine.specs.Machine.{Setting}
use Rattle.deque_machine.specs.Moments.{Moment}
use Rattle.deque_machine.proofs.Labels.{one_parent}
use Rattle.open_periods.specs.Periods.{Period}
use Rattle.open_periods.specs.Names.{id_of, HasLabel, IsNamed, AreNamed, births_by, births_among}
use Rattle.open_periods.specs.Telling.{Tell}
use Rattle.open_periods.specs.Laws.{IsCutAt}
use Rattle.open_periods.proofs.Sorting.{get_middle, one_of_a_number}
use Rattle.open_periods.proofs.Labels.{Forked, how, one_label, born_of}
use Rattle.open_periods.proofs.Changes.{each_has_its_book}
use Rattle.moment_shown.specs.Laws.{BirthsComeParentsFirst, BirthsMayFollow}

-- the action at a place is the Fork of a birth: it is of the thread that gave it
record IsForkOf (l : List Action) (periods : List Period) (birth : Birth) (place : ℕ) : Type 0 where
  inside : place < length l
  by : HasLabel periods birth.parent (label_at l place)
  deed : deed_at l place ≡ forks birth.ordinal

-- among these places stands the Fork of a birth
record ForkIn (l : List Action) (periods : List Period) (birth : Birth) (places : List ℕ) : Type 0 where
  place : ℕ
  there : Among place places
  is : IsForkOf l periods birth place

-- the Fork of one birth, with that of a second birth at it or behind it
record TwoForks (l : List Action) (periods : List Period) (one other : Birth) (places : List ℕ) : Type 0 where
  front : List ℕ
  place : ℕ
  back : List ℕ
  places_are : places ≡ front ++ place ∷ back
  is : IsForkOf l periods one place
  behind : ForkIn l periods other (place ∷ back)

module _ (l : List Action) (periods : List Period) where
  fork_of_birth : (id : ActionId) (place child : ℕ) → IsNamed l periods id place → deed_at l place ≡ forks child →
      IsForkOf l periods (record { parent = id.by; ordinal = child }) place
  fork_of_birth id place child named is = record { inside = named.inside; by = named.by; deed = is }

  wider : (birth : Birth) (place : ℕ) (places : List ℕ) → ForkIn l periods birth places → ForkIn l periods birth (place ∷ places)
  wider birth place places f = record { place = f.place; there = inr f.there; is = f.is }

  -- a birth of these actions is that of a Fork among them
  fork_in : (ids : List ActionId) (places : List ℕ) (nth : ℕ) (birth : Birth) → AreNamed l periods ids places →
      slice_get (births_among l ids places) nth ≡ Some birth → ForkIn l periods birth places
  fork_in [] places nth birth are is = absurd (none-some birth is)
  fork_in (id ∷ ids) [] nth birth are is = absurd are
  fork_in (id ∷ ids) (place ∷ places) nth birth are is = by_deed (deed_at l place) refl nth is (λ n found. fork_in ids places n birth are.1 found)
    where
      by_deed : (deed : Deed) → deed_at l place ≡ deed → (n : ℕ) → slice_get (births_by id.by deed ++ births_among l ids places) n ≡ Some birth
          → ((n : ℕ) → slice_get (births_among l ids places) n ≡ Some birth → ForkIn l periods birth places) → ForkIn l periods birth (place ∷ places)
      by_deed (forks child) deed zero found rest =
          let fork : IsForkOf l periods birth place =
          subst (λ b. IsForkOf l periods b place) (same_Some (record { parent = id.by; ordinal = child }) birth found) (fork_of_birth id place child are.0 deed) in
          record { place = place; there = inl refl; is = fork }
      by_deed (forks child) deed (suc n) found rest = wider birth place places (rest n found)
      by_deed (joins child) deed n found rest = wider birth place places (rest n found)
      by_deed allocates deed n found rest = wider birth place places (rest n found)
      by_deed releases deed n found rest = wider birth place places (rest n found)
      by_deed dummy deed n found rest = wider birth place places (rest n found)
      by_deed faults deed n found rest = wider birth place places (rest n found)
      by_deed ends deed n found rest = wider birth place places (rest n found)

  one_in_front : (one other : Birth) (place : ℕ) (places : List ℕ) → TwoForks l periods one other places → TwoForks l periods one other (place ∷ places)
  one_in_front one other place places two = record {
    front = place ∷ two.front;
    place = two.place;
    back = two.back;
    places_are = ap (λ t. place ∷ t) two.places_are;
    is = two.is;
    behind = two.behind;
  }

  -- and the Fork of a later birth does not stand before that of an earlier one
  two_forks : (ids : List ActionId) (places : List ℕ) (nth more : ℕ) (one other : Birth) → AreNamed l periods ids places →
      slice_get (births_among l ids places) nth ≡ Some one → slice_get (births_among l ids places) (nth + more) ≡ Some other →
      TwoForks l periods one other places
  two_forks [] places nth more one other are is is' = absurd (none-some one is)
  two_forks (id ∷ ids) [] nth more one other are is is' = absurd are
  two_forks (id ∷ ids) (place ∷ places) nth more one other are is is' =
      by_deed (deed_at l place) refl nth is is' (λ n found found'. two_forks ids places n more one other are.1 found found')
    where
      by_deed : (deed : Deed) → deed_at l place ≡ deed → (n : ℕ) → slice_get (births_by id.by deed ++ births_among l ids places) n ≡ Some one
          → slice_get (births_by id.by deed ++ births_among l ids places) (n + more) ≡ Some other
          → ((n : ℕ) → slice_get (births_among l ids places) n ≡ Some one → slice_get (births_among l ids places) (n + more) ≡ Some other
          → TwoForks l periods one other places)
          → TwoForks l periods one other (place ∷ places)
      by_deed (forks child) deed zero found found' rest =
          let fork : IsForkOf l periods one place =
          subst (λ b. IsForkOf l periods b place) (same_Some (record { parent = id.by; ordinal = child }) one found) (fork_of_birth id place child are.0 deed) in
          let all : slice_get (births_among l (id ∷ ids) (place ∷ places)) more ≡ Some other =
          subst (λ d. slice_get (births_by id.by d ++ births_among l ids places) more ≡ Some other) (sym deed)
          (ap (slice_get (births_by id.by (forks child) ++ births_among l ids places)) (plain more) ∙ found') in
          record {
            front = [];
            place = place;
            back = places;
            places_are = refl;
            is = fork;
            behind = fork_in (id ∷ ids) (place ∷ places) more other are all;
          }
        where
          plain : (n : ℕ) → n ≡ 0 + n
          plain n = omega arith
      by_deed (forks child) deed (suc n) found found' rest =
          one_in_front one other place places (rest n found (ap (slice_get (births_by id.by (forks child) ++ births_among l ids places)) (over n more) ∙ found'))
        where
          over : (n m : ℕ) → suc (n + m) ≡ suc n + m
          over n m = omega arith
      by_deed (joins child) deed n found found' rest = one_in_front one other place places (rest n found found')
      by_deed allocates deed n found found' rest = one_in_front one other place places (rest n found found')
      by_deed releases deed n found found' rest = one_in_front one other place places (rest n found found')
      by_deed dummy deed n found found' rest = one_in_front one other place places (rest n found found')
      by_deed faults deed n found found' rest = one_in_front one other place places (rest n found found')
      by_deed ends deed n found found' rest = one_in_front one other place places (rest n found found')

-- of two books the one with more books before it stands behind the other
later_book : (older newer older' newer' : List Book) (book book' : Book) → older ++ book ∷ newer ≡ older' ++ book' ∷ newer' → length older < length older'
    → Among book' newer
later_book [] newer [] newer' book book' same few = absurd (omega (arith, few))
later_book [] newer (b ∷ older') newer' book book' same few =
    subst (Among book') (sym (same_tail book b newer (older' ++ book' ∷ newer') same)) (among_here book' older' newer')
later_book (b ∷ older) newer [] newer' book book' same few = absurd (omega (arith, few))
later_book (b ∷ older) newer (b' ∷ older') newer' book book' same few =
    later_book older newer older' newer' book book' (same_tail b b' (older ++ book ∷ newer) (older' ++ book' ∷ newer') same) (omega (arith, few))

booked_among : (place : ℕ) (book : Book) (books : List Book) → Among book books → Among place book.ran → Among place (booked books)
booked_among place book [] there ran = absurd there
booked_among place book (b ∷ books) (inl same) ran =
    among_left place b.ran (booked books) (subst (λ x. Among place (Book.ran x)) same ran)
booked_among place book (b ∷ books) (inr there) ran = among_right place b.ran (booked books) (booked_among place book books there ran)

-- whoever forks at a place is the root, or was born in front of it
record BornIn (l : List Action) (places : List ℕ) (thread : List ℕ) : Type 0 where
  fork : ℕ
  child : ℕ
  there : Among fork places
  deed : deed_at l fork ≡ forks child
  label : thread ≡ fork_of (label_at l fork) child

parents_at : (l : List Action) (before front back : List ℕ) (place child : ℕ) → ParentsFirst l before (front ++ place ∷ back) → deed_at l place ≡ forks child
    → (label_at l place ≡ []) ⊎ BornIn l (front ++ before) (label_at l place)
parents_at l before [] back place child first is = elim (first.0 child is) [
  | inl root_is ↦ inl root_is
  | inr born ↦ inr (record { fork = born.0; child = born.1; there = born.2; deed = born.3; label = born.4 })
]
parents_at l before (q ∷ front) back place child first is = elim (parents_at l (q ∷ before) front back place child first.1 is) [
  | inl root_is ↦ inl root_is
  | inr born ↦ inr (record { fork = born.fork; child = born.child; there = moved front born.there; deed = born.deed; label = born.label })
]
  where
    moved : {x : ℕ} (ys : List ℕ) → Among x (ys ++ q ∷ before) → Among x (q ∷ (ys ++ before))
    moved [] there = there
    moved (y ∷ ys) (inl same) = inr (inl same)
    moved (y ∷ ys) (inr there) = elim (moved ys there) [ inl same ↦ inl same | inr rest ↦ inr (inr rest) ]

no_fork_of_root : (parent : List ℕ) (child : ℕ) → [] ≡ fork_of parent child → ⊥
no_fork_of_root [] child same = absurd (omega (arith, ap length same))
no_fork_of_root (x ∷ parent) child same = absurd (omega (arith, ap length same))

module _ (s : Setting) (run : IsDepthFirst s.quota s.list) (m : Moment) (periods : List Period) (t : Tell s.quota s.list periods m.books) (lawful : IsLawful s m) where
  unique : (id : ThreadId) (a b : List ℕ) → HasLabel periods id a → HasLabel periods id b → a ≡ b
  unique id a b x y = one_label s.quota s.list periods m.books id a b t x y

  -- no Fork stands in the books before that of its parent
  no_child_first : (front back : List ℕ) (place : ℕ) (one other : Birth) (above : List ℕ) → booked m.books ≡ front ++ place ∷ back
      → IsForkOf s.list periods one place → ForkIn s.list periods other (place ∷ back)
      → HasLabel periods other.parent above → HasLabel periods one.parent (fork_of above other.ordinal) → ⊥
  no_child_first front back place one other above are is behind parent child =
      let its : label_at s.list place ≡ fork_of above other.ordinal = unique one.parent (label_at s.list place) (fork_of above other.ordinal) is.by child in
      elim (parents_at s.list [] front back place one.ordinal (subst (ParentsFirst s.list []) are (lawful.periods.births).parents_first) is.deed) [
        | inl root_is ↦ no_fork_of_root above other.ordinal (sym root_is ∙ its)
        | inr born ↦
            let same = one_parent (label_at s.list born.fork) above born.child other.ordinal (sym born.label ∙ its) in
            let there : Among born.fork front = subst (Among born.fork) (append-nil front) born.there in
            let listed : Among born.fork (booked m.books) = subst (Among born.fork) (sym are) (among_left born.fork front (place ∷ back) there) in
            let inside = (lawful.periods.lawful).of_the_list born.fork (times_among born.fork (booked m.books) listed) in
            let labels : label_at s.list born.fork ≡ label_at s.list behind.place =
            same.0 ∙ unique other.parent above (label_at s.list behind.place) parent behind.is.by in
            let one_fork : born.fork ≡ behind.place = forked_once s.quota s.list run born.fork behind.place other.ordinal inside behind.is.inside labels
            (born.deed ∙ ap forks same.1) behind.is.deed in
            let in_front = times_among born.fork front there in
            let in_back = times_among born.fork (place ∷ back) (subst (λ x. Among x (place ∷ back)) (sym one_fork) behind.there) in
            let all = times_append born.fork front (place ∷ back) in
            let once = (lawful.periods.lawful).different born.fork in
            let counted = ap (times born.fork) are in omega (arith, in_front, in_back, all, once, counted)
      ]

  -- the period of a birth
  found_period : (number nth : ℕ) (birth : Birth) → birth_in (map (λ p. Period.born p) t.sorted) number nth ≡ Some birth
      → (p : Period) × Among p periods × (p.number ≡ number) × (slice_get p.born nth ≡ Some birth)
  found_period zero nth birth is = absurd (none-some birth is)
  found_period (suc before) nth birth is =
      by_period (slice_get t.sorted before) refl (sym (ap (option_and_then (λ bs. slice_get bs nth)) (slice_get-map (λ p. Period.born p) t.sorted before)) ∙ is)
    where
      by_period : (o : Option Period) → slice_get t.sorted before ≡ o → option_and_then (λ bs. slice_get bs nth) (option_map (λ p. Period.born p) (slice_get t.sorted before)) ≡ Some birth
          → (p : Period) × Among p periods × (p.number ≡ suc before) × (slice_get p.born nth ≡ Some birth)
      by_period None is none = absurd (none-some birth (sym (ap (λ o. option_and_then (λ bs. slice_get bs nth) (option_map (λ p. Period.born p) o)) is) ∙ none))
      by_period (Some p) is found =
          let known = t.in_order.all before p is in
          (p, known.1, known.0, sym (ap (λ o. option_and_then (λ bs. slice_get bs nth) (option_map (λ p. Period.born p) o)) is) ∙ found)

  cut : (p : Period) → Among p periods → IsCutAt s.quota s.list periods p m.books
  cut p there = each_has_its_book s.quota s.list periods m.books p t there

  -- what the books hold, with a book in their middle
  booked_cut : (c : List Book) (book : Book) (newer : List Book) (front back : List ℕ) (place : ℕ) → m.books ≡ c ++ book ∷ newer → book.ran ≡ front ++ place ∷ back
      → booked m.books ≡ (booked c ++ front) ++ place ∷ (back ++ booked newer)
  booked_cut c book newer front back place are ran =
      ap booked are ∙ booked_append c (book ∷ newer) ∙ ap (λ r. booked c ++ (r ++ booked newer)) ran
      ∙ ap (λ r. booked c ++ r) (append_assoc front (place ∷ back) (booked newer)) ∙ sym (append_assoc (booked c) front (place ∷ (back ++ booked newer)))

  module _ (p : Period) (nth : ℕ) (birth : Birth) (there : Among p periods) (born : slice_get p.born nth ≡ Some birth) where
    its : slice_get (births_among s.list p.ran (cut p there).book.ran) nth ≡ Some birth
    its = ap (λ bs. slice_get bs nth) (sym (cut p there).is_book.born) ∙ born

    -- the parent is not of a newer period
    no_newer : (q : Period) (n : ℕ) (other : Birth) (above : List ℕ) → Among q periods → slice_get q.born n ≡ Some other → p.number < q.number
        → HasLabel periods other.parent above → HasLabel periods birth.parent (fork_of above other.ordinal) → ⊥
    no_newer q n other above q_there q_born newer parent child =
        let c = cut p there in let d = cut q q_there in
        let two = two_forks s.list periods p.ran (c.book).ran nth 0 birth birth c.is_book.ran its (ap (slice_get (births_among s.list p.ran (c.book).ran)) (plus nth) ∙ its) in
        let fork = fork_in s.list periods q.ran (d.book).ran n other d.is_book.ran (ap (λ bs. slice_get bs n) (sym d.is_book.born) ∙ q_born) in
        let numbers = c.numbered in let numbers' = d.numbered in
        let behind : Among d.book c.newer = later_book c.older c.newer d.older d.newer c.book d.book (sym c.books_are ∙ d.books_are) (omega (arith, numbers, numbers', newer)) in
        no_child_first (booked c.older ++ two.front) (two.back ++ booked c.newer) two.place birth other above
        (booked_cut c.older c.book c.newer two.front two.back two.place c.books_are two.places_are) two.is
        (record { place = fork.place; there = inr (among_right fork.place two.back (booked c.newer) (booked_among fork.place d.book c.newer behind fork.there)); is = fork.is })
        parent child
      where
        plus : (n : ℕ) → n + 0 ≡ n
        plus n = omega arith

    -- nor a later birth of the same one
    no_later : (more : ℕ) (other : Birth) (above : List ℕ) → slice_get p.born (nth + more) ≡ Some other
        → HasLabel periods other.parent above → HasLabel periods birth.parent (fork_of above other.ordinal) → ⊥
    no_later more other above other_born parent child =
        let c = cut p there in
        let two = two_forks s.list periods p.ran (c.book).ran nth more birth other c.is_book.ran its (ap (λ bs. slice_get bs (nth + more)) (sym c.is_book.born) ∙ other_born) in
        no_child_first (booked c.older ++ two.front) (two.back ++ booked c.newer) two.place birth other above
        (booked_cut c.older c.book c.newer two.front two.back two.place c.books_are two.places_are) two.is
        (record { place = (two.behind).place; there = among_left (two.behind).place (two.place ∷ two.back) (booked c.newer) (two.behind).there; is = (two.behind).is })
        parent child

    comes_first : (id : ThreadId) → id ≡ id_of p nth → ParentComesFirst (map (λ p. Period.born p) t.sorted) id birth
    comes_first id is =
        let c = cut p there in
        let fork = fork_in s.list periods p.ran (c.book).ran nth birth c.is_book.ran its in
        elim (how periods birth.parent (label_at s.list fork.place) fork.is.by) [
          | inl of_root ↦ inl of_root.0
          | inr of_fork ↦ inr (earlier fork.place fork.is.by of_fork, has_birth of_fork)
        ]
      where
        has_birth : {label : List ℕ} (f : Forked periods birth.parent label) → IsSome (birth_of (map (λ p. Period.born p) t.sorted) birth.parent)
        has_birth f = subst (λ i. IsSome (birth_of (map (λ p. Period.born p) t.sorted) i)) (sym f.id_is)
            (subst IsSome (sym (born_of t.in_order f.by f.nth f.birth f.there f.born)) refl)

        earlier : (place : ℕ) → HasLabel periods birth.parent (label_at s.list place) → (f : Forked periods birth.parent (label_at s.list place)) → IsBornBefore birth.parent id
        earlier place has f =
            let child : HasLabel periods birth.parent (fork_of f.parent (f.birth).ordinal) = subst (HasLabel periods birth.parent) f.label_is has in
            subst (λ i. IsBornBefore i id) (sym f.id_is) (subst (λ i. IsBornBefore (id_of f.by f.nth) i) (sym is) (
            elim (cases_order (f.by).number p.number) [
              | inl same ↦
                  let one : f.by ≡ p = one_of_a_number t.in_order f.by p f.there there same in
                  elim (cases_lt f.nth nth) [
                    | inl lt ↦ inr (same, lt)
                    | inr ge ↦ absurd (no_later (f.nth - nth) f.birth f.parent
                        (ap (slice_get p.born) (over nth f.nth ge) ∙ subst (λ q. slice_get (Period.born q) f.nth ≡ Some f.birth) one f.born) f.above child)
                  ]
              | inr other ↦ elim other [
                | inl lt ↦ inl lt
                | inr gt ↦ absurd (no_newer f.by f.nth f.birth f.parent f.there f.born gt f.above child)
              ]
            ]))
          where
            over : (n m : ℕ) → n ≤ m → n + (m - n) ≡ m
            over n m le = omega arith

pub births_come_parents_first : (s : Setting) → 0 < s.quota → IsDepthFirst s.quota s.list → BirthsComeParentsFirst s
births_come_parents_first s some run m periods t lawful id birth is =
    let found = found_period s run m periods t lawful id.period id.nth birth is in
    comes_first s run m periods t lawful found.0 id.nth birth found.1 found.3 id (ap (λ n. record { period = n; nth = id.nth }) (sym found.2))

module _ {X : Type 0} where
  -- what stands in the front of a list, or at its end, stands there whatever follows
  front_same : (front back : List X) (x : X) (n : ℕ) → n ≤ length front → slice_get (front ++ x ∷ back) n ≡ slice_get (front ++ x ∷ []) n
  front_same [] back x zero le = refl
  front_same [] back x (suc n) le = absurd (omega (arith, le))
  front_same (y ∷ front) back x zero le = refl
  front_same (y ∷ front) back x (suc n) le = front_same front back x n (omega (arith, le))

still_born : (front back : List (List Birth)) (births : List Birth) (number nth : ℕ) → number ≤ length front + 1
    → birth_in (front ++ births ∷ back) number nth ≡ birth_in (front ++ births ∷ []) number nth
still_born front back births zero nth le = refl
still_born front back births (suc before) nth le =
    ap (option_and_then (λ bs. slice_get bs nth)) (front_same front back births before (omega (arith, le)))

may_follow : (all front back : List (List Birth)) (births : List Birth) → ParentsComeFirst all → all ≡ front ++ births ∷ back → MayFollow front births
may_follow all front back births first is nth birth there =
    let id : ThreadId = record { period = length front + 1; nth = nth } in
    let number : length front + 1 ≡ suc (length front) = omega arith in
    let has : birth_of all id ≡ Some birth =
    ap (λ t. birth_in t (length front + 1) nth) is ∙ ap (λ n. birth_in (front ++ births ∷ back) n nth) number
    ∙ ap (option_and_then (λ bs. slice_get bs nth)) (get_middle front births back) ∙ there in
    elim (first id birth has) [
      | inl of_root ↦ inl of_root
      | inr older ↦ inr (
        older.0,
        subst IsSome (ap (λ t. birth_of t birth.parent) is ∙ still_born front back births (ThreadId.period birth.parent) (ThreadId.nth birth.parent) (not_newer older.0)) older.1,
      )
    ]
  where
    not_newer : IsBornBefore birth.parent (record { period = length front + 1; nth = nth }) → ThreadId.period birth.parent ≤ length front + 1
    not_newer (inl lt) = omega (arith, lt)
    not_newer (inr same) = let e = same.0 in omega (arith, e)

pub births_may_follow : (s : Setting) → 0 < s.quota → IsDepthFirst s.quota s.list → BirthsMayFollow s
births_may_follow s some run m periods t lawful front back births is =
    may_follow (map (λ p. Period.born p) t.sorted) front back births (births_come_parents_first s some run m periods t lawful) is
