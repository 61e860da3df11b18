-- An event of a ready list leads to one moment, and a list of words picks one play.
use Rattle.std.proofs.Common.{◌≡◌, ◌≢◌, ℕ, suc, ◌+◌, ◌%◌, ◌≤◌, ◌<◌, ◌⊎◌, List, [], ◌∷◌, ◌++◌, length, inl, inr, refl, sym, ap, subst, ◌∙◌, arith}
use Rattle.std.specs.Prelude.{None, Some}
use Rattle.std.proofs.lemmas.Bool.{cases_order}
use Rattle.dag_order.specs.LabelOrder.{fork_of}
use Rattle.depth_first_list.specs.Actions.{forks, joins, record_words}
use Rattle.depth_first_list.specs.Runs.{IsDepthFirst}
use Rattle.depth_first_list.specs.Facts.{deed_at, words_at, IsNext}
use Rattle.deque_machine.specs.Lists.{Each, one_if_same}
use Rattle.deque_machine.specs.Books.{charge, charge_at, charged}
use Rattle.deque_machine.proofs.Lists.{total_append, each_at, same_head, same_tail, one_same}
use Rattle.deque_machine.specs.Moments.{Deque, Moment, opening, moment_of, deque_of, done_at, owned_by, open_for, one_if_owned, one_if_worker}
use Rattle.deque_machine.specs.Machine.{Setting, Event, steals, does, Owns, IsAtTop, HasEnded, books_with, booked_with, May, forks_child}
use Rattle.deque_machine.specs.LawfulOrder.{IsLawful}
use Rattle.deque_machine.specs.Runs.{Pair}
use Rattle.deque_machine.specs.Play.{Limits, Stop, Ending, stopped, IsFirst, Wants, a_theft, a_give_up, a_wait, an_action, Meets, no_deque, no_words, no_steps}
use Rattle.deque_machine.proofs.LiveThreads.{one_next}
use Rattle.deque_machine.proofs.Ends.{one_book}
use Rattle.deque_machine.proofs.OnePlay as replay
use Rattle.ready_machine.specs.Entries.{entry, IsEntry, IsRun, IsLeastFree, IsReadyList}
use Rattle.ready_machine.specs.ReadyMachine.{MayReady, takes, forks_left, as_with_deques}
use Rattle.ready_machine.specs.ReadyPlay.{CanGo, WantsReady, a_take, of_its_entry, ReadyTurn, ReadyPlays, is_over, is_stopped, goes_on}
use Rattle.ready_machine.specs.ReplayLaws.{ReadyOneWay, ReadyOnePlay}
use Rattle.ready_machine.proofs.Sharing.{take_is_theft, kept_ready, opening_is_ready}
use Rattle.ready_machine.proofs.Cuts.{one_first_cut, one_only_cut}
use Rattle.ready_machine.proofs.Coming.{IsForkEvent, shared_is_no_fork, each_beside, no_entry}

-- an event that is a Fork, with what it leaves
record IsForked (s : Setting) (m : Moment) (worker : ℕ) (event : Event) (after : Moment) : Type 0 where
  pub owner : Owns m worker
  pub place : ℕ
  pub child : ℕ
  pub new : ℕ
  pub at : IsAtTop s m owner.top place (forks child)
  pub fits : charged s.quota s.list owner.book.ran + record_words ≤ s.quota
  pub least : IsLeastFree m.deques new
  pub event_is : event ≡ does place
  pub after_is : after ≡ moment_of (owner.left ++ entry owner.id (Some worker)
      (fork_of owner.top child) ∷ entry new None owner.top ∷ owner.right)
      m.waiting (books_with owner (Some worker) place)

module _ (s : Setting) (some : 0 < s.quota) (list : IsDepthFirst s.quota s.list) (m : Moment) (ready : IsReadyList s m) (worker : ℕ) where
  -- an event is a Fork, or the machine of deques has it
  forked_or_not : (event : Event) (after : Moment) → MayReady s m worker event after
      → ((¬ IsForkEvent s event) × May s m worker event after) ⊎ IsForked s m worker event after
  forked_or_not event after (takes left right thread id idle at) =
      inl ((λ fork. no_theft (length left) id fork.0 fork.2), take_is_theft s m ready.lawful worker left right thread id idle at)
    where
      no_theft : (place id other : ℕ) → steals place id ≡ does other → ⊥
      no_theft place id other same = cc
  forked_or_not event after (forks_left o place child new at fits least) =
      inr (record {
        owner = o;
        place = place;
        child = child;
        new = new;
        at = at;
        fits = fits;
        least = least;
        event_is = refl;
        after_is =
            refl;
      })
  forked_or_not event after (as_with_deques event' after' shared may) = inl (shared_is_no_fork s event shared, may)

  -- the moment of the machine of deques that a Fork cuts
  between : (event : Event) (after : Moment) → IsForked s m worker event after → Moment
  between event after f = booked_with m worker f.owner (fork_of (f.owner).top f.child ∷ (f.owner).top ∷ (f.owner).under) f.place

  with_deques : (event : Event) (after : Moment) (f : IsForked s m worker event after) → May s m worker event (between event after f)
  unfolding between
  with_deques event after f =
      subst (λ e. May s m worker e (between event after f)) (sym f.event_is) (forks_child f.owner f.place f.child f.at f.fits)

  -- the least free id is one
  one_least : (a b : ℕ) → IsLeastFree m.deques a → IsLeastFree m.deques b → a ≡ b
  one_least a b x y =
      let none_a = x.free in let none_b = y.free in
      elim (cases_order a b) [
        | inl same ↦ same
        | inr r ↦ elim r [
          | inl lt ↦ let had = y.none_less a lt in absurd (omega (arith, had, none_a))
          | inr gt ↦ let had = x.none_less b gt in absurd (omega (arith, had, none_b))
        ]
      ]

  one_fork : (event : Event) (one other : Moment) → IsForked s m worker event one → IsForked s m worker event other → one ≡ other
  unfolding between
  one_fork event one other f g =
      let o : Owns m worker = f.owner in let p : Owns m worker = g.owner in
      let same : between event one f ≡ between event other g = replay.one_way s some list m (between event one f)
      (between event other g) worker event
      ready.lawful (with_deques event one f) (with_deques event other g) in
      let sides = each_beside s m ready worker o in
      let cut = one_only_cut IsEntry o.left o.right p.left p.right (deque_of o.id (Some worker) (fork_of o.top f.child ∷ o.top ∷ o.under))
      (deque_of p.id (Some worker) (fork_of p.top g.child ∷ p.top ∷ p.under)) (ap (λ m. m.deques) same) sides.0 sides.1
      (no_entry s m ready worker o.id (fork_of o.top f.child) o.top o.under) (no_entry s m ready worker p.id
      (fork_of p.top g.child) p.top p.under) in
      let threads : fork_of o.top f.child ∷ o.top ∷ o.under ≡ fork_of p.top g.child ∷ p.top ∷ p.under = ap (λ d. d.threads) cut.heres in
      let ids : o.id ≡ p.id = ap (λ d. d.id) cut.heres in
      let upper : fork_of o.top f.child ≡ fork_of p.top g.child = same_head (fork_of o.top f.child) (fork_of p.top g.child)
      (o.top ∷ o.under) (p.top ∷ p.under) threads in
      let lower : o.top ≡ p.top = same_head o.top p.top o.under p.under
      (same_tail (fork_of o.top f.child) (fork_of p.top g.child) (o.top ∷ o.under) (p.top ∷ p.under) threads) in
      let new : f.new ≡ g.new = one_least f.new g.new f.least g.least in
      let books : books_with o (Some worker) f.place ≡ books_with p (Some worker) g.place = ap (λ m. m.books) same in
      f.after_is
      ∙ (λ i. moment_of (cut.lefts i ++ entry (ids i) (Some worker) (upper i) ∷ entry (new i) None (lower i) ∷ cut.rights i) m.waiting
      (books i))
      ∙ sym g.after_is

  pub one_way_from : (event : Event) (one other : Moment) → MayReady s m worker event one → MayReady s m worker event other → one ≡ other
  one_way_from event one other may may' = elim (forked_or_not event one may) [
    | inl a ↦ elim (forked_or_not event other may') [
      | inl b ↦ replay.one_way s some list m one other worker event ready.lawful a.1 b.1
      | inr g ↦ absurd (a.0 (g.place, g.child, g.event_is, (g.at).deed_is))
    ]
    | inr f ↦ elim (forked_or_not event other may') [
      | inl b ↦ absurd (b.0 (f.place, f.child, f.event_is, (f.at).deed_is))
      | inr g ↦ one_fork event one other f g
    ]
  ]

pub one_way : (s : Setting) → 0 < s.quota → IsDepthFirst s.quota s.list → ReadyOneWay s
one_way s some list m one other worker event ready may may' = one_way_from s some list m ready worker event one other may may'

-- the first that passes is one
one_first : (n word : ℕ) (Passes : ℕ → Type 0) (x y : ℕ) → IsFirst n word Passes x → IsFirst n word Passes y → x ≡ y
one_first n word Passes x y a b = elim (cases_order a.turns b.turns) [
  | inl same ↦ a.is ∙ ap (λ t. (word + t) % n) same ∙ sym b.is
  | inr r ↦ elim r [
    | inl lt ↦ absurd (b.none_before a.turns lt (subst Passes a.is a.passes))
    | inr gt ↦ absurd (a.none_before b.turns gt (subst Passes b.is b.passes))
  ]
]

-- an event meets one stop
one_stop : (s : Setting) (limits : Limits) (m : Moment) (event : Event) (stop other : Stop) → Meets s limits m event stop
    → Meets s limits m event other
    → stop ≡ other
one_stop s limits m event stop other (no_deque place id d is stays many) (no_deque place' id' d' is' stays' many') = refl
one_stop s limits m event stop other (no_words place fills) (no_words place' fills') = refl
one_stop s limits m event stop other (no_words place fills) (no_steps place' room many) = absurd (room fills)
one_stop s limits m event stop other (no_steps place room many) (no_words place' fills) = absurd (room fills)
one_stop s limits m event stop other (no_steps place room many) (no_steps place' room' many') = refl

none_owned : (w : ℕ) (ds : List Deque) → owned_by w ds ≡ 0 → Each (λ d. d.owner ≢ Some w) ds
none_owned w [] none = tt
none_owned w (d ∷ ds) none = (
  (λ is.
      let one : one_if_owned w d ≡ one_if_same w w = ap (one_if_worker w) is in
      let own : one_if_same w w ≡ 1 = one_same w w refl in absurd (omega (arith, one, own, none))),
  none_owned w ds (omega (arith, none)),
)

module _ (s : Setting) (list : IsDepthFirst s.quota s.list) (m : Moment) (lawful : IsLawful s m) (worker : ℕ) where
  -- the worker runs one thread
  one_top : (o p : Owns m worker) → o.top ≡ p.top
  one_top o p =
      let d : Deque = deque_of o.id (Some worker) (o.top ∷ o.under) in let e : Deque = deque_of p.id (Some worker) (p.top ∷ p.under) in
      let most = (lawful.order).owns_one worker in
      let cut : owned_by worker m.deques ≡ owned_by worker (o.left ++ d ∷ o.right) = ap (owned_by worker) o.deques_are in
      let sum = total_append (one_if_owned worker) o.left (d ∷ o.right) in
      let own : one_if_owned worker d ≡ 1 = one_same worker worker refl in
      let same = one_only_cut (λ d. d.owner ≢ Some worker) o.left o.right p.left p.right d e (sym o.deques_are ∙ p.deques_are)
      (none_owned worker o.left (omega (arith, most, cut, sum, own))) (none_owned worker o.right (omega (arith, most, cut, sum, own)))
      (λ other. other refl) (λ other. other refl) in
      same_head o.top p.top o.under p.under (ap (λ d. d.threads) same.heres)

  same_book : (o p : Owns m worker) → o.book ≡ p.book
  same_book o p =
      let most = (lawful.order).owns_one worker in let each = (lawful.periods).one_each worker in
      one_book s m worker o.older o.newer p.older p.newer o.book p.book (sym o.books_are ∙ p.books_are) o.open_for_it p.open_for_it
      (subst (λ b. open_for worker b ≤ 1) o.books_are (omega (arith, most, each)))

  same_place : (o p : Owns m worker) (a b : ℕ) → IsNext s.list (done_at m) o.top a → IsNext s.list (done_at m) p.top b → a ≡ b
  same_place o p a b x y = one_next s.quota s.list list (done_at m) ((lawful.periods).lawful).first_actions o.top a b x
      (subst (λ t. IsNext s.list (done_at m) t b) (sym (one_top o p)) y)

  -- what is forced does not fit, and a Join takes nothing
  not_both : (o p : Owns m worker) (a b : ℕ) → IsNext s.list (done_at m) o.top a → IsNext s.list (done_at m) p.top b
      → s.quota < charged s.quota s.list o.book.ran + charge_at s.quota s.list a
      → charged s.quota s.list p.book.ran + charge_at s.quota s.list b ≤ s.quota → ⊥
  not_both o p a b x y full fits =
      let books : charged s.quota s.list o.book.ran ≡ charged s.quota s.list p.book.ran = ap (λ t. charged s.quota s.list t.ran)
      (same_book o p) in
      let places : charge_at s.quota s.list a ≡ charge_at s.quota s.list b = ap (charge_at s.quota s.list) (same_place o p a b x y) in
      omega (arith, full, fits, books, places)

  join_fits : (o : Owns m worker) (place child : ℕ) → deed_at s.list place ≡ joins child
      → charged s.quota s.list o.book.ran + charge_at s.quota s.list place ≤ s.quota
  join_fits o place child is =
      let none : charge_at s.quota s.list place ≡ 0 = ap (λ d. charge s.quota d (words_at s.list place)) is in
      let most : charged s.quota s.list o.book.ran ≤ s.quota = each_at (λ b. charged s.quota s.list b.ran ≤ s.quota) o.older o.book o.newer
      (subst (λ b. Each (λ b. charged s.quota s.list b.ran ≤ s.quota) b) o.books_are ((lawful.periods).lawful).within) in omega
      (arith, none, most)

  -- it waits for a child that has ended, or not
  not_ended : (o p : Owns m worker) (place child other : ℕ) → IsAtTop s m o.top place (joins child) → ¬ HasEnded s m (fork_of o.top child)
      → IsNext s.list (done_at m) p.top other → ((c : ℕ) → deed_at s.list other ≡ joins c → HasEnded s m (fork_of p.top c)) → ⊥
  not_ended o p place child other at none next has =
      none (subst (λ t. HasEnded s m (fork_of t child)) (sym (one_top o p))
      (has child (ap (λ i. deed_at s.list i) (sym (same_place o p place other at.next next)) ∙ at.deed_is)))

  -- of a worker that runs an entry the rules want one event
  one_of_owner : (event other : Event) → 0 < owned_by worker m.deques → Wants s m worker 0 event → Wants s m worker 0 other → event ≡ other
  one_of_owner event other some (a_theft place id idle first named) wants = absurd (omega (arith, some, idle))
  one_of_owner event other some (a_give_up forced) (a_theft place id idle first named) = absurd (omega (arith, some, idle))
  one_of_owner event other some (a_give_up forced) (a_give_up forced') = refl
  one_of_owner event other some (a_give_up forced) (a_wait o place child at none) =
      absurd (not_both forced.owner o forced.place place forced.next at.next forced.no_room (join_fits o place child at.deed_is))
  one_of_owner event other some (a_give_up forced) (an_action o place next has fits) =
      absurd (not_both forced.owner o forced.place place forced.next next forced.no_room fits)
  one_of_owner event other some (a_wait o place child at none) (a_theft place' id idle first named) = absurd (omega (arith, some, idle))
  one_of_owner event other some (a_wait o place child at none) (a_give_up forced) =
      absurd (not_both forced.owner o forced.place place forced.next at.next forced.no_room (join_fits o place child at.deed_is))
  one_of_owner event other some (a_wait o place child at none) (a_wait o' place' child' at' none') = refl
  one_of_owner event other some (a_wait o place child at none) (an_action o' place' next has fits) =
      absurd (not_ended o o' place child place' at none next has)
  one_of_owner event other some (an_action o place next has fits) (a_theft place' id idle first named) = absurd (omega (arith, some, idle))
  one_of_owner event other some (an_action o place next has fits) (a_give_up forced) =
      absurd (not_both forced.owner o forced.place place forced.next next forced.no_room fits)
  one_of_owner event other some (an_action o place next has fits) (a_wait o' place' child at none) =
      absurd (not_ended o' o place' child place at none next has)
  one_of_owner event other some (an_action o place next has fits) (an_action o' place' next' has' fits') =
      ap does (same_place o o' place place' next next')

  -- and of an idle one
  one_wanted : (event other : Event) → WantsReady s m worker event → WantsReady s m worker other → event ≡ other
  one_wanted event other (a_take left right id thread idle at) (a_take left' right' id' thread' idle' at') =
      let cut = one_first_cut IsRun left right left' right' (entry id None thread) (entry id' None thread') (sym at.deques_are
      ∙ at'.deques_are)
      at.left_are_run at'.left_are_run (λ run. run refl) (λ run. run refl) in
      λ i. steals (length (cut.lefts i)) (cut.heres i).id
  one_wanted event other (a_take left right id thread idle at) (of_its_entry other' some wants) = absurd (omega (arith, some, idle))
  one_wanted event other (of_its_entry event' some wants) (a_take left right id thread idle at) = absurd (omega (arith, some, idle))
  one_wanted event other (of_its_entry event' some wants) (of_its_entry other' some' wants') = one_of_owner event other some wants wants'

module _ (s : Setting) (some : 0 < s.quota) (list : IsDepthFirst s.quota s.list) (limits : Limits) (words : ℕ → ℕ) where
  -- a turn is one worker's, with one event
  one_turn : (n : ℕ) (m : Moment) → IsReadyList s m → (a b : Pair) → ReadyTurn s words n m a → ReadyTurn s words n m b → a ≡ b
  one_turn n m ready a b x y =
      let worker : a.worker ≡ b.worker = one_first s.workers (words n) (CanGo m) a.worker b.worker x.first y.first in
      let event : a.event ≡ b.event = one_wanted s list m ready.lawful a.worker a.event b.event x.wants
      (subst (λ w. WantsReady s m w b.event) (sym worker) y.wants) in λ i. record { worker = worker i; event = event i }

  one_play_from : (n : ℕ) (m : Moment) (run run' : List Pair) (last last' : Moment) (ending ending' : Ending) → IsReadyList s m
      → ReadyPlays s limits words n m run last ending → ReadyPlays s limits words n m run' last' ending'
      → (run ≡ run') × (last ≡ last') × (ending ≡ ending')
  one_play_from n m run run' last last' ending ending' ready (is_over a b has) (is_over a' b' has') = (refl, refl, refl)
  one_play_from n m run run' last last' ending ending' ready (is_over a b has) (is_stopped a' b' pair' stop' turn' meets') = absurd
      (turn'.not_over has)
  one_play_from n m run run' last last' ending ending' ready (is_over a b has)
      (goes_on a' b' next' l' pair' later' e' turn' none' may' rest') =
      absurd (turn'.not_over has)
  one_play_from n m run run' last last' ending ending' ready (is_stopped a b pair stop turn meets) (is_over a' b' has') = absurd
      (turn.not_over has')
  one_play_from n m run run' last last' ending ending' ready (is_stopped a b pair stop turn meets)
      (is_stopped a' b' pair' stop' turn' meets') =
      let same : pair ≡ pair' = one_turn n m ready pair pair' turn turn' in (
        refl,
        refl,
        ap stopped (one_stop s limits m pair.event stop stop' meets (subst (λ p. Meets s limits m p.event stop')
            (sym same) meets')),
      )
  one_play_from n m run run' last last' ending ending' ready (is_stopped a b pair stop turn meets)
      (goes_on a' b' next' l' pair' later' e' turn' none' may' rest') =
      absurd (none' stop (subst (λ p. Meets s limits m p.event stop) (one_turn n m ready pair pair' turn turn') meets))
  one_play_from n m run run' last last' ending ending' ready (goes_on a b next l pair later e turn none may rest)
      (is_over a' b' has') = absurd (turn.not_over has')
  one_play_from n m run run' last last' ending ending' ready (goes_on a b next l pair later e turn none may rest)
      (is_stopped a' b' pair' stop' turn' meets') =
      absurd (none stop' (subst (λ p. Meets s limits m p.event stop') (sym (one_turn n m ready pair pair' turn turn')) meets'))
  one_play_from n m run run' last last' ending ending' ready (goes_on a b next l pair later e turn none may rest)
      (goes_on a' b' next' l' pair' later' e' turn' none' may' rest') =
      let same : pair ≡ pair' = one_turn n m ready pair pair' turn turn' in
      let moment : next' ≡ next = one_way s some list m next' next pair.worker pair.event ready
      (subst (λ p. MayReady s m p.worker p.event next') (sym same) may') may in
      let again : ReadyPlays s limits words (suc n) next later' last' ending' =
      subst (λ x. ReadyPlays s limits words (suc n) x later' last' ending') moment rest' in
      let further = one_play_from (suc n) next later later' last last' ending ending'
      (kept_ready s list m ready pair.worker pair.event next may) rest again in
      (ap (λ p. p ∷ later) same ∙ ap (λ t. pair' ∷ t) further.0, further.1, further.2)

pub one_play : (s : Setting) → 0 < s.quota → IsDepthFirst s.quota s.list → ReadyOnePlay s
one_play s some list limits words run run' last last' ending ending' plays plays' =
    one_play_from s some list limits words 0 opening run run' last last' ending ending' (opening_is_ready s list) plays plays'
