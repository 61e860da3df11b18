-- A list of words picks one play.
use Rattle.std.proofs.Common.{◌≡◌, ℕ, suc, ◌+◌, ◌%◌, ◌≤◌, ◌<◌, List, [], ◌∷◌, ◌++◌, inl, inr, refl, sym, ap, subst, ◌∙◌, arith}
use Rattle.std.specs.Prelude.{Some, unwrap_or}
use Rattle.std.proofs.lemmas.Bool.{cases_order}
use Rattle.dag_order.specs.LabelOrder.{fork_of}
use Rattle.depth_first_run.specs.Passed.Actions.{joins}
use Rattle.depth_first_run.specs.Passed.Runs.{IsDepthFirst}
use Rattle.depth_first_run.specs.Passed.Facts.{deed_at, words_at, IsNext}
use Rattle.deque_machine.specs.Lists.{Each, one_if_same}
use Rattle.deque_machine.specs.Books.{charge, charge_at, charged}
use Rattle.deque_machine.proofs.Lists.{each_at, same_head, same_tail, total_append, one_same}
use Rattle.deque_machine.specs.Moments.{Deque, Moment, opening, done_at, live_at, owned_by, with_id, one_if_owned, one_if_worker}
use Rattle.deque_machine.specs.Machine.{Setting, Event, steals, does, Owns, HasEnded, May}
use Rattle.deque_machine.specs.LawfulOrder.{IsLawful}
use Rattle.deque_machine.specs.Runs.{Pair}
use Rattle.deque_machine.specs.Play.{Limits, Stop, Ending, finished, stopped, IsFirst, IsReady, CanMove, Stays, reach, IsThiefsId, Wants, a_theft, a_give_up, a_wait, an_action, Meets, no_deque, no_words, no_steps, Turn, words_drawn, Plays, is_over, is_stopped, goes_on}
use Rattle.deque_machine.proofs.Kept.{kept, opening_is_lawful}
use Rattle.deque_machine.proofs.LiveThreads.{one_next}
use Rattle.deque_machine.proofs.Ends.{one_book}
use Rattle.deque_machine.specs.Fronts.{PlaysOn, stays_here, takes_turn}
use Rattle.deque_machine.specs.StepLaws.{OneWay, OnePlay, PlayHasCause, EndingsHaveCauses}
use Rattle.deque_machine.proofs.StepComplete.{step_complete}

pub one_way : (s : Setting) → 0 < s.quota → IsDepthFirst s.quota s.list → OneWay s
one_way s some list m one other worker event lawful may may' =
    ap (λ o. unwrap_or o one) (sym (step_complete s m lawful worker event one may) ∙ step_complete s m lawful worker event other may')

-- the first that passes is one
one_first : (n word : ℕ) (Passes : ℕ → Type 0) (x y : ℕ) → IsFirst n word Passes x → IsFirst n word Passes y → x ≡ y
one_first n word Passes x y a b = elim (cases_order a.turns b.turns) [
  | inl same ↦ a.is ∙ ap (λ t. (word + t) % n) same ∙ sym b.is
  | inr r ↦ elim r [
    | inl lt ↦ absurd (b.none_before a.turns lt (subst Passes a.is a.passes))
    | inr gt ↦ absurd (a.none_before b.turns gt (subst Passes b.is b.passes))
  ]
]

-- the id of a thief's deque is one
one_id : (m : Moment) (place id other : ℕ) → IsThiefsId m place id → IsThiefsId m place other → id ≡ other
one_id m place id other a b =
    let same : a.0 ≡ b.0 = ap (λ o. unwrap_or o a.0) (sym a.1 ∙ b.1) in
    elim a.2 [
      | inl taken ↦ elim b.2 [
        | inl again ↦ taken.1 ∙ ap (λ d. d.id) same ∙ sym again.1
        | inr new ↦ absurd (taken.0 (subst Stays (sym same) new.0))
      ]
      | inr new ↦ elim b.2 [
        | inl taken ↦ absurd (taken.0 (subst Stays same new.0))
        | inr again ↦ let x = new.1 in let y = again.1 in elim (cases_order id other) [
          | inl e ↦ e
          | inr r ↦ elim r [
            | inl lt ↦ let had = again.2 id lt in absurd (omega arith)
            | inr gt ↦ let had = new.2 other gt in absurd (omega arith)
          ]
        ]
      ]
    ]

-- the one deque of a worker
one_deque : (worker : ℕ) (left right left' right' : List Deque) (d e : Deque) → left ++ d ∷ right ≡ left' ++ e ∷ right' → d.owner ≡ Some worker → e.owner ≡ Some worker
    → owned_by worker (left ++ d ∷ right) ≤ 1 → d ≡ e
one_deque worker [] right [] right' d e same od oe few = same_head d e right right' same
one_deque worker [] right (y ∷ left') right' d e same od oe few =
    let rest : right ≡ left' ++ e ∷ right' = same_tail d y right (left' ++ e ∷ right') same in
    let one : one_if_owned worker d ≡ one_if_same worker worker = ap (one_if_worker worker) od in
    let two : one_if_owned worker e ≡ one_if_same worker worker = ap (one_if_worker worker) oe in
    let own = one_same worker worker refl in
    let there : owned_by worker right ≡ owned_by worker (left' ++ e ∷ right') = ap (owned_by worker) rest in
    let sum = total_append (one_if_owned worker) left' (e ∷ right') in absurd (omega (arith, one, two, own, there, sum, few))
one_deque worker (x ∷ left) right [] right' d e same od oe few =
    let here : x ≡ e = same_head x e (left ++ d ∷ right) right' same in
    let one : one_if_owned worker d ≡ one_if_same worker worker = ap (one_if_worker worker) od in
    let two : one_if_owned worker x ≡ one_if_same worker worker = ap (one_if_owned worker) here ∙ ap (one_if_worker worker) oe in
    let own = one_same worker worker refl in
    let sum = total_append (one_if_owned worker) left (d ∷ right) in absurd (omega (arith, one, two, own, sum, few))
one_deque worker (x ∷ left) right (y ∷ left') right' d e same od oe few =
    one_deque worker left right left' right' d e (same_tail x y (left ++ d ∷ right) (left' ++ e ∷ right') same) od oe (omega arith)

module _ (s : Setting) (list : IsDepthFirst s.quota s.list) (m : Moment) (lawful : IsLawful s m) (worker : ℕ) where
  one_top : (o p : Owns m worker) → o.top ≡ p.top
  one_top o p =
      let most = (lawful.order).owns_one worker in
      let cut : owned_by worker m.deques ≡ owned_by worker (o.left ++ record { id = o.id; owner = Some worker; threads = o.top ∷ o.under } ∷ o.right) = ap (owned_by worker) o.deques_are in
      let same = one_deque worker o.left o.right p.left p.right (record { id = o.id; owner = Some worker; threads = o.top ∷ o.under }) (record { id = p.id; owner = Some worker; threads = p.top ∷ p.under })
      (sym o.deques_are ∙ p.deques_are) refl refl (omega (arith, most, cut)) in
      same_head o.top p.top o.under p.under (ap (λ d. d.threads) same)

  same_book : (o p : Owns m worker) → o.book ≡ p.book
  same_book o p =
      let most = (lawful.order).owns_one worker in let each = (lawful.periods).one_each worker in
      let cut = ap (λ b. b) o.books_are in
      one_book s m worker o.older o.newer p.older p.newer o.book p.book (sym o.books_are ∙ p.books_are) o.open_for_it p.open_for_it
      (subst (λ b. Rattle.deque_machine.specs.Moments.open_for worker b ≤ 1) o.books_are (omega (arith, most, each)))

  same_place : (o p : Owns m worker) (a b : ℕ) → IsNext s.list (done_at m) o.top a → IsNext s.list (done_at m) p.top b → a ≡ b
  same_place o p a b x y = one_next s.quota s.list list (done_at m) ((lawful.periods).lawful).first_actions o.top a b x (subst (λ t. IsNext s.list (done_at m) t b) (sym (one_top o p)) y)

  owner_is_busy : (o : Owns m worker) → ¬ (owned_by worker m.deques ≡ 0)
  owner_is_busy o idle =
      let d : Deque = record { id = o.id; owner = Some worker; threads = o.top ∷ o.under } in
      let cut : owned_by worker m.deques ≡ owned_by worker (o.left ++ d ∷ o.right) = ap (owned_by worker) o.deques_are in
      let sum = total_append (one_if_owned worker) o.left (d ∷ o.right) in let own : one_if_owned worker d ≡ 1 = one_same worker worker refl in absurd (omega (arith, idle, cut, sum, own))

  -- what is forced does not fit, and a Join takes nothing
  not_both : (o p : Owns m worker) (a b : ℕ) → IsNext s.list (done_at m) o.top a → IsNext s.list (done_at m) p.top b
      → s.quota < charged s.quota s.list o.book.ran + charge_at s.quota s.list a → charged s.quota s.list p.book.ran + charge_at s.quota s.list b ≤ s.quota → ⊥
  not_both o p a b x y full fits =
      let books : charged s.quota s.list o.book.ran ≡ charged s.quota s.list p.book.ran = ap (λ t. charged s.quota s.list t.ran) (same_book o p) in
      let places : charge_at s.quota s.list a ≡ charge_at s.quota s.list b = ap (charge_at s.quota s.list) (same_place o p a b x y) in omega (arith, full, fits, books, places)

  join_fits : (o : Owns m worker) (place child : ℕ) → deed_at s.list place ≡ joins child → charged s.quota s.list o.book.ran + charge_at s.quota s.list place ≤ s.quota
  join_fits o place child is =
      let none : charge_at s.quota s.list place ≡ 0 = ap (λ d. charge s.quota d (words_at s.list place)) is in
      let most : charged s.quota s.list o.book.ran ≤ s.quota = each_at (λ b. charged s.quota s.list b.ran ≤ s.quota) o.older o.book o.newer
      (subst (λ b. Each (λ b. charged s.quota s.list b.ran ≤ s.quota) b) o.books_are ((lawful.periods).lawful).within) in omega (arith, none, most)

  -- the rules want one event
  one_event : (word : ℕ) (event other : Event) → Wants s m worker word event → Wants s m worker word other → event ≡ other
  one_event word event other (a_theft place id idle first named) (a_theft place' id' idle' first' named') =
      let same : place ≡ place' = one_first (reach s m) word (IsReady m) place place' first first' in
      ap (λ p. steals p id) same ∙ ap (steals place') (one_id m place' id id' (subst (λ p. IsThiefsId m p id) same named) named')
  one_event word event other (a_theft place id idle first named) (a_give_up forced) = absurd (owner_is_busy forced.owner idle)
  one_event word event other (a_theft place id idle first named) (a_wait o place' child at none) = absurd (owner_is_busy o idle)
  one_event word event other (a_theft place id idle first named) (an_action o place' next has fits) = absurd (owner_is_busy o idle)
  one_event word event other (a_give_up forced) (a_theft place id idle first named) = absurd (owner_is_busy forced.owner idle)
  one_event word event other (a_give_up forced) (a_give_up forced') = refl
  one_event word event other (a_give_up forced) (a_wait o place child at none) =
      absurd (not_both forced.owner o forced.place place forced.next at.next forced.no_room (join_fits o place child at.deed_is))
  one_event word event other (a_give_up forced) (an_action o place next has fits) = absurd (not_both forced.owner o forced.place place forced.next next forced.no_room fits)
  one_event word event other (a_wait o place child at none) (a_theft place' id idle first named) = absurd (owner_is_busy o idle)
  one_event word event other (a_wait o place child at none) (a_give_up forced) =
      absurd (not_both forced.owner o forced.place place forced.next at.next forced.no_room (join_fits o place child at.deed_is))
  one_event word event other (a_wait o place child at none) (a_wait o' place' child' at' none') = refl
  one_event word event other (a_wait o place child at none) (an_action o' place' next has fits) =
      absurd (none (subst (λ t. HasEnded s m (fork_of t child)) (sym (one_top o o'))
      (has child (ap (λ p. deed_at s.list p) (sym (same_place o o' place place' at.next next)) ∙ at.deed_is))))
  one_event word event other (an_action o place next has fits) (a_theft place' id idle first named) = absurd (owner_is_busy o idle)
  one_event word event other (an_action o place next has fits) (a_give_up forced) = absurd (not_both forced.owner o forced.place place forced.next next forced.no_room fits)
  one_event word event other (an_action o place next has fits) (a_wait o' place' child at none) =
      absurd (none (subst (λ t. HasEnded s m (fork_of t child)) (one_top o o')
      (has child (ap (λ p. deed_at s.list p) (same_place o o' place place' next at.next) ∙ at.deed_is))))
  one_event word event other (an_action o place next has fits) (an_action o' place' next' has' fits') = ap does (same_place o o' place place' next next')

-- an event meets one stop
one_stop : (s : Setting) (limits : Limits) (m : Moment) (event : Event) (stop other : Stop) → Meets s limits m event stop → Meets s limits m event other → stop ≡ other
one_stop s limits m event stop other (no_deque place id d is stays many) (no_deque place' id' d' is' stays' many') = refl
one_stop s limits m event stop other (no_words place fills) (no_words place' fills') = refl
one_stop s limits m event stop other (no_words place fills) (no_steps place' room many) = absurd (room fills)
one_stop s limits m event stop other (no_steps place room many) (no_words place' fills) = absurd (room fills)
one_stop s limits m event stop other (no_steps place room many) (no_steps place' room' many') = refl

module _ (s : Setting) (some : 0 < s.quota) (list : IsDepthFirst s.quota s.list) (limits : Limits) (words : ℕ → ℕ) where
  -- a turn is one worker's, with one event
  one_turn : (n : ℕ) (m : Moment) → IsLawful s m → (a b : Pair) → Turn s words n m a → Turn s words n m b → a ≡ b
  one_turn n m lawful a b x y =
      let worker : a.worker ≡ b.worker = one_first s.workers (words n) (CanMove s m) a.worker b.worker x.first y.first in
      let event : a.event ≡ b.event = one_event s list m lawful a.worker (words (suc n)) a.event b.event x.wants
      (subst (λ w. Wants s m w (words (suc n)) b.event) (sym worker) y.wants) in λ i. record { worker = worker i; event = event i }

  one_play_from : (n : ℕ) (m : Moment) (run run' : List Pair) (last last' : Moment) (ending ending' : Ending) → IsLawful s m
      → Plays s limits words n m run last ending → Plays s limits words n m run' last' ending' → (run ≡ run') × (last ≡ last') × (ending ≡ ending')
  one_play_from n m run run' last last' ending ending' lawful (is_over a b has) (is_over a' b' has') = (refl, refl, refl)
  one_play_from n m run run' last last' ending ending' lawful (is_over a b has) (is_stopped a' b' pair' stop' turn' meets') = absurd (turn'.not_over has)
  one_play_from n m run run' last last' ending ending' lawful (is_over a b has) (goes_on a' b' next' l' pair' later' e' turn' none' may' rest') = absurd (turn'.not_over has)
  one_play_from n m run run' last last' ending ending' lawful (is_stopped a b pair stop turn meets) (is_over a' b' has') = absurd (turn.not_over has')
  one_play_from n m run run' last last' ending ending' lawful (is_stopped a b pair stop turn meets) (is_stopped a' b' pair' stop' turn' meets') =
      let same : pair ≡ pair' = one_turn n m lawful pair pair' turn turn' in
      (refl, refl, ap stopped (one_stop s limits m pair.event stop stop' meets (subst (λ p. Meets s limits m p.event stop') (sym same) meets')))
  one_play_from n m run run' last last' ending ending' lawful (is_stopped a b pair stop turn meets) (goes_on a' b' next' l' pair' later' e' turn' none' may' rest') =
      absurd (none' stop (subst (λ p. Meets s limits m p.event stop) (one_turn n m lawful pair pair' turn turn') meets))
  one_play_from n m run run' last last' ending ending' lawful (goes_on a b next l pair later e turn none may rest) (is_over a' b' has') = absurd (turn.not_over has')
  one_play_from n m run run' last last' ending ending' lawful (goes_on a b next l pair later e turn none may rest) (is_stopped a' b' pair' stop' turn' meets') =
      absurd (none stop' (subst (λ p. Meets s limits m p.event stop') (sym (one_turn n m lawful pair pair' turn turn')) meets'))
  one_play_from n m run run' last last' ending ending' lawful (goes_on a b next l pair later e turn none may rest) (goes_on a' b' next' l' pair' later' e' turn' none' may' rest') =
      let same : pair ≡ pair' = one_turn n m lawful pair pair' turn turn' in
      let moment : next' ≡ next = one_way s some list m next' next pair.worker pair.event lawful
      (subst (λ p. May s m p.worker p.event next') (sym same) may') may in
      let drawn : n + words_drawn m pair'.worker ≡ n + words_drawn m pair.worker = ap (λ p. n + words_drawn m p.worker) (sym same) in
      let again : Plays s limits words (n + words_drawn m pair.worker) next later' last' ending' =
      subst (λ k. Plays s limits words k next later' last' ending') drawn (subst (λ x. Plays s limits words (n + words_drawn m pair'.worker) x later' last' ending') moment rest') in
      let further = one_play_from (n + words_drawn m pair.worker) next later later' last last' ending ending' (kept s list m lawful pair.worker pair.event next may) rest again in
      (ap (λ p. p ∷ later) same ∙ ap (λ t. pair' ∷ t) further.0, further.1, further.2)

  -- one turn more in front leads to the same cause
  cause_after : (n : ℕ) (m next last : Moment) (pair : Pair) (later : List Pair) (ending : Ending) → Turn s words n m pair
      → ((stop : Stop) → ¬ Meets s limits m pair.event stop) → May s m pair.worker pair.event next
      → PlayHasCause s limits words (n + words_drawn m pair.worker) next later last ending → PlayHasCause s limits words n m (pair ∷ later) last ending
  cause_after n m next last pair later finished turn none may has = has
  cause_after n m next last pair later (stopped stop) turn none may cause =
      (cause.0, cause.1, cause.2, cause.3, takes_turn n m next last pair later cause.0 turn none may cause.4)

  cause_from : (n : ℕ) (m : Moment) (run : List Pair) (last : Moment) (ending : Ending) → Plays s limits words n m run last ending
      → PlayHasCause s limits words n m run last ending
  cause_from n m run last ending (is_over a b has) = has
  cause_from n m run last ending (is_stopped a b pair stop turn meets) = (n, pair, turn, meets, stays_here n m)
  cause_from n m run last ending (goes_on a b next l pair later e turn none may rest) =
      cause_after n m next last pair later ending turn none may (cause_from (n + words_drawn m pair.worker) next later last ending rest)

pub one_play : (s : Setting) → 0 < s.quota → IsDepthFirst s.quota s.list → OnePlay s
one_play s some list limits words run run' last last' ending ending' plays plays' =
    one_play_from s some list limits words 0 opening run run' last last' ending ending' (opening_is_lawful s list) plays plays'

pub endings_have_causes : (s : Setting) → 0 < s.quota → IsDepthFirst s.quota s.list → EndingsHaveCauses s
endings_have_causes s some list limits words run last ending plays = cause_from s some list limits words 0 opening run last ending plays
