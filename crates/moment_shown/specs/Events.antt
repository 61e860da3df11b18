-- What an event of the machine does to the parts.
use Rattle.std.specs.Prelude.{◌≡◌, ◌≢◌, ℕ, suc, ◌+◌, ◌<◌, ◌≤◌, ◌⊎◌, Bool, true, false, nat_lt, Option, None, Some, List, [], ◌∷◌, ◌++◌, length, pos, ◌+ℤ◌}
use Rattle.open_periods.specs.Passed.Birth.{Birth}
use Rattle.open_periods.specs.Passed.ActionId.{ActionId}
use Rattle.open_periods.specs.Passed.LabelOrder.{fork_of}
use Rattle.open_periods.specs.Passed.Actions.{Deed, forks, joins, allocates, releases, dummy, faults, ends, Action, record_words}
use Rattle.open_periods.specs.Passed.Facts.{label_at, index_at, deed_at, words_at, weight_at}
use Rattle.deque_machine.specs.Lists.{Among, Each}
use Rattle.deque_machine.specs.Books.{charge_at}
use Rattle.open_periods.specs.Periods.{Period, Adds, Replaces}
use Rattle.open_periods.specs.Names.{id_of}
use Rattle.open_periods.specs.Laws.{Closes}
use Rattle.moment_shown.specs.Parts.{Child, Thread, Result, Deque, Parts}

-- the deque of a worker, with what is left and right of it, and the period that is open for the worker
pub record Works (parts : Parts) (worker : ℕ) : Type 0 where
  pub left : List Deque
  pub id : ℕ
  pub top : Thread
  pub under : List Thread
  pub right : List Deque
  pub period : Period
  pub deques_are : parts.deques ≡ left ++ record { id = id; owner = Some worker; threads = top ∷ under } ∷ right
  pub period_there : Among period parts.periods
  pub open_for_it : period.owner ≡ Some worker

-- the deques with other threads, and perhaps no owner, in the place of the worker's
abbrev pub deques_with : {parts : Parts} {worker : ℕ} → Works parts worker → Option ℕ → List Thread → List Deque
deques_with o owner threads = o.left ++ record { id = o.id; owner = owner; threads = threads } ∷ o.right

-- the action at a place of the list is the next one of a thread, and does this
pub record IsNextOf (l : List Action) (x : Thread) (place : ℕ) (deed : Deed) : Type 0 where
  pub inside : place < length l
  pub by : label_at l place ≡ x.label
  pub index : index_at l place ≡ x.done
  pub does : deed_at l place ≡ deed

-- a thread has done one action more
pub record HasActed (old new : Thread) : Type 0 where
  pub same_id : new.id ≡ old.id
  pub same_parent : new.parent ≡ old.parent
  pub same_label : new.label ≡ old.label
  pub same_func : new.func ≡ old.func
  pub one_more : new.done ≡ suc old.done

-- the name of the next action of a thread
abbrev pub name_of : Thread → ActionId
name_of x = record { by = x.id; index = x.done }

-- the action at a place is written into the worker's period, which stays open or is closed, with the births that came with it
pub record Notes (k : ℕ) (l : List Action) {parts : Parts} {worker : ℕ} (o : Works parts worker) (place : ℕ) (births : List Birth)
    (owner : Option ℕ) (next : List Period) : Type 0 where
  pub after : Period
  pub replaces : Replaces parts.periods o.period after next
  pub same_ahead : after.ahead ≡ o.period.ahead
  pub owner_is : after.owner ≡ owner
  pub ran : after.ran ≡ o.period.ran ++ name_of o.top ∷ []
  pub born : after.born ≡ o.period.born ++ births
  pub used : (w : ℕ) → after.owner ≡ Some w → after.used ≡ o.period.used + charge_at k l place

-- an action that the thread does by itself, where its period may still take so many words
abbrev pub MayDo : (k used : ℕ) → Deed → (words : ℕ) → Type 0
MayDo k used (forks child) words = ⊥
MayDo k used (joins child) words = ⊥
MayDo k used allocates words = ((words ≤ k) × (used + words ≤ k)) ⊎ (k < words)
MayDo k used releases words = Unit {0}
MayDo k used dummy words = ⊥
MayDo k used faults words = Unit {0}
MayDo k used ends words = ⊥

-- an ended thread leaves its result, without the words of its record
pub record IsLeftBy (l : List Action) (x : Thread) (place : ℕ) (result : Result) : Type 0 where
  pub same_id : result.id ≡ x.id
  pub same_label : result.label ≡ x.label
  pub same_func : result.func ≡ x.func
  pub words : result.words + words_at l place ≡ x.words

-- `Does k l parts worker place next`: the worker's top thread does the action at a place, and then the parts are `next`
pub data Does (k : ℕ) (l : List Action) (parts : Parts) (worker place : ℕ) : Parts → Type 0 where
  -- an Alloc, a Release or a Fault
  does_alone : (o : Works parts worker) (deed : Deed) (new : Thread) (periods : List Period) → IsNextOf l o.top place deed
      → MayDo k o.period.used deed (words_at l place) → HasActed o.top new → new.children ≡ o.top.children
      → pos new.words ≡ pos o.top.words +ℤ weight_at l place → Notes k l o place [] (Some worker) periods
      → Does k l parts worker place (record parts { deques = deques_with o (Some worker) (new ∷ o.under); periods = periods })
  -- a Dummy: the period ends, and the deque stays without an owner
  runs_dummy : (o : Works parts worker) (new : Thread) (periods : List Period) → IsNextOf l o.top place dummy
      → HasActed o.top new → new.children ≡ o.top.children → new.words ≡ o.top.words → Notes k l o place [] None periods
      → Does k l parts worker place (record parts { deques = deques_with o None (new ∷ o.under); periods = periods })
  -- the Join of the newest open child, whose result was handed to the thread
  joins_newest : (o : Works parts worker) (newest : Child) (older : List Child) (new : Thread) (periods : List Period)
      → o.top.children ≡ newest ∷ older → newest.delivered ≡ true → IsNextOf l o.top place (joins newest.ordinal)
      → HasActed o.top new → new.children ≡ older → pos new.words ≡ pos o.top.words +ℤ weight_at l place
      → Notes k l o place [] (Some worker) periods
      → Does k l parts worker place (record parts { deques = deques_with o (Some worker) (new ∷ o.under); periods = periods })
  -- a Fork: the child is put on top
  forks_child : (o : Works parts worker) (ordinal : ℕ) (func : Option ℕ) (new child : Thread) (periods : List Period)
      → IsNextOf l o.top place (forks ordinal) → o.period.used + record_words ≤ k → HasActed o.top new
      → child.id ≡ id_of o.period (length o.period.born) → child.parent ≡ Some o.top.id → child.label ≡ fork_of o.top.label ordinal
      → child.done ≡ 0 → child.func ≡ func → child.children ≡ []
      → new.children ≡ record { id = child.id; ordinal = ordinal; func = func; delivered = false } ∷ o.top.children
      → new.words + child.words ≡ o.top.words + record_words
      → Notes k l o place (record { parent = o.top.id; ordinal = ordinal } ∷ []) (Some worker) periods
      → Does k l parts worker place (record parts { deques = deques_with o (Some worker) (child ∷ new ∷ o.under); periods = periods })
  -- The End of a thread, whose result is kept. With its parent directly below, this runs next.
  ends_above : (o : Works parts worker) (parent : Thread) (below : List Thread) (result : Result) (periods : List Period)
      → IsNextOf l o.top place ends → o.under ≡ parent ∷ below → IsLeftBy l o.top place result → Notes k l o place [] (Some worker) periods
      → Does k l parts worker place
      (record parts { deques = deques_with o (Some worker) o.under; results = result ∷ parts.results; periods = periods })
  -- a parent that waits for it takes its place
  ends_and_wakes : (o : Works parts worker) (before later : List Thread) (parent : Thread) (newest : Child) (older : List Child)
      (result : Result) (periods : List Period) → IsNextOf l o.top place ends → o.under ≡ []
      → parts.waiting ≡ before ++ parent ∷ later → parent.children ≡ newest ∷ older → newest.id ≡ o.top.id
      → IsLeftBy l o.top place result → Notes k l o place [] (Some worker) periods
      → Does k l parts worker place (record {
        deques = deques_with o (Some worker) (parent ∷ []);
        waiting = before ++ later;
        results = result ∷ parts.results;
        periods = periods;
      })
  -- else the deque leaves the list, and the period ends
  ends_and_leaves : (o : Works parts worker) (result : Result) (periods : List Period) → IsNextOf l o.top place ends → o.under ≡ []
      → Each (λ x. (newest : Child) (older : List Child) → x.children ≡ newest ∷ older → o.top.parent ≡ Some x.id → newest.id ≢ o.top.id)
      parts.waiting
      → IsLeftBy l o.top place result → Notes k l o place [] None periods
      → Does k l parts worker place
      (record parts { deques = o.left ++ o.right; results = result ∷ parts.results; periods = periods })

-- the worker's period is closed
pub record Shuts {parts : Parts} {worker : ℕ} (o : Works parts worker) (next : List Period) : Type 0 where
  pub after : Period
  pub replaces : Replaces parts.periods o.period after next
  pub closes : Closes o.period after

-- the worker gives its deque up, which stays without an owner
pub data GivesUp (parts : Parts) (worker : ℕ) : Parts → Type 0 where
  gives_up_deque : (o : Works parts worker) (periods : List Period) → Shuts o periods
      → GivesUp parts worker (record parts { deques = deques_with o None (o.top ∷ o.under); periods = periods })

-- the top thread waits for its newest open child, whose result was not handed to it and is not kept
pub data Suspends (l : List Action) (parts : Parts) (worker : ℕ) : Parts → Type 0 where
  suspends_top : (o : Works parts worker) (place : ℕ) (newest : Child) (older : List Child) (periods : List Period)
      → IsNextOf l o.top place (joins newest.ordinal) → o.top.children ≡ newest ∷ older → newest.delivered ≡ false
      → Each (λ result. result.id ≢ newest.id) parts.results → o.under ≡ [] → Shuts o periods
      → Suspends l parts worker (record parts { deques = o.left ++ o.right; waiting = o.top ∷ parts.waiting; periods = periods })

-- a period begins for a worker, which has the next number and is marked or not
pub record Begins (parts : Parts) (worker : ℕ) (ahead : Bool) (number : ℕ) (next : List Period) : Type 0 where
  pub new : Period
  pub adds : Adds parts.periods new next
  pub numbered : new.number ≡ suc number
  pub owner : new.owner ≡ Some worker
  pub marked : new.ahead ≡ ahead
  pub unused : new.used ≡ 0
  pub ran_nothing : new.ran ≡ []
  pub bore_none : new.born ≡ []

-- `Steals workers parts worker place id next`: the worker, which owns no deque, takes the bottom thread of the deque at a place
pub data Steals (workers periods_so_far : ℕ) (parts : Parts) (worker : ℕ) : (place id : ℕ) → Parts → Type 0 where
  -- into a new deque to the right of the victim, which keeps its other threads
  steals_beside : (left right : List Deque) (victim : Deque) (first : Thread) (others : List Thread) (bottom : Thread) (id : ℕ)
      (periods : List Period) → worker < workers → Each (λ deque. deque.owner ≢ Some worker) parts.deques → length left < workers
      → parts.deques ≡ left ++ victim ∷ right → victim.threads ≡ first ∷ (others ++ bottom ∷ [])
      → Each (λ deque. deque.id ≢ id) parts.deques → Begins parts worker true periods_so_far periods
      → Steals workers periods_so_far parts worker (length left) id (record parts {
        deques = left ++ record { id = victim.id; owner = victim.owner; threads = first ∷ others }
            ∷ record { id = id; owner = Some worker; threads = bottom ∷ [] } ∷ right;
        periods = periods;
      })
  -- a deque without an owner that holds one thread is taken over
  takes_over : (left right : List Deque) (thread : Thread) (id : ℕ) (periods : List Period) → worker < workers
      → Each (λ deque. deque.owner ≢ Some worker) parts.deques → length left < workers
      → parts.deques ≡ left ++ record { id = id; owner = None; threads = thread ∷ [] } ∷ right
      → Begins parts worker (nat_lt 0 (length left)) periods_so_far periods
      → Steals workers periods_so_far parts worker (length left) id (record parts {
        deques = left ++ record { id = id; owner = Some worker; threads = thread ∷ [] } ∷ right;
        periods = periods;
      })

-- a kept result is handed to the worker's top thread, one of whose open children it is of; this is no event
pub data HandsOver (parts : Parts) (worker : ℕ) : Parts → Type 0 where
  hands_over : (o : Works parts worker) (before later : List Result) (result : Result) (front back : List Child) (child : Child)
      (new : Thread) → parts.results ≡ before ++ result ∷ later → o.top.children ≡ front ++ child ∷ back → child.id ≡ result.id
      → new.id ≡ o.top.id → new.parent ≡ o.top.parent → new.label ≡ o.top.label → new.func ≡ o.top.func → new.done ≡ o.top.done
      → new.children ≡ front ++ record { id = child.id; ordinal = child.ordinal; func = child.func; delivered = true } ∷ back
      → new.words ≡ o.top.words + result.words
      → HandsOver parts worker (record parts { deques = deques_with o (Some worker) (new ∷ o.under); results = before ++ later })
