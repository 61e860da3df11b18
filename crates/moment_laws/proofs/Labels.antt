-- Labels stay with each event, and so moves keep their names; where nothing is done the results stay.
use Rattle.std.proofs.Common.{◌≡◌, ℕ, List, [], ◌∷◌, ◌++◌, refl, sym, ◌∙◌, append-nil}
use Rattle.open_periods.specs.Passed.ThreadId.{ThreadId}
use Rattle.open_periods.specs.Passed.Actions.{Action}
use Rattle.open_periods.specs.Passed.Books.{Book}
use Rattle.open_periods.specs.Passed.Moved.{Moved}
use Rattle.open_periods.specs.Periods.{Period}
use Rattle.open_periods.specs.Names.{HasLabel}
use Rattle.open_periods.specs.Telling.{Tell}
use Rattle.open_periods.proofs.Labels.{labels_stay, labels_stay_at_a_beginning}
use Rattle.moment_shown.specs.Parts.{Parts}
use Rattle.moment_shown.specs.Events as events
use Rattle.moment_shown.specs.Events.{Does, does_alone, runs_dummy, joins_newest, forks_child, ends_above, ends_and_wakes, ends_and_leaves, GivesUp, Suspends, Steals}
use Rattle.moment_laws.specs.Moves.{AreMovesOf}

-- moves keep their names where labels stay
pub moves_stay : (before after : List Period) → ((id : ThreadId) (label : List ℕ) → HasLabel before id label → HasLabel after id label)
    → (ms : List Moved) (actions : List Action) → AreMovesOf before ms actions → AreMovesOf after ms actions
moves_stay before after stays [] [] are = tt
moves_stay before after stays [] (a ∷ actions) are = absurd are
moves_stay before after stays (m ∷ ms) [] are = absurd are
moves_stay before after stays (m ∷ ms) (a ∷ actions) are =
    (record { by = stays m.by.by a.label are.0.by; index = are.0.index; change = are.0.change }, moves_stay before after stays ms actions are.1)

pub moves_join : (periods : List Period) (ms ns : List Moved) (xs ys : List Action) → AreMovesOf periods ms xs → AreMovesOf periods ns ys
    → AreMovesOf periods (ms ++ ns) (xs ++ ys)
moves_join periods [] ns [] ys first second = second
moves_join periods [] ns (x ∷ xs) ys first second = absurd first
moves_join periods (m ∷ ms) ns [] ys first second = absurd first
moves_join periods (m ∷ ms) ns (x ∷ xs) ys first second = (first.0, moves_join periods ms ns xs ys first.1 second)

-- labels stay behind what an action notes
pub does_keeps_labels : (k : ℕ) (l : List Action) (before : Parts) (worker place : ℕ) (next : Parts) (books : List Book) → Tell k l before.periods books
    → Does k l before worker place next → (id : ThreadId) (label : List ℕ) → HasLabel before.periods id label → HasLabel next.periods id label
does_keeps_labels k l before worker place next books tell (does_alone o deed new periods is_next may acted children words notes) id label has =
    labels_stay k l before.periods periods books o.period notes.after [] id label tell notes.replaces notes.born has
does_keeps_labels k l before worker place next books tell (runs_dummy o new periods is_next acted children words notes) id label has =
    labels_stay k l before.periods periods books o.period notes.after [] id label tell notes.replaces notes.born has
does_keeps_labels k l before worker place next books tell (joins_newest o newest older new periods children given is_next acted are words notes) id label has =
    labels_stay k l before.periods periods books o.period notes.after [] id label tell notes.replaces notes.born has
does_keeps_labels k l before worker place next books tell (forks_child o ordinal func new child periods is_next fits acted cid parent clabel done func_is none children words notes) id label has =
    labels_stay k l before.periods periods books o.period notes.after _ id label tell notes.replaces notes.born has
does_keeps_labels k l before worker place next books tell (ends_above o parent below result periods is_next under left_by notes) id label has =
    labels_stay k l before.periods periods books o.period notes.after [] id label tell notes.replaces notes.born has
does_keeps_labels k l before worker place next books tell (ends_and_wakes o older later parent newest others result periods is_next under waiting children newest_is left_by notes) id label has =
    labels_stay k l before.periods periods books o.period notes.after [] id label tell notes.replaces notes.born has
does_keeps_labels k l before worker place next books tell (ends_and_leaves o result periods is_next under unwaited left_by notes) id label has =
    labels_stay k l before.periods periods books o.period notes.after [] id label tell notes.replaces notes.born has

-- labels stay where a period is closed, and where one begins
pub give_up_keeps_labels : (k : ℕ) (l : List Action) (before : Parts) (worker : ℕ) (next : Parts) (books : List Book)
    → Tell k l before.periods books → GivesUp before worker next
    → (id : ThreadId) (label : List ℕ) → HasLabel before.periods id label → HasLabel next.periods id label
give_up_keeps_labels k l before worker next books tell (events.gives_up_deque o periods shuts) id label has =
    labels_stay k l before.periods periods books o.period shuts.after [] id label tell shuts.replaces (shuts.closes.same_born ∙ sym (append-nil o.period.born)) has

pub wait_keeps_labels : (k : ℕ) (l : List Action) (before : Parts) (worker : ℕ) (next : Parts) (books : List Book)
    → Tell k l before.periods books → Suspends l before worker next
    → (id : ThreadId) (label : List ℕ) → HasLabel before.periods id label → HasLabel next.periods id label
wait_keeps_labels k l before worker next books tell (events.suspends_top o place newest older periods is_next children missing unkept under shuts) id label has =
    labels_stay k l before.periods periods books o.period shuts.after [] id label tell shuts.replaces (shuts.closes.same_born ∙ sym (append-nil o.period.born)) has

pub theft_keeps_labels : (workers so_far : ℕ) (before : Parts) (worker place id : ℕ) (next : Parts) → Steals workers so_far before worker place id next
    → (x : ThreadId) (label : List ℕ) → HasLabel before.periods x label → HasLabel next.periods x label
theft_keeps_labels workers so_far before worker place id next (events.steals_beside left right victim first others bottom new periods below none reach are threads new_id begins) x label has =
    labels_stay_at_a_beginning before.periods periods begins.new x label begins.adds has
theft_keeps_labels workers so_far before worker place id next (events.takes_over left right thread same periods below none reach are begins) x label has =
    labels_stay_at_a_beginning before.periods periods begins.new x label begins.adds has

-- the results stay
pub give_up_keeps_results : (before : Parts) (worker : ℕ) (next : Parts) → GivesUp before worker next → next.results ≡ before.results
give_up_keeps_results before worker next (events.gives_up_deque o periods shuts) = refl

pub wait_keeps_results : (l : List Action) (before : Parts) (worker : ℕ) (next : Parts) → Suspends l before worker next → next.results ≡ before.results
wait_keeps_results l before worker next (events.suspends_top o place newest older periods is_next children missing unkept under shuts) = refl

pub theft_keeps_results : (workers so_far : ℕ) (before : Parts) (worker place id : ℕ) (next : Parts) → Steals workers so_far before worker place id next → next.results ≡ before.results
theft_keeps_results workers so_far before worker place id next (events.steals_beside left right victim first others bottom new periods below none reach are threads new_id begins) = refl
theft_keeps_results workers so_far before worker place id next (events.takes_over left right thread same periods below none reach are begins) = refl
