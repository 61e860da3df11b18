-- What the books of a table are by the places of the depth-first list.
use Rattle.std.proofs.Common.{◌≡◌, ℕ, List, map, sym, subst}
use Rattle.std.specs.List.{AllZip}
use Rattle.std.proofs.Math.Logic.{∥∥₁_elim, ∥∥₁_map, ∥∥₁_prop}
use Rattle.dag_order.specs.declared.action_id.ActionId.{ActionId}
use Rattle.dag_order.specs.declared.birth.Birth.{Birth}
use Rattle.depth_first_list.proofs.ThreadLaws.{names_differ}
use Rattle.depth_first_run.specs.States.{Setting, State, Item}
use Rattle.depth_first_run.specs.Run.{whole, actions_of, list_of}
use Rattle.depth_first_run.proofs.Built.{whole_is_depth_first}
use Rattle.deque_machine.specs.Books.{Book}
use Rattle.deque_machine.specs.Lists.{Each}
use Rattle.deque_machine.proofs.Lists.{each_from, each_among}
use Rattle.open_periods.specs.Periods.{Period}
use Rattle.open_periods.specs.declared.table.PeriodTable.{PeriodTable}
use Rattle.open_periods.specs.Tables.{periods_of}
use Rattle.serial_journal.specs.declared.serial.Serial.{Serial}
use Rattle.serial_journal.specs.Telling.{Tells}
use Rattle.prefix_laws.specs.declared.names.Name.{Name}
use Rattle.prefix_laws.specs.Listing.{AreBooked, AreListed, born_in, ran_in}
use Rattle.prefix_laws.specs.Naming.{name_shown, ArePlaced, IsKnown}
use Rattle.prefix_laws.specs.Prefixes.{StandsBeside, TellsDepthFirst, ran_of}
use Rattle.prefix_laws.proofs.Naming.{places_are, all_known}
use Rattle.prefix_laws.proofs.Sorting.{listed_at}

module _ (table : PeriodTable) (serial : Serial) (beside : StandsBeside table serial) where
  -- the run tells the items of some program
  pub some_items : ∥ ((items : List Item) × Tells items serial) ∥₁
  some_items = ∥∥₁_map beside (λ p. (State.items (whole p.0), p.3))

  -- and its periods are listed
  pub beside_listed : ∥ ((sorted : List Period) × AreListed table sorted) ∥₁
  beside_listed = ∥∥₁_map beside (λ p. (p.2.tell.sorted, listed_at p.0 table p.1 p.2))

  module _ (births : List (List Birth)) (born : (sorted : List Period) → AreListed table sorted → births ≡ map born_in sorted)
      (ran : List (List ActionId)) (ran_so : (sorted : List Period) → AreListed table sorted → ran ≡ map ran_in sorted)
      (names : List Name) (named : (items : List Item) → Tells items serial → names ≡ map name_shown (actions_of items)) where
    known_at : (c : Setting) (books : List Book) → AreBooked c table books → TellsDepthFirst c serial → Each (Each (IsKnown births names)) ran
    known_at c books b tells =
        let tell = b.tell in let listed = listed_at c table books b in
        subst (λ bs. Each (Each (IsKnown bs names)) ran) (sym (born tell.sorted listed))
        (subst (λ ns. Each (Each (IsKnown (map born_in tell.sorted) ns)) ran) (sym (named (State.items (whole c)) tells))
        (subst (Each (Each (IsKnown (map born_in tell.sorted) (map name_shown (list_of c))))) (sym (ran_so tell.sorted listed))
        (all_known c.quota (list_of c) (periods_of table) books tell)))

    -- so each action of the books is known
    pub names_known : Each (Each (IsKnown births names)) ran
    names_known = each_from (Each (IsKnown births names)) ran (λ ids ids_there. each_from (IsKnown births names) ids (λ id id_there.
        ∥∥₁_elim beside ∥∥₁_prop (λ w.
        each_among (IsKnown births names) id ids (each_among (Each (IsKnown births names)) ids ran (known_at w.0 w.1 w.2 w.3) ids_there) id_there)))

    -- and the places are those of the books
    pub places_at : (c : Setting) (books : List Book) → AreBooked c table books → TellsDepthFirst c serial → (all : List (List ℕ))
        → AllZip (ArePlaced births names) ran all → all ≡ map ran_of books
    places_at c books b tells all so =
        let tell = b.tell in let listed = listed_at c table books b in
        places_are c.quota (list_of c) (periods_of table) books tell (names_differ c.quota (list_of c) (whole_is_depth_first c)) all
        (subst (λ rs. AllZip (ArePlaced (map born_in tell.sorted) (map name_shown (list_of c))) rs all) (ran_so tell.sorted listed)
        (subst (λ ns. AllZip (ArePlaced (map born_in tell.sorted) ns) ran all) (named (State.items (whole c)) tells)
        (subst (λ bs. AllZip (ArePlaced bs names) ran all) (born tell.sorted listed) so)))
