-- The lanes after a theft.
use Rattle.std.proofs.Common.{◌≡◌, ◌≢◌, ℕ, List, [], ◌∷◌, ◌++◌, inl, sym, subst, ◌∙◌}
use Rattle.std.proofs.lemmas.Option.{none-some}
use Rattle.std.specs.Prelude.{Option, None, Some, slice_get, slice_set}
use Rattle.deque_list.specs.declared.deque_id.DequeId.{DequeId}
use Rattle.deque_list.specs.declared.place.Place.{Place}
use Rattle.deque_machine.specs.Lists.{Among, Each}
use Rattle.deque_machine.proofs.Lists.{each_from, each_among, each_left, each_right, each_join, each_at, among_here, among_wider}
use Rattle.hall_machine.specs.Values.{End}
use Rattle.hall_machine.specs.Writing.{place_of}
use Rattle.hall_machine.proofs.Lanes.{IsElsewhere}
use Rattle.hall_machine.specs.Views.{View}
use Rattle.hall_machine.specs.Points.{IsExcused, LaneAtPoints}
use Rattle.hall_interleavings.proofs.Excuses.{all_at, excuse_more, none_excused, excused_with}

module _ {T : Type 0} (At : T → Type 0) (views : List View) (kept : Option End) (places : List Place) (lanes : DequeId → List T)
    (were : Each (λ place. LaneAtPoints At (IsExcused views kept place.owner) (lanes place.id)) places) where
  lane_at_place : (place : Place) → Among place places → LaneAtPoints At (IsExcused views kept place.owner) (lanes place.id)
  lane_at_place place there = each_among (λ p. LaneAtPoints At (IsExcused views kept p.owner) (lanes p.id)) place places were there

  pub unowned_at : (id : DequeId) → Among (place_of id None) places → kept ≡ None → Each At (lanes id)
  unowned_at id there none = none_excused At (IsExcused views kept None) (λ excused. none-some excused.0 (sym none ∙ excused.1)) (lanes id) (lane_at_place (place_of id None) there)

  -- ---- a thief notes its worker and what it found

  module _ (seat : ℕ) (v note : View) (noted : slice_get views seat ≡ Some v) (worker : note.worker ≡ v.worker) (left_so : note.left ≡ v.left) (found : note.found ≡ v.found)
      (kept_now : Option End) (keeps : kept_now ≡ kept) where
    abbrev views_now : List View
    views_now = slice_set views seat note

    excuse : (owner : Option ℕ) → IsExcused views kept owner → IsExcused views_now kept_now owner
    excuse owner excused = excused_with views seat v note kept kept_now owner noted (λ stays memory its. (worker, left_so ∙ stays, found ∙ memory)) (λ end is. keeps ∙ is) excused

    module _ (left right : List Place) (victim : Place) (are : places ≡ left ++ victim ∷ right) (alone : Each (IsElsewhere victim.id.0) (left ++ right)) (id : DequeId)
        (lanes_now : DequeId → List T) where
      abbrev Now : Place → Type 0
      Now place = LaneAtPoints At (IsExcused views_now kept_now place.owner) (lanes_now place.id)

      -- the victim keeps other threads
      module _ (free : Each (λ place. place.id.0 ≢ id.0) places) (first bottom : T) (others : List T) (before : lanes victim.id ≡ first ∷ (others ++ bottom ∷ []))
          (after : lanes_now victim.id ≡ first ∷ others) (new : lanes_now id ≡ bottom ∷ [])
          (same : (other : DequeId) → other.0 ≢ victim.id.0 → other.0 ≢ id.0 → lanes_now other ≡ lanes other) where
        others_now : Each Now (left ++ right)
        others_now = each_from Now (left ++ right) (λ place there.
            let among = subst (Among place) (sym are) (among_wider place left victim right there) in
            subst (LaneAtPoints At (IsExcused views_now kept_now place.owner)) (sym (same place.id (each_among (IsElsewhere victim.id.0) place (left ++ right) alone there)
            (each_among (λ p. p.id.0 ≢ id.0) place places free among)))
            (excuse_more At (IsExcused views kept place.owner) (IsExcused views_now kept_now place.owner) (excuse place.owner) (lanes place.id) (lane_at_place place among)))

        victim_there : Among victim places
        victim_there = subst (Among victim) (sym are) (among_here victim left right)

        victim_was : LaneAtPoints At (IsExcused views kept victim.owner) (first ∷ (others ++ bottom ∷ []))
        victim_was = subst (LaneAtPoints At (IsExcused views kept victim.owner)) before (lane_at_place victim victim_there)

        pub stolen_beside : (thief : Option ℕ) → Each Now (left ++ victim ∷ place_of id thief ∷ right)
        stolen_beside thief = each_join Now left (victim ∷ place_of id thief ∷ right) (each_left Now left right others_now) (
          subst (LaneAtPoints At (IsExcused views_now kept_now victim.owner)) (sym after)
              (excuse_more At (IsExcused views kept victim.owner) (IsExcused views_now kept_now victim.owner) (excuse victim.owner) (first ∷ others)
              (victim_was.0, each_left At others (bottom ∷ []) victim_was.1)),
          (
            subst (LaneAtPoints At (IsExcused views_now kept_now thief)) (sym new) (inl (each_at At others bottom [] victim_was.1), tt),
            each_right Now left right others_now,
          ),
        )

    -- or is taken over
    abbrev Still : Place → Type 0
    Still place = LaneAtPoints At (IsExcused views_now kept_now place.owner) (lanes place.id)

    excused_all : Each Still places
    excused_all = each_from Still places (λ place there.
        excuse_more At (IsExcused views kept place.owner) (IsExcused views_now kept_now place.owner) (excuse place.owner) (lanes place.id) (lane_at_place place there))

    pub taken_over : (left right : List Place) (id : DequeId) (thief : Option ℕ) → places ≡ left ++ place_of id None ∷ right → kept ≡ None
        → Each Still (left ++ place_of id thief ∷ right)
    taken_over left right id thief are none =
        let all : Each Still (left ++ place_of id None ∷ right) = subst (Each Still) are excused_all in
        each_join Still left (place_of id thief ∷ right) (each_left Still left (place_of id None ∷ right) all) (
          all_at At (IsExcused views_now kept_now thief) (lanes id)
              (unowned_at id (subst (Among (place_of id None)) (sym are) (among_here (place_of id None) left right)) none),
          (each_right Still left (place_of id None ∷ right) all).1,
        )
