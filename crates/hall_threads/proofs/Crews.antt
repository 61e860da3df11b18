-- The members of a crew, one by one and together.
use Rattle.std.proofs.Common.{◌≡◌, ℕ, suc, ◌+◌, ◌<◌, List, [], ◌∷◌, ◌++◌, length, take, drop, append-nil, refl, sym, ap, ◌∙◌, arith}
use Rattle.std.proofs.lemmas.List.Elements.{All-head, All-nil, All-cons, All-push, All-tail}
use Rattle.std.specs.Prelude.{All, slice_index_or}
use Rattle.std.specs.List.{AllZip}
use Rattle.node_table.specs.declared.node_table.NodeTable.{NodeTable}
use Rattle.play_rules.specs.declared.ends.RunEnd.{RunEnd}
use Rattle.work_loop.specs.declared.member.Member.{Member}
use Rattle.worker_entry.specs.declared.hall.Hall.{Hall}
use Rattle.worker_entry.specs.declared.seat.Seat.{Seat}
use Rattle.hall_threads.specs.Working.{HasWorkedIn}
use Rattle.hall_threads.specs.declared.worker.HallWorker.{HallWorker}
use Rattle.hall_threads.specs.Closed.{HasWorked}
use Rattle.hall_threads.specs.Crews.{AreLeft, HasItsEnd, IsCrew, IsFreshIn, IsOfCrew, IsToLeave, seat_of}

module _ {C : Type 0} (hall : Hall) where
  -- one member that has worked
  worked : (code : NodeTable) (before after : Member (HallWorker C) RunEnd) → IsFreshIn hall (seat_of before) → HasWorkedIn hall code before after
      → HasWorked hall before after
  worked code before after fresh w = record {
    has_end = record { is_in = w.again.1; end = w.end.0; ended = w.end.1; told = w.end.2; rules = λ finish is. w.same.yields ∙ fresh.rules };
    rules = w.same.yields ∙ fresh.rules;
    places = w.same.places;
  }

  -- all
  pub all_worked : (code : NodeTable) (xs ys : List (Member (HallWorker C) RunEnd)) → length ys ≡ length xs
      → All (λ member. IsFreshIn hall (seat_of member)) xs
      → ((i : ℕ) (d : Member (HallWorker C) RunEnd) → i < length xs → HasWorkedIn hall code (slice_index_or xs i d) (slice_index_or ys i d))
      → AllZip (HasWorked hall) xs ys
  all_worked code [] [] same fresh each = tt
  all_worked code [] (y ∷ ys) same fresh each = absurd (omega (arith, same))
  all_worked code (x ∷ xs) [] same fresh each = absurd (omega (arith, same))
  all_worked code (x ∷ xs) (y ∷ ys) same fresh each = (
    worked code x y (All-head (λ member. IsFreshIn hall (seat_of member)) x xs fresh) (each 0 x (omega arith)),
    all_worked code xs ys (omega (arith, same)) (All-tail (λ member. IsFreshIn hall (seat_of member)) x xs fresh) (λ i d low. each (suc i) d (omega (arith, low))),
  )

  -- those of a crew may leave
  to_leave : (before after : Member (HallWorker C) RunEnd) → HasWorked hall before after → IsOfCrew hall (seat_of before) → IsToLeave hall after
  to_leave before after w of = record { has_end = w.has_end; rules = w.rules; one = w.places ∙ of.one }

  all_to_leave : (xs ys : List (Member (HallWorker C) RunEnd)) → All (λ member. IsOfCrew hall (seat_of member)) xs → AllZip (HasWorked hall) xs ys
      → All (IsToLeave hall) ys
  all_to_leave [] [] of zip = All-nil (IsToLeave hall)
  all_to_leave [] (y ∷ ys) of zip = absurd zip
  all_to_leave (x ∷ xs) [] of zip = absurd zip
  all_to_leave (x ∷ xs) (y ∷ ys) of zip = All-cons (IsToLeave hall) y ys
      (to_leave x y zip.0 (All-head (λ member. IsOfCrew hall (seat_of member)) x xs of))
      (all_to_leave xs ys (All-tail (λ member. IsOfCrew hall (seat_of member)) x xs of) zip.1)

  -- the last one apart
  cut_last : (xs ys : List (Member (HallWorker C) RunEnd)) (x y : Member (HallWorker C) RunEnd) → AllZip (HasWorked hall) (xs ++ x ∷ []) (ys ++ y ∷ [])
      → AllZip (HasWorked hall) xs ys × HasWorked hall x y
  cut_last [] [] x y zip = (tt, zip.0)
  cut_last [] (b ∷ []) x y zip = absurd zip.1
  cut_last [] (b ∷ c ∷ ys) x y zip = absurd zip.1
  cut_last (a ∷ []) [] x y zip = absurd zip.1
  cut_last (a ∷ b ∷ xs) [] x y zip = absurd zip.1
  cut_last (a ∷ xs) (b ∷ ys) x y zip = let rest = cut_last xs ys x y zip.1 in ((zip.0, rest.0), rest.1)

  zip_length : (xs ys : List (Member (HallWorker C) RunEnd)) → AllZip (HasWorked hall) xs ys → length ys ≡ length xs
  zip_length [] [] zip = refl
  zip_length [] (y ∷ ys) zip = absurd zip
  zip_length (x ∷ xs) [] zip = absurd zip
  zip_length (x ∷ xs) (y ∷ ys) zip = ap suc (zip_length xs ys zip.1)

  -- a crew with its first member behind it is fresh,
  pub fresh_all : (first : Member (HallWorker C) RunEnd) (crew : List (Member (HallWorker C) RunEnd)) → IsCrew hall (seat_of first) crew
      → All (λ member. IsFreshIn hall (seat_of member)) (crew ++ first ∷ [])
  fresh_all first crew is = All-push (λ member. IsFreshIn hall (seat_of member)) crew first
      (λ i d low. (is.members i d low).fresh) is.first_one

  -- and once it has worked, all but one are to leave
  pub left : (first last : Member (HallWorker C) RunEnd) (crew rest : List (Member (HallWorker C) RunEnd)) → IsCrew hall (seat_of first) crew
      → AllZip (HasWorked hall) (crew ++ first ∷ []) (rest ++ last ∷ []) → AreLeft hall last rest
  left first last crew rest is zip = let cut = cut_last crew rest first last zip in record {
    members = all_to_leave crew rest is.members cut.0;
    stays_one = cut.1.has_end;
    all = let places = cut.1.places in let long = zip_length crew rest cut.0 in let all = is.all in omega (arith, places, long, all);
  }

  -- one more member
  pub crew_more : (before after : Seat) (member : Member (HallWorker C) RunEnd) (crew : List (Member (HallWorker C) RunEnd)) → IsCrew hall before crew
      → IsFreshIn hall after → IsOfCrew hall (seat_of member) → after.places + 1 ≡ before.places → IsCrew hall after (crew ++ member ∷ [])
  crew_more before after member crew is fresh of less = record {
    members = All-push (λ m. IsOfCrew hall (seat_of m)) crew member is.members of;
    first_one = fresh;
    all = let all = is.all in let long = Rattle.std.proofs.lemmas.List.length-append crew (member ∷ []) in omega (arith, all, long, less);
  }

  -- one that left
  pub left_more : (stays member next : Member (HallWorker C) RunEnd) (crew : List (Member (HallWorker C) RunEnd)) → AreLeft hall stays (member ∷ crew)
      → HasItsEnd hall next → (seat_of next).places ≡ (seat_of stays).places + 1 → AreLeft hall next crew
  left_more stays member next crew is has places = record {
    members = All-tail (IsToLeave hall) member crew is.members;
    stays_one = has;
    all = let all = is.all in omega (arith, all, places);
  }

  pub head_of : (stays member : Member (HallWorker C) RunEnd) (crew : List (Member (HallWorker C) RunEnd)) → AreLeft hall stays (member ∷ crew)
      → IsToLeave hall member
  head_of stays member crew is = All-head (IsToLeave hall) member crew is.members

  -- a crew that has worked is not empty
  pub some_left : (crew ys : List (Member (HallWorker C) RunEnd)) (first : Member (HallWorker C) RunEnd) → AllZip (HasWorked hall) (crew ++ first ∷ []) ys → 0 < length ys
  some_left [] [] first zip = absurd zip
  some_left [] (y ∷ ys) first zip = omega arith
  some_left (x ∷ crew) [] first zip = absurd zip
  some_left (x ∷ crew) (y ∷ ys) first zip = omega arith

-- a slice that is written back over a list of its length
drop_length : {X : Type 0} (xs : List X) → drop (length xs) xs ≡ []
drop_length [] = refl
drop_length (x ∷ xs) = drop_length xs

take_length : {X : Type 0} (xs : List X) → take (length xs) xs ≡ xs
take_length [] = refl
take_length (x ∷ xs) = ap (λ ys. x ∷ ys) (take_length xs)

pub written : {X : Type 0} (xs ws : List X) (n : ℕ) → n ≡ length xs → length ws ≡ length xs → take n (ws ++ drop (length ws) xs) ≡ ws
written xs ws n long same = ap (λ k. take n (ws ++ drop k xs)) same ∙ ap (λ zs. take n (ws ++ zs)) (drop_length xs) ∙ ap (take n) (append-nil ws)
    ∙ ap (λ k. take k ws) (long ∙ sym same) ∙ take_length ws
