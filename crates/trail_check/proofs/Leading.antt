-- An event that came leads on if the limits hold after it.
use Rattle.std.proofs.Common.{◌≡◌, ℕ, ◌+◌, ◌≤◌, List, [], ◌∷◌, ◌++◌, length, Bool, true, false, true≢false, ◌↔◌, refl, sym, ap, subst, ◌∙◌, arith, ℤ, pos, negsuc, ◌≤ℤ◌}
use Rattle.std.proofs.lemmas.Int.{ints}
use Rattle.std.proofs.lemmas.List.{length-map}
use Rattle.deque_machine.specs.Books.{booked}
use Rattle.deque_machine.specs.Moments.{Moment, live_at}
use Rattle.deque_machine.specs.Machine.{Setting, Event, May}
use Rattle.deque_machine.specs.Play.{Limits}
use Rattle.deque_machine.specs.Runs.{Pair}
use Rattle.trail_meaning.specs.declared.trail_event.TrailEvent.{TrailEvent}
use Rattle.trail_check.specs.Following.{Tells, IsWithin, pair_of}
use Rattle.trail_check.specs.Verdicts.{LeadsNowhere}
use Rattle.trail_check.proofs.Steps.{one_lead}
use Rattle.trail_check.specs.declared.checker.Checker.{Checker}
use Rattle.trail_check.specs.Places.{deque_shown}
use Rattle.trail_check.specs.Standing.{StandsFor}
use Rattle.trail_check.specs.Steps.{Came, Followed}

-- a number that is not less
above : (z : ℤ) → (n : ℕ) × (z ≤ℤ pos n)
above (pos n) = (n, omega (arith, ints))
above (negsuc n) = (0, omega (arith, ints))

-- limits that hold at two moments
both_within : (s : Setting) (limits : Limits) (next other : Moment) → IsWithin s limits other → (wide : Limits) × IsWithin s wide next × IsWithin s wide other
both_within s limits next other within =
    let top = above (live_at s.list next) in (
      record { capacity = limits.capacity + top.0; actions = limits.actions + length (booked next.books); deques = limits.deques + length next.deques },
      record { words = raised (live_at s.list next) top.0 limits.capacity top.1; actions = omega arith; deques = omega arith },
      record {
        words = raised_too (live_at s.list other) limits.capacity top.0 within.words;
        actions = let a = within.actions in omega (arith, a);
        deques = let d = within.deques in omega (arith, d);
      },
    )
  where
    raised : (x : ℤ) (n k : ℕ) → x ≤ℤ pos n → x ≤ℤ pos (k + n)
    raised x n k le = omega (arith, ints)

    raised_too : (x : ℤ) (k n : ℕ) → x ≤ℤ pos k → x ≤ℤ pos (k + n)
    raised_too x k n le = omega (arith, ints)

-- an event that may come leads to one moment, so if that is not within the limits it leads nowhere
pub over_limits : (s : Setting) (limits : Limits) (run : List Pair) (m : Moment) (c : Checker) → StandsFor s limits run m c → (told : TrailEvent) (event : Event) (next : Moment)
    → Tells m told.kind event → May s m told.worker event next → ¬ IsWithin s limits next → LeadsNowhere s limits m told
over_limits s limits run m c stands told event next tells may out = λ other after leads.
    let wide = both_within s limits next after leads.within in
    let same = one_lead s (stands.knows).some (stands.knows).depth_first wide.0 m stands.lawful told event other next after
    (record { tells = tells; may = may; within = wide.1 }) (record { tells = leads.tells; may = leads.may; within = wide.2 }) in
    out (subst (IsWithin s limits) (sym same.1) leads.within)

-- the limits, by the checker's numbers
module _ (s : Setting) (limits : Limits) (run : List Pair) (m : Moment) (c : Checker) (stands : StandsFor s limits run m c) where
  size : length m.deques ≡ length c.deques.deques
  size = ap length (stands.places).deques_are ∙ length-map c.deques.deques (deque_shown s.list)

  pub is_within : c.tally.live ≤ℤ pos c.arena → c.tally.actions ≤ c.steps → length c.deques.deques ≤ c.most → IsWithin s limits m
  is_within words actions deques = record {
    words = subst (λ n. live_at s.list m ≤ℤ pos n) (sym (stands.knows).capacity) (subst (λ z. z ≤ℤ pos c.arena) (stands.tally).live words);
    actions = let a = (stands.knows).steps in let b = (stands.tally).actions in omega (arith, a, b, actions);
    deques = let a = (stands.knows).most in let b = size in omega (arith, a, b, deques);
  }

  pub within_is : IsWithin s limits m → (c.tally.live ≤ℤ pos c.arena) × (c.tally.actions ≤ c.steps) × (length c.deques.deques ≤ c.most)
  within_is within = (
    subst (λ z. z ≤ℤ pos c.arena) (sym (stands.tally).live) (subst (λ n. live_at s.list m ≤ℤ pos n) (stands.knows).capacity within.words),
    let x = within.actions in let a = (stands.knows).steps in let b = (stands.tally).actions in omega (arith, a, b, x),
    let x = within.deques in let a = (stands.knows).most in let b = size in omega (arith, a, b, x),
  )

-- so it is followed, or leads nowhere
module _ (s : Setting) (limits : Limits) (run : List Pair) (m : Moment) (c d : Checker) (stands : StandsFor s limits run m c) (told : TrailEvent) (it : Came s limits run m told true d) where
  pub followed : (d.tally.live ≤ℤ pos d.arena) × (d.tally.actions ≤ d.steps) × (length d.deques.deques ≤ d.most) → Followed s limits run m told true d
  followed fits = (
    it.0,
    it.1,
    record { tells = it.2; may = it.3; within = is_within s limits (run ++ pair_of told.worker it.0 ∷ []) it.1 d it.4 fits.0 fits.1 fits.2 },
    it.4,
  )

  pub not_followed : ¬ ((d.tally.live ≤ℤ pos d.arena) × (d.tally.actions ≤ d.steps) × (length d.deques.deques ≤ d.most)) → LeadsNowhere s limits m told
  not_followed over = over_limits s limits run m c stands told it.0 it.1 it.2 it.3
      (λ within. over (within_is s limits (run ++ pair_of told.worker it.0 ∷ []) it.1 d it.4 within))

  pub by_limits : (answer : Bool) → (answer ≡ true) ↔ ((d.tally.live ≤ℤ pos d.arena) × (d.tally.actions ≤ d.steps) × (length d.deques.deques ≤ d.most)) → Followed s limits run m told answer d
  by_limits true fits = followed (fits.0 refl)
  by_limits false fits = not_followed (λ within. true≢false (sym (fits.1 within)))
