-- A seat in the middle of its tries.
use Rattle.std.proofs.Common.{◌≡◌, ℕ, suc, ◌+◌, ◌<◌, List, [], ◌∷◌, ◌++◌, length, inl, inr, refl, sym, ap, ◌∙◌, subst, arith, append-nil}
use Rattle.std.proofs.lemmas.List.{append_assoc, length-append}
use Rattle.std.specs.Prelude.{None, Some}
use Rattle.play_rules.specs.declared.stop.Stop.{Stop}
use Rattle.worker_entry.specs.declared.hall.Hall.{Hall}
use Rattle.worker_entry.specs.declared.refused.EventRefused.{EventRefused}
use Rattle.worker_entry.specs.declared.seat.Seat.{Seat}
use Rattle.hall_slots.specs.declared.event.Event.{Event}
use Rattle.hall_threads.specs.declared.answer.Answer.{Answer}
use Rattle.hall_threads.specs.declared.answer.Answer.TheVariants as answers
use Rattle.hall_threads.specs.Spending.{Adds, AreLater, CountsTries, EndsAt, MakesTries, TriesWell}
use Rattle.hall_threads.specs.Trying.{Tries, draws}
use Rattle.hall_threads.proofs.TriesTold.{mine, one_more_of, did_adds, did_without_stop, found_adds_nothing, found_says_so, refused_adds_nothing}

-- It has made so many tries and done so many events. The words that come are those of its beginning, without those that it drew.
pub record IsUnderWay (hall : Hall) (words later : ℕ → ℕ) (made done : ℕ) (before now : Seat) : Type 0 where
  pub drawn : ℕ
  pub makes : MakesTries hall words made drawn before now
  pub are_later : AreLater drawn words later
  pub adds : Adds done before now
  pub counts : CountsTries made done before now

pub begins : (hall : Hall) (words : ℕ → ℕ) (before : Seat) → IsUnderWay hall words words 0 0 before before
begins hall words before = record {
  drawn = 0;
  makes = (refl, refl);
  are_later = λ i. ap words (sym (and_none i));
  adds = ([], refl, sym (append-nil (mine before)));
  counts = inl (refl, refl);
}
  where
    and_none : (i : ℕ) → i + 0 ≡ i
    and_none i = omega arith

-- two rests of the same words
then_later : (words later last : ℕ → ℕ) (drawn more : ℕ) → AreLater drawn words later → AreLater more later last → AreLater (drawn + more) words last
then_later words later last drawn more first second i = second i ∙ first (i + more) ∙ ap words (in_all i more drawn)
  where
    in_all : (i m d : ℕ) → (i + m) + d ≡ i + (d + m)
    in_all i m d = omega arith

-- the next word is the one after those that were drawn
next_word : (words later : ℕ → ℕ) (drawn : ℕ) → AreLater drawn words later → later 0 ≡ words drawn
next_word words later drawn first = first 0 ∙ ap words (of_all drawn)
  where
    of_all : (d : ℕ) → 0 + d ≡ d
    of_all d = omega arith

-- events that were added in two parts
adds_then : (done more : ℕ) (before middle after : Seat) (events : List Event) → length events ≡ more → Adds done before middle → mine after ≡ mine middle ++ events → Adds (done + more) before after
adds_then done more before middle after events many adds noted = (
  adds.0 ++ events,
  length-append adds.0 events ∙ ap (λ n. n + length events) adds.1 ∙ ap (λ n. done + n) many,
  noted ∙ ap (λ (xs : List Event). xs ++ events) adds.2 ∙ append_assoc (mine before) adds.0 events,
)

adds_nothing : (done : ℕ) (before middle after : Seat) → Adds done before middle → mine after ≡ mine middle → Adds done before after
adds_nothing done before middle after adds same = (adds.0, adds.1, same ∙ adds.2)

-- a seat that has found a stop and goes on does no event, so each try but the last did one
had_no_stop : (made done : ℕ) (before now : Seat) → CountsTries made done before now → now.stop ≡ None → (done ≡ made) × (before.stop ≡ None)
had_no_stop made done before now (inl all) none = (all.0, sym all.1 ∙ none)
had_no_stop made done before now (inr last) none = absurd (some_none last.2.0 (sym last.2.1 ∙ none))
  where
    some_none : (stop : Stop) → Some stop ≡ None → ⊥
    some_none stop e = cc

module _ (hall : Hall) (words later last : ℕ → ℕ) (made done : ℕ) (before now after : Seat) (way : IsUnderWay hall words later made done before now) (rest : AreLater (draws now) later last) where
  one_try_more : TriesWell hall (later 0) now after → MakesTries hall words (made + 1) (IsUnderWay.drawn way + draws now) before after
  one_try_more well = subst (λ n. MakesTries hall words n (IsUnderWay.drawn way + draws now) before after) (sym (and_one made)) (
    IsUnderWay.drawn way,
    now,
    IsUnderWay.makes way,
    subst (λ w. TriesWell hall w now after) (next_word words later (IsUnderWay.drawn way) (IsUnderWay.are_later way)) well,
    refl,
  )
    where
      and_one : (n : ℕ) → n + 1 ≡ suc n
      and_one n = omega arith

  pub did_one : (event : Event) → Tries hall (later 0) now after (answers.Did event) → IsUnderWay hall words last (made + 1) (done + 1) before after
  did_one event tries = let was = had_no_stop made done before now (IsUnderWay.counts way) tries.0 in record {
    drawn = IsUnderWay.drawn way + draws now;
    makes = one_try_more (inl (event, tries));
    are_later = then_later words later last (IsUnderWay.drawn way) (draws now) (IsUnderWay.are_later way) rest;
    adds = adds_then done 1 before now after (event ∷ []) refl (IsUnderWay.adds way) (did_adds hall (later 0) now after event tries);
    counts = inl (ap (λ n. n + 1) was.0, did_without_stop hall (later 0) now after event tries ∙ sym was.1);
  }

  pub found_one : (stop : Stop) → Tries hall (later 0) now after (answers.Found stop) → IsUnderWay hall words last (made + 1) done before after
  found_one stop tries = let was = had_no_stop made done before now (IsUnderWay.counts way) tries.0 in record {
    drawn = IsUnderWay.drawn way + draws now;
    makes = one_try_more (inr (stop, tries));
    are_later = then_later words later last (IsUnderWay.drawn way) (draws now) (IsUnderWay.are_later way) rest;
    adds = adds_nothing done before now after (IsUnderWay.adds way) (found_adds_nothing hall (later 0) now after stop tries);
    counts = inr (ap (λ n. n + 1) was.0, was.1, (stop, found_says_so hall (later 0) now after stop tries));
  }

  pub ends_at : (tries : ℕ) (answer : Answer) → made < tries → Tries hall (later 0) now after answer → EndsAt hall tries words last before after answer
  ends_at tries answer few made_it = record {
    made = made;
    few = few;
    drawn = IsUnderWay.drawn way;
    middle = now;
    makes = IsUnderWay.makes way;
    ends = subst (λ w. Tries hall w now after answer) (next_word words later (IsUnderWay.drawn way) (IsUnderWay.are_later way)) made_it;
    are_later = then_later words later last (IsUnderWay.drawn way) (draws now) (IsUnderWay.are_later way) rest;
  }

  pub adds_still : (why : EventRefused) → Tries hall (later 0) now after (answers.Refused why) → Adds done before after
  adds_still why tries = adds_nothing done before now after (IsUnderWay.adds way) (refused_adds_nothing hall (later 0) now after why tries)

-- so many events are at most so many tries
pub done_few : (hall : Hall) (words later : ℕ → ℕ) (made done : ℕ) (before now : Seat) → IsUnderWay hall words later made done before now → done < made + 1
done_few hall words later made done before now way = elim (IsUnderWay.counts way) [
  | inl all ↦ let same = all.0 in omega (arith, same)
  | inr last ↦ let same = last.0 in omega (arith, same)
]
