-- What a stream gives or takes in two parts, it gives or takes in one.
use Rattle.std.proofs.Common.{◌≡◌, ℕ, ◌≤◌, List, ◌++◌, length, take, drop, Option, Some, None, ◌⊎◌, inl, inr, append_assoc, append-nil, ap, sym, ◌∙◌}
use Rattle.std.proofs.lemmas.List.{take_at, drop_at, take_all, drop_all}
use Rattle.byte_streams.specs.Source.{Gives, IsSpent, IsRead}
use Rattle.byte_streams.specs.Sink.{Takes}

pub gives_both :
    (before between after : Option (List ℕ)) (xs ys : List ℕ) → Gives before between xs → Gives between after ys →
    Gives before after (xs ++ ys)
gives_both None between after xs ys g h = tt
gives_both (Some before) None after xs ys g h = absurd g
gives_both (Some before) (Some between) None xs ys g h = absurd h
gives_both (Some before) (Some between) (Some after) xs ys g h = g ∙ ap (λ bytes. xs ++ bytes) h ∙ sym (append_assoc xs ys after)

pub takes_both :
    (before between after : Option (List ℕ)) (xs ys : List ℕ) → Takes before between xs → Takes between after ys →
    Takes before after (xs ++ ys)
takes_both before between None xs ys g h = tt
takes_both before None (Some after) xs ys g h = absurd h
takes_both None (Some between) (Some after) xs ys g h = absurd g
takes_both (Some before) (Some between) (Some after) xs ys g h = h ∙ ap (λ bytes. bytes ++ ys) g ∙ append_assoc before xs ys

-- the reading of a source ends where nothing is left, or at the most bytes that are read
pub read_whole :
    (most : ℕ) (before after : Option (List ℕ)) (bytes : List ℕ) → Gives before after bytes → length bytes ≤ most →
    (length bytes ≡ most) ⊎ IsSpent after → IsRead most before after bytes
read_whole most None after bytes gives short ends = tt
read_whole most (Some before) None bytes gives short ends = absurd gives
read_whole most (Some before) (Some after) bytes gives short (inl full) = (
  sym (ap (λ (l : List ℕ). take most l) gives ∙ take_at bytes after most full),
  sym (ap (λ (l : List ℕ). drop most l) gives ∙ drop_at bytes after most full),
)
read_whole most (Some before) (Some after) bytes gives short (inr spent) =
    let e : before ≡ bytes = gives ∙ ap (λ (l : List ℕ). bytes ++ l) spent ∙ append-nil bytes in (
      sym (ap (λ (l : List ℕ). take most l) e ∙ take_all most bytes short),
      spent ∙ sym (ap (λ (l : List ℕ). drop most l) e ∙ drop_all most bytes short),
    )
