-- What is done, by its kind.
use Rattle.std.proofs.Common.{◌≡◌, ℕ, refl, sym, subst}
use Rattle.dag_order.specs.declared.kind.Kind.{Kind}
use Rattle.dag_order.specs.declared.kind.Kind.TheVariants.{Fork, Join, Alloc, Release, Dummy, End, Fault}
use Rattle.depth_first_list.specs.Actions.{Deed, forks, joins, allocates, releases, dummy, faults, ends, kind_of}

IsKind : Kind → Kind → Type 0
IsKind Fork Fork = Unit {0}
IsKind Join Join = Unit {0}
IsKind Dummy Dummy = Unit {0}
IsKind End End = Unit {0}
IsKind a b = ⊥

fork_only : (k : Kind) → k ≡ Fork → IsKind Fork k
unfolding IsKind
fork_only k is = subst (IsKind Fork) (sym is) tt

join_only : (k : Kind) → k ≡ Join → IsKind Join k
unfolding IsKind
join_only k is = subst (IsKind Join) (sym is) tt

dummy_only : (k : Kind) → k ≡ Dummy → IsKind Dummy k
unfolding IsKind
dummy_only k is = subst (IsKind Dummy) (sym is) tt

end_only : (k : Kind) → k ≡ End → IsKind End k
unfolding IsKind
end_only k is = subst (IsKind End) (sym is) tt

pub fork_deed : (d : Deed) → kind_of d ≡ Fork → (child : ℕ) × (d ≡ forks child)
unfolding IsKind
fork_deed (forks child) is = (child, refl)
fork_deed (joins child) is = absurd (fork_only Join is)
fork_deed allocates is = absurd (fork_only Alloc is)
fork_deed releases is = absurd (fork_only Release is)
fork_deed dummy is = absurd (fork_only Dummy is)
fork_deed faults is = absurd (fork_only Fault is)
fork_deed ends is = absurd (fork_only End is)

pub join_deed : (d : Deed) → kind_of d ≡ Join → (child : ℕ) × (d ≡ joins child)
unfolding IsKind
join_deed (forks child) is = absurd (join_only Fork is)
join_deed (joins child) is = (child, refl)
join_deed allocates is = absurd (join_only Alloc is)
join_deed releases is = absurd (join_only Release is)
join_deed dummy is = absurd (join_only Dummy is)
join_deed faults is = absurd (join_only Fault is)
join_deed ends is = absurd (join_only End is)

pub dummy_deed : (d : Deed) → kind_of d ≡ Dummy → d ≡ dummy
unfolding IsKind
dummy_deed (forks child) is = absurd (dummy_only Fork is)
dummy_deed (joins child) is = absurd (dummy_only Join is)
dummy_deed allocates is = absurd (dummy_only Alloc is)
dummy_deed releases is = absurd (dummy_only Release is)
dummy_deed dummy is = refl
dummy_deed faults is = absurd (dummy_only Fault is)
dummy_deed ends is = absurd (dummy_only End is)

pub end_deed : (d : Deed) → kind_of d ≡ End → d ≡ ends
unfolding IsKind
end_deed (forks child) is = absurd (end_only Fork is)
end_deed (joins child) is = absurd (end_only Join is)
end_deed allocates is = absurd (end_only Alloc is)
end_deed releases is = absurd (end_only Release is)
end_deed dummy is = absurd (end_only Dummy is)
end_deed faults is = absurd (end_only Fault is)
end_deed ends is = refl
