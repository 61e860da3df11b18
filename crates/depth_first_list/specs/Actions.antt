-- Actions of a run, the words that they take and give back, and the peak of a list of them.
use Rattle.std.specs.Prelude.{ℕ, List, map, ℤ, pos, neg_ℤ}
use Rattle.language_limits.specs.declared.TheConstants.{RECORD_WORDS}
use Rattle.dag_order.specs.Changes.{total, high_water}
use Rattle.dag_order.specs.declared.kind.Kind.{Kind}
use Rattle.dag_order.specs.declared.kind.Kind.TheVariants.{Fork, Join, Alloc, Release, Dummy, End, Fault}

-- what an action does; a Fork and a Join say which child of the thread, by its ordinal from 1
pub data Deed : Type 0 where
  forks : ℕ → Deed
  joins : ℕ → Deed
  allocates : Deed
  releases : Deed
  dummy : Deed
  faults : Deed
  ends : Deed

-- One action: the label of its thread, its index in the thread, from 0, what it does, and its words. These
-- are the words of the block of an Alloc or a Release, the words that the thread gives back at a Fault, or
-- at a Join that meets a fault, those of the record block that a Fork takes and the End of a forked thread gives
-- back, and else 0.
pub record Action : Type 0 where
  pub label : List ℕ
  pub index : ℕ
  pub deed : Deed
  pub words : ℕ

-- the words of the record block that a forked thread holds from its Fork to its End
abbrev pub record_words : ℕ
record_words = RECORD_WORDS

-- the kind of what is done
abbrev pub kind_of : Deed → Kind
kind_of (forks child) = Fork
kind_of (joins child) = Join
kind_of allocates = Alloc
kind_of releases = Release
kind_of dummy = Dummy
kind_of faults = Fault
kind_of ends = End

abbrev pub action_kind : Action → Kind
action_kind action = kind_of action.deed

-- by how much the words in use rise
abbrev pub weight_of : Deed → ℕ → ℤ
weight_of (forks child) words = pos words
weight_of (joins child) words = neg_ℤ (pos words)
weight_of allocates words = pos words
weight_of releases words = neg_ℤ (pos words)
weight_of dummy words = pos 0
weight_of faults words = neg_ℤ (pos words)
weight_of ends words = neg_ℤ (pos words)

abbrev pub weight : Action → ℤ
weight action = weight_of action.deed action.words

-- the words in use after all of these actions
abbrev pub live_words : List Action → ℤ
live_words actions = total (map weight actions)

-- the most words that are in use at any time
abbrev pub peak : List Action → ℤ
peak actions = high_water (map weight actions)
