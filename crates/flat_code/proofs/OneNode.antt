-- What is made of a node is what is made of what it does.
use Rattle.std.proofs.Common.{◌≡◌, ℕ, zero, suc, ◌-◌, List, [], ◌∷◌, Option, Some, None, refl, sym, ap, ◌∙◌, arith}
use Rattle.std.specs.Prelude.{slice_get}
use Rattle.node_table.specs.Table.{Kind, Table}
use Rattle.node_table.specs.Shown.{kind_shown, nodes_shown}
use Rattle.node_table.specs.declared.node.Node.{Node}
use Rattle.thread_stack.specs.declared.frame.Frame.{Frame}
use Rattle.thread_stack.specs.Lists.{kind_of_node, kind_at}
use Rattle.flat_code.specs.Fits.{FitsNode}
use Rattle.flat_code.specs.Made.{kind_made, node_made}

pub made_by_kind : (t : Table) (k size depth place n : ℕ) (here xs : List Frame) (kind : Kind) → FitsNode t k size depth n → kind_at t n ≡ Some kind
    → kind_made k (node_made t k (depth - 1)) n here xs place (Some kind) ≡ node_made t k depth place n here xs
made_by_kind t k size zero place n here xs kind fits there = absurd fits
made_by_kind t k size (suc depth) place n here xs kind fits there =
    let less : suc depth - 1 ≡ depth = omega arith in
    ap (λ d. kind_made k (node_made t k d) n here xs place (Some kind)) less ∙ ap (λ o. kind_made k (node_made t k depth) n here xs place o) (sym there)

abbrev kind_in : Option Node → Option Kind
kind_in None = None
kind_in (Some x) = Some (kind_shown x.kind)

kind_found : (nodes : List Node) (n : ℕ) → kind_of_node (slice_get (nodes_shown nodes) n) ≡ kind_in (slice_get nodes n)
kind_found [] zero = refl
kind_found [] (suc n) = refl
kind_found (x ∷ nodes) zero = refl
kind_found (x ∷ nodes) (suc n) = kind_found nodes n

-- what the node of a number does, by the node that is found
pub kind_there : (nodes : List Node) (n : ℕ) (x : Node) → slice_get nodes n ≡ Some x → kind_of_node (slice_get (nodes_shown nodes) n) ≡ Some (kind_shown x.kind)
kind_there nodes n x found = kind_found nodes n ∙ ap kind_in found
