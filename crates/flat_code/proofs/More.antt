-- A longer row has the slots of a shorter one.
use Rattle.std.proofs.Common.{ℕ, zero, suc, ◌<◌, ◌≤◌, List, [], ◌∷◌, length, Option, Some, None, arith}
use Rattle.node_table.specs.Table.{Expr, num, var, get, len_of, neg, chain, cmp, Links, last, link}
use Rattle.node_table.specs.Table.{Kind, let_node, assign_node, put_node, alloc_node, free_node, if_node, while_node, call_node, print_node}
use Rattle.node_table.specs.Table.{both_node, split_node, Table}
use Rattle.thread_stack.specs.declared.list_of.ListOf.{ListOf}
use Rattle.thread_stack.specs.Lists.{kind_at, numbers_from}
use Rattle.flat_expressions.specs.Codes.{HasRoom, HaveRoom}
use Rattle.flat_code.specs.Fits.{AllFit, FitsKind, FitsNode, CanBeFlat}

below_more : (k size most : ℕ) → size ≤ most → k < size → k < most
below_more k size most less low = omega (arith, less, low)

mutual
  pub room_more : (e : Expr) (k size most : ℕ) → size ≤ most → HasRoom size e k → HasRoom most e k
  room_more (num n) k size most less h = tt
  room_more (var s) k size most less h = tt
  room_more (get s i) k size most less h = (below_more k size most less h.0, room_more i k size most less h.1)
  room_more (len_of s) k size most less h = tt
  room_more (neg e) k size most less h = (below_more k size most less h.0, room_more e k size most less h.1)
  room_more (chain e ls) k size most less h =
      (below_more k size most less h.0, room_more e k size most less h.1, links_room_more ls k size most less h.2)
  room_more (cmp op l r) k size most less h =
      (below_more (suc k) size most less h.0, room_more l k size most less h.1, room_more r (suc k) size most less h.2)

  links_room_more : (ls : Links) (k size most : ℕ) → size ≤ most → HaveRoom size ls k → HaveRoom most ls k
  links_room_more last k size most less h = tt
  links_room_more (link op e ls) k size most less h =
      (below_more (suc k) size most less h.0, room_more e (suc k) size most less h.1, links_room_more ls k size most less h.2)

-- so it serves the statements that the shorter one serves
module _ (t : Table) (k size most : ℕ) (less : size ≤ most) where
  module _ (F G : ℕ → Type 0) (more : (n : ℕ) → F n → G n) where
    all_more : (ns : List ℕ) → AllFit F ns → AllFit G ns
    all_more [] h = tt
    all_more (n ∷ ns) h = (more n h.0, all_more ns h.1)

    kind_more : (kind : Option Kind) → FitsKind k size F kind → FitsKind k most G kind
    kind_more None h = absurd h
    kind_more (Some (let_node s e)) h = (h.0, h.1, room_more e k size most less h.2)
    kind_more (Some (assign_node s e)) h = (h.0, h.1, room_more e k size most less h.2)
    kind_more (Some (put_node b i e)) h =
        (below_more (suc k) size most less h.0, h.1, h.2, room_more i k size most less h.3, h.4, room_more e (suc k) size most less h.5)
    kind_more (Some (alloc_node s e)) h = tt
    kind_more (Some (free_node s)) h = tt
    kind_more (Some (if_node e a b)) h =
        ((below_more k size most less h.0.0, h.0.1, room_more e k size most less h.0.2), all_more a h.1, all_more b h.2)
    kind_more (Some (while_node e a)) h = ((below_more k size most less h.0.0, h.0.1, room_more e k size most less h.0.2), all_more a h.1)
    kind_more (Some (call_node to func from)) h = tt
    kind_more (Some (print_node e)) h = tt
    kind_more (Some (both_node a b blocks assigned)) h = tt
    kind_more (Some (split_node s e l r a)) h = tt

  node_more : (depth n : ℕ) → FitsNode t k size depth n → FitsNode t k most depth n
  node_more zero n h = absurd h
  node_more (suc depth) n h = kind_more (FitsNode t k size depth) (FitsNode t k most depth) (node_more depth) (kind_at t n) h

pub longer_rows : (t : Table) (k size most : ℕ) (list : ListOf) → size ≤ most → CanBeFlat t k size list → CanBeFlat t k most list
longer_rows t k size most list less h =
    let long = h.0 in (
      omega (arith, less, long),
      all_more t k size most less (FitsNode t k size (length t.nodes)) (FitsNode t k most (length t.nodes)) (node_more t k size most less (length t.nodes))
          (numbers_from t list 0) h.1,
    )
