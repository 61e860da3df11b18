-- What contracts see of a lane.
use Rattle.std.specs.Prelude.{ℕ, List, refl}
use Rattle.std.specs.Coded.{Coded, code_by, coded×, coded_ℕ, coded_list}

-- the items from top to bottom, and how many more it takes without memory
pub record LaneView (T : Type 0) : Type 0 where
  pub items : List T
  pub spare : ℕ

-- a lane is stored as the pair of its parts
abbrev pub lane_code : {T : Type 0} → Coded T → Coded (LaneView T)
lane_code {T} code =
    code_by (List T × ℕ) (coded× (coded_list code) coded_ℕ) (λ lane. (lane.items, lane.spare)) (λ p. record { items = p.0; spare = p.1 })
    (λ _. refl)
