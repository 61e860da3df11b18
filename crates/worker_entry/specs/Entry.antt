-- The key of the hall of a core.
use Rattle.std.specs.Prelude.{◌≡◌}
use Rattle.dfd_core.specs.Cores.{terms_at}
use Rattle.dfd_core.specs.declared.run.Core.{Core}
use Rattle.hall_slots.specs.Keys.{terms_of}
use Rattle.hall_slots.specs.declared.key.HallKey.{HallKey}

-- it has the program, the quota and the terms of the core
pub record IsKeyOf (core : Core) (key : HallKey) : Type 0 where
  pub code : key.code.value ≡ core.code
  pub quota : key.quota ≡ core.k
  pub terms : terms_of key ≡ terms_at core
