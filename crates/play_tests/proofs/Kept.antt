-- What a depth-first run is of stays while a core goes on.
use Rattle.std.proofs.Common.{sym, subst}
use Rattle.std.proofs.Math.Logic.{∥∥₁_map}
use Rattle.depth_first_list.specs.QuotaWords.{quota_words}
use Rattle.node_table.specs.Codes.{code_shown}
use Rattle.serial_journal.specs.declared.serial.Serial.{Serial}
use Rattle.thread_state.specs.Settings.{IsSettingOf}
use Rattle.dfd_core.specs.declared.run.Core.{Core}
use Rattle.dfd_core.specs.Cores.{SameSetting}
use Rattle.async_core.specs.declared.run.AsyncCore.{AsyncCore}
use Rattle.async_core.specs.Cores.{SameSetting as SameListSetting}
use Rattle.prefix_laws.specs.Prefixes.{IsSerialOf, IsSerialOfList}

pub serial_stays : (before after : Core) (serial : Serial) → SameSetting before after → IsSerialOf before serial → IsSerialOf after serial
serial_stays before after serial same is = ∥∥₁_map is (λ p. (
  p.0,
  subst (λ code. IsSettingOf (code_shown code) (quota_words after.k) p.0) (sym same.0)
      (subst (λ k. IsSettingOf (code_shown before.code) (quota_words k) p.0) (sym same.1) p.1),
  p.2,
))

pub listed_stays : (before after : AsyncCore) (serial : Serial) → SameListSetting before after → IsSerialOfList before serial → IsSerialOfList after serial
listed_stays before after serial same is = ∥∥₁_map is (λ p. (
  p.0,
  subst (λ code. IsSettingOf (code_shown code) (quota_words after.k) p.0) (sym same.0)
      (subst (λ k. IsSettingOf (code_shown before.code) (quota_words k) p.0) (sym same.1) p.1),
  p.2,
))
