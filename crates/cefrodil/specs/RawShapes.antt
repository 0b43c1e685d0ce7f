-- The shape that C writes, as the cache reads it.
use Rattle.std.specs.Prelude.{ℕ, ◌≡◌, ◌⊎◌, List, min}
use Rattle.mc_words.specs.declared.mix.Mix.{Mix}
use Rattle.mc_words.specs.declared.mix.Mix.TheVariants.{Plain, Fmix}
use Rattle.mc_words.specs.declared.policy.Policy.{Policy}
use Rattle.mc_words.specs.declared.policy.Policy.TheVariants.{Clock, ScanResistant}
use Rattle.mc_words.specs.declared.shape.Shape.{Shape}
use Rattle.mc_shared.specs.Records.{Opening}
use Rattle.mc_shards.specs.Openings.{GoBy}
use Rattle.cefrodil.specs.declared.shape.RawShape.{RawShape}
use Rattle.cefrodil.specs.declared.shape.TheConstants.{CLOCK, FMIX, PLAIN, SCAN_RESISTANT}

abbrev pub HasMix : RawShape → Type 0
HasMix raw = (raw.mix ≡ FMIX) ⊎ (raw.mix ≡ PLAIN)

abbrev pub number_of : Mix → ℕ
number_of Fmix = FMIX
number_of Plain = PLAIN

abbrev pub HasPolicy : RawShape → Type 0
HasPolicy raw = (raw.policy ≡ SCAN_RESISTANT) ⊎ (raw.policy ≡ CLOCK)

abbrev pub IsPolicyOf : RawShape → Policy → Type 0
IsPolicyOf raw ScanResistant = raw.policy ≡ SCAN_RESISTANT
IsPolicyOf raw Clock = raw.policy ≡ CLOCK

-- each of the tables goes by the policy that C names
abbrev pub GoAsAsked : RawShape → List Opening → Type 0
GoAsAsked raw tables = (policy : Policy) × IsPolicyOf raw policy × GoBy policy tables

-- a depth or a number of tries that is out of range stays out of range
pub record IsShapeOf (raw : RawShape) (sh : Shape) : Type 0 where
  pub limit : sh.limit ≡ raw.limit
  pub buckets : sh.buckets ≡ raw.buckets
  pub items : sh.items ≡ raw.items
  pub stripes : sh.stripes ≡ raw.stripes
  pub depth : sh.depth ≡ min raw.depth 255
  pub tries : sh.tries ≡ min raw.tries 255
  pub mix : raw.mix ≡ number_of sh.mix
