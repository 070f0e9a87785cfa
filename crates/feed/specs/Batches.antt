-- What a batch means: its data, and its counts.
use Rattle.std.specs.Prelude.{ℕ, cond, ◌&&◌, Some, None, Option, ◌==◌, nat_le}
use Rattle.sources.specs.Counts.{Counts}
use Rattle.feed.specs.BatchRules.{bounded}
use Rattle.feed.specs.declared.batch.Batch.{Batch}

-- the units, and the age at which all of them failed
pub record PlainBatch : Type 0 where
  pub units : ℕ
  pub age : ℕ

abbrev pub plain_batch : Batch → PlainBatch
plain_batch b = record { units = b.units; age = b.age.0 }

-- what is made of so many units and an age: none outside of the bounds
abbrev pub batch_made : ℕ → ℕ → Option PlainBatch
batch_made units age = cond (bounded units age) (Some (record { units = units; age = age })) None

-- all units, in each tick from 1 to the age
unfoldable pub batch_watched : PlainBatch → ℕ → ℕ
batch_watched b t = cond (nat_le 1 t && nat_le t b.age) b.units 0

-- all units, at the age
unfoldable pub batch_failed : PlainBatch → ℕ → ℕ
batch_failed b t = cond (t == b.age) b.units 0

-- what a batch means as a source
abbrev pub batch_counts : PlainBatch → Counts
batch_counts b = record { watched = batch_watched b; failed = batch_failed b }
