-- Which items a choice has in use.
use Rattle.std.specs.Prelude.{ℕ, ◌≡◌, ◌<◌, ◌⊎◌}
use Rattle.mc_search.specs.ItemSets.{IsItemSet, bit_in}
use Rattle.mc_search.specs.Notes.{AreNotes}
use Rattle.mc_search.specs.declared.choice.Choice.{Choice}

-- the item is in use: it is new or proven
abbrev pub IsInUse : Choice → ℕ → Type 0
IsInUse c i = (bit_in c.fresh i ≡ 1) ⊎ (bit_in c.proven i ≡ 1)

-- no item is both, and both hands are at an item
pub record IsChoice (c : Choice) : Type 0 where
  pub fresh : IsItemSet c.fresh
  pub proven : IsItemSet c.proven
  pub fresh_items : c.fresh.items ≡ c.items
  pub proven_items : c.proven.items ≡ c.items
  pub apart : (i : ℕ) → bit_in c.fresh i ≡ 1 → bit_in c.proven i ≡ 1 → ⊥
  pub fresh_hand : c.fresh_hand < c.items
  pub proven_hand : c.proven_hand < c.items
  pub notes : AreNotes c.notes
  pub some : 0 < c.items
